-- What is kept of live records: the folds of a report.
use Rattle.std.specs.Prelude.{ℕ, List, [], ◌∷◌, Option, Some, None}
use Rattle.lb_base.specs.declared.value.Value.{Value}
use Rattle.lb_base.specs.declared.value.Outcome.{Outcome}
use Rattle.boki_types.specs.declared.body.Body.{Body}
use Rattle.boki_types.specs.declared.body.Body.TheVariants as b
use Rattle.boki_model.specs.Live.{Live}
use Rattle.boki_model.specs.Maps.{put}
use Rattle.boki_model.specs.Folds.{queues, apply_to_queues, commits}
use Rattle.boki_machine.specs.Reports.{results, add_result}
use Rattle.boki_machine.specs.Step.{seqnum}
use Rattle.boki_txn.specs.Names.{StoredNames, names_behind, changed_by}
use Rattle.hm_read.specs.declared.last.LastWrite.{LastWrite}
use Rattle.cluster_report.specs.declared.folds.Folds.{Folds}

-- for each known key its last logged write, where it has one
abbrev pub LastWrites : Type 0
LastWrites = List (List ℕ × Option LastWrite)

pub record Maps : Type 0 where
  pub results : List (List ℕ × Outcome)
  pub writes : LastWrites
  pub queues : List (List ℕ × List Value)
  pub names : StoredNames

abbrev pub maps_of : Folds → Maps
maps_of f = record {
  results = f.results.entries;
  writes = f.writes.entries;
  queues = f.queues.entries;
  names = f.names;
}

-- keys become known, without a write
abbrev pub with_keys : List (List ℕ) → LastWrites → LastWrites
with_keys [] writes = writes
with_keys (k ∷ ks) writes = with_keys ks (put k None writes)

abbrev pub with_write : ℕ → Body → LastWrites → LastWrites
with_write seq (b.Write p i place key here) writes =
    put key (Some (record { seq = seqnum seq; name = record { path = p; place = place }; here = here })) writes
with_write seq _ writes = writes

-- the last logged writes among live records, the newest of which is the first; some keys are known from the start
abbrev pub writes_in : List (List ℕ) → List (Live Body) → LastWrites
writes_in keys [] = with_keys keys []
writes_in keys (x ∷ xs) = with_write x.seq x.holds (writes_in keys xs)

-- the folds of live records, and those with one record more, which says this
abbrev pub folded : List (List ℕ) → List (Live Body) → Maps
folded keys records = record {
  results = results records;
  writes = writes_in keys records;
  queues = queues records;
  names = names_behind (commits records);
}

abbrev pub added : ℕ → Body → Maps → Maps
added seq body m = record {
  results = add_result body m.results;
  writes = with_write seq body m.writes;
  queues = apply_to_queues body m.queues;
  names = changed_by seq body m.names;
}

abbrev pub added_some : ℕ → Option Body → Maps → Maps
added_some seq None m = m
added_some seq (Some body) m = added seq body m
