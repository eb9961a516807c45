-- What the metalog has: the number of shards, and the vectors, the newest first. Each has a count for each shard.
use Rattle.std.specs.Prelude.{◌≡◌, ℕ, suc, cond, List, ◌∷◌, length, sum, Option, option_map}
use Rattle.lb_base.specs.declared.value.Record.{Record}
use Rattle.boki_types.specs.declared.log.Cut.{Cut}
use Rattle.boki_types.specs.declared.log.Cut.TheVariants as c
use Rattle.boki_model.specs.Order.{last_vector, at_seq}
use Rattle.boki_model.specs.OrderLaws.{ShardsHave}
use Rattle.boki_model.specs.Entries.{same_counts}

pub record MetalogState : Type 0 where
  pub shards : ℕ
  pub vectors : List (List ℕ)

-- the shards are those of the metalog: as many, and with the records that the last vector counts
pub record AreOrdered (shards : List (List Record)) (m : MetalogState) : Type 0 where
  pub as_many : length shards ≡ m.shards
  pub have : ShardsHave shards (last_vector m.vectors)

-- a cut is the same where the progress is the last vector, or zeros before the first; else it makes the next entry
abbrev pub cut_of : List ℕ → MetalogState → Cut
cut_of progress m = cond (same_counts progress (last_vector m.vectors)) c.Same (c.Entry (suc (length m.vectors)))

abbrev pub after_cut : List ℕ → MetalogState → MetalogState
after_cut progress m = cond (same_counts progress (last_vector m.vectors)) m (record m { vectors = progress ∷ m.vectors })

-- the seqnum of an entry's last record
abbrev pub end_at : ℕ → MetalogState → Option ℕ
end_at entry m = option_map sum (at_seq entry m.vectors)
