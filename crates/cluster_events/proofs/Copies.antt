-- Events of the shards, the metalog and the positions.
use Rattle.std.proofs.Common.{◌≡◌, ◌∙◌, ℕ, zero, suc, ◌+◌, ◌-◌, min, true, List, [], ◌∷◌, length, refl, sym, ap, length-set}
use Rattle.std.specs.Prelude.{slice_index, slice_index_or, slice_set}
use Rattle.std.specs.List.{AllByRecursion}
use Rattle.std.proofs.Math.Nat.{le_refl}
use Rattle.boki_types.specs.declared.event.Event.TheVariants as event
use Rattle.boki_types.specs.declared.line.Line.TheVariants as line
use Rattle.boki_types.specs.declared.plan.Setup.{Setup}
use Rattle.boki_types.specs.declared.program.Function.{Function}
use Rattle.boki_model.specs.Plans.{is_event}
use Rattle.boki_machine.specs.Machine as machine
use Rattle.boki_machine.specs.Machine.{Machine, NumberedAttempt, log, cut_line, catch_up_all, apply_event}
use Rattle.book_api.specs.Books as book
use Rattle.book_api.specs.Books.{BookState, ordered, position, after_copy, after_cut, cut_of, caught_up, all_caught_up}
use Rattle.flow_parts.specs.declared.parts.Parts.{Parts}
use Rattle.cluster_events.specs.Machines.{PartsAreOf, IsEventDone}
use Rattle.cluster_events.proofs.Machines.{machine_of, on_machine, records_are}
use Rattle.cluster_events.proofs.Done.{positions_within, book_done}

-- The replicas of a shard that copies are as many.
replicas_set : (n k j v : ℕ) (all : List (List ℕ)) → AllByRecursion (λ c. length c ≡ n) all → AllByRecursion (λ c. length c ≡ n) (slice_set all k (slice_set (slice_index_or all k []) j v))
replicas_set n k j v [] are = tt
replicas_set n zero j v (c ∷ cs) are = (length-set c j v ∙ are.0, are.1)
replicas_set n (suc k) j v (c ∷ cs) are = (are.0, replicas_set n k j v cs are.1)

module _ (setup : Setup) (fs : List Function) (m : Machine) (old : Parts) (are : PartsAreOf setup fs m old) where
  -- A copy.
  module _ (shard replica n : ℕ) (valid : is_event setup fs (event.Copy shard replica n) ≡ true) where
    copied : (are : PartsAreOf setup fs (machine_of old.book m.store m.attempts) old) → IsEventDone setup fs (event.Copy shard replica n) (machine_of old.book m.store m.attempts) (record old { book = after_copy shard replica n old.book }) (line.Copied (book.copied_count shard replica n old.book))
    copied are =
        let m = machine_of old.book m.store m.attempts in
        let counts = slice_index_or old.book.counts (shard - 1) [] in
        let had = slice_index counts (replica - 2) in
        let same : machine.copied_count m shard replica n ≡ book.copied_count shard replica n old.book = ap (λ k. min n (k - had)) (records_are old.book (shard - 1)) in
        book_done setup fs m old are (event.Copy shard replica n) (record { valid = valid; bytes = refl; text = tt }) tt (after_copy shard replica n old.book) (line.Copied (book.copied_count shard replica n old.book))
        (ap line.Copied (sym same))
        (record {
          book = record {
            shards = refl;
            counts = ap (λ k. slice_set old.book.counts (shard - 1) (slice_set counts (replica - 2) (had + k))) same;
            vectors = refl;
            positions = refl;
            aux = refl;
          };
          store = refl;
          replicas = record {
            shards = length-set old.book.counts (shard - 1) _ ∙ are.replicas.shards;
            each = replicas_set (setup.replicas - 1) (shard - 1) (replica - 2) (had + book.copied_count shard replica n old.book) old.book.counts are.replicas.each;
          };
          sound = are.stand.kept.sound;
          shards = refl;
          engines = refl;
          grows = record { news = []; log_is = refl; within = positions_within setup fs m old are; rise = λ e. le_refl (position old.book e) };
        })

    pub copy_done : IsEventDone setup fs (event.Copy shard replica n) m (record old { book = after_copy shard replica n old.book }) (line.Copied (book.copied_count shard replica n old.book))
    copy_done = on_machine setup fs (event.Copy shard replica n) m old (record old { book = after_copy shard replica n old.book }) (line.Copied (book.copied_count shard replica n old.book)) are copied
