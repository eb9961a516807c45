-- The machine whose book this is: its log, its views and its places are the book's.
use Rattle.std.proofs.Common.{◌≡◌, ◌∙◌, ℕ, zero, suc, ◌-◌, ◌%◌, ◌≤◌, List, [], ◌∷◌, length, refl, sym, ap, subst, arith}
use Rattle.std.specs.Prelude.{slice_index, slice_index_or}
use Rattle.std.specs.List.{AllByRecursion}
use Rattle.boki_types.specs.declared.event.Event.{Event}
use Rattle.boki_types.specs.declared.line.Line.{Line}
use Rattle.boki_types.specs.declared.plan.Setup.{Setup}
use Rattle.boki_types.specs.declared.program.Function.{Function}
use Rattle.boki_model.specs.Order.{order, progress}
use Rattle.boki_model.specs.Writes.{Store}
use Rattle.boki_machine.specs.Machine.{Machine, NumberedAttempt, next_sent}
use Rattle.log_folds.specs.Decoded.{decoded_record}
use Rattle.log_folds.proofs.Maps.{length-mapped}
use Rattle.log_folds.proofs.MappedOrders.{ordered_alike}
use Rattle.log_folds.proofs.Said.{is_said}
use Rattle.book_api.specs.Books as book
use Rattle.book_api.specs.Books.{BookState, HasEngine, ordered}
use Rattle.step_log.specs.Sound.{body_of, bodies}
use Rattle.flow_parts.specs.declared.parts.Parts.{Parts}
use Rattle.cluster_events.specs.Machines.{IsBookOf, PartsAreOf, IsEventDone}

-- the machine of a book, with this store and these attempts
abbrev pub machine_of : BookState → Store → List NumberedAttempt → Machine
machine_of b store attempts = record {
  shards = bodies b;
  counts = b.counts;
  vectors = b.vectors;
  positions = b.positions;
  aux = b.aux;
  store = store;
  attempts = attempts;
}

pub as_machine : (m : Machine) (b : BookState) → IsBookOf m b → machine_of b m.store m.attempts ≡ m
as_machine m b is = (λ i. record {
  shards = sym is.shards i;
  counts = sym is.counts i;
  vectors = sym is.vectors i;
  positions = sym is.positions i;
  aux = sym is.aux i;
  store = m.store;
  attempts = m.attempts;
})

-- so what is so of the machine of the book is so of each machine whose book it is
pub on_machine :
    (setup : Setup) (fs : List Function) (event : Event) (m : Machine) (old new : Parts) (line : Line) → PartsAreOf setup fs m old
    → (PartsAreOf setup fs (machine_of old.book m.store m.attempts) old → IsEventDone setup fs event (machine_of old.book m.store m.attempts) new line)
    → IsEventDone setup fs event m new line
on_machine setup fs event m old new line are done =
    let is = as_machine m old.book are.book in
    subst (λ (m : Machine). IsEventDone setup fs event m new line) is (done (subst (λ (m : Machine). PartsAreOf setup fs m old) (sym is) are))

pub is_book : (b : BookState) (store : Store) (attempts : List NumberedAttempt) → IsBookOf (machine_of b store attempts) b
is_book b store attempts = record { shards = refl; counts = refl; vectors = refl; positions = refl; aux = refl }

-- The log of the bytes is as long, and the shards' records are as many.
module _ (b : BookState) where
  pub length_is : length (order (bodies b) b.vectors) ≡ length (ordered b)
  length_is = (is_said body_of b.shards b.vectors).long

  pub records_are : (k : ℕ) → length (slice_index_or (bodies b) k []) ≡ length (slice_index_or b.shards k [])
  records_are k = ap length ((ordered_alike (decoded_record body_of) b.shards).one_shard k) ∙ length-mapped (decoded_record body_of) (slice_index_or b.shards k [])

  pub progress_is : progress (bodies b) b.counts ≡ progress b.shards b.counts
  progress_is = (ordered_alike (decoded_record body_of) b.shards).cut b.counts

  -- where the next record of an engine will stand
  pub sent_is : (setup : Setup) (store : Store) (attempts : List NumberedAttempt) (engine : ℕ) → length b.shards ≡ setup.shards
      → next_sent setup (machine_of b store attempts) engine ≡ book.next_sent b engine
  sent_is setup store attempts engine shards =
      ap (λ n. record { shard = suc ((engine - 1) % n); local = suc (length (slice_index_or (bodies b) (suc ((engine - 1) % n) - 1) [])) }) (sym shards)
      ∙ ap (λ n. record { shard = book.home_shard b engine; local = suc n }) (records_are (book.home_shard b engine - 1))

-- Positions are within the log.
pub index_within : (n k : ℕ) (ps : List ℕ) → AllByRecursion (λ p. p ≤ n) ps → slice_index ps k ≤ n
index_within n k [] all = omega arith
index_within n zero (p ∷ ps) all = all.0
index_within n (suc k) (p ∷ ps) all = index_within n k ps all.1

-- The parts have each engine of the setup.
pub has_engine : (setup : Setup) (fs : List Function) (m : Machine) (parts : Parts) (engine : ℕ) → PartsAreOf setup fs m parts → 1 ≤ engine → engine ≤ setup.engines → HasEngine engine parts.book
has_engine setup fs m parts engine are one most = (one, subst (λ n. engine ≤ n) (sym are.stand.sizes.engines) most)
