-- When an event was done, by what became of the parts.
use Rattle.std.proofs.Common.{◌≡◌, ◌∙◌, ℕ, ◌-◌, ◌≤◌, List, [], length, refl, sym, ap₂, subst}
use Rattle.std.specs.List.{AllByRecursion}
use Rattle.std.proofs.Math.Nat.{le_refl}
use Rattle.boki_types.specs.declared.body.Body.{Body}
use Rattle.boki_types.specs.declared.event.Event.{Event}
use Rattle.boki_types.specs.declared.line.Line.{Line}
use Rattle.boki_types.specs.declared.plan.Setup.{Setup}
use Rattle.boki_types.specs.declared.program.Function.{Function}
use Rattle.boki_model.specs.Order.{order, last_vector}
use Rattle.boki_model.specs.OrderLaws.{ShardsHave, CountsGrow}
use Rattle.boki_model.specs.Live.{LogRecord, live}
use Rattle.boki_model.specs.Writes.{Store}
use Rattle.boki_machine.specs.Machine.{Machine, log, live_records, apply_event}
use Rattle.exactly_once.specs.Induction.EventKeeps.{MachineHolds}
use Rattle.script_ranges.specs.Ranged.{NumbersHaveRoom}
use Rattle.store_laws.proofs.Grown.{events_leave_stores}
use Rattle.log_folds.specs.Decoded.{decoded_record}
use Rattle.log_folds.proofs.MappedOrders.{ordered_alike}
use Rattle.obj_store.specs.Kept.{StoreState}
use Rattle.obj_store.specs.StandsFor.{StandsFor}
use Rattle.book_api.specs.Books.{BookState, position}
use Rattle.step_log.specs.Sound.{body_of, bodies, live_bodies, Sound}
use Rattle.step_laws.specs.Kept.{MachineIsKept, IsTextEvent}
use Rattle.step_laws.proofs.Kept.{events_keep_machine}
use Rattle.hm_read.specs.Kept.{IsKept}
use Rattle.hm_read.proofs.Kept.{holding_is_kept}
use Rattle.hm_write.specs.Sends.{HasOrdered}
use Rattle.flow_parts.specs.declared.parts.Parts.{Parts}
use Rattle.flow_parts.specs.Parts.{HasSizes, AreFolds}
use Rattle.flow_parts.proofs.Grown.{log_bodies, GrowsTo, folds_grow}
use Rattle.cluster_events.specs.Machines.{IsBookOf, HasReplicas, PartsAreOf, IsEventDone}
use Rattle.cluster_events.proofs.Machines.{index_within}

-- the live records of the machine are those of its book
pub live_is : (m : Machine) (b : BookState) → IsBookOf m b → live_records m ≡ live_bodies b
live_is m b is = ap₂ (λ (shards : List (List (LogRecord Body))) (vectors : List (List ℕ)). live (order shards vectors)) is.shards is.vectors

-- what the vectors order the shards have
has_ordered : (setup : Setup) (fs : List Function) (m : Machine) (b : BookState) → IsBookOf m b → MachineHolds setup fs m → HasOrdered b
has_ordered setup fs m b is holds = record {
  grow = subst CountsGrow is.vectors holds.grow;
  have = (ordered_alike (decoded_record body_of) b.shards).had (last_vector b.vectors)
      (subst (λ (vectors : List (List ℕ)). ShardsHave (bodies b) (last_vector vectors)) is.vectors
      (subst (λ (shards : List (List (LogRecord Body))). ShardsHave shards (last_vector m.vectors)) is.shards holds.have));
}

-- the parts are a machine's whose store the object store stands for
pub are_after :
    (setup : Setup) (fs : List Function) (after : Machine) (new : Parts) → MachineIsKept setup fs after → IsBookOf after new.book → HasReplicas setup new.book.counts → Sound new.book
    → HasSizes setup new → AreFolds setup new → StandsFor new.store after.store (live_records after) → new.first ≡ setup.mode → new.newer ≡ setup.newer
    → PartsAreOf setup fs after new
are_after setup fs after new kept is replicas sound sizes folds stands first newer = record {
  book = is;
  replicas = replicas;
  kept = kept;
  stand = record {
    kept = record { sound = sound; store = subst (IsKept new.store after.store) (live_is after new.book is) (holding_is_kept setup fs after new.store kept.holds stands) };
    ordered = has_ordered setup fs after new.book is kept.holds;
    sizes = sizes;
    folds = folds;
    first = first;
    newer = newer;
  };
}

-- Another book, of as many shards and engines, and nothing else.
pub record IsBookMoved (setup : Setup) (m after : Machine) (old new : BookState) : Type 0 where
  pub book : IsBookOf after new
  pub store : after.store ≡ m.store
  pub replicas : HasReplicas setup new.counts
  pub sound : Sound new
  pub shards : length new.shards ≡ length old.shards
  pub engines : length new.positions ≡ length old.positions
  pub grows : GrowsTo old new

module _ (setup : Setup) (fs : List Function) (m : Machine) (old : Parts) (are : PartsAreOf setup fs m old) where
  log_is : log m ≡ log_bodies old.book
  log_is = ap₂ (λ (shards : List (List (LogRecord Body))) (vectors : List (List ℕ)). order shards vectors) are.book.shards are.book.vectors

  -- an engine sees no more than there is
  pub positions_within : (engine : ℕ) → position old.book engine ≤ length (log_bodies old.book)
  positions_within engine =
      index_within (length (log_bodies old.book)) (engine - 1) old.book.positions
      (subst (λ (ps : List ℕ). AllByRecursion (λ p. p ≤ length (log_bodies old.book)) ps) are.book.positions
      (subst (λ (rs : List (LogRecord Body)). AllByRecursion (λ p. p ≤ length rs) m.positions) log_is are.kept.holds.holds.positions))

  pub store_stands : StandsFor old.store m.store (live_records m)
  store_stands = subst (StandsFor old.store m.store) (sym (live_is m old.book are.book)) are.stand.kept.store.stands

  module _ (after : Machine) (b : BookState) (kept : MachineIsKept setup fs after) (moved : IsBookMoved setup m after old.book b) where
    sizes_after : HasSizes setup (record old { book = b })
    sizes_after = record {
      shards = moved.shards ∙ are.stand.sizes.shards;
      engines = moved.engines ∙ are.stand.sizes.engines;
      queues = are.stand.sizes.queues;
      txns = are.stand.sizes.txns;
      switches = are.stand.sizes.switches;
    }

    pub moved_are : StandsFor old.store after.store (live_records after) → PartsAreOf setup fs after (record old { book = b })
    moved_are stands =
        are_after setup fs after (record old { book = b }) kept moved.book moved.replicas moved.sound sizes_after
        (folds_grow setup old are.stand.folds b moved.grows) stands are.stand.first are.stand.newer

  module _ (event : Event) (text : IsTextEvent setup fs event) (room : NumbersHaveRoom m event) where
    abbrev after : Machine
    after = (apply_event setup fs m event).machine

    pub kept_after : MachineIsKept setup fs after
    kept_after = events_keep_machine setup fs m event text room are.kept

    -- the object store stands for the machine's where it did so with the records before
    pub still_stands : (new : StoreState) → StandsFor new after.store (live_records m) → StandsFor new after.store (live_records after)
    still_stands new stands = events_leave_stores setup fs m event new are.kept.holds stands

    pub book_done : (b : BookState) (line : Line) → line ≡ (apply_event setup fs m event).line → IsBookMoved setup m after old.book b → IsEventDone setup fs event m (record old { book = b }) line
    book_done b line line_is moved = record {
      line_is = line_is;
      text = text;
      are = moved_are after b kept_after moved (still_stands old.store (subst (λ (store : Store). StandsFor old.store store (live_records m)) (sym moved.store) store_stands));
    }

  -- nothing changed
  pub same_done : (event : Event) (line : Line) → IsTextEvent setup fs event → line ≡ (apply_event setup fs m event).line → (apply_event setup fs m event).machine ≡ m → IsEventDone setup fs event m old line
  same_done event line text line_is same =
      record { line_is = line_is; text = text; are = subst (λ (m : Machine). PartsAreOf setup fs m old) (sym same) are }

  -- the book is where it was
  pub not_moved : IsBookMoved setup m m old.book old.book
  not_moved = record {
    book = are.book;
    store = refl;
    replicas = are.replicas;
    sound = are.stand.kept.sound;
    shards = refl;
    engines = refl;
    grows = record { news = []; log_is = refl; within = positions_within; rise = λ e. le_refl (position old.book e) };
  }
