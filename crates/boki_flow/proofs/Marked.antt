-- An attempt adopts a marker: what its call needs, and its move.
use Rattle.std.proofs.Common.{◌≡◌, ◌⊎◌, inl, inr, ℕ, ◌≤◌, Bool, true, false, cond, ltb, List, None, Result, IfOk, OnErr, refl, sym, subst}
use Rattle.boki_types.specs.declared.line.StepLine.{StepLine}
use Rattle.boki_types.specs.declared.operation.Answer.{Answer}
use Rattle.boki_types.specs.declared.operation.Ask.TheVariants as k
use Rattle.boki_types.specs.declared.operation.Op.{Op}
use Rattle.boki_types.specs.declared.plan.Setup.{Setup}
use Rattle.boki_types.specs.declared.program.Function.{Function}
use Rattle.boki_model.specs.Writes.{Store, after_read_fenced}
use Rattle.boki_machine.specs.Attempt.{Attempt, Move}
use Rattle.boki_machine.specs.Step.{stop_gone, adopts_answer, adopts_marker}
use Rattle.book_api.specs.Books.{position}
use Rattle.step_log.specs.Sound.{live_bodies}
use Rattle.hm_read.specs.Kept.{AreKept}
use Rattle.obj_store.specs.Kept.{StoreState}
use Rattle.attempt_state.specs.declared.state.AttemptState.{AttemptState}
use Rattle.attempt_state.specs.Attempts.{AttemptStandsFor, HasScript}
use Rattle.attempt_store.specs.Moved.{CanReadAt, EitherKept, FrameAsks, MovesStore, after_marker}
use Rattle.flow_parts.specs.declared.parts.Parts.{Parts}
use Rattle.flow_parts.specs.Parts.{PartsStandFor}
use Rattle.boki_flow.specs.Flow.{FlowStandsFor}
use Rattle.boki_flow.specs.Arms.{AsksMarked, CanFlowIf, MovesBy, CutShortBy}
use Rattle.flow_parts.proofs.Appended.{stored_stands}
use Rattle.boki_flow.proofs.Moves.{store_moves}
use Rattle.boki_flow.proofs.Standing.{engine_is, frame_asks, weaker_ok, weaker_err}

-- What the calls of markers need.
module _ (fs : List Function) (parts : Parts) (kept : AttemptState) (seq : ℕ) (op : Op) (can : CanFlowIf (AsksMarked fs parts op seq) fs parts kept) where
  pub marker_asks : FrameAsks kept.frame (k.Op op)
  marker_asks = frame_asks can.setup fs can.store can.attempt parts kept can.stands can.holds.0.script (k.Op op) can.holds.0.asks

  pub marker_reads : CanReadAt parts.book parts.store kept.progress.engine seq
  marker_reads = record {
    store = can.store;
    are = can.stands.parts.kept;
    covered = subst (λ (engine : ℕ). seq ≤ position parts.book engine) (sym (engine_is can.setup fs can.store can.attempt parts kept can.stands)) can.holds.1;
  }

-- The markers' moves, by what their calls say.
module _ (fs : List Function) (parts : Parts) (kept after : AttemptState) (stored : StoreState) (seq : ℕ) (op : Op) (keys : List (List ℕ))
    (answer : Store → Attempt → Answer) (l : Store → Attempt → StepLine) {E : Type 0} (result : Result StepLine E) where
  abbrev marker_move : Setup → Store → Attempt → Move
  marker_move setup store a = adopts_marker a store seq keys (answer store a) (l store a)

  pub marker_moves : IfOk result (λ told. (m : Store) (a : Attempt) → AreKept parts.book parts.store m → AttemptStandsFor fs a kept → HasScript a → seq ≤ position parts.book a.engine
      → MovesStore fs (live_bodies parts.book) stored (adopts_marker a m seq keys (answer m a) (l m a)) after told)
      → IfOk result (MovesBy (AsksMarked fs parts op seq) marker_move fs parts (record parts { store = stored }) kept after)
  marker_moves did = weaker_ok result _ _ did (λ told moved setup store a stands asks.
      store_moves setup fs a.engine store parts stands.parts (marker_move setup store a) after told stored
      (sends_none (ltb seq store.floor) (stop_gone a store) (adopts_answer a (after_read_fenced keys seq store) seq (answer store a) (l store a)) refl refl)
      (moved store a stands.parts.kept stands.attempt asks.0.script asks.1))
    where
      sends_none : (low : Bool) (first second : Move) → first.sends ≡ None → second.sends ≡ None → (cond low first second).sends ≡ None
      sends_none true first second e f = e
      sends_none false first second e f = f

  pub marker_cut : OnErr result ((m : Store) (a : Attempt) → AreKept parts.book parts.store m → AttemptStandsFor fs a kept → seq ≤ position parts.book a.engine
      → EitherKept stored m (after_marker seq keys m) (live_bodies parts.book))
      → OnErr result (CutShortBy (AsksMarked fs parts op seq) marker_move fs parts (record parts { store = stored }) kept)
  marker_cut did = weaker_err result did (λ cut setup store a stands asks.
      record { book = refl; parts = by setup store a stands (cut store a stands.parts.kept stands.attempt asks.1) })
    where
      stores_by : (store : Store) (a : Attempt) (low : Bool) (second : Move) → cond low store second.store ≡ (cond low (stop_gone a store) second).store
      stores_by store a true second = refl
      stores_by store a false second = refl

      by : (setup : Setup) (store : Store) (a : Attempt) → FlowStandsFor setup fs store a parts kept → EitherKept stored store (after_marker seq keys store) (live_bodies parts.book)
          → PartsStandFor setup store (record parts { store = stored }) ⊎ PartsStandFor setup (marker_move setup store a).store (record parts { store = stored })
      by setup store a stands (inl before) = inl (stored_stands setup store parts stands.parts stored store before)
      by setup store a stands (inr behind) = inr (subst (λ (m : Store). PartsStandFor setup m (record parts { store = stored }))
          (stores_by store a (ltb seq store.floor) (adopts_answer a (after_read_fenced keys seq store) seq (answer store a) (l store a)))
          (stored_stands setup store parts stands.parts stored (after_marker seq keys store) behind))
