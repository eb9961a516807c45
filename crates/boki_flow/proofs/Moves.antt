-- Moves of the pieces as moves of the whole.
use Rattle.std.proofs.Common.{◌≡◌, ℕ, List, Option, Some, None, refl, sym, subst}
use Rattle.boki_types.specs.declared.body.Body.{Body}
use Rattle.boki_types.specs.declared.line.StepLine.{StepLine}
use Rattle.boki_types.specs.declared.plan.Setup.{Setup}
use Rattle.boki_types.specs.declared.program.Function.{Function}
use Rattle.boki_model.specs.Live.{LogRecord}
use Rattle.boki_model.specs.Writes.{Store}
use Rattle.boki_machine.specs.Attempt.{Move}
use Rattle.book_api.specs.Books.{BookState}
use Rattle.step_log.specs.Sound.{live_bodies, Sound}
use Rattle.obj_store.specs.Kept.{StoreState}
use Rattle.attempt_state.specs.declared.state.AttemptState.{AttemptState}
use Rattle.attempt_log.specs.Moves.{IsAppended, IsAppendedIfAny, IsMovedSent}
use Rattle.attempt_store.specs.Moved.{IsMovedAlone, MovesStore}
use Rattle.flow_parts.specs.declared.parts.Parts.{Parts}
use Rattle.flow_parts.specs.Parts.{PartsStandFor}
use Rattle.boki_flow.specs.Flow.{IsMoved}
use Rattle.flow_parts.proofs.Appended.{stored_stands}
use Rattle.boki_flow.proofs.Appended.{appended_stands}

module _ (setup : Setup) (fs : List Function) (engine : ℕ) (store : Store) (old : Parts) (stands : PartsStandFor setup store old) (move : Move) (state : AttemptState) (told : StepLine) where
  -- nothing but the attempt changes
  pub alone_moves : move.store ≡ store → move.sends ≡ None → IsMovedAlone fs move state told → IsMoved setup fs engine move old old state told
  alone_moves same none is = record {
    line_is = is.line_is;
    attempt = is.attempt;
    parts = subst (λ (s : Store). PartsStandFor setup s old) (sym same) stands;
    sent = subst (λ (r : Option (LogRecord Body)). IsAppendedIfAny engine r old.book old.book) (sym none) refl;
  }

  -- the store changes too
  pub store_moves : (kept : StoreState) → move.sends ≡ None → MovesStore fs (live_bodies old.book) kept move state told → IsMoved setup fs engine move old (record old { store = kept }) state told
  store_moves kept none is = record {
    line_is = is.moved.line_is;
    attempt = is.moved.attempt;
    parts = stored_stands setup store old stands kept move.store is.store;
    sent = subst (λ (r : Option (LogRecord Body)). IsAppendedIfAny engine r old.book old.book) (sym none) refl;
  }

  -- a record is sent
  pub sent_moves : (r : LogRecord Body) (book : BookState) → move.store ≡ store → move.sends ≡ Some r → Sound book → IsMovedSent fs engine move old.book book state told
      → IsMoved setup fs engine move old (record old { book = book }) state told
  sent_moves r book same some sound is = record {
    line_is = is.line_is;
    attempt = is.attempt;
    parts = subst (λ (s : Store). PartsStandFor setup s (record old { book = book })) (sym same) (appended_stands setup store old stands engine r book there sound);
    sent = is.sent;
  }
    where
      there : IsAppended engine r old.book book
      there = subst (λ (r : Option (LogRecord Body)). IsAppendedIfAny engine r old.book book) some is.sent
