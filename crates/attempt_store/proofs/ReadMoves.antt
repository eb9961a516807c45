-- A free read, by what the store answers: the attempt stops, or has the value.
use Rattle.std.proofs.Common.{◌≡◌, ℕ, suc, ◌<◌, Bool, true, false, cond, ltb, List, [], ◌∷◌, refl, sym, ap, subst}
use Rattle.std.specs.Prelude.{zip}
use Rattle.lb_base.specs.declared.value.Value.{Value}
use Rattle.lb_base.specs.declared.value.Mode.TheVariants.{R}
use Rattle.boki_types.specs.declared.body.Body.{Body}
use Rattle.boki_types.specs.declared.line.Life.TheVariants.{Stopped}
use Rattle.boki_types.specs.declared.line.StepLine.{StepLine}
use Rattle.boki_types.specs.declared.line.StepLine.TheVariants as line
use Rattle.boki_types.specs.declared.log.Sent.{Sent}
use Rattle.boki_types.specs.declared.operation.Answer.TheVariants as a
use Rattle.boki_types.specs.declared.program.Function.{Function}
use Rattle.boki_types.specs.declared.store.Answered.TheVariants as ans
use Rattle.boki_types.specs.declared.store.GroupAnswer.TheVariants as group
use Rattle.boki_model.specs.Live.{Live}
use Rattle.boki_model.specs.Writes.{Store, read_free}
use Rattle.boki_machine.specs.Attempt.{Attempt, Move, moves, answered_with}
use Rattle.boki_machine.specs.Step.{stop_gone, fenced_value, read_all, reads, reads_group}
use Rattle.boki_types.specs.declared.store.GroupAnswer.{GroupAnswer}
use Rattle.book_api.specs.Books.{BookState}
use Rattle.hm_read.specs.FreeReads.{free_answer, free_answers, ReadsGroupFree}
use Rattle.obj_store.specs.Kept.{StoreState}
use Rattle.attempt_state.specs.declared.progress.Progress.{Progress}
use Rattle.attempt_state.specs.Progresses.{progress_of}
use Rattle.attempt_state.specs.declared.state.AttemptState.{AttemptState}
use Rattle.attempt_state.specs.Attempts.{AttemptStandsFor}
use Rattle.attempt_store.specs.Moved.{IsMovedAlone}

module _ (fs : List Function) (t : Attempt) (m : Store) (view : List (Live Body)) (at : Sent) where
  module _ (key : List ℕ) where
    abbrev read_move : Value → Move
    read_move v = moves (answered_with t (a.Value v)) m (line.Read key v)

    gone_by : (low : Bool) (v : Value) → ans.Gone ≡ cond low ans.Gone (ans.Value v) → cond low (stop_gone t m) (read_move v) ≡ stop_gone t m
    gone_by true v e = refl
    gone_by false v e = absurd (let no_way : ans.Gone ≡ ans.Value v = e in cc)

    value_by : (low : Bool) (v w : Value) → ans.Value w ≡ cond low ans.Gone (ans.Value v) → cond low (stop_gone t m) (read_move v) ≡ read_move w
    value_by true v w e = absurd (let no_way : ans.Value w ≡ ans.Gone = e in cc)
    value_by false v w e = let is : ans.Value w ≡ ans.Value v = e in let same : v ≡ w = cc in ap read_move same

    pub read_gone : (kept : AttemptState) (told : StepLine) → ans.Gone ≡ free_answer t.cursor key m view → told ≡ line.StoppedGone
        → AttemptStandsFor fs (record t { life = Stopped }) kept → IsMovedAlone fs (reads t m view at key R) kept told
    read_gone kept told e said stands =
        subst (λ (move : Move). IsMovedAlone fs move kept told) (sym (gone_by (ltb t.cursor m.floor) (fenced_value (read_free key t.cursor m view)) e))
        (record { line_is = said; attempt = stands })

    pub read_found : (w : Value) (kept : AttemptState) (told : StepLine) → ans.Value w ≡ free_answer t.cursor key m view → told ≡ line.Read key w
        → AttemptStandsFor fs (answered_with t (a.Value w)) kept → IsMovedAlone fs (reads t m view at key R) kept told
    read_found w kept told e said stands =
        subst (λ (move : Move). IsMovedAlone fs move kept told) (sym (value_by (ltb t.cursor m.floor) (fenced_value (read_free key t.cursor m view)) w e))
        (record { line_is = said; attempt = stands })

  module _ (keys : List (List ℕ)) where
    abbrev group_move : List Value → Move
    group_move vs = moves (answered_with t (a.Values vs)) m (line.ReadAll (zip keys vs))

    group_gone_by : (low : Bool) (vs : List Value) → group.Gone ≡ cond low group.Gone (group.Values vs) → cond low (stop_gone t m) (group_move vs) ≡ stop_gone t m
    group_gone_by true vs e = refl
    group_gone_by false vs e = absurd (let no_way : group.Gone ≡ group.Values vs = e in cc)

    values_by : (low : Bool) (vs ws : List Value) → group.Values ws ≡ cond low group.Gone (group.Values vs) → cond low (stop_gone t m) (group_move vs) ≡ group_move ws
    values_by true vs ws e = absurd (let no_way : group.Values ws ≡ group.Gone = e in cc)
    values_by false vs ws e = let is : group.Values ws ≡ group.Values vs = e in let same : vs ≡ ws = cc in ap group_move same

    pub group_gone : (kept : AttemptState) (told : StepLine) → group.Gone ≡ free_answers t.cursor keys m view → told ≡ line.StoppedGone
        → AttemptStandsFor fs (record t { life = Stopped }) kept → IsMovedAlone fs (reads_group t m view at keys R) kept told
    group_gone kept told e said stands =
        subst (λ (move : Move). IsMovedAlone fs move kept told) (sym (group_gone_by (ltb t.cursor m.floor) (read_all (λ key. read_free key t.cursor m view) keys) e))
        (record { line_is = said; attempt = stands })

    pub group_found : (ws : List Value) (kept : AttemptState) (told : StepLine) → group.Values ws ≡ free_answers t.cursor keys m view → told ≡ line.ReadAll (zip keys ws)
        → AttemptStandsFor fs (answered_with t (a.Values ws)) kept → IsMovedAlone fs (reads_group t m view at keys R) kept told
    group_found ws kept told e said stands =
        subst (λ (move : Move). IsMovedAlone fs move kept told) (sym (values_by (ltb t.cursor m.floor) (read_all (λ key. read_free key t.cursor m view) keys) ws e))
        (record { line_is = said; attempt = stands })

-- what a read of several objects answered, by the engine and the cursor of an attempt that stands there
pub free_group_at :
    (book : BookState) (kept : StoreState) (t : Attempt) (p : Progress) (keys named : List (List ℕ)) (answer : GroupAnswer)
    → p ≡ progress_of t → named ≡ keys → ReadsGroupFree book kept p.engine p.cursor.0 named answer → ReadsGroupFree book kept t.engine t.cursor keys answer
free_group_at book kept t p keys named answer stands same done =
    subst (λ (p : Progress). ReadsGroupFree book kept p.engine p.cursor.0 keys answer) stands
    (subst (λ (l : List (List ℕ)). ReadsGroupFree book kept p.engine p.cursor.0 l answer) same done)
