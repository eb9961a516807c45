-- A marker that is adopted, by what the store answers.
use Rattle.std.proofs.Common.{◌≡◌, ◌∙◌, ◌⊎◌, inr, ℕ, suc, ◌<◌, Bool, true, false, cond, ltb, List, [], ◌∷◌, refl, sym, ap, subst}
use Rattle.std.specs.Prelude.{zip}
use Rattle.lb_base.specs.declared.value.Value.{Value}
use Rattle.lb_base.specs.declared.value.Mode.TheVariants.{R}
use Rattle.boki_types.specs.declared.body.Body.{Body}
use Rattle.boki_types.specs.declared.line.Life.TheVariants.{Stopped}
use Rattle.boki_types.specs.declared.line.StepLine.{StepLine}
use Rattle.boki_types.specs.declared.line.StepLine.TheVariants as line
use Rattle.boki_types.specs.declared.log.Sent.{Sent}
use Rattle.boki_types.specs.declared.operation.Answer.TheVariants as a
use Rattle.boki_types.specs.declared.program.Function.{Function}
use Rattle.boki_types.specs.declared.store.Answered.TheVariants as ans
use Rattle.boki_types.specs.declared.store.GroupAnswer.TheVariants as group
use Rattle.boki_model.specs.Live.{Live}
use Rattle.boki_types.specs.declared.operation.Answer.{Answer}
use Rattle.boki_model.specs.Writes.{Store, read_fenced, after_read_fenced, raise_fences}
use Rattle.boki_machine.specs.Attempt.{Attempt, Move, adopts, answered_with}
use Rattle.boki_machine.specs.Step.{seqnum, stop_gone, fenced_value, read_all, adopts_answer, adopts_marker}
use Rattle.hm_read.specs.Kept.{IsKept}
use Rattle.book_api.specs.Books.{BookState}
use Rattle.hm_write.specs.Marked.{marked_answer, marked_answers, ReadsMarked, ReadsGroupMarked}
use Rattle.boki_types.specs.declared.store.Answered.{Answered}
use Rattle.boki_types.specs.declared.store.GroupAnswer.{GroupAnswer}
use Rattle.attempt_state.specs.declared.progress.Progress.{Progress}
use Rattle.attempt_state.specs.Progresses.{progress_of, adopted_progress}
use Rattle.obj_store.specs.Kept.{StoreState}
use Rattle.attempt_state.specs.declared.state.AttemptState.{AttemptState}
use Rattle.attempt_state.specs.Attempts.{AttemptStandsFor}
use Rattle.attempt_store.specs.Moved.{EitherKept, IsMovedAlone, MovesStore, after_marker}

module _ (fs : List Function) (t : Attempt) (m : Store) (records : List (Live Body)) (seq : ℕ) (keys : List (List ℕ)) (kept : StoreState) (state : AttemptState) (told : StepLine) where
  -- below the floor the store stays, and the attempt stops
  abbrev fenced : Store
  fenced = record m { fences = raise_fences keys seq m.fences }

  stops_by : (low : Bool) (answer : Answer) (l : StepLine) → low ≡ true → IsKept kept (cond low m fenced) records → told ≡ line.StoppedGone
      → AttemptStandsFor fs (record t { life = Stopped }) state
      → MovesStore fs records kept (cond low (stop_gone t m) (adopts_answer t (cond low m fenced) seq answer l)) state told
  stops_by true answer l is store said stands = record { moved = record { line_is = said; attempt = stands }; store = store }
  stops_by false answer l is store said stands = absurd (let no_way : false ≡ true = is in cc)

  pub marker_gone : (answer : Answer) (l : StepLine) → ltb seq m.floor ≡ true → IsKept kept (after_read_fenced keys seq m) records → told ≡ line.StoppedGone
      → AttemptStandsFor fs (record t { life = Stopped }) state → MovesStore fs records kept (adopts_marker t m seq keys answer l) state told
  marker_gone answer l is store said stands = stops_by (ltb seq m.floor) answer l is store said stands

  goes_by : (low : Bool) (answer : Answer) (l : StepLine) → low ≡ false → IsKept kept (cond low m fenced) records → told ≡ l
      → AttemptStandsFor fs (answered_with (adopts t seq) answer) state
      → MovesStore fs records kept (cond low (stop_gone t m) (adopts_answer t (cond low m fenced) seq answer l)) state told
  goes_by true answer l is store said stands = absurd (let no_way : true ≡ false = is in cc)
  goes_by false answer l is store said stands = record { moved = record { line_is = said; attempt = stands }; store = store }

  pub marker_read : (answer : Answer) (l : StepLine) → ltb seq m.floor ≡ false → IsKept kept (after_read_fenced keys seq m) records → told ≡ l
      → AttemptStandsFor fs (answered_with (adopts t seq) answer) state → MovesStore fs records kept (adopts_marker t m seq keys answer l) state told
  marker_read answer l is store said stands = goes_by (ltb seq m.floor) answer l is store said stands

-- what a read at a marker did, by the engine of an attempt that stands there
module _ (book : BookState) (t : Attempt) (p changed : Progress) (seq : ℕ) (is : changed ≡ adopted_progress seq p) (stands : p ≡ progress_of t) (old new : StoreState) where
  same_engine : changed.engine ≡ t.engine
  same_engine = ap (λ (p : Progress). p.engine) is ∙ ap (λ (p : Progress). p.engine) stands

  pub marked_at : (key named : List ℕ) (a : Answered) → named ≡ key → ReadsMarked book changed.engine seq named old new a → ReadsMarked book t.engine seq key old new a
  marked_at key named a same done =
      subst (λ (engine : ℕ). ReadsMarked book engine seq key old new a) same_engine (subst (λ (l : List ℕ). ReadsMarked book changed.engine seq l old new a) same done)

  pub group_at : (keys named : List (List ℕ)) (a : GroupAnswer) → named ≡ keys → ReadsGroupMarked book changed.engine seq named old new a → ReadsGroupMarked book t.engine seq keys old new a
  group_at keys named a same done =
      subst (λ (engine : ℕ). ReadsGroupMarked book engine seq keys old new a) same_engine (subst (λ (l : List (List ℕ)). ReadsGroupMarked book changed.engine seq l old new a) same done)

-- and the store is at least the one that the marker leaves, also where the attempt can't take the answer
module _ (m : Store) (records : List (Live Body)) (seq : ℕ) (keys : List (List ℕ)) (kept : StoreState) where
  pub marker_cut : IsKept kept (after_read_fenced keys seq m) records → EitherKept kept m (after_marker seq keys m) records
  marker_cut is = at (ltb seq m.floor) is
    where
      at : (low : Bool) → IsKept kept (cond low m (record m { fences = raise_fences keys seq m.fences })) records
          → IsKept kept m records ⊎ IsKept kept (cond low m (cond low m (record m { fences = raise_fences keys seq m.fences }))) records
      at true is = inr is
      at false is = inr is

-- what the store's answer tells of the floor, and of the value
pub gone_is_low : (low : Bool) (v : Value) → ans.Gone ≡ cond low ans.Gone (ans.Value v) → low ≡ true
gone_is_low true v e = refl
gone_is_low false v e = absurd (let no_way : ans.Gone ≡ ans.Value v = e in cc)

pub value_is_high : (low : Bool) (v w : Value) → ans.Value w ≡ cond low ans.Gone (ans.Value v) → (low ≡ false) × (w ≡ v)
value_is_high true v w e = absurd (let no_way : ans.Value w ≡ ans.Gone = e in cc)
value_is_high false v w e = let is : ans.Value w ≡ ans.Value v = e in let same : w ≡ v = cc in (refl, same)

pub group_gone_is_low : (low : Bool) (vs : List Value) → group.Gone ≡ cond low group.Gone (group.Values vs) → low ≡ true
group_gone_is_low true vs e = refl
group_gone_is_low false vs e = absurd (let no_way : group.Gone ≡ group.Values vs = e in cc)

pub values_are_high : (low : Bool) (vs ws : List Value) → group.Values ws ≡ cond low group.Gone (group.Values vs) → (low ≡ false) × (ws ≡ vs)
values_are_high true vs ws e = absurd (let no_way : group.Values ws ≡ group.Gone = e in cc)
values_are_high false vs ws e = let is : group.Values ws ≡ group.Values vs = e in let same : ws ≡ vs = cc in (refl, same)
