-- What is said of a result, and attempts of which one word is another.
use Rattle.std.proofs.Common.{◌≡◌, ◌∙◌, ℕ, true, List, length, map, Option, Some, None, Result, Ok, Err, IfOk, OnErr, refl, sym, ap, subst}
use Rattle.std.proofs.lemmas.List.{length-map}
use Rattle.lb_base.specs.declared.value.Value.{Value}
use Rattle.boki_types.specs.declared.operation.Answer.TheVariants as a
use Rattle.boki_types.specs.declared.operation.Ask.{Ask}
use Rattle.boki_types.specs.declared.operation.Ask.TheVariants as k
use Rattle.boki_types.specs.declared.operation.Op.TheVariants as o
use Rattle.boki_types.specs.declared.store.Fenced.{Fenced}
use Rattle.boki_types.specs.declared.program.Function.{Function}
use Rattle.boki_machine.specs.Attempt.{Attempt, adopts}
use Rattle.boki_machine.specs.Step.{fenced_value, read_all}
use Rattle.script_run.specs.Answering.{Takes}
use Rattle.script_run.specs.Frames.{FrameState}
use Rattle.attempt_state.specs.declared.progress.Progress.{Progress}
use Rattle.attempt_state.specs.declared.state.AttemptState.{AttemptState}
use Rattle.attempt_state.specs.Progresses.{progress_of, adopted_progress}
use Rattle.attempt_state.specs.Attempts.{AttemptStandsFor, FrameTakes, HasScript, SameScript}
use Rattle.attempt_store.specs.Moved.{FrameAsks}

pub both_ok : {T E : Type 0} (r : Result T E) (P Q R : T → Type 0) → IfOk r P → IfOk r Q → ((x : T) → P x → Q x → R x) → IfOk r R
both_ok (Ok x) P Q R p q f = f x p q
both_ok (Err e) P Q R p q f = tt

pub on_err : {T E P : Type 0} (r : Result T E) → P → OnErr r P
on_err (Ok x) p = tt
on_err (Err e) p = p

module _ (fs : List Function) (t : Attempt) (kept : AttemptState) (stands : AttemptStandsFor fs t kept) where
  pub late_stands : AttemptStandsFor fs (record t { late = true }) (record kept { progress = record kept.progress { late = true } })
  late_stands = record { progress = ap (λ (p : Progress). record p { late = true }) stands.progress; frame = stands.frame; room = stands.room }

  pub stored_stands : AttemptStandsFor fs (record t { stored = true }) (record kept { progress = record kept.progress { stored = true } })
  stored_stands = record { progress = ap (λ (p : Progress). record p { stored = true }) stands.progress; frame = stands.frame; room = stands.room }

-- a script that asks several objects takes a value for each
pub group_takes : (frame : Option FrameState) (keys : List (List ℕ)) (vs : List Value) → FrameAsks frame (k.Op (o.ReadGroup keys)) → length vs ≡ length keys → FrameTakes frame (a.Values vs)
group_takes None keys vs asks same = absurd asks
group_takes (Some frame) keys vs asks same = subst (λ (ask : Ask). Takes ask (a.Values vs)) (sym asks) same

pub as_many : (f : List ℕ → Fenced) (keys : List (List ℕ)) (vs : List Value) → vs ≡ read_all f keys → length vs ≡ length keys
as_many f keys vs is = ap length is ∙ length-map keys (λ key. fenced_value (f key))

-- an attempt that adopts a record stays at the point of its script
module _ (t : Attempt) (seq : ℕ) where
  pub adopts_script : HasScript t → HasScript (adopts t seq)
  adopts_script script = record { runs = script.runs; before = t.place; begun = refl }

  pub adopts_same : SameScript t (adopts t seq)
  adopts_same = record { path = refl; function = refl; args = refl; answers = refl }

  pub adopts_progress : (old changed : Progress) → changed ≡ adopted_progress seq old → old ≡ progress_of t → changed ≡ progress_of (adopts t seq)
  adopts_progress old changed is stands = is ∙ ap (adopted_progress seq) stands

pub same_script : (t : Attempt) → SameScript t t
same_script t = record { path = refl; function = refl; args = refl; answers = refl }
