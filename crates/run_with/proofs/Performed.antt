-- A run with nemeses is the run of the events that were done, and each of these is valid.
use Rattle.std.proofs.Common.{◌≡◌, ℕ, List, [], ◌∷◌, ◌++◌, refl, sym, ap, ◌∙◌}
use Rattle.std.specs.Prelude.{IsTrue}
use Rattle.std.specs.List.{AllByRecursion}
use Rattle.boki_types.specs.declared.event.Event.{Event}
use Rattle.boki_types.specs.declared.plan.Setup.{Setup}
use Rattle.boki_types.specs.declared.program.Function.{Function}
use Rattle.boki_model.specs.Plans.{is_event}
use Rattle.boki_machine.specs.Machine.{Machine, apply_event, apply_events}
use Rattle.run_with.specs.Runs.{Output, Planned, Added, Ignored, RunState, NemesisRun, followed_by, run_from}
use Rattle.run_with.specs.Laws.{lines_done, IsRun}
use Rattle.exactly_once.proofs.Log.ListElements.{each_append}
use Rattle.run_with.proofs.Told.{run_has}

module _ (t : Setup) (fs : List Function) where
  pub run_machine : (xs ys : List Event) (m : Machine) → (apply_events t fs (xs ++ ys) m).machine ≡ (apply_events t fs ys (apply_events t fs xs m).machine).machine
  run_machine [] ys m = refl
  run_machine (x ∷ xs) ys m = run_machine xs ys (apply_event t fs m x).machine

  pub run_lines : (xs ys : List Event) (m : Machine) → (apply_events t fs (xs ++ ys) m).lines ≡ (apply_events t fs xs m).lines ++ (apply_events t fs ys (apply_events t fs xs m).machine).lines
  run_lines [] ys m = refl
  run_lines (x ∷ xs) ys m = ap (λ l. (apply_event t fs m x).line ∷ l) (run_lines xs ys (apply_event t fs m x).machine)

lines_append : (xs ys : List Output) → lines_done (xs ++ ys) ≡ lines_done xs ++ lines_done ys
lines_append [] ys = refl
lines_append (Planned n line ∷ xs) ys = ap (λ l. line ∷ l) (lines_append xs ys)
lines_append (Added n i e line ∷ xs) ys = ap (λ l. line ∷ l) (lines_append xs ys)
lines_append (Ignored n i ∷ xs) ys = lines_append xs ys

module _ (t : Setup) (fs : List Function) where
  joins_run : (m : Machine) (a b : NemesisRun) → IsRun t fs m a → IsRun t fs a.after.machine b → IsRun t fs m (followed_by a b)
  joins_run m a b one two =
      let before : (apply_events t fs b.performed a.after.machine) ≡ (apply_events t fs b.performed (apply_events t fs a.performed m).machine) = ap (apply_events t fs b.performed) one.machine in
      record {
        machine = two.machine ∙ ap (λ r. r.machine) before ∙ sym (run_machine t fs a.performed b.performed m);
        lines =
            lines_append a.lines b.lines
            ∙ ap (λ l. l ++ lines_done b.lines) one.lines
            ∙ ap (λ l. (apply_events t fs a.performed m).lines ++ l) (two.lines ∙ ap (λ r. r.lines) before)
            ∙ sym (run_lines t fs a.performed b.performed m);
      }

  -- any events will do
  all_trivial : (es : List Event) → AllByRecursion (λ e. Unit {0}) es
  all_trivial [] = tt
  all_trivial (e ∷ es) = (tt, all_trivial es)

  pub run_is : (n : ℕ) (es : List Event) (s : RunState) → IsRun t fs s.machine (run_from t fs n es s)
  run_is n es s =
      run_has t fs (λ e. Unit {0}) (IsRun t fs)
      (λ s. record { machine = refl; lines = refl })
      (λ n e s ok. record { machine = refl; lines = refl })
      (λ n i e s ok. record { machine = refl; lines = refl })
      (λ n i s. record { machine = refl; lines = refl })
      joins_run n es s (all_trivial es)

  abbrev pub MayHappen : List Event → Type 0
  MayHappen es = AllByRecursion (λ e. IsTrue (is_event t fs e)) es

  pub run_may : (n : ℕ) (es : List Event) (s : RunState) → MayHappen es → MayHappen (run_from t fs n es s).performed
  run_may =
      run_has t fs (λ e. IsTrue (is_event t fs e)) (λ m told. MayHappen told.performed)
      (λ s. tt)
      (λ n e s ok. (ok, tt))
      (λ n i e s ok. (ok, tt))
      (λ n i s. tt)
      (λ m a b one two. each_append (λ e. IsTrue (is_event t fs e)) a.performed b.performed one two)
