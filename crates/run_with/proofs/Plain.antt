-- With no nemeses a run is that of the plan alone.
use Rattle.std.proofs.Common.{◌≡◌, ℕ, ◌+◌, List, [], ◌∷◌, length, refl, ap, ◌∙◌}
use Rattle.boki_types.specs.declared.event.Event.{Event}
use Rattle.boki_types.specs.declared.event.Event.TheVariants as v
use Rattle.boki_types.specs.declared.plan.Setup.{Setup}
use Rattle.boki_types.specs.declared.program.Function.{Function}
use Rattle.boki_machine.specs.Machine.{Machine, apply_event, apply_events}
use Rattle.nemesis_types.specs.Kept.{NumberedNemesis}
use Rattle.run_with.specs.Runs.{Planned, state, NemesisRun, nemesis_run, followed_by, seen_of, reseeded_by, ask_from, round, run_from}
use Rattle.run_with.specs.Laws.{planned_from}

reseeded_none : (e : Event) → reseeded_by e [] ≡ []
reseeded_none (v.Seed n) = refl
reseeded_none _ = refl

module _ (t : Setup) (fs : List Function) where
  -- an event of the plan, where these nemeses are kept behind it
  around : ℕ → Event → Machine → List NumberedNemesis → NemesisRun
  around n e m kept =
      let d = apply_event t fs m e in
      let first = nemesis_run (Planned n d.line ∷ []) (e ∷ []) (state d.machine kept) in
      followed_by first (ask_from t fs (seen_of n e d.line) (length kept) 0 first.after)

  round_none : (n : ℕ) (e : Event) (m : Machine) → round t fs n e (state m []) ≡ nemesis_run (Planned n (apply_event t fs m e).line ∷ []) (e ∷ []) (state (apply_event t fs m e).machine [])
  unfolding around
  round_none n e m = ap (around n e m) (reseeded_none e)

  pub run_plain : (n : ℕ) (es : List Event) (m : Machine) → run_from t fs n es (state m []) ≡ nemesis_run (planned_from n (apply_events t fs es m).lines) es (state (apply_events t fs es m).machine [])
  run_plain n [] m = refl
  run_plain n (e ∷ es) m =
      let d = apply_event t fs m e in
      ap (λ r. followed_by r (run_from t fs (n + 1) es r.after)) (round_none n e m)
      ∙ ap (followed_by (nemesis_run (Planned n d.line ∷ []) (e ∷ []) (state d.machine []))) (run_plain (n + 1) es d.machine)
