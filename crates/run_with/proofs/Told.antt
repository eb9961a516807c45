-- What holds of all that is told, from what holds of one event.
use Rattle.std.proofs.Common.{◌≡◌, ℕ, zero, suc, ◌+◌, Bool, true, false, cond, List, [], ◌∷◌, length, Option, Some, None, refl}
use Rattle.std.specs.Prelude.{IsTrue, slice_get, slice_set}
use Rattle.std.specs.List.{AllByRecursion}
use Rattle.boki_types.specs.declared.event.Event.{Event}
use Rattle.boki_types.specs.declared.plan.Setup.{Setup}
use Rattle.boki_types.specs.declared.program.Function.{Function}
use Rattle.boki_model.specs.Plans.{is_event}
use Rattle.boki_machine.specs.Machine.{Machine, apply_event}
use Rattle.nemesis_types.specs.declared.seen.Seen.{Seen}
use Rattle.nemesis_types.specs.Automaton.{answer_of}
use Rattle.nemesis_types.specs.Kept.{NumberedNemesis, after_asking, next_asked_index, without_spent}
use Rattle.run_with.specs.Runs.{Planned, Added, Ignored, RunState, state, NemesisRun, nemesis_run, nothing_done, followed_by, seen_of, run_event, run_answer, ask_found, ask_one, ask_from, round, run_from}

-- A property of what is told from a machine on, whatever nemeses are kept; the events of the plan have the
-- property Q.
module _ (t : Setup) (fs : List Function) (Q : Event → Type 0) (P : Machine → NemesisRun → Type 0)
    (still : (s : RunState) → P s.machine (nothing_done s))
    (planning : (n : ℕ) (e : Event) (s : RunState) → Q e → P s.machine (run_event t fs (Planned n) e s))
    (giving : (n i : ℕ) (e : Event) (s : RunState) → IsTrue (is_event t fs e) → P s.machine (run_event t fs (Added n i e) e s))
    (ignoring : (n i : ℕ) (s : RunState) → P s.machine (nemesis_run (Ignored n i ∷ []) [] s))
    (joining : (m : Machine) (a b : NemesisRun) → P m a → P a.after.machine b → P m (followed_by a b)) where
  added_if : (n i : ℕ) (e : Event) (s : RunState) (b : Bool) → is_event t fs e ≡ b → P s.machine (cond b (run_event t fs (Added n i e) e s) (nemesis_run (Ignored n i ∷ []) [] s))
  added_if n i e s true ok = giving n i e s ok
  added_if n i e s false ok = ignoring n i s

  added_has : (n i : ℕ) (o : Option Event) (s : RunState) → P s.machine (run_answer t fs n i o s)
  added_has n i None s = still s
  added_has n i (Some e) s = added_if n i e s (is_event t fs e) refl

  ask_by_has : (seen : Seen) (at : ℕ) (s : RunState) (o : Option NumberedNemesis) → P s.machine (ask_found t fs seen at s o)
  ask_by_has seen at s None = still s
  ask_by_has seen at s (Some k) = added_has seen.event k.number (answer_of k.automaton seen) (state s.machine (slice_set s.kept at (after_asking seen k)))

  asks_has : (seen : Seen) (count at : ℕ) (s : RunState) → P s.machine (ask_from t fs seen count at s)
  asks_has seen zero at s = still s
  asks_has seen (suc count) at s =
      let a = ask_one t fs seen at s in
      let rest = state a.after.machine (without_spent a.after.kept at) in
      joining s.machine a (ask_from t fs seen count (next_asked_index a.after.kept at) rest)
      (ask_by_has seen at s (slice_get s.kept at)) (asks_has seen count (next_asked_index a.after.kept at) rest)

  round_has : (n : ℕ) (e : Event) (s : RunState) → Q e → P s.machine (round t fs n e s)
  round_has n e s ok =
      let d = run_event t fs (Planned n) e s in
      let seen = seen_of n e (apply_event t fs s.machine e).line in
      joining s.machine d (ask_from t fs seen (length d.after.kept) 0 d.after) (planning n e s ok) (asks_has seen (length d.after.kept) 0 d.after)

  pub run_has : (n : ℕ) (es : List Event) (s : RunState) → AllByRecursion Q es → P s.machine (run_from t fs n es s)
  run_has n [] s all = still s
  run_has n (e ∷ es) s all =
      let r = round t fs n e s in
      joining s.machine r (run_from t fs (n + 1) es r.after) (round_has n e s all.0) (run_has (n + 1) es r.after all.1)
