-- How many events are done.
use Rattle.std.proofs.Common.{◌≡◌, ℕ, zero, suc, ◌+◌, ◌*◌, ◌≤◌, Bool, true, false, cond, List, [], ◌∷◌, length, Option, Some, None, arith, length-append}
use Rattle.std.proofs.Math.Nat.{mul-le-mul_left}
use Rattle.std.specs.Prelude.{slice_get, slice_set}
use Rattle.boki_types.specs.declared.event.Event.{Event}
use Rattle.boki_types.specs.declared.plan.Setup.{Setup}
use Rattle.boki_types.specs.declared.program.Function.{Function}
use Rattle.boki_model.specs.Plans.{is_event}
use Rattle.boki_machine.specs.Machine.{apply_event}
use Rattle.nemesis_types.specs.declared.seen.Seen.{Seen}
use Rattle.nemesis_types.specs.Automaton.{answer_of}
use Rattle.nemesis_types.specs.Kept.{NumberedNemesis, after_asking, next_asked_index, without_spent}
use Rattle.run_with.specs.Runs.{Planned, Added, Ignored, RunState, state, nemesis_run, seen_of, run_event, run_answer, ask_found, ask_one, ask_from, round, run_from}
use Rattle.run_with.proofs.Remain.{remain_round, remain_reseeded, remain_length}

sum_few : (p a b l k j : ℕ) → p ≡ a + b → a ≤ k + 1 → b ≤ l * (j + 1) → j ≤ k → p ≤ suc l * (k + 1)
sum_few p a b l k j is one more fewer =
    let bound : l * (j + 1) ≤ l * (k + 1) = mul-le-mul_left l (omega arith) in
    omega arith

module _ (t : Setup) (fs : List Function) where
  if_few : (n i : ℕ) (e : Event) (s : RunState) (b : Bool) → length (cond b (run_event t fs (Added n i e) e s) (nemesis_run (Ignored n i ∷ []) [] s)).performed ≤ 1
  if_few n i e s true = omega arith
  if_few n i e s false = omega arith

  added_few : (n i : ℕ) (o : Option Event) (s : RunState) → length (run_answer t fs n i o s).performed ≤ 1
  added_few n i None s = omega arith
  added_few n i (Some e) s = if_few n i e s (is_event t fs e)

  ask_by_few : (seen : Seen) (at : ℕ) (s : RunState) (o : Option NumberedNemesis) → length (ask_found t fs seen at s o).performed ≤ 1
  ask_by_few seen at s None = omega arith
  ask_by_few seen at s (Some k) = added_few seen.event k.number (answer_of k.automaton seen) (state s.machine (slice_set s.kept at (after_asking seen k)))

  asks_few : (seen : Seen) (count at : ℕ) (s : RunState) → length (ask_from t fs seen count at s).performed ≤ count
  asks_few seen zero at s = omega arith
  asks_few seen (suc count) at s =
      let a = ask_one t fs seen at s in
      let rest = ask_from t fs seen count (next_asked_index a.after.kept at) (state a.after.machine (without_spent a.after.kept at)) in
      let one = ask_by_few seen at s (slice_get s.kept at) in
      let more = asks_few seen count (next_asked_index a.after.kept at) (state a.after.machine (without_spent a.after.kept at)) in
      omega (arith, length-append a.performed rest.performed)

  round_few : (n : ℕ) (e : Event) (s : RunState) → length (round t fs n e s).performed ≤ length s.kept + 1
  round_few n e s =
      let d = run_event t fs (Planned n) e s in
      let seen = seen_of n e (apply_event t fs s.machine e).line in
      let more = asks_few seen (length d.after.kept) 0 d.after in
      let fewer = remain_length (remain_reseeded e s.kept) in
      omega arith

  pub run_few : (n : ℕ) (es : List Event) (s : RunState) → length (run_from t fs n es s).performed ≤ length es * (length s.kept + 1)
  run_few n [] s = omega arith
  run_few n (e ∷ es) s =
      let r = round t fs n e s in
      let one = round_few n e s in
      let more = run_few (n + 1) es r.after in
      let fewer = remain_length (remain_round t fs n e s) in
      sum_few _ _ _ (length es) (length s.kept) (length r.after.kept) (length-append r.performed (run_from t fs (n + 1) es r.after).performed) one more fewer
