-- The events that the program's own nemeses give are valid.
use Rattle.std.proofs.Common.{◌≡◌, ℕ, ◌+◌, ◌-◌, Bool, true, false, cond, List, [], ◌∷◌, Option, Some, None, refl, arith}
use Rattle.std.specs.Prelude.{nat_le, ◌==◌, ◌&&◌, IsTrue, IfSome}
use Rattle.std.proofs.lemmas.Bool.{and_parts, leb-true, le-leb}
use Rattle.boki_types.specs.declared.event.Event.{Event}
use Rattle.boki_types.specs.declared.event.Event.TheVariants as v
use Rattle.boki_types.specs.declared.line.Line.{Line}
use Rattle.boki_types.specs.declared.line.Line.TheVariants as l
use Rattle.boki_types.specs.declared.plan.Setup.{Setup}
use Rattle.boki_types.specs.declared.program.Function.{Function}
use Rattle.boki_model.specs.Plans.{is_event, is_attempt, is_from_one_to}
use Rattle.lb_base.specs.Path.{is_path}
use Rattle.nemesis_types.specs.declared.seen.Seen.{Seen}
use Rattle.nemesis_types.specs.StandardNemeses.{count_if_some, next_of_counter, counter, kill_of, lose_of, second_event, next_of_doubler}
use Rattle.run_with.specs.Runs.{seen_of, attempt_started, attempt_stepped, step_sent}
use Rattle.run_with.specs.Laws.{StandardAreValid}

both : (a b : Bool) → a ≡ true → b ≡ true → (a && b) ≡ true
both a b p q = rw (p, q) refl

shifted : (a : ℕ) → nat_le a 2048 ≡ true → is_attempt a ≡ true → is_attempt (a + 2048) ≡ true
shifted a low ok =
    let below = leb-true a 2048 low in
    both (nat_le 1 (a + 2048)) (nat_le (a + 2048) 4096) (le-leb 1 (a + 2048) (omega arith)) (le-leb (a + 2048) 4096 (omega arith))

module _ (t : Setup) (fs : List Function) where
  abbrev Valid : Option Event → Type 0
  Valid o = IfSome o (λ a. IsTrue (is_event t fs a))

  valid_if : (b : Bool) (o : Option Event) → (b ≡ true → Valid o) → Valid (cond b o None)
  valid_if true o ok = ok refl
  valid_if false o ok = tt

  counted_by : (every count left : ℕ) (act : Event) (b : Bool) → IsTrue (is_event t fs act) → Valid (cond {A = Option Event × List ℕ} b (Some act, counter every 0 (left - 1)) (None, counter every (count + 1) left)).0
  counted_by every count left act true ok = ok
  counted_by every count left act false ok = tt

  counted_valid : (every count left : ℕ) (o : Option Event) → Valid o → Valid (count_if_some every count left o).0
  counted_valid every count left None ok = tt
  counted_valid every count left (Some act) ok = counted_by every count left act ((count + 1) == every) ok

  counts_by : (every count left : ℕ) (o : Option Event) (b : Bool) → Valid o → Valid (cond {A = Option Event × List ℕ} b (None, counter every count left) (count_if_some every count left o)).0
  counts_by every count left o true ok = tt
  counts_by every count left o false ok = counted_valid every count left o ok

  counts_valid : (act : Seen → Option Event) (list : List ℕ) (seen : Seen) → Valid (act seen) → Valid (next_of_counter act list seen).0
  counts_valid act [] seen ok = tt
  counts_valid act (every ∷ []) seen ok = tt
  counts_valid act (every ∷ count ∷ []) seen ok = tt
  counts_valid act (every ∷ count ∷ left ∷ []) seen ok = counts_by every count left (act seen) (left == 0) ok
  counts_valid act (every ∷ count ∷ left ∷ more ∷ rest) seen ok = tt

  kills_valid : (n : ℕ) (e : Event) (line : Line) → IsTrue (is_event t fs e) → Valid (kill_of (seen_of n e line))
  kills_valid n (v.Step attempt) line ok = ok
  kills_valid n _ line ok = tt

  loses_valid : (n : ℕ) (e : Event) (line : Line) → IsTrue (is_event t fs e) → Valid (lose_of (seen_of n e line))
  loses_valid n (v.Step attempt) line ok = valid_if (step_sent (v.Step attempt) line) (Some (v.Lose attempt)) (λ sent. ok)
  loses_valid n _ line ok = tt

  started_valid : (attempt engine : ℕ) (path : List ℕ) (line : Line) → IsTrue (is_event t fs (v.Start attempt path engine)) → Valid (second_event (attempt_started (v.Start attempt path engine) line) None)
  started_valid attempt engine path l.Started ok =
      let parts = and_parts (is_attempt attempt && is_path path) (is_from_one_to t.engines engine) ok in
      let first = and_parts (is_attempt attempt) (is_path path) parts.0 in
      valid_if (nat_le attempt 2048) (Some (v.Start (attempt + 2048) path engine))
      (λ low. both (is_attempt (attempt + 2048) && is_path path) (is_from_one_to t.engines engine) (both (is_attempt (attempt + 2048)) (is_path path) (shifted attempt low first.0) first.1) parts.1)
  started_valid attempt engine path _ ok = tt

  doubled_valid : (n : ℕ) (e : Event) (line : Line) → IsTrue (is_event t fs e) → Valid (second_event (attempt_started e line) (attempt_stepped e))
  doubled_valid n (v.Start attempt path engine) line ok = started_valid attempt engine path line ok
  doubled_valid n (v.Step attempt) line ok = valid_if (nat_le attempt 2048) (Some (v.Step (attempt + 2048))) (λ low. shifted attempt low ok)
  doubled_valid n _ line ok = tt

  doubles_valid : (list : List ℕ) (seen : Seen) → Valid (second_event seen.started seen.stepped) → Valid (next_of_doubler list seen).0
  doubles_valid [] seen ok = tt
  doubles_valid (on ∷ []) seen ok = valid_if (on == 1) (second_event seen.started seen.stepped) (λ yes. ok)
  doubles_valid (on ∷ more ∷ rest) seen ok = tt

pub standard_are_valid : StandardAreValid
standard_are_valid = record {
  killer = λ t fs n e line list ok. counts_valid t fs kill_of list (seen_of n e line) (kills_valid t fs n e line ok);
  doubler = λ t fs n e line list ok. doubles_valid t fs list (seen_of n e line) (doubled_valid t fs n e line ok);
  loser = λ t fs n e line list ok. counts_valid t fs lose_of list (seen_of n e line) (loses_valid t fs n e line ok);
}
