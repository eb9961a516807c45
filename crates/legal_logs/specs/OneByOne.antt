-- What a program needs that goes from record to record, the oldest first, and from operation to operation.
use Rattle.std.specs.Prelude.{◌≡◌, ◌↔◌, ℕ, ◌≤◌, ◌++◌, IsTrue, Bool, true, List, [], ◌∷◌, Option, Some, None, Err}
use Rattle.lb_base.specs.declared.value.Value.{Value}
use Rattle.lb_base.specs.declared.value.Mode.{Mode}
use Rattle.lb_base.specs.declared.value.Outcome.{Outcome}
use Rattle.boki_types.specs.declared.body.Body.{Body}
use Rattle.boki_types.specs.declared.operation.Ask.{Ask}
use Rattle.boki_types.specs.declared.program.Function.{Function}
use Rattle.boki_model.specs.Live.{Live, is_live}
use Rattle.boki_model.specs.Bodies.{step_of}
use Rattle.boki_model.specs.Values.{same_value}
use Rattle.boki_machine.specs.Turns.{add_next_index}
use Rattle.boki_machine.specs.Ideal.{Ideal}
use Rattle.legal_logs.specs.Same.{same_outcome, same_names, same_values, same_writes, is_number}
use Rattle.legal_logs.specs.Legal.{go_if, legal_to, audit}

-- what lies ahead of the records before these, where this lies ahead of these
abbrev pub ahead_over : List (Live Body) → List (List ℕ × ℕ) → List (List ℕ × ℕ)
ahead_over [] ahead = ahead
ahead_over (x ∷ newer) ahead = ahead_over newer (add_next_index (step_of x.holds) ahead)

pub record GoesOneByOne : Type 0 where
  -- from the newest record to the oldest
  pub ahead :
      (newer : List (Live Body)) (x : Live Body) (ahead : List (List ℕ × ℕ))
      → ahead_over (newer ++ x ∷ []) ahead ≡ add_next_index (step_of x.holds) (ahead_over newer ahead)
  -- the first record that isn't legal decides
  pub first_illegal :
      (fs : List Function) (first : Mode) (objects : List (List ℕ × Value)) (newer older : List (Live Body)) (seq : ℕ)
      → legal_to fs first objects (ahead_over newer []) older ≡ Err seq → audit fs first objects (newer ++ older) ≡ Err seq
  -- and it is one of the records
  pub is_there :
      (fs : List Function) (first : Mode) (objects : List (List ℕ × Value)) (records : List (Live Body)) (seq : ℕ)
      → audit fs first objects records ≡ Err seq → IsTrue (is_live seq records)
  -- where some operations of a turn don't run, no further ones do
  pub refused :
      (fs : List Function) (tests : ℕ → Ask → Bool) (n most : ℕ) (p : List ℕ) (s : Ideal) → n ≤ most
      → go_if fs tests n p s ≡ None → go_if fs tests most p s ≡ None

-- The tests of sameness are those of equality.
pub record TestsTell : Type 0 where
  pub values : (v w : Value) → (same_value v w ≡ true) ↔ (v ≡ w)
  pub outcomes : (o p : Outcome) → (same_outcome o p ≡ true) ↔ (o ≡ p)
  pub lists_of_names : (xs ys : List (List ℕ)) → (same_names xs ys ≡ true) ↔ (xs ≡ ys)
  pub lists_of_values : (xs ys : List Value) → (same_values xs ys ≡ true) ↔ (xs ≡ ys)
  pub lists_of_writes : (xs ys : List (List ℕ × Value)) → (same_writes xs ys ≡ true) ↔ (xs ≡ ys)
  pub numbers : (o : Option ℕ) (n : ℕ) → (is_number o n ≡ true) ↔ (o ≡ Some n)
