-- The plans of transfers are plans.
use Rattle.std.proofs.Common.{◌≡◌, ℕ, zero, suc, ◌+◌, ◌*◌, ◌%◌, ◌^◌, ◌<◌, ◌≤◌, Bool, true, leb, ltb, ◌&&◌, List, [], ◌∷◌, ◌++◌, length, refl, ap, arith}
use Rattle.std.specs.Prelude.{pos, codes}
use Rattle.std.specs.List.{list_all}
use Rattle.std.proofs.lemmas.Bool.{and_parts, and_from, lt-ltb, le-leb}
use Rattle.std.proofs.lemmas.Fmt.{decimal_digit}
use denote.Hole.Carrier.{hidden}
use Rattle.lb_base.specs.declared.value.Value.TheVariants.{Int, Text}
use Rattle.lb_base.specs.Path.{is_request, is_path}
use Rattle.boki_types.specs.declared.expr.Expr.TheBlock.{shape-the_row-Expr-0, hidden-the_row-Expr-0}
use Rattle.boki_types.specs.declared.event.Event.TheVariants as v
use Rattle.boki_types.specs.declared.plan.Item.{Item}
use Rattle.boki_types.specs.declared.plan.Item.TheVariants.{Repeat}
use Rattle.boki_types.specs.declared.plan.Setup.{Setup}
use Rattle.boki_types.specs.declared.program.Function.{Function}
use Rattle.boki_model.specs.Bodies.{is_value}
use Rattle.boki_model.specs.Plans.{in_bounds, is_setup, are_objects, is_program, is_from_one_to, is_attempt, is_event, is_item, event_count, total_events}
use Rattle.plan_lang.specs.Generated.{account, accounts, move, source_digit, target_digit, move_args, move_items, all_moves, transfers}
use Rattle.transfer_laws.specs.Transfers.{TransfersArePlans}

abbrev pub its_setup : Setup
its_setup = (transfers 0).setup

abbrev pub functions : List Function
functions = move ∷ []

setup_is : is_setup its_setup ≡ true
setup_is = refl

program_is : is_program (transfers 0).program ≡ true
unfolding shape-the_row-Expr-0 hidden-the_row-Expr-0 hidden
program_is = refl

-- Accounts.

pub spelled : (d : ℕ) → d < 10 → account d ≡ codes "a" ++ (48 + d) ∷ []
spelled d lt = ap (λ t. codes "a" ++ t) (decimal_digit d lt)

digit_short : (d : ℕ) → d < 10 → is_value (Text (account d)) ≡ true
digit_short d lt = ap (λ t. leb (length t) 256) (spelled d lt)

objects_are : are_objects (accounts 10) ≡ true
objects_are = λ i. are_objects (
    (spelled 0 (omega arith) i, Int (pos 1000)) ∷ (spelled 1 (omega arith) i, Int (pos 1000))
    ∷ (spelled 2 (omega arith) i, Int (pos 1000)) ∷ (spelled 3 (omega arith) i, Int (pos 1000))
    ∷ (spelled 4 (omega arith) i, Int (pos 1000)) ∷ (spelled 5 (omega arith) i, Int (pos 1000))
    ∷ (spelled 6 (omega arith) i, Int (pos 1000)) ∷ (spelled 7 (omega arith) i, Int (pos 1000))
    ∷ (spelled 8 (omega arith) i, Int (pos 1000)) ∷ (spelled 9 (omega arith) i, Int (pos 1000)) ∷ [])

-- The items of one transfer.

module _ (i : ℕ) (one : 1 ≤ i) (few : i ≤ 4000) where
  between : (low high n : ℕ) → low ≤ n → n ≤ high → in_bounds low high n ≡ true
  between low high n below above = and_from (leb low n) (leb n high) (le-leb low n below) (le-leb n high above)

  engine_is : is_from_one_to 4 (i % 4 + 1) ≡ true
  engine_is = between 1 4 (i % 4 + 1) (omega arith) (omega arith)

  request_is : is_request i ≡ true
  request_is = and_from (ltb 0 i) (ltb i 1048576) (lt-ltb 0 i (omega arith)) (lt-ltb i 1048576 (omega arith))

  attempt_is : is_attempt i ≡ true
  attempt_is = between 1 4096 i one (omega arith)

  path_is : is_path (i ∷ []) ≡ true
  path_is = λ u. request_is u && true && true

  giver_is : is_value (Text (account (source_digit i))) ≡ true
  giver_is = digit_short (source_digit i) (omega arith)

  taker_is : is_value (Text (account (target_digit i))) ≡ true
  taker_is = digit_short (target_digit i) (omega arith)

  amount_is : is_value (Int (pos (i % 7))) ≡ true
  amount_is = lt-ltb (i % 7) (2 ^ 63) (omega arith)

  args_are : list_all is_value (move_args i) ≡ true
  args_are = λ u. giver_is u && (taker_is u && (amount_is u && true))

  submit_is : is_event its_setup functions (v.Submit (i % 4 + 1) i 0 (move_args i)) ≡ true
  submit_is = λ u. engine_is u && request_is u && args_are u && true

  start_is : is_event its_setup functions (v.Start i (i ∷ []) (i % 4 + 1)) ≡ true
  start_is = λ u. attempt_is u && path_is u && engine_is u

  steps_are : is_item its_setup functions (Repeat 12 (v.Step i ∷ v.Sync ∷ [])) ≡ true
  steps_are = λ u. attempt_is u && true

  move_is : list_all (is_item its_setup functions) (move_items i) ≡ true
  move_is = λ u. submit_is u && (start_is u && (steps_are u && true))

-- The items of all transfers.

pub all_append : {A : Type 0} (test : A → Bool) (xs ys : List A) → list_all test xs ≡ true → list_all test ys ≡ true → list_all test (xs ++ ys) ≡ true
all_append test [] ys one two = two
all_append test (x ∷ xs) ys one two =
    let parts = and_parts (test x) (list_all test xs) one in
    and_from (test x) (list_all test (xs ++ ys)) parts.0 (all_append test xs ys parts.1 two)

items_are : (n : ℕ) → n ≤ 4000 → list_all (is_item its_setup functions) (all_moves n) ≡ true
items_are zero le = refl
items_are (suc n) le =
    all_append (is_item its_setup functions) (all_moves n) (move_items (suc n)) (items_are n (omega (arith, le))) (move_is (suc n) (omega arith) le)

weights_append : (xs ys : List Item) → total_events (xs ++ ys) ≡ total_events xs + total_events ys
weights_append [] ys = omega arith
weights_append (x ∷ xs) ys = let rest = weights_append xs ys in let e : event_count x + total_events (xs ++ ys) ≡ event_count x + total_events xs + total_events ys = omega (arith, rest) in e

-- a transfer stands for 27 events
weights_are : (n : ℕ) → total_events (all_moves n) ≡ 27 * n
weights_are zero = refl
weights_are (suc n) = let more = weights_append (all_moves n) (move_items (suc n)) in let was = weights_are n in omega (arith, more, was)

pub transfers_are_plans : TransfersArePlans
transfers_are_plans n le = λ u. setup_is u && objects_are u && program_is u && items_are n le u && few u
  where
    few : leb (total_events (all_moves n)) 200000 ≡ true
    few = le-leb (total_events (all_moves n)) 200000 (let e = weights_are n in omega (arith, e, le))
