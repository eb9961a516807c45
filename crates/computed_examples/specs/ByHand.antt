-- Turns that can't be done, and known numbers.
use Rattle.std.specs.Prelude.{◌≡◌, ◌+◌, ◌*◌, ◌^◌, pos, List, [], ◌∷◌, Option, None, codes}
use Rattle.lb_base.specs.declared.value.Value.TheVariants.{Int, Text}
use Rattle.boki_types.specs.declared.program.Function.{Function}
use Rattle.boki_types.specs.declared.turn.Turn.{Turn}
use Rattle.boki_types.specs.declared.turn.Turn.TheVariants as turn
use Rattle.boki_model.specs.Bodies.{key_tag, call_tag}
use Rattle.boki_machine.specs.Ideal.{Ideal, run_turns, initial_ideal}
use Rattle.computed_examples.specs.Functions.{set_function, parent_function}

abbrev pub functions : List Function
functions = set_function ∷ parent_function ∷ []

abbrev pub ideal_after : List Turn → Option Ideal
ideal_after turns = run_turns functions turns (initial_ideal [])

-- a request of a script with one operation
abbrev pub one_request : Turn
one_request = turn.Submit 1 0 (Text (codes "x") ∷ Int (pos 1) ∷ [])

-- Each of these lists of turns is one that the failure-free execution can't do.
pub record IllegalTurns : Type 0 where
  pub known : ideal_after (one_request ∷ one_request ∷ []) ≡ None
  pub unknown : ideal_after (turn.Go (1 ∷ []) 0 ∷ []) ≡ None
  pub too_many : ideal_after (one_request ∷ turn.Go (1 ∷ []) 2 ∷ []) ≡ None
  pub too_early : ideal_after (one_request ∷ turn.Go (1 ∷ []) 0 ∷ turn.End (1 ∷ []) ∷ []) ≡ None
  pub too_late : ideal_after (one_request ∷ turn.Go (1 ∷ []) 1 ∷ turn.End (1 ∷ []) ∷ turn.Go (1 ∷ []) 0 ∷ []) ≡ None
  pub joined_too_early : ideal_after (turn.Submit 1 1 [] ∷ turn.Go (1 ∷ []) 2 ∷ []) ≡ None

-- the tags of an object, and of the calls of a request and of a child of its child
pub record KnownTags : Type 0 where
  pub object : key_tag 5 (codes "a") ≡ 388396214107892876
  pub request : call_tag (1 ∷ []) ≡ 2 ^ 56 + 2 ^ 36
  pub grandchild : call_tag (1 ∷ 2 ∷ 3 ∷ []) ≡ 2 ^ 56 + 2 ^ 36 + 2 * 2 ^ 24 + 3 * 2 ^ 12
