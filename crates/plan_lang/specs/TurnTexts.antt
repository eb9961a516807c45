-- The turns that a text can have, and the canonical text of turns.
use Rattle.std.specs.Prelude.{ℕ, ◌+◌, Bool, ◌&&◌, List, [], ◌∷◌, length, map, codes, flat_map}
use Rattle.std.specs.List.{list_all}
use Rattle.lb_base.specs.Path.{is_path, is_request}
use Rattle.boki_types.specs.declared.plan.Plan.{Plan}
use Rattle.boki_types.specs.declared.program.Function.{Function}
use Rattle.boki_types.specs.declared.turn.Turn.{Turn}
use Rattle.boki_types.specs.declared.turn.Turn.TheVariants as u
use Rattle.boki_types.specs.declared.turn.TurnText.{TurnText}
use Rattle.boki_types.specs.Finding.{function_at}
use Rattle.boki_model.specs.Bodies.{is_value}
use Rattle.boki_model.specs.Plans.{in_bounds, has_arity}
use Rattle.script_lang.specs.Printed.{◌&◌}
use Rattle.plan_lang.specs.Printed.{head_text, turn_line}
use Rattle.line_text.specs.Texts.{line_count}

-- a turn that a text with these functions can have
abbrev pub is_turn : List Function → Turn → Bool
is_turn fs (u.Submit request f args) = is_request request && list_all is_value args && has_arity (length args) (function_at f fs)
is_turn fs (u.Go path n) = is_path path && in_bounds 0 200000 n
is_turn fs (u.End path) = is_path path

-- all before the turns
abbrev pub turns_head_text : Plan → List ℕ
turns_head_text plan = head_text plan & codes "turns\n"

abbrev pub turns_text : TurnText → List ℕ
turns_text t = turns_head_text t.plan & flat_map (turn_line t.plan.program.functions) (map (λ p. p.1) t.turns)

-- the turns with the numbers of their lines, from the number n on
abbrev pub with_line_numbers : ℕ → List Turn → List (ℕ × Turn)
with_line_numbers n [] = []
with_line_numbers n (x ∷ xs) = (n, x) ∷ with_line_numbers (n + 1) xs

-- the same turns, each with the number of its line in the canonical text
abbrev pub with_canonical_lines : TurnText → TurnText
with_canonical_lines t = record t { turns = with_line_numbers (line_count (turns_head_text t.plan) + 1) (map (λ p. p.1) t.turns) }
