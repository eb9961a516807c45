-- Judging a text of turns: its turns run one after another over maps, with no log, shard or attempt, and what is said of it.
use Rattle.std.specs.Prelude.{ℕ, List, [], ◌∷◌, map, Option, Some, None, Result, Ok, Err}
use Rattle.boki_types.specs.declared.kind.Kind.TheVariants as kind
use Rattle.boki_types.specs.declared.program.Function.{Function}
use Rattle.boki_types.specs.declared.turn.Turn.{Turn}
use Rattle.boki_types.specs.declared.turn.TurnText.{TurnText}
use Rattle.boki_machine.specs.Ideal.{Ideal, apply_turn, initial_ideal}
use Rattle.boki_machine.specs.Reports.{ideal_report}
use Rattle.call_base.specs.declared.status.Status.TheVariants.{Done}
use Rattle.call_base.specs.Due.{Due, due, due_by}
use Rattle.line_text.specs.declared.fault.TextFault.{TextFault}
use Rattle.plan_lang.specs.Printed.{report_text}
use Rattle.line_text.specs.Faults.{refused_at}
use Rattle.plan_lang.specs.Turns.{turns_of}

-- the turns run in order, each with the number of its line; Err is the line of the first that can't be done
abbrev pub judge_rest : (Ideal → Result Ideal ℕ) → ℕ → Option Ideal → Result Ideal ℕ
judge_rest others line None = Err line
judge_rest others line (Some s) = others s

abbrev pub judge_in_order : List Function → List (ℕ × Turn) → Ideal → Result Ideal ℕ
judge_in_order fs [] s = Ok s
judge_in_order fs (t ∷ ts) s = judge_rest (judge_in_order fs ts) t.0 (apply_turn fs t.1 s)

-- the text of the report, or the line that is refused
abbrev pub judgement : List Function → List Turn → Result Ideal ℕ → Result (List ℕ) TextFault
judgement fs ts (Ok s) = Ok (report_text fs (ideal_report ts s))
judgement fs ts (Err line) = Err (refused_at line kind.Illegal)

abbrev pub judge_turns : TurnText → Result (List ℕ) TextFault
judge_turns t =
    let fs = t.plan.program.functions in
    judgement fs (map (λ x. x.1) t.turns) (judge_in_order fs t.turns (initial_ideal t.plan.objects))

abbrev pub judge_by : Result TurnText TextFault → Result (List ℕ) TextFault
judge_by (Ok t) = judge_turns t
judge_by (Err fault) = Err fault

-- what a text of turns is judged to: the report behind its last turn; or a refusal, with the line and kind that the grammar
-- gives, or `illegal` at the first turn that can't be done
abbrev pub judged_text : List ℕ → Result (List ℕ) TextFault
judged_text text = judge_by (turns_of text)

-- What is due of a call that judges a text: Done with the text of the report, or the refusal.
abbrev pub judge_due : List ℕ → Due
judge_due text = due_by (due Done) (judged_text text)
