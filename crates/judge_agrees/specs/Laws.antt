-- What a run printed is judged to the same report.
use Rattle.std.specs.Prelude.{◌≡◌, ℕ, ◌+◌, ◌≤◌, IsTrue, List, [], ◌++◌, length, map, flat_map, Some, Ok, Err}
use Rattle.std.specs.List.{AllByRecursion}
use Rattle.boki_types.specs.declared.event.Event.{Event}
use Rattle.boki_types.specs.declared.plan.Plan.{Plan}
use Rattle.boki_types.specs.declared.program.Function.{Function}
use Rattle.boki_types.specs.declared.turn.Turn.{Turn}
use Rattle.boki_types.specs.declared.turn.TurnText.{TurnText}
use Rattle.boki_model.specs.Plans.{events, is_event}
use Rattle.boki_machine.specs.Ideal.{Ideal, run_turns}
use Rattle.boki_machine.specs.Machine.{Machine, initial_machine, apply_events, run_plan}
use Rattle.boki_machine.specs.Reports.{report}
use Rattle.call_base.specs.declared.status.Status.TheVariants.{Done}
use Rattle.call_base.specs.Due.{due}
use Rattle.plan_lang.specs.Printed.{turn_line, report_text}
use Rattle.plan_lang.specs.Texts.{plan_of}
use Rattle.line_text.specs.Texts.{line_count}
use Rattle.plan_lang.specs.Turns.{turns_of}
use Rattle.plan_lang.specs.TurnTexts.{is_turn, turns_head_text, with_line_numbers}
use Rattle.judge_agrees.specs.Counts.{turns_of_log, HaveAtMost}
use Rattle.judge_agrees.specs.Judged.{judge_in_order, judge_due}
use Rattle.judge_agrees.specs.Requests.{SubmitsUtf8}
use Rattle.judge_agrees.specs.Turns.{TurnIsUtf8}

-- A plan's head, the line `turns`, and turns, one in a line.
abbrev pub text_with : Plan → List Turn → List ℕ
text_with plan ts = turns_head_text plan ++ flat_map (turn_line plan.program.functions) ts

-- It spells this: the head, and each turn with the number of its line.
abbrev pub turn_text_of : Plan → List Turn → TurnText
turn_text_of plan ts = record { plan = record plan { items = [] }; turns = with_line_numbers (line_count (turns_head_text plan) + 1) ts }

-- Where a text may not be longer, or have more lines.
pub record IsWithinTextLimits (text : List ℕ) : Type 0 where
  pub bytes : length text ≤ 16777216
  pub lines : line_count text ≤ 300000

-- The head of a plan that a text spells, with turns that a text can have, is read again.
abbrev pub PlanWithTurnsIsRead : Type 0
PlanWithTurnsIsRead =
    (text : List ℕ) (plan : Plan) (ts : List Turn) → plan_of text ≡ Ok plan
    → AllByRecursion (λ x. IsTrue (is_turn plan.program.functions x)) ts → AllByRecursion TurnIsUtf8 ts
    → IsWithinTextLimits (text_with plan ts) → turns_of (text_with plan ts) ≡ Ok (turn_text_of plan ts)

-- Turns are judged by their failure-free execution, whatever their lines.
pub record AreJudged (fs : List Function) (ts : List (ℕ × Turn)) (first : Ideal) : Type 0 where
  pub runs : (last : Ideal) → run_turns fs (map (λ x. x.1) ts) first ≡ Some last → judge_in_order fs ts first ≡ Ok last
  pub only : (last : Ideal) → judge_in_order fs ts first ≡ Ok last → run_turns fs (map (λ x. x.1) ts) first ≡ Some last

abbrev pub JudgedRuns : Type 0
JudgedRuns = (fs : List Function) (ts : List (ℕ × Turn)) (first : Ideal) → AreJudged fs ts first

-- A program may go from turn to turn: the first that can't be done decides, with its line.
pub record JudgedInParts (fs : List Function) (ts : List (ℕ × Turn)) (first : Ideal) : Type 0 where
  pub on :
      (next : Ideal) (others : List (ℕ × Turn))
      → judge_in_order fs ts first ≡ Ok next → judge_in_order fs (ts ++ others) first ≡ judge_in_order fs others next
  pub stops :
      (line : ℕ) (others : List (ℕ × Turn))
      → judge_in_order fs ts first ≡ Err line → judge_in_order fs (ts ++ others) first ≡ Err line

abbrev pub JudgedOneByOne : Type 0
JudgedOneByOne = (fs : List Function) (ts : List (ℕ × Turn)) (first : Ideal) → JudgedInParts fs ts first

-- The text made of a plan's head and the turns of its machine.
abbrev pub turns_printed : Plan → Machine → List ℕ
turns_printed plan m = text_with plan (turns_of_log plan.program.functions m)

-- It is read as these turns, and judged to the machine's report.
pub record IsJudged (plan : Plan) (m : Machine) : Type 0 where
  pub read : turns_of (turns_printed plan m) ≡ Ok (turn_text_of plan (turns_of_log plan.program.functions m))
  pub due : judge_due (turns_printed plan m) ≡ due Done (report_text plan.program.functions (report plan.program.functions m))

-- So it is for a plan that a text spells, behind any events that it can have, whose texts are UTF-8: where the text of the
-- turns is within its limits, and each count of operations too.
abbrev pub JudgeAgrees : Type 0
JudgeAgrees =
    (text : List ℕ) (plan : Plan) (events : List Event) → plan_of text ≡ Ok plan
    → AllByRecursion (λ e. IsTrue (is_event plan.setup plan.program.functions e)) events
    → AllByRecursion SubmitsUtf8 events
    → let m = (apply_events plan.setup plan.program.functions events (initial_machine plan.setup plan.objects)).machine in
    HaveAtMost 200000 (turns_of_log plan.program.functions m) → IsWithinTextLimits (turns_printed plan m) → IsJudged plan m

-- The texts of a plan's own events are UTF-8, where a text spells the plan.
abbrev pub PlanGivesTexts : Type 0
PlanGivesTexts = (text : List ℕ) (plan : Plan) → plan_of text ≡ Ok plan → AllByRecursion SubmitsUtf8 (events plan.items)

-- So it is for the run of a plan that a text spells: it has at most 200,000 events, and so no more operations in a turn.
abbrev pub PlansAreJudged : Type 0
PlansAreJudged =
    (text : List ℕ) (plan : Plan) → plan_of text ≡ Ok plan
    → let m = (run_plan plan).machine in
    IsWithinTextLimits (turns_printed plan m) → IsJudged plan m
