-- The turns of a text, done one after another.
use Rattle.std.specs.Prelude.{◌≡◌, ◌<◌, ◌^◌, ℕ, List, ◌++◌, length, map, Result, Ok, Err, IfErr}
use Rattle.std.specs.List.{AllByRecursion}
use Rattle.boki_types.specs.declared.kind.Kind.TheVariants as kind
use Rattle.boki_types.specs.declared.program.Function.{Function}
use Rattle.boki_types.specs.declared.turn.Report.{Report}
use Rattle.boki_types.specs.declared.turn.Turn.{Turn}
use Rattle.boki_types.specs.declared.turn.TurnText.{TurnText}
use Rattle.boki_machine.specs.Ideal.{Ideal}
use Rattle.line_text.specs.declared.fault.TextFault.{TextFault}
use Rattle.line_text.specs.declared.fault.TextFault.TheVariants as faults
use Rattle.line_text.specs.Faults.{Fails}
use Rattle.plan_lang.specs.Printed.{report_text}
use Rattle.ideal_run.specs.Judged.{StandsFor, IsUndefined}
use Rattle.ideal_run.specs.Kept.{IdealState}
use Rattle.ideal_run.specs.Turned.{HasRequest}
use Rattle.judge_agrees.specs.Judged.{judge_in_order, judge_turns}

-- the turns behind the numbers of their lines
abbrev pub turns_alone : List (ℕ × Turn) → List Turn
turns_alone turns = map (λ x. x.1) turns

-- each submit has the number of a request
abbrev pub HaveRequests : List (ℕ × Turn) → Type 0
HaveRequests turns = AllByRecursion (λ x. HasRequest x.1) turns

-- what doing the turns of a text needs
pub record CanBeDone (t : TurnText) : Type 0 where
  pub few : length t.plan.program.functions < 2 ^ 32
  pub requests : HaveRequests t.turns

-- a turn that isn't done: it isn't defined, and is refused at its line; or memory ran out
abbrev pub TurnStops : List Function → ℕ → Turn → IdealState → TextFault → Type 0
TurnStops fs line t old (faults.Refused n k) = (n ≡ line) × (k ≡ kind.Illegal) × IsUndefined fs t old
TurnStops fs line t old faults.Memory = Unit {0}

-- all turns are defined, one behind the other, and the execution stands behind the last
pub record TurnsLeadTo (fs : List Function) (turns : List (ℕ × Turn)) (ts : List Turn) (m : Ideal) (kept : IdealState) : Type 0 where
  pub state : Ideal
  pub is : judge_in_order fs turns m ≡ Ok state
  pub stands : StandsFor fs (ts ++ turns_alone turns) state kept

abbrev pub AreDone : List Function → List (ℕ × Turn) → IdealState → IdealState → Type 0
AreDone fs turns old new = (m : Ideal) (ts : List Turn) → StandsFor fs ts m old → TurnsLeadTo fs turns ts m new

-- the line of the first turn that isn't defined; or memory ran out
abbrev pub StopsAt : List Function → List (ℕ × Turn) → IdealState → TextFault → Type 0
StopsAt fs turns old (faults.Refused n k) = (k ≡ kind.Illegal) × ((m : Ideal) (ts : List Turn) → StandsFor fs ts m old → judge_in_order fs turns m ≡ Err n)
StopsAt fs turns old faults.Memory = Unit {0}

-- the report is that behind the turns, or they are refused as the fault says
abbrev pub Reports : TurnText → Result Report TextFault → Type 0
Reports t (Ok r) = judge_turns t ≡ Ok (report_text t.plan.program.functions r)
Reports t (Err fault) = Fails fault (judge_turns t)
