-- Laws of runs with nemeses.
use Rattle.std.specs.Prelude.{◌≡◌, ℕ, zero, suc, ◌+◌, ◌*◌, ◌≤◌, IsTrue, List, [], ◌∷◌, ◌++◌, length, map, Option, Some, None, IfSome, slice_get}
use Rattle.std.specs.List.{AllByRecursion}
use Rattle.boki_types.specs.declared.event.Event.{Event}
use Rattle.boki_types.specs.declared.line.Line.{Line}
use Rattle.boki_types.specs.declared.plan.Setup.{Setup}
use Rattle.boki_types.specs.declared.plan.Plan.{Plan}
use Rattle.boki_types.specs.declared.program.Function.{Function}
use Rattle.boki_types.specs.declared.turn.Report.{Report}
use Rattle.boki_model.specs.Plans.{is_event, is_plan, events}
use Rattle.boki_machine.specs.Ideal.{Ideal, run_turns}
use Rattle.boki_machine.specs.Ideal as run_turns
use Rattle.boki_machine.specs.Machine.{Machine, live_records, initial_machine, apply_events, run_plan}
use Rattle.boki_machine.specs.Reports.{report, ideal_report}
use Rattle.exactly_once.specs.FurtherLaws.LogEconomy.{EndedAreEconomic}
use Rattle.exactly_once.specs.FurtherLaws.EndedInvocations.{EndedHaveNoEffect}
use Rattle.exactly_once.specs.FurtherLaws.ModesAndFloors.{NeverBeside}
use Rattle.exactly_once.specs.Theorem.ExactlyOnce.{IsExact}
use Rattle.exactly_once.specs.FurtherLaws.StoreBound.{HeldOnce}
use Rattle.exactly_once.specs.FurtherLaws.DecidedAnswers.{DecidedAnswersStay}
use Rattle.exactly_once.specs.FurtherLaws.AnyEvents.{DuplicatesAgree}
use Rattle.nemesis_types.specs.declared.seen.Seen.{Seen}
use Rattle.nemesis_types.specs.Automaton.{Automaton, SameLaw}
use Rattle.nemesis_types.specs.Kept.{NumberedNemesis}
use Rattle.nemesis_types.specs.StandardNemeses as automata
use Rattle.nemesis_types.specs.Kept.{next_asked_index, without_spent}
use Rattle.run_with.specs.Runs.{Output, Planned, Added, Ignored, RunState, state, NemesisRun, seen_of, ask_one, run_with, performed}

-- the lines of the events that were done
abbrev pub lines_done : List Output → List Line
lines_done [] = []
lines_done (Planned n line ∷ out) = line ∷ lines_done out
lines_done (Added n i e line ∷ out) = line ∷ lines_done out
lines_done (Ignored n i ∷ out) = lines_done out

-- What is told from a machine on is the run of the events that were done.
pub record IsRun (setup : Setup) (fs : List Function) (m : Machine) (t : NemesisRun) : Type 0 where
  pub machine : t.after.machine ≡ (apply_events setup fs t.performed m).machine
  pub lines : lines_done t.lines ≡ (apply_events setup fs t.performed m).lines

abbrev pub RunsArePerformed : Type 0
RunsArePerformed =
    (plan : Plan) (kept : List NumberedNemesis)
    → IsRun plan.setup plan.program.functions (initial_machine plan.setup plan.objects) (run_with plan kept)

-- Each of these events is one that the plan can have.
abbrev pub PerformedMayHappen : Type 0
PerformedMayHappen =
    (plan : Plan) (kept : List NumberedNemesis) → IsTrue (is_plan plan)
    → AllByRecursion (λ e. IsTrue (is_event plan.setup plan.program.functions e)) (performed plan kept)

-- There are at most as many as if each nemesis gave one behind each event of the plan.
abbrev pub PerformedAreFew : Type 0
PerformedAreFew =
    (plan : Plan) (kept : List NumberedNemesis) → length (performed plan kept) ≤ length (events plan.items) * (length kept + 1)

-- A report is that of the failure-free execution of its own turns, which is defined, from the plan's objects.
pub record IsFailureFreeReport (plan : Plan) (told : Report) : Type 0 where
  pub state : Ideal
  pub defined : run_turns plan.program.functions told.turns (run_turns.initial_ideal plan.objects) ≡ Some state
  pub reported : ideal_report told.turns state ≡ told

-- What holds of the machine behind a run, whatever the nemeses did:
pub record RunGuarantees (plan : Plan) (m : Machine) : Type 0 where
  -- its report is that of the failure-free execution of the turns in it
  pub printed : IsFailureFreeReport plan (report plan.program.functions m)
  -- which are the turns of its live records
  pub exact : IsExact plan.program.functions plan.objects m
  -- the answers of each attempt are the first ones that its invocation has decided, and these stay
  pub duplicates : DuplicatesAgree plan.setup plan.program.functions m
  pub decided : DecidedAnswersStay plan.setup plan.program.functions m
  -- an invocation that has ended has a step record for its begin, its end and each operation that isn't free,
  -- and nothing that its attempts still do counts
  pub economic : EndedAreEconomic plan.setup plan.program.functions m
  pub left : EndedHaveNoEffect plan.setup plan.program.functions m
  -- invocations of mode R and of mode W never run beside each other
  pub modes : NeverBeside plan.setup.mode (live_records m)
  -- the store holds each key, version and name once, no version below the floor, and no named value whose
  -- write lies below it
  pub held : HeldOnce plan.setup plan.program.functions m

abbrev pub RunsAreExact : Type 0
RunsAreExact =
    (plan : Plan) (kept : List NumberedNemesis) → IsTrue (is_plan plan)
    → RunGuarantees plan (run_with plan kept).after.machine

-- With no nemeses a run is that of the plan alone.
abbrev pub planned_from : ℕ → List Line → List Output
planned_from n [] = []
planned_from n (line ∷ lines) = Planned n line ∷ planned_from (n + 1) lines

pub record IsPlain (plan : Plan) (t : NemesisRun) : Type 0 where
  pub lines : t.lines ≡ planned_from 1 (run_plan plan).lines
  pub performed : t.performed ≡ events plan.items
  pub machine : t.after.machine ≡ (run_plan plan).machine
  pub kept : t.after.kept ≡ []

abbrev pub PlainRuns : Type 0
PlainRuns = (plan : Plan) → IsPlain plan (run_with plan [])

-- The numbers of those that are asked, ask by ask.
abbrev pub number_asked : Option NumberedNemesis → List ℕ
number_asked None = []
number_asked (Some k) = k.number ∷ []

abbrev pub numbers_asked : Setup → List Function → Seen → ℕ → ℕ → RunState → List ℕ
numbers_asked t fs seen zero at s = []
numbers_asked t fs seen (suc count) at s =
    let a = ask_one t fs seen at s in
    let rest = state a.after.machine (without_spent a.after.kept at) in
    number_asked (slice_get s.kept at) ++ numbers_asked t fs seen count (next_asked_index a.after.kept at) rest

-- Where as many are asked as are kept, from the index 0 on, these are all of them, once, in order: none is
-- passed over or asked twice where others are dropped.
abbrev pub AskedInTurn : Type 0
AskedInTurn =
    (setup : Setup) (fs : List Function) (seen : Seen) (s : RunState)
    → numbers_asked setup fs seen (length s.kept) 0 s ≡ map (λ k. k.number) s.kept

-- What the program's own nemeses give behind an event that a plan can have, is one too, whatever their
-- numbers are.
abbrev pub GivesValid : Automaton → Type 0
GivesValid automaton =
    (setup : Setup) (fs : List Function) (n : ℕ) (e : Event) (line : Line) (list : List ℕ)
    → IsTrue (is_event setup fs e)
    → IfSome (automaton.next list (seen_of n e line)).0 (λ a. IsTrue (is_event setup fs a))

pub record StandardAreValid : Type 0 where
  pub killer : GivesValid automata.killer
  pub doubler : GivesValid automata.doubler
  pub loser : GivesValid automata.loser

-- Nemeses at first and later: those that are still there stand in their order, with their numbers and their
-- laws.
pub data Remain : List NumberedNemesis → List NumberedNemesis → Type 0 where
  none : Remain [] []
  stays :
      {j k : NumberedNemesis} {old new : List NumberedNemesis} → k.number ≡ j.number → SameLaw k.automaton j.automaton → Remain old new
      → Remain (j ∷ old) (k ∷ new)
  dropped : {j : NumberedNemesis} {old new : List NumberedNemesis} → Remain old new → Remain (j ∷ old) new

abbrev pub LawsStay : Type 0
LawsStay = (plan : Plan) (kept : List NumberedNemesis) → Remain kept (run_with plan kept).after.kept
