-- What a machine orders is legal, and the report of its audit is the machine's; and a legal log's turns run without failures.
use Rattle.std.specs.Prelude.{◌≡◌, ℕ, IsTrue, Bool, true, List, [], Some, Ok}
use Rattle.std.specs.List.{AllByRecursion}
use Rattle.lb_base.specs.declared.value.Value.{Value}
use Rattle.lb_base.specs.declared.value.Mode.{Mode}
use Rattle.lb_base.specs.declared.value.Mode.TheVariants.{W}
use Rattle.boki_types.specs.declared.body.Body.{Body}
use Rattle.boki_types.specs.declared.body.Body.TheVariants as b
use Rattle.boki_types.specs.declared.event.Event.{Event}
use Rattle.boki_types.specs.declared.plan.Setup.{Setup}
use Rattle.boki_types.specs.declared.plan.Plan.{Plan}
use Rattle.boki_types.specs.declared.program.Function.{Function}
use Rattle.boki_types.specs.declared.turn.Report.{Report}
use Rattle.boki_model.specs.Live.{Live}
use Rattle.boki_model.specs.Plans.{distinct, function_names, is_event, is_plan}
use Rattle.boki_machine.specs.Machine.{Machine, live_records, initial_machine, apply_event, apply_events, run_plan}
use Rattle.boki_machine.specs.Turns.{turns}
use Rattle.boki_machine.specs.Ideal.{Ideal, run_turns}
use Rattle.boki_machine.specs.Ideal as run_turns
use Rattle.boki_machine.specs.Reports.{report, ideal_report}
use Rattle.exactly_once.specs.FurtherLaws.ModesAndFloors.{BeganInMode, IsEnded}
use Rattle.exactly_once.specs.Induction.Invariant.{InvariantHolds}
use Rattle.exactly_once.specs.FurtherLaws.Words.{all_records}
use Rattle.exactly_once.specs.Induction.OpeningHolds.{world_of}
use Rattle.legal_logs.specs.Legal.{calls_function, audit}

-- a request calls a function of the program
abbrev pub request_known : List Function → Body → Bool
request_known fs (b.Submit p name args) = calls_function fs name args
request_known fs _ = true

-- No invocation of mode W is unfinished. The free writes of such a one would stand in the object store alone.
abbrev pub NoneUnfinished : Mode → List (Live Body) → Type 0
NoneUnfinished first records = (path : List ℕ) (seq : ℕ) → BeganInMode first records path seq W → IsEnded path records

-- So the turns don't need the store's versions.
abbrev pub TurnsNeedNoStore : Type 0
TurnsNeedNoStore =
    (setup : Setup) (fs : List Function) (m : Machine) → InvariantHolds setup fs (world_of m) → NoneUnfinished setup.mode (live_records m)
    → turns fs m.store.versions (live_records m) ≡ turns fs [] (live_records m)

-- each live request does
abbrev pub RequestsKnown : List Function → List (Live Body) → Type 0
RequestsKnown fs records = AllByRecursion (λ x. IsTrue (request_known fs x.holds)) records

-- Where the invariant holds, the log is legal, and the report of its audit is the machine's.
abbrev pub HoldingIsAudited : Type 0
HoldingIsAudited =
    (setup : Setup) (fs : List Function) (m : Machine) → InvariantHolds setup fs (world_of m) → RequestsKnown fs (live_records m)
    → NoneUnfinished setup.mode (live_records m) → audit fs setup.mode m.store.initial (live_records m) ≡ Ok (report fs m)

-- Each request that was ever sent does, and every event that a plan can have keeps that, where no two functions share a name.
abbrev pub AllRequestsKnown : List Function → Machine → Type 0
AllRequestsKnown fs m = AllByRecursion (λ r. IsTrue (request_known fs r.holds)) (all_records m.shards)

abbrev pub RequestsStayKnown : Type 0
RequestsStayKnown =
    (setup : Setup) (fs : List Function) (m : Machine) (event : Event) → IsTrue (distinct (function_names fs)) → IsTrue (is_event setup fs event)
    → AllRequestsKnown fs m → AllRequestsKnown fs (apply_event setup fs m event).machine

-- So it is for any events in any number, from the opening with these objects.
abbrev pub EventsAreAudited : Type 0
EventsAreAudited =
    (setup : Setup) (fs : List Function) (objects : List (List ℕ × Value)) (events : List Event)
    → IsTrue (distinct (function_names fs)) → AllByRecursion (λ e. IsTrue (is_event setup fs e)) events
    → let m = (apply_events setup fs events (initial_machine setup objects)).machine in
    NoneUnfinished setup.mode (live_records m) → audit fs setup.mode objects (live_records m) ≡ Ok (report fs m)

-- And so for every plan.
abbrev pub PlansAreAudited : Type 0
PlansAreAudited =
    (plan : Plan) → IsTrue (is_plan plan)
    → let m = (run_plan plan).machine in
    NoneUnfinished plan.setup.mode (live_records m)
    → audit plan.program.functions plan.setup.mode plan.objects (live_records m) ≡ Ok (report plan.program.functions m)

-- The failure-free execution of a legal log's turns is defined, and has the report that the audit gives.
pub record IsFailureFree (fs : List Function) (objects : List (List ℕ × Value)) (records : List (Live Body)) (reported : Report) : Type 0 where
  pub state : Ideal
  pub defined : run_turns fs (turns fs [] records) (run_turns.initial_ideal objects) ≡ Some state
  pub has_report : ideal_report (turns fs [] records) state ≡ reported

abbrev pub LegalLogsRun : Type 0
LegalLogsRun =
    (fs : List Function) (first : Mode) (objects : List (List ℕ × Value)) (records : List (Live Body)) (reported : Report)
    → audit fs first objects records ≡ Ok reported → IsFailureFree fs objects records reported
