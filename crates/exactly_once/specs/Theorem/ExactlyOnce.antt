-- The statement of the central theorem rests on this file.
-- Exactly once: whatever happens to a machine, its report is that of the failure-free execution of its turns.
use Rattle.std.specs.Prelude.{◌≡◌, ℕ, IsTrue, List, Some}
use Rattle.std.specs.List.{AllByRecursion}
use Rattle.lb_base.specs.declared.value.Value.{Value}
use Rattle.boki_types.specs.declared.event.Event.{Event}
use Rattle.boki_types.specs.declared.plan.Setup.{Setup}
use Rattle.boki_types.specs.declared.plan.Plan.{Plan}
use Rattle.boki_types.specs.declared.program.Function.{Function}
use Rattle.boki_model.specs.Plans.{is_event, is_plan}
use Rattle.boki_machine.specs.Machine.{Machine, live_records, initial_machine, apply_events, run_plan}
use Rattle.boki_machine.specs.Turns.{turns}
use Rattle.boki_machine.specs.Ideal.{Ideal, run_turns}
use Rattle.boki_machine.specs.Ideal as run_turns
use Rattle.boki_machine.specs.Reports.{report, ideal_report}

-- The machine's report is that of the failure-free execution of its turns, which is defined, from these objects.
pub record IsExact (fs : List Function) (objects : List (List ℕ × Value)) (m : Machine) : Type 0 where
  pub state : Ideal
  pub defined : run_turns fs (turns fs m.store.versions (live_records m)) (run_turns.initial_ideal objects) ≡ Some state
  pub reported : ideal_report (turns fs m.store.versions (live_records m)) state ≡ report fs m

-- For any events in any number, from the opening.
abbrev pub EventsAreExact : Type 0
EventsAreExact = (setup : Setup) (fs : List Function) (objects : List (List ℕ × Value)) (events : List Event)
    → AllByRecursion (λ e. IsTrue (is_event setup fs e)) events → IsExact fs objects (apply_events setup fs events (initial_machine setup objects)).machine

-- And so for every plan.
abbrev pub ExactlyOnce : Type 0
ExactlyOnce = (plan : Plan) → IsTrue (is_plan plan) → IsExact plan.program.functions plan.objects (run_plan plan).machine
