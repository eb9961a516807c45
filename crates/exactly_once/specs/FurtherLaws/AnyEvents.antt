-- Laws of a machine, after any events that a plan can have.
use Rattle.std.specs.Prelude.{◌≡◌, ℕ, IsTrue, List, length}
use Rattle.std.specs.List.{AllByRecursion}
use Rattle.lb_base.specs.declared.value.Value.{Value}
use Rattle.boki_types.specs.declared.event.Event.{Event}
use Rattle.boki_types.specs.declared.plan.Setup.{Setup}
use Rattle.boki_types.specs.declared.program.Function.{Function}
use Rattle.boki_model.specs.Plans.{is_event}
use Rattle.boki_machine.specs.Machine.{Machine, live_records, initial_machine, apply_events}
use Rattle.boki_machine.specs.Decided.{first_decided_answers}
use Rattle.exactly_once.specs.FurtherLaws.Words.{values_only, attempts_of}

abbrev pub AfterEvents : (Setup → List Function → Machine → Type 0) → Type 0
AfterEvents Law =
    (setup : Setup) (fs : List Function) (objects : List (List ℕ × Value)) (events : List Event)
    → AllByRecursion (λ e. IsTrue (is_event setup fs e)) events → Law setup fs (apply_events setup fs events (initial_machine setup objects)).machine

-- Duplicates agree: an attempt's answers are the first ones that its invocation has decided. So of two attempts of an invocation
-- one has the other's answers, and perhaps more.
abbrev pub DuplicatesAgree : Setup → List Function → Machine → Type 0
DuplicatesAgree setup fs m = AllByRecursion (λ a. a.answers ≡ first_decided_answers setup fs (values_only m.store) (live_records m) a.path (length a.answers)) (attempts_of m)
