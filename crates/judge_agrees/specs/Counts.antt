-- How many operations run in one turn: at most as many as events have happened.
use Rattle.std.specs.Prelude.{ℕ, ◌≤◌, IsTrue, List, length}
use Rattle.std.specs.List.{AllByRecursion}
use Rattle.lb_base.specs.declared.value.Value.{Value}
use Rattle.boki_types.specs.declared.event.Event.{Event}
use Rattle.boki_types.specs.declared.plan.Setup.{Setup}
use Rattle.boki_types.specs.declared.program.Function.{Function}
use Rattle.boki_types.specs.declared.turn.Turn.{Turn}
use Rattle.boki_types.specs.declared.turn.Turn.TheVariants as u
use Rattle.boki_model.specs.Plans.{is_event}
use Rattle.boki_machine.specs.Machine.{Machine, live_records, initial_machine, apply_events}
use Rattle.boki_machine.specs.Turns.{turns}

-- the turns of a machine's ordered list
abbrev pub turns_of_log : List Function → Machine → List Turn
turns_of_log fs m = turns fs m.store.versions (live_records m)

-- a turn has at most so many operations
abbrev pub HasAtMost : ℕ → Turn → Type 0
HasAtMost n (u.Go path k) = k ≤ n
HasAtMost n _ = Unit {0}

abbrev pub HaveAtMost : ℕ → List Turn → Type 0
HaveAtMost n ts = AllByRecursion (HasAtMost n) ts

abbrev pub CountsAreFew : Type 0
CountsAreFew =
    (setup : Setup) (fs : List Function) (objects : List (List ℕ × Value)) (events : List Event)
    → AllByRecursion (λ e. IsTrue (is_event setup fs e)) events
    → HaveAtMost (length events) (turns_of_log fs (apply_events setup fs events (initial_machine setup objects)).machine)
