-- The turns of a run are ones that a text can have, where their counts are.
use Rattle.std.specs.Prelude.{ℕ, IsTrue, List}
use Rattle.std.specs.List.{AllByRecursion}
use Rattle.lb_base.specs.declared.value.Value.{Value}
use Rattle.boki_types.specs.declared.event.Event.{Event}
use Rattle.boki_types.specs.declared.plan.Setup.{Setup}
use Rattle.boki_types.specs.declared.program.Function.{Function}
use Rattle.boki_types.specs.declared.turn.Turn.{Turn}
use Rattle.boki_types.specs.declared.turn.Turn.TheVariants as u
use Rattle.boki_model.specs.Plans.{distinct, function_names, is_event}
use Rattle.boki_machine.specs.Machine.{initial_machine, apply_events}
use Rattle.plan_lang.specs.TurnTexts.{is_turn}
use Rattle.judge_agrees.specs.Counts.{turns_of_log, HasAtMost}
use Rattle.judge_agrees.specs.Requests.{AreUtf8Values, SubmitsUtf8}

-- the texts of a turn
abbrev pub TurnIsUtf8 : Turn → Type 0
TurnIsUtf8 (u.Submit request f args) = AreUtf8Values args
TurnIsUtf8 _ = Unit {0}

-- a turn that a text with these functions can have, where its count is one
pub record CanStand (fs : List Function) (x : Turn) : Type 0 where
  pub turn : HasAtMost 200000 x → IsTrue (is_turn fs x)
  pub texts : TurnIsUtf8 x

-- So it is behind any events that a plan can have, whose texts are UTF-8.
abbrev pub TurnsCanStand : Type 0
TurnsCanStand =
    (setup : Setup) (fs : List Function) (objects : List (List ℕ × Value)) (events : List Event)
    → IsTrue (distinct (function_names fs)) → AllByRecursion (λ e. IsTrue (is_event setup fs e)) events
    → AllByRecursion SubmitsUtf8 events
    → AllByRecursion (CanStand fs) (turns_of_log fs (apply_events setup fs events (initial_machine setup objects)).machine)
