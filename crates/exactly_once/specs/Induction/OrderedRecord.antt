-- Any record that was sent may be ordered next, in any state that the invariant holds of.
use Rattle.boki_types.specs.declared.body.Body.{Body}
use Rattle.boki_types.specs.declared.plan.Setup.{Setup}
use Rattle.boki_types.specs.declared.program.Function.{Function}
use Rattle.boki_model.specs.Live.{LogRecord}
use Rattle.std.specs.Prelude.{List}
use Rattle.exactly_once.specs.Induction.Invariant.{World, InvariantHolds}
use Rattle.exactly_once.specs.FurtherLaws.Words.{IsAmong}
use Rattle.exactly_once.specs.Induction.MicroSteps.{with_record_ordered}

-- a record that was sent is ordered: live or dead, of whatever kind, and perhaps again
abbrev pub OrderingKeepsInvariant : Type 0
OrderingKeepsInvariant = (setup : Setup) (fs : List Function) (w : World) (r : LogRecord Body) → InvariantHolds setup fs w → IsAmong r w.sent → InvariantHolds setup fs (with_record_ordered r w)
