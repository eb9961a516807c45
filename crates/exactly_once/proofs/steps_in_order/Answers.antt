use Rattle.exactly_once.proofs.Log.StepRecords.{steps_in_order}
use Rattle.exactly_once.proofs.steps_in_order.Goals as goal

pub returns : goal.returns
returns c = steps_in_order
