use Rattle.machine_laws.proofs.Scripts.{holding_decide_scripts}
use Rattle.machine_laws.proofs.holding_decide_scripts.Goals as goal

pub returns : goal.returns
returns c = holding_decide_scripts
