use Rattle.boki_model.proofs.Logs.{earlier_stays}
use Rattle.boki_model.proofs.log_laws.earlier_reads_stay.Goals as goal

pub returns : goal.returns
returns g c = earlier_stays
