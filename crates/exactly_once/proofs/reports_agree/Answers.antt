use Rattle.exactly_once.proofs.Simulation.ReportsAgree.{reports_agree}
use Rattle.exactly_once.proofs.reports_agree.Goals as goal

pub returns : goal.returns
returns c = reports_agree
