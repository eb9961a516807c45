use Rattle.cluster_report.proofs.Holding.{holding_is_reported}
use Rattle.cluster_report.proofs.laws.holding_is_reported.Goals as goal

pub returns : goal.returns
returns c = holding_is_reported
