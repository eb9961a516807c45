use Rattle.cluster_report.proofs.Entries.{put_is}
use Rattle.cluster_report.proofs.turning.pass.Goals as goal

pub returns : goal.returns
returns c = put_is c.args.path c.args.index c.args.ahead.now.entries _ c.in_ok-insert.ensures.entries
