use Rattle.std.proofs.Common.{Some}
use Rattle.cluster_report.proofs.Entries.{put_is}
use Rattle.cluster_report.proofs.folds.write.Goals as goal

pub returns : goal.returns
returns c = put_is c.args.key (Some c.args.write) c.args.writes.now.entries _ c.in_ok-insert.ensures.entries
