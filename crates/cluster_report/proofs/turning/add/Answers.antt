use Rattle.std.proofs.Common.{sym}
use Rattle.cluster_report.proofs.OneTurn.{adds_go_on}
use Rattle.cluster_report.proofs.turning.add.Goals as goal

pub returns-in-Go : goal.returns-in-Go
returns-in-Go c =
    adds_go_on c.args.store.now c.args.seq.0 c.add_go.result c.args.program.now.functions c.args.body c.in-Go.path c.in-Go.index c.in-Go.own
    c.args.walk.now c.add_go.new.walk (sym c.in-Go.ensures) c.add_go.ensures.ahead c.add_go.ensures.turns
