use Rattle.std.proofs.Common.{◌≡◌, ◌+◌, None, rules}
use Rattle.std.specs.Option.{option_copied}
use Rattle.cluster_report.proofs.OneTurn.{operations_are}
use Rattle.cluster_report.proofs.turning.operations.Goals as goal

pub returns-in_ok-n-in-None : goal.returns-in_ok-n-in-None
returns-in_ok-n-in-None c =
    let sum : c.in_ok-n-in-None.n ≡ c.args.own + c.versions_at.result = search rules in
    let none : option_copied c.args.next ≡ None = search rules in
    operations_are c.args.store.now c.args.seq.0 (option_copied c.args.next) c.args.index c.args.own c.versions_at.result c.in_ok-n-in-None.n
    none sum c.versions_at.ensures
