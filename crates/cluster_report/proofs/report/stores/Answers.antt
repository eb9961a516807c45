use Rattle.std.proofs.Common.{◌≡◌, [], IfOk, subst}
use Rattle.step_log.specs.Sound.{live_bodies}
use Rattle.cluster_report.proofs.Parts.{stores_are}
use Rattle.cluster_report.proofs.report.stores.Goals as goal

pub returns : goal.returns
returns c =
    subst (λ told. IfOk c.all_stores.result (λ all. all ≡ told))
    (stores_are c.in_ok-whole.field-0 [] (live_bodies c.args.book.now) c.in_ok-whole.ensures) c.all_stores.ensures
