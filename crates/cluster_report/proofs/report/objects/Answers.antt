use Rattle.std.proofs.Common.{◌≡◌, ◌∙◌, rules}
use Rattle.step_log.specs.Sound.{live_bodies}
use Rattle.cluster_report.proofs.Parts.{writes_are, objects_told_on}
use Rattle.cluster_report.proofs.report.objects.Goals as goal

pub returns : goal.returns
returns c =
    let slice : c.as_slice.result.now ≡ c.in_ok-keys.keys = search rules in
    objects_told_on c.args.book.now c.args.store.now c.as_slice.result.now c.in_ok-folds.folds.writes.entries c.length.result c.objects.result
    c.length.ensures (λ m records stands. slice ∙ c.in_ok-keys.ensures m records stands)
    (writes_are c.in_ok-folds.folds c.as_slice.result.now (live_bodies c.args.book.now) c.in_ok-folds.ensures) c.objects.ensures
