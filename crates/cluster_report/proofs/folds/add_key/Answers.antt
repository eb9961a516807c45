use Rattle.std.proofs.Common.{◌≡◌, ◌∙◌, None, ap, rules}
use Rattle.boki_model.specs.Maps.{put}
use Rattle.cluster_report.proofs.Entries.{put_is}
use Rattle.cluster_report.proofs.folds.add_key.Goals as goal

pub returns : goal.returns
returns c =
    let same : c.in_ok-key.key ≡ c.args.key.now = search rules in
    put_is c.in_ok-key.key None c.args.writes.now.entries _ c.in_ok-insert.ensures.entries ∙ ap (λ k. put k None c.args.writes.now.entries) same
