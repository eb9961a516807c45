use Rattle.step_log.specs.Sound.{view}
use Rattle.hm_switch.proofs.Marked.{trim_counts}
use Rattle.hm_switch.proofs.view.SwitchView.trim.Goals as goal

pub returns-clause-counts : goal.returns-clause-counts
returns-clause-counts c =
    trim_counts c.args.book.now c.args.engine c.trim_limit-bound.result c.position.result c.behind-behind.result
    (c.trim_limit-bound.ensures (view c.args.book.now c.args.engine) c.requires.current.fold) c.position.ensures c.behind-behind.ensures.value
