use Rattle.std.proofs.Common.{sym, ap, ◌∙◌}
use Rattle.hm_switch.proofs.Found.{least_with, least_path_is}
use Rattle.hm_switch.proofs.lives.Lives.least_open.Goals as goal

pub returns : goal.returns
returns c = λ records are.
    sym (ap (least_with c.args.below c.loop-seq.least) c.in-None.ensures.steps.0)
    ∙ c.loop-seq.invariant
    ∙ least_path_is records c.args.self.now.phases.entries c.args.self.now.opened.entries are c.args.below
