use Rattle.lb_base.proofs.PathLemmas.{grown_start}
use Rattle.lb_base.proofs.path.Path.from_parts.Goals as goal

pub ordinals-init : goal.ordinals-init
ordinals-init c = grown_start _ _ _ _ c.in_ok-path.ensures c.in_ok-first.ensures.cases.0
