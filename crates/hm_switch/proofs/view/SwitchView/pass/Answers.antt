use Rattle.hm_switch.specs.declared.marks.Mark.TheVariants as said
use Rattle.hm_switch.proofs.Taken.{takes_other, from_view}
use Rattle.hm_switch.proofs.view.SwitchView.pass.Goals as goal

pub returns : goal.returns
returns c = from_view c.args.seq said.Other _ _ _ c.self.view_is (takes_other c.args.seq _)
