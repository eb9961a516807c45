use Rattle.hm_switch.specs.declared.marks.Mark.TheVariants as said
use Rattle.hm_switch.proofs.Taken.{takes_init, from_view}
use Rattle.hm_switch.proofs.view.SwitchView.take_init.Goals as goal

pub returns : goal.returns
returns c =
    from_view c.args.seq (said.Init c.args.path) _ _ _ c.self.view_is
    (takes_init c.args.seq _ c.args.path c.begin.new.self.phases.entries c.begin.new.self.opened.entries c.in_ok-begin.ensures)
