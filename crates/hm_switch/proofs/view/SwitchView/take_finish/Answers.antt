use Rattle.hm_switch.specs.declared.marks.Mark.TheVariants as said
use Rattle.hm_switch.proofs.Taken.{takes_finish, from_view}
use Rattle.hm_switch.proofs.view.SwitchView.take_finish.Goals as goal

pub returns : goal.returns
returns c =
    from_view c.args.seq (said.Finish c.args.path) _ _ _ c.self.view_is
    (takes_finish c.args.seq _ c.args.path c.end.new.self.phases.entries c.end.new.self.opened.entries (c.in_ok-end.ensures c.args.seq))
