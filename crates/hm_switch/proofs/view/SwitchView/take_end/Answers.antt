use Rattle.hm_switch.specs.declared.marks.Mark.TheVariants as said
use Rattle.hm_switch.proofs.Taken.{takes_end, from_view}
use Rattle.hm_switch.proofs.view.SwitchView.take_end.Goals as goal

pub returns : goal.returns
returns c =
    from_view c.args.seq said.SwitchEnd _ _ _ c.self.view_is
    (takes_end c.args.seq _ c.end.new.self.current c.end.new.self.pending c.end.new.self.changes.items c.in_ok-end.ensures)
