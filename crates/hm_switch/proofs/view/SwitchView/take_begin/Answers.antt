use Rattle.hm_switch.specs.declared.marks.Mark.TheVariants as said
use Rattle.hm_switch.proofs.Taken.{takes_begin, from_view}
use Rattle.hm_switch.proofs.view.SwitchView.take_begin.Goals as goal

pub returns : goal.returns
returns c =
    from_view c.args.seq (said.SwitchBegin c.args.target) _ _ _ c.self.view_is
    (takes_begin c.args.seq _ c.args.target c.begin.new.self.current c.begin.new.self.pending c.begin.new.self.changes.items c.in_ok-begin.ensures)
