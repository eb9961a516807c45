use Rattle.std.proofs.Common.{rules, sym, refl, None, ◌≡◌, ◌∙◌}
use Rattle.hm_switch.specs.declared.marks.Mark.TheVariants as said
use Rattle.hm_switch.proofs.ModesGo.{unchanged, changed, nothing_pends, one_is_open, all_have_ended}
use Rattle.hm_switch.proofs.modes.Modes.end.Goals as goal

pub returns-in_default : goal.returns-in_default
returns-in_default c = λ first x records comes lives are.
    let s = c.args.self.now in
    let none : s.pending ≡ None = search rules in
    unchanged c.args.seq said.SwitchEnd first x records comes s.current s.pending s.changes.items are (nothing_pends records s.current s.pending none)

pub returns-then-not-all_ended : goal.returns-then-not-all_ended
returns-then-not-all_ended c = λ first x records comes lives are.
    let s = c.args.self.now in
    unchanged c.args.seq said.SwitchEnd first x records comes s.current s.pending s.changes.items are
    (one_is_open records s.current s.pending c.in-Some.pending c.in-Some.is (sym (c.all_ended.ensures records lives) ∙ c.if-not-all_ended.true))

pub returns : goal.returns
returns c = λ first x records comes lives are.
    let s = c.args.self.now in
    changed c.args.seq said.SwitchEnd first x records comes s.current s.pending s.changes.items are
    c.in-Some.pending.target None c.in-Some.pending.target _
    (all_have_ended records s.current s.pending c.in-Some.pending c.in-Some.is (sym (c.all_ended.ensures records lives) ∙ c.if-not-all_ended.false))
    refl c.in_ok-push.ensures.items
