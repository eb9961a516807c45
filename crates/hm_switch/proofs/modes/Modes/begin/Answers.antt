use Rattle.std.proofs.Common.{sym, refl, ◌∙◌}
use Rattle.lb_base.specs.declared.value.Mode.TheVariants.{T}
use Rattle.hm_switch.specs.declared.marks.Mark.TheVariants as said
use Rattle.hm_switch.proofs.ModesGo.{unchanged, changed, pends_already, is_current, pends_now}
use Rattle.hm_switch.proofs.modes.Modes.begin.Goals as goal

pub returns-then-is_some : goal.returns-then-is_some
returns-then-is_some c = λ first x records comes are.
    let s = c.args.self.now in
    unchanged c.args.seq (said.SwitchBegin c.args.target) first x records comes s.current s.pending s.changes.items are
    (pends_already c.args.target s.current x.seq s.pending (sym c.is_some.ensures ∙ c.if-is_some.true))

pub returns-then-same : goal.returns-then-same
returns-then-same c = λ first x records comes are.
    let s = c.args.self.now in
    unchanged c.args.seq (said.SwitchBegin c.args.target) first x records comes s.current s.pending s.changes.items are
    (is_current c.args.target s.current x.seq s.pending (sym c.same.ensures ∙ c.if-same.true))

pub returns : goal.returns
returns c = λ first x records comes are.
    let s = c.args.self.now in
    changed c.args.seq (said.SwitchBegin c.args.target) first x records comes s.current s.pending s.changes.items are
    s.current _ T _
    (pends_now c.args.target s.current x.seq s.pending (sym c.is_some.ensures ∙ c.if-is_some.false) (sym c.same.ensures ∙ c.if-same.false) c.args.seq comes.seqnum)
    refl c.in_ok-push.ensures.items
