use Rattle.std.proofs.Common.{◌<◌, ◌-◌, sym, subst, arith}
use Rattle.cluster_events.proofs.Needs.{slot_there}
use Rattle.cluster_events.proofs.Switches.{trim_done}
use Rattle.cluster_events.proofs.sending.trim.Goals as goal

pub index-view-requires : goal.index-view-requires
index-view-requires c =
    let can = c.requires.can in
    let now = c.advance.new.parts in
    subst (λ n. c.args.engine - 1 < n) (sym now.switches.ok.0)
    (slot_there can.setup c.requires.functions can.machine now (c.in_ok-advance.ensures.are can.setup c.requires.functions can.machine can.are) c.args.engine can.valid)

pub returns : goal.returns
returns c fs setup m valid are =
    let still = c.in_ok-advance.ensures.are setup fs m are in
    trim_done setup fs m c.advance.new.parts still c.args.engine valid c.trim.new.book (c.trim.ensures.sound still.stand.kept.sound)
    (omega (arith, c.length-length.ensures, c.length-length.type_inv)) (omega (arith, c.behind-behind.ensures.few)) c.in_ok-sent.sent c.in_ok-sent.bound c.in_ok-sent.ensures.ok
