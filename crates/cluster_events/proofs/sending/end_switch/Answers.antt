use Rattle.std.proofs.Common.{◌<◌, ◌-◌, sym, subst}
use Rattle.cluster_events.proofs.Needs.{slot_there}
use Rattle.cluster_events.proofs.Advanced.{first_of}
use Rattle.cluster_events.proofs.Switches.{end_said}
use Rattle.cluster_events.proofs.sending.end_switch.Goals as goal

pub index-view-requires : goal.index-view-requires
index-view-requires c =
    let can = c.requires.can in
    let now = c.advance.new.parts in
    subst (λ n. c.args.engine - 1 < n) (sym now.switches.ok.0)
    (slot_there can.setup c.requires.functions can.machine now (c.in_ok-advance.ensures.are can.setup c.requires.functions can.machine can.are) c.args.engine can.valid)

pub returns : goal.returns
returns c fs setup m valid are =
    let now = c.advance.new.parts in
    let still = c.in_ok-advance.ensures.are setup fs m are in
    end_said setup fs m now still c.args.engine valid c.end.new.book (c.end.ensures.sound still.stand.kept.sound) c.index-view.result.now.first
    (first_of setup fs m now still c.args.engine valid c.index-view.result.now c.index-view.ensures) c.in_ok-ending.ending c.ending_line.result c.in_ok-ending.ensures.ok c.ending_line.ensures
