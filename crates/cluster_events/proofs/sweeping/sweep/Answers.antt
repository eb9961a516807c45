use Rattle.std.proofs.Common.{◌∙◌, ◌<◌, ◌-◌, ap, sym, subst}
use Rattle.obj_store.specs.Sweeps.{logged_between}
use Rattle.step_log.specs.Sound.{view}
use Rattle.cluster_events.proofs.Needs.{slot_there}
use Rattle.cluster_events.proofs.Sweeps.{fold_there, swept_done}
use Rattle.cluster_events.proofs.sweeping.sweep.Goals as goal

pub index-requires : goal.index-requires
index-requires c =
    let can = c.requires.can in
    let now = c.advance.new.parts in
    subst (λ n. c.args.engine - 1 < n) (sym now.switches.ok.0)
    (slot_there can.setup c.requires.functions can.machine now (c.in_ok-advance.ensures.are can.setup c.requires.functions can.machine can.are) c.args.engine can.valid)

pub returns : goal.returns
returns c fs setup m valid are =
    let now = c.advance.new.parts in
    let engine = c.args.engine in
    let seen = view now.book engine in
    let high = c.floor-floor.result.0 in
    let fold = fold_there now.book engine c.index.result.now _ c.index.ensures (c.in_ok-advance.ensures.current c.index.result.now) in
    swept_done setup fs m now (c.in_ok-advance.ensures.are setup fs m are) engine valid c.sweep.new.self c.as_slice.result.now high c.floor-2.result.0 c.held.result
    (c.floor-floor.ensures seen fold)
    (c.as_slice.ensures ∙ c.in_ok-settled.ensures ∙ ap (λ n. logged_between n high seen) c.floor.ensures)
    c.in_ok-sweep.ensures.ok c.floor-2.ensures c.held.ensures
