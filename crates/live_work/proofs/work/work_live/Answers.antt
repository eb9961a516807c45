use Rattle.std.proofs.Common.{rules}
use Rattle.live_work.proofs.Teams.{each_worked}
use Rattle.live_work.proofs.work.work_live.Goals as goal

pub returns : goal.returns
returns g c =
    rw (← c.as_slice-lines.ensures) (each_worked g.D.Door.refusals c.as_slice-lines.result.now c.args.team.now c.for_each_mut.new.s (search rules)
    (λ i d lt.
    let ch = (c.for_each_mut.ensures i d lt).1 in
    rw (← ch.argument_is, ← ch.left) ch.call))
