use Rattle.std.proofs.Common.{subst}
use Rattle.step_log.specs.Sound.{view}
use Rattle.boki_queue.specs.QueueStates.{values_at}
use Rattle.boki_queue.specs.Shared.{IsState}
use Rattle.boki_queue.proofs.Told.{pop_is_told}
use Rattle.boki_queue.proofs.telling.told_pop.Goals as goal

pub returns-clause-ok : goal.returns-clause-ok
returns-clause-ok g c =
    pop_is_told c.args.book.now c.args.engine c.args.queue.now c.args.seq.0 c.args.rows.now.items c.state_upto.new.rows.items c.args.entries.now c.keep.new.entries c.in_ok-w.w c.popped-next.result c.in_ok-value.value
    c.requires.whole c.in_ok-w.ensures.stay c.requires.record
    (subst (λ p. IsState c.state_upto.new.rows.items c.args.queue.now (values_at c.args.queue.now p (view c.args.book.now c.args.engine)) c.in_ok-w.w) c.seqnum_below-below.ensures c.in_ok-w.ensures.ok)
    c.in_ok-value.ensures c.popped-next.ensures c.in_ok-keep.ensures.ok
