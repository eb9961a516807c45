use Rattle.boki_txn.proofs.Told.{values_told}
use Rattle.boki_txn.proofs.telling.told_values.Goals as goal

pub returns-clause-ok : goal.returns-clause-ok
returns-clause-ok c =
    values_told c.args.book.now c.args.engine c.args.seq.0 c.args.entries.now c.keep_below.new.entries c.in_ok-state.state c.args.names.now c.in_ok-values.values c.seqnum_below-below.result
    c.seqnum_below-below.ensures c.in_ok-state.ensures c.in_ok-values.ensures c.in_ok-keep_below.ensures.ok
