use Rattle.boki_txn.proofs.Told.{value_told}
use Rattle.boki_txn.proofs.telling.told_value.Goals as goal

pub returns-clause-ok : goal.returns-clause-ok
returns-clause-ok c =
    value_told c.args.book.now c.args.engine c.args.seq.0 c.args.entries.now c.keep_below.new.entries c.in_ok-state.state c.args.name.now c.in_ok-value.value c.seqnum_below-below.result
    c.seqnum_below-below.ensures c.in_ok-state.ensures c.in_ok-value.ensures c.in_ok-keep_below.ensures.ok
