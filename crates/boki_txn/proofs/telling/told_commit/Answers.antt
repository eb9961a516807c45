use Rattle.boki_txn.proofs.Told.{commit_told}
use Rattle.boki_txn.proofs.telling.told_commit.Goals as goal

pub returns-clause-ok : goal.returns-clause-ok
returns-clause-ok c =
    commit_told c.args.book.now c.args.engine c.args.seq.0 c.args.entries.now c.keep.new.entries c.in_ok-state.state c.change.new.names c.in_ok-good.good c.seqnum_below-below.result
    c.requires.commit c.seqnum_below-below.ensures c.in_ok-state.ensures c.in_ok-good.ensures.good c.in_ok-good.ensures.names c.in_ok-keep.ensures.ok
