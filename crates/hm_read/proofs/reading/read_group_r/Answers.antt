use Rattle.std.proofs.Common.{◌≤◌, arith}
use Rattle.hm_read.proofs.Answering.{group_values}
use Rattle.hm_read.proofs.reading.read_group_r.Goals as goal

pub returns-clause-ok : goal.returns-clause-ok
returns-clause-ok c =
    let above : c.args.store.now.floor ≤ c.args.cursor.0 = omega arith in
    group_values c.args.book.now c.args.store.now c.args.engine c.args.cursor.0 c.args.keys.now c.in_ok-values.values above c.in_ok-values.ensures
