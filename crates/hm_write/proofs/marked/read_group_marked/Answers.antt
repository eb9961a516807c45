use Rattle.std.proofs.Common.{◌≤◌, arith}
use Rattle.hm_write.proofs.Marking.{group_values}
use Rattle.hm_write.proofs.marked.read_group_marked.Goals as goal

pub returns-clause-ok : goal.returns-clause-ok
returns-clause-ok c =
    let above : c.args.store.now.floor ≤ c.args.at.0 = omega arith in
    group_values c.args.book.now c.args.engine c.args.at.0 c.args.store.now c.raise_group.new.self c.args.keys.now c.in_ok-values.values above c.in_ok-values.ensures
    (λ m records stands. (c.in_ok-raise_group.ensures.ok m records stands).1)
