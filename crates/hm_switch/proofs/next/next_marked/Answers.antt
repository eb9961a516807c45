use Rattle.hm_switch.proofs.Marked.{marked_is}
use Rattle.hm_switch.proofs.next.next_marked.Goals as goal

pub returns : goal.returns
returns c =
    marked_is c.args.book.now c.args.engine c.args.behind _ _ _ _ _
    c.next_with-switch.ensures c.next_with-trim.ensures c.next_with-life.ensures c.earlier.ensures c.earlier-2.ensures
