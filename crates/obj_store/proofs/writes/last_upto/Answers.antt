use Rattle.std.proofs.Common.{◌∙◌, suc, sym, ap, arith}
use Rattle.obj_store.proofs.InOrder.{before, before_is, last_is}
use Rattle.obj_store.proofs.writes.last_upto.Goals as goal

pub returns-then-count-eq0 : goal.returns-then-count-eq0
returns-then-count-eq0 c = λ up.
    sym (last_is (suc c.args.last) 0 c.args.writes.now up ∙ ap (λ n. before n c.args.writes.now) (sym (c.count_upto-count.ensures.count up) ∙ c.if-count-eq0.true))

pub returns : goal.returns
returns c = λ up.
    c.write_at.ensures ∙ before_is c.count_upto-count.result c.args.writes.now (omega arith)
    ∙ sym (last_is (suc c.args.last) 0 c.args.writes.now up ∙ ap (λ n. before n c.args.writes.now) (sym (c.count_upto-count.ensures.count up)))
