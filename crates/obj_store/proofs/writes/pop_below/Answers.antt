use Rattle.std.proofs.Common.{◌∙◌, ◌-◌, ◌<◌, length, sym, ap, subst, arith}
use Rattle.obj_store.specs.Ascending.{Ascend, not_below, before_count}
use Rattle.obj_store.proofs.InOrder.{before, before_is, last_is, slice_get_at, filter_removed}
use Rattle.obj_store.proofs.writes.pop_below.Goals as goal

pub returns-then-count-eq0-clause-last : goal.returns-then-count-eq0-clause-last
returns-then-count-eq0-clause-last c = λ up.
    let e = c.index_of-count.ensures.index (subst Ascend (sym c.as_slice.ensures.value) up) in
    sym (last_is c.args.floor 0 c.args.writes.now.items up
    ∙ ap (λ n. before n c.args.writes.now.items) (sym (e ∙ ap (before_count c.args.floor 0) c.as_slice.ensures.value) ∙ c.if-count-eq0.true))

pub returns-clause-last : goal.returns-clause-last
returns-clause-last c = λ up.
    let e = c.index_of-count.ensures.index (subst Ascend (sym c.as_slice.ensures.value) up) in
    let lt : c.index_of-count.result - 1 < length c.args.writes.now.items = omega arith in
    sym (slice_get_at c.args.writes.now.items (c.index_of-count.result - 1) c.remove.result lt c.remove.ensures.value)
    ∙ before_is c.index_of-count.result c.args.writes.now.items (omega arith)
    ∙ ap (λ n. before n c.args.writes.now.items) (e ∙ ap (before_count c.args.floor 0) c.as_slice.ensures.value)
    ∙ sym (last_is c.args.floor 0 c.args.writes.now.items up)

pub returns-clause-rest : goal.returns-clause-rest
returns-clause-rest c = λ up.
    let e = c.index_of-count.ensures.index (subst Ascend (sym c.as_slice.ensures.value) up) ∙ ap (before_count c.args.floor 0) c.as_slice.ensures.value in
    ap (not_below c.args.floor) c.remove.ensures.items
    ∙ filter_removed c.args.floor c.args.writes.now.items (c.index_of-count.result - 1) (omega arith)
