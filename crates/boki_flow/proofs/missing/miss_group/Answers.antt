use Rattle.std.proofs.Common.{ℕ, List, subst}
use Rattle.boki_types.specs.declared.store.GroupAnswer.{GroupAnswer}
use Rattle.hm_write.specs.Marked.{ReadsGroupMarked}
use Rattle.boki_flow.proofs.Misses.{group_gone, group_read}
use Rattle.boki_flow.proofs.missing.miss_group.Goals as goal

pub returns-in-Gone-clause-ok : goal.returns-in-Gone-clause-ok
returns-in-Gone-clause-ok c =
    let old = c.args.parts.now in
    let engine = c.args.state.now.progress.engine in
    group_gone old c.args.state.now c.args.seq.0 c.read_group_marked.new.store c.args.keys.now
    (subst (λ (a : GroupAnswer). ReadsGroupMarked old.book engine c.args.seq.0 c.args.keys.now old.store c.read_group_marked.new.store a) c.in-Gone.is
    (subst (λ (keys : List (List ℕ)). ReadsGroupMarked old.book engine c.args.seq.0 keys old.store c.read_group_marked.new.store c.in_ok-read_group_marked.field-0) c.as_slice.ensures c.in_ok-read_group_marked.ensures.ok))

pub returns-in-Values-clause-ok : goal.returns-in-Values-clause-ok
returns-in-Values-clause-ok c =
    let old = c.args.parts.now in
    let engine = c.args.state.now.progress.engine in
    group_read old c.args.state.now c.args.seq.0 c.read_group_marked.new.store c.args.keys.now c.in-Values.values
    (subst (λ (a : GroupAnswer). ReadsGroupMarked old.book engine c.args.seq.0 c.args.keys.now old.store c.read_group_marked.new.store a) c.in-Values.is
    (subst (λ (keys : List (List ℕ)). ReadsGroupMarked old.book engine c.args.seq.0 keys old.store c.read_group_marked.new.store c.in_ok-read_group_marked.field-0) c.as_slice.ensures c.in_ok-read_group_marked.ensures.ok))
