use Rattle.std.proofs.Common.{◌∙◌, ◌<◌, ◌≤◌, length, sym, arith}
use Rattle.hm_read.proofs.Walks.{walk_start, walk_more, walk_found, walk_ended}
use Rattle.hm_read.proofs.last.last_of.Goals as goal

pub loop-past-init : goal.loop-past-init
loop-past-init c = walk_start c.args.book.now c.args.key.now c.args.seqs.now

pub loop-past-preserved : goal.loop-past-preserved
loop-past-preserved c =
    let lt : c.loop-past.past < length c.args.seqs.now = omega arith in
    c.loop-past.invariant
    ∙ walk_more c.args.book.now c.args.key.now c.args.seqs.now c.loop-past.past 0 c.in_ok-write.write lt c.in_ok-write.ensures (sym c.is_some.ensures ∙ c.if-is_some.false)

pub returns-then-is_some : goal.returns-then-is_some
returns-then-is_some c =
    let lt : c.loop-past.past < length c.args.seqs.now = omega arith in
    walk_found c.args.book.now c.args.key.now c.args.seqs.now c.loop-past.past 0 c.in_ok-write.write lt c.in_ok-write.ensures (sym c.is_some.ensures ∙ c.if-is_some.true)
    ∙ sym c.loop-past.invariant

pub returns : goal.returns
returns c =
    let le : length c.args.seqs.now ≤ c.loop-past.past = omega arith in
    walk_ended c.args.book.now c.args.key.now c.args.seqs.now c.loop-past.past le ∙ sym c.loop-past.invariant
