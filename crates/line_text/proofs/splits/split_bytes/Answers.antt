use Rattle.std.proofs.Common.{take, drop, List, ℕ, Some, ap, sym, ◌∙◌, arith}
use Rattle.line_text.proofs.SplitLemmas.{split_here, split_nowhere}
use Rattle.line_text.proofs.splits.split_bytes.Goals as goal

pub returns-then-c-byte-clause-split : goal.returns-then-c-byte-clause-split
returns-then-c-byte-clause-split c =
    let front = c.split_at.ensures.front in
    let rest = c.split_at-then-c-byte.ensures.back ∙ ap (drop 1) c.split_at.ensures.back in
    ap (λ (l : List ℕ). Some (l, c.split_at-then-c-byte.result.1.now)) front
    ∙ ap (λ (l : List ℕ). Some (take c.loop-i.i c.args.text.now, l)) rest
    ∙ sym (split_here c.args.byte c.args.text.now c.loop-i.i c.loop-i.invariant c.loop-i-test.true c.if-c-byte.true)

pub returns-clause-split : goal.returns-clause-split
returns-clause-split c =
    sym (split_nowhere c.args.byte c.args.text.now (λ k h. c.loop-i.invariant k (omega arith)))
