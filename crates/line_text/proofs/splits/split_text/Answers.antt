use Rattle.std.proofs.Common.{◌≡◌, ◌<◌, take, drop, get_or, length, List, ℕ, Some, ap, sym, ◌∙◌, arith}
use Rattle.line_text.proofs.SplitLemmas.{split_here, split_nowhere}
use Rattle.line_text.proofs.splits.split_text.Goals as goal

pub returns-then-c-byte-clause-split : goal.returns-then-c-byte-clause-split
returns-then-c-byte-clause-split c =
    let text = c.args.text.now in
    let bytes = c.as_bytes-c-items.ensures.value in
    let within : c.loop-i.i < length text = omega (arith, ap length bytes, c.loop-i-test.true) in
    let found : get_or text c.loop-i.i 0 ≡ c.args.byte = ap (λ (l : List ℕ). get_or l c.loop-i.i 0) (sym bytes) ∙ c.if-c-byte.true in
    let front = c.split_at.ensures.front in
    let rest = c.skip_first_byte.ensures ∙ ap (drop 1) c.split_at.ensures.back in
    ap (λ (l : List ℕ). Some (l, c.skip_first_byte.result.now)) front
    ∙ ap (λ (l : List ℕ). Some (take c.loop-i.i text, l)) rest
    ∙ sym (split_here c.args.byte text c.loop-i.i c.loop-i.invariant within found)

pub returns-clause-split : goal.returns-clause-split
returns-clause-split c =
    sym (split_nowhere c.args.byte c.args.text.now (λ k h. c.loop-i.invariant k (omega (arith, ap length c.as_bytes-c-items.ensures.value))))
