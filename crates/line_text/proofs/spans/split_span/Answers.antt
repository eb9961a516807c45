use Rattle.std.proofs.Common.{◌≡◌, ℕ, List, length, take, drop, sym, ap, ◌∙◌, subst}
use Rattle.std.specs.Str.{IsCharBoundary}
use Rattle.line_text.specs.Tokens.{span}
use Rattle.line_text.proofs.SpanLemmas.{boundary, front_is, rest_is, pairs}
use Rattle.line_text.proofs.spans.split_span.Goals as goal

pub split_at-requires : goal.split_at-requires
split_at-requires c =
    let text = c.args.text.now in
    let n : c.span_len.result ≡ length (span c.args.class text).0 = c.span_len.ensures ∙ ap (λ (t : List ℕ). length (span c.args.class t).0) c.as_bytes.ensures.value in
    subst (λ (i : ℕ). IsCharBoundary text i) (sym n) (boundary c.args.class text c.utf8.text)

pub returns : goal.returns
returns c =
    let text = c.args.text.now in
    let n : c.span_len.result ≡ length (span c.args.class text).0 = c.span_len.ensures ∙ ap (λ (t : List ℕ). length (span c.args.class t).0) c.as_bytes.ensures.value in
    pairs _ _ (span c.args.class text)
    (c.split_at.ensures.front ∙ ap (λ (i : ℕ). take i text) n ∙ front_is c.args.class text)
    (c.split_at.ensures.back ∙ ap (λ (i : ℕ). drop i text) n ∙ rest_is c.args.class text)
