use Rattle.std.proofs.Common.{◌≡◌, ◌+◌, ◌-◌, ◌<◌, List, ℕ, Some, suc, subst, length, sym, ap, ◌∙◌, arith}
use Rattle.std.proofs.lemmas.Bool.Decides.{nat_tests}
use Rattle.std.proofs.lemmas.List.{append-nil}
use Rattle.line_text.specs.declared.token.Token.{Token}
use Rattle.std.specs.Str.{IsUtf8}
use Rattle.line_text.specs.declared.spans.CharClass.TheVariants.{Space}
use Rattle.line_text.specs.Tokens.{lex_fewer_than, lex_rest}
use Rattle.line_text.proofs.TokenLemmas.{behind_span, text_behind}
use Rattle.line_text.proofs.LexLemmas.{behind_tokens, behind_one, lex_step, lex_end}
use Rattle.line_text.proofs.lexing.lex_text.Goals as goal

pub returns-then-is_empty : goal.returns-then-is_empty
returns-then-is_empty c =
    let m = c.tokens.counter in
    let left = length c.args.text.now + 1 - (m + 1) in
    let e : length c.args.text.now + 1 - m ≡ suc left = omega arith in
    let h : length c.split_span.result.1.now ≡ 0 = grind (arith, nat_tests, c.if-is_empty.true, c.is_empty.ensures) in
    ap (λ (l : List Token). Some l) (sym (append-nil c.tokens.tokens))
    ∙ ap (behind_tokens c.tokens.tokens) (sym (lex_end _ left c.tokens.rest.now _ _ e c.split_span.ensures h))
    ∙ c.tokens.invariant.0

pub returns-in-None : goal.returns-in-None
returns-in-None c =
    let m = c.tokens.counter in
    let left = length c.args.text.now + 1 - (m + 1) in
    let e : length c.args.text.now + 1 - m ≡ suc left = omega arith in
    let h : 0 < length c.split_span.result.1.now = grind (arith, nat_tests, c.if-is_empty.false, c.is_empty.ensures) in
    let t = rw c.in-None.is at c.in_ok-token_of.ensures in
    ap (behind_tokens c.tokens.tokens) (ap (lex_rest (lex_fewer_than left)) t ∙ sym (lex_step _ left c.tokens.rest.now _ _ e c.split_span.ensures h))
    ∙ c.tokens.invariant.0

pub tokens-preserved : goal.tokens-preserved
tokens-preserved c =
    let m = c.tokens.counter in
    let left = length c.args.text.now + 1 - (m + 1) in
    let e : length c.args.text.now + 1 - m ≡ suc left = omega arith in
    let h : 0 < length c.split_span.result.1.now = grind (arith, nat_tests, c.if-is_empty.false, c.is_empty.ensures) in
    let t = rw c.in-Some.is at c.in_ok-token_of.ensures in
    let front = subst (λ (p : List ℕ × List ℕ). IsUtf8 p.1) (sym c.split_span.ensures) (behind_span Space c.tokens.rest.now c.tokens.invariant.1) in (
      ap (λ (l : List Token). behind_tokens l (lex_fewer_than left c.in-Some.behind.now)) c.in_ok-push-in-Some.ensures
          ∙ sym (behind_one c.tokens.tokens c.in-Some.token (lex_fewer_than left c.in-Some.behind.now))
          ∙ ap (behind_tokens c.tokens.tokens) (ap (lex_rest (lex_fewer_than left)) t ∙ sym (lex_step _ left c.tokens.rest.now _ _ e c.split_span.ensures h))
          ∙ c.tokens.invariant.0,
      text_behind c.split_span.result.1.now (c.in-Some.token, c.in-Some.behind.now) t front,
    )
