-- Tokens behind tokens.
use Rattle.std.proofs.Common.{◌≡◌, ℕ, suc, ◌<◌, List, [], ◌∷◌, ◌++◌, length, Option, Some, None, refl, sym, ap, ◌∙◌, append_assoc, arith}
use Rattle.line_text.specs.declared.token.Token.{Token}
use Rattle.line_text.specs.declared.spans.CharClass.TheVariants.{Space}
use Rattle.line_text.specs.Tokens.{span, with_token, lex_fewer_than, lex_behind_spaces, lex_rest, token_at}

-- the tokens of a rest behind those of a front
abbrev pub behind_tokens : List Token → Option (List Token) → Option (List Token)
behind_tokens front None = None
behind_tokens front (Some ts) = Some (front ++ ts)

pub behind_none : (o : Option (List Token)) → behind_tokens [] o ≡ o
behind_none None = refl
behind_none (Some ts) = refl

pub behind_one : (front : List Token) (t : Token) (o : Option (List Token)) → behind_tokens front (with_token t o) ≡ behind_tokens (front ++ t ∷ []) o
behind_one front t None = refl
behind_one front t (Some ts) = ap (λ (l : List Token). Some l) (sym (append_assoc front (t ∷ []) ts))

lex_full : (m : ℕ) (front : List ℕ) → 0 < length front → lex_behind_spaces (lex_fewer_than m) front ≡ lex_rest (lex_fewer_than m) (token_at front)
lex_full m [] h = absurd (omega arith)
lex_full m (c ∷ cs) h = refl

pub lex_step : (count m : ℕ) (rest front skipped : List ℕ) → count ≡ suc m → (skipped, front) ≡ span Space rest → 0 < length front → lex_fewer_than count rest ≡ lex_rest (lex_fewer_than m) (token_at front)
lex_step count m rest front skipped e s h =
    ap (λ n. lex_fewer_than n rest) e
    ∙ ap (λ (p : List ℕ × List ℕ). lex_behind_spaces (lex_fewer_than m) p.1) (sym s)
    ∙ lex_full m front h

lex_empty : (m : ℕ) (front : List ℕ) → length front ≡ 0 → lex_behind_spaces (lex_fewer_than m) front ≡ Some []
lex_empty m [] h = refl
lex_empty m (c ∷ cs) h = absurd (omega arith)

pub lex_end : (count m : ℕ) (rest front skipped : List ℕ) → count ≡ suc m → (skipped, front) ≡ span Space rest → length front ≡ 0 → lex_fewer_than count rest ≡ Some []
lex_end count m rest front skipped e s h =
    ap (λ n. lex_fewer_than n rest) e
    ∙ ap (λ (p : List ℕ × List ℕ). lex_behind_spaces (lex_fewer_than m) p.1) (sym s)
    ∙ lex_empty m front h
