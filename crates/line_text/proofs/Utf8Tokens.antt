-- The quoted texts among the tokens of a text are spelled in UTF-8.
use Rattle.std.proofs.Common.{◌≡◌, ℕ, zero, suc, ◌+◌, ◌-◌, Bool, true, false, cond, eqb, ltb, List, [], ◌∷◌, ◌++◌, length, take, drop, Option, Some, None, refl, ap, ◌∙◌, subst, length-append, arith}
use Rattle.std.specs.Prelude.{IfSome, ◌&&◌, bytes_eq, codes, slice_index}
use Rattle.std.specs.List.{list_all, list_any}
use Rattle.std.specs.Char.{is_ascii_digit}
use Rattle.std.specs.Str.{IsUtf8, IsCharBoundary, is_utf8}
use Rattle.std.proofs.lemmas.List.{take_at}
use Rattle.std.proofs.lemmas.Str.{is_utf8-from_IsUtf8, IsUtf8-take}
use Rattle.lb_base.specs.Numeral.{is_numeral}
use Rattle.lb_base.specs.Quoted.{quoted_at, quoted}
use Rattle.lb_base.proofs.QuotedLaws.{quoted-one_spelling}
use Rattle.lb_base.proofs.QuotedLemmas.{quoted_cut}
use Rattle.boki_types.specs.declared.expr.BinOp.TheVariants as ops
use Rattle.line_text.specs.declared.lines.LexedLine.{LexedLine}
use Rattle.line_text.specs.declared.lines.LexedLine.TheVariants as l
use Rattle.line_text.specs.declared.spans.CharClass.TheVariants.{Numeric, Word, Space}
use Rattle.line_text.specs.declared.token.Keyword.{Keyword}
use Rattle.line_text.specs.declared.token.Token.{Token}
use Rattle.line_text.specs.declared.token.Token.TheVariants as t
use Rattle.line_text.specs.Lines.{lexed_line, line_behind_spaces, line_of_tokens}
use Rattle.line_text.specs.Tokens.{is_letter, span, number_token, with_rest, quoted_and_rest, keyword_of, keyword_or_name, word_token, double_symbol, single_symbol, longer_symbol, token_at, with_token, lex_fewer_than, lex_rest, lex_behind_spaces, tokens_in}
use Rattle.line_text.proofs.TokenLemmas.{behind_span, text_behind}
use Rattle.line_text.proofs.FieldsInRange.{both_true}

-- a text that UTF-8 spells where it is quoted
abbrev pub is_clean_text : List ℕ → Bool
is_clean_text x = is_utf8 (quoted x)

-- a token that is no quoted text, or one that UTF-8 spells
abbrev pub is_clean : Token → Bool
is_clean (t.Text x) = is_clean_text x
is_clean _ = true

abbrev pub are_clean : List Token → Bool
are_clean ts = list_all is_clean ts

abbrev Clean : Option Token → Type 0
Clean o = IfSome o (λ x. is_clean x ≡ true)

abbrev CleanFirst : Option (Token × List ℕ) → Type 0
CleanFirst o = IfSome o (λ p. is_clean p.0 ≡ true)

-- A quoted text of a text in UTF-8 is cut off at a character.
quoted_by : (text : List ℕ) (o : Option (List ℕ × List ℕ)) → IsUtf8 text → IfSome o (λ q. text ≡ quoted q.0 ++ q.1) → IfSome o (λ q. IsCharBoundary text (length text - length q.1) × (drop (length text - length q.1) text ≡ q.1)) → CleanFirst (quoted_and_rest o)
quoted_by text None u h k = tt
quoted_by text (Some q) u h k =
    let len : length (quoted q.0) ≡ length text - length q.1 = omega (arith, ap length h, length-append (quoted q.0) q.1) in
    let front : take (length text - length q.1) text ≡ quoted q.0 =
    ap (take (length text - length q.1)) h ∙ take_at (quoted q.0) q.1 (length text - length q.1) len in
    is_utf8-from_IsUtf8 (quoted q.0) (subst (λ (w : List ℕ). IsUtf8 w) front (IsUtf8-take text (length text - length q.1) u k.0))

quoted_clean : (text : List ℕ) → IsUtf8 text → CleanFirst (quoted_and_rest (quoted_at text))
quoted_clean text u = quoted_by text (quoted_at text) u (quoted-one_spelling text) (quoted_cut text u)

-- All other tokens are none.
pick : (b : Bool) (x y : Option Token) → Clean x → Clean y → Clean (cond b x y)
pick true x y h k = h
pick false x y h k = k

pick_first : (b : Bool) (x y : Option (Token × List ℕ)) → CleanFirst x → CleanFirst y → CleanFirst (cond b x y)
pick_first true x y h k = h
pick_first false x y h k = k

single_clean : (c d : ℕ) → Clean (single_symbol c d)
unfolding single_symbol
single_clean c d =
    pick (eqb c 40) _ _ refl (pick (eqb c 41) _ _ refl (pick (eqb c 44) _ _ refl (pick (eqb c 61) _ _ refl (pick (eqb c 43) _ _ refl (pick (eqb c 45) _ _ refl
    (pick (eqb c 42) _ _ refl (pick (eqb c 47) _ _ refl (pick (eqb c 37) _ _ refl (pick (eqb c 60) _ _ refl (pick (eqb c 62) _ _ refl tt))))))))))

double_clean : (c d : ℕ) → Clean (double_symbol c d)
unfolding double_symbol
double_clean c d =
    pick (eqb c 43 && eqb d 43) _ _ refl (pick (eqb c 61 && eqb d 61) _ _ refl (pick (eqb c 33 && eqb d 61) _ _ refl (pick (eqb c 60 && eqb d 61) _ _ refl (pick (eqb c 62 && eqb d 61) _ _ refl tt))))

rest_clean : (rest : List ℕ) (o : Option Token) → Clean o → CleanFirst (with_rest rest o)
rest_clean rest None h = tt
rest_clean rest (Some x) h = h

symbol_clean : (o p : Option Token) (cs : List ℕ) → Clean o → Clean p → CleanFirst (longer_symbol o p cs)
symbol_clean None p cs h k = rest_clean cs p k
symbol_clean (Some x) p cs h k = h

number_clean : (w : List ℕ) → Clean (number_token w)
number_clean w = pick (is_numeral w) _ _ refl (pick (list_any (λ c. eqb c 46) w) _ _ refl tt)

named_clean : (w : List ℕ) (o : Option Keyword) → is_clean (keyword_or_name w o) ≡ true
named_clean w None = refl
named_clean w (Some key) = refl

word_by : (w : List ℕ) (s u : Bool) → is_clean (cond s (t.Op ops.And) (cond u (t.Op ops.Or) (keyword_or_name w (keyword_of w)))) ≡ true
word_by w true u = refl
word_by w false true = refl
word_by w false false = named_clean w (keyword_of w)

word_clean : (w : List ℕ) → is_clean (word_token w) ≡ true
unfolding word_token
word_clean w = word_by w (bytes_eq w (codes "and")) (bytes_eq w (codes "or"))

first_clean : (c : ℕ) (cs : List ℕ) → IsUtf8 (c ∷ cs) → CleanFirst (token_at (c ∷ cs))
first_clean c cs u =
    pick_first (eqb c 34) _ _ (quoted_clean (c ∷ cs) u)
    (pick_first (is_ascii_digit c) _ _ (rest_clean (span Numeric (c ∷ cs)).1 _ (number_clean (span Numeric (c ∷ cs)).0))
    (pick_first (is_letter c) _ _ (word_clean (span Word (c ∷ cs)).0)
    (pick_first (ltb c 128) _ None (symbol_clean (double_symbol c (slice_index cs 0)) (single_symbol c (slice_index cs 0)) cs (double_clean c (slice_index cs 0)) (single_clean c (slice_index cs 0))) (tt {0}))))

-- Token by token.
abbrev CleanAll : Option (List Token) → Type 0
CleanAll o = IfSome o (λ ts. are_clean ts ≡ true)

after_first : (x : Token) (o : Option (List Token)) → is_clean x ≡ true → CleanAll o → CleanAll (with_token x o)
after_first x None h k = tt
after_first x (Some ts) h k = both_true (is_clean x) (are_clean ts) h k

on_first : (others : List ℕ → Option (List Token)) (front : List ℕ) (o : Option (Token × List ℕ)) → o ≡ token_at front → IsUtf8 front → CleanFirst o → ((rest : List ℕ) → IsUtf8 rest → CleanAll (others rest)) → CleanAll (lex_rest others o)
on_first others front None e u h k = tt
on_first others front (Some p) e u h k = after_first p.0 (others p.1) h (k p.1 (text_behind front p e u))

by_front : (others : List ℕ → Option (List Token)) (front : List ℕ) → IsUtf8 front → ((rest : List ℕ) → IsUtf8 rest → CleanAll (others rest)) → CleanAll (lex_behind_spaces others front)
by_front others [] u h = refl
by_front others (c ∷ cs) u h = on_first others (c ∷ cs) (token_at (c ∷ cs)) refl u (first_clean c cs u) h

lex_clean : (n : ℕ) (text : List ℕ) → IsUtf8 text → CleanAll (lex_fewer_than n text)
lex_clean zero text u = tt
lex_clean (suc n) text u = by_front (lex_fewer_than n) (span Space text).1 (behind_span Space text u) (lex_clean n)

-- Lines.
abbrev pub CleanLine : LexedLine → Type 0
CleanLine (l.Tokens ts) = are_clean ts ≡ true
CleanLine _ = Unit {0}

spelled_clean : (o : Option (List Token)) → CleanAll o → CleanLine (line_of_tokens o)
spelled_clean None h = tt
spelled_clean (Some ts) h = h

skipped : (b : Bool) (o : Option (List Token)) → CleanAll o → CleanLine (cond b l.Skipped (line_of_tokens o))
skipped true o h = tt
skipped false o h = spelled_clean o h

behind_clean : (text : List ℕ) → IsUtf8 text → CleanLine (line_behind_spaces text)
behind_clean [] u = tt
behind_clean (c ∷ cs) u = skipped (eqb c 35) (tokens_in (c ∷ cs)) (lex_clean (length (c ∷ cs) + 1) (c ∷ cs) u)

pub line_clean : (line : List ℕ) → IsUtf8 line → CleanLine (lexed_line line)
line_clean line u = behind_clean (span Space line).1 (behind_span Space line u)
