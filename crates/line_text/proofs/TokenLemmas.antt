-- What follows a token is text.
use Rattle.std.proofs.Common.{◌≡◌, ℕ, ◌-◌, ◌<◌, Bool, true, false, cond, eqb, List, [], ◌∷◌, length, drop, Option, Some, None, refl, sym, subst, arith, eqb-true}
use Rattle.std.specs.Prelude.{IfSome, nat_lt, slice_index}
use Rattle.std.specs.Str.{IsUtf8, IsCharBoundary}
use Rattle.std.specs.Char.{is_ascii_digit}
use Rattle.std.proofs.lemmas.Str.{IsUtf8-drop, IsCharBoundary-after_ascii}
use Rattle.std.proofs.lemmas.Bool.Decides.{nat_tests}
use Rattle.lb_base.specs.Quoted.{quoted_at}
use Rattle.lb_base.proofs.QuotedLemmas.{quoted_cut}
use Rattle.line_text.specs.declared.token.Token.{Token}
use Rattle.line_text.specs.declared.spans.CharClass.{CharClass}
use Rattle.line_text.specs.declared.spans.CharClass.TheVariants.{Numeric, Word}
use Rattle.line_text.specs.Tokens.{span, number_token, with_rest, quoted_and_rest, double_symbol, single_symbol, symbol_and_rest, longer_symbol, token_at, is_letter}
use Rattle.line_text.proofs.SpanLemmas.{boundary, rest_is}

abbrev LeavesText : Option (Token × List ℕ) → Type 0
LeavesText o = IfSome o (λ p. IsUtf8 p.1)

either : (t : Bool) (x y : Option (Token × List ℕ)) → (t ≡ true → LeavesText x) → (t ≡ false → LeavesText y) → LeavesText (cond t x y)
either true x y first second = first refl
either false x y first second = second refl

pub behind_span : (k : CharClass) (text : List ℕ) → IsUtf8 text → IsUtf8 (span k text).1
behind_span k text u = subst (λ (l : List ℕ). IsUtf8 l) (rest_is k text) (IsUtf8-drop text (length (span k text).0) u (boundary k text u))

behind_rest : (rest : List ℕ) (o : Option Token) → IsUtf8 rest → LeavesText (with_rest rest o)
behind_rest rest None u = tt
behind_rest rest (Some token) u = u

behind_quoted : (text : List ℕ) (o : Option (List ℕ × List ℕ)) → IsUtf8 text → IfSome o (λ q. IsCharBoundary text (length text - length q.1) × (drop (length text - length q.1) text ≡ q.1)) → LeavesText (quoted_and_rest o)
behind_quoted text None u h = tt
behind_quoted text (Some q) u h = subst (λ (l : List ℕ). IsUtf8 l) h.1 (IsUtf8-drop text (length text - length q.1) u h.0)

pub tail_text : (c : ℕ) (cs : List ℕ) → c < 128 → IsUtf8 (c ∷ cs) → IsUtf8 cs
tail_text c cs low u = IsUtf8-drop (c ∷ cs) 1 u (IsCharBoundary-after_ascii (c ∷ cs) 0 u (omega arith) low)

at_code : (c d : ℕ) (cs : List ℕ) → d < 128 → IsUtf8 (c ∷ cs) → eqb c d ≡ true → IsUtf8 cs
at_code c d cs low u e = tail_text c cs (omega (arith, eqb-true c d e)) u

-- two characters that spell a token are below 128
both_low : (c d : ℕ) (o : Option Token) → o ≡ double_symbol c d → IfSome o (λ _. (0 < d) × (d < 128))
unfolding double_symbol
both_low c d None e = tt
both_low c d (Some token) e = grind (arith, nat_tests, e)

pub some_first : (text : List ℕ) → 0 < slice_index text 0 → 0 < length text
some_first [] h = absurd (omega arith)
some_first (c ∷ cs) h = omega arith

-- the rest behind a second character
behind_double : (c : ℕ) (cs : List ℕ) (o p : Option Token) → IfSome o (λ _. (0 < slice_index cs 0) × (slice_index cs 0 < 128)) → IsUtf8 cs → LeavesText (longer_symbol o p cs)
behind_double c cs None p h u = behind_rest cs p u
behind_double c [] (Some token) p h u = absurd (omega (arith, h.0))
behind_double c (d ∷ ds) (Some token) p h u = tail_text d ds h.1 u

behind_symbol : (c : ℕ) (cs : List ℕ) → IsUtf8 cs → LeavesText (symbol_and_rest c cs)
behind_symbol c cs u = behind_double c cs (double_symbol c (slice_index cs 0)) (single_symbol c (slice_index cs 0)) (both_low c (slice_index cs 0) _ refl) u

token_text : (front : List ℕ) → IsUtf8 front → LeavesText (token_at front)
token_text [] u = tt
token_text (c ∷ cs) u =
    either (eqb c 34) _ _ (λ _. behind_quoted (c ∷ cs) (quoted_at (c ∷ cs)) u (quoted_cut (c ∷ cs) u)) (λ _.
    either (is_ascii_digit c) _ _ (λ _. behind_rest (span Numeric (c ∷ cs)).1 (number_token (span Numeric (c ∷ cs)).0) (behind_span Numeric (c ∷ cs) u)) (λ _.
    either (is_letter c) _ _ (λ _. behind_span Word (c ∷ cs) u) (λ _.
    either (nat_lt c 128) _ _ (λ e. behind_symbol c cs (tail_text c cs (grind (arith, nat_tests, e)) u)) (λ _. tt))))

pub text_behind : (front : List ℕ) (p : Token × List ℕ) → Some p ≡ token_at front → IsUtf8 front → IsUtf8 p.1
text_behind front p e u = subst LeavesText (sym e) (token_text front u)
