-- Lines, one after another.
use Rattle.std.proofs.Common.{◌≡◌, ℕ, Bool, true, false, cond, eqb, List, [], ◌∷◌, Option, Some, None, refl, ap}
use Rattle.std.specs.Prelude.{MatchOption}
use Rattle.std.specs.Str.{is_utf8, IsUtf8}
use Rattle.std.proofs.lemmas.Str.{is_utf8-from_IsUtf8, IsUtf8-from_is_utf8}
use Rattle.line_text.specs.Lines.{first_line, lines_in, prepend_to_first, utf8_text}
use Rattle.line_text.specs.Splits.{prepend}

not_utf8_by : (line : List ℕ) (t : Bool) → is_utf8 line ≡ t → (IsUtf8 line → ⊥) → cond t (Some line) None ≡ None
not_utf8_by line true e h = absurd (h (IsUtf8-from_is_utf8 line e))
not_utf8_by line false e h = refl

pub text_is : (line : List ℕ) → IsUtf8 line → utf8_text line ≡ Some line
text_is line h = rw (is_utf8-from_IsUtf8 line h) refl

pub text_is_not : (line : List ℕ) → (IsUtf8 line → ⊥) → utf8_text line ≡ None
text_is_not line h = not_utf8_by line (is_utf8 line) refl h

onto_by : (c : ℕ) (cs : List ℕ) (o : Option (List ℕ × List ℕ)) (ls : List (List ℕ) × List ℕ) → MatchOption o (ls ≡ ([], cs)) (λ p. ls ≡ (p.0 ∷ (lines_in p.1).0, (lines_in p.1).1)) → MatchOption (prepend c o) (prepend_to_first c ls ≡ ([], c ∷ cs)) (λ p. prepend_to_first c ls ≡ (p.0 ∷ (lines_in p.1).0, (lines_in p.1).1))
onto_by c cs None ls h = ap (prepend_to_first c) h
onto_by c cs (Some p) ls h = ap (prepend_to_first c) h

line_by : (c : ℕ) (cs : List ℕ) (t : Bool) → MatchOption (first_line cs) (lines_in cs ≡ ([], cs)) (λ p. lines_in cs ≡ (p.0 ∷ (lines_in p.1).0, (lines_in p.1).1)) → let all = cond t ([] ∷ (lines_in cs).0, (lines_in cs).1) (prepend_to_first c (lines_in cs)) in MatchOption (cond t (Some ([], cs)) (prepend c (first_line cs))) (all ≡ ([], c ∷ cs)) (λ p. all ≡ (p.0 ∷ (lines_in p.1).0, (lines_in p.1).1))
line_by c cs true h = refl
line_by c cs false h = onto_by c cs (first_line cs) (lines_in cs) h

-- the first line, and those of what follows it
pub line_then : (text : List ℕ) → MatchOption (first_line text) (lines_in text ≡ ([], text)) (λ p. lines_in text ≡ (p.0 ∷ (lines_in p.1).0, (lines_in p.1).1))
line_then [] = refl
line_then (c ∷ cs) = line_by c cs (eqb c 10) (line_then cs)
