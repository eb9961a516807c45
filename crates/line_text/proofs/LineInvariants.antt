-- What each line of a text keeps, the whole text keeps.
use Rattle.std.proofs.Common.{◌≡◌, ℕ, ◌+◌, Bool, true, false, cond, List, [], ◌∷◌, Some, None, Result, Ok, Err, refl}
use Rattle.std.specs.Prelude.{IfOk, nat_lt}
use Rattle.std.specs.Str.{is_utf8}
use Rattle.std.proofs.lemmas.Str.{IsUtf8-from_is_utf8}
use Rattle.boki_types.specs.declared.kind.Kind.{Kind}
use Rattle.boki_types.specs.declared.kind.Kind.TheVariants as kind
use Rattle.line_text.specs.declared.lines.LexedLine.{LexedLine}
use Rattle.line_text.specs.declared.lines.LexedLine.TheVariants as l
use Rattle.line_text.specs.declared.token.Token.{Token}
use Rattle.line_text.specs.Lines.{lines_in, lexed_line, utf8_text}
use Rattle.line_text.proofs.LexedNames.{line_good, NamesValid}
use Rattle.line_text.specs.declared.fault.TextFault.{TextFault}
use Rattle.line_text.specs.Texts.{ReadsLine, line_of_utf8, read_lexed_line, read_checked_line, read_text_line, lines_on, lines_from, scan_lines}
use Rattle.line_text.proofs.Utf8Tokens.{are_clean, CleanLine, line_clean}

-- what holds before a line holds behind it, whose quoted texts are UTF-8
abbrev pub Keeps : {D : Type 0} → (D → Type 0) → ReadsLine D → Type 0
Keeps {D} P take = (n : ℕ) (ts : List Token) (d : D) → NamesValid ts → are_clean ts ≡ true → P d → IfOk (take n ts d) P

line_kept : {D : Type 0} (P : D → Type 0) (take : ReadsLine D) → Keeps P take → (n : ℕ) (line : LexedLine) (d : D) → ((ts : List Token) → line ≡ l.Tokens ts → NamesValid ts) → CleanLine line → P d → IfOk (read_lexed_line take n line d) P
line_kept P take keep n l.Skipped d h c g = g
line_kept P take keep n (l.Tokens ts) d h c g = keep n ts d (h ts refl) c g
line_kept P take keep n l.Invalid d h c g = tt

text_kept : {D : Type 0} (P : D → Type 0) (take : ReadsLine D) → Keeps P take → (n : ℕ) (line : List ℕ) (d : D) (b : Bool) → is_utf8 line ≡ b → P d → IfOk (read_checked_line take n (line_of_utf8 (cond b (Some line) None)) d) P
text_kept P take keep n line d false e g = tt
text_kept P take keep n line d true e g =
    line_kept P take keep n (lexed_line line) d (line_good line) (line_clean line (IsUtf8-from_is_utf8 line e)) g

whole_kept : {D : Type 0} (P : D → Type 0) (take : ReadsLine D) → Keeps P take → (n : ℕ) (line : List ℕ) (d : D) (c : Bool) → P d → IfOk (read_checked_line take n (cond c (Err kind.Lines) (line_of_utf8 (utf8_text line))) d) P
whole_kept P take keep n line d true g = tt
whole_kept P take keep n line d false g = text_kept P take keep n line d (is_utf8 line) refl g

goes_kept : {D : Type 0} (P : D → Type 0) (others : D → Result (ℕ × D) TextFault) (n : ℕ) (o : Result D Kind) → IfOk o P → ((d : D) → P d → IfOk (others d) (λ p. P p.1)) → IfOk (lines_on others n o) (λ p. P p.1)
goes_kept P others n (Err k) h rest = tt
goes_kept P others n (Ok d) h rest = rest d h

lines_kept : {D : Type 0} (P : D → Type 0) (take : ReadsLine D) → Keeps P take → (most n : ℕ) (ls : List (List ℕ)) (rest : List ℕ) (d : D) → P d → IfOk (lines_from take most n ls rest d) (λ p. P p.1)
lines_kept P take keep most n [] [] d g = g
lines_kept P take keep most n [] (c ∷ cs) d g = tt
lines_kept P take keep most n (line ∷ ls) rest d g =
    goes_kept P (lines_from take most (n + 1) ls rest) n (read_text_line take most n line d) (whole_kept P take keep n line d (nat_lt most n) g) (λ next h. lines_kept P take keep most (n + 1) ls rest next h)

pub kept : {D : Type 0} (P : D → Type 0) (take : ReadsLine D) → Keeps P take → (most n : ℕ) (text : List ℕ) (d : D) → P d → IfOk (scan_lines take most n text d) (λ p. P p.1)
kept P take keep most n text d g = lines_kept P take keep most n (lines_in text).0 (lines_in text).1 d g
