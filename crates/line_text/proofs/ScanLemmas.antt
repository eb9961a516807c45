-- A text, line by line.
use Rattle.std.proofs.Common.{◌≡◌, ℕ, ◌+◌, ◌<◌, List, [], ◌∷◌, length, Some, None, Result, Ok, Err, refl, sym, ap, subst, ◌∙◌, arith}
use Rattle.line_text.specs.Lines.{first_line}
use Rattle.line_text.proofs.LineLemmas.{line_then}
use Rattle.line_text.specs.declared.fault.TextFault.{TextFault}
use Rattle.line_text.specs.declared.fault.TextFault.TheVariants as faults
use Rattle.line_text.specs.Texts.{ReadsLine, scan_lines, lines_from, lines_on, read_text_line, unended_line}
use Rattle.line_text.specs.Faults.{refused_at, Fails, AddFails, Gives}

pub scan_line : {D : Type 0} (take : ReadsLine D) (most n : ℕ) (text line after : List ℕ) (d : D) → Some (line, after) ≡ first_line text → scan_lines take most n text d ≡ lines_on (λ b. scan_lines take most (n + 1) after b) n (read_text_line take most n line d)
scan_line take most n text line after d e =
    let h = rw (← e) at (line_then text) in
    ap (λ (p : List (List ℕ) × List ℕ). lines_from take most n p.0 p.1 d) h

pub scan_next : {D : Type 0} (take : ReadsLine D) (most n : ℕ) (text line after : List ℕ) (d next : D) → Some (line, after) ≡ first_line text → read_text_line take most n line d ≡ Ok next → scan_lines take most n text d ≡ scan_lines take most (n + 1) after next
scan_next take most n text line after d next e f =
    scan_line take most n text line after d e ∙ ap (lines_on (λ b. scan_lines take most (n + 1) after b) n) f

last : {D : Type 0} (take : ReadsLine D) (most n : ℕ) (rest : List ℕ) (d : D) → 0 < length rest → lines_from take most n [] rest d ≡ Err (refused_at n (unended_line most n rest))
last take most n [] d h = absurd (omega arith)
last take most n (c ∷ cs) d h = refl

pub scan_last : {D : Type 0} (take : ReadsLine D) (most n : ℕ) (text : List ℕ) (d : D) → None ≡ first_line text → 0 < length text → scan_lines take most n text d ≡ Err (refused_at n (unended_line most n text))
scan_last take most n text d e some =
    let h = rw (← e) at (line_then text) in
    ap (λ (p : List (List ℕ) × List ℕ). lines_from take most n p.0 p.1 d) h ∙ last take most n text d some

pub scan_end : {D : Type 0} (take : ReadsLine D) (most n : ℕ) (text : List ℕ) (d : D) → None ≡ first_line text → length text ≡ 0 → scan_lines take most n text d ≡ Ok (n, d)
scan_end take most n [] d e h = refl
scan_end take most n (c ∷ cs) d e h = absurd (omega arith)

-- a line that fails, in a text of which so much is read
pub fails_at : {D X : Type 0} (take : ReadsLine D) (most : ℕ) (finish : Result (ℕ × D) TextFault → Result X TextFault) → ((f : TextFault) → finish (Err f) ≡ Err f) → (fault : TextFault) (n : ℕ) (text line after whole : List ℕ) (d start : D) → Some (line, after) ≡ first_line text → scan_lines take most n text d ≡ scan_lines take most 1 whole start → AddFails fault n (read_text_line take most n line d) → Fails fault (finish (scan_lines take most 1 whole start))
fails_at take most finish ends faults.Memory n text line after whole d start e f h = tt
fails_at take most finish ends (faults.Refused m k) n text line after whole d start e f h =
    ap finish (sym f)
    ∙ ap finish (scan_line take most n text line after d e)
    ∙ ap (λ r. finish (lines_on (λ b. scan_lines take most (n + 1) after b) n r)) h.1
    ∙ ends (refused_at n k)
    ∙ ap (λ i. Err (refused_at i k)) (sym h.0)

pub gives_along : {X : Type 0} (o : Result X TextFault) (a b : Result X TextFault) → a ≡ b → Gives o a → Gives o b
gives_along o a b e h = subst (λ r. Gives o r) e h
