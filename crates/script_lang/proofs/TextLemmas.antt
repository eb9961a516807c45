-- A text, line by line.
use Rattle.std.proofs.Common.{◌≡◌, ℕ, ◌+◌, ◌<◌, List, [], ◌∷◌, length, Some, None, Ok, Err, refl, sym, ap, ◌∙◌, arith}
use Rattle.boki_types.specs.declared.kind.Kind.TheVariants as kind
use Rattle.script_lang.specs.declared.draft.Draft.{Draft}
use Rattle.line_text.specs.declared.fault.TextFault.{TextFault}
use Rattle.line_text.specs.declared.fault.TextFault.TheVariants as faults
use Rattle.line_text.specs.Lines.{first_line, lexed_line}
use Rattle.script_lang.specs.Functions.{take_line, empty_draft}
use Rattle.script_lang.specs.Texts.{scan_functions, draft_from, program_of_scan, program_of}
use Rattle.line_text.specs.Texts.{lines_on}
use Rattle.line_text.specs.Faults.{refused_at, AddFails, Fails}
use Rattle.line_text.proofs.LineLemmas.{line_then}

pub scan_line : (n : ℕ) (text line after : List ℕ) (d : Draft) → Some (line, after) ≡ first_line text → scan_functions n text d ≡ lines_on (λ b. scan_functions (n + 1) after b) n (take_line n (lexed_line line) d)
scan_line n text line after d e =
    let h = rw (← e) at (line_then text) in
    ap (λ (p : List (List ℕ) × List ℕ). draft_from n p.0 p.1 d) h

pub scan_next : (n : ℕ) (text line after : List ℕ) (d next : Draft) → Some (line, after) ≡ first_line text → take_line n (lexed_line line) d ≡ Ok next → scan_functions n text d ≡ scan_functions (n + 1) after next
scan_next n text line after d next e f =
    scan_line n text line after d e ∙ ap (lines_on (λ b. scan_functions (n + 1) after b) n) f

last : (n : ℕ) (rest : List ℕ) (d : Draft) → 0 < length rest → draft_from n [] rest d ≡ Err (refused_at n kind.Truncated)
last n [] d h = absurd (omega arith)
last n (c ∷ cs) d h = refl

pub scan_last : (n : ℕ) (text : List ℕ) (d : Draft) → None ≡ first_line text → 0 < length text → scan_functions n text d ≡ Err (refused_at n kind.Truncated)
scan_last n text d e some =
    let h = rw (← e) at (line_then text) in
    ap (λ (p : List (List ℕ) × List ℕ). draft_from n p.0 p.1 d) h ∙ last n text d some

pub scan_end : (n : ℕ) (text : List ℕ) (d : Draft) → None ≡ first_line text → length text ≡ 0 → scan_functions n text d ≡ Ok (n, d)
scan_end n [] d e h = refl
scan_end n (c ∷ cs) d e h = absurd (omega arith)

pub fails_at : (fault : TextFault) (n first : ℕ) (text line after whole : List ℕ) (d : Draft) → Some (line, after) ≡ first_line text → scan_functions n text d ≡ scan_functions first whole empty_draft → AddFails fault n (take_line n (lexed_line line) d) → Fails fault (program_of first whole)
fails_at faults.Memory n first text line after whole d e f h = tt
fails_at (faults.Refused m k) n first text line after whole d e f h =
    ap program_of_scan (sym f)
    ∙ ap program_of_scan (scan_line n text line after d e)
    ∙ ap (λ r. program_of_scan (lines_on (λ b. scan_functions (n + 1) after b) n r)) h.1
    ∙ ap (λ i. Err (refused_at i k)) (sym h.0)
