-- The text of functions.
use Rattle.std.specs.Prelude.{◌≡◌, ℕ, ◌+◌, List, [], ◌∷◌, Option, Some, None, Result, Ok, Err}
use Rattle.boki_types.specs.declared.kind.Kind.{Kind}
use Rattle.boki_types.specs.declared.kind.Kind.TheVariants as kind
use Rattle.boki_types.specs.declared.program.Function.{Function}
use Rattle.boki_types.specs.declared.program.Program.{Program}
use Rattle.script_lang.specs.declared.draft.Draft.{Draft}
use Rattle.script_lang.specs.declared.draft.Stage.{Stage}
use Rattle.script_lang.specs.declared.draft.Stage.TheVariants.{Between, Inside}
use Rattle.line_text.specs.declared.fault.TextFault.{TextFault}
use Rattle.line_text.specs.Lines.{lines_in, lexed_line}
use Rattle.script_lang.specs.Functions.{take_line, empty_draft}
use Rattle.script_lang.specs.Names.{name_fault}
use Rattle.line_text.specs.Faults.{refused_at}
use Rattle.line_text.specs.Texts.{lines_on}

-- Lines one after another, from the number n on. A last line without its line feed is refused. What is read is given with the
-- number of lines before plus one.
abbrev pub draft_from : ℕ → List (List ℕ) → List ℕ → Draft → Result (ℕ × Draft) TextFault
draft_from n [] [] d = Ok (n, d)
draft_from n [] (c ∷ cs) d = Err (refused_at n kind.Truncated)
draft_from n (line ∷ lines) rest d = lines_on (draft_from (n + 1) lines rest) n (take_line n (lexed_line line) d)

abbrev pub scan_functions : ℕ → List ℕ → Draft → Result (ℕ × Draft) TextFault
scan_functions n text d = draft_from n (lines_in text).0 (lines_in text).1 d

-- The second pass, where the first accepts all lines and no function is open at the end.
abbrev pub program_or_fault : List Function → Option (ℕ × Kind) → Result Program TextFault
program_or_fault fs None = Ok (record { functions = fs })
program_or_fault fs (Some fault) = Err (refused_at fault.0 fault.1)

abbrev pub program_at_end : ℕ → List Function → List (List ℕ) → Stage → Result Program TextFault
program_at_end n fs ms Between = program_or_fault fs (name_fault fs ms)
program_at_end n fs ms (Inside f m bs) = Err (refused_at n kind.End)

abbrev pub program_of_scan : Result (ℕ × Draft) TextFault → Result Program TextFault
program_of_scan (Err fault) = Err fault
program_of_scan (Ok p) = program_at_end p.0 p.1.functions p.1.line_numbers p.1.stage

-- the program that a text spells, whose first line has the number `first`; or the first line that is refused, and why
abbrev pub program_of : ℕ → List ℕ → Result Program TextFault
program_of first text = program_of_scan (scan_functions first text empty_draft)
