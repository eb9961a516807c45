-- A text, line by line.
use Rattle.std.specs.Prelude.{ℕ, ◌+◌, List, [], ◌∷◌, length, Option, Some, None, Result, Ok, Err, nat_lt, if◌then◌else◌}
use Rattle.boki_types.specs.declared.kind.Kind.{Kind}
use Rattle.boki_types.specs.declared.kind.Kind.TheVariants as kind
use Rattle.line_text.specs.declared.lines.LexedLine.{LexedLine}
use Rattle.line_text.specs.declared.lines.LexedLine.TheVariants as l
use Rattle.line_text.specs.declared.token.Token.{Token}
use Rattle.line_text.specs.Lines.{lines_in, lexed_line, utf8_text}
use Rattle.line_text.specs.declared.fault.TextFault.{TextFault}
use Rattle.line_text.specs.Faults.{refused_at}

-- what is read of a line that isn't skipped, from its tokens
abbrev pub ReadsLine : Type 0 → Type 0
ReadsLine D = ℕ → List Token → D → Result D Kind

-- a line of a text that has at most so many lines
abbrev pub line_of_utf8 : Option (List ℕ) → Result LexedLine Kind
line_of_utf8 None = Err kind.Utf8
line_of_utf8 (Some text) = Ok (lexed_line text)

abbrev pub line_within : ℕ → ℕ → List ℕ → Result LexedLine Kind
line_within most n line = if nat_lt most n then Err kind.Lines else line_of_utf8 (utf8_text line)

abbrev pub read_lexed_line : {D : Type 0} → ReadsLine D → ℕ → LexedLine → D → Result D Kind
read_lexed_line take n l.Skipped d = Ok d
read_lexed_line take n (l.Tokens ts) d = take n ts d
read_lexed_line take n l.Invalid d = Err kind.Syntax

abbrev pub read_checked_line : {D : Type 0} → ReadsLine D → ℕ → Result LexedLine Kind → D → Result D Kind
read_checked_line take n (Err k) d = Err k
read_checked_line take n (Ok line) d = read_lexed_line take n line d

abbrev pub read_text_line : {D : Type 0} → ReadsLine D → ℕ → ℕ → List ℕ → D → Result D Kind
read_text_line take most n line d = read_checked_line take n (line_within most n line) d

-- what is wrong with a last line without its line feed
abbrev pub unended_by : Option (List ℕ) → Kind
unended_by None = kind.Utf8
unended_by (Some text) = kind.Truncated

abbrev pub unended_line : ℕ → ℕ → List ℕ → Kind
unended_line most n line = if nat_lt most n then kind.Lines else unended_by (utf8_text line)

abbrev pub lines_on : {D : Type 0} → (D → Result (ℕ × D) TextFault) → ℕ → Result D Kind → Result (ℕ × D) TextFault
lines_on others n (Err k) = Err (refused_at n k)
lines_on others n (Ok d) = others d

-- Lines one after another, from the number n on. What is read is given with the number of lines before plus one.
abbrev pub lines_from : {D : Type 0} → ReadsLine D → ℕ → ℕ → List (List ℕ) → List ℕ → D → Result (ℕ × D) TextFault
lines_from take most n [] [] d = Ok (n, d)
lines_from take most n [] (c ∷ cs) d = Err (refused_at n (unended_line most n (c ∷ cs)))
lines_from take most n (line ∷ lines) rest d = lines_on (lines_from take most (n + 1) lines rest) n (read_text_line take most n line d)

abbrev pub scan_lines : {D : Type 0} → ReadsLine D → ℕ → ℕ → List ℕ → D → Result (ℕ × D) TextFault
scan_lines take most n text d = lines_from take most n (lines_in text).0 (lines_in text).1 d

-- how many lines of a text end in a line feed
abbrev pub line_count : List ℕ → ℕ
line_count text = length (lines_in text).0
