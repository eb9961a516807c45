-- Lines of a text.
use Rattle.std.specs.Prelude.{ℕ, List, [], ◌∷◌, Option, Some, None, ◌==◌, if◌then◌else◌}
use Rattle.std.specs.Str.{is_utf8}
use Rattle.line_text.specs.declared.token.Token.{Token}
use Rattle.line_text.specs.declared.lines.LexedLine.{LexedLine}
use Rattle.line_text.specs.declared.lines.LexedLine.TheVariants as l
use Rattle.line_text.specs.declared.spans.CharClass.TheVariants.{Space}
use Rattle.line_text.specs.Tokens.{span, tokens_in}
use Rattle.line_text.specs.Splits.{split_first}

-- the first line without its line feed, and what follows that
abbrev pub first_line : List ℕ → Option (List ℕ × List ℕ)
first_line text = split_first 10 text

-- the lines that end in a line feed, without it, and what follows the last one
abbrev pub prepend_to_first : ℕ → List (List ℕ) × List ℕ → List (List ℕ) × List ℕ
prepend_to_first c ([], rest) = ([], c ∷ rest)
prepend_to_first c (line ∷ lines, rest) = ((c ∷ line) ∷ lines, rest)

abbrev pub lines_in : List ℕ → List (List ℕ) × List ℕ
lines_in [] = ([], [])
lines_in (c ∷ cs) = if c == 10 then ([] ∷ (lines_in cs).0, (lines_in cs).1) else prepend_to_first c (lines_in cs)

-- the text that bytes are
abbrev pub utf8_text : List ℕ → Option (List ℕ)
utf8_text line = if is_utf8 line then Some line else None

-- a line's tokens
abbrev pub line_of_tokens : Option (List Token) → LexedLine
line_of_tokens None = l.Invalid
line_of_tokens (Some ts) = l.Tokens ts

-- a line without the spaces at its start
abbrev pub line_behind_spaces : List ℕ → LexedLine
line_behind_spaces [] = l.Skipped
line_behind_spaces (c ∷ cs) = if c == 35 then l.Skipped else line_of_tokens (tokens_in (c ∷ cs))

abbrev pub lexed_line : List ℕ → LexedLine
lexed_line line = line_behind_spaces (span Space line).1
