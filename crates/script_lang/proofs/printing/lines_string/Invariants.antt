use Rattle.std.proofs.Common.{◌≡◌, ◌++◌, ◌+◌, ◌≤◌, drop}
use Rattle.std.specs.String.{string_bytes}
use Rattle.script_lang.specs.Printed.{stmt_lines_text}
use Rattle.script_lang.proofs.printing.lines_string.Given as goal

abbrev pub invariant-lines : goal.invariant-lines
invariant-lines l =
    (string_bytes l.out ++ stmt_lines_text l.depth (drop l.line-index l.lines) ≡ stmt_lines_text 1 l.lines)
    × (l.depth ≤ l.line-index + 1)
