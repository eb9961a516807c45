use Rattle.std.proofs.Common.{◌≡◌, ◌+◌, drop}
use Rattle.script_lang.specs.Names.{names_in, lines_fault}
use Rattle.script_lang.proofs.names.first_line_fault.Given as goal

abbrev pub invariant-lines : goal.invariant-lines
invariant-lines l =
    lines_fault l.functions (names_in l.known) (drop l.i l.lines) l.line_numbers (l.i + 1) ≡ lines_fault l.functions l.function.params l.function.lines l.line_numbers 1
