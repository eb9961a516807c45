use Rattle.std.proofs.Common.{◌≡◌, ◌++◌, ◌-◌}
use Rattle.std.specs.String.{string_bytes}
use Rattle.script_lang.specs.Printed.{indent}
use Rattle.script_lang.proofs.printing.indent_string.Given as goal

abbrev pub invariant-steps : goal.invariant-steps
invariant-steps l = string_bytes l.out ++ indent (l.n - l.counter) ≡ indent l.n
