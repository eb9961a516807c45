use Rattle.std.proofs.Common.{◌≡◌, ◌++◌, drop}
use Rattle.std.specs.String.{string_bytes}
use Rattle.lb_base.specs.Print.{value_text}
use Rattle.script_lang.specs.Printed.{each_behind_comma}
use Rattle.run_lines.proofs.listing.push_more_values.Given as goal

abbrev pub invariant-values : goal.invariant-values
invariant-values l = string_bytes l.out ++ each_behind_comma value_text (drop l.value-index l.values) ≡ string_bytes l.fn.out ++ each_behind_comma value_text l.values
