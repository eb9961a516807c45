use Rattle.std.proofs.Common.{◌≡◌, ◌++◌, drop}
use Rattle.std.specs.String.{string_bytes}
use Rattle.lb_base.specs.Print.{value_text}
use Rattle.script_lang.specs.Printed.{comma_joined}
use Rattle.script_lang.proofs.PrintLemmas.{rest_listed}
use Rattle.plan_lang.proofs.printing.values_string.Given as goal

abbrev pub invariant-values : goal.invariant-values
invariant-values l = string_bytes l.out ++ rest_listed l.first value_text (drop l.value-index l.values) ≡ comma_joined value_text l.values
