use Rattle.std.proofs.Common.{◌≡◌, ◌++◌, drop}
use Rattle.std.specs.Prelude.{flat_map}
use Rattle.std.specs.String.{string_bytes}
use Rattle.plan_lang.specs.Printed.{result_line}
use Rattle.plan_lang.proofs.report.results_string.Given as goal

abbrev pub invariant-results : goal.invariant-results
invariant-results l = string_bytes l.out ++ flat_map (result_line) (drop l.found-index l.results) ≡ flat_map (result_line) l.results
