use Rattle.std.proofs.Common.{◌≡◌, ◌++◌, drop}
use Rattle.std.specs.String.{string_bytes}
use Rattle.lb_base.specs.Quoted.{quoted}
use Rattle.script_lang.specs.Printed.{each_behind_comma}
use Rattle.run_lines.proofs.listing.push_more_names.Given as goal

abbrev pub invariant-names : goal.invariant-names
invariant-names l = string_bytes l.out ++ each_behind_comma quoted (drop l.name-index l.names) ≡ string_bytes l.fn.out ++ each_behind_comma quoted l.names
