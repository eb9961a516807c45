use Rattle.std.proofs.Common.{◌≡◌, ◌++◌, drop}
use Rattle.std.specs.Prelude.{flat_map}
use Rattle.std.specs.String.{string_bytes}
use Rattle.plan_lang.specs.Printed.{turn_line}
use Rattle.plan_lang.proofs.report.turns_string.Given as goal

abbrev pub invariant-turns : goal.invariant-turns
invariant-turns l = string_bytes l.out ++ flat_map (turn_line l.functions) (drop l.turn-index l.turns) ≡ flat_map (turn_line l.functions) l.turns
