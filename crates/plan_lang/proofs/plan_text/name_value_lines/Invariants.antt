use Rattle.std.proofs.Common.{◌≡◌, ◌++◌, drop}
use Rattle.std.specs.Prelude.{flat_map}
use Rattle.std.specs.String.{string_bytes}
use Rattle.plan_lang.specs.Printed.{name_value_line}
use Rattle.plan_lang.proofs.plan_text.name_value_lines.Given as goal

abbrev pub invariant-pairs : goal.invariant-pairs
invariant-pairs l = string_bytes l.out ++ flat_map (name_value_line l.word) (drop l.pair-index l.pairs) ≡ flat_map (name_value_line l.word) l.pairs
