use Rattle.std.proofs.Common.{◌≡◌, ◌++◌, drop}
use Rattle.std.specs.String.{string_bytes}
use Rattle.script_lang.specs.Printed.{each_behind_comma}
use Rattle.run_lines.specs.Lines.{name_value_text}
use Rattle.run_lines.proofs.listing.push_more_pairs.Given as goal

abbrev pub invariant-pairs : goal.invariant-pairs
invariant-pairs l = string_bytes l.out ++ each_behind_comma (name_value_text l.between) (drop l.pair-index l.pairs) ≡ string_bytes l.fn.out ++ each_behind_comma (name_value_text l.between) l.pairs
