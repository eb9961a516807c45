use Rattle.std.proofs.Common.{◌≡◌, drop}
use Rattle.line_text.specs.Fields.{path_numbers_of}
use Rattle.line_text.proofs.DotLemmas.{behind_parts}
use Rattle.line_text.proofs.dotted.parts.Given as goal

abbrev pub invariant-numbers : goal.invariant-numbers
invariant-numbers l = behind_parts l.found (path_numbers_of (drop l.n-index l.numbers)) ≡ path_numbers_of l.numbers
