use Rattle.std.proofs.Common.{◌≡◌, length}
use Rattle.std.specs.Str.{IsUtf8}
use Rattle.line_text.specs.Fields.{numbers_in}
use Rattle.line_text.proofs.DotLemmas.{behind_numbers}
use Rattle.line_text.proofs.dotted.read_numbers.Given as goal

abbrev pub invariant-pieces : goal.invariant-pieces
invariant-pieces l = (behind_numbers l.numbers (numbers_in l.rest) ≡ numbers_in l.text) × IsUtf8 l.rest

abbrev pub decreases-pieces : goal.decreases-pieces
decreases-pieces l = length l.rest
