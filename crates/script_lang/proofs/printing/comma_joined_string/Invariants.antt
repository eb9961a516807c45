use Rattle.std.proofs.Common.{◌≡◌, ◌++◌, drop}
use Rattle.std.specs.String.{string_bytes}
use Rattle.script_lang.specs.Printed.{comma_joined}
use Rattle.script_lang.proofs.PrintLemmas.{rest_listed}
use Rattle.script_lang.proofs.printing.comma_joined_string.Given as goal

abbrev pub invariant-items : goal.invariant-items
invariant-items g l =
    string_bytes l.out ++ rest_listed l.first g.T.Piece.prints (drop l.item-index l.items) ≡ comma_joined g.T.Piece.prints l.items
