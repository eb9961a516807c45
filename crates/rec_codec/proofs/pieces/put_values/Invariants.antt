use Rattle.std.proofs.Common.{◌≡◌, true, ◌++◌, ◌∷◌, length, take}
use Rattle.std.specs.List.{flat_map, list_all}
use Rattle.rec_codec.specs.Spelling.{value, is_text_value}
use Rattle.rec_codec.proofs.pieces.put_values.Given as goal

abbrev pub invariant-loop-value : goal.invariant-loop-value
invariant-loop-value l =
    (l.out ≡ l.fn.out ++ length l.values ∷ flat_map value (take l.value-index l.values))
    × (list_all is_text_value (take l.value-index l.values) ≡ true)
