use Rattle.std.proofs.Common.{◌≡◌, true, ◌++◌, ◌∷◌, length, take}
use Rattle.std.specs.List.{flat_map, list_all}
use Rattle.std.specs.Str.{is_utf8}
use Rattle.rec_codec.specs.Spelling.{text}
use Rattle.rec_codec.proofs.pieces.put_names.Given as goal

abbrev pub invariant-loop-name : goal.invariant-loop-name
invariant-loop-name l =
    (l.out ≡ l.fn.out ++ length l.names ∷ flat_map text (take l.name-index l.names))
    × (list_all is_utf8 (take l.name-index l.names) ≡ true)
