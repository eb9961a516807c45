use Rattle.std.proofs.Common.{◌≡◌, true, ◌++◌, ◌∷◌, length, take}
use Rattle.std.specs.List.{flat_map, list_all}
use Rattle.rec_codec.specs.Spelling.{write, is_text_write}
use Rattle.rec_codec.proofs.pieces.put_writes.Given as goal

abbrev pub invariant-loop-write : goal.invariant-loop-write
invariant-loop-write l =
    (l.out ≡ l.fn.out ++ length l.writes ∷ flat_map write (take l.write-index l.writes))
    × (list_all is_text_write (take l.write-index l.writes) ≡ true)
