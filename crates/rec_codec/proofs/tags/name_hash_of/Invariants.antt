use Rattle.std.proofs.Common.{◌≡◌, drop}
use Rattle.boki_model.specs.Bodies.{hash_from}
use Rattle.rec_codec.proofs.tags.name_hash_of.Given as goal

abbrev pub invariant-loop-byte : goal.invariant-loop-byte
invariant-loop-byte l = hash_from l.hash (drop l.byte-index l.byte-items) ≡ hash_from 14695981039346656037 l.name
