use Rattle.std.proofs.Common.{◌≡◌, map, take}
use Rattle.boki_txn.specs.Names.{value_of}
use Rattle.boki_txn.proofs.stored.Names.values.Given as goal

abbrev pub invariant-names : goal.invariant-names
invariant-names l = l.values ≡ map (λ name. value_of name l.self) (take l.name-index l.names)
