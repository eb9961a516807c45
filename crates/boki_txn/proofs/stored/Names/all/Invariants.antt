use Rattle.std.proofs.Common.{◌≡◌, ◌++◌}
use Rattle.boki_txn.specs.Names.{with_values}
use Rattle.boki_txn.proofs.stored.Names.all.Given as goal

abbrev pub invariant-loop-name : goal.invariant-loop-name
invariant-loop-name l = l.all ++ with_values l.name-iterator ≡ with_values l.self
