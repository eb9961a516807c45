use Rattle.std.proofs.Common.{◌≡◌, drop}
use Rattle.std.specs.List.{list_any}
use Rattle.boki_txn.specs.Names.{is_dirty}
use Rattle.boki_txn.proofs.stored.Names.any_is_dirty.Given as goal

abbrev pub invariant-names : goal.invariant-names
invariant-names l = list_any (is_dirty l.begin l.self) l.names ≡ list_any (is_dirty l.begin l.self) (drop l.name-index l.names)
