use Rattle.std.proofs.Common.{◌≡◌, drop}
use Rattle.std.specs.List.{list_any}
use Rattle.boki_model.specs.Folds.{written_names}
use Rattle.boki_txn.specs.Names.{is_dirty}
use Rattle.boki_txn.proofs.stored.Names.any_write_is_dirty.Given as goal

abbrev pub invariant-writes : goal.invariant-writes
invariant-writes l = list_any (is_dirty l.begin l.self) (written_names l.writes) ≡ list_any (is_dirty l.begin l.self) (written_names (drop l.write-index l.writes))
