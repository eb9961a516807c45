use Rattle.std.proofs.Common.{◌≡◌, drop}
use Rattle.std.specs.List.{list_any}
use Rattle.boki_model.specs.Folds.{written_names}
use Rattle.ideal_run.specs.Kept.{is_dirty}
use Rattle.ideal_run.proofs.state.State.any_write_is_dirty.Given as goal

abbrev pub invariant-writes : goal.invariant-writes
invariant-writes l = list_any (is_dirty l.begun l.self.names.entries) (written_names l.writes) ≡ list_any (is_dirty l.begun l.self.names.entries) (written_names (drop l.write-index l.writes))
