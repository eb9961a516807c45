use Rattle.std.proofs.Common.{◌≡◌, [], drop}
use Rattle.cluster_report.specs.Folded.{with_keys}
use Rattle.cluster_report.proofs.folds.unwritten.Given as goal

abbrev pub invariant-keys : goal.invariant-keys
invariant-keys l = with_keys (drop l.key-index l.keys) l.writes.entries ≡ with_keys l.keys []
