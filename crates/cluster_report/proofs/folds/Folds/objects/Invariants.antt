use Rattle.std.proofs.Common.{◌≡◌, ◌++◌, List}
use Rattle.boki_types.specs.declared.body.Body.{Body}
use Rattle.boki_model.specs.Live.{Live}
use Rattle.boki_model.specs.Writes.{Store}
use Rattle.cluster_report.specs.Told.{AreLast, CanTell, values_upto}
use Rattle.cluster_report.proofs.folds.Folds.objects.Given as goal

abbrev pub invariant-loop-key : goal.invariant-loop-key
invariant-loop-key l =
    (m : Store) (records : List (Live Body)) → CanTell l.last.0 l.store m records → AreLast l.last.0 records l.self.writes.entries
    → AreLast l.last.0 records l.key-iterator × (l.values ++ values_upto l.last.0 m records l.key-iterator ≡ values_upto l.last.0 m records l.self.writes.entries)
