use Rattle.std.proofs.Common.{◌≡◌}
use Rattle.boki_model.specs.Live.{upto}
use Rattle.step_log.specs.Sound.{live_bodies}
use Rattle.cluster_report.specs.Folded.{maps_of, folded}
use Rattle.cluster_report.proofs.folds.folds_of.Given as goal

abbrev pub invariant-loop-past : goal.invariant-loop-past
invariant-loop-past l = maps_of l.folds ≡ folded l.keys (upto l.past (live_bodies l.book))
