use Rattle.std.proofs.Common.{◌≡◌, None}
use Rattle.boki_model.specs.Modes.{result_of}
use Rattle.boki_machine.specs.Decided.{oldest}
use Rattle.step_log.proofs.Finishes.{steps}
use Rattle.step_log.proofs.results.finish_of.Given as goal

abbrev pub invariant-loop-place : goal.invariant-loop-place
invariant-loop-place l = result_of l.path (oldest l.place (steps l.path l.book l.engine)) ≡ None
