use Rattle.std.proofs.Common.{◌≡◌, drop}
use Rattle.boki_machine.specs.Ideal.{put_objects}
use Rattle.ideal_run.specs.Kept.{empty, maps_of}
use Rattle.ideal_run.proofs.state.State.opening.Given as goal

abbrev pub invariant-loop-index : goal.invariant-loop-index
invariant-loop-index l = maps_of l.state ≡ record empty { objects = put_objects (drop l.index l.objects) }
