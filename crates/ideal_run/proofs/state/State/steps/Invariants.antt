use Rattle.std.proofs.Common.{◌≡◌, true, is_some}
use Rattle.boki_model.specs.Maps.{get}
use Rattle.boki_machine.specs.Ideal.{Ideal, perform_many}
use Rattle.ideal_run.specs.Kept.{maps_of}
use Rattle.ideal_run.specs.Changes.{maps_before}
use Rattle.ideal_run.specs.Standing.{MapsStandFor, with_running}
use Rattle.ideal_run.specs.Turned.{LeadsTo}
use Rattle.ideal_run.proofs.state.State.steps.Given as goal

abbrev pub invariant-steps : goal.invariant-steps
invariant-steps l = record {
  leads : (m : Ideal) → MapsStandFor l.program.functions m (with_running l.path l.initial.running (maps_of l.initial.self)) → LeadsTo l.program.functions (perform_many l.program.functions l._done l.path m) (with_running l.path l.running (maps_of l.self));
  known : is_some (get l.path l.initial.self.invocations.entries) ≡ true → is_some (get l.path l.self.invocations.entries) ≡ true;
  undo : maps_before l.self ≡ maps_before l.initial.self;
}
