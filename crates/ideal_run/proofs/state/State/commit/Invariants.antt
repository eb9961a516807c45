use Rattle.std.proofs.Common.{◌≡◌, drop}
use Rattle.ideal_run.specs.Kept.{Maps, maps_of, with_writes}
use Rattle.ideal_run.specs.Changes.{maps_before}
use Rattle.ideal_run.proofs.state.State.commit.Given as goal

abbrev pub invariant-writes : goal.invariant-writes
invariant-writes l = record {
  maps :
      (let m : Maps = record (maps_of l.self) { names = with_writes l.commit (drop l.write-index l.writes) l.self.names.entries } in m)
      ≡ record (maps_of l.initial.self) { names = with_writes l.commit l.writes l.initial.self.names.entries };
  undo : maps_before l.self ≡ maps_before l.initial.self;
}
