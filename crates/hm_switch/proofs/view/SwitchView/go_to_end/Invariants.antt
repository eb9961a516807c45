use Rattle.std.proofs.Common.{◌≡◌, ◌-◌}
use Rattle.hm_switch.specs.SwitchStates.{Follows}
use Rattle.hm_switch.proofs.view.SwitchView.go_to_end.Given as goal

abbrev pub invariant-going : goal.invariant-going
invariant-going l = record {
  follows : Follows l.book l.engine l.self;
  first : l.self.first ≡ l.initial.self.first;
}

abbrev pub decreases-going : goal.decreases-going
decreases-going l = l.end - l.self.position
