use Rattle.std.proofs.Common.{◌≡◌, length, All}
use Rattle.hm_switch.specs.SwitchStates.{IsNew}
use Rattle.cluster_events.proofs.opening.new_switches.Given as goal

abbrev pub invariant-loop : goal.invariant-loop
invariant-loop l = (length l.switches.items ≡ l.counter) × All (IsNew l.first) l.switches.items
