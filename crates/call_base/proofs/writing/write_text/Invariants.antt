use Rattle.std.proofs.Common.{◌≡◌, ◌++◌, ◌≤◌, length, List, ℕ}
use Rattle.lb_base.specs.Devices.{Appends}
use Rattle.call_base.proofs.writing.write_text.Given as goal

abbrev pub invariant-lines : goal.invariant-lines
invariant-lines g l =
    ((front : List ℕ) × (l.text ≡ front ++ l.rest) × Appends (g.K.Sink.held l.fn.sink) (g.K.Sink.held l.sink) front)
    × (g.K.Sink.faults l.fn.sink ≤ g.K.Sink.faults l.sink)

abbrev pub decreases-lines : goal.decreases-lines
decreases-lines g l = length l.rest
