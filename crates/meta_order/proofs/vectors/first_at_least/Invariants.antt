use Rattle.std.proofs.Common.{◌-◌}
use Rattle.meta_order.proofs.Searching.{Between}
use Rattle.meta_order.proofs.vectors.first_at_least.Given as goal

abbrev pub invariant-loop-low : goal.invariant-loop-low
invariant-loop-low l = Between l.counts l.width l.column l.rows l.least l.low l.high

abbrev pub decreases-loop-low : goal.decreases-loop-low
decreases-loop-low l = l.high - l.low
