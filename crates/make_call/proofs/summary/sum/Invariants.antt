use Rattle.std.proofs.Common.{◌≡◌, ◌*◌, drop, pos, ◌+ℤ◌, neg_ℤ, ◌≤ℤ◌}
use Rattle.make_call.specs.Summary.{sum_of}
use Rattle.make_call.proofs.summary.sum.Given as goal

abbrev pub invariant-objects : goal.invariant-objects
invariant-objects l = record {
  sum : l.sum +ℤ sum_of (drop l.object-index l.objects) ≡ sum_of l.objects;
  above : neg_ℤ (pos (9223372036854775808 * l.object-index)) ≤ℤ l.sum;
  below : l.sum ≤ℤ pos (9223372036854775808 * l.object-index);
}
