use Rattle.std.proofs.Common.{arith}
use Rattle.std.proofs.lemmas.Int.{ints}
use Rattle.make_call.proofs.Sums.{sum_more}
use Rattle.make_call.proofs.summary.sum.Goals as goal

pub objects-preserved : goal.objects-preserved
objects-preserved c =
    let more = sum_more c.args.objects.now c.objects.object-index c.object-item.result (omega arith) c.object-item.is in
    record {
      sum = omega (arith, ints, more, c.objects.invariant.sum);
      above = omega (arith, ints);
      below = omega (arith, ints);
    }
