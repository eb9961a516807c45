use Rattle.std.proofs.Common.{arith}
use Rattle.obj_store.specs.Kept.{count_of}
use Rattle.obj_store.proofs.Fronts.{sum_step, sum_to_end}
use Rattle.obj_store.proofs.every.count.Goals as goal

pub loop-index-preserved : goal.loop-index-preserved
loop-index-preserved c = λ fits.
    sum_step count_of c.loop-index.index c.args.objects.now.entries c.loop-index.count c.len_at.result c.saturating_add-count.result (omega arith) fits
    c.loop-index.invariant c.len_at.ensures (λ small. omega arith)

pub returns : goal.returns
returns c = λ fits. sum_to_end count_of c.loop-index.index c.args.objects.now.entries c.loop-index.count (omega arith) fits c.loop-index.invariant
