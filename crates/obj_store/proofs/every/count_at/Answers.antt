use Rattle.std.proofs.Common.{arith}
use Rattle.obj_store.specs.Steps.{count_at_cursor}
use Rattle.obj_store.proofs.Fronts.{sum_step, sum_to_end}
use Rattle.obj_store.proofs.every.count_at.Goals as goal

pub loop-index-preserved : goal.loop-index-preserved
loop-index-preserved c = λ up fits.
    sum_step (count_at_cursor c.args.cursor.0) c.loop-index.index c.args.objects.now.entries c.loop-index.count c.versions_at.result c.saturating_add-count.result (omega arith) fits
    (c.loop-index.invariant up) (λ e is. c.versions_at.ensures e is (up c.loop-index.index e is)) (λ small. omega arith)

pub returns : goal.returns
returns c = λ up fits. sum_to_end (count_at_cursor c.args.cursor.0) c.loop-index.index c.args.objects.now.entries c.loop-index.count (omega arith) fits (c.loop-index.invariant up)
