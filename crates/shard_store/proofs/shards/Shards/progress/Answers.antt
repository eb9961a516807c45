use Rattle.std.proofs.Common.{◌∙◌, arith}
use Rattle.shard_store.proofs.Views.{progress_more, progress_all, length_kept}
use Rattle.shard_store.proofs.shards.Shards.progress.Goals as goal

pub loop-i-preserved : goal.loop-i-preserved
loop-i-preserved c =
    progress_more c.loop-i.into c.deref-shard-items.result.now c.loop-i.i c.progress.result c.shard-item.result (omega arith)
    (let long = c.requires in omega (arith, c.loop-i.auto.into, length_kept c.self.inside.shards.items c.args.self.now c.self.view_is, c.deref-shard-items.ensures.len)) c.shard-item.is c.progress.ensures c.loop-i.invariant

pub returns : goal.returns
returns c =
    progress_all c.loop-i.into c.self.inside.shards.items c.deref-shard-items.result.now c.args.self.now c.loop-i.i
    c.self.view_is c.deref-shard-items.ensures.value (c.loop-i.auto.into ∙ c.requires) (omega arith) c.loop-i.invariant
