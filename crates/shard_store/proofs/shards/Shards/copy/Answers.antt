use Rattle.shard_store.proofs.Views.{copy_after}
use Rattle.shard_store.proofs.shards.Shards.copy.Goals as goal

pub returns-clause-after : goal.returns-clause-after
returns-clause-after c =
    (copy_after c.self.inside.shards.items c.args.shard c.args.replica c.args.n c.copy.result c.index_mut-shard.result.now c.copy.new.self c.args.self.now
    c.self.view_is c.requires.shard c.index_mut-shard.ensures.value c.copy.ensures.count c.copy.ensures.after).1
