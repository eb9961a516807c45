use Rattle.shard_store.proofs.Views.{append_ok}
use Rattle.shard_store.proofs.shards.Shards.append.Goals as goal

pub returns-clause-ok : goal.returns-clause-ok
returns-clause-ok c =
    append_ok c.append.result c.self.inside.shards.items c.args.shard c.index_mut-shard.result.now c.append.new.self c.args.rec c.args.self.now c.self.view_is c.requires c.index_mut-shard.ensures.value c.append.ensures.ok
