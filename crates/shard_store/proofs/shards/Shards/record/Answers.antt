use Rattle.std.proofs.Common.{arith}
use Rattle.shard_store.proofs.Views.{record_is}
use Rattle.shard_store.proofs.shards.Shards.record.Goals as goal

pub returns : goal.returns
returns c =
    let found = c.in_ok-shard.ensures in
    record_is c.self.inside.shards.items c.deref.result.now c.args.self.now c.args.shard c.args.local c.in_ok-shard.shard.now _
    c.self.view_is c.deref.ensures.value (omega arith) found.lookup.3.0 found.lookup.1 c.record.ensures
