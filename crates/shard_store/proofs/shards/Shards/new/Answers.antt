use Rattle.std.proofs.Common.{◌≡◌, arith}
use Rattle.shard_store.proofs.Views.{new_is}
use Rattle.shard_store.proofs.shards.Shards.new.Goals as goal

pub returns : goal.returns
returns c = new_is c.loop.all.items c.loop.counter c.saturating_sub-others.result c.args.shards c.args.replicas c.loop.invariant (let e : c.loop.counter ≡ c.args.shards = omega arith in e) c.saturating_sub-others.ensures
