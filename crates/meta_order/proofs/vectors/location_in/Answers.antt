use Rattle.std.proofs.Common.{sym, ◌∙◌, length, arith}
use Rattle.meta_order.proofs.Searching.{place_here, place_skip}
use Rattle.meta_order.proofs.vectors.location_in.Goals as goal

pub returns-then-rest-added : goal.returns-then-rest-added
returns-then-rest-added c =
    sym (place_here (length c.args.new.now) c.loop-shard.shard c.loop-shard.rest c.args.old.now c.args.new.now (omega arith) (omega arith)) ∙ c.loop-shard.invariant

pub loop-shard-preserved : goal.loop-shard-preserved
loop-shard-preserved c =
    sym (place_skip (length c.args.new.now) c.loop-shard.shard c.loop-shard.rest c.args.old.now c.args.new.now (omega arith) (omega arith)) ∙ c.loop-shard.invariant
