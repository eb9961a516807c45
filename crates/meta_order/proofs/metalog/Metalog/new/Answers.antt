use Rattle.std.proofs.Common.{◌≡◌, replicate, rules}
use Rattle.meta_order.proofs.Meaning.{sound_new}
use Rattle.meta_order.proofs.metalog.Metalog.new.Goals as goal

pub invariant_of-result : goal.invariant_of-result
invariant_of-result c =
    let counts : c.in_ok-counts.counts.items ≡ replicate c.args.shards 0 = search rules in
    let ends : c.in_ok-ends.ends.items ≡ replicate 1 0 = search rules in
    sound_new c.args.shards c.in_ok-counts.counts.items c.in_ok-ends.ends.items counts ends
