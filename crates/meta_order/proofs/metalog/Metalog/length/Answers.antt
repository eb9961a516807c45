use Rattle.std.proofs.Common.{◌∙◌, ◌-◌, length, get_or, ap}
use Rattle.meta_order.proofs.Meaning.{length_is, length_ordered}
use Rattle.meta_order.proofs.metalog.Metalog.length.Goals as goal

pub returns-clause-total : goal.returns-clause-total
returns-clause-total c =
    ap (λ l. get_or l (length l - 1) 0) c.as_slice-ends.ensures.value
    ∙ length_is c.self.inside.shards c.self.inside.counts.items c.self.inside.ends.items c.self.invariant c.args.self.now c.self.view_is

pub returns-clause-ordered : goal.returns-clause-ordered
returns-clause-ordered c shards are =
    ap (λ l. get_or l (length l - 1) 0) c.as_slice-ends.ensures.value
    ∙ length_ordered c.self.inside.shards c.self.inside.counts.items c.self.inside.ends.items c.self.invariant c.args.self.now c.self.view_is shards are
