use Rattle.std.proofs.Common.{◌∙◌, ◌-◌, length, ap}
use Rattle.meta_order.proofs.Meaning.{entries_are}
use Rattle.meta_order.proofs.metalog.Metalog.entries.Goals as goal

pub returns : goal.returns
returns c =
    ap (λ l. length l - 1) c.as_slice-ends.ensures.value
    ∙ entries_are c.self.inside.shards c.self.inside.counts.items c.self.inside.ends.items c.self.invariant c.args.self.now c.self.view_is
