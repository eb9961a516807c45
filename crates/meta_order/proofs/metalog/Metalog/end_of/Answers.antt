use Rattle.std.proofs.Common.{◌∙◌, inl, inr, length, get_or, Some, ap, arith}
use Rattle.meta_order.proofs.Meaning.{end_is, end_none}
use Rattle.meta_order.proofs.metalog.Metalog.end_of.Goals as goal

pub returns-then-entry-eq0 : goal.returns-then-entry-eq0
returns-then-entry-eq0 c =
    let long = ap length c.as_slice-ends.ensures.value in
    end_none c.self.inside.shards c.self.inside.counts.items c.self.inside.ends.items c.self.invariant c.args.entry c.args.self.now c.self.view_is
    (elim c.then-entry-eq0.either [ inl e ↦ inl (omega arith) | inr p ↦ inr (omega arith) ])

pub returns : goal.returns
returns c =
    ap (λ l. Some (get_or l c.args.entry 0)) c.as_slice-ends.ensures.value
    ∙ end_is c.self.inside.shards c.self.inside.counts.items c.self.inside.ends.items c.self.invariant c.args.entry c.args.self.now c.self.view_is (omega arith)
    (omega (arith, ap length c.as_slice-ends.ensures.value))
