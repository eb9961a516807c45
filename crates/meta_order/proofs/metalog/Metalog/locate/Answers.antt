use Rattle.std.proofs.Common.{◌∙◌, ◌-◌, inl, inr, get_or, ap, arith}
use Rattle.meta_order.proofs.Meaning.{locate_is, locate_none, moved, viewed, plain, rows_long_at, rows_grown_at, place_at}
use Rattle.meta_order.proofs.metalog.Metalog.locate.Goals as goal

pub returns-then-entry-eq0 : goal.returns-then-entry-eq0
returns-then-entry-eq0 c =
    let w = c.self.inside.shards in
    let counts = c.as_slice-counts.result.now in
    let ends = c.as_slice-ends.result.now in
    let h = moved w c.self.inside.counts.items c.self.inside.ends.items counts ends c.as_slice-counts.ensures.value c.as_slice-ends.ensures.value c.self.invariant in
    let view = viewed w c.self.inside.counts.items c.self.inside.ends.items counts ends c.args.self.now c.as_slice-counts.ensures.value c.as_slice-ends.ensures.value c.self.view_is in
    let entry = c.first_at_least-entry.result in
    let some = h.some in
    locate_none w counts ends h c.args.seq.0 entry c.args.self.now view
    (elim c.then-entry-eq0.either [
      | inl e ↦ inl (omega arith, omega (arith, plain ends entry, plain ends 0, ap (λ k. get_or ends k 0) e))
      | inr p ↦ inr (omega (arith, plain ends (entry - 1), ap (λ k. get_or ends (k - 1) 0) p.1))
    ])

pub location_in-requires-clause-long : goal.location_in-requires-clause-long
location_in-requires-clause-long c =
    let w = c.self.inside.shards in
    let counts = c.as_slice-counts.result.now in
    let ends = c.as_slice-ends.result.now in
    let h = moved w c.self.inside.counts.items c.self.inside.ends.items counts ends c.as_slice-counts.ensures.value c.as_slice-ends.ensures.value c.self.invariant in
    rows_long_at w c.first_at_least-entry.result counts ends c.row_of-old.result.now c.row_of-new.result.now h c.row_of-old.ensures c.row_of-new.ensures (omega arith) (omega arith)

pub location_in-requires-clause-grown : goal.location_in-requires-clause-grown
location_in-requires-clause-grown c =
    let w = c.self.inside.shards in
    let counts = c.as_slice-counts.result.now in
    let ends = c.as_slice-ends.result.now in
    let h = moved w c.self.inside.counts.items c.self.inside.ends.items counts ends c.as_slice-counts.ensures.value c.as_slice-ends.ensures.value c.self.invariant in
    rows_grown_at w c.first_at_least-entry.result counts ends c.row_of-old.result.now c.row_of-new.result.now h c.row_of-old.ensures c.row_of-new.ensures (omega arith) (omega arith)

pub returns : goal.returns
returns c =
    let w = c.self.inside.shards in
    let counts = c.as_slice-counts.result.now in
    let ends = c.as_slice-ends.result.now in
    let h = moved w c.self.inside.counts.items c.self.inside.ends.items counts ends c.as_slice-counts.ensures.value c.as_slice-ends.ensures.value c.self.invariant in
    let view = viewed w c.self.inside.counts.items c.self.inside.ends.items counts ends c.args.self.now c.as_slice-counts.ensures.value c.as_slice-ends.ensures.value c.self.view_is in
    let entry = c.first_at_least-entry.result in
    let is = locate_is w counts ends h c.args.seq.0 entry c.args.self.now view (omega arith) (omega arith) (omega (arith, plain ends (entry - 1))) (omega (arith, plain ends entry)) in
    λ shards are.
    c.location_in.ensures
    ∙ place_at w entry (c.args.seq.0 - get_or ends (entry - 1) 0) counts ends c.row_of-old.result.now c.row_of-new.result.now h c.row_of-old.ensures c.row_of-new.ensures (omega arith)
    ∙ is shards are
