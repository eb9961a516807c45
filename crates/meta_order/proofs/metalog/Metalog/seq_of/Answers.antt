use Rattle.std.proofs.Common.{◌+◌, ◌-◌, ◌*◌, ◌∙◌, inl, inr, get_or, Some, ap, arith}
use Rattle.meta_order.proofs.Meaning.{seq_is, seq_none, seq_no_shard, number_low, moved, viewed, rows_long_at, rows_grown_at, number_at}
use Rattle.meta_order.proofs.metalog.Metalog.seq_of.Goals as goal
use Rattle.meta_order.proofs.metalog.Metalog.seq_of.Goals.{then-shard-eq0-via-then-shard-eq0, then-shard-eq0-via-else-shard-eq0+then-shard-self}

pub returns-then-shard-eq0 : goal.returns-then-shard-eq0
returns-then-shard-eq0 c =
    seq_no_shard c.self.inside.shards c.self.inside.counts.items c.self.inside.ends.items c.self.invariant c.args.shard c.args.local c.args.self.now c.self.view_is
    (elim c.then-shard-eq0.branch [ then-shard-eq0-via-then-shard-eq0 w ↦ inl (omega arith) | then-shard-eq0-via-else-shard-eq0+then-shard-self w ↦ inr (omega arith) ])

pub returns-then-entry-eq0 : goal.returns-then-entry-eq0
returns-then-entry-eq0 c =
    let w = c.self.inside.shards in
    let counts = c.as_slice-counts.result.now in
    let ends = c.as_slice-ends.result.now in
    let h = moved w c.self.inside.counts.items c.self.inside.ends.items counts ends c.as_slice-counts.ensures.value c.as_slice-ends.ensures.value c.self.invariant in
    let view = viewed w c.self.inside.counts.items c.self.inside.ends.items counts ends c.args.self.now c.as_slice-counts.ensures.value c.as_slice-ends.ensures.value c.self.view_is in
    let entry = c.first_at_least-entry.result in
    let some = h.some in
    let column = c.args.shard - 1 in
    seq_none w counts ends h c.args.shard c.args.local entry c.args.self.now view (omega arith) (omega arith)
    (elim c.then-entry-eq0.either [
      | inl e ↦ inl (omega arith, omega (arith, ap (λ k. get_or counts (k * w + column) 0) e))
      | inr p ↦ inr (omega (arith, ap (λ k. get_or counts ((k - 1) * w + column) 0) p.1))
    ])

pub seqnum_in-requires-clause-long : goal.seqnum_in-requires-clause-long
seqnum_in-requires-clause-long c =
    let w = c.self.inside.shards in
    let counts = c.as_slice-counts.result.now in
    let ends = c.as_slice-ends.result.now in
    let h = moved w c.self.inside.counts.items c.self.inside.ends.items counts ends c.as_slice-counts.ensures.value c.as_slice-ends.ensures.value c.self.invariant in
    rows_long_at w c.first_at_least-entry.result counts ends c.row_of-old.result.now c.row_of-new.result.now h c.row_of-old.ensures c.row_of-new.ensures (omega arith) (omega arith)

pub seqnum_in-requires-clause-grown : goal.seqnum_in-requires-clause-grown
seqnum_in-requires-clause-grown c =
    let w = c.self.inside.shards in
    let counts = c.as_slice-counts.result.now in
    let ends = c.as_slice-ends.result.now in
    let h = moved w c.self.inside.counts.items c.self.inside.ends.items counts ends c.as_slice-counts.ensures.value c.as_slice-ends.ensures.value c.self.invariant in
    rows_grown_at w c.first_at_least-entry.result counts ends c.row_of-old.result.now c.row_of-new.result.now h c.row_of-old.ensures c.row_of-new.ensures (omega arith) (omega arith)

pub seqnum_in-requires-clause-fits : goal.seqnum_in-requires-clause-fits
seqnum_in-requires-clause-fits c =
    let w = c.self.inside.shards in
    let counts = c.as_slice-counts.result.now in
    let ends = c.as_slice-ends.result.now in
    let h = moved w c.self.inside.counts.items c.self.inside.ends.items counts ends c.as_slice-counts.ensures.value c.as_slice-ends.ensures.value c.self.invariant in
    let entry = c.first_at_least-entry.result in
    let low = number_low w counts ends h c.args.shard c.args.local entry (omega arith) (omega arith) (omega arith) (omega arith)
    (c.first_at_least-entry.ensures.before (omega arith)) (c.first_at_least-entry.ensures.at (omega arith)) in
    omega (arith, low, number_at w entry (c.args.shard - 1) c.args.local counts c.row_of-old.result.now c.row_of-new.result.now c.row_of-old.ensures c.row_of-new.ensures)

pub returns : goal.returns
returns c =
    let w = c.self.inside.shards in
    let counts = c.as_slice-counts.result.now in
    let ends = c.as_slice-ends.result.now in
    let h = moved w c.self.inside.counts.items c.self.inside.ends.items counts ends c.as_slice-counts.ensures.value c.as_slice-ends.ensures.value c.self.invariant in
    let view = viewed w c.self.inside.counts.items c.self.inside.ends.items counts ends c.args.self.now c.as_slice-counts.ensures.value c.as_slice-ends.ensures.value c.self.view_is in
    let entry = c.first_at_least-entry.result in
    let is = seq_is w counts ends h c.args.shard c.args.local entry c.args.self.now view (omega arith) (omega arith) (omega arith) (omega arith)
    (c.first_at_least-entry.ensures.before (omega arith)) (c.first_at_least-entry.ensures.at (omega arith)) in
    λ shards are.
    ap Some (c.seqnum_in.ensures
    ∙ ap (λ n. get_or ends (entry - 1) 0 + n) (number_at w entry (c.args.shard - 1) c.args.local counts c.row_of-old.result.now c.row_of-new.result.now c.row_of-old.ensures c.row_of-new.ensures))
    ∙ is shards are
