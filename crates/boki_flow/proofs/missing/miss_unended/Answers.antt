use Rattle.std.proofs.Common.{arith}
use Rattle.boki_flow.specs.Arms.{Runs, HasBegun, unended_missed, next_missed}
use Rattle.boki_flow.proofs.Leading.{can_miss_if, leads_misses, leads_miss_cut}
use Rattle.boki_flow.proofs.Misses.{misses_uncalled, misses_begun}
use Rattle.boki_flow.proofs.missing.miss_unended.Goals as goal

pub miss_on-requires : goal.miss_on-requires
miss_on-requires c =
    can_miss_if (λ fs. Runs) (λ fs. HasBegun) c.args.parts.now c.args.state.now
    (λ fs. (misses_begun c.args.parts.now c.args.state.now c.if-at-gt0.true fs).needs) c.requires

pub returns-then-at-gt0-clause-ok : goal.returns-then-at-gt0-clause-ok
returns-then-at-gt0-clause-ok c =
    let old = c.args.parts.now in
    leads_misses (λ fs. Runs) (λ fs. HasBegun) (λ fs. unended_missed fs c.args.parts.now) (λ fs. next_missed fs c.args.parts.now) old c.miss_on.new.parts c.args.state.now
    (misses_begun c.args.parts.now c.args.state.now c.if-at-gt0.true) c.miss_on.result c.miss_on.ensures.ok

pub returns-then-at-gt0-clause-cut : goal.returns-then-at-gt0-clause-cut
returns-then-at-gt0-clause-cut c =
    let old = c.args.parts.now in
    leads_miss_cut (λ fs. Runs) (λ fs. HasBegun) (λ fs. unended_missed fs c.args.parts.now) (λ fs. next_missed fs c.args.parts.now) old c.miss_on.new.parts c.args.state.now
    (misses_begun c.args.parts.now c.args.state.now c.if-at-gt0.true) c.miss_on.result c.miss_on.ensures.cut

pub returns-else-at-gt0-clause-ok : goal.returns-else-at-gt0-clause-ok
returns-else-at-gt0-clause-ok c = misses_uncalled c.args.parts.now c.args.state.now (omega arith)
