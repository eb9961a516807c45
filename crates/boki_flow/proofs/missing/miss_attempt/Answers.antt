use Rattle.std.proofs.Common.{◌∙◌, sym}
use Rattle.boki_flow.specs.Arms.{Always, Runs, step_missed, running_missed}
use Rattle.boki_flow.proofs.Leading.{can_miss_if, leads_misses, leads_miss_cut}
use Rattle.boki_flow.proofs.Misses.{miss_idles, misses_run}
use Rattle.boki_flow.proofs.missing.miss_attempt.Goals as goal

pub miss_running-requires : goal.miss_running-requires
miss_running-requires c =
    can_miss_if (λ fs. Always) (λ fs. Runs) c.args.parts.now c.args.state.now
    (λ fs. (misses_run c.args.parts.now c.args.state.now (sym c.is_running.ensures ∙ c.if-is_running.true) fs).needs) c.requires

pub returns-then-is_running-clause-ok : goal.returns-then-is_running-clause-ok
returns-then-is_running-clause-ok c =
    let old = c.args.parts.now in
    leads_misses (λ fs. Always) (λ fs. Runs) (λ fs. step_missed fs c.args.parts.now) (λ fs. running_missed fs c.args.parts.now) old c.miss_running.new.parts c.args.state.now
    (misses_run c.args.parts.now c.args.state.now (sym c.is_running.ensures ∙ c.if-is_running.true)) c.miss_running.result c.miss_running.ensures.ok

pub returns-then-is_running-clause-cut : goal.returns-then-is_running-clause-cut
returns-then-is_running-clause-cut c =
    let old = c.args.parts.now in
    leads_miss_cut (λ fs. Always) (λ fs. Runs) (λ fs. step_missed fs c.args.parts.now) (λ fs. running_missed fs c.args.parts.now) old c.miss_running.new.parts c.args.state.now
    (misses_run c.args.parts.now c.args.state.now (sym c.is_running.ensures ∙ c.if-is_running.true)) c.miss_running.result c.miss_running.ensures.cut

pub returns-else-is_running-clause-ok : goal.returns-else-is_running-clause-ok
returns-else-is_running-clause-ok c = miss_idles c.args.parts.now c.args.state.now (sym c.is_running.ensures ∙ c.if-is_running.false)
