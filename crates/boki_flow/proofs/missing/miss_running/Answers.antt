use Rattle.std.proofs.Common.{◌∙◌, sym}
use Rattle.boki_flow.specs.Arms.{Runs, running_missed, unended_missed}
use Rattle.boki_flow.proofs.Leading.{leads_misses, leads_miss_cut}
use Rattle.boki_flow.proofs.Standing.{has_engine}
use Rattle.boki_flow.proofs.Misses.{misses_ended, misses_unended}
use Rattle.boki_flow.proofs.missing.miss_running.Goals as goal

pub last_finish-requires : goal.last_finish-requires
last_finish-requires c =
    has_engine c.requires.1.setup c.requires.0 c.requires.1.store c.requires.1.attempt c.args.parts.now c.args.state.now c.requires.1.stands

pub returns-in-Some-clause-ok : goal.returns-in-Some-clause-ok
returns-in-Some-clause-ok c = misses_ended c.args.parts.now c.args.state.now c.in-Some.outcome (sym c.in-Some.is ∙ c.in_ok-outcome.ensures)

pub returns-in-None-clause-ok : goal.returns-in-None-clause-ok
returns-in-None-clause-ok c =
    let old = c.args.parts.now in
    leads_misses (λ fs. Runs) (λ fs. Runs) (λ fs. running_missed fs c.args.parts.now) (λ fs. unended_missed fs c.args.parts.now) old c.miss_unended.new.parts c.args.state.now
    (misses_unended c.args.parts.now c.args.state.now (sym c.in-None.is ∙ c.in_ok-outcome.ensures)) c.miss_unended.result c.miss_unended.ensures.ok

pub returns-in-None-clause-cut : goal.returns-in-None-clause-cut
returns-in-None-clause-cut c =
    let old = c.args.parts.now in
    leads_miss_cut (λ fs. Runs) (λ fs. Runs) (λ fs. running_missed fs c.args.parts.now) (λ fs. unended_missed fs c.args.parts.now) old c.miss_unended.new.parts c.args.state.now
    (misses_unended c.args.parts.now c.args.state.now (sym c.in-None.is ∙ c.in_ok-outcome.ensures)) c.miss_unended.result c.miss_unended.ensures.cut
