use Rattle.std.proofs.Common.{◌∙◌, sym}
use Rattle.boki_machine.specs.Step.{misses_record}
use Rattle.boki_flow.specs.Arms.{FindsAnswer, SeesSeqnum, next_missed}
use Rattle.boki_flow.proofs.Leading.{can_miss_if, leads_misses, leads_miss_cut}
use Rattle.boki_flow.proofs.Standing.{has_engine}
use Rattle.boki_flow.proofs.StepCases.{found_none}
use Rattle.boki_flow.proofs.Misses.{misses_found}
use Rattle.boki_flow.proofs.missing.miss_record.Goals as goal

pub at-requires : goal.at-requires
at-requires c =
    has_engine c.requires.1.setup c.requires.0 c.requires.1.store c.requires.1.attempt c.args.parts.now c.args.state.now c.requires.1.stands

pub miss_body-missed-requires : goal.miss_body-missed-requires
miss_body-missed-requires c =
    let old = c.args.parts.now in
    can_miss_if (λ fs. FindsAnswer fs old) (λ fs. SeesSeqnum old c.in-Some.seq.0) old c.args.state.now
    (λ fs. (misses_found old c.args.state.now c.in-Some.seq c.in-Some.body (sym c.in-Some.is ∙ c.in_ok-seq.ensures) fs).needs) c.requires

pub returns-in-Some-clause-ok : goal.returns-in-Some-clause-ok
returns-in-Some-clause-ok c =
    let old = c.args.parts.now in
    leads_misses (λ fs. FindsAnswer fs old) (λ fs. SeesSeqnum old c.in-Some.seq.0) (λ fs. next_missed fs old) (λ fs setup store a. misses_record store c.in-Some.seq.0 c.in-Some.body)
    old c.miss_body-missed.new.parts c.args.state.now
    (misses_found old c.args.state.now c.in-Some.seq c.in-Some.body (sym c.in-Some.is ∙ c.in_ok-seq.ensures)) c.miss_body-missed.result c.miss_body-missed.ensures.ok

pub returns-in-Some-clause-cut : goal.returns-in-Some-clause-cut
returns-in-Some-clause-cut c =
    let old = c.args.parts.now in
    leads_miss_cut (λ fs. FindsAnswer fs old) (λ fs. SeesSeqnum old c.in-Some.seq.0) (λ fs. next_missed fs old) (λ fs setup store a. misses_record store c.in-Some.seq.0 c.in-Some.body)
    old c.miss_body-missed.new.parts c.args.state.now
    (misses_found old c.args.state.now c.in-Some.seq c.in-Some.body (sym c.in-Some.is ∙ c.in_ok-seq.ensures)) c.miss_body-missed.result c.miss_body-missed.ensures.cut

pub returns-in-None-clause-ok : goal.returns-in-None-clause-ok
returns-in-None-clause-ok c = λ fs setup store a stands finds.
    absurd (found_none fs c.args.parts.now c.args.state.now (sym c.in-None.is ∙ c.in_ok-seq.ensures) setup store a stands finds)
