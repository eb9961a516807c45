use Rattle.std.proofs.Common.{subst, sym}
use Rattle.attempt_state.specs.declared.state.AttemptState.{AttemptState}
use Rattle.boki_flow.specs.Flow.{FlowStandsFor}
use Rattle.boki_flow.proofs.Standing.{weaker_ok, weaker_err}
use Rattle.boki_flow.proofs.attempt.Attempt.step.Goals as goal

pub step_attempt-requires : goal.step_attempt-requires
step_attempt-requires c =
    let r = c.requires in
    let stands = subst (λ (s : AttemptState). FlowStandsFor r.setup c.args.program.now.functions r.store r.attempt c.args.parts.now s) (sym c.self.view_is) r.stands in
    record { setup = r.setup; store = r.store; attempt = r.attempt; stands = stands; holds = tt }

pub returns-clause-ok : goal.returns-clause-ok
returns-clause-ok c =
    weaker_ok c.step_attempt.result _ _ c.step_attempt.ensures.ok (λ told did setup store a stands.
    did setup store a (subst (λ (s : AttemptState). FlowStandsFor setup c.args.program.now.functions store a c.args.parts.now s) (sym c.self.view_is) stands) tt)

pub returns-clause-cut : goal.returns-clause-cut
returns-clause-cut c =
    weaker_err c.step_attempt.result c.step_attempt.ensures.cut (λ did setup store a stands.
    did setup store a (subst (λ (s : AttemptState). FlowStandsFor setup c.args.program.now.functions store a c.args.parts.now s) (sym c.self.view_is) stands) tt)
