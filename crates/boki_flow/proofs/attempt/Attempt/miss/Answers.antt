use Rattle.std.proofs.Common.{subst, sym}
use Rattle.attempt_state.specs.declared.state.AttemptState.{AttemptState}
use Rattle.boki_flow.specs.Flow.{FlowStandsFor}
use Rattle.boki_flow.proofs.Standing.{weaker_ok, weaker_err}
use Rattle.boki_flow.proofs.attempt.Attempt.miss.Goals as goal

pub miss_attempt-requires : goal.miss_attempt-requires
miss_attempt-requires c =
    let fs = c.args.program.now.functions in
    let r = c.requires in
    let stands = subst (λ (s : AttemptState). FlowStandsFor r.setup fs r.store r.attempt c.args.parts.now s) (sym c.self.view_is) r.stands in
    (fs, record { setup = r.setup; store = r.store; attempt = r.attempt; stands = stands; holds = tt })

pub returns-clause-ok : goal.returns-clause-ok
returns-clause-ok c =
    let fs = c.args.program.now.functions in
    weaker_ok c.miss_attempt.result _ _ c.miss_attempt.ensures.ok (λ told did setup store a stands.
    did fs setup store a (subst (λ (s : AttemptState). FlowStandsFor setup fs store a c.args.parts.now s) (sym c.self.view_is) stands) tt)

pub returns-clause-cut : goal.returns-clause-cut
returns-clause-cut c =
    let fs = c.args.program.now.functions in
    weaker_err c.miss_attempt.result c.miss_attempt.ensures.cut (λ did setup store a stands.
    did fs setup store a (subst (λ (s : AttemptState). FlowStandsFor setup fs store a c.args.parts.now s) (sym c.self.view_is) stands) tt)
