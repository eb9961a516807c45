use Rattle.std.proofs.Common.{◌∙◌, option_map, refl, sym, ap}
use Rattle.lb_base.specs.declared.value.Seqnum.{Seqnum}
use Rattle.attempt_state.specs.declared.progress.Progress.{Progress}
use Rattle.boki_flow.specs.Arms.{IsCalledBy, init_move, adopts_init}
use Rattle.boki_flow.proofs.Leading.{leads_moves, leads_cut}
use Rattle.boki_flow.proofs.Standing.{weaker_ok}
use Rattle.boki_flow.proofs.Beginning.{leads_init, none_there, init_waits, init_sent}
use Rattle.boki_flow.proofs.init.step_init.Goals as goal

pub returns-in-Some-clause-ok : goal.returns-in-Some-clause-ok
returns-in-Some-clause-ok c =
    let fs = c.args.program.now.functions in
    let old = c.args.parts.now in
    let call = c.args.call.now in
    leads_moves (IsCalledBy old call) (IsCalledBy old call) fs old c.adopt_init.new.parts (init_move fs old call) (adopts_init fs old call c.in-Some.seq.0) c.args.state.now c.adopt_init.new.state
    (leads_init fs old c.args.state.now call c.in-Some.seq.0 (ap (option_map (λ (s : Seqnum). s.0)) (sym c.in-Some.is) ∙ c.in_ok-seq.ensures)) c.adopt_init.result c.adopt_init.ensures.ok

pub returns-in-Some-clause-cut : goal.returns-in-Some-clause-cut
returns-in-Some-clause-cut c =
    let fs = c.args.program.now.functions in
    let old = c.args.parts.now in
    let call = c.args.call.now in
    leads_cut (IsCalledBy old call) (IsCalledBy old call) fs old c.adopt_init.new.parts (init_move fs old call) (adopts_init fs old call c.in-Some.seq.0) c.args.state.now c.adopt_init.new.state
    (leads_init fs old c.args.state.now call c.in-Some.seq.0 (ap (option_map (λ (s : Seqnum). s.0)) (sym c.in-Some.is) ∙ c.in_ok-seq.ensures)) c.adopt_init.result c.adopt_init.ensures.cut

pub returns-then-state-clause-ok : goal.returns-then-state-clause-ok
returns-then-state-clause-ok c = λ setup store a stands called.
    let fs = c.args.program.now.functions in
    let old = c.args.parts.now in
    let kept = c.args.state.now in
    init_waits setup fs store a old kept stands c.args.call.now called _
    (none_there fs old kept a stands.attempt (ap (option_map (λ (s : Seqnum). s.0)) (sym c.in-None.is) ∙ c.in_ok-seq.ensures))
    (sym (ap (λ (p : Progress). p.waiting) stands.attempt.progress) ∙ c.if-state.true) refl

pub returns-else-state-clause-ok : goal.returns-else-state-clause-ok
returns-else-state-clause-ok c = weaker_ok c.send_init.result _ _ c.send_init.ensures.ok (λ told is setup store a stands called.
    let fs = c.args.program.now.functions in
    let old = c.args.parts.now in
    let kept = c.args.state.now in
    init_sent setup fs store a old kept stands c.args.call.now called c.send_init.new.book c.send_init.new.at told
    (none_there fs old kept a stands.attempt (ap (option_map (λ (s : Seqnum). s.0)) (sym c.in-None.is) ∙ c.in_ok-seq.ensures))
    (sym (ap (λ (p : Progress). p.waiting) stands.attempt.progress) ∙ c.if-state.false) (c.send_init.ensures.sound stands.parts.kept.sound) is)
