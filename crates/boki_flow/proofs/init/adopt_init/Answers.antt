use Rattle.std.proofs.Common.{◌≡◌, ◌∙◌, ℕ, refl, ap}
use Rattle.boki_model.specs.Modes.{mode_after}
use Rattle.boki_machine.specs.Step.{records_below}
use Rattle.step_log.specs.Sound.{view}
use Rattle.attempt_state.specs.declared.progress.Progress.{Progress}
use Rattle.boki_flow.specs.Arms.{IsCalledBy, adopts_init}
use Rattle.boki_flow.proofs.Standing.{on_err, engine_parts, few}
use Rattle.boki_flow.proofs.Beginning.{begins, init_adopted, keeps_cut}
use Rattle.boki_flow.proofs.init.adopt_init.Goals as goal

pub mode_at-requires : goal.mode_at-requires
mode_at-requires c =
    let r = c.requires in
    engine_parts r.setup c.args.program.now.functions r.store r.attempt c.args.parts.now c.args.state.now r.stands

pub begin-requires-clause-few : goal.begin-requires-clause-few
begin-requires-clause-few c = let r = c.requires in few r.setup c.args.program.now.functions r.store r.attempt c.args.parts.now c.args.state.now r.stands

pub begin-requires-clause-fits : goal.begin-requires-clause-fits
begin-requires-clause-fits c = c.requires.stands.can.sees.calls c.args.call.now c.requires.holds.called

pub returns-in_err-mode-clause-cut : goal.returns-in_err-mode-clause-cut
returns-in_err-mode-clause-cut c = on_err c.from_residual.result
    (keeps_cut (IsCalledBy c.args.parts.now c.args.call.now) (adopts_init c.args.program.now.functions c.args.parts.now c.args.call.now c.args.seq.0) c.args.program.now.functions c.args.parts.now c.mode_at.new.parts c.args.state.now c.mode_at.ensures.parts)

pub returns-in_err-begin-clause-cut : goal.returns-in_err-begin-clause-cut
returns-in_err-begin-clause-cut c = on_err c.from_residual-in_err-begin.result
    (keeps_cut (IsCalledBy c.args.parts.now c.args.call.now) (adopts_init c.args.program.now.functions c.args.parts.now c.args.call.now c.args.seq.0) c.args.program.now.functions c.args.parts.now c.mode_at.new.parts c.args.state.now c.mode_at.ensures.parts)

pub returns-clause-ok : goal.returns-clause-ok
returns-clause-ok c = λ setup store a stands called.
    let mode = c.in_ok-mode.ensures.mode setup store stands.parts in
    let engine_is : c.args.state.now.progress.engine ≡ a.engine = ap (λ (p : Progress). p.engine) stands.attempt.progress in
    init_adopted setup c.args.program.now.functions store a c.args.parts.now c.args.state.now stands c.args.call.now called c.mode_at.new.parts c.begin.new.self c.args.seq.0 c.in_ok-mode.mode _
    c.mode_at.ensures.parts (mode ∙ ap (λ (engine : ℕ). mode_after setup.mode (records_below c.args.seq.0 (view c.args.parts.now.book engine))) engine_is) refl
    (c.in_ok-begin.ensures.ok a stands.attempt (begins setup c.args.program.now.functions store a c.args.parts.now c.args.state.now stands c.args.call.now called))
