use Rattle.std.proofs.Common.{◌≡◌, ◌∙◌, sym, arith}
use Rattle.boki_flow.specs.Arms.{Runs, HasBegun, IsCalledBy, unended_move, next_move, init_move}
use Rattle.boki_flow.proofs.Leading.{can_if, leads_moves, leads_cut}
use Rattle.boki_flow.proofs.Standing.{has_engine, sound}
use Rattle.boki_flow.proofs.StepCases.{goes_on, begins}
use Rattle.boki_flow.proofs.cases.step_unended.Goals as goal

pub step_on-requires : goal.step_on-requires
step_on-requires c =
    let fs = c.args.program.now.functions in
    let old = c.args.parts.now in
    can_if Runs HasBegun fs old c.args.state.now (goes_on fs old c.args.state.now c.if-at-gt0.true).needs c.requires

pub returns-then-at-gt0-clause-ok : goal.returns-then-at-gt0-clause-ok
returns-then-at-gt0-clause-ok c =
    let fs = c.args.program.now.functions in
    let old = c.args.parts.now in
    leads_moves Runs HasBegun fs old c.step_on.new.parts (unended_move fs old) (next_move fs old) c.args.state.now c.step_on.new.state
    (goes_on fs old c.args.state.now c.if-at-gt0.true) c.step_on.result c.step_on.ensures.ok

pub returns-then-at-gt0-clause-cut : goal.returns-then-at-gt0-clause-cut
returns-then-at-gt0-clause-cut c =
    let fs = c.args.program.now.functions in
    let old = c.args.parts.now in
    leads_cut Runs HasBegun fs old c.step_on.new.parts (unended_move fs old) (next_move fs old) c.args.state.now c.step_on.new.state
    (goes_on fs old c.args.state.now c.if-at-gt0.true) c.step_on.result c.step_on.ensures.cut

pub resolve-requires-clause-engine : goal.resolve-requires-clause-engine
resolve-requires-clause-engine c =
    has_engine c.requires.setup c.args.program.now.functions c.requires.store c.requires.attempt c.args.parts.now c.args.state.now c.requires.stands

pub resolve-requires-clause-sound : goal.resolve-requires-clause-sound
resolve-requires-clause-sound c =
    sound c.requires.setup c.args.program.now.functions c.requires.store c.requires.attempt c.args.parts.now c.args.state.now c.requires.stands

pub returns-clause-ok : goal.returns-clause-ok
returns-clause-ok c =
    let fs = c.args.program.now.functions in
    let old = c.args.parts.now in
    let kept = c.args.state.now in
    let first : kept.progress.place ≡ 0 = (let not = c.if-at-gt0.false in omega arith) in
    leads_moves Runs (IsCalledBy old c.in-Some.call) fs old c.step_init-line.new.parts (unended_move fs old) (init_move fs old c.in-Some.call) kept c.step_init-line.new.state
    (begins fs old kept c.in-Some.call first (sym c.in-Some.is ∙ c.in_ok-call.ensures)) c.step_init-line.result c.step_init-line.ensures.ok

pub returns-clause-cut : goal.returns-clause-cut
returns-clause-cut c =
    let fs = c.args.program.now.functions in
    let old = c.args.parts.now in
    let kept = c.args.state.now in
    let first : kept.progress.place ≡ 0 = (let not = c.if-at-gt0.false in omega arith) in
    leads_cut Runs (IsCalledBy old c.in-Some.call) fs old c.step_init-line.new.parts (unended_move fs old) (init_move fs old c.in-Some.call) kept c.step_init-line.new.state
    (begins fs old kept c.in-Some.call first (sym c.in-Some.is ∙ c.in_ok-call.ensures)) c.step_init-line.result c.step_init-line.ensures.cut
