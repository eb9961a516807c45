use Rattle.boki_flow.specs.Arms.{HasBegun, FindsAnswer, next_move, script_move}
use Rattle.boki_flow.proofs.Leading.{can_if, leads_moves, leads_cut}
use Rattle.boki_flow.proofs.Standing.{has_engine, sound, room}
use Rattle.boki_flow.proofs.StepCases.{adopts, waits_record, scripts}
use Rattle.boki_flow.proofs.cases.step_on.Goals as goal

pub is_answered-requires-clause-engine : goal.is_answered-requires-clause-engine
is_answered-requires-clause-engine c =
    has_engine c.requires.setup c.args.program.now.functions c.requires.store c.requires.attempt c.args.parts.now c.args.state.now c.requires.stands

pub is_answered-requires-clause-sound : goal.is_answered-requires-clause-sound
is_answered-requires-clause-sound c =
    sound c.requires.setup c.args.program.now.functions c.requires.store c.requires.attempt c.args.parts.now c.args.state.now c.requires.stands

pub is_answered-requires-clause-room : goal.is_answered-requires-clause-room
is_answered-requires-clause-room c =
    room c.requires.setup c.args.program.now.functions c.requires.store c.requires.attempt c.args.parts.now c.args.state.now c.requires.stands

pub adopt-requires : goal.adopt-requires
adopt-requires c =
    let fs = c.args.program.now.functions in
    let old = c.args.parts.now in
    can_if HasBegun (FindsAnswer fs old) fs old c.args.state.now
    (adopts fs old c.args.state.now c.is_answered.result c.if-is_answered.true c.is_answered.ensures).needs c.requires

pub returns-then-is_answered-clause-ok : goal.returns-then-is_answered-clause-ok
returns-then-is_answered-clause-ok c =
    let fs = c.args.program.now.functions in
    let old = c.args.parts.now in
    leads_moves HasBegun (FindsAnswer fs old) fs old c.adopt.new.parts (next_move fs old) (next_move fs old) c.args.state.now c.adopt.new.state
    (adopts fs old c.args.state.now c.is_answered.result c.if-is_answered.true c.is_answered.ensures) c.adopt.result c.adopt.ensures.ok

pub returns-then-is_answered-clause-cut : goal.returns-then-is_answered-clause-cut
returns-then-is_answered-clause-cut c =
    let fs = c.args.program.now.functions in
    let old = c.args.parts.now in
    leads_cut HasBegun (FindsAnswer fs old) fs old c.adopt.new.parts (next_move fs old) (next_move fs old) c.args.state.now c.adopt.new.state
    (adopts fs old c.args.state.now c.is_answered.result c.if-is_answered.true c.is_answered.ensures) c.adopt.result c.adopt.ensures.cut

pub returns-then-state-clause-ok : goal.returns-then-state-clause-ok
returns-then-state-clause-ok c =
    waits_record c.args.program.now.functions c.args.parts.now c.args.state.now c.is_answered.result c.if-is_answered.false c.is_answered.ensures c.if-state.true

pub returns-else-state-clause-ok : goal.returns-else-state-clause-ok
returns-else-state-clause-ok c =
    let fs = c.args.program.now.functions in
    let old = c.args.parts.now in
    leads_moves HasBegun HasBegun fs old c.step_script.new.parts (next_move fs old) (script_move fs old) c.args.state.now c.step_script.new.state
    (scripts fs old c.args.state.now c.is_answered.result c.if-is_answered.false c.is_answered.ensures c.if-state.false) c.step_script.result c.step_script.ensures.ok

pub returns-else-state-clause-cut : goal.returns-else-state-clause-cut
returns-else-state-clause-cut c =
    let fs = c.args.program.now.functions in
    let old = c.args.parts.now in
    leads_cut HasBegun HasBegun fs old c.step_script.new.parts (next_move fs old) (script_move fs old) c.args.state.now c.step_script.new.state
    (scripts fs old c.args.state.now c.is_answered.result c.if-is_answered.false c.is_answered.ensures c.if-state.false) c.step_script.result c.step_script.ensures.cut
