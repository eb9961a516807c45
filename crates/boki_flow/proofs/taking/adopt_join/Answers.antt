use Rattle.std.proofs.Common.{◌≡◌, ◌∙◌, sym, ap, rules}
use Rattle.boki_types.specs.declared.line.StepLine.TheVariants as line
use Rattle.boki_types.specs.declared.operation.Answer.TheVariants as ans
use Rattle.boki_types.specs.declared.operation.Ask.TheVariants as k
use Rattle.boki_types.specs.declared.operation.Op.TheVariants as o
use Rattle.boki_flow.specs.Arms.{TakesAnswer, joined_move}
use Rattle.boki_flow.proofs.Standing.{on_err}
use Rattle.boki_flow.proofs.Adopted.{cut_keeps, keeps_parts, taking_engine, taking_room, taking_few, taking_takes, taking_child, join_waits, join_takes}
use Rattle.boki_flow.proofs.Taken.{taken_ok}
use Rattle.boki_flow.proofs.taking.adopt_join.Goals as goal

pub child-path-requires : goal.child-path-requires
child-path-requires c =
    let r = c.requires in
    taking_child c.args.program.now.functions c.args.parts.now c.args.state.now c.args.changed r.setup r.store r.attempt r.stands (o.Join c.args.ordinal) r.holds
    (r.stands.can.asks.children (o.Join c.args.ordinal) r.holds.asked)

pub last_finish-requires : goal.last_finish-requires
last_finish-requires c =
    let r = c.requires in
    (taking_engine c.args.program.now.functions c.args.parts.now c.args.state.now c.args.changed r.setup r.store r.attempt r.stands (o.Join c.args.ordinal) r.holds).there

pub take_answer-requires-clause-few : goal.take_answer-requires-clause-few
take_answer-requires-clause-few c =
    let r = c.requires in
    taking_few c.args.program.now.functions c.args.parts.now c.args.state.now c.args.changed r.setup r.store r.attempt r.stands (o.Join c.args.ordinal) r.holds

pub take_answer-requires-clause-takes : goal.take_answer-requires-clause-takes
take_answer-requires-clause-takes c =
    let r = c.requires in
    taking_takes c.args.program.now.functions c.args.parts.now c.args.state.now c.args.changed r.setup r.store r.attempt r.stands (o.Join c.args.ordinal) r.holds (ans.Joined _) tt

pub take_answer-requires-clause-room : goal.take_answer-requires-clause-room
take_answer-requires-clause-room c =
    let r = c.requires in
    taking_room c.args.program.now.functions c.args.parts.now c.args.state.now c.args.changed r.setup r.store r.attempt r.stands (o.Join c.args.ordinal) r.holds

pub returns-in_err-outcome-clause-cut : goal.returns-in_err-outcome-clause-cut
returns-in_err-outcome-clause-cut c =
    on_err c.from_residual.result (cut_keeps (TakesAnswer c.args.program.now.functions (k.Op (o.Join c.args.ordinal)) c.args.changed) (joined_move c.args.parts.now c.args.changed c.args.ordinal)
    c.args.program.now.functions c.args.parts.now c.args.parts.now c.args.state.now (keeps_parts c.args.parts.now))

pub returns-in_err-copy_outcome-in-Some-clause-cut : goal.returns-in_err-copy_outcome-in-Some-clause-cut
returns-in_err-copy_outcome-in-Some-clause-cut c =
    on_err c.from_residual-in_err-copy_outcome-in-Some.result (cut_keeps (TakesAnswer c.args.program.now.functions (k.Op (o.Join c.args.ordinal)) c.args.changed) (joined_move c.args.parts.now c.args.changed c.args.ordinal)
    c.args.program.now.functions c.args.parts.now c.args.parts.now c.args.state.now (keeps_parts c.args.parts.now))

pub returns-in_ok-copy_outcome-in-Some-clause-ok : goal.returns-in_ok-copy_outcome-in-Some-clause-ok
returns-in_ok-copy_outcome-in-Some-clause-ok c =
    let fs = c.args.program.now.functions in
    let old = c.args.parts.now in
    let kept = c.args.state.now in
    let at = c.args.changed in
    let outcome = c.in-Some.outcome in
    let answer = ans.Joined c.in_ok-copy_outcome-in-Some.field-0 in
    let copied : c.in_ok-copy_outcome-in-Some.field-0 ≡ outcome = search rules in
    taken_ok (TakesAnswer fs (k.Op (o.Join c.args.ordinal)) at) (joined_move old at c.args.ordinal) fs old old kept c.take_answer.new.state at answer
    (line.AdoptJoin at.cursor c.child-path.result outcome) c.take_answer.result c.take_answer.ensures.line c.take_answer.ensures.after (λ told said taken.
    join_takes fs old old kept c.take_answer.new.state at answer told (keeps_parts old) c.args.ordinal c.child-path.result c.child-path.ensures outcome
    (sym c.in-Some.is ∙ c.in_ok-outcome.ensures) (ap ans.Joined copied) said taken)

pub returns-in_ok-copy_outcome-in-Some-clause-cut : goal.returns-in_ok-copy_outcome-in-Some-clause-cut
returns-in_ok-copy_outcome-in-Some-clause-cut c =
    on_err c.take_answer.result (cut_keeps (TakesAnswer c.args.program.now.functions (k.Op (o.Join c.args.ordinal)) c.args.changed) (joined_move c.args.parts.now c.args.changed c.args.ordinal)
    c.args.program.now.functions c.args.parts.now c.args.parts.now c.args.state.now (keeps_parts c.args.parts.now))

pub returns-in-None-clause-ok : goal.returns-in-None-clause-ok
returns-in-None-clause-ok c =
    let old = c.args.parts.now in
    join_waits c.args.program.now.functions old old c.args.state.now c.args.state.now c.args.changed ans.Done line.Idle (keeps_parts old) c.args.ordinal c.child-path.result c.child-path.ensures
    (sym c.in-None.is ∙ c.in_ok-outcome.ensures)
