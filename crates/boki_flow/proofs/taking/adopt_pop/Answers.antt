use Rattle.std.proofs.Common.{◌≡◌, ◌∙◌, ℕ, List, Some, sym, ap, rules}
use Rattle.boki_types.specs.declared.line.StepLine.TheVariants as line
use Rattle.boki_types.specs.declared.operation.Answer.TheVariants as ans
use Rattle.boki_types.specs.declared.operation.Op.TheVariants as o
use Rattle.boki_model.specs.Folds.{queues, front}
use Rattle.boki_machine.specs.Step.{records_below}
use Rattle.boki_queue.specs.QueueStates.{popped_at}
use Rattle.step_log.specs.Sound.{view}
use Rattle.boki_flow.specs.Arms.{TakesPop, popped_move}
use Rattle.boki_flow.proofs.Standing.{on_err}
use Rattle.boki_flow.proofs.Adopted.{cut_keeps, keeps_parts, taking_engine, taking_room, taking_few, taking_takes, pop_takes}
use Rattle.boki_flow.proofs.Taken.{seen_so, taken_ok}
use Rattle.boki_flow.proofs.taking.adopt_pop.Goals as goal

pub pop_value-requires-clause-engine : goal.pop_value-requires-clause-engine
pop_value-requires-clause-engine c =
    let r = c.requires in
    taking_engine c.args.program.now.functions c.args.parts.now c.args.state.now c.args.changed r.setup r.store r.attempt r.stands (o.Pop c.args.queue.now) r.holds.1

pub pop_value-requires-clause-pop : goal.pop_value-requires-clause-pop
pop_value-requires-clause-pop c =
    let r = c.requires in
    seen_so c.args.parts.now.book c.args.changed r.attempt r.holds.1.changed_is (popped_at c.args.changed.cursor.0) (Some c.args.queue.now) r.holds.0
    ∙ ap Some (sym c.as_str.ensures)

pub take_answer-requires-clause-few : goal.take_answer-requires-clause-few
take_answer-requires-clause-few c =
    let r = c.requires in
    taking_few c.args.program.now.functions c.args.parts.now c.args.state.now c.args.changed r.setup r.store r.attempt r.stands (o.Pop c.args.queue.now) r.holds.1

pub take_answer-requires-clause-takes : goal.take_answer-requires-clause-takes
take_answer-requires-clause-takes c =
    let r = c.requires in
    taking_takes c.args.program.now.functions c.args.parts.now c.args.state.now c.args.changed r.setup r.store r.attempt r.stands (o.Pop c.args.queue.now) r.holds.1 (ans.Value _) tt

pub take_answer-requires-clause-room : goal.take_answer-requires-clause-room
take_answer-requires-clause-room c =
    let r = c.requires in
    taking_room c.args.program.now.functions c.args.parts.now c.args.state.now c.args.changed r.setup r.store r.attempt r.stands (o.Pop c.args.queue.now) r.holds.1

pub returns-in_err-name-clause-cut : goal.returns-in_err-name-clause-cut
returns-in_err-name-clause-cut c =
    on_err c.from_residual.result (cut_keeps (TakesPop c.args.program.now.functions c.args.parts.now c.args.queue.now c.args.changed) (popped_move c.args.parts.now c.args.changed c.args.queue.now)
    c.args.program.now.functions c.args.parts.now c.args.parts.now c.args.state.now (keeps_parts c.args.parts.now))

pub returns-in_err-value-clause-cut : goal.returns-in_err-value-clause-cut
returns-in_err-value-clause-cut c =
    on_err c.from_residual-in_err-value.result (cut_keeps (TakesPop c.args.program.now.functions c.args.parts.now c.args.queue.now c.args.changed) (popped_move c.args.parts.now c.args.changed c.args.queue.now)
    c.args.program.now.functions c.args.parts.now c.pop_value.new.parts c.args.state.now c.pop_value.ensures.parts)

pub returns-in_err-clone-clause-cut : goal.returns-in_err-clone-clause-cut
returns-in_err-clone-clause-cut c =
    on_err c.from_residual-in_err-clone.result (cut_keeps (TakesPop c.args.program.now.functions c.args.parts.now c.args.queue.now c.args.changed) (popped_move c.args.parts.now c.args.changed c.args.queue.now)
    c.args.program.now.functions c.args.parts.now c.pop_value.new.parts c.args.state.now c.pop_value.ensures.parts)

pub returns-clause-ok : goal.returns-clause-ok
returns-clause-ok c =
    let fs = c.args.program.now.functions in
    let old = c.args.parts.now in
    let new = c.pop_value.new.parts in
    let kept = c.args.state.now in
    let at = c.args.changed in
    let queue = c.args.queue.now in
    let v = c.in_ok-value.value in
    let answer = ans.Value c.in_ok-clone.field-0 in
    let copied : c.in_ok-clone.field-0 ≡ v = search rules in
    let named : c.in_ok-name.name ≡ queue = search rules in
    taken_ok (TakesPop fs old queue at) (popped_move old at queue) fs old new kept c.take_answer.new.state at answer
    (line.AdoptPop at.cursor c.in_ok-name.name v) c.take_answer.result c.take_answer.ensures.line c.take_answer.ensures.after (λ told said taken.
    pop_takes fs old new kept c.take_answer.new.state at answer told c.pop_value.ensures.parts queue v
    (c.in_ok-value.ensures.value ∙ ap (λ (q : List ℕ). front q (queues (records_below at.cursor.0 (view old.book at.engine)))) c.as_str.ensures)
    (ap ans.Value copied) (said ∙ ap (λ (q : List ℕ). line.AdoptPop at.cursor q v) named) taken)

pub returns-clause-cut : goal.returns-clause-cut
returns-clause-cut c =
    on_err c.take_answer.result (cut_keeps (TakesPop c.args.program.now.functions c.args.parts.now c.args.queue.now c.args.changed) (popped_move c.args.parts.now c.args.changed c.args.queue.now)
    c.args.program.now.functions c.args.parts.now c.pop_value.new.parts c.args.state.now c.pop_value.ensures.parts)
