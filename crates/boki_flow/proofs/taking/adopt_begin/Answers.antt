use Rattle.std.proofs.Common.{◌≡◌, ◌∙◌, Some, length, refl, ap, rules}
use Rattle.std.specs.Prelude.{zip}
use Rattle.boki_types.specs.declared.line.StepLine.TheVariants as line
use Rattle.boki_types.specs.declared.operation.Answer.TheVariants as ans
use Rattle.boki_types.specs.declared.operation.Ask.TheVariants as k
use Rattle.boki_types.specs.declared.operation.Op.TheVariants as o
use Rattle.boki_model.specs.Folds.{commits, store_values, values_of_names}
use Rattle.boki_machine.specs.Step.{records_below}
use Rattle.step_log.specs.Sound.{view}
use Rattle.boki_flow.specs.Arms.{TakesAnswer, begun_move}
use Rattle.boki_flow.proofs.Standing.{on_err}
use Rattle.boki_flow.proofs.Adopted.{cut_keeps, taking_engine, taking_room, taking_few, taking_takes, values_count, begin_takes}
use Rattle.boki_flow.proofs.Taken.{taken_ok}
use Rattle.boki_flow.proofs.taking.adopt_begin.Goals as goal

pub begun_values-requires : goal.begun_values-requires
begun_values-requires c =
    let r = c.requires in
    taking_engine c.args.program.now.functions c.args.parts.now c.args.state.now c.args.changed r.setup r.store r.attempt r.stands (o.Begin c.args.names.now) r.holds

pub take_answer-requires-clause-few : goal.take_answer-requires-clause-few
take_answer-requires-clause-few c =
    let r = c.requires in
    taking_few c.args.program.now.functions c.args.parts.now c.args.state.now c.args.changed r.setup r.store r.attempt r.stands (o.Begin c.args.names.now) r.holds

pub take_answer-requires-clause-takes : goal.take_answer-requires-clause-takes
take_answer-requires-clause-takes c =
    let r = c.requires in
    let records = records_below c.args.changed.cursor.0 (view c.args.parts.now.book c.args.changed.engine) in
    taking_takes c.args.program.now.functions c.args.parts.now c.args.state.now c.args.changed r.setup r.store r.attempt r.stands (o.Begin c.args.names.now) r.holds (ans.Values c.in_ok-values.values)
    (ap length c.in_ok-values.ensures.values ∙ values_count _ (store_values (commits records)) ∙ ap length c.as_slice.ensures)

pub take_answer-requires-clause-room : goal.take_answer-requires-clause-room
take_answer-requires-clause-room c =
    let r = c.requires in
    taking_room c.args.program.now.functions c.args.parts.now c.args.state.now c.args.changed r.setup r.store r.attempt r.stands (o.Begin c.args.names.now) r.holds

pub returns-in_err-values-clause-cut : goal.returns-in_err-values-clause-cut
returns-in_err-values-clause-cut c =
    on_err c.from_residual.result (cut_keeps (TakesAnswer c.args.program.now.functions (k.Op (o.Begin c.args.names.now)) c.args.changed) (begun_move c.args.parts.now c.args.changed c.args.names.now)
    c.args.program.now.functions c.args.parts.now c.begun_values.new.parts c.args.state.now c.begun_values.ensures.parts)

pub returns-in_err-pairs-clause-cut : goal.returns-in_err-pairs-clause-cut
returns-in_err-pairs-clause-cut c =
    on_err c.from_residual-in_err-pairs.result (cut_keeps (TakesAnswer c.args.program.now.functions (k.Op (o.Begin c.args.names.now)) c.args.changed) (begun_move c.args.parts.now c.args.changed c.args.names.now)
    c.args.program.now.functions c.args.parts.now c.begun_values.new.parts c.args.state.now c.begun_values.ensures.parts)

pub returns-clause-ok : goal.returns-clause-ok
returns-clause-ok c =
    let fs = c.args.program.now.functions in
    let old = c.args.parts.now in
    let new = c.begun_values.new.parts in
    let kept = c.args.state.now in
    let at = c.args.changed in
    let names = c.args.names.now in
    let vs = c.in_ok-values.values in
    let begun = record at { transaction = Some at.cursor } in
    let values_is : vs ≡ values_of_names names (store_values (commits (records_below at.cursor.0 (view old.book at.engine)))) = search rules in
    let pairs_is : c.in_ok-pairs.pairs ≡ zip names vs = search rules in
    taken_ok (TakesAnswer fs (k.Op (o.Begin names)) at) (begun_move old at names) fs old new kept c.take_answer.new.state begun (ans.Values vs)
    (line.AdoptBegin at.cursor c.in_ok-pairs.pairs) c.take_answer.result c.take_answer.ensures.line c.take_answer.ensures.after (λ told said taken.
    begin_takes fs old new kept c.take_answer.new.state at (ans.Values vs) told c.begun_values.ensures.parts names vs begun
    values_is refl (said ∙ ap (line.AdoptBegin at.cursor) pairs_is) refl taken)

pub returns-clause-cut : goal.returns-clause-cut
returns-clause-cut c =
    on_err c.take_answer.result (cut_keeps (TakesAnswer c.args.program.now.functions (k.Op (o.Begin c.args.names.now)) c.args.changed) (begun_move c.args.parts.now c.args.changed c.args.names.now)
    c.args.program.now.functions c.args.parts.now c.begun_values.new.parts c.args.state.now c.begun_values.ensures.parts)
