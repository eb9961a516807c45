use Rattle.std.proofs.Common.{None, true, refl}
use Rattle.boki_types.specs.declared.line.StepLine.TheVariants as line
use Rattle.boki_types.specs.declared.operation.Answer.TheVariants as ans
use Rattle.boki_types.specs.declared.operation.Op.TheVariants as o
use Rattle.boki_txn.specs.TxnStates.{commits_at}
use Rattle.boki_flow.specs.Arms.{TakesCommit, committed_move}
use Rattle.boki_flow.proofs.Standing.{on_err}
use Rattle.boki_flow.proofs.Adopted.{cut_keeps, taking_engine, taking_room, taking_few, taking_takes, commit_takes}
use Rattle.boki_flow.proofs.Taken.{seen_so, taken_ok}
use Rattle.boki_flow.proofs.taking.adopt_commit.Goals as goal

pub is_committed-requires-clause-engine : goal.is_committed-requires-clause-engine
is_committed-requires-clause-engine c =
    let r = c.requires in
    let h = r.holds.1 in
    taking_engine c.args.program.now.functions c.args.parts.now c.args.state.now c.args.changed r.setup r.store r.attempt r.stands (o.Commit h.names h.writes) h.takes

pub is_committed-requires-clause-commit : goal.is_committed-requires-clause-commit
is_committed-requires-clause-commit c =
    let r = c.requires in
    seen_so c.args.parts.now.book c.args.changed r.attempt r.holds.1.takes.changed_is (commits_at c.args.changed.cursor.0) true r.holds.0

pub take_answer-requires-clause-few : goal.take_answer-requires-clause-few
take_answer-requires-clause-few c =
    let r = c.requires in
    let h = r.holds.1 in
    taking_few c.args.program.now.functions c.args.parts.now c.args.state.now c.args.changed r.setup r.store r.attempt r.stands (o.Commit h.names h.writes) h.takes

pub take_answer-requires-clause-takes : goal.take_answer-requires-clause-takes
take_answer-requires-clause-takes c =
    let r = c.requires in
    let h = r.holds.1 in
    taking_takes c.args.program.now.functions c.args.parts.now c.args.state.now c.args.changed r.setup r.store r.attempt r.stands (o.Commit h.names h.writes) h.takes (ans.Committed c.in_ok-good.good) tt

pub take_answer-requires-clause-room : goal.take_answer-requires-clause-room
take_answer-requires-clause-room c =
    let r = c.requires in
    let h = r.holds.1 in
    taking_room c.args.program.now.functions c.args.parts.now c.args.state.now c.args.changed r.setup r.store r.attempt r.stands (o.Commit h.names h.writes) h.takes

pub returns-in_err-good-clause-cut : goal.returns-in_err-good-clause-cut
returns-in_err-good-clause-cut c =
    on_err c.from_residual.result (cut_keeps (TakesCommit c.args.program.now.functions c.args.parts.now c.args.changed) (committed_move c.args.parts.now c.args.changed)
    c.args.program.now.functions c.args.parts.now c.is_committed.new.parts c.args.state.now c.is_committed.ensures.parts)

pub returns-clause-ok : goal.returns-clause-ok
returns-clause-ok c =
    let fs = c.args.program.now.functions in
    let old = c.args.parts.now in
    let new = c.is_committed.new.parts in
    let kept = c.args.state.now in
    let at = c.args.changed in
    let good = c.in_ok-good.good in
    let closed = record at { transaction = None } in
    taken_ok (TakesCommit fs old at) (committed_move old at) fs old new kept c.take_answer.new.state closed (ans.Committed good)
    (line.AdoptCommit at.cursor good) c.take_answer.result c.take_answer.ensures.line c.take_answer.ensures.after (λ told said taken.
    commit_takes fs old new kept c.take_answer.new.state at (ans.Committed good) told c.is_committed.ensures.parts good closed
    c.in_ok-good.ensures.answer refl said refl taken)

pub returns-clause-cut : goal.returns-clause-cut
returns-clause-cut c =
    on_err c.take_answer.result (cut_keeps (TakesCommit c.args.program.now.functions c.args.parts.now c.args.changed) (committed_move c.args.parts.now c.args.changed)
    c.args.program.now.functions c.args.parts.now c.is_committed.new.parts c.args.state.now c.is_committed.ensures.parts)
