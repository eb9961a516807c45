use Rattle.std.proofs.Common.{sym, subst}
use Rattle.std.specs.Prelude.{IfOk}
use Rattle.boki_types.specs.declared.event.Event.{Event}
use Rattle.cluster_run.specs.Attempts.{DoesAll}
use Rattle.cluster_run.proofs.Applied.{if_start_done, kill_done, lose_done}
use Rattle.cluster_run.proofs.applying.attempt.Goals as goal

pub returns-in-Start : goal.returns-in-Start
returns-in-Start c =
    let fs = c.args.program.now.functions in
    subst (λ (e : Event). IfOk c.start.result (DoesAll fs e c.args.parts.now c.args.parts.now c.args.attempts.now.entries c.start.new.attempts.entries)) (sym c.in-Start.is)
    (if_start_done fs c.args.parts.now c.args.attempts.now.entries c.start.new.attempts.entries c.start.result c.in-Start.attempt c.in-Start.path c.in-Start.engine c.start.ensures.done)

pub returns-in-Kill : goal.returns-in-Kill
returns-in-Kill c =
    let fs = c.args.program.now.functions in
    subst (λ (e : Event). DoesAll fs e c.args.parts.now c.args.parts.now c.args.attempts.now.entries c.kill_attempt.new.attempts.entries c.kill_attempt.result) (sym c.in-Kill.is)
    (kill_done fs c.args.parts.now c.args.attempts.now.entries c.kill_attempt.new.attempts.entries c.in-Kill.attempt c.kill_attempt.result c.kill_attempt.ensures)

pub returns-in-Lose : goal.returns-in-Lose
returns-in-Lose c =
    let fs = c.args.program.now.functions in
    subst (λ (e : Event). DoesAll fs e c.args.parts.now c.args.parts.now c.args.attempts.now.entries c.lose_record.new.attempts.entries c.lose_record.result) (sym c.in-Lose.is)
    (lose_done fs c.args.parts.now c.args.attempts.now.entries c.lose_record.new.attempts.entries c.in-Lose.attempt c.lose_record.result c.lose_record.ensures)
