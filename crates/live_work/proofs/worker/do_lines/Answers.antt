use Rattle.std.proofs.Common.{◌+◌, List, ℕ, drop, arith, subst}
use Rattle.line_text.proofs.ListLemmas.{drop_at}
use Rattle.live_text.specs.declared.text.LiveOp.{LiveOp}
use Rattle.live_text.specs.Outputs.{ops_of}
use Rattle.live_log.specs.declared.fault.Stop.TheVariants.{Ran}
use Rattle.live_work.specs.Worked.{Worked}
use Rattle.live_work.proofs.Working.{Going, going_first, going_on, nothing_left, worked_ran, worked_stopped}
use Rattle.live_work.proofs.worker.do_lines.Goals as goal

pub lines-init : goal.lines-init
lines-init g c = record {
  going = rw c.new-answers.ensures.items (going_first (ops_of c.number-number.result c.args.lines.now) c.args.engine.now);
  counted = omega arith;
}

pub lines-preserved : goal.lines-preserved
lines-preserved g c =
    let n = c.number-number.result in
    let lines = c.args.lines.now in
    let next = drop_at lines c.lines.line-index c.line-item.result c.lines-test.true c.line-item.is in
    record {
      going = going_on n (ops_of n lines) c.line-item.result (drop (c.lines.line-index + 1) lines) c.lines.answers.items c.do_own.new.answers.items c.args.engine.now c.lines.engine c.do_own.new.engine
          (subst (λ (l : List (ℕ × LiveOp)). Going (ops_of n lines) (ops_of n l) c.lines.answers.items c.args.engine.now c.lines.engine) next c.lines.invariant.going) c.in-Ok.ensures.ok;
      counted = omega (arith, c.lines.invariant.counted, c.in-Ok.ensures.counted);
    }

pub returns-in-Err-clause-worked : goal.returns-in-Err-clause-worked
returns-in-Err-clause-worked g c =
    let n = c.number-number.result in
    let lines = c.args.lines.now in
    rw c.in-Err.ensures.err.1 (subst (λ (k : ℕ). Worked (ops_of k lines) c.lines.answers.items c.args.engine.now c.do_own.new.engine c.in-Err.stop) c.number-number.ensures
    (worked_stopped (ops_of n lines) (ops_of n (drop c.lines.line-index lines)) c.lines.answers.items c.args.engine.now c.lines.engine c.do_own.new.engine c.in-Err.stop c.lines.invariant.going c.in-Err.ensures.err.0))

pub returns-clause-worked : goal.returns-clause-worked
returns-clause-worked g c =
    let n = c.number-number.result in
    let lines = c.args.lines.now in
    subst (λ (k : ℕ). Worked (ops_of k lines) c.lines.answers.items c.args.engine.now c.lines.engine Ran) c.number-number.ensures
    (worked_ran (ops_of n lines) c.lines.answers.items c.args.engine.now c.lines.engine
    (subst (λ (l : List (ℕ × LiveOp)). Going (ops_of n lines) (ops_of n l) c.lines.answers.items c.args.engine.now c.lines.engine) (nothing_left lines c.lines.line-index c.lines-test.false) c.lines.invariant.going))
