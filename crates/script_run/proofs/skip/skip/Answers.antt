use Rattle.std.proofs.Common.{◌+◌, ◌∙◌, ap, sym, length, drop, Some, None, arith}
use Rattle.boki_model.specs.Script as script
use Rattle.script_run.specs.declared.state.Block.TheVariants as b
use Rattle.script_run.specs.Standing.{local_state_of, state_of}
use Rattle.script_run.proofs.Blocks.{pushed_state}
use Rattle.script_run.proofs.Goes.{passes_over, passes_other, at_end}
use Rattle.script_run.proofs.skip.skip.Goals as goal

pub returns-in-BlockEnds-clause-goes : goal.returns-in-BlockEnds-clause-goes
returns-in-BlockEnds-clause-goes c = λ functions depth enter.
    let lines = c.args.lines.now in
    let t = state_of lines c.lines.state in
    sym (c.lines.invariant.1 functions depth enter) ∙ passes_over functions depth enter lines c.lines.at c.lines.inner c.index-lines-at.result t c.lines-test.true c.index-lines-at.is (sym c.in-BlockEnds.ensures)

pub returns-in-ElseBegins-clause-goes : goal.returns-in-ElseBegins-clause-goes
returns-in-ElseBegins-clause-goes c = λ functions depth enter.
    let lines = c.args.lines.now in
    let t = state_of lines c.lines.state in
    sym (c.lines.invariant.1 functions depth enter) ∙ passes_other functions depth enter lines c.lines.at c.lines.inner c.index-lines-at.result t c.lines-test.true c.index-lines-at.is (sym c.in-ElseBegins.ensures)
    ∙ ap (script.execute_from functions depth enter None (drop (c.lines.at + 1) lines)) (sym (pushed_state lines (local_state_of c.lines.state) c.push.new.self.items b.Branch c.in_ok-push-in-ElseBegins.ensures.items))

pub returns-clause-goes : goal.returns-clause-goes
returns-clause-goes c = λ functions depth enter.
    let lines = c.args.lines.now in
    let t = state_of lines c.lines.state in
    sym (c.lines.invariant.1 functions depth enter) ∙ at_end functions depth enter (Some c.lines.inner) lines c.lines.at t (omega arith) ∙ sym (at_end functions depth enter None lines (length lines) t (omega arith))
