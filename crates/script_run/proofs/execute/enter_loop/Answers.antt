use Rattle.std.proofs.Common.{◌+◌, ◌∙◌, ap, sym, cond, drop, Bool, true, Ok, Option, option_and_then}
use Rattle.boki_types.specs.declared.program.Stmt.{Stmt}
use Rattle.boki_model.specs.Script as script
use Rattle.script_run.specs.declared.state.Block.TheVariants as b
use Rattle.script_run.specs.Standing.{local_state_of, state_of, loop_of, while_of}
use Rattle.script_run.proofs.Blocks.{pushed_state, tested_is}
use Rattle.script_run.proofs.execute.enter_loop.Goals as goal

pub returns-in_ok-push-clause-leads : goal.returns-in_ok-push-clause-leads
returns-in_ok-push-clause-leads c = λ lines ask is.
    let t = state_of lines c.args.state.now in
    let body = drop (c.args.at + 1) lines in
    let f = λ (holds : Bool). cond holds (script.Enter body (script.push_block (script.Loop c.args.x.now body) t)) (script.Skip t) in
    let opens = pushed_state lines (local_state_of c.args.state.now) c.push.new.self.items (b.Loop c.args.at) c.in_ok-push.ensures.items in
    tested_is c.args.x.now t f true c.as_slice.result.now c.as_slice.ensures.value (c.in_ok-test.ensures ∙ ap Ok c.if-branch.true)
    ∙ ap (script.Enter body) (sym (opens ∙ ap (λ (line : Option Stmt). script.push_block (loop_of (option_and_then while_of line) body) t) is))
