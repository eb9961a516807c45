use Rattle.std.proofs.Common.{◌∙◌, ap, sym, cond, Bool, true, Ok}
use Rattle.boki_model.specs.Script as script
use Rattle.script_run.specs.declared.state.Block.TheVariants as b
use Rattle.script_run.specs.Standing.{local_state_of, state_of}
use Rattle.script_run.proofs.Blocks.{pushed_state, tested_is}
use Rattle.script_run.proofs.execute.branch.Goals as goal

pub returns-in_ok-push-clause-leads : goal.returns-in_ok-push-clause-leads
returns-in_ok-push-clause-leads c = λ lines at ask.
    let t = state_of lines c.args.state.now in
    let f = λ (holds : Bool). cond holds (script.Next (script.push_block script.Branch t)) (script.Skip t) in
    tested_is c.args.x.now t f true c.as_slice.result.now c.as_slice.ensures.value (c.in_ok-test.ensures ∙ ap Ok c.if-branch.true)
    ∙ ap script.Next (sym (pushed_state lines (local_state_of c.args.state.now) c.push.new.self.items b.Branch c.in_ok-push.ensures.items))
