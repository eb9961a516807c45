use Rattle.std.proofs.Common.{◌+◌, ◌∙◌, ◌∷◌, ap, sym, subst, drop, Option}
use Rattle.boki_types.specs.declared.expr.Expr.{Expr}
use Rattle.boki_model.specs.Script as script
use Rattle.script_run.specs.declared.state.Block.{Block}
use Rattle.script_run.specs.Flows.{HasFlow}
use Rattle.script_run.specs.Standing.{local_state_of, state_of, block_of, blocks_of, loop_of}
use Rattle.script_run.proofs.Blocks.{ends_last}
use Rattle.script_run.proofs.execute.end_block.Goals as goal

pub returns-in-Some-Branch-clause-leads : goal.returns-in-Some-Branch-clause-leads
returns-in-Some-Branch-clause-leads c = λ at ask.
    let lines = c.args.lines.now in
    let t = state_of lines c.args.state.now in
    let h = c.in-Some-Branch.ensures in
    ends_last lines (local_state_of c.args.state.now).blocks h.0 c.in-Some-Branch.field-0 t (sym c.as_slice.ensures.value ∙ h.1)
    ∙ ap (λ (b : Block). script.end_block (block_of lines b ∷ blocks_of lines h.0) t) c.in-Some-Branch.field-0-is
    ∙ ap script.Next (sym (c.close.ensures lines))

pub returns-in-Some-clause-leads : goal.returns-in-Some-clause-leads
returns-in-Some-clause-leads c = λ at ask.
    let lines = c.args.lines.now in
    let t = state_of lines c.args.state.now in
    let h = c.in-Some-Loop.ensures in
    let body = drop (c.in-Some-Loop.at + 1) lines in
    let is = ends_last lines (local_state_of c.args.state.now).blocks h.0 c.in-Some-Loop.field-0 t (sym c.as_slice.ensures.value ∙ h.1)
    ∙ ap (λ (b : Block). script.end_block (block_of lines b ∷ blocks_of lines h.0) t) c.in-Some-Loop.field-0-is
    ∙ ap (λ (o : Option Expr). script.end_block (loop_of o body ∷ blocks_of lines h.0) t) (sym c.in-Some.ensures) in
    subst (λ flow. HasFlow flow lines at ask (state_of lines c.repeat_loop.new.state) c.repeat_loop.result) (sym is) (c.repeat_loop.ensures.leads lines at ask)

pub returns-in-None-loop_test-clause-leads : goal.returns-in-None-loop_test-clause-leads
returns-in-None-loop_test-clause-leads c = λ at ask.
    let lines = c.args.lines.now in
    let t = state_of lines c.args.state.now in
    let h = c.in-Some-Loop.ensures in
    let body = drop (c.in-Some-Loop.at + 1) lines in
    ends_last lines (local_state_of c.args.state.now).blocks h.0 c.in-Some-Loop.field-0 t (sym c.as_slice.ensures.value ∙ h.1)
    ∙ ap (λ (b : Block). script.end_block (block_of lines b ∷ blocks_of lines h.0) t) c.in-Some-Loop.field-0-is
    ∙ ap (λ (o : Option Expr). script.end_block (loop_of o body ∷ blocks_of lines h.0) t) (sym c.in-None-loop_test.ensures)
    ∙ ap script.Next (sym (c.close-in-None-loop_test.ensures lines))
