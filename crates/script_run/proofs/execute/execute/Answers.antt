use Rattle.std.proofs.Common.{◌+◌, ◌∙◌, ap, sym, subst, length, drop, Some}
use Rattle.std.proofs.lemmas.Option.{get_or_from_slice_get}
use Rattle.boki_types.specs.declared.program.Stmt.{Stmt}
use Rattle.boki_model.specs.Script as script
use Rattle.script_run.specs.Flows.{HasFlow}
use Rattle.script_run.specs.Standing.{state_of}
use Rattle.script_run.proofs.execute.execute.Goals as goal

pub returns-in-Let-clause-leads : goal.returns-in-Let-clause-leads
returns-in-Let-clause-leads c = λ line is.
    let lines = c.args.lines.now in
    let at = c.args.at in
    let x = c.index-lines-at.result in
    let same = sym (get_or_from_slice_get lines at line x is) ∙ sym c.index-lines-at.is ∙ c.in-Let.is in
    subst (λ (l : Stmt). HasFlow (script.execute c.args.program.now.functions c.args.depth l (drop (at + 1) lines) (state_of lines c.args.state.now)) lines at c.args.ask.now (state_of lines c.set.new.state) c.set.result)
    (sym same) (c.set.ensures.leads lines at c.args.ask.now)

pub returns-in-If-clause-leads : goal.returns-in-If-clause-leads
returns-in-If-clause-leads c = λ line is.
    let lines = c.args.lines.now in
    let at = c.args.at in
    let x = c.index-lines-at.result in
    let same = sym (get_or_from_slice_get lines at line x is) ∙ sym c.index-lines-at.is ∙ c.in-If.is in
    subst (λ (l : Stmt). HasFlow (script.execute c.args.program.now.functions c.args.depth l (drop (at + 1) lines) (state_of lines c.args.state.now)) lines at c.args.ask.now (state_of lines c.branch-alloc.new.state) c.branch-alloc.result)
    (sym same) (c.branch-alloc.ensures.leads lines at c.args.ask.now)

pub returns-in-Else-clause-leads : goal.returns-in-Else-clause-leads
returns-in-Else-clause-leads c = λ line is.
    let lines = c.args.lines.now in
    let at = c.args.at in
    let x = c.index-lines-at.result in
    let same = sym (get_or_from_slice_get lines at line x is) ∙ sym c.index-lines-at.is ∙ c.in-Else.is in
    ap (λ (l : Stmt). script.execute c.args.program.now.functions c.args.depth l (drop (at + 1) lines) (state_of lines c.args.state.now)) same ∙ ap script.Skip (sym (c.close.ensures lines))

pub returns-in-While-clause-leads : goal.returns-in-While-clause-leads
returns-in-While-clause-leads c = λ line is.
    let lines = c.args.lines.now in
    let at = c.args.at in
    let x = c.index-lines-at.result in
    let same = sym (get_or_from_slice_get lines at line x is) ∙ sym c.index-lines-at.is ∙ c.in-While.is in
    subst (λ (l : Stmt). HasFlow (script.execute c.args.program.now.functions c.args.depth l (drop (at + 1) lines) (state_of lines c.args.state.now)) lines at c.args.ask.now (state_of lines c.enter_loop.new.state) c.enter_loop.result)
    (sym same) (c.enter_loop.ensures.leads lines c.args.ask.now (is ∙ ap Some same))

pub returns-in-End-clause-leads : goal.returns-in-End-clause-leads
returns-in-End-clause-leads c = λ line is.
    let lines = c.args.lines.now in
    let at = c.args.at in
    let x = c.index-lines-at.result in
    let same = sym (get_or_from_slice_get lines at line x is) ∙ sym c.index-lines-at.is ∙ c.in-End.is in
    subst (λ (l : Stmt). HasFlow (script.execute c.args.program.now.functions c.args.depth l (drop (at + 1) lines) (state_of lines c.args.state.now)) lines at c.args.ask.now (state_of lines c.end_block.new.state) c.end_block.result)
    (sym same) (c.end_block.ensures.leads at c.args.ask.now)

pub returns-in-Return-clause-leads : goal.returns-in-Return-clause-leads
returns-in-Return-clause-leads c = λ line is.
    let lines = c.args.lines.now in
    let at = c.args.at in
    let x = c.index-lines-at.result in
    let same = sym (get_or_from_slice_get lines at line x is) ∙ sym c.index-lines-at.is ∙ c.in-Return.is in
    subst (λ (l : Stmt). HasFlow (script.execute c.args.program.now.functions c.args.depth l (drop (at + 1) lines) (state_of lines c.args.state.now)) lines at c.return_value.new.ask (state_of lines c.args.state.now) c.return_value.result)
    (sym same) (c.return_value.ensures.leads lines at)

pub returns-in_default : goal.returns-in_default
returns-in_default c = record {
  leads = λ line is.
      let lines = c.args.lines.now in
      let at = c.args.at in
      let x = c.index-lines-at.result in
      let same = sym (get_or_from_slice_get lines at line x is) ∙ sym c.index-lines-at.is in
      subst (λ (l : Stmt). HasFlow (script.execute c.args.program.now.functions c.args.depth l (drop (at + 1) lines) (state_of lines c.args.state.now)) lines at c.ask_operation.new.ask (state_of lines c.args.state.now) c.ask_operation.result)
      (sym same) (c.ask_operation.ensures.leads lines at (is ∙ ap Some same));
  small = c.ask_operation.ensures.small;
  enters = c.ask_operation.ensures.enters _;
}

pub returns-in-Let-clause-enters : goal.returns-in-Let-clause-enters
returns-in-Let-clause-enters c = c.set.ensures.enters (length c.args.lines.now)

pub returns-in-If-clause-enters : goal.returns-in-If-clause-enters
returns-in-If-clause-enters c = c.branch-alloc.ensures.enters (length c.args.lines.now)

pub returns-in-Return-clause-enters : goal.returns-in-Return-clause-enters
returns-in-Return-clause-enters c = c.return_value.ensures.enters (length c.args.lines.now)
