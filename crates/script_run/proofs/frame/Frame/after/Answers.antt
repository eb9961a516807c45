use Rattle.std.proofs.Common.{◌+◌, ◌∙◌, ap, sym, subst, List, Option, drop, refl}
use Rattle.std.specs.Option.{option_copied}
use Rattle.lb_base.specs.declared.value.TrapKind.{TrapKind}
use Rattle.lb_base.specs.declared.value.Outcome.TheVariants.{Trap}
use Rattle.boki_types.specs.declared.program.Stmt.{Stmt}
use Rattle.boki_types.specs.declared.operation.Ask.TheVariants as k
use Rattle.boki_model.specs.Script as script
use Rattle.script_run.specs.Standing.{LocalState, local_state_of, state_of, state_from, stop_point_at, target_of}
use Rattle.script_run.specs.Answering.{received}
use Rattle.script_run.specs.Frames.{FrameState, FrameStandsFor}
use Rattle.script_run.proofs.Standings.{answer_moves}
use Rattle.script_run.proofs.frame.Frame.after.Goals as goal

pub returns-in-Some : goal.returns-in-Some
returns-in-Some c = λ function args depth answers h.
    let fs = c.args.program.now.functions in
    let i = c.self.inside in
    let made = local_state_of i.state in
    let old : FrameState = record { function = i.function; depth = i.depth; at = i.at; ask = i.ask; made = made } in
    let lines = c.lines_of-lines.result.now in
    let rest = drop (i.at + 1) lines in
    let op = c.in-Op.operation in
    let t = state_of lines c.receive.new.state in
    let taken = ap (λ (o : Option Stmt). script.apply_answer op (target_of o) c.args.answer (state_from lines made)) (sym c.line_at.ensures)
    ∙ ap (λ (m : LocalState). script.apply_answer op (target_of (option_copied c.line_at.result)) c.args.answer (state_from lines m)) (sym c.in_ok-state.ensures)
    ∙ c.in_ok-kind.ensures lines in
    let new : FrameState = record { function = i.function; depth = i.depth; at = i.at; ask = k.Done (Trap c.in-Some.kind); made = local_state_of c.receive.new.state } in
    let goes_on = ap (λ (w : Option TrapKind). script.continue_after fs i.depth rest (received w t)) c.in-Some.is in
    answer_moves fs function args depth answers c.args.answer old new op lines c.in_ok-kind.field-0 t c.lines_of-lines.ensures c.in-Op.is taken goes_on refl refl (subst (λ (kept : FrameState). FrameStandsFor fs function args depth answers kept) (sym c.self.view_is) h)

pub returns-in_ok-at-in-None : goal.returns-in_ok-at-in-None
returns-in_ok-at-in-None c = λ function args depth answers h.
    let fs = c.args.program.now.functions in
    let i = c.self.inside in
    let made = local_state_of i.state in
    let old : FrameState = record { function = i.function; depth = i.depth; at = i.at; ask = i.ask; made = made } in
    let lines = c.lines_of-lines.result.now in
    let rest = drop (i.at + 1) lines in
    let op = c.in-Op.operation in
    let t = state_of lines c.receive.new.state in
    let taken = ap (λ (o : Option Stmt). script.apply_answer op (target_of o) c.args.answer (state_from lines made)) (sym c.line_at.ensures)
    ∙ ap (λ (m : LocalState). script.apply_answer op (target_of (option_copied c.line_at.result)) c.args.answer (state_from lines m)) (sym c.in_ok-state.ensures)
    ∙ c.in_ok-kind.ensures lines in
    let new : FrameState = record { function = i.function; depth = i.depth; at = c.in_ok-at-in-None.at; ask = c.run.new.ask; made = local_state_of c.run.new.state } in
    let goes_on = ap (λ (w : Option TrapKind). script.continue_after fs i.depth rest (received w t)) c.in-None.is
    ∙ c.in_ok-at-in-None.ensures.stands
    ∙ ap (λ (ls : List Stmt). stop_point_at ls c.run.new.ask c.in_ok-at-in-None.at (state_from ls (local_state_of c.run.new.state))) c.lines_of-lines.ensures in
    answer_moves fs function args depth answers c.args.answer old new op lines c.in_ok-kind.field-0 t c.lines_of-lines.ensures c.in-Op.is taken goes_on refl refl (subst (λ (kept : FrameState). FrameStandsFor fs function args depth answers kept) (sym c.self.view_is) h)
