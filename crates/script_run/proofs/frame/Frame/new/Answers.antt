use Rattle.std.proofs.Common.{◌≡◌, ◌∙◌, ap, sym, List, ℕ, Some, Option, get_or, refl}
use Rattle.boki_types.specs.declared.program.Stmt.{Stmt}
use Rattle.boki_types.specs.declared.program.Function.{Function}
use Rattle.boki_model.specs.Script as script
use Rattle.script_run.specs.Standing.{local_state_of, state_of, state_from, stop_point_at}
use Rattle.script_run.specs.Frames.{lines_of}
use Rattle.script_run.proofs.Standings.{begins_at, function_is}
use Rattle.script_run.proofs.frame.Frame.new.Goals as goal

pub returns : goal.returns
returns c =
    let fs = c.args.program.now.functions in
    let n = c.args.function in
    let args = c.args.args.now in
    let depth = c.args.depth in
    let f = c.index-as_slice-function.result in
    let is : f ≡ get_or fs n f = c.index-as_slice-function.is ∙ ap (λ (gs : List Function). get_or gs n f) c.as_slice.ensures in
    let lines = c.as_slice-lines.result.now in
    let made = local_state_of c.run.new.state in
    let stands = begins_at fs n args depth f c.requires.known is c.requires.fits
    ∙ ap (λ (params : List (List ℕ)). Some (script.run_script fs depth f.lines (script.initial_state params args))) (sym c.as_slice-2.ensures)
    ∙ ap (λ (t : script.State). Some (script.run_script fs depth f.lines t)) (sym (c.in_ok-state.ensures lines))
    ∙ ap (λ (ls : List Stmt). Some (script.run_script fs depth ls (state_of lines c.in_ok-state.state))) (sym c.as_slice-lines.ensures)
    ∙ ap Some c.in_ok-at.ensures.stands
    ∙ ap (λ (ls : List Stmt). Some (stop_point_at ls c.run.new.ask c.in_ok-at.at (state_from ls made))) c.as_slice-lines.ensures
    ∙ ap (λ (o : Option Function). Some (stop_point_at (lines_of o) c.run.new.ask c.in_ok-at.at (state_from (lines_of o) made))) (sym (function_is n fs f c.requires.known is)) in
    record { same_function = refl; same_depth = refl; stands = stands }
