use Rattle.std.proofs.Common.{◌≡◌, ◌++◌, List, None, sym, ap, ◌∙◌}
use Rattle.boki_types.specs.declared.program.Stmt.{Stmt}
use Rattle.script_lang.specs.Names.{AreSameNames, is_among, names_in, line_fault, lines_fault}
use Rattle.script_lang.proofs.KnownNames.{none_before, lines_same, line_passed}
use Rattle.script_lang.proofs.names.first_line_fault.Goals as goal

pub lines-init : goal.lines-init
lines-init c =
    let params = c.args.function.now.params in
    let same : AreSameNames (names_in c.add_params.new.known) c.args.function.now.params =
    none_before c.new-known.result c.add_params.new.known params c.new-known.ensures.empty (λ name. c.in_ok-add_params.ensures name ∙ ap (λ ns. is_among (names_in c.new-known.result ++ ns) name) c.as_slice.ensures) in
    lines_same c.args.functions.now (names_in c.add_params.new.known) params c.as_slice-lines.result.now c.args.line_numbers.now 1 same
    ∙ ap (λ (ls : List Stmt). lines_fault c.args.functions.now c.args.function.now.params ls c.args.line_numbers.now 1) c.as_slice-lines.ensures

pub lines-preserved : goal.lines-preserved
lines-preserved c =
    let none : line_fault c.args.functions.now (names_in c.lines.known) c.index-lines-i.result ≡ None = sym c.stmt_fault.ensures ∙ c.in_default.is in
    sym (line_passed c.args.functions.now (names_in c.lines.known) (names_in c.add_sets.new.known) c.as_slice-lines.result.now c.args.line_numbers.now c.lines.i c.index-lines-i.result c.lines-test.true c.index-lines-i.is none c.in_ok-add_sets.ensures)
    ∙ c.lines.invariant
