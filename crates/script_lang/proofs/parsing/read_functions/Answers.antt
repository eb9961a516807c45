use Rattle.std.proofs.Common.{◌<◌, length, sym, ap, ◌∙◌, arith}
use Rattle.std.proofs.lemmas.Result.{err_from_is_err_and}
use Rattle.std.proofs.lemmas.Bool.Decides.{nat_tests}
use Rattle.script_lang.specs.Texts.{program_of_scan}
use Rattle.script_lang.proofs.TextLemmas.{scan_next, scan_last, fails_at}
use Rattle.script_lang.proofs.parsing.read_functions.Goals as goal

pub returns-in_err-draft : goal.returns-in_err-draft
returns-in_err-draft c =
    let p = err_from_is_err_and c.from_residual.result c.from_residual.ensures.1 in
    rw (p.1, p.2) (fails_at _ c.lines.number c.args.first c.lines.rest.now c.in-Some.line.now c.in-Some.after.now c.args.text.now c.lines.draft c.in-Some.ensures.split c.lines.invariant.0 c.in_err-draft.ensures)

pub lines-preserved : goal.lines-preserved
lines-preserved c = (
  sym (scan_next c.lines.number c.lines.rest.now c.in-Some.line.now c.in-Some.after.now c.lines.draft c.in_ok-draft.draft c.in-Some.ensures.split c.in_ok-draft.ensures)
      ∙ c.lines.invariant.0,
  omega (arith, c.in-Some.ensures.shorter),
  c.in-Some.ensures.text.1,
)

pub returns-then-not-is_empty : goal.returns-then-not-is_empty
returns-then-not-is_empty c =
    let some : 0 < length c.lines.rest.now = grind (arith, nat_tests, c.if-not-is_empty.true, c.is_empty.ensures) in
    ap program_of_scan (sym c.lines.invariant.0)
    ∙ ap program_of_scan (scan_last c.lines.number c.lines.rest.now c.lines.draft c.in_default.ensures.split some)
