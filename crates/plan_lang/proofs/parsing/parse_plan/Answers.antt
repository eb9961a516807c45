use Rattle.std.proofs.Common.{◌<◌, ◌≤◌, length, sym, ap, ◌∙◌, subst, arith}
use Rattle.std.specs.Prelude.{Result, Err}
use Rattle.std.proofs.lemmas.Result.{err_from_is_err_and}
use Rattle.std.proofs.lemmas.Bool.Decides.{nat_tests}
use Rattle.boki_types.specs.declared.plan.Plan.{Plan}
use Rattle.line_text.specs.declared.fault.TextFault.{TextFault}
use Rattle.plan_lang.specs.Texts.{plan_line, empty_plan_draft, plan_of_scan}
use Rattle.line_text.specs.Faults.{refused_at, Fails}
use Rattle.plan_lang.proofs.FunctionCountLemmas.{plan_line_few, few_bound}
use Rattle.line_text.proofs.ScanLemmas.{scan_next, scan_last, fails_at}
use Rattle.plan_lang.proofs.PlanLemmas.{plan_short, plan_fault}
use Rattle.plan_lang.proofs.parsing.parse_plan.Goals as goal

pub add_plan_line-requires : goal.add_plan_line-requires
add_plan_line-requires c = few_bound _ _ c.lines.invariant.2

pub lines-preserved : goal.lines-preserved
lines-preserved c = (
  sym (scan_next plan_line 65536 c.lines.number c.lines.rest.now c.in-Some.line.now c.in-Some.after.now c.lines.draft c.in_ok-draft.draft c.in-Some.ensures.line c.in_ok-draft.ensures)
      ∙ c.lines.invariant.0,
  omega (arith, c.in-Some.ensures.shorter),
  plan_line_few 65536 c.lines.number c.in-Some.line.now c.lines.draft c.in_ok-draft.draft c.in_ok-draft.ensures c.lines.invariant.2,
)

pub returns-in_err-draft : goal.returns-in_err-draft
returns-in_err-draft c =
    let p = err_from_is_err_and c.from_residual.result c.from_residual.ensures.1 in
    let short : length c.args.bytes.now ≤ 1048576 = omega arith in
    let P : Result Plan TextFault → Type 0 = λ r. Fails c.in_err-draft.field-0.0 r in
    rw (p.1, p.2) (subst P (sym (plan_short c.args.bytes.now short)) (fails_at plan_line 65536 plan_of_scan plan_fault c.in_err-draft.field-0.0 c.lines.number c.lines.rest.now c.in-Some.line.now c.in-Some.after.now c.args.bytes.now c.lines.draft empty_plan_draft c.in-Some.ensures.line c.lines.invariant.0 c.in_err-draft.ensures))

pub returns-then-not-is_empty : goal.returns-then-not-is_empty
returns-then-not-is_empty c =
    let some : 0 < length c.lines.rest.now = grind (arith, nat_tests, c.if-not-is_empty.true, c.is_empty.ensures) in
    let short : length c.args.bytes.now ≤ 1048576 = omega arith in
    plan_short c.args.bytes.now short
    ∙ ap plan_of_scan (sym c.lines.invariant.0)
    ∙ ap plan_of_scan (scan_last plan_line 65536 c.lines.number c.lines.rest.now c.lines.draft c.in_default.ensures.line some)
    ∙ ap (λ k. Err (refused_at c.lines.number k)) (sym c.fault_of_unended_line.ensures)
