use Rattle.std.proofs.Common.{◌≡◌, ℕ, Option, Some, None, Ok, ◌<◌, ◌≤◌, length, sym, ap, ◌∙◌, subst, arith}
use Rattle.std.specs.Prelude.{Result, Err, IfOk}
use Rattle.std.proofs.lemmas.Result.{err_from_is_err_and}
use Rattle.std.proofs.lemmas.Bool.Decides.{nat_tests}
use Rattle.line_text.specs.declared.fault.TextFault.{TextFault}
use Rattle.line_text.specs.Faults.{refused_at, Fails}
use Rattle.line_text.proofs.ScanLemmas.{scan_next, scan_last, fails_at}
use Rattle.live_text.specs.declared.text.LiveText.{LiveText}
use Rattle.live_text.specs.Reading.{live_line, empty_draft, text_of_scan}
use Rattle.live_text.proofs.ParseLemmas.{text_short, text_fault}
use Rattle.live_text.proofs.WorkerCounts.{IsFew, line_few}
use Rattle.live_text.proofs.parsing.parse_live.Goals as goal

pub lines-preserved : goal.lines-preserved
lines-preserved c = (
  sym (scan_next live_line 65536 c.lines.number c.lines.rest.now c.in-Some.line.now c.in-Some.after.now c.lines.draft c.add_numbered_line.new.self c.in-Some.ensures.line c.in_ok-add_numbered_line.ensures.ok)
      ∙ c.lines.invariant.0,
  omega (arith, c.in-Some.ensures.shorter),
  line_few 65536 c.lines.number c.in-Some.line.now c.lines.draft c.add_numbered_line.new.self c.lines.invariant.2 c.in_ok-add_numbered_line.ensures.ok,
)

pub returns-in_err-add_numbered_line-clause-text : goal.returns-in_err-add_numbered_line-clause-text
returns-in_err-add_numbered_line-clause-text c =
    let p = err_from_is_err_and c.from_residual.result c.from_residual.ensures.1 in
    let short : length c.args.bytes.now ≤ 1048576 = omega arith in
    let P : Result LiveText TextFault → Type 0 = λ r. Fails c.in_err-add_numbered_line.field-0.0 r in
    rw (p.1, p.2) (subst P (sym (text_short c.args.bytes.now short)) (fails_at live_line 65536 text_of_scan text_fault c.in_err-add_numbered_line.field-0.0 c.lines.number c.lines.rest.now c.in-Some.line.now c.in-Some.after.now c.args.bytes.now c.lines.draft empty_draft c.in-Some.ensures.line c.lines.invariant.0 c.in_err-add_numbered_line.ensures.err))

pub returns-then-not-is_empty-clause-text : goal.returns-then-not-is_empty-clause-text
returns-then-not-is_empty-clause-text c =
    let some : 0 < length c.lines.rest.now = grind (arith, nat_tests, c.if-not-is_empty.true, c.is_empty.ensures) in
    let short : length c.args.bytes.now ≤ 1048576 = omega arith in
    text_short c.args.bytes.now short
    ∙ ap text_of_scan (sym c.lines.invariant.0)
    ∙ ap text_of_scan (scan_last live_line 65536 c.lines.number c.lines.rest.now c.lines.draft c.in_default.ensures.line some)
    ∙ ap (λ k. Err (refused_at c.lines.number k)) (sym c.fault_of_unended_line.ensures)

few_workers : (workers : Option ℕ) (n : ℕ) → Some n ≡ workers → IsFew workers → (1 ≤ n) × (n ≤ 16)
few_workers (Some m) n e f = let same : n ≡ m = cc e in rw same f
few_workers None n e f = absurd (cc e)

finished : (r : Result LiveText TextFault) (workers : Option ℕ) → IfOk r (λ t. Some t.workers ≡ workers) → IsFew workers → IfOk r (λ t. (1 ≤ t.workers) × (t.workers ≤ 16))
finished (Ok t) workers e f = few_workers workers t.workers e f
finished (Err e) workers h f = tt

pub returns-clause-workers : goal.returns-clause-workers
returns-clause-workers c = finished c.finish.result c.lines.draft.workers c.finish.ensures.workers c.lines.invariant.2
