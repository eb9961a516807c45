use Rattle.std.proofs.Common.{◌≡◌, ◌∙◌, suc, refl, sym, ap, arith}
use Rattle.boki_types.specs.declared.line.StepLine.TheVariants as line
use Rattle.boki_machine.specs.Attempt.{Attempt}
use Rattle.boki_machine.specs.Step.{seqnum}
use Rattle.attempt_state.specs.declared.progress.Progress.{Progress}
use Rattle.attempt_state.specs.Progresses.{progress_of}
use Rattle.attempt_store.proofs.Results.{both_ok, on_err, late_stands}
use Rattle.attempt_store.proofs.WriteMoves.{puts_at, put_gone, put_late, put_done, put_after}
use Rattle.attempt_store.proofs.writing.free_write.Goals as goal

pub returns-in-Gone-clause-ok : goal.returns-in-Gone-clause-ok
returns-in-Gone-clause-ok c = λ m records a kept stands script.
    let number : c.in-Some.number ≡ suc c.args.state.now.progress.free_writes = omega (arith, c.in-Some.ensures) in
    let is = puts_at a c.args.key c.as_str.result.now c.args.state.now.progress.cursor.0 c.in-Some.number c.args.value c.args.store.now c.put_w.new.store c.in_ok-put_w.field-0
    c.as_str.ensures (ap (λ (p : Progress). p.cursor.0) stands.progress) (number ∙ ap (λ (p : Progress). suc p.free_writes) stands.progress) c.in_ok-put_w.ensures.ok in
    put_gone c.args.program.now.functions a m records c.args.key c.args.value c.put_w.new.store c.end.new.self _ (sym c.in-Gone.is ∙ is.answer m records kept) (is.after m records kept) refl
    (c.end.ensures c.args.program.now.functions a stands)

pub returns-in-Late-clause-ok : goal.returns-in-Late-clause-ok
returns-in-Late-clause-ok c = λ m records a kept stands script.
    let number : c.in-Some.number ≡ suc c.args.state.now.progress.free_writes = omega (arith, c.in-Some.ensures) in
    let is = puts_at a c.args.key c.as_str.result.now c.args.state.now.progress.cursor.0 c.in-Some.number c.args.value c.args.store.now c.put_w.new.store c.in_ok-put_w.field-0
    c.as_str.ensures (ap (λ (p : Progress). p.cursor.0) stands.progress) (number ∙ ap (λ (p : Progress). suc p.free_writes) stands.progress) c.in_ok-put_w.ensures.ok in
    put_late c.args.program.now.functions a m records c.args.key c.args.value c.put_w.new.store _ _ (sym c.in-Late.is ∙ is.answer m records kept) (is.after m records kept) refl
    (late_stands c.args.program.now.functions a c.args.state.now stands)

pub returns-in-Done-clause-ok : goal.returns-in-Done-clause-ok
returns-in-Done-clause-ok c =
    both_ok c.take_answer.result _ _ _ c.take_answer.ensures.line c.take_answer.ensures.after (λ told said after m records a kept stands script.
    let number : c.in-Some.number ≡ suc c.args.state.now.progress.free_writes = omega (arith, c.in-Some.ensures) in
    let is = puts_at a c.args.key c.as_str.result.now c.args.state.now.progress.cursor.0 c.in-Some.number c.args.value c.args.store.now c.put_w.new.store c.in_ok-put_w.field-0
    c.as_str.ensures (ap (λ (p : Progress). p.cursor.0) stands.progress) (number ∙ ap (λ (p : Progress). suc p.free_writes) stands.progress) c.in_ok-put_w.ensures.ok in
    let cursor_is : c.args.state.now.progress.cursor ≡ seqnum a.cursor = ap (λ (p : Progress). p.cursor) stands.progress in
    let number_is : c.in-Some.number ≡ suc a.free_writes = number ∙ ap (λ (p : Progress). suc p.free_writes) stands.progress in
    let b : Attempt = record a { free_writes = suc a.free_writes } in
    let changed : record c.args.state.now.progress { free_writes = c.in-Some.number } ≡ progress_of b = (λ i. record (stands.progress i) { free_writes = number_is i }) in
    put_done c.args.program.now.functions a m records c.args.key c.args.value c.put_w.new.store c.take_answer.new.state told (sym c.in-Done.is ∙ is.answer m records kept) (is.after m records kept)
    (said ∙ (λ i. line.Put c.args.key c.args.value (cursor_is i) (number_is i)))
    (after a b stands script (record { path = refl; function = refl; args = refl; answers = refl }) (record { runs = script.runs; before = script.before; begun = script.begun }) changed))

pub returns-in-Done-clause-cut : goal.returns-in-Done-clause-cut
returns-in-Done-clause-cut c = on_err c.take_answer.result (λ m records a kept stands.
    let number : c.in-Some.number ≡ suc c.args.state.now.progress.free_writes = omega (arith, c.in-Some.ensures) in
    let is = puts_at a c.args.key c.as_str.result.now c.args.state.now.progress.cursor.0 c.in-Some.number c.args.value c.args.store.now c.put_w.new.store c.in_ok-put_w.field-0
    c.as_str.ensures (ap (λ (p : Progress). p.cursor.0) stands.progress) (number ∙ ap (λ (p : Progress). suc p.free_writes) stands.progress) c.in_ok-put_w.ensures.ok in
    put_after c.args.program.now.functions a m records c.args.key c.args.value c.put_w.new.store c.args.state.now line.StoppedGone (sym c.in-Done.is ∙ is.answer m records kept) (is.after m records kept))
