use Rattle.std.proofs.Common.{◌≡◌, ◌∙◌, ℕ, List, ltb, length, refl, sym, ap, subst}
use Rattle.std.specs.Prelude.{zip}
use Rattle.boki_types.specs.declared.line.StepLine.TheVariants as line
use Rattle.boki_model.specs.Writes.{read_free}
use Rattle.boki_machine.specs.Step.{read_all}
use Rattle.step_log.specs.Sound.{view}
use Rattle.book_api.specs.Books.{next_sent}
use Rattle.attempt_store.proofs.Results.{both_ok, group_takes, as_many, same_script}
use Rattle.attempt_store.proofs.ReadMoves.{group_found, free_group_at}
use Rattle.attempt_store.proofs.MarkerMoves.{values_are_high}
use Rattle.attempt_store.proofs.reading.free_read_group.Goals as goal

pub take_answer-requires-clause-takes : goal.take_answer-requires-clause-takes
take_answer-requires-clause-takes c =
    let reads = c.requires.reads in
    let p = c.args.state.now.progress in
    let f = λ (key : List ℕ). read_free key p.cursor.0 reads.store (view c.args.book.now p.engine) in
    let high = values_are_high (ltb p.cursor.0 reads.store.floor) (read_all f c.as_slice.result.now) c.in-Values.values (sym c.in-Values.is ∙ c.in_ok-read_group_r.ensures.ok.answer reads.store reads.are reads.covered) in
    group_takes c.args.state.now.frame c.args.keys c.in-Values.values c.requires.asks (as_many f c.as_slice.result.now c.in-Values.values high.1 ∙ ap length c.as_slice.ensures)

pub returns-clause-ok : goal.returns-clause-ok
returns-clause-ok c =
    both_ok c.take_answer.result _ _ _ c.take_answer.ensures.line c.take_answer.ensures.after (λ told said after m t are stands script le.
    let is = free_group_at c.args.book.now c.args.store.now t c.args.state.now.progress c.args.keys c.as_slice.result.now c.in_ok-read_group_r.field-0 stands.progress c.as_slice.ensures c.in_ok-read_group_r.ensures.ok in
    let pairs : c.in_ok-pairs-in-Values.pairs ≡ zip c.args.keys c.in-Values.values = c.in_ok-pairs-in-Values.ensures ∙ (λ i. zip (c.as_slice-in-Values.ensures i) (c.as_slice-in-Values-2.ensures i)) in
    group_found c.args.program.now.functions t m (view c.args.book.now t.engine) (next_sent c.args.book.now t.engine) c.args.keys c.in-Values.values c.take_answer.new.state told
    (sym c.in-Values.is ∙ is.answer m are le) (said ∙ ap line.ReadAll pairs) (after t t stands script (same_script t) script stands.progress))
