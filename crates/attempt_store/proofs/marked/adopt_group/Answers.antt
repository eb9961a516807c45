use Rattle.std.proofs.Common.{◌≡◌, ◌∙◌, ℕ, List, suc, ◌≤◌, [], ◌∷◌, ltb, length, refl, sym, ap, subst, arith, rules}
use Rattle.std.specs.Prelude.{zip}
use Rattle.lb_base.specs.declared.value.Value.{Value}
use Rattle.boki_types.specs.declared.line.StepLine.TheVariants as line
use Rattle.boki_types.specs.declared.operation.Answer.TheVariants as a
use Rattle.boki_model.specs.Writes.{read_fenced}
use Rattle.boki_machine.specs.Attempt.{adopts, answered_with}
use Rattle.boki_machine.specs.Step.{fenced_value, read_all}
use Rattle.book_api.specs.Books.{position}
use Rattle.step_log.specs.Sound.{live_bodies, view}
use Rattle.attempt_state.specs.declared.progress.Progress.{Progress}
use Rattle.attempt_state.specs.Attempts.{AttemptStandsFor}
use Rattle.attempt_store.proofs.Results.{both_ok, on_err, adopts_script, adopts_same, adopts_progress, group_takes, as_many}
use Rattle.attempt_store.proofs.MarkerMoves.{marker_read, marker_cut, group_at, values_are_high}
use Rattle.attempt_store.proofs.marked.adopt_group.Goals as goal

pub take_answer-requires-clause-takes : goal.take_answer-requires-clause-takes
take_answer-requires-clause-takes c =
    let reads = c.requires.reads in
    let engine = c.args.state.now.progress.engine in
    let at_most : c.args.seq.0 ≤ suc (position c.args.book.now c.in_ok-changed.changed.engine) = (let e : c.in_ok-changed.changed.engine ≡ engine = ap (λ (p : Progress). p.engine) c.in_ok-changed.ensures in rw e (let le = reads.covered in omega (arith, le))) in
    let f = λ (key : List ℕ). read_fenced key c.args.seq.0 reads.store (view c.args.book.now c.in_ok-changed.changed.engine) in
    let high = values_are_high (ltb c.args.seq.0 reads.store.floor) (read_all f c.as_slice.result.now) c.in-Values.values (sym c.in-Values.is ∙ c.in_ok-read_group_marked.ensures.ok.answer reads.store reads.are at_most) in
    group_takes c.args.state.now.frame c.args.keys.now c.in-Values.values c.requires.asks (as_many f c.as_slice.result.now c.in-Values.values high.1 ∙ ap length c.as_slice.ensures)

pub returns-in_ok-pairs-in-Values-clause-ok : goal.returns-in_ok-pairs-in-Values-clause-ok
returns-in_ok-pairs-in-Values-clause-ok c =
    both_ok c.take_answer.result _ _ _ c.take_answer.ensures.line c.take_answer.ensures.after (λ told said after m t are stands script le.
    let at_most : c.args.seq.0 ≤ suc (position c.args.book.now t.engine) = omega (arith, le) in
    let is = group_at c.args.book.now t c.args.state.now.progress c.in_ok-changed.changed c.args.seq.0 c.in_ok-changed.ensures stands.progress c.args.store.now c.read_group_marked.new.store c.args.keys.now c.as_slice.result.now c.in_ok-read_group_marked.field-0 c.as_slice.ensures c.in_ok-read_group_marked.ensures.ok in
    let found = read_all (λ key. read_fenced key c.args.seq.0 m (view c.args.book.now t.engine)) c.args.keys.now in
    let high = values_are_high (ltb c.args.seq.0 m.floor) found c.in-Values.values (sym c.in-Values.is ∙ is.answer m are at_most) in
    let pairs : c.in_ok-pairs-in-Values.pairs ≡ zip c.args.keys.now c.in-Values.values = c.in_ok-pairs-in-Values.ensures ∙ (λ i. zip (c.as_slice-in-Values.ensures i) (c.as_slice-in-Values-2.ensures i)) in
    marker_read c.args.program.now.functions t m (live_bodies c.args.book.now) c.args.seq.0 c.args.keys.now c.read_group_marked.new.store c.take_answer.new.state told (a.Values found) (line.AdoptReadAll c.args.seq (zip c.args.keys.now found))
    high.0 (is.after m are at_most) (said ∙ ap (line.AdoptReadAll c.args.seq) (pairs ∙ ap (zip c.args.keys.now) high.1))
    (subst (λ (vs : List Value). AttemptStandsFor c.args.program.now.functions (answered_with (adopts t c.args.seq.0) (a.Values vs)) c.take_answer.new.state) high.1
    (after t (adopts t c.args.seq.0) stands script (adopts_same t c.args.seq.0) (adopts_script t c.args.seq.0 script) (adopts_progress t c.args.seq.0 c.args.state.now.progress c.in_ok-changed.changed c.in_ok-changed.ensures stands.progress))))

pub returns-in_ok-pairs-in-Values-clause-cut : goal.returns-in_ok-pairs-in-Values-clause-cut
returns-in_ok-pairs-in-Values-clause-cut c = on_err c.take_answer.result (λ m t are stands le.
    let at_most : c.args.seq.0 ≤ suc (position c.args.book.now t.engine) = omega (arith, le) in
    let is = group_at c.args.book.now t c.args.state.now.progress c.in_ok-changed.changed c.args.seq.0 c.in_ok-changed.ensures stands.progress c.args.store.now c.read_group_marked.new.store c.args.keys.now c.as_slice.result.now c.in_ok-read_group_marked.field-0 c.as_slice.ensures c.in_ok-read_group_marked.ensures.ok in
    marker_cut m (live_bodies c.args.book.now) c.args.seq.0 c.args.keys.now c.read_group_marked.new.store (is.after m are at_most))
