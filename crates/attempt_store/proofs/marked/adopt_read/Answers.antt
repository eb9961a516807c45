use Rattle.std.proofs.Common.{◌≡◌, ◌∙◌, suc, ◌≤◌, [], ◌∷◌, ltb, length, refl, sym, ap, subst, arith, rules}
use Rattle.std.specs.Prelude.{zip}
use Rattle.lb_base.specs.declared.value.Value.{Value}
use Rattle.boki_types.specs.declared.line.StepLine.TheVariants as line
use Rattle.boki_types.specs.declared.operation.Answer.TheVariants as a
use Rattle.boki_model.specs.Writes.{read_fenced}
use Rattle.boki_machine.specs.Attempt.{adopts, answered_with}
use Rattle.boki_machine.specs.Step.{fenced_value, read_all}
use Rattle.book_api.specs.Books.{position}
use Rattle.step_log.specs.Sound.{live_bodies, view}
use Rattle.attempt_state.specs.Attempts.{AttemptStandsFor}
use Rattle.attempt_store.proofs.Results.{both_ok, on_err, adopts_script, adopts_same, adopts_progress}
use Rattle.attempt_store.proofs.MarkerMoves.{marker_gone, marker_read, marker_cut, marked_at, gone_is_low, value_is_high}
use Rattle.attempt_store.proofs.marked.adopt_read.Goals as goal

pub returns-in_err-clone-in-Value-clause-cut : goal.returns-in_err-clone-in-Value-clause-cut
returns-in_err-clone-in-Value-clause-cut c = on_err c.from_residual-in_err-clone-in-Value.result (λ m t are stands le.
    let at_most : c.args.seq.0 ≤ suc (position c.args.book.now t.engine) = omega (arith, le) in
    let is = marked_at c.args.book.now t c.args.state.now.progress c.in_ok-changed.changed c.args.seq.0 c.in_ok-changed.ensures stands.progress c.args.store.now c.read_marked.new.store c.args.key.now c.as_str.result.now c.in_ok-read_marked.field-0 c.as_str.ensures c.in_ok-read_marked.ensures.ok in
    marker_cut m (live_bodies c.args.book.now) c.args.seq.0 (c.args.key.now ∷ []) c.read_marked.new.store (is.after m are at_most))

pub returns-in-Gone-clause-ok : goal.returns-in-Gone-clause-ok
returns-in-Gone-clause-ok c = λ m t are stands script le.
    let at_most : c.args.seq.0 ≤ suc (position c.args.book.now t.engine) = omega (arith, le) in
    let is = marked_at c.args.book.now t c.args.state.now.progress c.in_ok-changed.changed c.args.seq.0 c.in_ok-changed.ensures stands.progress c.args.store.now c.read_marked.new.store c.args.key.now c.as_str.result.now c.in_ok-read_marked.field-0 c.as_str.ensures c.in_ok-read_marked.ensures.ok in
    let found = fenced_value (read_fenced c.args.key.now c.args.seq.0 m (view c.args.book.now t.engine)) in
    marker_gone c.args.program.now.functions t m (live_bodies c.args.book.now) c.args.seq.0 (c.args.key.now ∷ []) c.read_marked.new.store c.end.new.self _ (a.Value found) (line.AdoptRead c.args.seq c.args.key.now found)
    (gone_is_low (ltb c.args.seq.0 m.floor) found (sym c.in-Gone.is ∙ is.answer m are at_most)) (is.after m are at_most) refl (c.end.ensures c.args.program.now.functions t stands)

pub returns-in_ok-clone-in-Value-clause-ok : goal.returns-in_ok-clone-in-Value-clause-ok
returns-in_ok-clone-in-Value-clause-ok c =
    both_ok c.take_answer.result _ _ _ c.take_answer.ensures.line c.take_answer.ensures.after (λ told said after m t are stands script le.
    let at_most : c.args.seq.0 ≤ suc (position c.args.book.now t.engine) = omega (arith, le) in
    let is = marked_at c.args.book.now t c.args.state.now.progress c.in_ok-changed.changed c.args.seq.0 c.in_ok-changed.ensures stands.progress c.args.store.now c.read_marked.new.store c.args.key.now c.as_str.result.now c.in_ok-read_marked.field-0 c.as_str.ensures c.in_ok-read_marked.ensures.ok in
    let found = fenced_value (read_fenced c.args.key.now c.args.seq.0 m (view c.args.book.now t.engine)) in
    let high = value_is_high (ltb c.args.seq.0 m.floor) found c.in-Value.value (sym c.in-Value.is ∙ is.answer m are at_most) in
    let named : c.in_ok-name.name ≡ c.args.key.now = search rules in
    let copied : c.in_ok-clone-in-Value.field-0 ≡ c.in-Value.value = search rules in
    marker_read c.args.program.now.functions t m (live_bodies c.args.book.now) c.args.seq.0 (c.args.key.now ∷ []) c.read_marked.new.store c.take_answer.new.state told (a.Value found) (line.AdoptRead c.args.seq c.args.key.now found)
    high.0 (is.after m are at_most) (said ∙ (λ i. line.AdoptRead c.args.seq (named i) (high.1 i)))
    (subst (λ (v : Value). AttemptStandsFor c.args.program.now.functions (answered_with (adopts t c.args.seq.0) (a.Value v)) c.take_answer.new.state) (copied ∙ high.1)
    (after t (adopts t c.args.seq.0) stands script (adopts_same t c.args.seq.0) (adopts_script t c.args.seq.0 script) (adopts_progress t c.args.seq.0 c.args.state.now.progress c.in_ok-changed.changed c.in_ok-changed.ensures stands.progress))))

pub returns-in_ok-clone-in-Value-clause-cut : goal.returns-in_ok-clone-in-Value-clause-cut
returns-in_ok-clone-in-Value-clause-cut c = on_err c.take_answer.result (λ m t are stands le.
    let at_most : c.args.seq.0 ≤ suc (position c.args.book.now t.engine) = omega (arith, le) in
    let is = marked_at c.args.book.now t c.args.state.now.progress c.in_ok-changed.changed c.args.seq.0 c.in_ok-changed.ensures stands.progress c.args.store.now c.read_marked.new.store c.args.key.now c.as_str.result.now c.in_ok-read_marked.field-0 c.as_str.ensures c.in_ok-read_marked.ensures.ok in
    marker_cut m (live_bodies c.args.book.now) c.args.seq.0 (c.args.key.now ∷ []) c.read_marked.new.store (is.after m are at_most))
