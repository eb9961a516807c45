use Rattle.std.proofs.Common.{◌≡◌, ℕ, suc, true, false, cond, [], ◌∷◌, ◌++◌, length, sym, ap, ◌∙◌, arith}
use Rattle.std.proofs.lemmas.List.{length_push}
use Rattle.boki_model.specs.Live.{entry_of, has_tag}
use Rattle.eng_index.specs.Lists.{seqs, with_last}
use Rattle.eng_index.specs.IndexState.{seqnums_of}
use Rattle.eng_index.proofs.Maps.{list_seen}
use Rattle.eng_index.proofs.Added.{met_shown, added_shown, on_err}
use Rattle.eng_index.proofs.Index.add.Goals as goal

pub returns-in_err-reserve-2-clause-err : goal.returns-in_err-reserve-2-clause-err
returns-in_err-reserve-2-clause-err c = on_err c.from_residual-in_err-reserve-2.result (record {
  lists = λ t. list_seen t c.reserve-2.new.lists.entries ∙ c.reserve-2.ensures.same t ∙ sym (list_seen t c.self.inside.lists.entries) ∙ ap (seqnums_of t) c.self.view_is;
  marks = c.reserve.ensures.items ∙ ap (λ k. k.marks) c.self.view_is;
})

pub returns-then-not-is_met-clause-ok : goal.returns-then-not-is_met-clause-ok
returns-then-not-is_met-clause-ok c = λ log shows.
    let same : (t : ℕ) → seqs t c.self.inside.lists ≡ seqnums_of t c.args.self.now = λ t. sym (list_seen t c.self.inside.lists.entries) ∙ ap (seqnums_of t) c.self.view_is in
    let met = met_shown log c.args.self.now shows c.self.inside.lists same c.args.rec.now.cond in
    added_shown log c.args.self.now shows (entry_of c.args.rec.now) _ false
    (sym c.if-not-is_met.true ∙ c.is_met.ensures ∙ met)
    (c.push_reserved.ensures.items ∙ ap (λ l. l ++ false ∷ []) (c.reserve.ensures.items ∙ ap (λ k. k.marks) c.self.view_is))
    (λ t. ap (seqnums_of t) c.self.view_is)

pub returns-clause-ok : goal.returns-clause-ok
returns-clause-ok c = λ log shows.
    let old = c.args.self.now in
    let tags = c.args.rec.now.tags in
    let same : (t : ℕ) → seqs t c.self.inside.lists ≡ seqnums_of t c.args.self.now = λ t. sym (list_seen t c.self.inside.lists.entries) ∙ ap (seqnums_of t) c.self.view_is in
    let met = met_shown log old shows c.self.inside.lists same c.args.rec.now.cond in
    let marks = c.push_reserved-2.ensures.items ∙ ap (λ l. l ++ true ∷ []) (c.reserve.ensures.items ∙ ap (λ k. k.marks) c.self.view_is) in
    let count : c.len.result ≡ suc (length old.marks) = omega (arith, c.len.ensures, c.push_reserved-2.new.self.ok.0, ap length marks, length_push old.marks true) in
    added_shown log old shows (entry_of c.args.rec.now) _ true
    (sym c.if-not-is_met.false ∙ c.is_met.ensures ∙ met)
    marks
    (λ t.
    list_seen t c.push.new.lists.entries
    ∙ c.push.ensures t
    ∙ ap (λ ts. cond (has_tag t ts) (with_last c.len.result (seqs t c.reserve-2.new.lists)) (seqs t c.reserve-2.new.lists)) c.as_slice-tags.ensures
    ∙ ap (λ n. cond (has_tag t tags) (with_last n (seqs t c.reserve-2.new.lists)) (seqs t c.reserve-2.new.lists)) count
    ∙ ap (λ l. cond (has_tag t tags) (with_last (suc (length old.marks)) l) l) (c.reserve-2.ensures.same t ∙ same t))
