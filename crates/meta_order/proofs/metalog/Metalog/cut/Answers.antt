use Rattle.std.proofs.Common.{◌≡◌, ◌∙◌, ◌+◌, ◌-◌, ◌++◌, List, ℕ, length, bytes_eq, sum, sym, ap, ap₂, subst, rules}
use Rattle.boki_types.specs.declared.log.Cut.TheVariants as v
use Rattle.meta_order.specs.MetalogState.{MetalogState}
use Rattle.meta_order.specs.Rows.{row, metalog_of_rows, IsSound}
use Rattle.meta_order.proofs.Meaning.{cut_same, cut_entry, cut_sound}
use Rattle.meta_order.proofs.metalog.Metalog.cut.Goals as goal

pub returns-then-eq-clause-ok : goal.returns-then-eq-clause-ok
returns-then-eq-clause-ok c =
    let w = c.self.inside.shards in
    let counts = c.self.inside.counts.items in
    let ends = c.self.inside.ends.items in
    let last = c.row_of-last.ensures ∙ ap₂ (λ (l : List ℕ) (e : List ℕ). row w l (length e - 1)) c.as_slice-2.ensures.value c.as_slice.ensures.value in
    cut_same w counts ends c.self.invariant c.args.progress.now c.args.self.now c.self.view_is (c.requires.as_many ∙ ap (λ (m : MetalogState). m.shards) (sym c.self.view_is))
    (ap (λ l. bytes_eq l c.args.progress.now) (sym last) ∙ sym c.eq.ensures ∙ c.if-eq.true)

pub invariant_of-self-2 : goal.invariant_of-self-2
invariant_of-self-2 c =
    let w = c.self.inside.shards in
    let counts = c.self.inside.counts.items in
    let ends = c.self.inside.ends.items in
    let pushed = c.in_ok-push_row.ensures in
    let total : c.sum-end.result ≡ sum c.args.progress.now = search rules in
    subst (λ l. IsSound w l c.push_row.new.ends.items) (sym pushed.counts)
    (subst (IsSound w (counts ++ c.args.progress.now)) (sym pushed.ends)
    (cut_sound w counts ends c.self.invariant c.args.progress.now c.args.self.now c.sum-end.result c.self.view_is (c.requires.as_many ∙ ap (λ (m : MetalogState). m.shards) (sym c.self.view_is))
    c.requires.grown c.requires.few total))

pub returns-clause-ok : goal.returns-clause-ok
returns-clause-ok c =
    let w = c.self.inside.shards in
    let counts = c.self.inside.counts.items in
    let ends = c.self.inside.ends.items in
    let pushed = c.in_ok-push_row.ensures in
    let total : c.sum-end.result ≡ sum c.args.progress.now = search rules in
    let last = c.row_of-last.ensures ∙ ap₂ (λ (l : List ℕ) (e : List ℕ). row w l (length e - 1)) c.as_slice-2.ensures.value c.as_slice.ensures.value in
    let done = cut_entry w counts ends c.self.invariant c.args.progress.now c.args.self.now c.sum-end.result c.self.view_is (c.requires.as_many ∙ ap (λ (m : MetalogState). m.shards) (sym c.self.view_is))
    (ap (λ l. bytes_eq l c.args.progress.now) (sym last) ∙ sym c.eq.ensures ∙ c.if-eq.false) total in
    (ap (λ e. v.Entry (length e - 1 + 1)) c.as_slice.ensures.value ∙ done.0, ap₂ (metalog_of_rows w) pushed.counts pushed.ends ∙ done.1)
