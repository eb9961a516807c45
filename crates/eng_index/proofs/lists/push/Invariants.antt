use Rattle.std.proofs.Common.{◌≡◌, ℕ, true, cond, take}
use Rattle.boki_model.specs.Live.{has_tag}
use Rattle.eng_index.specs.Lists.{seqs, with_last, IsReady}
use Rattle.eng_index.proofs.lists.push.Given as goal

abbrev pub invariant-loop-tag : goal.invariant-loop-tag
invariant-loop-tag l =
    ((t : ℕ) → seqs t l.lists ≡ cond (has_tag t (take l.tag-index l.tags)) (with_last l.seq (seqs t l.initial.lists)) (seqs t l.initial.lists))
    × ((t : ℕ) → has_tag t l.tags ≡ true → IsReady l.seq t l.lists)
