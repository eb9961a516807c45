use Rattle.std.proofs.Common.{◌≡◌, ℕ, true, take}
use Rattle.boki_model.specs.Live.{has_tag}
use Rattle.eng_index.specs.Lists.{seqs, HasRoom}
use Rattle.eng_index.proofs.lists.reserve.Given as goal

abbrev pub invariant-loop-tag : goal.invariant-loop-tag
invariant-loop-tag l = ((t : ℕ) → seqs t l.lists ≡ seqs t l.initial.lists) × ((t : ℕ) → has_tag t (take l.tag-index l.tags) ≡ true → HasRoom t l.lists)
