-- A walk from the newest record of a tag down to one behind which a state is kept.
use Rattle.std.proofs.Common.{◌≡◌, ℕ, suc, ◌+◌, ◌-◌, ◌<◌, ◌≤◌, false, cond, List, [], ◌∷◌, length, take, reverse, slice_index, get_or, ap, ◌∙◌, arith}
use Rattle.std.proofs.lemmas.List.{take_more, take_all, reverse-append}
use Rattle.fold_cache.specs.Kept.{KeptState, state_at}
use Rattle.boki_queue.specs.QueueStates.{QueueState, has_state, unkept_count}

module _ (kept : List (KeptState QueueState)) (queue : List ℕ) (seqs : List ℕ) where
  abbrev unkept : ℕ → ℕ
  unkept count = unkept_count kept queue (reverse (take count seqs))

  reversed : (count : ℕ) → 0 < count → count ≤ length seqs → reverse (take count seqs) ≡ slice_index seqs (count - 1) ∷ reverse (take (count - 1) seqs)
  reversed count some le =
      ap (λ n. reverse (take n seqs)) (let e : count ≡ count - 1 + 1 = omega arith in e)
      ∙ ap reverse (take_more seqs (count - 1) 0 (omega arith))
      ∙ reverse-append (take (count - 1) seqs) (get_or seqs (count - 1) 0 ∷ [])

  pub walk_on : (count : ℕ) → 0 < count → count ≤ length seqs → has_state queue (state_at (slice_index seqs (count - 1)) kept) ≡ false → unkept count ≡ suc (unkept (count - 1))
  walk_on count some le is =
      ap (unkept_count kept queue) (reversed count some le) ∙ ap (λ t. cond t 0 (suc (unkept (count - 1)))) is

-- A walk down to so many records, with the steps before it and now.
pub record HasWalked (states : List (KeptState QueueState)) (name : List ℕ) (seqs : List ℕ) (count before now : ℕ) : Type 0 where
  pub all : count ≤ length seqs
  pub steps : now + unkept states name seqs count ≡ before + unkept_count states name (reverse seqs)

pub none_walked : (states : List (KeptState QueueState)) (name : List ℕ) (seqs : List ℕ) (steps : ℕ) → HasWalked states name seqs (length seqs) steps steps
none_walked states name seqs steps = record {
  all = omega arith;
  steps = ap (λ l. steps + unkept_count states name (reverse l)) (take_all (length seqs) seqs (omega arith));
}

pub one_walked : (states : List (KeptState QueueState)) (name : List ℕ) (seqs : List ℕ) (count before now : ℕ) → HasWalked states name seqs count before now
    → 0 < count → has_state name (state_at (slice_index seqs (count - 1)) states) ≡ false → HasWalked states name seqs (count - 1) before (now + 1)
one_walked states name seqs count before now is some none =
    let all = is.all in
    let steps = is.steps in
    let on = walk_on states name seqs count some is.all none in
    record { all = omega arith; steps = omega arith }

pub walk_cost : (states : List (KeptState QueueState)) (name : List ℕ) (seqs : List ℕ) (count before now : ℕ) → HasWalked states name seqs count before now
    → now ≤ before + unkept_count states name (reverse seqs)
walk_cost states name seqs count before now is = let steps = is.steps in omega arith
