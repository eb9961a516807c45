-- The seqnums of a tag, from the oldest on, ascend.
use Rattle.std.proofs.Common.{ℕ, zero, suc, ◌-◌, ◌<◌, ◌≤◌, Bool, true, false, cond, List, [], ◌∷◌, length, reverse, get_or, sym, subst, arith}
use Rattle.std.specs.List.Sorted.{IsNonDecreasing}
use Rattle.std.proofs.lemmas.List.{length-reverse, get_or-reverse}
use Rattle.std.proofs.lemmas.List.Sorted.{IsNonDecreasingBy-push, IsNonDecreasingBy-short}
use mathlib.Core.List.{reverse-cons}
use Rattle.boki_model.specs.Live.{Live, has_tag}
use Rattle.boki_model.specs.Reads.{tagged_seqnums}
use Rattle.boki_model.specs.LogLaws.{FallBelow}

last_is_below :
    (ds : List ℕ) (n : ℕ) → ((k d : ℕ) → k < length ds → get_or ds k d < n) → (d : ℕ)
    → 0 < length (reverse ds) → get_or (reverse ds) (length (reverse ds) - 1) d ≤ n
last_is_below ds n below d lt =
    let e = get_or-reverse ds (length (reverse ds) - 1) d (omega (arith, length-reverse ds)) in
    omega (arith, e, below (length ds - 1 - (length (reverse ds) - 1)) d (omega (arith, length-reverse ds)))

module _ {A : Type 0} where
  tagged_below :
      (tag n : ℕ) (xs : List (Live A)) → FallBelow n xs → (k d : ℕ) → k < length (tagged_seqnums tag xs)
      → get_or (tagged_seqnums tag xs) k d < n
  tagged_below tag n [] fall k d lt = absurd (let h : ⊥ = omega arith in h)
  tagged_below tag n (x ∷ xs) fall k d lt = at (tagged_below tag x.seq xs fall.2) (has_tag tag x.tags) k lt
    where
      at :
          ((k d : ℕ) → k < length (tagged_seqnums tag xs) → get_or (tagged_seqnums tag xs) k d < x.seq) → (b : Bool) (k : ℕ)
          → k < length (cond b (x.seq ∷ tagged_seqnums tag xs) (tagged_seqnums tag xs))
          → get_or (cond b (x.seq ∷ tagged_seqnums tag xs) (tagged_seqnums tag xs)) k d < n
      at ih true zero lt = fall.1
      at ih true (suc k) lt = omega (arith, ih k d (omega arith), fall.1)
      at ih false k lt = omega (arith, ih k d lt, fall.1)

  pub ascends : (n tag : ℕ) (xs : List (Live A)) → FallBelow n xs → IsNonDecreasing (reverse (tagged_seqnums tag xs))
  ascends n tag [] fall = IsNonDecreasingBy-short (λ (y : ℕ). y) [] (omega arith)
  ascends n tag (x ∷ xs) fall = at (ascends x.seq tag xs fall.2) (has_tag tag x.tags)
    where
      at :
          IsNonDecreasing (reverse (tagged_seqnums tag xs)) → (b : Bool)
          → IsNonDecreasing (reverse (cond b (x.seq ∷ tagged_seqnums tag xs) (tagged_seqnums tag xs)))
      at ih true =
          subst IsNonDecreasing (sym (reverse-cons x.seq (tagged_seqnums tag xs)))
          (IsNonDecreasingBy-push (λ (y : ℕ). y) (reverse (tagged_seqnums tag xs)) x.seq ih (last_is_below (tagged_seqnums tag xs) x.seq (tagged_below tag x.seq xs fall.2)))
      at ih false = ih
