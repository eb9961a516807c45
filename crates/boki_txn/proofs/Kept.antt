-- The states that a cache keeps.
use Rattle.std.proofs.Common.{◌≡◌, ℕ, ◌-◌, ◌<◌, ◌≤◌, cond, nat_eq, List, [], ◌∷◌, ◌++◌, length, reverse, slice_index, get_or, Some, None, option_map, Result, Ok, Err, OnOk, OnErr, refl, sym, ap, subst, ◌∙◌, arith}
use Rattle.std.specs.Map.{lookup}
use Rattle.std.proofs.lemmas.Bool.{le-leb}
use Rattle.std.proofs.lemmas.List.{length-reverse}
use mathlib.Core.List.{reverse-cons}
use Rattle.lru.specs.LruCache.{LruCache, IsValid}
use Rattle.aux_cache.specs.Entries.{with_entry}
use Rattle.fold_cache.specs.Kept.{KeptState, with_state}
use Rattle.fold_cache.proofs.Kept.{looked_up, set_is_kept}
use Rattle.boki_txn.specs.Names.{StoredNames}
use Rattle.boki_txn.specs.TxnStates.{with_names, first_of}
use Rattle.boki_txn.specs.Walks.{kept_names, IsStart, IsBounded}

pub found_start : (cache : LruCache ℕ StoredNames) (seqs : List ℕ) (count : ℕ) (names : StoredNames) → 0 < count → count ≤ length seqs
    → lookup (nat_eq (slice_index seqs (count - 1))) cache.entries ≡ Some names → IsStart (kept_names cache) seqs (record { count = count; names = names })
found_start cache seqs count names some le is = record {
  all = le;
  none = λ zero. absurd (let f : ⊥ = omega arith in f);
  some = λ few. sym (looked_up (λ (names : StoredNames). names) (slice_index seqs (count - 1)) cache.entries) ∙ ap (option_map (λ (names : StoredNames). names)) is;
}

pub no_start : (states : List (KeptState StoredNames)) (seqs : List ℕ) → IsStart states seqs (record { count = 0; names = [] })
no_start states seqs = record {
  all = omega arith;
  none = λ zero. refl;
  some = λ few. absurd (let f : ⊥ = omega arith in f);
}

pub set_result : {A E : Type 0} (result : Result A E) (old new : LruCache ℕ StoredNames) (seq : ℕ) (state : StoredNames) → IsBounded old → IsValid nat_eq old → length state ≤ 4096
    → OnOk result (new ≡ with_entry seq state old) → OnOk result (kept_names new ≡ with_names seq state (kept_names old))
set_result (Ok a) old new seq state small valid few made =
    set_is_kept (λ (names : StoredNames). names) seq state old new valid small made
    ∙ sym (ap (λ t. cond t (with_state seq state (kept_names old)) (kept_names old)) (le-leb (length state) 4096 few))
set_result (Err e) old new seq state small valid few made = tt

pub small_result : {A E : Type 0} (result : Result A E) (old new : LruCache ℕ StoredNames) (seq : ℕ) (state : StoredNames) → IsBounded old
    → OnOk result (new ≡ with_entry seq state old) → OnErr result (new ≡ old) → IsBounded new
small_result (Ok a) old new seq state small made same = subst IsBounded (sym made) small
small_result (Err e) old new seq state small made same = subst IsBounded (sym same) small

-- the first of a list is the last of it reversed
last_of : (s : ℕ) (xs : List ℕ) → get_or (xs ++ s ∷ []) (length xs) 0 ≡ s
last_of s [] = refl
last_of s (x ∷ xs) = last_of s xs

pub first_none : (list seqs : List ℕ) → seqs ≡ reverse list → length seqs ≡ 0 → None ≡ first_of list
first_none [] seqs is zero = refl
first_none (s ∷ list) seqs is zero =
    let long = ap length is ∙ length-reverse (s ∷ list) in absurd (let f : ⊥ = omega arith in f)

pub first_some : (list seqs : List ℕ) → seqs ≡ reverse list → 0 < length seqs → Some (slice_index seqs (length seqs - 1)) ≡ first_of list
first_some [] seqs is some = let long = ap length is in absurd (let f : ⊥ = omega arith in f)
first_some (s ∷ list) seqs is some =
    let long = ap length is ∙ length-reverse (s ∷ list) in
    let other = length-reverse list in
    let e : length seqs - 1 ≡ length (reverse list) = omega arith in
    ap (λ l. Some (get_or l (length seqs - 1) 0)) (is ∙ reverse-cons s list)
    ∙ ap (λ n. Some (get_or (reverse list ++ s ∷ []) n 0)) e
    ∙ ap Some (last_of s (reverse list))
