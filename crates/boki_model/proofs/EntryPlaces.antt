-- The places of an entry, and of the whole order.
use Rattle.std.proofs.Common.{◌≡◌, ◌⊎◌, inl, inr, ℕ, zero, suc, ◌+◌, ◌-◌, ◌<◌, ◌≤◌, Bool, true, false, cond, leb, List, [], ◌∷◌, ◌++◌, length, reverse, Some, None, refl, sym, ap, ◌∙◌, arith}
use Rattle.std.proofs.lemmas.Bool.{leb-true, leb-false, cases_lt}
use Rattle.std.proofs.lemmas.List.{length-append, length-reverse}
use Rattle.boki_model.specs.Order.{first_count, other_counts, records_between, entry_records, last_vector, locations_from, locations, ordered_locations, at_seq, seq_in, seq_of, locate}
use Rattle.boki_model.specs.OrderLaws.{AreAtMost, CountsGrow, ShardsHave}
use Rattle.boki_model.specs.Entries.{count_at, entry_size, location_in_entry, rank_in_entry}
use Rattle.boki_model.proofs.Orders.{have_less, Fit, fit, length-places_from, have_places}
use Rattle.boki_model.proofs.Places.{at_seq_low, at_seq_high, seq_in_miss, seq_in_hit, length-between, between_places, at_seq_places, seq_places_other, seq_places_low, seq_places_high, seq_places_in}

module _ {A : Type 0} where
  -- what a shard adds, the newest first
  abbrev part : ℕ → ℕ → ℕ → List A → List (ℕ × ℕ)
  part o n x s = reverse (records_between o n (locations_from x 0 s))

  part_is : (o n x : ℕ) (s : List A) → part o n x s ≡ reverse (locations_from x o (records_between o n s))
  part_is o n x s = ap reverse (between_places o n x s)

  length-part : (o n x : ℕ) (s : List A) → n ≤ length s → length (part o n x s) ≡ n - o
  length-part o n x s le = length-reverse (records_between o n (locations_from x 0 s)) ∙ length-between o n (locations_from x 0 s) (omega (arith, length-places_from x 0 s))

  at_seq_part : (q o n x : ℕ) (s : List A) → n ≤ length s → 0 < q → q ≤ n - o → at_seq q (part o n x s) ≡ Some (x, o + q)
  at_seq_part q o n x s le lt most = ap (at_seq q) (part_is o n x s) ∙ at_seq_places q x o (records_between o n s) lt (omega (arith, length-between o n s le))

  seq_in_part : (l o n x : ℕ) (s : List A) → n ≤ length s → o < l → l ≤ n → seq_in x l (part o n x s) ≡ Some (l - o)
  seq_in_part l o n x s le lt most = ap (seq_in x l) (part_is o n x s) ∙ seq_places_in l x o (records_between o n s) lt (omega (arith, length-between o n s le))

  seq_not_part : (l o n x : ℕ) (s : List A) → o ≤ n → n ≤ length s → (l ≤ o) ⊎ (n < l) → seq_in x l (part o n x s) ≡ None
  seq_not_part l o n x s lo le (inl h) = ap (seq_in x l) (part_is o n x s) ∙ seq_places_low l x o (records_between o n s) h
  seq_not_part l o n x s lo le (inr h) = ap (seq_in x l) (part_is o n x s) ∙ seq_places_high l x o (records_between o n s) (omega (arith, length-between o n s le))

  seq_other_part : (y l o n x : ℕ) (s : List A) → (y ≡ x → ⊥) → seq_in y l (part o n x s) ≡ None
  seq_other_part y l o n x s ne = ap (seq_in y l) (part_is o n x s) ∙ seq_places_other y l x o (records_between o n s) ne

  -- An entry.

  pub length-added : (shards : List (List A)) (old new : List ℕ) → Fit shards old new → length (entry_records shards old new) ≡ entry_size (length shards) old new
  length-added [] old new h = refl
  length-added (s ∷ ss) old new h =
      let ih = length-added ss (other_counts old) (other_counts new) h.2 in
      let e = length-append (entry_records ss (other_counts old) (other_counts new)) (reverse (records_between (first_count old) (first_count new) s)) in
      let f = length-reverse (records_between (first_count old) (first_count new) s) in
      let g = length-between (first_count old) (first_count new) s h.1 in
      omega arith

  pub at_seq_added : (k q : ℕ) (shards : List (List A)) (old new : List ℕ) → Fit shards old new → 0 < q → at_seq q (entry_records (locations k shards) old new) ≡ location_in_entry (length shards) k q old new
  at_seq_added k q [] old new h lt = refl
  at_seq_added k q (s ∷ ss) old new h lt = at (at_seq_added (suc k) (q - (first_count new - first_count old)) ss (other_counts old) (other_counts new) h.2) (leb q (first_count new - first_count old)) refl
    where
      size : length (part (first_count old) (first_count new) (suc k) s) ≡ first_count new - first_count old
      size = length-part (first_count old) (first_count new) (suc k) s h.1

      at : (0 < q - (first_count new - first_count old) → at_seq (q - (first_count new - first_count old)) (entry_records (locations (suc k) ss) (other_counts old) (other_counts new)) ≡ location_in_entry (length ss) (suc k) (q - (first_count new - first_count old)) (other_counts old) (other_counts new))
          → (t : Bool) → leb q (first_count new - first_count old) ≡ t
          → at_seq q (entry_records (locations (suc k) ss) (other_counts old) (other_counts new) ++ part (first_count old) (first_count new) (suc k) s)
          ≡ cond t (Some (suc k, first_count old + q)) (location_in_entry (length ss) (suc k) (q - (first_count new - first_count old)) (other_counts old) (other_counts new))
      at ih true e =
          at_seq_low q (entry_records (locations (suc k) ss) (other_counts old) (other_counts new)) (part (first_count old) (first_count new) (suc k) s) (omega (arith, size, leb-true q (first_count new - first_count old) e))
          ∙ at_seq_part q (first_count old) (first_count new) (suc k) s h.1 lt (leb-true q (first_count new - first_count old) e)
      at ih false e =
          at_seq_high q (entry_records (locations (suc k) ss) (other_counts old) (other_counts new)) (part (first_count old) (first_count new) (suc k) s) (omega (arith, size, leb-false q (first_count new - first_count old) e))
          ∙ ap (λ n. at_seq (q - n) (entry_records (locations (suc k) ss) (other_counts old) (other_counts new))) size
          ∙ ih (omega (arith, leb-false q (first_count new - first_count old) e))

  -- shards before the first have nothing in it
  seq_before_added : (x l k : ℕ) (shards : List (List A)) (old new : List ℕ) → x ≤ k → seq_in x l (entry_records (locations k shards) old new) ≡ None
  seq_before_added x l k [] old new le = refl
  seq_before_added x l k (s ∷ ss) old new le =
      seq_in_miss x l (entry_records (locations (suc k) ss) (other_counts old) (other_counts new)) (part (first_count old) (first_count new) (suc k) s)
      (seq_before_added x l (suc k) ss (other_counts old) (other_counts new) (omega arith))
      ∙ seq_other_part x l (first_count old) (first_count new) (suc k) s (λ e. omega arith)

  pub seq_in_added : (k i l : ℕ) (shards : List (List A)) (old new : List ℕ) → Fit shards old new → i < length shards → count_at i old < l → l ≤ count_at i new
      → seq_in (suc (k + i)) l (entry_records (locations k shards) old new) ≡ Some (rank_in_entry i l old new)
  seq_in_added k i l [] old new h within lt le = absurd (let h : ⊥ = omega arith in h)
  seq_in_added k zero l (s ∷ ss) old new h within lt le =
      seq_in_miss (suc (k + 0)) l (entry_records (locations (suc k) ss) (other_counts old) (other_counts new)) (part (first_count old) (first_count new) (suc k) s)
      (seq_before_added (suc (k + 0)) l (suc k) ss (other_counts old) (other_counts new) (omega arith))
      ∙ ap (λ n. seq_in (suc n) l (part (first_count old) (first_count new) (suc k) s)) (let e : k + 0 ≡ k = omega arith in e)
      ∙ seq_in_part l (first_count old) (first_count new) (suc k) s h.1 lt le
  seq_in_added k (suc i) l (s ∷ ss) old new h within lt le =
      seq_in_hit (suc (k + suc i)) l (rank_in_entry i l (other_counts old) (other_counts new)) (entry_records (locations (suc k) ss) (other_counts old) (other_counts new)) (part (first_count old) (first_count new) (suc k) s)
      (ap (λ n. seq_in (suc n) l (entry_records (locations (suc k) ss) (other_counts old) (other_counts new))) (let e : k + suc i ≡ suc k + i = omega arith in e)
      ∙ seq_in_added (suc k) i l ss (other_counts old) (other_counts new) h.2 (omega arith) lt le)
      ∙ ap Some (let e : rank_in_entry i l (other_counts old) (other_counts new) + length (part (first_count old) (first_count new) (suc k) s) ≡ (first_count new - first_count old) + rank_in_entry i l (other_counts old) (other_counts new)
      = omega (arith, length-part (first_count old) (first_count new) (suc k) s h.1) in e)

  pub seq_not_added : (k i l : ℕ) (shards : List (List A)) (old new : List ℕ) → Fit shards old new → (l ≤ count_at i old) ⊎ (count_at i new < l) → seq_in (suc (k + i)) l (entry_records (locations k shards) old new) ≡ None
  seq_not_added k i l [] old new h out = refl
  seq_not_added k zero l (s ∷ ss) old new h out =
      seq_in_miss (suc (k + 0)) l (entry_records (locations (suc k) ss) (other_counts old) (other_counts new)) (part (first_count old) (first_count new) (suc k) s)
      (seq_before_added (suc (k + 0)) l (suc k) ss (other_counts old) (other_counts new) (omega arith))
      ∙ ap (λ n. seq_in (suc n) l (part (first_count old) (first_count new) (suc k) s)) (let e : k + 0 ≡ k = omega arith in e)
      ∙ seq_not_part l (first_count old) (first_count new) (suc k) s h.0 h.1 out
  seq_not_added k (suc i) l (s ∷ ss) old new h out =
      seq_in_miss (suc (k + suc i)) l (entry_records (locations (suc k) ss) (other_counts old) (other_counts new)) (part (first_count old) (first_count new) (suc k) s)
      (ap (λ n. seq_in (suc n) l (entry_records (locations (suc k) ss) (other_counts old) (other_counts new))) (let e : k + suc i ≡ suc k + i = omega arith in e)
      ∙ seq_not_added (suc k) i l ss (other_counts old) (other_counts new) h.2 out)
      ∙ seq_other_part (suc (k + suc i)) l (first_count old) (first_count new) (suc k) s (λ e. omega arith)

  -- a shard that there is not has nothing in it
  pub seq_past_added : (k i l : ℕ) (shards : List (List A)) (old new : List ℕ) → length shards ≤ i → seq_in (suc (k + i)) l (entry_records (locations k shards) old new) ≡ None
  seq_past_added k i l [] old new le = refl
  seq_past_added k zero l (s ∷ ss) old new le = absurd (let h : ⊥ = omega arith in h)
  seq_past_added k (suc i) l (s ∷ ss) old new le =
      seq_in_miss (suc (k + suc i)) l (entry_records (locations (suc k) ss) (other_counts old) (other_counts new)) (part (first_count old) (first_count new) (suc k) s)
      (ap (λ n. seq_in (suc n) l (entry_records (locations (suc k) ss) (other_counts old) (other_counts new))) (let e : k + suc i ≡ suc k + i = omega arith in e)
      ∙ seq_past_added (suc k) i l ss (other_counts old) (other_counts new) (omega arith))
      ∙ seq_other_part (suc (k + suc i)) l (first_count old) (first_count new) (suc k) s (λ e. omega arith)

-- what a place of an entry is
pub record IsPlaced (w k q : ℕ) (old new : List ℕ) (x l : ℕ) : Type 0 where
  pub i : ℕ
  pub shard : x ≡ suc (k + i)
  pub within : i < w
  pub above : count_at i old < l
  pub upto : l ≤ count_at i new
  pub number : rank_in_entry i l old new ≡ q

pub placed : (w k q : ℕ) (old new : List ℕ) (x l : ℕ) → 0 < q → location_in_entry w k q old new ≡ Some (x, l) → IsPlaced w k q old new x l
placed zero k q old new x l lt e = cc
placed (suc w) k q old new x l lt e = at (placed w (suc k) (q - (first_count new - first_count old)) (other_counts old) (other_counts new) x l) (leb q (first_count new - first_count old)) refl e
  where
    one : (p r : ℕ × ℕ) → Some p ≡ Some r → p.0 ≡ r.0
    one p r e = cc

    two : (p r : ℕ × ℕ) → Some p ≡ Some r → p.1 ≡ r.1
    two p r e = cc

    at : (0 < q - (first_count new - first_count old) → location_in_entry w (suc k) (q - (first_count new - first_count old)) (other_counts old) (other_counts new) ≡ Some (x, l) → IsPlaced w (suc k) (q - (first_count new - first_count old)) (other_counts old) (other_counts new) x l)
        → (t : Bool) → leb q (first_count new - first_count old) ≡ t
        → cond t (Some (suc k, first_count old + q)) (location_in_entry w (suc k) (q - (first_count new - first_count old)) (other_counts old) (other_counts new)) ≡ Some (x, l)
        → IsPlaced (suc w) k q old new x l
    at ih true f e =
        let le = leb-true q (first_count new - first_count old) f in
        let is = two (suc k, first_count old + q) (x, l) e in
        record {
          i = 0;
          shard = omega (arith, one (suc k, first_count old + q) (x, l) e);
          within = omega arith;
          above = omega arith;
          upto = omega arith;
          number = omega arith;
        }
    at ih false f e =
        let gt = leb-false q (first_count new - first_count old) f in
        let p = ih (omega arith) e in
        record {
          i = suc p.i;
          shard = omega (arith, p.shard);
          within = omega (arith, p.within);
          above = p.above;
          upto = p.upto;
          number = omega (arith, p.number);
        }

-- The whole order.

pub count_most : (i : ℕ) (old new : List ℕ) → AreAtMost old new → count_at i old ≤ count_at i new
count_most zero [] new h = omega arith
count_most zero (n ∷ ns) new h = h.0
count_most (suc i) [] new h = count_most i [] (other_counts new) tt
count_most (suc i) (n ∷ ns) new h = count_most i ns (other_counts new) h.1

pub length-places : {A : Type 0} (k : ℕ) (shards : List (List A)) → length (locations k shards) ≡ length shards
length-places k [] = refl
length-places k (s ∷ ss) = ap suc (length-places (suc k) ss)

module _ {A : Type 0} (shards : List (List A)) where
  -- what is not counted has no seqnum
  pub seq_not_counted : (i l : ℕ) (vectors : List (List ℕ)) → CountsGrow vectors → ShardsHave shards (last_vector vectors) → (l ≡ 0) ⊎ (count_at i (last_vector vectors) < l) → seq_of (suc i) l shards vectors ≡ None
  seq_not_counted i l [] grow have out = refl
  seq_not_counted i l (v ∷ vs) grow have out =
      seq_in_miss (suc i) l (entry_records (locations 0 shards) (last_vector vs) v) (ordered_locations shards vs)
      (ap (λ n. seq_in (suc n) l (entry_records (locations 0 shards) (last_vector vs) v)) (let e : i ≡ 0 + i = omega arith in e)
      ∙ seq_not_added 0 i l shards (last_vector vs) v (fit shards (last_vector vs) v grow.0 have) (either out))
      ∙ seq_not_counted i l vs grow.1 (have_less shards (last_vector vs) v grow.0 have) (before out)
    where
      either : (l ≡ 0) ⊎ (count_at i v < l) → (l ≤ count_at i (last_vector vs)) ⊎ (count_at i v < l)
      either (inl e) = inl (omega arith)
      either (inr h) = inr h

      before : (l ≡ 0) ⊎ (count_at i v < l) → (l ≡ 0) ⊎ (count_at i (last_vector vs) < l)
      before (inl e) = inl e
      before (inr h) = inr (omega (arith, count_most i (last_vector vs) v grow.0))

  -- a place that is counted is not added again
  seq_counted : (i l q : ℕ) (vectors : List (List ℕ)) → CountsGrow vectors → ShardsHave shards (last_vector vectors) → seq_of (suc i) l shards vectors ≡ Some q → l ≤ count_at i (last_vector vectors)
  seq_counted i l q vectors grow have is = at (cases_lt (count_at i (last_vector vectors)) l)
    where
      none_some : None ≡ Some q → ⊥
      none_some e = cc

      at : (count_at i (last_vector vectors) < l) ⊎ (l ≤ count_at i (last_vector vectors)) → l ≤ count_at i (last_vector vectors)
      at (inl h) = absurd (none_some (sym (seq_not_counted i l vectors grow have (inr h)) ∙ is))
      at (inr h) = h

  -- each place in the order is of a shard, from 1
  pub seq_not_zero : (l : ℕ) (vectors : List (List ℕ)) → seq_of 0 l shards vectors ≡ None
  seq_not_zero l [] = refl
  seq_not_zero l (v ∷ vs) = seq_in_miss 0 l (entry_records (locations 0 shards) (last_vector vs) v) (ordered_locations shards vs) (seq_before_added 0 l 0 shards (last_vector vs) v (omega arith)) ∙ seq_not_zero l vs

  pub length_ordered : (v : List ℕ) (vs : List (List ℕ)) → CountsGrow (v ∷ vs) → ShardsHave shards v → length (ordered_locations shards (v ∷ vs)) ≡ entry_size (length shards) (last_vector vs) v + length (ordered_locations shards vs)
  length_ordered v vs grow have =
      length-append (entry_records (locations 0 shards) (last_vector vs) v) (ordered_locations shards vs)
      ∙ ap (λ n. n + length (ordered_locations shards vs))
      (length-added (locations 0 shards) (last_vector vs) v (fit (locations 0 shards) (last_vector vs) v grow.0 (have_places 0 shards v have))
      ∙ ap (λ n. entry_size n (last_vector vs) v) (length-places 0 shards))

  -- where a seqnum of the newest entry, or of an earlier one, stands
  pub locate_new : (q : ℕ) (v : List ℕ) (vs : List (List ℕ)) → CountsGrow (v ∷ vs) → ShardsHave shards v → length (ordered_locations shards vs) < q
      → locate q shards (v ∷ vs) ≡ location_in_entry (length shards) 0 (q - length (ordered_locations shards vs)) (last_vector vs) v
  locate_new q v vs grow have lt =
      at_seq_high q (entry_records (locations 0 shards) (last_vector vs) v) (ordered_locations shards vs) lt
      ∙ at_seq_added 0 (q - length (ordered_locations shards vs)) shards (last_vector vs) v (fit shards (last_vector vs) v grow.0 have) (omega arith)

  pub locate_old : (q : ℕ) (v : List ℕ) (vs : List (List ℕ)) → q ≤ length (ordered_locations shards vs) → locate q shards (v ∷ vs) ≡ locate q shards vs
  locate_old q v vs le = at_seq_low q (entry_records (locations 0 shards) (last_vector vs) v) (ordered_locations shards vs) le

  -- the seqnum of a place of the newest entry, or of an earlier one
  pub seq_of_new : (i l : ℕ) (v : List ℕ) (vs : List (List ℕ)) → CountsGrow (v ∷ vs) → ShardsHave shards v → i < length shards → count_at i (last_vector vs) < l → l ≤ count_at i v
      → seq_of (suc i) l shards (v ∷ vs) ≡ Some (rank_in_entry i l (last_vector vs) v + length (ordered_locations shards vs))
  seq_of_new i l v vs grow have within lt le =
      seq_in_hit (suc i) l (rank_in_entry i l (last_vector vs) v) (entry_records (locations 0 shards) (last_vector vs) v) (ordered_locations shards vs)
      (ap (λ n. seq_in (suc n) l (entry_records (locations 0 shards) (last_vector vs) v)) (let e : i ≡ 0 + i = omega arith in e)
      ∙ seq_in_added 0 i l shards (last_vector vs) v (fit shards (last_vector vs) v grow.0 have) within lt le)

  pub seq_of_old : (i l : ℕ) (v : List ℕ) (vs : List (List ℕ)) → CountsGrow (v ∷ vs) → ShardsHave shards v → l ≤ count_at i (last_vector vs) → seq_of (suc i) l shards (v ∷ vs) ≡ seq_of (suc i) l shards vs
  seq_of_old i l v vs grow have le =
      seq_in_miss (suc i) l (entry_records (locations 0 shards) (last_vector vs) v) (ordered_locations shards vs)
      (ap (λ n. seq_in (suc n) l (entry_records (locations 0 shards) (last_vector vs) v)) (let e : i ≡ 0 + i = omega arith in e)
      ∙ seq_not_added 0 i l shards (last_vector vs) v (fit shards (last_vector vs) v grow.0 have) (inl le))

  pub seq_of_no_shard : (i l : ℕ) (vectors : List (List ℕ)) → length shards ≤ i → seq_of (suc i) l shards vectors ≡ None
  seq_of_no_shard i l [] le = refl
  seq_of_no_shard i l (v ∷ vs) le =
      seq_in_miss (suc i) l (entry_records (locations 0 shards) (last_vector vs) v) (ordered_locations shards vs)
      (ap (λ n. seq_in (suc n) l (entry_records (locations 0 shards) (last_vector vs) v)) (let e : i ≡ 0 + i = omega arith in e) ∙ seq_past_added 0 i l shards (last_vector vs) v le)
      ∙ seq_of_no_shard i l vs le

  pub numbered : (x l q : ℕ) (vectors : List (List ℕ)) → CountsGrow vectors → ShardsHave shards (last_vector vectors) → locate q shards vectors ≡ Some (x, l) → seq_of x l shards vectors ≡ Some q
  numbered x l q [] grow have is = cc
  numbered x l q (v ∷ vs) grow have is = at (numbered x l q vs grow.1 less) (cases_lt (length (ordered_locations shards vs)) q)
    where
      less : ShardsHave shards (last_vector vs)
      less = have_less shards (last_vector vs) v grow.0 have

      old : seq_of x l shards vs ≡ Some q → (y : ℕ) → x ≡ y → seq_of x l shards (v ∷ vs) ≡ Some q
      old e zero z = absurd (let none_some : None ≡ Some q → ⊥ = λ f. cc in none_some (sym (seq_not_zero l vs) ∙ ap (λ n. seq_of n l shards vs) (sym z) ∙ e))
      old e (suc i) z =
          let f = ap (λ n. seq_of n l shards vs) (sym z) ∙ e in
          ap (λ n. seq_of n l shards (v ∷ vs)) z ∙ seq_of_old i l v vs grow have (seq_counted i l q vs grow.1 less f) ∙ f

      new : length (ordered_locations shards vs) < q → IsPlaced (length shards) 0 (q - length (ordered_locations shards vs)) (last_vector vs) v x l → seq_of x l shards (v ∷ vs) ≡ Some q
      new lt p =
          ap (λ n. seq_of n l shards (v ∷ vs)) (p.shard ∙ (let e : suc (0 + p.i) ≡ suc p.i = omega arith in e))
          ∙ seq_of_new p.i l v vs grow have p.within p.above p.upto
          ∙ ap Some (let e : rank_in_entry p.i l (last_vector vs) v + length (ordered_locations shards vs) ≡ q = omega (arith, p.number) in e)

      at : (locate q shards vs ≡ Some (x, l) → seq_of x l shards vs ≡ Some q) → (length (ordered_locations shards vs) < q) ⊎ (q ≤ length (ordered_locations shards vs)) → seq_of x l shards (v ∷ vs) ≡ Some q
      at ih (inl lt) = new lt (placed (length shards) 0 (q - length (ordered_locations shards vs)) (last_vector vs) v x l (omega arith) (sym (locate_new q v vs grow have lt) ∙ is))
      at ih (inr le) = old (ih (sym (locate_old q v vs le) ∙ is)) x refl
