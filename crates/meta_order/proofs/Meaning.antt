-- What the lists of a metalog say of the order.
use Rattle.std.proofs.Common.{◌≡◌, ◌⊎◌, inl, inr, ℕ, zero, suc, ◌+◌, ◌-◌, ◌*◌, ◌^◌, ◌<◌, ◌≤◌, true, false, eqb, List, [], ◌∷◌, ◌++◌, length, take, drop, get_or, replicate, sum, Some, None, option_map, bytes_eq, refl, sym, ap, ap₂, ◌&&◌, ◌∙◌, subst, arith}
use Rattle.std.proofs.lemmas.Bool.{cases_lt, ne_eqb, eq-eqb, cond-true, cond-false, eqb-true}
use Rattle.std.proofs.lemmas.Bool.Decides.{same_from_decides, Decides-eqb}
use Rattle.std.proofs.lemmas.List.{length-replicate, take_all}
use Rattle.lb_base.specs.declared.value.Record.{Record}
use Rattle.boki_types.specs.declared.log.Cut.TheVariants as c
use Rattle.boki_model.specs.Order.{last_vector, order, ordered_locations, at_seq, locate, seq_of}
use Rattle.boki_model.specs.OrderLaws.{AreAtMost}
use Rattle.boki_model.specs.Entries.{count_at, total, same_counts, location_in_entry, rank_in_entry}
use Rattle.boki_model.proofs.Places.{at_seq_past, at_seq_zero}
use Rattle.boki_model.proofs.EntryPlaces.{count_most, seq_not_zero, seq_of_no_shard}
use Rattle.boki_model.proofs.Cuts.{length_total}
use Rattle.meta_order.specs.MetalogState.{MetalogState, AreOrdered, cut_of, after_cut, end_at}
use Rattle.meta_order.specs.Rows.{row, vectors_to, metalog_of_rows, IsSound}
use Rattle.meta_order.proofs.Numbered.{Rows, last_alike, length_vectors, vectors_grow, sum_last, same_alike, locate_at, locate_past, seq_at, seq_past, number_fits}
use Rattle.meta_order.proofs.Flat.{length-row, count_at_get, cell, rows, sound_push, recorded_push}

-- The start.

count_zeros : (i w : ℕ) → count_at i (replicate w 0) ≡ 0
count_zeros i zero = nothing i
  where
    nothing : (i : ℕ) → count_at i [] ≡ 0
    nothing zero = refl
    nothing (suc i) = nothing i
count_zeros zero (suc w) = refl
count_zeros (suc i) (suc w) = count_zeros i w

sum_zeros : (w : ℕ) → sum (replicate w 0) ≡ 0
sum_zeros zero = refl
sum_zeros (suc w) = sum_zeros w

pub sound_new : (w : ℕ) (counts ends : List ℕ) → counts ≡ replicate w 0 → ends ≡ replicate 1 0 → IsSound w counts ends
sound_new w counts ends zeros one =
    subst (λ l. IsSound w l ends) (sym zeros) (subst (IsSound w (replicate w 0)) (sym one) record {
      some = omega arith;
      size = omega (arith, length-replicate {A = ℕ} w 0);
      first = λ i. ap (count_at i) first ∙ count_zeros i w;
      grow = λ k lt. absurd (let h : ⊥ = omega arith in h);
      sums = λ k lt. starts k lt;
      few = λ k lt. low k lt;
    })
  where
    first : row w (replicate w 0) 0 ≡ replicate w 0
    first = ap (take w) (ap (λ n. drop n (replicate w 0)) (let e : 0 * w ≡ 0 = omega arith in e)) ∙ take_all w (replicate w 0) (omega (arith, length-replicate {A = ℕ} w 0))

    starts : (k : ℕ) → k < 1 → get_or (0 ∷ []) k 0 ≡ sum (row w (replicate w 0) k)
    starts zero lt = sym (ap sum first ∙ sum_zeros w)
    starts (suc k) lt = absurd (let h : ⊥ = omega arith in h)

    low : (k : ℕ) → k < 1 → get_or (0 ∷ []) k 0 ≤ 2 ^ 63
    low zero lt = omega arith
    low (suc k) lt = absurd (let h : ⊥ = omega arith in h)

sum_none : (at : ℕ → List ℕ) (w n : ℕ) → Rows at w n → sum (last_vector (vectors_to at n)) ≡ sum (at n)
sum_none at w zero h = sym (none w) ∙ sum_last at w zero h
  where
    none : (w : ℕ) → total w [] ≡ 0
    none zero = refl
    none (suc w) = let ih = none w in omega arith
sum_none at w (suc n) h = refl

module _ (w : ℕ) (counts ends : List ℕ) (h : IsSound w counts ends) where
  last : ℕ
  last = length ends - 1

  abbrev at : ℕ → List ℕ
  at = row w counts

  facts : Rows at w (length ends - 1)
  facts = rows w counts ends h

  pub entries_are : (m : MetalogState) → metalog_of_rows w counts ends ≡ m → length ends - 1 ≡ length m.vectors
  entries_are m view = sym (length_vectors at w (length ends - 1)) ∙ ap (λ (m : MetalogState). length m.vectors) view

  pub length_is : (m : MetalogState) → metalog_of_rows w counts ends ≡ m → get_or ends (length ends - 1) 0 ≡ sum (last_vector m.vectors)
  length_is m view =
      h.sums (length ends - 1) (let s = h.some in omega arith)
      ∙ sym (sum_none at w (length ends - 1) facts)
      ∙ ap (λ (m : MetalogState). sum (last_vector m.vectors)) view

  pub length_ordered : (m : MetalogState) → metalog_of_rows w counts ends ≡ m → (shards : List (List Record)) → AreOrdered shards m → get_or ends (length ends - 1) 0 ≡ length (order shards m.vectors)
  length_ordered m view shards =
      let P : MetalogState → Type 0 = λ m. AreOrdered shards m → get_or ends (length ends - 1) 0 ≡ length (order shards m.vectors) in
      subst P view (λ o.
      h.sums (length ends - 1) (let s = h.some in omega arith)
      ∙ sym (sum_last at w (length ends - 1) facts)
      ∙ ap (λ n. total n (last_vector (vectors_to at (length ends - 1)))) (sym o.as_many)
      ∙ sym (length_total shards (vectors_to at (length ends - 1)) (vectors_grow at w (length ends - 1) facts) o.have))

  -- ends of entries

  at_seq_vectors : (n e : ℕ) → 0 < e → e ≤ n → at_seq e (vectors_to at n) ≡ Some (at e)
  at_seq_vectors zero e lt le = absurd (let f : ⊥ = omega arith in f)
  at_seq_vectors (suc n) e lt le = either (at_seq_vectors n e lt) (cases_lt e (suc n))
    where
      either : (e ≤ n → at_seq e (vectors_to at n) ≡ Some (at e)) → (e < suc n) ⊎ (suc n ≤ e) → at_seq e (vectors_to at (suc n)) ≡ Some (at e)
      either ih (inl old) =
          cond-false (eqb e (suc (length (vectors_to at n)))) (Some (at (suc n))) (at_seq e (vectors_to at n)) (ne_eqb e (suc (length (vectors_to at n))) (λ f. omega (arith, length_vectors at w n)))
          ∙ ih (omega arith)
      either ih (inr new) =
          cond-true (eqb e (suc (length (vectors_to at n)))) (Some (at (suc n))) (at_seq e (vectors_to at n)) (eq-eqb e (suc (length (vectors_to at n))) (let f : e ≡ suc (length (vectors_to at n)) = omega (arith, length_vectors at w n) in f))
          ∙ ap (λ k. Some (at k)) (let f : suc n ≡ e = omega arith in f)

  pub end_is : (entry : ℕ) (m : MetalogState) → metalog_of_rows w counts ends ≡ m → 0 < entry → entry < length ends → Some (get_or ends entry 0) ≡ end_at entry m
  end_is entry m view lt within =
      ap Some (h.sums entry within)
      ∙ sym (ap (option_map sum) (at_seq_vectors (length ends - 1) entry lt (omega arith)))
      ∙ ap (end_at entry) view

  pub end_none : (entry : ℕ) (m : MetalogState) → metalog_of_rows w counts ends ≡ m → (entry ≡ 0) ⊎ (length ends ≤ entry) → None ≡ end_at entry m
  end_none entry m view out = sym (ap (option_map sum) (none out)) ∙ ap (end_at entry) view
    where
      none : (entry ≡ 0) ⊎ (length ends ≤ entry) → at_seq entry (vectors_to at (length ends - 1)) ≡ None
      none (inl e) = ap (λ k. at_seq k (vectors_to at (length ends - 1))) e ∙ at_seq_zero (vectors_to at (length ends - 1))
      none (inr le) = at_seq_past entry (vectors_to at (length ends - 1)) (let s = h.some in let l = length_vectors at w (length ends - 1) in omega arith)

  -- the vectors around an entry

  pub rows_long : (entry : ℕ) → 0 < entry → entry < length ends → length (at (entry - 1)) ≡ length (at entry)
  rows_long entry lt within = length-row w (entry - 1) (length ends) counts h.size (omega arith) ∙ sym (length-row w entry (length ends) counts h.size within)

  pub rows_width : (entry : ℕ) → entry < length ends → length (at entry) ≡ w
  rows_width entry within = length-row w entry (length ends) counts h.size within

  pub rows_grown : (entry : ℕ) → 0 < entry → entry < length ends → (k : ℕ) → get_or (at (entry - 1)) k 0 ≤ get_or (at entry) k 0
  rows_grown entry lt within k =
      let e : suc (entry - 1) ≡ entry = omega arith in
      let most = count_most k (at (entry - 1)) (at (suc (entry - 1))) (h.grow (entry - 1) (omega arith)) in
      omega (arith, most, ap (λ j. count_at k (at j)) e, count_at_get k (at (entry - 1)), count_at_get k (at entry))

  zero_end : get_or ends 0 0 ≡ 0
  zero_end = h.sums 0 h.some ∙ sym (sum_none at w 0 (record { long = λ k le. length-row w k (length ends) counts h.size (let s = h.some in omega arith); first = h.first; grow = λ k lt. absurd (let f : ⊥ = omega arith in f) }))

  -- places

  pub locate_is : (seq entry : ℕ) (m : MetalogState) → metalog_of_rows w counts ends ≡ m → 0 < entry → entry < length ends → get_or ends (entry - 1) 0 < seq → seq ≤ get_or ends entry 0
      → (shards : List (List Record)) → AreOrdered shards m → location_in_entry w 0 (seq - get_or ends (entry - 1) 0) (at (entry - 1)) (at entry) ≡ locate seq shards m.vectors
  locate_is seq entry m view lt within above upto shards =
      let P : MetalogState → Type 0 = λ m. AreOrdered shards m → location_in_entry w 0 (seq - get_or ends (entry - 1) 0) (at (entry - 1)) (at entry) ≡ locate seq shards m.vectors in
      let e : suc (entry - 1) ≡ entry = omega arith in
      let start = h.sums (entry - 1) (omega arith) in
      let end = h.sums entry within in
      let top = ap (λ j. sum (at j)) e in
      subst P view (λ o.
      ap (λ n. location_in_entry w 0 (seq - n) (at (entry - 1)) (at entry)) start
      ∙ ap (λ j. location_in_entry w 0 (seq - sum (at (entry - 1))) (at (entry - 1)) (at j)) (sym e)
      ∙ sym (locate_at at w shards o.as_many (length ends - 1) (entry - 1) seq facts o.have (omega arith) (omega arith) (omega arith)))

  pub locate_none : (seq entry : ℕ) (m : MetalogState) → metalog_of_rows w counts ends ≡ m → ((entry ≡ 0) × (seq ≤ get_or ends 0 0)) ⊎ (get_or ends (length ends - 1) 0 < seq)
      → (shards : List (List Record)) → AreOrdered shards m → None ≡ locate seq shards m.vectors
  locate_none seq entry m view out shards =
      let P : MetalogState → Type 0 = λ m. AreOrdered shards m → None ≡ locate seq shards m.vectors in
      subst P view (λ o. sym (none o out))
    where
      none : AreOrdered shards (metalog_of_rows w counts ends) → ((entry ≡ 0) × (seq ≤ get_or ends 0 0)) ⊎ (get_or ends (length ends - 1) 0 < seq) → locate seq shards (vectors_to at (length ends - 1)) ≡ None
      none o (inl low) = ap (λ q. locate q shards (vectors_to at (length ends - 1))) (let f : seq ≡ 0 = omega (arith, zero_end, low.1) in f) ∙ at_seq_zero (ordered_locations shards (vectors_to at (length ends - 1)))
      none o (inr past) = locate_past at w shards o.as_many (length ends - 1) seq facts o.have (let s = h.some in let e = h.sums (length ends - 1) (omega arith) in omega arith)

  -- seqnums

  pub column_count : (column k : ℕ) → column < w → get_or counts (k * w + column) 0 ≡ count_at column (at k)
  column_count column k within = cell w k column counts within

  pub seq_is : (shard local entry : ℕ) (m : MetalogState) → metalog_of_rows w counts ends ≡ m → 0 < shard → shard ≤ w → 0 < entry → entry < length ends
      → get_or counts ((entry - 1) * w + (shard - 1)) 0 < local → local ≤ get_or counts (entry * w + (shard - 1)) 0
      → (shards : List (List Record)) → AreOrdered shards m → Some (get_or ends (entry - 1) 0 + rank_in_entry (shard - 1) local (at (entry - 1)) (at entry)) ≡ seq_of shard local shards m.vectors
  seq_is shard local entry m view low high lt within above upto shards =
      let P : MetalogState → Type 0 = λ m. AreOrdered shards m → Some (get_or ends (entry - 1) 0 + rank_in_entry (shard - 1) local (at (entry - 1)) (at entry)) ≡ seq_of shard local shards m.vectors in
      let e : suc (entry - 1) ≡ entry = omega arith in
      let f : suc (shard - 1) ≡ shard = omega arith in
      let old = column_count (shard - 1) (entry - 1) (omega arith) in
      let new = column_count (shard - 1) entry (omega arith) in
      let top = ap (λ j. count_at (shard - 1) (at j)) e in
      subst P view (λ o.
      ap (λ n. Some (n + rank_in_entry (shard - 1) local (at (entry - 1)) (at entry))) (h.sums (entry - 1) (omega arith))
      ∙ ap (λ j. Some (sum (at (entry - 1)) + rank_in_entry (shard - 1) local (at (entry - 1)) (at j))) (sym e)
      ∙ sym (seq_at at w shards o.as_many (length ends - 1) (entry - 1) (shard - 1) local facts o.have (omega arith) (omega arith) (omega arith) (omega arith))
      ∙ ap (λ s. seq_of s local shards (vectors_to at (length ends - 1))) f)

  pub number_low : (shard local entry : ℕ) → 0 < shard → shard ≤ w → 0 < entry → entry < length ends
      → get_or counts ((entry - 1) * w + (shard - 1)) 0 < local → local ≤ get_or counts (entry * w + (shard - 1)) 0
      → get_or ends (entry - 1) 0 + rank_in_entry (shard - 1) local (at (entry - 1)) (at entry) ≤ 2 ^ 63
  number_low shard local entry low high lt within above upto =
      let e : suc (entry - 1) ≡ entry = omega arith in
      let old = column_count (shard - 1) (entry - 1) (omega arith) in
      let new = column_count (shard - 1) entry (omega arith) in
      let top = ap (λ j. count_at (shard - 1) (at j)) e in
      let start = h.sums (entry - 1) (omega arith) in
      let end = h.sums entry within in
      let few = h.few entry within in
      let sums = ap (λ j. sum (at j)) e in
      let numbers = ap (λ j. rank_in_entry (shard - 1) local (at (entry - 1)) (at j)) e in
      let fits = number_fits at w (length ends - 1) (entry - 1) (shard - 1) local facts (omega arith) (omega arith) (omega arith) (omega arith) in
      omega arith

  pub seq_none : (shard local entry : ℕ) (m : MetalogState) → metalog_of_rows w counts ends ≡ m → 0 < shard → shard ≤ w
      → ((entry ≡ 0) × (local ≤ get_or counts (0 * w + (shard - 1)) 0)) ⊎ (get_or counts ((length ends - 1) * w + (shard - 1)) 0 < local)
      → (shards : List (List Record)) → AreOrdered shards m → None ≡ seq_of shard local shards m.vectors
  seq_none shard local entry m view low high out shards =
      let P : MetalogState → Type 0 = λ m. AreOrdered shards m → None ≡ seq_of shard local shards m.vectors in
      let f : suc (shard - 1) ≡ shard = omega arith in
      subst P view (λ o.
      sym (seq_past at w shards o.as_many (length ends - 1) (shard - 1) local facts o.have (either out))
      ∙ ap (λ s. seq_of s local shards (vectors_to at (length ends - 1))) f)
    where
      either : ((entry ≡ 0) × (local ≤ get_or counts (0 * w + (shard - 1)) 0)) ⊎ (get_or counts ((length ends - 1) * w + (shard - 1)) 0 < local) → (local ≡ 0) ⊎ (count_at (shard - 1) (at (length ends - 1)) < local)
      either (inl few) = inl (omega (arith, few.1, column_count (shard - 1) 0 (omega arith), h.first (shard - 1)))
      either (inr past) = inr (omega (arith, past, column_count (shard - 1) (length ends - 1) (omega arith)))

  pub seq_no_shard : (shard local : ℕ) (m : MetalogState) → metalog_of_rows w counts ends ≡ m → (shard ≡ 0) ⊎ (w < shard) → (shards : List (List Record)) → AreOrdered shards m → None ≡ seq_of shard local shards m.vectors
  seq_no_shard shard local m view out shards =
      let P : MetalogState → Type 0 = λ m. AreOrdered shards m → None ≡ seq_of shard local shards m.vectors in
      subst P view (λ o. sym (none o out))
    where
      none : AreOrdered shards (metalog_of_rows w counts ends) → (shard ≡ 0) ⊎ (w < shard) → seq_of shard local shards (vectors_to at (length ends - 1)) ≡ None
      none o (inl e) = ap (λ s. seq_of s local shards (vectors_to at (length ends - 1))) e ∙ seq_not_zero shards local (vectors_to at (length ends - 1))
      none o (inr past) =
          ap (λ s. seq_of s local shards (vectors_to at (length ends - 1))) (let f : shard ≡ suc (shard - 1) = omega arith in f)
          ∙ seq_of_no_shard shards (shard - 1) local (vectors_to at (length ends - 1)) (omega (arith, o.as_many))

  -- cuts

  pub same_as_row : (progress : List ℕ) → length progress ≡ w → same_counts progress (last_vector (vectors_to at (length ends - 1))) ≡ bytes_eq (at (length ends - 1)) progress
  same_as_row progress long =
      same_alike progress (last_vector (vectors_to at (length ends - 1))) (at (length ends - 1)) (last_alike at w (length ends - 1) facts)
      ∙ compare progress (at (length ends - 1)) (long ∙ sym (length-row w (length ends - 1) (length ends) counts h.size (let s = h.some in omega arith)))
    where
      turn : (a b : ℕ) → eqb a b ≡ eqb b a
      turn a b = same_from_decides (eqb a b) (eqb b a) (Decides-eqb a b) ((λ e. sym (eqb-true b a e)), (λ e. eq-eqb b a (sym e)))

      compare : (ns v : List ℕ) → length ns ≡ length v → same_counts ns v ≡ bytes_eq v ns
      compare [] [] e = refl
      compare [] (x ∷ v) e = absurd (let f : ⊥ = omega arith in f)
      compare (n ∷ ns) [] e = absurd (let f : ⊥ = omega arith in f)
      compare (n ∷ ns) (x ∷ v) e = ap₂ (λ s t. s && t) (turn n x) (compare ns v (let f : length ns ≡ length v = omega arith in f))

  pub cut_same : (progress : List ℕ) (m : MetalogState) → metalog_of_rows w counts ends ≡ m → length progress ≡ w → bytes_eq (at (length ends - 1)) progress ≡ true → (c.Same ≡ cut_of progress m) × (m ≡ after_cut progress m)
  cut_same progress m view long same =
      let P : MetalogState → Type 0 = λ m. (c.Same ≡ cut_of progress m) × (m ≡ after_cut progress m) in
      let t = same_as_row progress long ∙ same in
      subst P view (
        sym (cond-true _ c.Same (c.Entry (suc (length (vectors_to at (length ends - 1))))) t),
        sym (cond-true _ (metalog_of_rows w counts ends) (record (metalog_of_rows w counts ends) { vectors = progress ∷ vectors_to at (length ends - 1) }) t),
      )

  pub cut_entry : (progress : List ℕ) (m : MetalogState) (end : ℕ) → metalog_of_rows w counts ends ≡ m → length progress ≡ w → bytes_eq (at (length ends - 1)) progress ≡ false → end ≡ sum progress
      → (c.Entry (length ends - 1 + 1) ≡ cut_of progress m) × (metalog_of_rows w (counts ++ progress) (ends ++ end ∷ []) ≡ after_cut progress m)
  cut_entry progress m end view long other is =
      let P : MetalogState → Type 0 = λ m. (c.Entry (length ends - 1 + 1) ≡ cut_of progress m) × (metalog_of_rows w (counts ++ progress) (ends ++ end ∷ []) ≡ after_cut progress m) in
      let t = same_as_row progress long ∙ other in
      subst P view (
        ap c.Entry (let f : length ends - 1 + 1 ≡ suc (length (vectors_to at (length ends - 1))) = omega (arith, length_vectors at w (length ends - 1)) in f)
            ∙ sym (cond-false _ c.Same (c.Entry (suc (length (vectors_to at (length ends - 1))))) t),
        ap (λ n. metalog_of_rows w (counts ++ progress) (ends ++ n ∷ [])) is
            ∙ recorded_push w counts ends progress h long
            ∙ sym (cond-false _ (metalog_of_rows w counts ends) (record (metalog_of_rows w counts ends) { vectors = progress ∷ vectors_to at (length ends - 1) }) t),
      )

  pub cut_sound : (progress : List ℕ) (m : MetalogState) (end : ℕ) → metalog_of_rows w counts ends ≡ m → length progress ≡ w → AreAtMost (last_vector m.vectors) progress → sum progress ≤ 2 ^ 63 → end ≡ sum progress
      → IsSound w (counts ++ progress) (ends ++ end ∷ [])
  cut_sound progress m end view long grown few is =
      let P : MetalogState → Type 0 = λ m. AreAtMost (last_vector m.vectors) progress in
      subst (λ n. IsSound w (counts ++ progress) (ends ++ n ∷ [])) (sym is) (sound_push w counts ends progress h long (subst P (sym view) grown) few)

-- The same lists under other names.

pub moved : (w : ℕ) (counts ends counts' ends' : List ℕ) → counts' ≡ counts → ends' ≡ ends → IsSound w counts ends → IsSound w counts' ends'
moved w counts ends counts' ends' e f h = subst (λ l. IsSound w l ends') (sym e) (subst (IsSound w counts) (sym f) h)

pub viewed : (w : ℕ) (counts ends counts' ends' : List ℕ) (m : MetalogState) → counts' ≡ counts → ends' ≡ ends → metalog_of_rows w counts ends ≡ m → metalog_of_rows w counts' ends' ≡ m
viewed w counts ends counts' ends' m e f view = ap₂ (metalog_of_rows w) e f ∙ view

-- a list of single numbers is one of vectors of width 1
pub plain : (ends : List ℕ) (k : ℕ) → get_or ends (k * 1 + 0) 0 ≡ get_or ends k 0
plain ends k = ap (λ n. get_or ends n 0) (let e : k * 1 + 0 ≡ k = omega arith in e)

pub rows_long_at : (w entry : ℕ) (counts ends old new : List ℕ) → IsSound w counts ends → old ≡ row w counts (entry - 1) → new ≡ row w counts entry → 0 < entry → entry < length ends → length old ≡ length new
rows_long_at w entry counts ends old new h e f lt within = ap length e ∙ rows_long w counts ends h entry lt within ∙ ap length (sym f)

pub rows_grown_at : (w entry : ℕ) (counts ends old new : List ℕ) → IsSound w counts ends → old ≡ row w counts (entry - 1) → new ≡ row w counts entry → 0 < entry → entry < length ends
    → (k : ℕ) → get_or old k 0 ≤ get_or new k 0
rows_grown_at w entry counts ends old new h e f lt within k =
    omega (arith, rows_grown w counts ends h entry lt within k, ap (λ l. get_or l k 0) e, ap (λ l. get_or l k 0) f)

pub place_at : (w entry seq : ℕ) (counts ends old new : List ℕ) → IsSound w counts ends → old ≡ row w counts (entry - 1) → new ≡ row w counts entry → entry < length ends
    → location_in_entry (length new) 0 seq old new ≡ location_in_entry w 0 seq (row w counts (entry - 1)) (row w counts entry)
place_at w entry seq counts ends old new h e f within =
    ap₂ (λ a c. location_in_entry (length c) 0 seq a c) e f
    ∙ ap (λ n. location_in_entry n 0 seq (row w counts (entry - 1)) (row w counts entry)) (rows_width w counts ends h entry within)

pub number_at : (w entry i local : ℕ) (counts old new : List ℕ) → old ≡ row w counts (entry - 1) → new ≡ row w counts entry
    → rank_in_entry i local old new ≡ rank_in_entry i local (row w counts (entry - 1)) (row w counts entry)
number_at w entry i local counts old new e f = ap₂ (rank_in_entry i local) e f
