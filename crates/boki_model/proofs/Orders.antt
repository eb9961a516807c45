-- The ordered list: the newest-first list is the one in order, and it stays as shards grow.
use Rattle.std.proofs.Common.{◌≡◌, ℕ, zero, suc, ◌+◌, ◌≤◌, List, [], ◌∷◌, ◌++◌, length, drop, reverse, append_assoc, append-nil, refl, sym, ap, ◌∙◌, arith}
use Rattle.std.proofs.lemmas.List.{reverse-append, reverse-reverse, take-append-le, length_push}
use mathlib.Core.List.{reverse-cons}
use Rattle.boki_model.specs.Order.{first_count, other_counts, records_between, entry_records, last_vector, order, entry_records_from_oldest, order_from_oldest, locations_from, locations}
use Rattle.boki_model.specs.OrderLaws.{AreAtMost, CountsGrow, ShardsHave, add_to, OrderStays}

module _ {A : Type 0} where
  pub reverse-added : (shards : List (List A)) (old new : List ℕ) → reverse (entry_records shards old new) ≡ entry_records_from_oldest shards old new
  reverse-added [] old new = refl
  reverse-added (s ∷ ss) old new =
      reverse-append (entry_records ss (other_counts old) (other_counts new)) (reverse (records_between (first_count old) (first_count new) s))
      ∙ ap (λ l. l ++ reverse (entry_records ss (other_counts old) (other_counts new))) (reverse-reverse (records_between (first_count old) (first_count new) s))
      ∙ ap (λ l. records_between (first_count old) (first_count new) s ++ l) (reverse-added ss (other_counts old) (other_counts new))

-- the vector behind which further ones stand
abbrev last_behind : List ℕ → List (List ℕ) → List ℕ
last_behind last [] = last
last_behind last (v ∷ vs) = last_behind v vs

last_behind_push : (last : List ℕ) (vs : List (List ℕ)) (v : List ℕ) → last_behind last (vs ++ v ∷ []) ≡ v
last_behind_push last [] v = refl
last_behind_push last (u ∷ us) v = last_behind_push u us v

last_of_reverse : (vs : List (List ℕ)) → last_behind [] (reverse vs) ≡ last_vector vs
last_of_reverse [] = refl
last_of_reverse (v ∷ vs) = ap (last_behind []) (reverse-cons v vs) ∙ last_behind_push [] (reverse vs) v

module _ {A : Type 0} (shards : List (List A)) where
  in_order_push : (last : List ℕ) (vs : List (List ℕ)) (v : List ℕ) → order_from_oldest shards last (vs ++ v ∷ []) ≡ order_from_oldest shards last vs ++ entry_records_from_oldest shards (last_behind last vs) v
  in_order_push last [] v = append-nil (entry_records_from_oldest shards last v)
  in_order_push last (u ∷ us) v =
      ap (λ l. entry_records_from_oldest shards last u ++ l) (in_order_push u us v)
      ∙ sym (append_assoc (entry_records_from_oldest shards last u) (order_from_oldest shards u us) (entry_records_from_oldest shards (last_behind u us) v))

  pub newest_first_in_order : (vectors : List (List ℕ)) → reverse (order shards vectors) ≡ order_from_oldest shards [] (reverse vectors)
  newest_first_in_order [] = refl
  newest_first_in_order (v ∷ vs) =
      reverse-append (entry_records shards (last_vector vs) v) (order shards vs)
      ∙ ap (λ l. l ++ reverse (entry_records shards (last_vector vs) v)) (newest_first_in_order vs)
      ∙ ap (λ l. order_from_oldest shards [] (reverse vs) ++ l) (reverse-added shards (last_vector vs) v)
      ∙ ap (λ u. order_from_oldest shards [] (reverse vs) ++ entry_records_from_oldest shards u v) (sym (last_of_reverse vs))
      ∙ sym (in_order_push [] (reverse vs) v)
      ∙ ap (order_from_oldest shards []) (sym (reverse-cons v vs))

-- Counts that grow, and shards that have them.

pub most_none : (new : List ℕ) → AreAtMost [] new
most_none new = tt

module _ {A : Type 0} where
  pub have_less : (shards : List (List A)) (old new : List ℕ) → AreAtMost old new → ShardsHave shards new → ShardsHave shards old
  have_less [] old new most have = tt
  have_less (s ∷ ss) [] new most have = (omega arith, have_less ss [] (other_counts new) tt have.1)
  have_less (s ∷ ss) (n ∷ ns) new most have = (omega (arith, most.0, have.0), have_less ss ns (other_counts new) most.1 have.1)

  -- the shards have what an entry adds
  abbrev pub Fit : List (List A) → List ℕ → List ℕ → Type 0
  Fit [] old new = Unit {0}
  Fit (s ∷ ss) old new = (first_count old ≤ first_count new) × (first_count new ≤ length s) × Fit ss (other_counts old) (other_counts new)

  pub fit : (shards : List (List A)) (old new : List ℕ) → AreAtMost old new → ShardsHave shards new → Fit shards old new
  fit [] old new most have = tt
  fit (s ∷ ss) [] new most have = (omega arith, have.0, fit ss [] (other_counts new) tt have.1)
  fit (s ∷ ss) (n ∷ ns) new most have = (most.0, have.0, fit ss ns (other_counts new) most.1 have.1)

  pub have_more : (k : ℕ) (r : A) (shards : List (List A)) (v : List ℕ) → ShardsHave shards v → ShardsHave (add_to k r shards) v
  have_more k r [] v have = tt
  have_more zero r (s ∷ ss) v have = (omega (arith, have.0, length_push s r), have.1)
  have_more (suc k) r (s ∷ ss) v have = (have.0, have_more k r ss (other_counts v) have.1)

  added_stays : (k : ℕ) (r : A) (shards : List (List A)) (old new : List ℕ) → ShardsHave shards new → entry_records (add_to k r shards) old new ≡ entry_records shards old new
  added_stays k r [] old new have = refl
  added_stays zero r (s ∷ ss) old new have =
      ap (λ l. entry_records ss (other_counts old) (other_counts new) ++ reverse (drop (first_count old) l)) (take-append-le (first_count new) s (r ∷ []) have.0)
  added_stays (suc k) r (s ∷ ss) old new have =
      ap (λ l. l ++ reverse (records_between (first_count old) (first_count new) s)) (added_stays k r ss (other_counts old) (other_counts new) have.1)

  pub order_stays : (k : ℕ) (r : A) (shards : List (List A)) (vectors : List (List ℕ)) → CountsGrow vectors → ShardsHave shards (last_vector vectors) → order (add_to k r shards) vectors ≡ order shards vectors
  order_stays k r shards [] grow have = refl
  order_stays k r shards (v ∷ vs) grow have =
      ap (λ l. l ++ order (add_to k r shards) vs) (added_stays k r shards (last_vector vs) v have)
      ∙ ap (λ l. entry_records shards (last_vector vs) v ++ l) (order_stays k r shards vs grow.1 (have_less shards (last_vector vs) v grow.0 have))

  pub length-places_from : (x k : ℕ) (s : List A) → length (locations_from x k s) ≡ length s
  length-places_from x k [] = refl
  length-places_from x k (r ∷ s) = ap suc (length-places_from x (suc k) s)

  pub have_places : (k : ℕ) (shards : List (List A)) (v : List ℕ) → ShardsHave shards v → ShardsHave (locations k shards) v
  have_places k [] v have = tt
  have_places k (s ∷ ss) v have = (omega (arith, have.0, length-places_from (suc k) 0 s), have_places (suc k) ss (other_counts v) have.1)

  places_push : (x k : ℕ) (s : List A) (r : A) → locations_from x k (s ++ r ∷ []) ≡ locations_from x k s ++ (x, suc (k + length s)) ∷ []
  places_push x k [] r = ap (λ n. (x, suc n) ∷ []) (let e : k ≡ k + 0 = omega arith in e)
  places_push x k (y ∷ s) r =
      ap (λ l. (x, suc k) ∷ l) (places_push x (suc k) s r)
      ∙ ap (λ n. (x, suc k) ∷ (locations_from x (suc k) s ++ (x, suc n) ∷ [])) (let e : suc k + length s ≡ k + suc (length s) = omega arith in e)

-- the place of a record that is added to a shard, or any other where there is no such shard
abbrev next_place : {A : Type 0} → ℕ → ℕ → List (List A) → ℕ × ℕ
next_place i k [] = (i, k)
next_place i zero (s ∷ ss) = (suc i, suc (length s))
next_place i (suc k) (s ∷ ss) = next_place (suc i) k ss

module _ {A : Type 0} where
  places_add : (i k : ℕ) (r : A) (shards : List (List A)) → locations i (add_to k r shards) ≡ add_to k (next_place i k shards) (locations i shards)
  places_add i k r [] = refl
  places_add i zero r (s ∷ ss) = ap (λ l. l ∷ locations (suc i) ss) (places_push (suc i) 0 s r ∙ ap (λ n. locations_from (suc i) 0 s ++ (suc i, suc n) ∷ []) (let e : 0 + length s ≡ length s = omega arith in e))
  places_add i (suc k) r (s ∷ ss) = ap (λ l. locations_from (suc i) 0 s ∷ l) (places_add (suc i) k r ss)

  pub stays : (k : ℕ) (r : A) (shards : List (List A)) (vectors : List (List ℕ)) → CountsGrow vectors → ShardsHave shards (last_vector vectors) → OrderStays k r shards vectors
  stays k r shards vectors grow have = record {
    records = order_stays k r shards vectors grow have;
    locations = ap (λ l. order l vectors) (places_add 0 k r shards) ∙ order_stays k (next_place 0 k shards) (locations 0 shards) vectors grow (have_places 0 shards (last_vector vectors) have);
  }
