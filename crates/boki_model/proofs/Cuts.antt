-- What a further vector of the metalog leaves and adds.
use Rattle.std.proofs.Common.{◌≡◌, ◌⊎◌, inl, inr, ℕ, suc, ◌+◌, ◌<◌, ◌≤◌, List, [], ◌∷◌, length, map, sum, Option, Some, None, IsSome, refl, sym, ap, ◌∙◌, subst, arith}
use Rattle.std.proofs.lemmas.Bool.{cases_lt}
use Rattle.std.proofs.lemmas.List.{length-append}
use Rattle.std.proofs.lemmas.List.Sums.{sum_by-cons}
use Rattle.boki_model.specs.Order.{other_counts, entry_records, last_vector, order, locations_from, locations, ordered_locations, seq_of}
use Rattle.boki_model.specs.OrderLaws.{CountsGrow, ShardsHave, AddsJustNew}
use Rattle.boki_model.specs.Entries.{count_at, total, entry_size}
use Rattle.boki_model.proofs.Orders.{have_less, Fit, fit, have_places}
use Rattle.boki_model.proofs.Places.{seq_in_located, seq_in_most}
use Rattle.boki_model.proofs.EntryPlaces.{length-added, length-places, locate_old, seq_of_new, seq_not_counted, numbered}

module _ {A : Type 0} where
  pub size_total : (shards : List (List A)) (old new : List ℕ) → Fit shards old new → entry_size (length shards) old new + total (length shards) old ≡ total (length shards) new
  size_total [] old new h = refl
  size_total (s ∷ ss) old new h = let ih = size_total ss (other_counts old) (other_counts new) h.2 in let le = h.0 in omega arith

  total_none : (shards : List (List A)) → total (length shards) [] ≡ 0
  total_none [] = refl
  total_none (s ∷ ss) = let ih = total_none ss in omega arith

  pub length_total : (shards : List (List A)) (vectors : List (List ℕ)) → CountsGrow vectors → ShardsHave shards (last_vector vectors) → length (order shards vectors) ≡ total (length shards) (last_vector vectors)
  length_total shards [] grow have = sym (total_none shards)
  length_total shards (v ∷ vs) grow have =
      length-append (entry_records shards (last_vector vs) v) (order shards vs)
      ∙ ap (λ n. n + length (order shards vs)) (length-added shards (last_vector vs) v (fit shards (last_vector vs) v grow.0 have))
      ∙ ap (λ n. entry_size (length shards) (last_vector vs) v + n) (length_total shards vs grow.1 (have_less shards (last_vector vs) v grow.0 have))
      ∙ size_total shards (last_vector vs) v (fit shards (last_vector vs) v grow.0 have)

-- the total of a vector with a count for each shard
pub total_sum : (v : List ℕ) → total (length v) v ≡ sum v
total_sum [] = refl
total_sum (n ∷ ns) = ap (λ m. n + m) (total_sum ns) ∙ sym (sum_by-cons (λ x. x) n ns)

module _ {A : Type 0} (shards : List (List A)) where
  pub length_places_total : (vectors : List (List ℕ)) → CountsGrow vectors → ShardsHave shards (last_vector vectors) → length (ordered_locations shards vectors) ≡ total (length shards) (last_vector vectors)
  length_places_total vectors grow have =
      length_total (locations 0 shards) vectors grow (have_places 0 shards (last_vector vectors) have)
      ∙ ap (λ n. total n (last_vector vectors)) (length-places 0 shards)

  -- as many places as records
  pub as_many_places : (vectors : List (List ℕ)) → CountsGrow vectors → ShardsHave shards (last_vector vectors) → length (ordered_locations shards vectors) ≡ length (order shards vectors)
  as_many_places vectors grow have = length_places_total vectors grow have ∙ sym (length_total shards vectors grow have)

  pub stays_at : (v : List ℕ) (vs : List (List ℕ)) → CountsGrow (v ∷ vs) → ShardsHave shards v → (x l q : ℕ) → seq_of x l shards vs ≡ Some q → seq_of x l shards (v ∷ vs) ≡ Some q
  stays_at v vs grow have x l q is =
      numbered shards x l q (v ∷ vs) grow have
      (locate_old shards q v vs (seq_in_most x l q (ordered_locations shards vs) is) ∙ seq_in_located x l q (ordered_locations shards vs) is)

  just_counted : (i l q : ℕ) (vectors : List (List ℕ)) → CountsGrow vectors → ShardsHave shards (last_vector vectors) → seq_of (suc i) l shards vectors ≡ Some q → (0 < l) × (l ≤ count_at i (last_vector vectors))
  just_counted i l q vectors grow have is = (at (cases_lt 0 l), upto (cases_lt (count_at i (last_vector vectors)) l))
    where
      none_some : None ≡ Some q → ⊥
      none_some e = cc

      at : (0 < l) ⊎ (l ≤ 0) → 0 < l
      at (inl h) = h
      at (inr h) = absurd (none_some (sym (seq_not_counted shards i l vectors grow have (inl (omega arith))) ∙ is))

      upto : (count_at i (last_vector vectors) < l) ⊎ (l ≤ count_at i (last_vector vectors)) → l ≤ count_at i (last_vector vectors)
      upto (inl h) = absurd (none_some (sym (seq_not_counted shards i l vectors grow have (inr h)) ∙ is))
      upto (inr h) = h

  is_some_of : (o : Option ℕ) (q : ℕ) → o ≡ Some q → IsSome o
  is_some_of o q e = subst IsSome (sym e) refl

  pub adds_just_new : (v : List ℕ) (vs : List (List ℕ)) → CountsGrow (v ∷ vs) → ShardsHave shards v → AddsJustNew shards v vs
  adds_just_new v vs grow have = record {
    kept = λ q le. locate_old shards q v vs (let e = as_many_places vs grow.1 (have_less shards (last_vector vs) v grow.0 have) in omega arith);
    stays = stays_at v vs grow have;
    new = λ i l within lt le. is_some_of _ _ (seq_of_new shards i l v vs grow have within lt le);
    just = λ i l q is. just_counted i l q (v ∷ vs) grow have is;
  }

-- Places depend on lengths alone.

module _ {A B : Type 0} where
  from_lengths : (x k : ℕ) (s : List A) (t : List B) → length s ≡ length t → locations_from x k s ≡ locations_from x k t
  from_lengths x k [] [] e = refl
  from_lengths x k [] (z ∷ t) e = absurd (let h : ⊥ = omega arith in h)
  from_lengths x k (y ∷ s) [] e = absurd (let h : ⊥ = omega arith in h)
  from_lengths x k (y ∷ s) (z ∷ t) e = ap (λ l. (x, suc k) ∷ l) (from_lengths x (suc k) s t (let f : length s ≡ length t = omega arith in f))

  places_of_lengths : (k : ℕ) (ss : List (List A)) (ts : List (List B)) → map length ss ≡ map length ts → locations k ss ≡ locations k ts
  places_of_lengths k [] [] e = refl
  places_of_lengths k [] (t ∷ ts) e = cc
  places_of_lengths k (s ∷ ss) [] e = cc
  places_of_lengths k (s ∷ ss) (t ∷ ts) e =
      let heads : length s ≡ length t = cc in
      let tails : map length ss ≡ map length ts = cc in
      ap (λ l. l ∷ locations (suc k) ss) (from_lengths (suc k) 0 s t heads) ∙ ap (λ l. locations_from (suc k) 0 t ∷ l) (places_of_lengths (suc k) ss ts tails)

  pub same_places : (shards : List (List A)) (others : List (List B)) (vectors : List (List ℕ)) → map length shards ≡ map length others → ordered_locations shards vectors ≡ ordered_locations others vectors
  same_places shards others vectors e = ap (λ l. order l vectors) (places_of_lengths 0 shards others e)
