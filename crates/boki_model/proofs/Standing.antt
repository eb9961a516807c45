-- What the ordered list has at a seqnum is the record of its place.
use Rattle.std.proofs.Common.{◌≡◌, ℕ, zero, suc, Bool, true, false, cond, eqb, List, [], ◌∷◌, ◌++◌, length, take, drop, reverse, Some, option_and_then, slice_get, refl, sym, ap, ◌∙◌, subst}
use mathlib.Core.List.{reverse-cons}
use Rattle.boki_model.specs.Order.{first_count, other_counts, records_between, entry_records, last_vector, order, locations_from, locations, ordered_locations, at_seq, locate}
use Rattle.boki_model.specs.OrderLaws.{CountsGrow, ShardsHave, local_record, record_at, AreInverse}
use Rattle.boki_model.proofs.Places.{seq_in_located}
use Rattle.boki_model.proofs.EntryPlaces.{numbered}

module _ {A : Type 0} (shards : List (List A)) where
  -- each record stands at its place
  abbrev Stand : List A → List (ℕ × ℕ) → Type 0
  Stand [] [] = Unit {0}
  Stand [] (p ∷ ps) = ⊥
  Stand (x ∷ xs) [] = ⊥
  Stand (x ∷ xs) (p ∷ ps) = (record_at p.0 p.1 shards ≡ Some x) × Stand xs ps

  stand_length : (xs : List A) (ps : List (ℕ × ℕ)) → Stand xs ps → length xs ≡ length ps
  stand_length [] [] h = refl
  stand_length [] (p ∷ ps) h = absurd h
  stand_length (x ∷ xs) [] h = absurd h
  stand_length (x ∷ xs) (p ∷ ps) h = ap suc (stand_length xs ps h.1)

  stand_append : (xs ys : List A) (ps qs : List (ℕ × ℕ)) → Stand xs ps → Stand ys qs → Stand (xs ++ ys) (ps ++ qs)
  stand_append [] ys [] qs h k = k
  stand_append [] ys (p ∷ ps) qs h k = absurd h
  stand_append (x ∷ xs) ys [] qs h k = absurd h
  stand_append (x ∷ xs) ys (p ∷ ps) qs h k = (h.0, stand_append xs ys ps qs h.1 k)

  stand_reverse : (xs : List A) (ps : List (ℕ × ℕ)) → Stand xs ps → Stand (reverse xs) (reverse ps)
  stand_reverse [] [] h = tt
  stand_reverse [] (p ∷ ps) h = absurd h
  stand_reverse (x ∷ xs) [] h = absurd h
  stand_reverse (x ∷ xs) (p ∷ ps) h =
      subst (λ l. Stand l (reverse (p ∷ ps))) (sym (reverse-cons x xs))
      (subst (λ l. Stand (reverse xs ++ x ∷ []) l) (sym (reverse-cons p ps))
      (stand_append (reverse xs) (x ∷ []) (reverse ps) (p ∷ []) (stand_reverse xs ps h.1) (h.0, tt)))

  stand_take : (n : ℕ) (xs : List A) (ps : List (ℕ × ℕ)) → Stand xs ps → Stand (take n xs) (take n ps)
  stand_take zero xs ps h = tt
  stand_take (suc n) [] [] h = tt
  stand_take (suc n) [] (p ∷ ps) h = absurd h
  stand_take (suc n) (x ∷ xs) [] h = absurd h
  stand_take (suc n) (x ∷ xs) (p ∷ ps) h = (h.0, stand_take n xs ps h.1)

  stand_drop : (n : ℕ) (xs : List A) (ps : List (ℕ × ℕ)) → Stand xs ps → Stand (drop n xs) (drop n ps)
  stand_drop zero xs ps h = h
  stand_drop (suc n) [] [] h = tt
  stand_drop (suc n) [] (p ∷ ps) h = absurd h
  stand_drop (suc n) (x ∷ xs) [] h = absurd h
  stand_drop (suc n) (x ∷ xs) (p ∷ ps) h = stand_drop n xs ps h.1

  abbrev AllStand : List (List A) → List (List (ℕ × ℕ)) → Type 0
  AllStand [] [] = Unit {0}
  AllStand [] (p ∷ ps) = ⊥
  AllStand (x ∷ xs) [] = ⊥
  AllStand (x ∷ xs) (p ∷ ps) = Stand x p × AllStand xs ps

  stand_added : (xs : List (List A)) (ps : List (List (ℕ × ℕ))) (old new : List ℕ) → AllStand xs ps → Stand (entry_records xs old new) (entry_records ps old new)
  stand_added [] [] old new h = tt
  stand_added [] (p ∷ ps) old new h = absurd h
  stand_added (x ∷ xs) [] old new h = absurd h
  stand_added (x ∷ xs) (p ∷ ps) old new h =
      stand_append (entry_records xs (other_counts old) (other_counts new)) (reverse (records_between (first_count old) (first_count new) x))
      (entry_records ps (other_counts old) (other_counts new)) (reverse (records_between (first_count old) (first_count new) p))
      (stand_added xs ps (other_counts old) (other_counts new) h.1)
      (stand_reverse (records_between (first_count old) (first_count new) x) (records_between (first_count old) (first_count new) p)
      (stand_drop (first_count old) (take (first_count new) x) (take (first_count new) p) (stand_take (first_count new) x p h.0)))

  stand_order : (xs : List (List A)) (ps : List (List (ℕ × ℕ))) (vs : List (List ℕ)) → AllStand xs ps → Stand (order xs vs) (order ps vs)
  stand_order xs ps [] h = tt
  stand_order xs ps (v ∷ vs) h = stand_append (entry_records xs (last_vector vs) v) (order xs vs) (entry_records ps (last_vector vs) v) (order ps vs) (stand_added xs ps (last_vector vs) v h) (stand_order xs ps vs h)

  stand_at : (q : ℕ) (xs : List A) (ps : List (ℕ × ℕ)) → Stand xs ps → at_seq q xs ≡ option_and_then (λ p. record_at p.0 p.1 shards) (at_seq q ps)
  stand_at q [] [] h = refl
  stand_at q [] (p ∷ ps) h = absurd h
  stand_at q (x ∷ xs) [] h = absurd h
  stand_at q (x ∷ xs) (p ∷ ps) h =
      ap (λ n. cond (eqb q (suc n)) (Some x) (at_seq q xs)) (stand_length xs ps h.1) ∙ at (stand_at q xs ps h.1) (eqb q (suc (length ps)))
    where
      at : at_seq q xs ≡ option_and_then (λ p. record_at p.0 p.1 shards) (at_seq q ps) → (t : Bool) → cond t (Some x) (at_seq q xs) ≡ option_and_then (λ p. record_at p.0 p.1 shards) (cond t (Some p) (at_seq q ps))
      at ih true = sym h.0
      at ih false = ih

first_of_drop : {X : Type 0} (n : ℕ) (xs ys : List X) (y : X) → drop n xs ≡ y ∷ ys → slice_get xs n ≡ Some y
first_of_drop zero [] ys y e = cc
first_of_drop (suc n) [] ys y e = cc
first_of_drop zero (x ∷ xs) ys y e = cc
first_of_drop (suc n) (x ∷ xs) ys y e = first_of_drop n xs ys y e

rest_of_drop : {X : Type 0} (n : ℕ) (xs ys : List X) (y : X) → drop n xs ≡ y ∷ ys → drop (suc n) xs ≡ ys
rest_of_drop zero [] ys y e = cc
rest_of_drop (suc n) [] ys y e = cc
rest_of_drop zero (x ∷ xs) ys y e = cc
rest_of_drop (suc n) (x ∷ xs) ys y e = rest_of_drop n xs ys y e

module _ {A : Type 0} (shards : List (List A)) where
  stand_places : (k j : ℕ) (s zs : List A) → slice_get shards k ≡ Some s → drop j s ≡ zs → Stand shards zs (locations_from (suc k) j zs)
  stand_places k j s [] is rest = tt
  stand_places k j s (z ∷ zs) is rest = (ap (option_and_then (local_record (suc j))) is ∙ first_of_drop j s zs z rest, stand_places k (suc j) s zs is (rest_of_drop j s zs z rest))

  all_stand : (k : ℕ) (ss : List (List A)) → drop k shards ≡ ss → AllStand shards ss (locations k ss)
  all_stand k [] rest = tt
  all_stand k (s ∷ ss) rest = (stand_places k 0 s s (first_of_drop k shards ss s rest) refl, all_stand (suc k) ss (rest_of_drop k shards ss s rest))

  pub stands : (vectors : List (List ℕ)) (q : ℕ) → at_seq q (order shards vectors) ≡ option_and_then (λ p. record_at p.0 p.1 shards) (locate q shards vectors)
  stands vectors q = stand_at shards q (order shards vectors) (ordered_locations shards vectors) (stand_order shards shards (locations 0 shards) vectors (all_stand 0 shards refl))

  pub tell_each_other : (vectors : List (List ℕ)) → CountsGrow vectors → ShardsHave shards (last_vector vectors) → AreInverse shards vectors
  tell_each_other vectors grow have = record {
    located = λ x l q is. seq_in_located x l q (ordered_locations shards vectors) is;
    numbered = λ x l q is. numbered shards x l q vectors grow have is;
    stands = stands vectors;
  }
