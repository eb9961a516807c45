-- The order of shards whose records are mapped.
use Rattle.std.proofs.Common.{◌≡◌, ℕ, zero, suc, ◌≤◌, Bool, true, false, cond, eqb, List, [], ◌∷◌, ◌++◌, length, take, drop, reverse, map, Some, option_map, refl, sym, ap, ◌∙◌, subst}
use Rattle.std.specs.Prelude.{slice_index_or}
use Rattle.boki_model.specs.Order.{first_count, other_counts, records_between, entry_records, last_vector, order, entry_records_from_oldest, order_from_oldest, least_count, progress, ordered_locations, seq_in, at_seq}
use Rattle.boki_model.specs.OrderLaws.{ShardsHave, add_to}
use Rattle.boki_model.proofs.Cuts.{same_places}
use Rattle.log_folds.specs.Contents.{IsOrderedAlike}
use Rattle.log_folds.proofs.Maps.{length-mapped, map-appended, map-reversed, map-taken, map-dropped}

module _ {X Y : Type 0} (g : X → Y) where
  between_mapped : (old new : ℕ) (s : List X) → records_between old new (map g s) ≡ map g (records_between old new s)
  between_mapped old new s = ap (drop old) (map-taken g new s) ∙ map-dropped g old (take new s)

  added_mapped :
      (shards : List (List X)) (old new : List ℕ)
      → entry_records (map (map g) shards) old new ≡ map g (entry_records shards old new)
  added_mapped [] old new = refl
  added_mapped (s ∷ ss) old new =
      ap (λ l. entry_records (map (map g) ss) (other_counts old) (other_counts new) ++ reverse l) (between_mapped (first_count old) (first_count new) s)
      ∙ ap (λ l. entry_records (map (map g) ss) (other_counts old) (other_counts new) ++ l) (sym (map-reversed g (records_between (first_count old) (first_count new) s)))
      ∙ ap (λ l. l ++ map g (reverse (records_between (first_count old) (first_count new) s))) (added_mapped ss (other_counts old) (other_counts new))
      ∙ sym (map-appended g (entry_records ss (other_counts old) (other_counts new)) (reverse (records_between (first_count old) (first_count new) s)))

  pub order_mapped :
      (shards : List (List X)) (vectors : List (List ℕ))
      → order (map (map g) shards) vectors ≡ map g (order shards vectors)
  order_mapped shards [] = refl
  order_mapped shards (v ∷ vs) =
      ap (λ l. l ++ order (map (map g) shards) vs) (added_mapped shards (last_vector vs) v)
      ∙ ap (λ l. map g (entry_records shards (last_vector vs) v) ++ l) (order_mapped shards vs)
      ∙ sym (map-appended g (entry_records shards (last_vector vs) v) (order shards vs))

  added_in_order_mapped :
      (shards : List (List X)) (old new : List ℕ)
      → entry_records_from_oldest (map (map g) shards) old new ≡ map g (entry_records_from_oldest shards old new)
  added_in_order_mapped [] old new = refl
  added_in_order_mapped (s ∷ ss) old new =
      ap (λ l. l ++ entry_records_from_oldest (map (map g) ss) (other_counts old) (other_counts new)) (between_mapped (first_count old) (first_count new) s)
      ∙ ap (λ l. map g (records_between (first_count old) (first_count new) s) ++ l) (added_in_order_mapped ss (other_counts old) (other_counts new))
      ∙ sym (map-appended g (records_between (first_count old) (first_count new) s) (entry_records_from_oldest ss (other_counts old) (other_counts new)))

  in_order_mapped :
      (shards : List (List X)) (last : List ℕ) (vectors : List (List ℕ))
      → order_from_oldest (map (map g) shards) last vectors ≡ map g (order_from_oldest shards last vectors)
  in_order_mapped shards last [] = refl
  in_order_mapped shards last (v ∷ vs) =
      ap (λ l. l ++ order_from_oldest (map (map g) shards) v vs) (added_in_order_mapped shards last v)
      ∙ ap (λ l. map g (entry_records_from_oldest shards last v) ++ l) (in_order_mapped shards v vs)
      ∙ sym (map-appended g (entry_records_from_oldest shards last v) (order_from_oldest shards v vs))

  progress_mapped :
      (shards : List (List X)) (counts : List (List ℕ))
      → progress (map (map g) shards) counts ≡ progress shards counts
  progress_mapped [] counts = refl
  progress_mapped (s ∷ ss) [] = (λ i. length-mapped g s i ∷ progress_mapped ss [] i)
  progress_mapped (s ∷ ss) (c ∷ cs) = (λ i. least_count (length-mapped g s i) c ∷ progress_mapped ss cs i)

  lengths_mapped : (shards : List (List X)) → map length (map (map g) shards) ≡ map length shards
  lengths_mapped [] = refl
  lengths_mapped (s ∷ ss) = (λ i. length-mapped g s i ∷ lengths_mapped ss i)

  have_mapped : (shards : List (List X)) (v : List ℕ) → ShardsHave shards v → ShardsHave (map (map g) shards) v
  have_mapped [] v have = tt
  have_mapped (s ∷ ss) v have = (subst (λ n. first_count v ≤ n) (sym (length-mapped g s)) have.0, have_mapped ss (other_counts v) have.1)

  had_mapped : (shards : List (List X)) (v : List ℕ) → ShardsHave (map (map g) shards) v → ShardsHave shards v
  had_mapped [] v have = tt
  had_mapped (s ∷ ss) v have = (subst (λ n. first_count v ≤ n) (length-mapped g s) have.0, had_mapped ss (other_counts v) have.1)

  pub at_seq_mapped : (seq : ℕ) (xs : List X) → at_seq seq (map g xs) ≡ option_map g (at_seq seq xs)
  at_seq_mapped seq [] = refl
  at_seq_mapped seq (x ∷ xs) = ap (λ n. cond (eqb seq (suc n)) (Some (g x)) (at_seq seq (map g xs))) (length-mapped g xs) ∙ at (at_seq_mapped seq xs) (eqb seq (suc (length xs)))
    where
      at :
          at_seq seq (map g xs) ≡ option_map g (at_seq seq xs) → (b : Bool)
          → cond b (Some (g x)) (at_seq seq (map g xs)) ≡ option_map g (cond b (Some x) (at_seq seq xs))
      at ih true = refl
      at ih false = ih

  shard_mapped :
      (shards : List (List X)) (k : ℕ)
      → slice_index_or (map (map g) shards) k [] ≡ map g (slice_index_or shards k [])
  shard_mapped [] k = refl
  shard_mapped (s ∷ ss) zero = refl
  shard_mapped (s ∷ ss) (suc k) = shard_mapped ss k

  add_to_mapped :
      (shards : List (List X)) (k : ℕ) (r : X)
      → add_to k (g r) (map (map g) shards) ≡ map (map g) (add_to k r shards)
  add_to_mapped [] k r = refl
  add_to_mapped (s ∷ ss) zero r = ap (λ l. l ∷ map (map g) ss) (sym (map-appended g s (r ∷ [])))
  add_to_mapped (s ∷ ss) (suc k) r = ap (λ l. map g s ∷ l) (add_to_mapped ss k r)

  module _ (shards : List (List X)) where
    places_mapped :
        (vectors : List (List ℕ))
        → ordered_locations (map (map g) shards) vectors ≡ ordered_locations shards vectors
    places_mapped vectors = same_places (map (map g) shards) shards vectors (lengths_mapped shards)

    pub ordered_alike : IsOrderedAlike g shards
    ordered_alike = record {
      newest_first = order_mapped shards;
      oldest_first = in_order_mapped shards;
      cut = progress_mapped shards;
      have = have_mapped shards;
      had = had_mapped shards;
      places = places_mapped;
      seqnum = λ shard local vectors. ap (seq_in shard local) (places_mapped vectors);
      place = λ seq vectors. ap (at_seq seq) (places_mapped vectors);
      stands = λ seq vectors. ap (at_seq seq) (order_mapped shards vectors) ∙ at_seq_mapped seq (order shards vectors);
      one_shard = shard_mapped shards;
      one_more = add_to_mapped shards;
    }
