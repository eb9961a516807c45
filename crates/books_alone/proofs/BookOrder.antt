-- The order of what is picked is what is picked of the order.
use Rattle.std.proofs.Common.{◌≡◌, ℕ, zero, suc, ◌≤◌, Bool, true, false, cond, eqb, List, [], ◌∷◌, ◌++◌, length, take, drop, reverse, map, refl, sym, ap, ◌∙◌, arith}
use Rattle.std.specs.List.{AllByRecursion}
use Rattle.std.proofs.lemmas.Bool.{eqb-true, eq-eqb, and_parts}
use Rattle.std.proofs.lemmas.List.{take-append-le}
use Rattle.boki_model.specs.Order.{first_count, other_counts, records_between, entry_records, last_vector, order}
use Rattle.boki_model.specs.OrderLaws.{AreAtMost, CountsGrow, ShardsHave, add_to}
use Rattle.boki_model.proofs.Orders.{have_less}
use Rattle.boki_model.specs.Entries.{same_counts}
use Rattle.books_alone.specs.Books.{selected, count_selected, own_vector, own_vectors}
use Rattle.books_alone.proofs.Picked.{picked-append, picked-reverse, take_picked, drop_picked, how_many_take, each_append, each_take, each_drop, each_reverse}

-- Vectors with the same counts.

pub same_itself : (v : List ℕ) → same_counts v v ≡ true
same_itself [] = refl
same_itself (n ∷ ns) = rw (eq-eqb n n refl) (same_itself ns)

module _ {X : Type 0} where
  -- an entry behind a vector adds the same behind another with the same counts
  added_same : (shards : List (List X)) (u w new : List ℕ) → length u ≡ length shards → same_counts u w ≡ true → entry_records shards u new ≡ entry_records shards w new
  added_same [] u w new e same = refl
  added_same (s ∷ ss) [] w new e same = absurd (omega arith)
  added_same (s ∷ ss) (n ∷ ns) w new e same =
      let parts = and_parts (eqb n (first_count w)) (same_counts ns (other_counts w)) same in
      ap (λ k. entry_records ss ns (other_counts new) ++ reverse (records_between k (first_count new) s)) (eqb-true n (first_count w) parts.0)
      ∙ ap (λ l. l ++ reverse (records_between (first_count w) (first_count new) s)) (added_same ss ns (other_counts w) (other_counts new) (omega arith) parts.1)

module _ {X Y : Type 0} (keep : X → Bool) (look : X → Y) where
  abbrev pub part : List X → List Y
  part xs = selected keep look xs

  picked_between : (o n : ℕ) (s : List X) → o ≤ n → records_between (count_selected keep (take o s)) (count_selected keep (take n s)) (part s) ≡ part (records_between o n s)
  picked_between o n s le =
      ap (drop (count_selected keep (take o s))) (take_picked keep look n s)
      ∙ ap (λ k. drop k (part (take n s))) (sym (how_many_take keep o n s le))
      ∙ drop_picked keep look o (take n s)

  -- One entry.
  pub picked_added : (shards : List (List X)) (old new : List ℕ) → AreAtMost old new → entry_records (map part shards) (own_vector keep shards old) (own_vector keep shards new) ≡ part (entry_records shards old new)
  picked_added [] old new most = refl
  picked_added (s ∷ ss) [] new most =
      ap (λ l. l ++ reverse (records_between (count_selected keep (take 0 s)) (count_selected keep (take (first_count new) s)) (part s))) (picked_added ss [] (other_counts new) tt)
      ∙ ap (λ l. part (entry_records ss [] (other_counts new)) ++ reverse l) (picked_between 0 (first_count new) s (omega arith))
      ∙ ap (λ l. part (entry_records ss [] (other_counts new)) ++ l) (sym (picked-reverse keep look (records_between 0 (first_count new) s)))
      ∙ sym (picked-append keep look (entry_records ss [] (other_counts new)) (reverse (records_between 0 (first_count new) s)))
  picked_added (s ∷ ss) (n ∷ ns) new most =
      ap (λ l. l ++ reverse (records_between (count_selected keep (take n s)) (count_selected keep (take (first_count new) s)) (part s))) (picked_added ss ns (other_counts new) most.1)
      ∙ ap (λ l. part (entry_records ss ns (other_counts new)) ++ reverse l) (picked_between n (first_count new) s most.0)
      ∙ ap (λ l. part (entry_records ss ns (other_counts new)) ++ l) (sym (picked-reverse keep look (records_between n (first_count new) s)))
      ∙ sym (picked-append keep look (entry_records ss ns (other_counts new)) (reverse (records_between n (first_count new) s)))

  length-own_vector : (shards : List (List X)) (v : List ℕ) → length (own_vector keep shards v) ≡ length shards
  length-own_vector [] v = refl
  length-own_vector (s ∷ ss) v = ap suc (length-own_vector ss (other_counts v))

  length-map : (shards : List (List X)) → length (map part shards) ≡ length shards
  length-map [] = refl
  length-map (s ∷ ss) = ap suc (length-map ss)

  none_counted : (shards : List (List X)) → same_counts (own_vector keep shards []) [] ≡ true
  none_counted [] = refl
  none_counted (s ∷ ss) = none_counted ss

  -- the last of the picked vectors counts what is picked by the last vector
  pub last_same : (shards : List (List X)) (vectors : List (List ℕ)) → same_counts (own_vector keep shards (last_vector vectors)) (last_vector (own_vectors keep shards vectors)) ≡ true
  last_same shards [] = none_counted shards
  last_same shards (v ∷ vs) = at (same_counts (own_vector keep shards v) (last_vector (own_vectors keep shards vs))) refl
    where
      at : (t : Bool) → same_counts (own_vector keep shards v) (last_vector (own_vectors keep shards vs)) ≡ t
          → same_counts (own_vector keep shards v) (last_vector (cond t (own_vectors keep shards vs) (own_vector keep shards v ∷ own_vectors keep shards vs))) ≡ true
      at true e = e
      at false e = same_itself (own_vector keep shards v)

  nothing_between : (n : ℕ) (s : List Y) → records_between n n s ≡ []
  nothing_between zero s = refl
  nothing_between (suc n) [] = refl
  nothing_between (suc n) (y ∷ s) = nothing_between n s

  nothing_added : (shards : List (List Y)) (v : List ℕ) → entry_records shards v v ≡ []
  nothing_added [] v = refl
  nothing_added (s ∷ ss) v = ap (λ l. l ++ reverse (records_between (first_count v) (first_count v) s)) (nothing_added ss (other_counts v)) ∙ ap reverse (nothing_between (first_count v) s)

  -- with the same counts as those before, nothing is added
  same_added : (shards : List (List Y)) (u w : List ℕ) → length u ≡ length shards → same_counts u w ≡ true → entry_records shards w u ≡ []
  same_added shards u w e same = sym (added_same shards u w u e same) ∙ nothing_added shards u

  -- All entries.
  pub order_picked : (shards : List (List X)) (vectors : List (List ℕ)) → CountsGrow vectors → order (map part shards) (own_vectors keep shards vectors) ≡ part (order shards vectors)
  order_picked shards [] grow = refl
  order_picked shards (v ∷ vs) grow =
      at (same_counts (own_vector keep shards v) (last_vector (own_vectors keep shards vs))) refl (order_picked shards vs grow.1)
      ∙ sym (picked-append keep look (entry_records shards (last_vector vs) v) (order shards vs))
    where
      sized : (u : List ℕ) → length (own_vector keep shards u) ≡ length (map part shards)
      sized u = length-own_vector shards u ∙ sym (length-map shards)

      this : entry_records (map part shards) (last_vector (own_vectors keep shards vs)) (own_vector keep shards v) ≡ part (entry_records shards (last_vector vs) v)
      this =
          sym (added_same (map part shards) (own_vector keep shards (last_vector vs)) (last_vector (own_vectors keep shards vs)) (own_vector keep shards v) (sized (last_vector vs)) (last_same shards vs))
          ∙ picked_added shards (last_vector vs) v grow.0

      at : (t : Bool) → same_counts (own_vector keep shards v) (last_vector (own_vectors keep shards vs)) ≡ t
          → order (map part shards) (own_vectors keep shards vs) ≡ part (order shards vs)
          → order (map part shards) (cond t (own_vectors keep shards vs) (own_vector keep shards v ∷ own_vectors keep shards vs)) ≡ part (entry_records shards (last_vector vs) v) ++ part (order shards vs)
      at true e ih =
          ih ∙ ap (λ l. l ++ part (order shards vs)) (sym (same_added (map part shards) (own_vector keep shards v) (last_vector (own_vectors keep shards vs)) (sized v) e) ∙ this)
      at false e ih = ap (λ l. l ++ order (map part shards) (own_vectors keep shards vs)) this ∙ ap (λ l. part (entry_records shards (last_vector vs) v) ++ l) ih

-- Appends and cuts.

module _ {X : Type 0} (keep : X → Bool) where
  vector_stays : (k : ℕ) (r : X) (shards : List (List X)) (v : List ℕ) → ShardsHave shards v → own_vector keep (add_to k r shards) v ≡ own_vector keep shards v
  vector_stays k r [] v have = refl
  vector_stays zero r (s ∷ ss) v have = ap (λ l. count_selected keep l ∷ own_vector keep ss (other_counts v)) (take-append-le (first_count v) s (r ∷ []) have.0)
  vector_stays (suc k) r (s ∷ ss) v have = ap (λ l. count_selected keep (take (first_count v) s) ∷ l) (vector_stays k r ss (other_counts v) have.1)

  -- a record that is appended changes none of the counts
  pub vectors_stay : (k : ℕ) (r : X) (shards : List (List X)) (vectors : List (List ℕ)) → CountsGrow vectors → ShardsHave shards (last_vector vectors) → own_vectors keep (add_to k r shards) vectors ≡ own_vectors keep shards vectors
  vectors_stay k r shards [] grow have = refl
  vectors_stay k r shards (v ∷ vs) grow have =
      let ih = vectors_stay k r shards vs grow.1 (have_less shards (last_vector vs) v grow.0 have) in
      let e = vector_stays k r shards v have in
      ap (λ l. cond (same_counts (own_vector keep (add_to k r shards) v) (last_vector l)) l (own_vector keep (add_to k r shards) v ∷ l)) ih
      ∙ ap (λ u. cond (same_counts u (last_vector (own_vectors keep shards vs))) (own_vectors keep shards vs) (u ∷ own_vectors keep shards vs)) e

  -- vectors with the same counts pick the same
  pub vector_same : (shards : List (List X)) (u w : List ℕ) → length u ≡ length shards → same_counts u w ≡ true → own_vector keep shards u ≡ own_vector keep shards w
  vector_same [] u w e same = refl
  vector_same (s ∷ ss) [] w e same = absurd (omega arith)
  vector_same (s ∷ ss) (n ∷ ns) w e same =
      let parts = and_parts (eqb n (first_count w)) (same_counts ns (other_counts w)) same in
      ap (λ k. count_selected keep (take k s) ∷ own_vector keep ss ns) (eqb-true n (first_count w) parts.0)
      ∙ ap (λ l. count_selected keep (take (first_count w) s) ∷ l) (vector_same ss ns (other_counts w) (omega arith) parts.1)

-- What holds of each record of the shards holds of each that is ordered.
module _ {X : Type 0} (P : X → Type 0) where
  abbrev pub EachOf : List (List X) → Type 0
  EachOf shards = AllByRecursion (λ s. AllByRecursion P s) shards

  each_added : (shards : List (List X)) (old new : List ℕ) → EachOf shards → AllByRecursion P (entry_records shards old new)
  each_added [] old new all = tt
  each_added (s ∷ ss) old new all =
      each_append P (entry_records ss (other_counts old) (other_counts new)) (reverse (records_between (first_count old) (first_count new) s))
      (each_added ss (other_counts old) (other_counts new) all.1)
      (each_reverse P (records_between (first_count old) (first_count new) s) (each_drop P (first_count old) (take (first_count new) s) (each_take P (first_count new) s all.0)))

  pub each_ordered : (shards : List (List X)) (vectors : List (List ℕ)) → EachOf shards → AllByRecursion P (order shards vectors)
  each_ordered shards [] all = tt
  each_ordered shards (v ∷ vs) all = each_append P (entry_records shards (last_vector vs) v) (order shards vs) (each_added shards (last_vector vs) v all) (each_ordered shards vs all)
