-- What holds of each record: of the shards, so of the ordered ones; of a log, so of the live ones; and so
-- of those that are seen, or that carry a tag.
use Rattle.std.proofs.Common.{ℕ, zero, suc, Bool, true, false, cond, leb, List, [], ◌∷◌, ◌++◌, length, take, drop, reverse, sym, subst}
use Rattle.std.specs.List.{filter, AllByRecursion}
use mathlib.Core.List.{reverse-cons}
use Rattle.lb_base.specs.declared.value.Tag.{Tag}
use Rattle.boki_model.specs.Order.{first_count, other_counts, records_between, entry_records, last_vector, order}
use Rattle.boki_model.specs.Live.{LogRecord, Live, meets_condition, live, upto}

module _ {X : Type 0} (P : X → Type 0) where
  pub each_append : (xs ys : List X) → AllByRecursion P xs → AllByRecursion P ys → AllByRecursion P (xs ++ ys)
  each_append [] ys one two = two
  each_append (x ∷ xs) ys one two = (one.0, each_append xs ys one.1 two)

  pub each_take : (n : ℕ) (xs : List X) → AllByRecursion P xs → AllByRecursion P (take n xs)
  each_take zero xs all = tt
  each_take (suc n) [] all = tt
  each_take (suc n) (x ∷ xs) all = (all.0, each_take n xs all.1)

  each_drop : (n : ℕ) (xs : List X) → AllByRecursion P xs → AllByRecursion P (drop n xs)
  each_drop zero xs all = all
  each_drop (suc n) [] all = tt
  each_drop (suc n) (x ∷ xs) all = each_drop n xs all.1

  each_reverse : (xs : List X) → AllByRecursion P xs → AllByRecursion P (reverse xs)
  each_reverse [] all = tt
  each_reverse (x ∷ xs) all = subst (AllByRecursion P) (sym (reverse-cons x xs)) (each_append (reverse xs) (x ∷ []) (each_reverse xs all.1) (all.0, tt))

  pub each_filtered :
      (test : X → Bool) (xs : List X) → AllByRecursion P xs → AllByRecursion P (filter test xs)
  each_filtered test [] all = tt
  each_filtered test (x ∷ xs) all = at (each_filtered test xs all.1) (test x)
    where
      at :
          AllByRecursion P (filter test xs) → (b : Bool)
          → AllByRecursion P (cond b (x ∷ filter test xs) (filter test xs))
      at rest true = (all.0, rest)
      at rest false = rest

  each_added :
      (shards : List (List X)) (old new : List ℕ) → AllByRecursion (AllByRecursion P) shards
      → AllByRecursion P (entry_records shards old new)
  each_added [] old new all = tt
  each_added (s ∷ ss) old new all =
      each_append (entry_records ss (other_counts old) (other_counts new)) (reverse (records_between (first_count old) (first_count new) s))
      (each_added ss (other_counts old) (other_counts new) all.1)
      (each_reverse (records_between (first_count old) (first_count new) s) (each_drop (first_count old) (take (first_count new) s) (each_take (first_count new) s all.0)))

  pub each_ordered :
      (shards : List (List X)) (vectors : List (List ℕ)) → AllByRecursion (AllByRecursion P) shards
      → AllByRecursion P (order shards vectors)
  each_ordered shards [] all = tt
  each_ordered shards (v ∷ vs) all = each_append (entry_records shards (last_vector vs) v) (order shards vs) (each_added shards (last_vector vs) v all) (each_ordered shards vs all)

module _ {A : Type 0} where
  pub each_live :
      (P : List Tag → A → Type 0) (log : List (LogRecord A)) → AllByRecursion (λ r. P r.tags r.holds) log
      → AllByRecursion (λ x. P x.tags x.holds) (live log)
  each_live P [] all = tt
  each_live P (r ∷ log) all = at (each_live P log all.1) (meets_condition r.condition (live log))
    where
      at :
          AllByRecursion (λ x. P x.tags x.holds) (live log) → (b : Bool)
          → AllByRecursion (λ x. P x.tags x.holds) (cond b (record { seq = suc (length log); tags = r.tags; holds = r.holds } ∷ live log) (live log))
      at rest true = (all.0, rest)
      at rest false = rest

  pub each_upto :
      (P : Live A → Type 0) (p : ℕ) (xs : List (Live A)) → AllByRecursion P xs
      → AllByRecursion P (upto p xs)
  each_upto P p [] all = tt
  each_upto P p (x ∷ xs) all = at (each_upto P p xs all.1) (leb x.seq p)
    where
      at : AllByRecursion P (upto p xs) → (b : Bool) → AllByRecursion P (cond b (x ∷ xs) (upto p xs))
      at rest true = all
      at rest false = rest
