-- What is picked of a list, of its parts and of its reverse.
use Rattle.std.proofs.Common.{◌≡◌, ℕ, zero, suc, ◌≤◌, Bool, true, false, cond, List, [], ◌∷◌, ◌++◌, length, take, drop, reverse, map, refl, sym, ap, ◌∙◌, arith}
use Rattle.std.specs.List.{AllByRecursion}
use Rattle.std.specs.Prelude.{slice_index_or, slice_set}
use mathlib.Core.List.{reverse-cons}
use Rattle.books_alone.specs.Books.{selected, count_selected}

module _ {X Y : Type 0} (keep : X → Bool) (look : X → Y) where
  pub length-picked : (xs : List X) → length (selected keep look xs) ≡ count_selected keep xs
  length-picked [] = refl
  length-picked (x ∷ xs) = at (keep x) (length-picked xs)
    where
      at : (t : Bool) → length (selected keep look xs) ≡ count_selected keep xs → length (cond t (look x ∷ selected keep look xs) (selected keep look xs)) ≡ cond t (suc (count_selected keep xs)) (count_selected keep xs)
      at true ih = ap suc ih
      at false ih = ih

  pub picked-append : (xs ys : List X) → selected keep look (xs ++ ys) ≡ selected keep look xs ++ selected keep look ys
  picked-append [] ys = refl
  picked-append (x ∷ xs) ys = at (keep x) (picked-append xs ys)
    where
      at : (t : Bool) → selected keep look (xs ++ ys) ≡ selected keep look xs ++ selected keep look ys
          → cond t (look x ∷ selected keep look (xs ++ ys)) (selected keep look (xs ++ ys)) ≡ cond t (look x ∷ selected keep look xs) (selected keep look xs) ++ selected keep look ys
      at true ih = ap (λ l. look x ∷ l) ih
      at false ih = ih

  pub picked-reverse : (xs : List X) → selected keep look (reverse xs) ≡ reverse (selected keep look xs)
  picked-reverse [] = refl
  picked-reverse (x ∷ xs) =
      ap (selected keep look) (reverse-cons x xs)
      ∙ picked-append (reverse xs) (x ∷ [])
      ∙ at (keep x) (picked-reverse xs)
    where
      append_none : (l : List Y) → l ++ [] ≡ l
      append_none [] = refl
      append_none (y ∷ l) = ap (λ k. y ∷ k) (append_none l)

      at : (t : Bool) → selected keep look (reverse xs) ≡ reverse (selected keep look xs)
          → selected keep look (reverse xs) ++ cond t (look x ∷ []) [] ≡ reverse (cond t (look x ∷ selected keep look xs) (selected keep look xs))
      at true ih = ap (λ l. l ++ look x ∷ []) ih ∙ sym (reverse-cons (look x) (selected keep look xs))
      at false ih = append_none (selected keep look (reverse xs)) ∙ ih

  pub take_picked : (n : ℕ) (xs : List X) → take (count_selected keep (take n xs)) (selected keep look xs) ≡ selected keep look (take n xs)
  take_picked zero xs = refl
  take_picked (suc n) [] = refl
  take_picked (suc n) (x ∷ xs) = at (keep x) (take_picked n xs)
    where
      at : (t : Bool) → take (count_selected keep (take n xs)) (selected keep look xs) ≡ selected keep look (take n xs)
          → take (cond t (suc (count_selected keep (take n xs))) (count_selected keep (take n xs))) (cond t (look x ∷ selected keep look xs) (selected keep look xs))
          ≡ cond t (look x ∷ selected keep look (take n xs)) (selected keep look (take n xs))
      at true ih = ap (λ l. look x ∷ l) ih
      at false ih = ih

  pub drop_picked : (n : ℕ) (xs : List X) → drop (count_selected keep (take n xs)) (selected keep look xs) ≡ selected keep look (drop n xs)
  drop_picked zero xs = refl
  drop_picked (suc n) [] = refl
  drop_picked (suc n) (x ∷ xs) = at (keep x) (drop_picked n xs)
    where
      at : (t : Bool) → drop (count_selected keep (take n xs)) (selected keep look xs) ≡ selected keep look (drop n xs)
          → drop (cond t (suc (count_selected keep (take n xs))) (count_selected keep (take n xs))) (cond t (look x ∷ selected keep look xs) (selected keep look xs))
          ≡ selected keep look (drop n xs)
      at true ih = ih
      at false ih = ih

module _ {X : Type 0} (keep : X → Bool) where
  -- the first o of the first n are the first o
  pub how_many_take : (o n : ℕ) (xs : List X) → o ≤ n → count_selected keep (take o (take n xs)) ≡ count_selected keep (take o xs)
  how_many_take zero n xs le = refl
  how_many_take (suc o) zero xs le = absurd (omega arith)
  how_many_take (suc o) (suc n) [] le = refl
  how_many_take (suc o) (suc n) (x ∷ xs) le = ap (λ k. cond (keep x) (suc k) k) (how_many_take o n xs (omega arith))

  pub how_many_push : (x : X) (xs : List X) → count_selected keep (xs ++ x ∷ []) ≡ cond (keep x) (suc (count_selected keep xs)) (count_selected keep xs)
  how_many_push x [] = refl
  how_many_push x (y ∷ ys) = ap (λ k. cond (keep y) (suc k) k) (how_many_push x ys) ∙ at (keep y) (keep x)
    where
      at : (t u : Bool) → cond t (suc (cond u (suc (count_selected keep ys)) (count_selected keep ys))) (cond u (suc (count_selected keep ys)) (count_selected keep ys))
          ≡ cond u (suc (cond t (suc (count_selected keep ys)) (count_selected keep ys))) (cond t (suc (count_selected keep ys)) (count_selected keep ys))
      at true true = refl
      at true false = refl
      at false true = refl
      at false false = refl

-- Lists of lists, of which one is set.

pub map_set : {X Y : Type 0} (f : X → Y) (k : ℕ) (x : X) (xs : List X) → map f (slice_set xs k x) ≡ slice_set (map f xs) k (f x)
map_set f k x [] = refl
map_set f zero x (y ∷ ys) = refl
map_set f (suc k) x (y ∷ ys) = ap (λ l. f y ∷ l) (map_set f k x ys)

pub map_at : {X Y : Type 0} (f : X → Y) (k : ℕ) (xs : List X) (d : X) → slice_index_or (map f xs) k (f d) ≡ f (slice_index_or xs k d)
map_at f k [] d = refl
map_at f zero (y ∷ ys) d = refl
map_at f (suc k) (y ∷ ys) d = map_at f k ys d

pub set_same : {X : Type 0} (k : ℕ) (xs : List X) (d : X) → slice_set xs k (slice_index_or xs k d) ≡ xs
set_same k [] d = refl
set_same zero (y ∷ ys) d = refl
set_same (suc k) (y ∷ ys) d = ap (λ l. y ∷ l) (set_same k ys d)

pub append_none : {X : Type 0} (xs : List X) → xs ++ [] ≡ xs
append_none [] = refl
append_none (x ∷ xs) = ap (λ l. x ∷ l) (append_none xs)

-- What holds of each element holds of each of its parts.
module _ {X : Type 0} (P : X → Type 0) where
  pub each_append : (xs ys : List X) → AllByRecursion P xs → AllByRecursion P ys → AllByRecursion P (xs ++ ys)
  each_append [] ys one two = two
  each_append (x ∷ xs) ys one two = (one.0, each_append xs ys one.1 two)

  pub each_take : (n : ℕ) (xs : List X) → AllByRecursion P xs → AllByRecursion P (take n xs)
  each_take zero xs all = tt
  each_take (suc n) [] all = tt
  each_take (suc n) (x ∷ xs) all = (all.0, each_take n xs all.1)

  pub each_drop : (n : ℕ) (xs : List X) → AllByRecursion P xs → AllByRecursion P (drop n xs)
  each_drop zero xs all = all
  each_drop (suc n) [] all = tt
  each_drop (suc n) (x ∷ xs) all = each_drop n xs all.1

  pub each_reverse : (xs : List X) → AllByRecursion P xs → AllByRecursion P (reverse xs)
  each_reverse [] all = tt
  each_reverse (x ∷ xs) all = rw reverse-cons (each_append (reverse xs) (x ∷ []) (each_reverse xs all.1) (all.0, tt))

  pub each_set : (k : ℕ) (x : X) (xs : List X) → P x → AllByRecursion P xs → AllByRecursion P (slice_set xs k x)
  each_set k x [] one all = tt
  each_set zero x (y ∷ ys) one all = (one, all.1)
  each_set (suc k) x (y ∷ ys) one all = (all.0, each_set k x ys one all.1)

  pub each_at : (k : ℕ) (xs : List X) (d : X) → P d → AllByRecursion P xs → P (slice_index_or xs k d)
  each_at k [] d one all = one
  each_at zero (y ∷ ys) d one all = all.0
  each_at (suc k) (y ∷ ys) d one all = each_at k ys d one all.1

pub each_weaker : {X : Type 0} (P Q : X → Type 0) → ((x : X) → P x → Q x) → (xs : List X) → AllByRecursion P xs → AllByRecursion Q xs
each_weaker P Q f [] all = tt
each_weaker P Q f (x ∷ xs) all = (f x all.0, each_weaker P Q f xs all.1)
