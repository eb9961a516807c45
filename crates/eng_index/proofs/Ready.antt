-- Lists that have room, and lists to which a seqnum was added.
use Rattle.std.proofs.Common.{◌≡◌, ◌⊎◌, inr, ℕ, ◌-◌, ◌<◌, Bool, true, false, cond, ◌||◌, eqb, List, [], ◌∷◌, ◌++◌, length, slice_get, Option, Some, None, refl, sym, ap, ◌∙◌, subst, arith}
use Rattle.std.specs.Option.{option_map_or, IsSomeAnd}
use Rattle.std.specs.HashMap.{HashMap, get}
use Rattle.std.specs.declared.vec.Vec.{Vec}
use Rattle.std.specs.Vec.{vec_len, vec_capacity}
use Rattle.std.proofs.lemmas.Bool.{eqb-true, eq-eqb}
use Rattle.std.proofs.lemmas.List.{length_push}
use Rattle.boki_model.proofs.Logs.{slice_get_push}
use Rattle.eng_index.specs.Lists.{ends_with, with_last, HasRoom, IsReady}

module _ {S Z : Type 0} where
  pub ready_with_room : (seq tag : ℕ) (m : HashMap ℕ (Vec ℕ Z) S) → HasRoom tag m → IsReady seq tag m
  ready_with_room seq tag m = at (get eqb m tag)
    where
      at : (o : Option (Vec ℕ Z)) → IsSomeAnd o (λ v. vec_len v < vec_capacity v) → IsSomeAnd o (λ v. (ends_with seq v.items ≡ true) ⊎ (vec_len v < vec_capacity v))
      at None h = h
      at (Some v) h = inr h

pub ends_behind : (seq : ℕ) (xs : List ℕ) → ends_with seq (xs ++ seq ∷ []) ≡ true
ends_behind seq xs =
    ap (λ n. option_map_or (λ last. eqb last seq) (slice_get (xs ++ seq ∷ []) n) false) (let e : length (xs ++ seq ∷ []) - 1 ≡ length xs = omega (arith, length_push xs seq) in e)
    ∙ ap (λ o. option_map_or (λ last. eqb last seq) o false) (slice_get_push xs seq (length xs))
    ∙ ap (λ b. option_map_or (λ last. eqb last seq) (cond b (Some seq) (slice_get xs (length xs))) false) (eq-eqb (length xs) (length xs) refl)
    ∙ eq-eqb seq seq refl

pub with_last_ends : (seq : ℕ) (xs : List ℕ) → ends_with seq (with_last seq xs) ≡ true
with_last_ends seq xs = at (ends_with seq xs) refl
  where
    at : (b : Bool) → ends_with seq xs ≡ b → ends_with seq (cond b xs (xs ++ seq ∷ [])) ≡ true
    at true e = e
    at false e = ends_behind seq xs

pub with_last_twice : (seq : ℕ) (xs : List ℕ) → with_last seq (with_last seq xs) ≡ with_last seq xs
with_last_twice seq xs = ap (λ b. cond b (with_last seq xs) (with_last seq xs ++ seq ∷ [])) (with_last_ends seq xs)

-- a seqnum was added for the tags before, and then for one more
pub added_again : (seq : ℕ) (xs ys zs : List ℕ) (before here : Bool) → ys ≡ cond before (with_last seq xs) xs → zs ≡ cond here (with_last seq ys) ys → zs ≡ cond (before || here) (with_last seq xs) xs
added_again seq xs ys zs true true e f = f ∙ ap (with_last seq) e ∙ with_last_twice seq xs
added_again seq xs ys zs true false e f = f ∙ e
added_again seq xs ys zs false true e f = f ∙ ap (with_last seq) e
added_again seq xs ys zs false false e f = f ∙ e

-- room for the tags before, and for one more
pub room_for : {S Z : Type 0} (t : ℕ) (before : Bool) (tag : ℕ) (m : HashMap ℕ (Vec ℕ Z) S) → (before || eqb t tag) ≡ true → (before ≡ true → HasRoom t m) → HasRoom tag m → HasRoom t m
room_for t true tag m is others room = others refl
room_for t false tag m is others room = subst (λ u. HasRoom u m) (sym (eqb-true t tag is)) room
