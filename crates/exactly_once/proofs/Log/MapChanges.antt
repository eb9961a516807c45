-- What a map has after a change.
use Rattle.std.proofs.Common.{◌≡◌, ◌⊎◌, inl, inr, ℕ, Bool, true, false, cond, List, [], ◌∷◌, Some, refl, sym, ap, ◌∙◌}
use Rattle.std.specs.Prelude.{bytes_eq}
use Rattle.std.specs.Cmp.Lexicographic.{nat_list_cmp_total, bytes_decides}
use Rattle.std.specs.FinMap.Entries.{find-put}
use Rattle.std.proofs.lemmas.Map.Text.{is_eq-slice_cmp}
use Rattle.lb_base.specs.declared.value.Value.{Value}
use Rattle.boki_model.specs.Maps.{key_order, get, put}
use Rattle.boki_machine.specs.Ideal.{put_objects}

pub same_itself : (k : List ℕ) → bytes_eq k k ≡ true
same_itself k = (bytes_decides k k).1 refl

pub same_key : (q k : List ℕ) → bytes_eq q k ≡ true → q ≡ k
same_key q k e = (bytes_decides q k).0 e

-- two keys are the same or not
pub keys_cases : (q k : List ℕ) → (q ≡ k) ⊎ (bytes_eq q k ≡ false)
keys_cases q k = at (bytes_eq q k) refl
  where
    at : (b : Bool) → bytes_eq q k ≡ b → (q ≡ k) ⊎ (bytes_eq q k ≡ false)
    at true e = inl (same_key q k e)
    at false e = inr e

pub other_way : (p q : List ℕ) → bytes_eq p q ≡ false → bytes_eq q p ≡ false
other_way p q e = at (keys_cases q p)
  where
    at : (q ≡ p) ⊎ (bytes_eq q p ≡ false) → bytes_eq q p ≡ false
    at (inl same) = let h : bytes_eq p p ≡ false = ap (bytes_eq p) (sym same) ∙ e in let t = same_itself p in cc
    at (inr f) = f

module _ {V : Type 0} where
  pub get-put : (q k : List ℕ) (v : V) (m : List (List ℕ × V)) → get q (put k v m) ≡ cond (bytes_eq q k) (Some v) (get q m)
  get-put q k v m = find-put key_order nat_list_cmp_total q k v m ∙ ap (λ b. cond b (Some v) (get q m)) (is_eq-slice_cmp q k)

  pub get_other : (q k : List ℕ) (v : V) (m : List (List ℕ × V)) → bytes_eq q k ≡ false → get q (put k v m) ≡ get q m
  get_other q k v m e = get-put q k v m ∙ ap (λ b. cond b (Some v) (get q m)) e

  pub get_first : (q : List ℕ) (x : List ℕ × V) (m : List (List ℕ × V)) → get q (x ∷ m) ≡ cond (bytes_eq q x.0) (Some x.1) (get q m)
  get_first q x m = ap (λ b. cond b (Some x.1) (get q m)) (is_eq-slice_cmp q x.0)

  -- the objects of a list, as a map
  pub get_listed : (q : List ℕ) (x : List ℕ × V) (m n : List (List ℕ × V)) → get q m ≡ get q n → get q (put x.0 x.1 m) ≡ get q (x ∷ n)
  get_listed q x m n same = get-put q x.0 x.1 m ∙ ap (cond (bytes_eq q x.0) (Some x.1)) same ∙ sym (get_first q x n)

pub get-put_objects : (q : List ℕ) (xs : List (List ℕ × Value)) → get q (put_objects xs) ≡ get q xs
get-put_objects q [] = refl
get-put_objects q (x ∷ xs) = get_listed q x (put_objects xs) xs (get-put_objects q xs)
