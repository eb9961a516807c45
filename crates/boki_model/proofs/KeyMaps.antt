-- Maps whose keys are lists of numbers, by std's lemmas on lists of entries.
use Rattle.std.proofs.Common.{◌≡◌, ℕ, Bool, true, false, T, is_eq, List, Some, refl, sym, ◌∙◌, subst}
use Rattle.std.specs.FinMap.{slice_cmp-IsAntisymmetric, nat_cmp-IsAntisymmetric}
use Rattle.std.specs.FinMap.Entries.{find-put, is_sorted-put, same_entries}
use Rattle.std.specs.Cmp.Lexicographic.{nat_list_cmp_total}
use Rattle.std.proofs.lemmas.Bool.{false_from_ne_true, cond-true, cond-false}
use Rattle.std.proofs.lemmas.Slice.Eq.{bytes_eq-Decides}
use Rattle.std.proofs.lemmas.Map.Text.{is_eq-slice_cmp}
use Rattle.boki_model.specs.Maps.{key_order, get, put}
use Rattle.boki_model.specs.MapLaws.{InOrder, PutsOne}

from_T : (x : Bool) → T x → x ≡ true
from_T true h = refl
from_T false h = absurd h

to_T : (x : Bool) → x ≡ true → T x
to_T x e = subst T (sym e) tt

pub same_key_ties : (k : List ℕ) → is_eq (key_order k k) ≡ true
same_key_ties k = is_eq-slice_cmp k k ∙ (bytes_eq-Decides k k).1 refl

pub other_key_differs : (q k : List ℕ) → (q ≡ k → ⊥) → is_eq (key_order q k) ≡ false
other_key_differs q k ne = is_eq-slice_cmp q k ∙ false_from_ne_true _ (λ e. ne ((bytes_eq-Decides q k).0 e))

module _ {V : Type 0} where
  pub get-put_same : (k : List ℕ) (v : V) (m : List (List ℕ × V)) → get k (put k v m) ≡ Some v
  get-put_same k v m = find-put key_order nat_list_cmp_total k k v m ∙ cond-true (is_eq (key_order k k)) (Some v) (get k m) (same_key_ties k)

  pub get-put_other : (k q : List ℕ) (v : V) (m : List (List ℕ × V)) → (q ≡ k → ⊥) → get q (put k v m) ≡ get q m
  get-put_other k q v m ne = find-put key_order nat_list_cmp_total q k v m ∙ cond-false (is_eq (key_order q k)) (Some v) (get q m) (other_key_differs q k ne)

  pub put_in_order : (k : List ℕ) (v : V) (m : List (List ℕ × V)) → InOrder m → InOrder (put k v m)
  put_in_order k v m h = from_T _ (is_sorted-put key_order nat_list_cmp_total k v m (to_T _ h))

  pub same_answers : (m n : List (List ℕ × V)) → InOrder m → InOrder n → ((k : List ℕ) → get k m ≡ get k n) → m ≡ n
  same_answers m n hm hn e = same_entries key_order nat_list_cmp_total (slice_cmp-IsAntisymmetric nat_cmp-IsAntisymmetric) m n (to_T _ hm) (to_T _ hn) e

  pub puts_one : PutsOne V
  puts_one = record { same_key = get-put_same; other_key = get-put_other; in_order = put_in_order }
