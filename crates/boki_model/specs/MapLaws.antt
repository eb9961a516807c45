-- Laws of maps whose keys are lists of numbers.
use Rattle.std.specs.Prelude.{◌≡◌, ℕ, IsTrue, List, Some}
use Rattle.std.specs.FinMap as map
use Rattle.boki_model.specs.Maps.{key_order, get, put}

-- each key stands once, the least first
abbrev pub InOrder : {V : Type 0} → List (List ℕ × V) → Type 0
InOrder m = IsTrue (map.is_sorted key_order m)

pub record PutsOne (V : Type 0) : Type 0 where
  pub same_key : (k : List ℕ) (v : V) (m : List (List ℕ × V)) → get k (put k v m) ≡ Some v
  pub other_key : (k q : List ℕ) (v : V) (m : List (List ℕ × V)) → (q ≡ k → ⊥) → get q (put k v m) ≡ get q m
  pub in_order : (k : List ℕ) (v : V) (m : List (List ℕ × V)) → InOrder m → InOrder (put k v m)

-- maps that answer alike are equal
abbrev pub AnswersTellMaps : Type 0 → Type 0
AnswersTellMaps V = (m n : List (List ℕ × V)) → InOrder m → InOrder n → ((k : List ℕ) → get k m ≡ get k n) → m ≡ n
