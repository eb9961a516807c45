-- The statement of the central theorem rests on this file.
-- Maps whose keys are lists of numbers, texts by their bytes and paths by their numbers: lists of entries with the least key
-- first. Keys are ordered by their numbers from the left, a front first.
use Rattle.std.specs.Prelude.{ℕ, Bool, false, ◌||◌, List, [], ◌∷◌, Option, bytes_eq}
use Rattle.std.specs.declared.cmp.Ordering.{Ordering}
use Rattle.std.specs.Ordering.{nat_cmp, is_lt}
use Rattle.std.specs.Cmp.Lexicographic.{slice_cmp}
use Rattle.std.specs.FinMap as map

abbrev pub key_order : List ℕ → List ℕ → Ordering
key_order = slice_cmp nat_cmp

abbrev pub before : List ℕ → List ℕ → Bool
before x y = is_lt (key_order x y)

-- the value at a key
abbrev pub get : {V : Type 0} → List ℕ → List (List ℕ × V) → Option V
get k m = map.find key_order k m

-- the map with this value at the key
abbrev pub put : {V : Type 0} → List ℕ → V → List (List ℕ × V) → List (List ℕ × V)
put k v m = map.put key_order k v m

-- whether a list has the key
abbrev pub has : List ℕ → List (List ℕ) → Bool
has k [] = false
has k (x ∷ xs) = bytes_eq k x || has k xs
