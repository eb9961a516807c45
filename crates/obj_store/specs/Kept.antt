-- What an object store keeps.
use Rattle.std.specs.Prelude.{ℕ, ◌+◌, ◌==◌, ◌&&◌, Bool, cond, List, [], ◌∷◌, length, sum_by, bytes_eq, Option, Some, None, unwrap_or, is_some}
use Rattle.std.specs.Map.{lookup, values_of}
use Rattle.lb_base.specs.declared.value.Value.{Value}
use Rattle.boki_types.specs.declared.store.Name.{Name}
use Rattle.boki_model.specs.Writes.{Write, is_below, later_write}

-- of an object: the last write below the floor, or the initial object; the versions at or above the floor, in the order of their
-- positions; and the fence, 0 where none was raised
pub record KeptObject : Type 0 where
  pub base : Option Write
  pub versions : List Write
  pub fence : ℕ

-- the objects by their keys, in no order that matters, the values by their names, each a path and a place, and the floor; and how
-- many writes and named values there are
pub record StoreState : Type 0 where
  pub objects : List (List ℕ × KeptObject)
  pub named : List ((List ℕ × ℕ) × Value)
  pub floor : ℕ
  pub held : ℕ

-- an object that was never written or read
abbrev pub empty_object : KeptObject
empty_object = record { base = None; versions = []; fence = 0 }

-- what is kept of a key
abbrev pub object_in : List ℕ → List (List ℕ × KeptObject) → KeptObject
object_in key objects = unwrap_or (lookup (bytes_eq key) objects) empty_object

abbrev pub same_name_pair : List ℕ × ℕ → List ℕ × ℕ → Bool
same_name_pair m n = bytes_eq m.0 n.0 && (m.1 == n.1)

-- the value under a name
abbrev pub value_under : Name → List ((List ℕ × ℕ) × Value) → Option Value
value_under name named = lookup (same_name_pair (name.path, name.place)) named

-- the last of two writes; where they stand at one position the first of them
abbrev pub last_of_two : Option Write → Option Write → Option Write
last_of_two None v = v
last_of_two (Some w) v = later_write w v

-- the writes with one more at its place, where they stand in order
abbrev pub insert_write : Write → List Write → List Write
insert_write w [] = w ∷ []
insert_write w (v ∷ vs) = cond (is_below v.first v.second w.first w.second) (v ∷ insert_write w vs) (w ∷ v ∷ vs)

-- writes in the order of their positions
abbrev pub sort_writes : List Write → List Write
sort_writes [] = []
sort_writes (w ∷ ws) = insert_write w (sort_writes ws)

-- how many writes are kept of an object
abbrev pub base_count : Option Write → ℕ
base_count None = 0
base_count (Some w) = 1

abbrev pub count_of : KeptObject → ℕ
count_of object = base_count object.base + length object.versions

abbrev pub total : List (List ℕ × KeptObject) → ℕ
total objects = sum_by count_of (values_of objects)

abbrev pub has_key : List ℕ → List (List ℕ × KeptObject) → Bool
has_key key objects = is_some (lookup (bytes_eq key) objects)
