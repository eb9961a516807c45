-- What a sweep is given, and what it does to the base of an object.
use Rattle.std.specs.Prelude.{ℕ, ◌&&◌, ◌||◌, option_map, Bool, true, false, nat_le, nat_lt, List, [], ◌∷◌, ◌++◌, Option, Some, is_some, IsTrue}
use Rattle.lb_base.specs.declared.value.Value.{Value}
use Rattle.boki_types.specs.declared.body.Body.{Body}
use Rattle.boki_types.specs.declared.store.Name.{Name}
use Rattle.boki_types.specs.declared.store.Settled.{Settled}
use Rattle.boki_model.specs.Live.{Live}
use Rattle.std.specs.Option.{option_or}
use Rattle.boki_model.specs.Writes.{logged_write, write_at, prepend_some}
use Rattle.obj_store.specs.Kept.{same_name_pair, value_under}
use Rattle.obj_store.specs.declared.objects.SweptWrite.{SweptWrite}

abbrev pub settled_of : Bool → ℕ → Option (List ℕ × (Name × Option Value)) → List Settled
settled_of true seq (Some w) = record { key = w.0; seq = record { 0 = seq }; name = w.1.0; here = w.1.1 } ∷ []
settled_of _ _ _ = []

-- the live logged writes from a seqnum up to below another, the oldest first
abbrev pub logged_between : ℕ → ℕ → List (Live Body) → List Settled
logged_between low high [] = []
logged_between low high (x ∷ xs) = logged_between low high xs ++ settled_of (nat_le low x.seq && nat_lt x.seq high) x.seq (logged_write x.holds)

-- the value of a logged write: the one that its record holds, or the one that is kept under its name
abbrev pub settled_value : List ((List ℕ × ℕ) × Value) → Settled → Option Value
settled_value named s = option_or s.here (value_under s.name named)

-- each has a value
abbrev pub AllHaveValues : List ((List ℕ × ℕ) × Value) → List Settled → Type 0
AllHaveValues named [] = Unit {0}
AllHaveValues named (s ∷ ss) = IsTrue (is_some (settled_value named s)) × AllHaveValues named ss

-- a logged write that has a value, as it is made the base of its object
abbrev pub swept_write : List ((List ℕ × ℕ) × Value) → Settled → Option SweptWrite
swept_write named s = option_map (λ v. record { key = s.key; write = write_at s.seq.0 0 v }) (settled_value named s)

abbrev pub swept_writes : List ((List ℕ × ℕ) × Value) → List Settled → List SweptWrite
swept_writes named [] = []
swept_writes named (s ∷ ss) = prepend_some (swept_write named s) (swept_writes named ss)

-- whether one of them has the name
abbrev pub has_settled : Name → List Settled → Bool
has_settled n [] = false
has_settled n (s ∷ ss) = same_name_pair (s.name.path, s.name.place) (n.path, n.place) || has_settled n ss
