-- What the layers above rely on.
use Rattle.std.specs.Prelude.{◌≡◌, ℕ, ◌≤◌, nat_lt, true, List, [], ◌∷◌, filter, None}
use Rattle.boki_types.specs.declared.body.Body.{Body}
use Rattle.boki_types.specs.declared.store.Name.{Name}
use Rattle.boki_model.specs.Live.{Live}
use Rattle.boki_model.specs.LogLaws.{FallBelow}
use Rattle.boki_model.specs.Writes.{Store, Write, is_settled}
use Rattle.obj_store.specs.Kept.{StoreState, object_in, value_under}
use Rattle.obj_store.specs.StandsFor.{StandsFor}

-- each of the writes is at or above a floor
abbrev pub AllFrom : ℕ → List Write → Type 0
AllFrom floor [] = Unit {0}
AllFrom floor (w ∷ ws) = (floor ≤ w.first) × AllFrom floor ws

-- of a key at most one write below the floor is kept, its base
abbrev pub OneBelow : Type 0
OneBelow = (kept : StoreState) (m : Store) (records : List (Live Body)) → StandsFor kept m records → (key : List ℕ) → AllFrom m.floor (object_in key kept.objects).versions

-- no value under the name of a settled write is kept
abbrev pub NoneSettled : Type 0
NoneSettled = (kept : StoreState) (m : Store) (records : List (Live Body)) → StandsFor kept m records → (name : Name) → is_settled name m.floor records ≡ true → value_under name kept.named ≡ None

-- the records below a number
abbrev pub records_before : ℕ → List (Live Body) → List (Live Body)
records_before n xs = filter (λ x. nat_lt x.seq n) xs

-- it matters only which records are below the floor
abbrev pub RecordsBelow : Type 0
RecordsBelow =
    (kept : StoreState) (m : Store) (records others : List (Live Body)) (end : ℕ) → StandsFor kept m records → FallBelow end others
    → records_before m.floor others ≡ records_before m.floor records → StandsFor kept m others
