-- What is put into the object store: named values of logged writes, and versions.
use Rattle.std.specs.Prelude.{◌≡◌, ℕ, ◌<◌, true, List}
use Rattle.lb_base.specs.declared.value.Value.{Value}
use Rattle.boki_types.specs.declared.body.Body.{Body}
use Rattle.boki_types.specs.declared.store.Name.{Name}
use Rattle.boki_types.specs.declared.store.Named.{Named}
use Rattle.boki_types.specs.declared.store.Put.{Put}
use Rattle.boki_model.specs.Live.{Live}
use Rattle.boki_model.specs.Writes.{Store, is_settled, put_named, after_put_named, put_at, after_put}
use Rattle.obj_store.specs.Kept.{StoreState}
use Rattle.hm_read.specs.Kept.{IsKept}

-- the name is that of a settled write only where the cursor is below the floor
abbrev pub SettledIsOld : Name → ℕ → Store → List (Live Body) → Type 0
SettledIsOld name cursor m records = is_settled name m.floor records ≡ true → cursor < m.floor

-- A value was stored under a name, whatever store the object store stands for.
pub record StoresNamed (name : Name) (cursor : ℕ) (value : Value) (old new : StoreState) (a : Named) : Type 0 where
  pub answer :
      (m : Store) (records : List (Live Body)) → IsKept old m records → SettledIsOld name cursor m records
      → a ≡ put_named name cursor value m
  pub after :
      (m : Store) (records : List (Live Body)) → IsKept old m records → SettledIsOld name cursor m records
      → IsKept new (after_put_named name cursor value m) records

-- A version was put in.
pub record PutsFree (key : List ℕ) (cursor k : ℕ) (value : Value) (old new : StoreState) (a : Put) : Type 0 where
  pub answer : (m : Store) (records : List (Live Body)) → IsKept old m records → a ≡ put_at key cursor k m
  pub after :
      (m : Store) (records : List (Live Body)) → IsKept old m records
      → IsKept new (after_put key cursor k value m) records
