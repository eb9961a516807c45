-- Reads at a marker, by the words of an attempt's step: they answer the last write below the marker, or `none` where there is
-- none, and raise the fence of each object to the marker; they are gone where the marker is below the floor.
use Rattle.std.specs.Prelude.{◌≡◌, ℕ, suc, ◌≤◌, nat_lt, if◌then◌else◌, List, [], ◌∷◌}
use Rattle.lb_base.specs.declared.value.Value.{Value}
use Rattle.boki_types.specs.declared.body.Body.{Body}
use Rattle.boki_types.specs.declared.store.Answered.{Answered}
use Rattle.boki_types.specs.declared.store.Answered.TheVariants as one
use Rattle.boki_types.specs.declared.store.GroupAnswer.{GroupAnswer}
use Rattle.boki_types.specs.declared.store.GroupAnswer.TheVariants as group
use Rattle.boki_model.specs.Live.{Live}
use Rattle.boki_model.specs.Writes.{Store, read_fenced, after_read_fenced}
use Rattle.boki_machine.specs.Step.{fenced_value, read_all}
use Rattle.book_api.specs.Books.{BookState, position}
use Rattle.obj_store.specs.Kept.{StoreState}
use Rattle.step_log.specs.Sound.{live_bodies, view}
use Rattle.hm_read.specs.Kept.{IsKept, AreKept}

abbrev pub marked_value : ℕ → List ℕ → Store → List (Live Body) → Value
marked_value at key m view = fenced_value (read_fenced key at m view)

abbrev pub marked_values : ℕ → List (List ℕ) → Store → List (Live Body) → List Value
marked_values at keys m view = read_all (λ key. read_fenced key at m view) keys

abbrev pub marked_answer : ℕ → List ℕ → Store → List (Live Body) → Answered
marked_answer at key m view =
    if nat_lt at m.floor then one.Gone else one.Value (marked_value at key m view)

abbrev pub marked_answers : ℕ → List (List ℕ) → Store → List (Live Body) → GroupAnswer
marked_answers at keys m view =
    if nat_lt at m.floor then group.Gone else group.Values (marked_values at keys m view)

-- A value, and values, that an engine reads at a marker up to which it sees all records, with no fence raised.
pub record IsMarkedValue (book : BookState) (kept : StoreState) (engine at : ℕ) (key : List ℕ) (value : Value) : Type 0 where
  pub is_value :
      (m : Store) → AreKept book kept m → at ≤ suc (position book engine)
      → value ≡ marked_value at key m (view book engine)

pub record AreMarkedValues (book : BookState) (kept : StoreState) (engine at : ℕ) (keys : List (List ℕ)) (values : List Value) : Type 0 where
  pub are_values :
      (m : Store) → AreKept book kept m → at ≤ suc (position book engine)
      → values ≡ marked_values at keys m (view book engine)

-- An object was read at a marker, and several were, whatever store the object store stands for.
pub record ReadsMarked (book : BookState) (engine at : ℕ) (key : List ℕ) (old new : StoreState) (a : Answered) : Type 0 where
  pub answer :
      (m : Store) → AreKept book old m → at ≤ suc (position book engine)
      → a ≡ marked_answer at key m (view book engine)
  pub after :
      (m : Store) → AreKept book old m → at ≤ suc (position book engine)
      → IsKept new (after_read_fenced (key ∷ []) at m) (live_bodies book)

pub record ReadsGroupMarked (book : BookState) (engine at : ℕ) (keys : List (List ℕ)) (old new : StoreState) (a : GroupAnswer) : Type 0 where
  pub answer :
      (m : Store) → AreKept book old m → at ≤ suc (position book engine)
      → a ≡ marked_answers at keys m (view book engine)
  pub after :
      (m : Store) → AreKept book old m → at ≤ suc (position book engine)
      → IsKept new (after_read_fenced keys at m) (live_bodies book)
