-- Free reads, by the words of an attempt's step: a read at a cursor answers the last write up to it, or `none` where there is
-- none; it is gone where the cursor is below the floor.
use Rattle.std.specs.Prelude.{◌≡◌, ℕ, ◌≤◌, nat_lt, if◌then◌else◌, List}
use Rattle.lb_base.specs.declared.value.Value.{Value}
use Rattle.boki_types.specs.declared.body.Body.{Body}
use Rattle.boki_types.specs.declared.store.Answered.{Answered}
use Rattle.boki_types.specs.declared.store.Answered.TheVariants as one
use Rattle.boki_types.specs.declared.store.GroupAnswer.{GroupAnswer}
use Rattle.boki_types.specs.declared.store.GroupAnswer.TheVariants as group
use Rattle.boki_model.specs.Live.{Live}
use Rattle.boki_model.specs.Writes.{Store, read_free}
use Rattle.boki_machine.specs.Step.{fenced_value, read_all}
use Rattle.book_api.specs.Books.{BookState, position}
use Rattle.obj_store.specs.Kept.{StoreState}
use Rattle.step_log.specs.Sound.{view}
use Rattle.hm_read.specs.Kept.{AreKept}

abbrev pub free_value : ℕ → List ℕ → Store → List (Live Body) → Value
free_value cursor key m view = fenced_value (read_free key cursor m view)

abbrev pub free_values : ℕ → List (List ℕ) → Store → List (Live Body) → List Value
free_values cursor keys m view = read_all (λ key. read_free key cursor m view) keys

abbrev pub free_answer : ℕ → List ℕ → Store → List (Live Body) → Answered
free_answer cursor key m view =
    if nat_lt cursor m.floor then one.Gone else one.Value (free_value cursor key m view)

abbrev pub free_answers : ℕ → List (List ℕ) → Store → List (Live Body) → GroupAnswer
free_answers cursor keys m view =
    if nat_lt cursor m.floor then group.Gone else group.Values (free_values cursor keys m view)

-- A value, an answer and an answer for several keys that an engine read at a cursor which its position covers, whatever store the
-- object store stands for.
pub record IsFreeValue (book : BookState) (kept : StoreState) (engine cursor : ℕ) (key : List ℕ) (value : Value) : Type 0 where
  pub is_value :
      (m : Store) → AreKept book kept m → cursor ≤ position book engine
      → value ≡ free_value cursor key m (view book engine)

pub record AreFreeValues (book : BookState) (kept : StoreState) (engine cursor : ℕ) (keys : List (List ℕ)) (values : List Value) : Type 0 where
  pub are_values :
      (m : Store) → AreKept book kept m → cursor ≤ position book engine
      → values ≡ free_values cursor keys m (view book engine)

pub record ReadsFree (book : BookState) (kept : StoreState) (engine cursor : ℕ) (key : List ℕ) (a : Answered) : Type 0 where
  pub answer :
      (m : Store) → AreKept book kept m → cursor ≤ position book engine
      → a ≡ free_answer cursor key m (view book engine)

pub record ReadsGroupFree (book : BookState) (kept : StoreState) (engine cursor : ℕ) (keys : List (List ℕ)) (a : GroupAnswer) : Type 0 where
  pub answer :
      (m : Store) → AreKept book kept m → cursor ≤ position book engine
      → a ≡ free_answers cursor keys m (view book engine)
