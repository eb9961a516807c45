-- An object store beside a book: what the reads and writes of objects need of the two, and keep.
use Rattle.std.specs.Prelude.{List}
use Rattle.boki_types.specs.declared.body.Body.{Body}
use Rattle.boki_model.specs.Live.{Live}
use Rattle.boki_model.specs.Writes.{Store}
use Rattle.book_api.specs.Books.{BookState}
use Rattle.machine_laws.specs.Kept.{WritesHaveValues}
use Rattle.obj_store.specs.Kept.{StoreState}
use Rattle.obj_store.specs.StandsFor.{StandsFor}
use Rattle.step_log.specs.Sound.{Sound, live_bodies}

-- The object store stands for the store m with these live records; and each logged write among them has its value, in its record
-- or under its name in m, and no two have one name.
pub record IsKept (kept : StoreState) (m : Store) (records : List (Live Body)) : Type 0 where
  pub stands : StandsFor kept m records
  pub values : WritesHaveValues m.named records

-- A book whose records all say something, and a store that is kept with its live records.
pub record AreKept (book : BookState) (kept : StoreState) (m : Store) : Type 0 where
  pub sound : Sound book
  pub store : IsKept kept m (live_bodies book)
