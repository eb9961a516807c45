-- The last live logged write of a key below a number, as an object store is told it, is what the newest record says that
-- is a write of the key there. `log_folds` finds that record by the key's tag.
use Rattle.std.specs.Prelude.{◌≡◌, ℕ, List, Option, option_map, option_and_then}
use Rattle.lb_base.specs.declared.value.Value.{Value}
use Rattle.boki_types.specs.declared.body.Body.{Body}
use Rattle.boki_types.specs.declared.store.Name.{Name}
use Rattle.boki_model.specs.Live.{Live}
use Rattle.boki_model.specs.Writes.{logged_write}
use Rattle.log_folds.specs.Folds.{last_write}
use Rattle.obj_store.specs.StandsFor.{last_logged}

-- what a record says that is a logged write: its seqnum, its name, and its value where the record has it
abbrev pub written_in : Live Body → Option (ℕ × (Name × Option Value))
written_in x = option_map (λ w. (x.seq, w.1)) (logged_write x.holds)

abbrev pub LastIsNewest : Type 0
LastIsNewest =
    (key : List ℕ) (n : ℕ) (records : List (Live Body))
    → last_logged key n records ≡ option_and_then written_in (last_write key n records)
