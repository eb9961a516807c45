-- The logged write of the live record with a seqnum.
use Rattle.std.specs.Prelude.{ℕ, true, List, []}
use Rattle.std.specs.Option.{option_map_or}
use Rattle.boki_types.specs.declared.body.Body.{Body}
use Rattle.boki_types.specs.declared.store.Settled.{Settled}
use Rattle.boki_model.specs.Live.{Live}
use Rattle.boki_model.specs.Writes.{logged_write}
use Rattle.obj_store.specs.Sweeps.{settled_of}
use Rattle.log_folds.specs.Bounds.{record_at}

-- where it is a write, else none
abbrev pub write_in : List (Live Body) → ℕ → List Settled
write_in records seq = option_map_or (λ (x : Live Body). settled_of true seq (logged_write x.holds)) (record_at seq records) []
