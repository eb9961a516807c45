-- What is told of the known keys.
use Rattle.std.specs.Prelude.{◌≡◌, ℕ, suc, ◌≤◌, List, [], ◌∷◌, Option, option_map}
use Rattle.lb_base.specs.declared.value.Value.{Value}
use Rattle.boki_types.specs.declared.body.Body.{Body}
use Rattle.boki_model.specs.Live.{Live}
use Rattle.boki_model.specs.Writes.{Store, last_value_below}
use Rattle.boki_machine.specs.Reports.{add_value}
use Rattle.obj_store.specs.Kept.{StoreState}
use Rattle.obj_store.specs.StandsFor.{last_logged}
use Rattle.hm_read.specs.declared.last.LastWrite.{LastWrite}
use Rattle.hm_read.specs.Kept.{IsKept}
use Rattle.hm_read.specs.LastWrites.{write_parts}
use Rattle.cluster_report.specs.Folded.{LastWrites}

-- the write of a key is its last logged one up to a seqnum
abbrev pub IsLast : ℕ → List (Live Body) → List ℕ → Option LastWrite → Type 0
IsLast last records key write = option_map write_parts write ≡ last_logged key (suc last) records

abbrev pub AreLast : ℕ → List (Live Body) → LastWrites → Type 0
AreLast last records [] = Unit {0}
AreLast last records (e ∷ es) = IsLast last records e.0 e.1 × AreLast last records es

-- the value of each of the keys up to a seqnum, where it has one
abbrev pub values_upto : ℕ → Store → List (Live Body) → LastWrites → List (List ℕ × Value)
values_upto last m records [] = []
values_upto last m records (e ∷ es) =
    add_value e.0 (last_value_below e.0 (suc last) 0 m records) (values_upto last m records es)

-- the store, and some records, are those of a report whose last seqnum is this one
pub record CanTell (last : ℕ) (state : StoreState) (m : Store) (records : List (Live Body)) : Type 0 where
  pub kept : IsKept state m records
  pub within : m.floor ≤ last
