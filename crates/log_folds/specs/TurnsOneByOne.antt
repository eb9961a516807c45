-- The turns of records one by one, from the oldest on: how many operations run at a step record is told by
-- the first step record of its path behind it, which is found by the step tag.
use Rattle.std.specs.Prelude.{◌≡◌, ℕ, suc, nat_le, cond, List, [], ◌∷◌, ◌++◌, Option, Some, None, option_map, option_and_then, unwrap_or, slice_index, bytes_eq}
use Rattle.std.specs.List.{AllByRecursion}
use Rattle.lb_base.specs.Path.{IsPath}
use Rattle.boki_types.specs.declared.body.Body.{Body}
use Rattle.boki_types.specs.declared.body.Body.TheVariants as b
use Rattle.boki_types.specs.declared.program.Function.{Function}
use Rattle.boki_types.specs.declared.turn.Turn.{Turn}
use Rattle.boki_types.specs.declared.turn.Turn.TheVariants as t
use Rattle.boki_types.specs.Finding.{find}
use Rattle.boki_model.specs.Live.{Live}
use Rattle.boki_model.specs.LogLaws.{FallBelow}
use Rattle.std.specs.Option.{option_or}
use Rattle.boki_model.specs.Reads.{next}
use Rattle.boki_model.specs.Bodies.{step_tag, step_of}
use Rattle.boki_model.specs.Writes.{Version, versions_at}
use Rattle.boki_machine.specs.Turns.{operation_count, turns}
use Rattle.log_folds.specs.Bounds.{record_at}
use Rattle.exactly_once.specs.FurtherLaws.StepRecords.{IsWellFormedLive}

-- the index of a step record, where it is one of the path
abbrev pub index_of : List ℕ → Option (List ℕ × ℕ) → Option ℕ
index_of path None = None
index_of path (Some s) = cond (bytes_eq path s.0) (Some s.1) None

-- the index of the path's first step record at or above a seqnum
abbrev pub first_index : List ℕ → ℕ → List (Live Body) → Option ℕ
first_index path seq [] = None
first_index path seq (x ∷ xs) =
    option_or (first_index path seq xs) (cond (nat_le seq x.seq) (index_of path (step_of x.holds)) None)

-- of the step record at a seqnum, that of the next one of its path
abbrev pub next_step_index : ℕ → List (Live Body) → Option (List ℕ × ℕ) → Option ℕ
next_step_index seq records None = None
next_step_index seq records (Some s) = first_index s.0 (suc seq) records

-- the turn of a record, where the index of the path's next step record is given, if there is one
abbrev pub step_turn : Option ℕ → ℕ → Option (List ℕ × ℕ) → List Turn
step_turn next free None = []
step_turn next free (Some s) = t.Go s.0 (operation_count next s.1 1 free) ∷ []

abbrev pub turn_at : List Function → Option ℕ → ℕ → Body → List Turn
turn_at fs next free (b.Submit p f args) = t.Submit (slice_index p 0) (unwrap_or (find f fs) 0) args ∷ []
turn_at fs next free (b.Init p) = t.Go p (operation_count next 1 0 free) ∷ []
turn_at fs next free (b.Finish p i outcome) = t.End p ∷ []
turn_at fs next free body = step_turn next free (step_of body)

abbrev pub turn_in : List Function → List Version → List (Live Body) → Live Body → List Turn
turn_in fs versions records x =
    turn_at fs (next_step_index x.seq records (step_of x.holds)) (versions_at x.seq versions) x.holds

-- the turns of some of the records
abbrev pub turns_among : List Function → List Version → List (Live Body) → List (Live Body) → List Turn
turns_among fs versions records [] = []
turns_among fs versions records (x ∷ xs) = turns_among fs versions records xs ++ turn_in fs versions records x

abbrev pub TurnsOneByOne : Type 0
TurnsOneByOne =
    (fs : List Function) (versions : List Version) (end : ℕ) (records : List (Live Body))
    → FallBelow end records
    → turns fs versions records ≡ turns_among fs versions records records

-- and that step record is the next one of the step tag
abbrev pub index_in : Live Body → Option ℕ
index_in x = option_map (λ s. s.1) (step_of x.holds)

abbrev pub index_at : Option ℕ → List (Live Body) → Option ℕ
index_at found records = option_and_then (λ seq. option_and_then index_in (record_at seq records)) found

abbrev pub FirstStepByTag : Type 0
FirstStepByTag =
    (path : List ℕ) (end seq : ℕ) (records : List (Live Body)) → IsPath path → FallBelow end records
    → AllByRecursion IsWellFormedLive records
    → first_index path seq records ≡ index_at (next (step_tag path) seq records) records
