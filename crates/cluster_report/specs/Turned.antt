-- Which turn a record gives.
use Rattle.std.specs.Prelude.{◌≡◌, ◌≤◌, ℕ, List, [], ◌∷◌, ◌++◌, Option, Some, None, slice_index, unwrap_or}
use Rattle.boki_types.specs.declared.body.Body.{Body}
use Rattle.boki_types.specs.declared.body.Body.TheVariants as b
use Rattle.boki_types.specs.declared.program.Function.{Function}
use Rattle.boki_types.specs.declared.turn.Turn.{Turn}
use Rattle.boki_types.specs.declared.turn.Turn.TheVariants as a_turn
use Rattle.boki_types.specs.Finding.{find}
use Rattle.boki_model.specs.Maps.{get}
use Rattle.boki_model.specs.Live.{Live}
use Rattle.boki_model.specs.Bodies.{step_of}
use Rattle.boki_model.specs.Writes.{Store, versions_at}
use Rattle.boki_machine.specs.Turns.{turn_of, add_next_index}
use Rattle.obj_store.specs.Kept.{StoreState}
use Rattle.obj_store.specs.StandsFor.{StandsFor}
use Rattle.cluster_report.specs.declared.turning.Walk.{Walk}
use Rattle.cluster_report.specs.declared.turning.TurnKind.{TurnKind}
use Rattle.cluster_report.specs.declared.turning.TurnKind.TheVariants as kind

-- A step record but a Finish gives a go: it has an operation of its own, which an Init doesn't have.
abbrev pub kind_of : Body → TurnKind
kind_of (b.Submit p f args) = kind.Submit
kind_of (b.Init p) = kind.Go p 1 0
kind_of (b.Read p i key) = kind.Go p i 1
kind_of (b.ReadGroup p i keys) = kind.Go p i 1
kind_of (b.Write p i place key value) = kind.Go p i 1
kind_of (b.Spawn p i ordinal f args) = kind.Go p i 1
kind_of (b.Join p i ordinal) = kind.Go p i 1
kind_of (b.Push p i queue value) = kind.Go p i 1
kind_of (b.Pop p i queue) = kind.Go p i 1
kind_of (b.TxnBegin p i names) = kind.Go p i 1
kind_of (b.TxnCommit p i begin names writes) = kind.Go p i 1
kind_of (b.Finish p i outcome) = kind.End p i
kind_of _ = kind.Nothing

abbrev pub submit_turn : List Function → Body → List Turn
submit_turn fs (b.Submit p f args) = a_turn.Submit (slice_index p 0) (unwrap_or (find f fs) 0) args ∷ []
submit_turn fs _ = []

-- Where a record is the last of its path that was met, the store has the versions that stand at it: its seqnum isn't below the
-- floor.
abbrev pub HasVersions : ℕ → List (List ℕ × ℕ) → ℕ → Body → Type 0
HasVersions floor ahead seq body =
    (p : List ℕ) (i own : ℕ) → kind_of body ≡ kind.Go p i own → get p ahead ≡ None → floor ≤ seq

-- A record, which says this, was passed: the path's next step record is it now, and its turn was added, whatever store the object
-- store stands for.
pub record AddsTurn (fs : List Function) (kept : StoreState) (seq : ℕ) (body : Body) (old new : Walk) : Type 0 where
  pub ahead : new.ahead.entries ≡ add_next_index (step_of body) old.ahead.entries
  pub turns :
      (m : Store) (records : List (Live Body)) → StandsFor kept m records → HasVersions m.floor old.ahead.entries seq body
      → new.turns.items ≡ old.turns.items ++ turn_of fs old.ahead.entries (versions_at seq m.versions) body

-- and so it was where there is a record
abbrev pub AddsAt : List Function → StoreState → ℕ → Option Body → Walk → Walk → Type 0
AddsAt fs kept seq None old new = new ≡ old
AddsAt fs kept seq (Some body) old new = AddsTurn fs kept seq body old new
