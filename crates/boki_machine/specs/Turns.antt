-- The statement of the central theorem rests on this file.
-- The turns of a log: of each live record in order, a Submit gives one, an Init or an operation's record gives the number of
-- operations that run at it, and a Finish gives the end; other records give none.
use Rattle.std.specs.Prelude.{ℕ, ◌+◌, ◌-◌, List, [], ◌∷◌, ◌++◌, Option, Some, None, unwrap_or, slice_index}
use Rattle.boki_types.specs.declared.body.Body.{Body}
use Rattle.boki_types.specs.declared.body.Body.TheVariants as body
use Rattle.boki_types.specs.declared.program.Function.{Function}
use Rattle.boki_types.specs.declared.turn.Turn.{Turn}
use Rattle.boki_types.specs.declared.turn.Turn.TheVariants as a_turn
use Rattle.boki_types.specs.Finding.{find}
use Rattle.boki_model.specs.Live.{Live}
use Rattle.boki_model.specs.Maps.{get, put}
use Rattle.boki_model.specs.Bodies.{step_of}
use Rattle.boki_model.specs.Writes.{Version, versions_at}

-- How many operations run at a step record: up to the index of the path's next step record; or, at its last one, this one's
-- own operation, which an Init doesn't have, and the versions that stand at it.
abbrev pub operation_count : Option ℕ → ℕ → ℕ → ℕ → ℕ
operation_count None index own free = own + free
operation_count (Some next) index own free = next - index

abbrev pub operation_turn : List (List ℕ × ℕ) → ℕ → Option (List ℕ × ℕ) → List Turn
operation_turn ahead free None = []
operation_turn ahead free (Some s) = a_turn.Go s.0 (operation_count (get s.0 ahead) s.1 1 free) ∷ []

-- `ahead` has for each path the index of its next step record, where there is one
abbrev pub turn_of : List Function → List (List ℕ × ℕ) → ℕ → Body → List Turn
turn_of fs ahead free (body.Submit p f args) = a_turn.Submit (slice_index p 0) (unwrap_or (find f fs) 0) args ∷ []
turn_of fs ahead free (body.Init p) = a_turn.Go p (operation_count (get p ahead) 1 0 free) ∷ []
turn_of fs ahead free (body.Finish p i outcome) = a_turn.End p ∷ []
turn_of fs ahead free body = operation_turn ahead free (step_of body)

abbrev pub add_next_index : Option (List ℕ × ℕ) → List (List ℕ × ℕ) → List (List ℕ × ℕ)
add_next_index None ahead = ahead
add_next_index (Some s) ahead = put s.0 s.1 ahead

-- the turns of live records, the newest of which stands first; the turns stand with the oldest first
abbrev pub turns_to : List Function → List (List ℕ × ℕ) → List Version → List (Live Body) → List Turn
turns_to fs ahead versions [] = []
turns_to fs ahead versions (x ∷ xs) =
    turns_to fs (add_next_index (step_of x.holds) ahead) versions xs ++ turn_of fs ahead (versions_at x.seq versions) x.holds

abbrev pub turns : List Function → List Version → List (Live Body) → List Turn
turns fs versions records = turns_to fs [] versions records
