-- What a state keeps.
use Rattle.std.specs.Prelude.{ℕ, suc, not, ◌&&◌, Bool, true, false, nat_lt, cond, List, [], ◌∷◌, ◌++◌, length, slice_get, drop, unwrap_or, option_map, Option, Some, None}
use Rattle.std.specs.List.{list_any}
use Rattle.lb_base.specs.declared.value.Value.{Value}
use Rattle.lb_base.specs.declared.value.Value.TheVariants.{Nothing}
use Rattle.boki_types.specs.declared.turn.Turn.{Turn}
use Rattle.boki_model.specs.Maps.{get, put}
use Rattle.boki_model.specs.Folds.{written_names}
use Rattle.ideal_run.specs.declared.kept.Queue.{Queue}
use Rattle.ideal_run.specs.declared.kept.Stored.{Stored}
use Rattle.ideal_run.specs.declared.kept.KnownInvocation.{KnownInvocation}
use Rattle.ideal_run.specs.declared.state.State.{State}

-- the maps, by the order of their keys, and how many commits have succeeded
pub record Maps : Type 0 where
  pub objects : List (List ℕ × Value)
  pub queues : List (List ℕ × Queue)
  pub names : List (List ℕ × Stored)
  pub commits : ℕ
  pub invocations : List (List ℕ × KnownInvocation)

abbrev pub empty : Maps
empty = record { objects = []; queues = []; names = []; commits = 0; invocations = [] }

-- what a state keeps now
abbrev pub maps_of : State → Maps
maps_of s = record {
  objects = s.objects.entries;
  queues = s.queues.entries;
  names = s.names.entries;
  commits = s.commits;
  invocations = s.invocations.entries;
}

-- an execution: what it keeps, and the turns that it has done
pub record IdealState : Type 0 where
  pub maps : Maps
  pub turns : List Turn

-- the values of a queue that weren't popped
abbrev pub unpopped_values : Queue → List Value
unpopped_values q = drop q.front q.values

-- a queue, where it isn't known an empty one
abbrev pub queue_in : List ℕ → List (List ℕ × Queue) → Queue
queue_in name queues = unwrap_or (get name queues) (record { values = []; front = 0 })

-- with a value at its end, and without its front
abbrev pub push_value : Queue → Value → Queue
push_value q v = record q { values = q.values ++ v ∷ [] }

abbrev pub pop_front : Queue → Queue
pop_front q = cond (nat_lt q.front (length q.values)) (record q { front = suc q.front }) q

-- the value at its front, or none
abbrev pub front_value : Queue → Value
front_value q = unwrap_or (slice_get q.values q.front) Nothing

-- the number of the last commit that wrote a name, 0 where none did
abbrev pub commit_of : List ℕ → List (List ℕ × Stored) → ℕ
commit_of name names = unwrap_or (option_map (λ s. s.commit) (get name names)) 0

-- the value of an object, or none
abbrev pub object_in : List (List ℕ × Value) → List ℕ → Value
object_in objects key = unwrap_or (get key objects) Nothing

-- the value of a store name, or none
abbrev pub name_in : List (List ℕ × Stored) → List ℕ → Value
name_in names name = unwrap_or (option_map (λ s. s.value) (get name names)) Nothing

-- whether a commit behind the begin wrote a name
abbrev pub is_dirty : ℕ → List (List ℕ × Stored) → List ℕ → Bool
is_dirty begun names name = nat_lt begun (commit_of name names)

-- whether a commit succeeds: where no commit behind its begin wrote a name that it read or writes
abbrev pub may_commit : Option ℕ → List (List ℕ) → List (List ℕ × Value) → List (List ℕ × Stored) → Bool
may_commit None read writes names = false
may_commit (Some begun) read writes names = not (list_any (is_dirty begun names) read) && not (list_any (is_dirty begun names) (written_names writes))

-- the store names behind a commit of this number
abbrev pub with_writes : ℕ → List (List ℕ × Value) → List (List ℕ × Stored) → List (List ℕ × Stored)
with_writes commit [] names = names
with_writes commit (w ∷ ws) names = with_writes commit ws (put w.0 (record { value = w.1; commit = commit }) names)

abbrev pub committed : Bool → List (List ℕ × Value) → Maps → Maps
committed false writes m = m
committed true writes m = record m { names = with_writes (suc m.commits) writes m.names; commits = suc m.commits }
