-- The statement of the central theorem rests on this file.
-- Queues and store names: what the live records, the newest first, make of them.
use Rattle.std.specs.Prelude.{ℕ, ◌&&◌, ◌||◌, not, nat_lt, Bool, true, false, if◌then◌else◌, List, [], ◌∷◌, ◌++◌, drop, map, unwrap_or}
use Rattle.lb_base.specs.declared.value.Value.{Value}
use Rattle.lb_base.specs.declared.value.Value.TheVariants.{Nothing}
use Rattle.boki_types.specs.declared.body.Body.{Body}
use Rattle.boki_types.specs.declared.body.Body.TheVariants as body
use Rattle.boki_model.specs.Live.{Live}
use Rattle.boki_model.specs.Maps.{get, put, has}

-- Queues. A push puts its value at the end, and a pop takes the front, where there is one. Both make their queue known.
abbrev pub queue_in : List ℕ → List (List ℕ × List Value) → List Value
queue_in q queues = unwrap_or (get q queues) []

abbrev pub push_queue : List ℕ → Value → List (List ℕ × List Value) → List (List ℕ × List Value)
push_queue q v queues = put q (queue_in q queues ++ v ∷ []) queues

abbrev pub pop_queue : List ℕ → List (List ℕ × List Value) → List (List ℕ × List Value)
pop_queue q queues = put q (drop 1 (queue_in q queues)) queues

abbrev pub front_of : List Value → Value
front_of [] = Nothing
front_of (v ∷ vs) = v

-- what a pop answers: the front, or none
abbrev pub front : List ℕ → List (List ℕ × List Value) → Value
front q queues = front_of (queue_in q queues)

abbrev pub apply_to_queues : Body → List (List ℕ × List Value) → List (List ℕ × List Value)
apply_to_queues (body.Push p i q v) queues = push_queue q v queues
apply_to_queues (body.Pop p i q) queues = pop_queue q queues
apply_to_queues _ queues = queues

-- the known queues, each with its values, the front first
abbrev pub queues : List (Live Body) → List (List ℕ × List Value)
queues [] = []
queues (x ∷ xs) = apply_to_queues x.holds (queues xs)

-- Transactions. A commit with its begin at the seqnum b succeeds exactly where no commit that succeeded behind b wrote one of
-- the names that it read or writes. A name that is written twice in one commit has the last value.
pub record Commit : Type 0 where
  pub seq : ℕ
  pub writes : List (List ℕ × Value)

abbrev pub written_names : List (List ℕ × Value) → List (List ℕ)
written_names writes = map (λ w. w.0) writes

-- whether one of the names is among others
abbrev pub intersects : List (List ℕ) → List (List ℕ) → Bool
intersects [] others = false
intersects (n ∷ ns) others = has n others || intersects ns others

-- the commits that succeeded are given, the newest first
abbrev pub succeeds : ℕ → List (List ℕ) → List (List ℕ × Value) → List Commit → Bool
succeeds begin names writes [] = true
succeeds begin names writes (c ∷ cs) =
    not (nat_lt begin c.seq && intersects (names ++ written_names writes) (written_names c.writes)) && succeeds begin names writes cs

abbrev pub add_commit : ℕ → Body → List Commit → List Commit
add_commit seq (body.TxnCommit p i begin names writes) past =
    if succeeds begin names writes past then record { seq = seq; writes = writes } ∷ past else past
add_commit seq _ past = past

-- the commits that succeeded, the newest first
abbrev pub commits : List (Live Body) → List Commit
commits [] = []
commits (x ∷ xs) = add_commit x.seq x.holds (commits xs)

abbrev pub put_all : List (List ℕ × Value) → List (List ℕ × Value) → List (List ℕ × Value)
put_all [] names = names
put_all (w ∷ ws) names = put_all ws (put w.0 w.1 names)

-- the values of the store names behind these commits
abbrev pub store_values : List Commit → List (List ℕ × Value)
store_values [] = []
store_values (c ∷ cs) = put_all c.writes (store_values cs)

-- what a begin reads: the value of each name, or none
abbrev pub values_of_names : List (List ℕ) → List (List ℕ × Value) → List Value
values_of_names [] names = []
values_of_names (n ∷ ns) names = unwrap_or (get n names) Nothing ∷ values_of_names ns names
