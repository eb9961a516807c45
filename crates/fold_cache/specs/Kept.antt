-- States of a fold that are kept, each behind the record with a seqnum: at most 64, the most recently used first.
use Rattle.std.specs.Prelude.{ℕ, ◌==◌, not, if◌then◌else◌, List, [], ◌∷◌, map, take, Option, Some, None}
use Rattle.std.specs.List.{filter}
use Rattle.lru.specs.LruCache.{LruCache}

pub record KeptState (S : Type 0) : Type 0 where
  pub seq : ℕ
  pub state : S

abbrev pub kept_state : {S : Type 0} → ℕ → S → KeptState S
kept_state seq state = record { seq = seq; state = state }

-- the state that is kept behind a record
abbrev pub state_at : {S : Type 0} → ℕ → List (KeptState S) → Option S
state_at seq [] = None
state_at seq (x ∷ xs) = if seq == x.seq then Some x.state else state_at seq xs

-- a state is kept behind a record, in front, in the place of the record's own or of the last one
abbrev pub with_state : {S : Type 0} → ℕ → S → List (KeptState S) → List (KeptState S)
with_state seq state xs = kept_state seq state ∷ take 63 (filter (λ x. not (seq == x.seq)) xs)

-- what a cache keeps, where each of its values stands for a state
abbrev pub kept_by : {V S : Type 0} → (V → S) → LruCache ℕ V → List (KeptState S)
kept_by f cache = map (λ e. kept_state e.0 (f e.1)) cache.entries
