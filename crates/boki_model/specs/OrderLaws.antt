-- Laws of the ordered list: the newest-first list is the ordered one, and locations and seqnums are inverse to each other.
use Rattle.std.specs.Prelude.{◌≡◌, ℕ, zero, suc, ◌<◌, ◌≤◌, List, [], ◌∷◌, ◌++◌, length, reverse, Option, Some, None, slice_get, slice_set, slice_index_or, option_and_then, IsSome, map}
use Rattle.boki_model.specs.Order.{first_count, other_counts, last_vector, order, order_from_oldest, ordered_locations, at_seq, seq_of, locate}
use Rattle.boki_model.specs.Entries.{count_at, total}

-- the newest-first list is the one that goes entry by entry, and in each shard by shard
abbrev pub NewestFirstIsInOrder : Type 0 → Type 0
NewestFirstIsInOrder A =
    (shards : List (List A)) (vectors : List (List ℕ)) → reverse (order shards vectors) ≡ order_from_oldest shards [] (reverse vectors)

-- no count of the first vector is above that of the second
abbrev pub AreAtMost : List ℕ → List ℕ → Type 0
AreAtMost [] new = Unit {0}
AreAtMost (n ∷ ns) new = (n ≤ first_count new) × AreAtMost ns (other_counts new)

-- counts grow from vector to vector
abbrev pub CountsGrow : List (List ℕ) → Type 0
CountsGrow [] = Unit {0}
CountsGrow (v ∷ vs) = AreAtMost (last_vector vs) v × CountsGrow vs

-- the shards have as many records as a vector counts
abbrev pub ShardsHave : {A : Type 0} → List (List A) → List ℕ → Type 0
ShardsHave [] v = Unit {0}
ShardsHave (s ∷ ss) v = (first_count v ≤ length s) × ShardsHave ss (other_counts v)

-- the record at a location: both numbers are from 1
abbrev pub local_record : {A : Type 0} → ℕ → List A → Option A
local_record zero s = None
local_record (suc n) s = slice_get s n

abbrev pub record_at : {A : Type 0} → ℕ → ℕ → List (List A) → Option A
record_at zero local shards = None
record_at (suc n) local shards = option_and_then (local_record local) (slice_get shards n)

-- Where vectors grow and the shards have what the last one counts.
pub record AreInverse {A : Type 0} (shards : List (List A)) (vectors : List (List ℕ)) : Type 0 where
  -- the location of a record's seqnum is the record's
  pub located : (shard local seq : ℕ) → seq_of shard local shards vectors ≡ Some seq → locate seq shards vectors ≡ Some (shard, local)
  -- the seqnum of what stands at a seqnum is this one
  pub numbered : (shard local seq : ℕ) → locate seq shards vectors ≡ Some (shard, local) → seq_of shard local shards vectors ≡ Some seq
  -- what the ordered list has at a seqnum is the record at its location
  pub stands : (seq : ℕ) → at_seq seq (order shards vectors) ≡ option_and_then (λ p. record_at p.0 p.1 shards) (locate seq shards vectors)

abbrev pub LocationsTellSeqnums : Type 0 → Type 0
LocationsTellSeqnums A =
    (shards : List (List A)) (vectors : List (List ℕ)) → CountsGrow vectors → ShardsHave shards (last_vector vectors) → AreInverse shards vectors

-- a record is added to a shard, whose number is from 0 here
abbrev pub add_to : {A : Type 0} → ℕ → A → List (List A) → List (List A)
add_to shard r shards = slice_set shards shard (slice_index_or shards shard [] ++ r ∷ [])

-- an append to a shard changes neither the ordered list nor a location in it
pub record OrderStays {A : Type 0} (shard : ℕ) (r : A) (shards : List (List A)) (vectors : List (List ℕ)) : Type 0 where
  pub records : order (add_to shard r shards) vectors ≡ order shards vectors
  pub locations : ordered_locations (add_to shard r shards) vectors ≡ ordered_locations shards vectors

abbrev pub AppendsKeepTheOrder : Type 0 → Type 0
AppendsKeepTheOrder A =
    (shard : ℕ) (r : A) (shards : List (List A)) (vectors : List (List ℕ)) → CountsGrow vectors → ShardsHave shards (last_vector vectors) → OrderStays shard r shards vectors

-- the ordered list has as many records as the last vector counts
abbrev pub LengthIsTotal : Type 0 → Type 0
LengthIsTotal A =
    (shards : List (List A)) (vectors : List (List ℕ)) → CountsGrow vectors → ShardsHave shards (last_vector vectors)
    → length (order shards vectors) ≡ total (length shards) (last_vector vectors)

-- a further vector keeps each location, and adds just the records between the last counts and its own
pub record AddsJustNew {A : Type 0} (shards : List (List A)) (v : List ℕ) (vectors : List (List ℕ)) : Type 0 where
  pub kept : (seq : ℕ) → seq ≤ length (order shards vectors) → locate seq shards (v ∷ vectors) ≡ locate seq shards vectors
  pub stays : (shard local seq : ℕ) → seq_of shard local shards vectors ≡ Some seq → seq_of shard local shards (v ∷ vectors) ≡ Some seq
  pub new : (i local : ℕ) → i < length shards → count_at i (last_vector vectors) < local → local ≤ count_at i v → IsSome (seq_of (suc i) local shards (v ∷ vectors))
  pub just : (i local seq : ℕ) → seq_of (suc i) local shards (v ∷ vectors) ≡ Some seq → (0 < local) × (local ≤ count_at i v)

abbrev pub CutsKeepLocations : Type 0 → Type 0
CutsKeepLocations A =
    (shards : List (List A)) (v : List ℕ) (vectors : List (List ℕ)) → CountsGrow (v ∷ vectors) → ShardsHave shards v → AddsJustNew shards v vectors

-- locations depend on the numbers of records alone
abbrev pub LocationsAreOfLengths : Type 0 → Type 0 → Type 0
LocationsAreOfLengths A B =
    (shards : List (List A)) (others : List (List B)) (vectors : List (List ℕ)) → map length shards ≡ map length others
    → ordered_locations shards vectors ≡ ordered_locations others vectors
