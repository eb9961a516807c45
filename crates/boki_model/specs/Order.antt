-- The statement of the central theorem rests on this file.
-- The one order of the log. A shard is a list of records, the oldest first. A metalog entry is a vector with a count for each
-- shard: its records up to that count are ordered. An entry adds the records between the last vector's counts and its own,
-- shard by shard in ascending number. A record's seqnum is its number in the ordered list, from 1.
-- Here vectors and the ordered list stand with the newest first, so that what is added stands in front.
use Rattle.std.specs.Prelude.{ℕ, suc, min, ◌==◌, ◌&&◌, if◌then◌else◌, List, [], ◌∷◌, ◌++◌, take, drop, reverse, length, Option, Some, None}

-- the first count of a vector; a count that is missing is 0
abbrev pub first_count : List ℕ → ℕ
first_count [] = 0
first_count (n ∷ ns) = n

abbrev pub other_counts : List ℕ → List ℕ
other_counts [] = []
other_counts (n ∷ ns) = ns

-- the records of a shard behind the old count, up to the new one
abbrev pub records_between : {A : Type 0} → ℕ → ℕ → List A → List A
records_between old new records = drop old (take new records)

-- what an entry adds, the newest first
abbrev pub entry_records : {A : Type 0} → List (List A) → List ℕ → List ℕ → List A
entry_records [] old new = []
entry_records (s ∷ ss) old new = entry_records ss (other_counts old) (other_counts new) ++ reverse (records_between (first_count old) (first_count new) s)

-- the last vector; before the first entry all counts are 0
abbrev pub last_vector : List (List ℕ) → List ℕ
last_vector [] = []
last_vector (v ∷ vs) = v

-- the ordered list
abbrev pub order : {A : Type 0} → List (List A) → List (List ℕ) → List A
order shards [] = []
order shards (v ∷ vs) = entry_records shards (last_vector vs) v ++ order shards vs

-- the same with the oldest first: entry by entry, and in each the shards by ascending number
abbrev pub entry_records_from_oldest : {A : Type 0} → List (List A) → List ℕ → List ℕ → List A
entry_records_from_oldest [] old new = []
entry_records_from_oldest (s ∷ ss) old new =
    records_between (first_count old) (first_count new) s ++ entry_records_from_oldest ss (other_counts old) (other_counts new)

abbrev pub order_from_oldest : {A : Type 0} → List (List A) → List ℕ → List (List ℕ) → List A
order_from_oldest shards last [] = []
order_from_oldest shards last (v ∷ vs) = entry_records_from_oldest shards last v ++ order_from_oldest shards v vs

-- the least of some counts
abbrev pub least_count : ℕ → List ℕ → ℕ
least_count n [] = n
least_count n (c ∷ cs) = least_count (min n c) cs

-- what a cut orders: of each shard as many records as every replica has. The first replica has all of them; the counts of the
-- others are given, shard by shard
abbrev pub progress : {A : Type 0} → List (List A) → List (List ℕ) → List ℕ
progress [] counts = []
progress (s ∷ ss) [] = length s ∷ progress ss []
progress (s ∷ ss) (c ∷ cs) = least_count (length s) c ∷ progress ss cs

-- A record's location: its shard and its local number there, both from 1. Locations are ordered as the records are.
abbrev pub locations_from : {A : Type 0} → ℕ → ℕ → List A → List (ℕ × ℕ)
locations_from shard local [] = []
locations_from shard local (r ∷ rs) = (shard, suc local) ∷ locations_from shard (suc local) rs

abbrev pub locations : {A : Type 0} → ℕ → List (List A) → List (List (ℕ × ℕ))
locations shard [] = []
locations shard (s ∷ ss) = locations_from (suc shard) 0 s ∷ locations (suc shard) ss

abbrev pub ordered_locations : {A : Type 0} → List (List A) → List (List ℕ) → List (ℕ × ℕ)
ordered_locations shards vectors = order (locations 0 shards) vectors

-- the seqnum of a shard's record, in a list with the newest first
abbrev pub seq_in : ℕ → ℕ → List (ℕ × ℕ) → Option ℕ
seq_in shard local [] = None
seq_in shard local (p ∷ ps) = if (shard == p.0) && (local == p.1) then Some (suc (length ps)) else seq_in shard local ps

abbrev pub seq_of : {A : Type 0} → ℕ → ℕ → List (List A) → List (List ℕ) → Option ℕ
seq_of shard local shards vectors = seq_in shard local (ordered_locations shards vectors)

-- what stands at a seqnum of a list with the newest first
abbrev pub at_seq : {A : Type 0} → ℕ → List A → Option A
at_seq seq [] = None
at_seq seq (x ∷ xs) = if seq == suc (length xs) then Some x else at_seq seq xs

-- the shard and the local number of the record at a seqnum
abbrev pub locate : {A : Type 0} → ℕ → List (List A) → List (List ℕ) → Option (ℕ × ℕ)
locate seq shards vectors = at_seq seq (ordered_locations shards vectors)
