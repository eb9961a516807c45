-- The statement of the central theorem rests on this file.
-- What one entry of the metalog adds, by the counts of its vector and of the last one alone: how many records, which location
-- has a seqnum, counted from the entry's first, and which seqnum a location has.
use Rattle.std.specs.Prelude.{ℕ, zero, suc, ◌+◌, ◌-◌, ◌==◌, ◌&&◌, nat_le, Bool, true, if◌then◌else◌, List, [], ◌∷◌, Option, Some, None}
use Rattle.boki_model.specs.Order.{first_count, other_counts}

-- the count of a shard, whose number is from 0 here
abbrev pub count_at : ℕ → List ℕ → ℕ
count_at zero v = first_count v
count_at (suc shard) v = count_at shard (other_counts v)

-- the sum of the counts of so many shards
abbrev pub total : ℕ → List ℕ → ℕ
total zero v = 0
total (suc shards) v = first_count v + total shards (other_counts v)

-- the counts are those of the last vector
abbrev pub same_counts : List ℕ → List ℕ → Bool
same_counts [] old = true
same_counts (n ∷ ns) old = (n == first_count old) && same_counts ns (other_counts old)

-- how many records an entry adds, of so many shards
abbrev pub entry_size : ℕ → List ℕ → List ℕ → ℕ
entry_size zero old new = 0
entry_size (suc shards) old new = (first_count new - first_count old) + entry_size shards (other_counts old) (other_counts new)

-- the location of the entry's record of this number, from 1, where so many shards are before
abbrev pub location_in_entry : ℕ → ℕ → ℕ → List ℕ → List ℕ → Option (ℕ × ℕ)
location_in_entry zero before number old new = None
location_in_entry (suc shards) before number old new =
    if nat_le number (first_count new - first_count old) then Some (suc before, first_count old + number)
    else location_in_entry shards (suc before) (number - (first_count new - first_count old)) (other_counts old) (other_counts new)

-- which record of the entry the shard's record is, where the entry adds it
abbrev pub rank_in_entry : ℕ → ℕ → List ℕ → List ℕ → ℕ
rank_in_entry zero local old new = local - first_count old
rank_in_entry (suc shard) local old new =
    (first_count new - first_count old) + rank_in_entry shard local (other_counts old) (other_counts new)
