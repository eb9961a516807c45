-- What the shards hold: the records of each, the oldest first, and how many of them each replica has. The first replica has
-- all; a shard's counts are those of the replicas from the second on. Shards, replicas and records are numbered from 1.
use Rattle.std.specs.Prelude.{ℕ, ◌+◌, ◌-◌, ◌<◌, ◌≤◌, min, List, [], length, replicate, slice_index, slice_index_or, slice_set}
use Rattle.lb_base.specs.declared.value.Record.{Record}
use Rattle.boki_model.specs.OrderLaws.{add_to}

pub record ShardsState : Type 0 where
  pub shards : List (List Record)
  pub counts : List (List ℕ)

-- so many shards with no record, each of so many replicas
abbrev pub empty_shards : ℕ → ℕ → ShardsState
empty_shards shards replicas = record { shards = replicate shards []; counts = replicate shards (replicate (replicas - 1) 0) }

-- the shard's records, and the counts of its replicas
abbrev pub records_of : ℕ → ShardsState → List Record
records_of shard kept = slice_index_or kept.shards (shard - 1) []

abbrev pub counts_of : ℕ → ShardsState → List ℕ
counts_of shard kept = slice_index_or kept.counts (shard - 1) []

-- there is such a shard, and such a replica behind its first
abbrev pub HasShard : ℕ → ShardsState → Type 0
HasShard shard kept = (0 < shard) × (shard ≤ length kept.shards)

abbrev pub HasReplica : ℕ → ℕ → ShardsState → Type 0
HasReplica shard replica kept = (1 < replica) × (replica - 2 < length (counts_of shard kept))

-- how many records a replica has
abbrev pub count_of : ℕ → ℕ → ShardsState → ℕ
count_of shard replica kept = slice_index (counts_of shard kept) (replica - 2)

-- one more record in a shard
abbrev pub appended : ℕ → Record → ShardsState → ShardsState
appended shard r kept = record kept { shards = add_to (shard - 1) r kept.shards }

-- the lesser of n and what the replica lacks is copied
abbrev pub copied_count : ℕ → ℕ → ℕ → ShardsState → ℕ
copied_count shard replica n kept = min n (length (records_of shard kept) - count_of shard replica kept)

abbrev pub after_copy : ℕ → ℕ → ℕ → ShardsState → ShardsState
after_copy shard replica n kept =
    record kept { counts = slice_set kept.counts (shard - 1) (slice_set (counts_of shard kept) (replica - 2) (count_of shard replica kept + copied_count shard replica n kept)) }

-- One shard by itself.

pub record ShardState : Type 0 where
  pub records : List Record
  pub counts : List ℕ
