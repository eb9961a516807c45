-- How many engines a book has stays, and so do its replicas.
use Rattle.std.specs.Prelude.{◌≡◌, ℕ, ◌<◌, ◌≤◌, [], length, slice_index_or}
use Rattle.book_api.specs.Books.{BookState}

abbrev pub HasEngines : ℕ → BookState → Type 0
HasEngines n b = n ≤ length b.positions

abbrev pub EnginesStay : BookState → BookState → Type 0
EnginesStay old new = length new.positions ≡ length old.positions

-- the first shard has a second replica
abbrev pub HasSecondReplica : BookState → Type 0
HasSecondReplica b = (1 ≤ length b.shards) × (0 < length (slice_index_or b.counts 0 []))
