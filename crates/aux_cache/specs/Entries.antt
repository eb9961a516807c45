-- What a cache keeps, as std's maps and the kit's `lru` write it: the entries, the most recently used first, and the most that
-- there may be. An entry is a seqnum and its value.
use Rattle.std.specs.Prelude.{ℕ, nat_eq, Option}
use Rattle.std.specs.Map.{lookup}
use Rattle.lru.specs.LruCache.{LruCache, lru_cache, promoted, put_entries}

-- the value at a seqnum, where it has an entry
abbrev pub value_at : {V : Type 0} → ℕ → LruCache ℕ V → Option V
value_at seq c = lookup (nat_eq seq) c.entries

-- the entry of a seqnum comes to the front; where there is none, nothing changes
abbrev pub moved_to_front : {V : Type 0} → ℕ → LruCache ℕ V → LruCache ℕ V
moved_to_front seq c = lru_cache (promoted (nat_eq seq) c.entries) c.cap

-- a value is set: its entry stands in front, in the place of the seqnum's own entry, or of the last one where the cache is full
abbrev pub with_entry : {V : Type 0} → ℕ → V → LruCache ℕ V → LruCache ℕ V
with_entry seq v c = lru_cache (put_entries nat_eq c seq v) c.cap
