-- The store names, changed commit by commit.
use Rattle.std.specs.Prelude.{◌≡◌, ℕ, ◌-◌, ◌<◌, ◌≤◌, List, [], ◌∷◌, length, slice_index, Some}
use Rattle.lru.specs.LruCache.{LruCache}
use Rattle.book_api.specs.Books.{BookState}
use Rattle.fold_cache.specs.Bodies.{body_at}
use Rattle.fold_cache.specs.Kept.{KeptState, state_at, kept_by}
use Rattle.boki_txn.specs.Names.{StoredNames, changed_by}
use Rattle.boki_txn.specs.declared.walking.Start.{Start}

-- by the records with these seqnums, in this order
abbrev pub changed_by_all : BookState → List ℕ → StoredNames → StoredNames
changed_by_all book [] names = names
changed_by_all book (seq ∷ seqs) names = changed_by_all book seqs (changed_by seq (body_at book seq) names)

-- what a cache keeps
abbrev pub kept_names : LruCache ℕ StoredNames → List (KeptState StoredNames)
kept_names cache = kept_by (λ names. names) cache

-- the names behind the newest of these commits behind which a state is kept, of which so many are up to it; or no names
pub record IsStart (states : List (KeptState StoredNames)) (seqs : List ℕ) (start : Start) : Type 0 where
  pub all : start.count ≤ length seqs
  pub none : start.count ≡ 0 → start.names ≡ []
  pub some : 0 < start.count → state_at (slice_index seqs (start.count - 1)) states ≡ Some start.names

-- a cache has room for 64 states
abbrev pub IsBounded : LruCache ℕ StoredNames → Type 0
IsBounded cache = cache.cap ≡ 64
