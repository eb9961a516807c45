-- Values that states of queues share: a state is a window of a row.
use Rattle.std.specs.Prelude.{◌≡◌, ℕ, ◌-◌, ◌<◌, ◌≤◌, List, [], length, drop, take, slice_index, slice_index_or, Some}
use Rattle.std.specs.List.{AllByRecursion}
use Rattle.lru.specs.LruCache.{LruCache}
use Rattle.lb_base.specs.declared.value.Value.{Value}
use Rattle.boki_queue.specs.declared.shared.Row.{Row}
use Rattle.boki_queue.specs.declared.shared.Window.{Window}
use Rattle.boki_queue.specs.declared.walking.Found.{Found}
use Rattle.boki_queue.specs.QueueStates.{QueueState}
use Rattle.fold_cache.specs.Kept.{KeptState, state_at, kept_by}

abbrev pub row_at : List Row → ℕ → Row
row_at rows k = slice_index_or rows k (record { queue = []; values = [] })

abbrev pub window_values : List Row → Window → List Value
window_values rows w = drop w.from (take w.to (row_at rows w.row).values)

-- the state that a window of a row is
abbrev pub state_of : List Row → Window → QueueState
state_of rows w = record { queue = (row_at rows w.row).queue; values = window_values rows w }

pub record IsWithin (rows : List Row) (w : Window) : Type 0 where
  pub row : w.row < length rows
  pub order : w.from ≤ w.to
  pub end : w.to ≤ length (row_at rows w.row).values

-- each window stays what it was
pub record WindowsStay (old new : List Row) : Type 0 where
  pub within : (w : Window) → IsWithin old w → IsWithin new w
  pub state : (w : Window) → IsWithin old w → state_of new w ≡ state_of old w

-- a window that is this state
pub record IsState (rows : List Row) (name : List ℕ) (vs : List Value) (w : Window) : Type 0 where
  pub within : IsWithin rows w
  pub queue : (row_at rows w.row).queue ≡ name
  pub values : window_values rows w ≡ vs

-- what a cache of windows keeps
abbrev pub kept_states : List Row → LruCache ℕ Window → List (KeptState QueueState)
kept_states rows cache = kept_by (state_of rows) cache

pub record IsSound (rows : List Row) (cache : LruCache ℕ Window) : Type 0 where
  pub size : cache.cap ≡ 64
  pub within : AllByRecursion (λ e. IsWithin rows e.1) cache.entries

-- a state of the queue that is kept behind a record
pub record IsKept
    (rows : List Row) (states : List (KeptState QueueState)) (name : List ℕ) (seq : ℕ) (w : Window) : Type 0 where
  pub within : IsWithin rows w
  pub kept : state_at seq states ≡ Some (state_of rows w)
  pub queue : (row_at rows w.row).queue ≡ name

-- and one behind one of the records with these seqnums: so many of them are up to it
pub record IsFound
    (rows : List Row) (states : List (KeptState QueueState)) (name : List ℕ) (seqs : List ℕ) (found : Found) : Type 0 where
  pub some : 0 < found.count
  pub all : found.count ≤ length seqs
  pub state : IsKept rows states name (slice_index seqs (found.count - 1)) found.window
