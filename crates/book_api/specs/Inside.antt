-- A book's parts, what they are seen as, and what is so of them.
use Rattle.std.specs.Prelude.{slice_index_or, ◌≡◌, ℕ, ◌-◌, ◌^◌, ◌<◌, ◌≤◌, List, length, map, drop, sum}
use Rattle.std.specs.List.{All}
use Rattle.lru.specs.LruCache.{LruCache}
use Rattle.lb_base.specs.declared.value.Record.{Record}
use Rattle.boki_model.specs.Order.{order, progress as progress_in, last_vector}
use Rattle.boki_model.specs.OrderLaws.{AreAtMost, CountsGrow}
use Rattle.boki_model.specs.Live.{LogRecord, entry_of, live}
use Rattle.boki_machine.specs.Machine.{Aux}
use Rattle.shard_store.specs.Kept as stored
use Rattle.meta_order.specs.MetalogState.{MetalogState, AreOrdered}
use Rattle.eng_index.specs.IndexState as shown
use Rattle.book_api.specs.Books.{BookState, log_of, position, seen}

-- an engine's auxiliary data, as its cache keeps them
abbrev pub aux_in : LruCache ℕ (List ℕ) → List Aux
aux_in cache = map (λ e. record { seq = e.0; text = e.1 }) cache.entries

-- an index has as many records as marks
abbrev pub position_of : shown.IndexState → ℕ
position_of index = length index.marks

abbrev pub book_state_of : stored.ShardsState → MetalogState → List shown.IndexState → List (LruCache ℕ (List ℕ)) → BookState
book_state_of shards metalog indexes aux = record {
  shards = shards.shards;
  counts = shards.counts;
  vectors = metalog.vectors;
  positions = map position_of indexes;
  aux = map aux_in aux;
}

-- the oldest records of a list that has the newest first
abbrev pub oldest : {X : Type 0} → ℕ → List X → List X
oldest n xs = drop (length xs - n) xs

-- an index has the oldest records of the log, as many as its position says
pub record IsView (log : List (LogRecord (List ℕ))) (index : shown.IndexState) : Type 0 where
  pub within : position_of index ≤ length log
  pub shows : shown.IsIndexOf (oldest (position_of index) log) index

-- an index came some way, or none
pub record CatchesUp (log : List (LogRecord (List ℕ))) (old new : shown.IndexState) : Type 0 where
  pub view : IsView log new
  pub rises : position_of old ≤ position_of new

abbrev pub EachCatchesUp : List (LogRecord (List ℕ)) → List shown.IndexState → List shown.IndexState → Type 0
EachCatchesUp log old new = (k : ℕ) (d : shown.IndexState) → k < length old → CatchesUp log (slice_index_or old k d) (slice_index_or new k d)

abbrev pub log_in : stored.ShardsState → MetalogState → List (LogRecord (List ℕ))
log_in shards metalog = map entry_of (order shards.shards metalog.vectors)

-- how many records the shards have
abbrev pub records_in : List (List Record) → ℕ
records_in shards = sum (map length shards)

-- the shards and the metalog, with the number of records
pub record AreStored (shards : stored.ShardsState) (metalog : MetalogState) (sent : ℕ) : Type 0 where
  pub some : 0 < length shards.shards
  pub few : length shards.shards ≤ 16
  pub ordered : AreOrdered shards.shards metalog
  pub grow : CountsGrow metalog.vectors
  pub ahead : AreAtMost (last_vector metalog.vectors) (progress_in shards.shards shards.counts)
  pub counted : records_in shards.shards ≡ sent
  pub bound : sent ≤ 2 ^ 63

-- the engines: their indexes, and their caches
pub record AreEngines (log : List (LogRecord (List ℕ))) (indexes : List shown.IndexState) (aux : List (LruCache ℕ (List ℕ))) : Type 0 where
  pub few : length indexes ≤ 16
  pub caches : length aux ≡ length indexes
  pub views : All (IsView log) indexes
  pub sizes : All (λ c. c.cap ≡ 64) aux

pub record IsSound (shards : stored.ShardsState) (metalog : MetalogState) (indexes : List shown.IndexState) (aux : List (LruCache ℕ (List ℕ))) (progress : List ℕ) (sent : ℕ) : Type 0 where
  pub stored : AreStored shards metalog sent
  pub engines : AreEngines (log_in shards metalog) indexes aux
  pub room : length progress ≡ length shards.shards

-- an index shows what the engine sees
pub record ShowsView (b : BookState) (engine : ℕ) (index : shown.IndexState) : Type 0 where
  pub log : List (LogRecord (List ℕ))
  pub shows : shown.IsIndexOf log index
  pub view : live log ≡ seen b engine
  pub long : length log ≡ position b engine
  pub within : position b engine ≤ length (log_of b)
  pub few : position b engine ≤ 2 ^ 63
