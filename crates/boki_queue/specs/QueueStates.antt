-- One queue behind a record, and what a cache keeps of queues.
use Rattle.std.specs.Prelude.{◌≡◌, ℕ, suc, ◌++◌, nat_le, Bool, false, if◌then◌else◌, List, [], ◌∷◌, length, Option, Some, None, option_and_then, bytes_eq}
use Rattle.std.specs.Option.{option_map_or}
use Rattle.std.specs.List.{AllByRecursion}
use Rattle.lb_base.specs.declared.value.Value.{Value}
use Rattle.boki_types.specs.declared.body.Body.{Body}
use Rattle.boki_types.specs.declared.body.Body.TheVariants as body
use Rattle.boki_model.specs.Live.{LogRecord, Live, live, upto}
use Rattle.boki_model.specs.Folds.{queue_in, queues, front}
use Rattle.boki_machine.specs.Step.{records_below}
use Rattle.log_folds.specs.Bounds.{record_at}
use Rattle.fold_cache.specs.Kept.{KeptState, state_at, with_state}

-- which queue a record changes, and which one it pops
abbrev pub queue_of : Body → Option (List ℕ)
queue_of (body.Push p i q v) = Some q
queue_of (body.Pop p i q) = Some q
queue_of _ = None

abbrev pub popped_of : Body → Option (List ℕ)
popped_of (body.Pop p i q) = Some q
popped_of _ = None

-- of the live record with a seqnum
abbrev pub queue_at : ℕ → List (Live Body) → Option (List ℕ)
queue_at seq records = option_and_then (λ x. queue_of x.holds) (record_at seq records)

abbrev pub popped_at : ℕ → List (Live Body) → Option (List ℕ)
popped_at seq records = option_and_then (λ x. popped_of x.holds) (record_at seq records)

-- the values of a queue behind all its live records at or below a seqnum, the front first
abbrev pub values_at : List ℕ → ℕ → List (Live Body) → List Value
values_at queue seq records = queue_in queue (queues (upto seq records))

-- a queue, and its values
pub record QueueState : Type 0 where
  pub queue : List ℕ
  pub values : List Value

abbrev pub queue_state : List ℕ → ℕ → List (Live Body) → QueueState
queue_state queue seq records = record { queue = queue; values = values_at queue seq records }

-- What a cache keeps are states of the fold: behind a live record of the queue, of these records.
pub record IsQueueFold (records : List (Live Body)) (x : KeptState QueueState) : Type 0 where
  pub queue : queue_at x.seq records ≡ Some x.state.queue
  pub values : x.state.values ≡ values_at x.state.queue x.seq records

abbrev pub AreQueueFolds : List (KeptState QueueState) → List (Live Body) → Type 0
AreQueueFolds kept records = AllByRecursion (IsQueueFold records) kept

-- they stay so where newer records are ordered
abbrev pub QueueFoldsStay : Type 0
QueueFoldsStay =
    (kept : List (KeptState QueueState)) (news log : List (LogRecord Body))
    → AreQueueFolds kept (live log) → AreQueueFolds kept (live (news ++ log))

-- a state of at most 4,096 values is kept
abbrev pub with_queue : ℕ → QueueState → List (KeptState QueueState) → List (KeptState QueueState)
with_queue seq state kept = if nat_le (length state.values) 4096 then with_state seq state kept else kept

-- the values of a queue at a record were told; the state there is kept, as the one most recently used
pub record IsQueueTold
    (name : List ℕ) (seq : ℕ) (records : List (Live Body)) (old new : List (KeptState QueueState)) (told : List Value)
    : Type 0 where
  pub values : told ≡ values_at name seq records
  pub kept : new ≡ with_queue seq (queue_state name seq records) old

-- a pop's answer was told; the state behind the pop is kept, as the one most recently used
pub record IsPopTold
    (name : List ℕ) (seq : ℕ) (records : List (Live Body)) (old new : List (KeptState QueueState)) (told : Value)
    : Type 0 where
  pub value : told ≡ front name (queues (records_below seq records))
  pub kept : new ≡ with_queue seq (queue_state name seq records) old

-- How many of a tag's records, whose seqnums are given with the newest first, are above the newest one behind which a
-- state of the queue is kept.
abbrev pub has_state : List ℕ → Option QueueState → Bool
has_state queue found = option_map_or (λ state. bytes_eq queue state.queue) found false

abbrev pub unkept_count : List (KeptState QueueState) → List ℕ → List ℕ → ℕ
unkept_count kept queue [] = 0
unkept_count kept queue (seq ∷ seqs) =
    if has_state queue (state_at seq kept) then 0 else suc (unkept_count kept queue seqs)
