-- The store names behind a record, each with the commit that wrote it, and what a cache keeps of them.
use Rattle.std.specs.Prelude.{◌≡◌, ℕ, ◌-◌, nat_le, Bool, true, false, if◌then◌else◌, List, [], ◌∷◌, ◌++◌, length, Option, Some, None, unwrap_or}
use Rattle.std.specs.Option.{option_map_or}
use Rattle.std.specs.List.{AllByRecursion}
use Rattle.lb_base.specs.declared.value.Value.{Value}
use Rattle.lb_base.specs.declared.value.Value.TheVariants.{Nothing}
use Rattle.boki_types.specs.declared.body.Body.{Body}
use Rattle.boki_types.specs.declared.body.Body.TheVariants as body
use Rattle.boki_model.specs.Live.{LogRecord, Live, live, upto, is_live}
use Rattle.boki_model.specs.Reads.{tagged_seqnums}
use Rattle.boki_model.specs.Maps.{get}
use Rattle.boki_model.specs.Folds.{commits, store_values, values_of_names}
use Rattle.boki_machine.specs.Step.{records_below, is_committed}
use Rattle.log_folds.specs.Bounds.{record_at}
use Rattle.log_folds.specs.Own.{commit_tag}
use Rattle.fold_cache.specs.Kept.{KeptState, with_state}
use Rattle.boki_txn.specs.Names.{StoredNames, names_behind}

-- whether a record is a commit, and whether the live record with a seqnum is
abbrev pub is_commit : Body → Bool
is_commit (body.TxnCommit p i begin names writes) = true
is_commit _ = false

abbrev pub commits_at : ℕ → List (Live Body) → Bool
commits_at seq records = option_map_or (λ x. is_commit x.holds) (record_at seq records) false

-- the names behind all live records at or below a seqnum
abbrev pub names_at : ℕ → List (Live Body) → StoredNames
names_at seq records = names_behind (commits (upto seq records))

-- What a cache keeps are states of the fold: behind a live record of these.
pub record IsTxnFold (records : List (Live Body)) (x : KeptState StoredNames) : Type 0 where
  pub there : is_live x.seq records ≡ true
  pub names : x.state ≡ names_at x.seq records

abbrev pub AreTxnFolds : List (KeptState StoredNames) → List (Live Body) → Type 0
AreTxnFolds kept records = AllByRecursion (IsTxnFold records) kept

-- they stay so where newer records are ordered
abbrev pub TxnFoldsStay : Type 0
TxnFoldsStay =
    (kept : List (KeptState StoredNames)) (news log : List (LogRecord Body))
    → AreTxnFolds kept (live log) → AreTxnFolds kept (live (news ++ log))

-- a state of at most 4,096 names is kept
abbrev pub with_names : ℕ → StoredNames → List (KeptState StoredNames) → List (KeptState StoredNames)
with_names seq state kept = if nat_le (length state) 4096 then with_state seq state kept else kept

-- the newest commit below a seqnum, good or not
abbrev pub first_of : List ℕ → Option ℕ
first_of [] = None
first_of (seq ∷ seqs) = Some seq

abbrev pub commit_below : ℕ → List (Live Body) → Option ℕ
commit_below seq records = first_of (tagged_seqnums commit_tag (records_below seq records))

-- the state before a seqnum is kept behind that commit, where there is one
abbrev pub with_names_below : ℕ → List (Live Body) → List (KeptState StoredNames) → List (KeptState StoredNames)
with_names_below seq records kept = option_map_or (λ s. with_names s (names_at (seq - 1) records) kept) (commit_below seq records) kept

-- the value of a name before a record, or none
abbrev pub value_before : List ℕ → ℕ → List (Live Body) → Value
value_before name seq records = unwrap_or (get name (store_values (commits (records_below seq records)))) Nothing

-- values before a record were told; the state before it is kept, as the one most recently used
pub record IsValueTold
    (key : List ℕ) (seq : ℕ) (records : List (Live Body)) (old new : List (KeptState StoredNames)) (told : Value)
    : Type 0 where
  pub value : told ≡ value_before key seq records
  pub kept : new ≡ with_names_below seq records old

pub record AreValuesTold
    (names : List (List ℕ)) (seq : ℕ) (records : List (Live Body)) (old new : List (KeptState StoredNames))
    (told : List Value) : Type 0 where
  pub values : told ≡ values_of_names names (store_values (commits (records_below seq records)))
  pub kept : new ≡ with_names_below seq records old

-- whether a commit succeeded was told; the state behind it is kept, as the one most recently used
pub record IsCommitTold
    (seq : ℕ) (records : List (Live Body)) (old new : List (KeptState StoredNames)) (told : Bool)
    : Type 0 where
  pub good : told ≡ is_committed seq records
  pub kept : new ≡ with_names seq (names_at seq records) old
