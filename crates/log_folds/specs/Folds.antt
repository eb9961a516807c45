-- Each fold goes by the records of its tags alone: over the whole view it is what it is over those. The
-- records have their own tags; where a fold looks at the records behind one by its seqnum, seqnums fall
-- from the newest on.
use Rattle.std.specs.Prelude.{◌≡◌, ℕ, suc, ◌-◌, ◌<◌, ◌≤◌, ◌&&◌, nat_lt, max, false, cond, List, [], ◌∷◌, Option, Some, None, option_and_then}
use Rattle.std.specs.List.{AllByRecursion}
use Rattle.lb_base.specs.Path.{IsPath}
use Rattle.lb_base.specs.declared.value.Mode.{Mode}
use Rattle.lb_base.specs.declared.value.Outcome.{Outcome}
use Rattle.boki_types.specs.declared.body.Body.{Body}
use Rattle.boki_types.specs.declared.log.Call.{Call}
use Rattle.boki_model.specs.Live.{Live, has_tag, count, upto}
use Rattle.std.specs.Option.{option_or}
use Rattle.boki_model.specs.Reads.{nth, hidden_bound}
use Rattle.boki_model.specs.LogLaws.{FallBelow}
use Rattle.boki_model.specs.Maps.{get}
use Rattle.boki_model.specs.Bodies.{tag_number, call_tag, step_tag, life_tag, key_tag}
use Rattle.boki_model.specs.Modes.{Modes, result_of, least_open_in, least_open, all_ended, apply_to_modes, modes, mode_after}
use Rattle.boki_model.specs.Floor.{counted_trim, floor, first_open, trim_limit}
use Rattle.boki_model.specs.Writes.{NamedValue, Store, logged_write, logged_writes, last_value_below}
use Rattle.boki_model.specs.Folds.{queue_in, queues, front, commits}
use Rattle.boki_machine.specs.Attempt.{call_in, call_of}
use Rattle.boki_machine.specs.Reports.{results}
use Rattle.exactly_once.specs.FurtherLaws.StepRecords.{step_seqnums, IsWellFormedLive}
use Rattle.boki_machine.specs.Decided.{oldest}
use Rattle.log_folds.specs.ByTag.{with_tag, with_either_tag}
use Rattle.log_folds.specs.Own.{switch_tag, trim_tag, commit_tag, is_write_to, HaveOwnTags}

-- Calls. The first record of the call tag is the call.
abbrev pub CallsByTag : Type 0
CallsByTag =
    (path : List ℕ) (records : List (Live Body)) → HaveOwnTags records
    → call_of path records ≡ call_of path (with_tag (call_tag path) records)

abbrev pub CallIsFirst : Type 0
CallIsFirst =
    (path : List ℕ) (records : List (Live Body)) → IsPath path → AllByRecursion IsWellFormedLive records
    → call_of path records ≡ option_and_then (λ x. call_in path x.holds) (nth (call_tag path) 0 records)

-- Results, by the step tag of the path or by the tag of lives; and what the oldest records answer stays, so
-- that a walk from the oldest on may stop.
pub record ResultsByTags (records : List (Live Body)) : Type 0 where
  pub of_steps : (path : List ℕ) → result_of path records ≡ result_of path (with_tag (step_tag path) records)
  pub of_lives : (path : List ℕ) → result_of path records ≡ result_of path (with_tag life_tag records)
  pub all : results records ≡ results (with_tag life_tag records)
  pub steps : (path : List ℕ) → step_seqnums path records ≡ step_seqnums path (with_tag (step_tag path) records)

abbrev pub ResultsAreByTags : Type 0
ResultsAreByTags = (records : List (Live Body)) → HaveOwnTags records → ResultsByTags records

pub record FirstStay (records : List (Live Body)) (n : ℕ) : Type 0 where
  pub call :
      (path : List ℕ) (call : Call) → call_of path (oldest n records) ≡ Some call
      → call_of path records ≡ Some call
  pub result :
      (path : List ℕ) (outcome : Outcome) → result_of path (oldest n records) ≡ Some outcome
      → result_of path records ≡ Some outcome
  pub init :
      (all : List (Live Body)) (seq : ℕ) → first_open all (oldest n records) ≡ Some seq
      → first_open all records ≡ Some seq

abbrev pub FirstAnswersStay : Type 0
FirstAnswersStay = (records : List (Live Body)) (n : ℕ) → FirstStay records n

-- Which invocations are open.
pub record LivesByTag (records : List (Live Body)) : Type 0 where
  pub least : (b : ℕ) → least_open b records ≡ least_open b (with_tag life_tag records)
  pub ended : (b : ℕ) → all_ended b records ≡ all_ended b (with_tag life_tag records)
  pub trim_limit : (p : ℕ) → trim_limit p records ≡ trim_limit p (with_tag life_tag records)
  -- with the results looked for in all records
  pub least_in : (b : ℕ) → least_open b records ≡ least_open_in b records (with_tag life_tag records)
  pub first_in : first_open records records ≡ first_open records (with_tag life_tag records)

abbrev pub LivesAreByTag : Type 0
LivesAreByTag = (records : List (Live Body)) → HaveOwnTags records → LivesByTag records

-- Modes: by switches and lives; or one by one over the switches, where lives are looked for behind each of
-- them.
abbrev pub modes_in : Mode → List (Live Body) → List (Live Body) → Modes
modes_in first records [] = record { current = first; pending = None }
modes_in first records (x ∷ xs) =
    apply_to_modes x.holds x.seq (upto (x.seq - 1) records) (modes_in first records xs)

pub record ModesByTags (first : Mode) (records : List (Live Body)) : Type 0 where
  pub modes : modes first records ≡ modes first (with_either_tag switch_tag life_tag records)
  pub mode : mode_after first records ≡ mode_after first (with_either_tag switch_tag life_tag records)
  -- without a switch the mode is the first one
  pub none : count switch_tag records ≡ 0 → mode_after first records ≡ first

abbrev pub ModesAreByTags : Type 0
ModesAreByTags = (first : Mode) (records : List (Live Body)) → HaveOwnTags records → ModesByTags first records

abbrev pub ModesOneByOne : Type 0
ModesOneByOne =
    (first : Mode) (end : ℕ) (records : List (Live Body)) → FallBelow end records → HaveOwnTags records
    → modes first records ≡ modes_in first records (with_tag switch_tag records)

-- Up to a position: the modes behind the switches up to it, each with the records behind it.
abbrev pub ModesUpTo : Type 0
ModesUpTo =
    (first : Mode) (end p : ℕ) (records : List (Live Body)) → FallBelow end records → HaveOwnTags records
    → modes first (upto p records)
    ≡ modes_in first records (oldest (count switch_tag (upto p records)) (with_tag switch_tag records))

-- The floor: by trims and lives; or one by one over the trims.
abbrev pub floor_in : List (Live Body) → List (Live Body) → ℕ
floor_in records [] = 0
floor_in records (x ∷ xs) = max (counted_trim x.holds x.seq (upto (x.seq - 1) records)) (floor_in records xs)

abbrev pub FloorsByTags : Type 0
FloorsByTags =
    (records : List (Live Body)) → HaveOwnTags records
    → floor records ≡ floor (with_either_tag trim_tag life_tag records)

abbrev pub FloorsOneByOne : Type 0
FloorsOneByOne =
    (end : ℕ) (records : List (Live Body)) → FallBelow end records → HaveOwnTags records
    → floor records ≡ floor_in records (with_tag trim_tag records)

abbrev pub FloorsUpTo : Type 0
FloorsUpTo =
    (end p : ℕ) (records : List (Live Body)) → FallBelow end records → HaveOwnTags records
    → floor (upto p records)
    ≡ floor_in records (oldest (count trim_tag (upto p records)) (with_tag trim_tag records))

-- One queue. Names may share a tag, and records of another name change nothing.
pub record QueueByTag (q : List ℕ) (records : List (Live Body)) : Type 0 where
  pub known : get q (queues records) ≡ get q (queues (with_tag (key_tag 6 q) records))
  pub values : queue_in q (queues records) ≡ queue_in q (queues (with_tag (key_tag 6 q) records))
  pub popped : front q (queues records) ≡ front q (queues (with_tag (key_tag 6 q) records))

abbrev pub QueuesAreByTag : Type 0
QueuesAreByTag = (q : List ℕ) (records : List (Live Body)) → HaveOwnTags records → QueueByTag q records

-- Commits.
abbrev pub CommitsByTag : Type 0
CommitsByTag =
    (records : List (Live Body)) → HaveOwnTags records → commits records ≡ commits (with_tag commit_tag records)

-- The logged writes of a key, and the last write below a position. Keys may share a tag here too.
pub record WritesByTag (key : List ℕ) (records : List (Live Body)) : Type 0 where
  pub logged :
      (named : List NamedValue)
      → logged_writes key named records ≡ logged_writes key named (with_tag (key_tag 5 key) records)
  pub last_value_below :
      (c k : ℕ) (store : Store)
      → last_value_below key c k store records ≡ last_value_below key c k store (with_tag (key_tag 5 key) records)

abbrev pub WritesAreByTag : Type 0
WritesAreByTag = (key : List ℕ) (records : List (Live Body)) → HaveOwnTags records → WritesByTag key records

-- What hides a user tag's records: it is so for any records.
abbrev pub HiddenByTag : Type 0 → Type 0
HiddenByTag A =
    (trim : A → Option (ℕ × ℕ)) (tag : ℕ) (xs : List (Live A))
    → hidden_bound trim tag xs ≡ hidden_bound trim tag (with_tag (tag_number 8 tag) xs)

-- The answer of the newest record that has one, as that of the last logged write of a key: by the records
-- of a tag, where the others have none, and by those up to a position, where those above have none.
abbrev pub newest_answer : {A X : Type 0} → (Live A → Option X) → List (Live A) → Option X
newest_answer answer [] = None
newest_answer answer (x ∷ xs) = option_or (answer x) (newest_answer answer xs)

pub record NewestIs {A X : Type 0} (answer : Live A → Option X) (xs : List (Live A)) : Type 0 where
  pub of_tag :
      (tag : ℕ) → AllByRecursion (λ x. has_tag tag x.tags ≡ false → answer x ≡ None) xs
      → newest_answer answer xs ≡ newest_answer answer (with_tag tag xs)
  pub up_to :
      (p : ℕ) → AllByRecursion (λ x. p < x.seq → answer x ≡ None) xs
      → newest_answer answer xs ≡ newest_answer answer (upto p xs)

abbrev pub NewestAnswers : Type 0 → Type 0 → Type 0
NewestAnswers A X = (answer : Live A → Option X) (xs : List (Live A)) → NewestIs answer xs

-- So it is with the last logged write of a key below a seqnum.
abbrev pub written_below : List ℕ → ℕ → Live Body → Option (Live Body)
written_below key n x = cond (nat_lt x.seq n && is_write_to key (logged_write x.holds)) (Some x) None

abbrev pub last_write : List ℕ → ℕ → List (Live Body) → Option (Live Body)
last_write key n records = newest_answer (written_below key n) records

pub record LastWriteByTag (key : List ℕ) (n : ℕ) (records : List (Live Body)) : Type 0 where
  pub of_tag : last_write key n records ≡ last_write key n (with_tag (key_tag 5 key) records)
  pub up_to : (p : ℕ) → n ≤ suc p → last_write key n records ≡ last_write key n (upto p records)

abbrev pub LastWriteIsByTag : Type 0
LastWriteIsByTag =
    (key : List ℕ) (n : ℕ) (records : List (Live Body)) → HaveOwnTags records → LastWriteByTag key n records
