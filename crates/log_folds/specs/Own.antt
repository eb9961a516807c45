-- Records that carry the tags of what they say: what one of them says to a fold, it says under the fold's
-- tag.
use Rattle.std.specs.Prelude.{◌≡◌, ℕ, Bool, false, List, Option, Some, None, is_some, bytes_eq, IsTrue}
use Rattle.std.specs.List.{AllByRecursion}
use Rattle.lb_base.specs.Path.{IsPath}
use Rattle.lb_base.specs.declared.value.Tag.{Tag}
use Rattle.lb_base.specs.declared.value.Value.{Value}
use Rattle.boki_types.specs.declared.body.Body.{Body}
use Rattle.boki_types.specs.declared.store.Name.{Name}
use Rattle.boki_model.specs.Live.{LogRecord, Live, has_tag, live, upto}
use Rattle.boki_model.specs.Maps.{get}
use Rattle.boki_model.specs.Order.{order}
use Rattle.boki_model.specs.Bodies.{tag_number, call_tag, step_tag, life_tag, key_tag, step_of, in_range}
use Rattle.boki_model.specs.Modes.{Modes, init_path, finish_of, apply_to_modes}
use Rattle.boki_model.specs.Floor.{counted_trim}
use Rattle.boki_model.specs.Writes.{NamedValue, logged_write_of, logged_write}
use Rattle.boki_model.specs.Folds.{Commit, apply_to_queues, add_commit}
use Rattle.boki_machine.specs.Attempt.{call_in}
use Rattle.exactly_once.specs.FurtherLaws.StepRecords.{OwnTags, has_paths, IsWellFormed, is_step_of, IsWellFormedLive}
use Rattle.log_folds.specs.ByTag.{with_tag, with_either_tag}

-- the tags of switches, of trims, and of commits
abbrev pub switch_tag : ℕ
switch_tag = tag_number 3 0

abbrev pub trim_tag : ℕ
trim_tag = tag_number 4 0

abbrev pub commit_tag : ℕ
commit_tag = tag_number 7 0

-- whether a logged write is one of the key
abbrev pub is_write_to : List ℕ → Option (List ℕ × (Name × Option Value)) → Bool
is_write_to key None = false
is_write_to key (Some w) = bytes_eq key w.0

-- Without the tag a record says nothing to the fold.
pub record Carries (body : Body) (tags : List Tag) : Type 0 where
  pub call : (path : List ℕ) → has_tag (call_tag path) tags ≡ false → call_in path body ≡ None
  pub step : (path : List ℕ) → has_tag (step_tag path) tags ≡ false → is_step_of path (step_of body) ≡ false
  pub finish : (path : List ℕ) → has_tag (step_tag path) tags ≡ false → finish_of path body ≡ None
  pub end : (path : List ℕ) → has_tag life_tag tags ≡ false → finish_of path body ≡ None
  pub init : has_tag life_tag tags ≡ false → init_path body ≡ None
  pub switch :
      has_tag switch_tag tags ≡ false → (seq : ℕ) (past : List (Live Body)) (m : Modes)
      → apply_to_modes body seq past m ≡ m
  pub trim : has_tag trim_tag tags ≡ false → (seq : ℕ) (past : List (Live Body)) → counted_trim body seq past ≡ 0
  pub written :
      (key : List ℕ) → has_tag (key_tag 5 key) tags ≡ false → is_write_to key (logged_write body) ≡ false
  pub write :
      (key : List ℕ) → has_tag (key_tag 5 key) tags ≡ false → (seq : ℕ) (named : List NamedValue)
      → logged_write_of key seq named (logged_write body) ≡ None
  pub queue :
      (q : List ℕ) → has_tag (key_tag 6 q) tags ≡ false → (queues : List (List ℕ × List Value))
      → get q (apply_to_queues body queues) ≡ get q queues
  pub commit :
      has_tag commit_tag tags ≡ false → (seq : ℕ) (past : List Commit) → add_commit seq body past ≡ past

abbrev pub OwnTagsCarry : Type 0
OwnTagsCarry = (body : Body) (tags : List Tag) → OwnTags body tags → Carries body tags

-- Where paths are in range, the tags of a path tell its records.
pub record TellRecords (path : List ℕ) (body : Body) (tags : List Tag) : Type 0 where
  pub call : has_tag (call_tag path) tags ≡ is_some (call_in path body)
  pub step : has_tag (step_tag path) tags ≡ is_step_of path (step_of body)

abbrev pub TagsTellRecords : Type 0
TagsTellRecords =
    (path : List ℕ) (body : Body) (tags : List Tag) → IsPath path → OwnTags body tags
    → IsTrue (has_paths body)
    → TellRecords path body tags

-- records of a log, and live ones, with their own tags
abbrev pub HasOwnTags : LogRecord Body → Type 0
HasOwnTags r = OwnTags r.holds r.tags

abbrev pub HaveOwnTags : List (Live Body) → Type 0
HaveOwnTags records = AllByRecursion (λ x. OwnTags x.holds x.tags) records

-- the paths of a body are in range where its fields are, as those of a record that is read from bytes
abbrev pub RangedHavePaths : Type 0
RangedHavePaths = (body : Body) → IsTrue (in_range body) → IsTrue (has_paths body)

-- Where those of the shards have their own tags, so have the ordered ones, and the live ones of these; and
-- so have those that an engine sees, and those that carry a tag.
pub record StayOwn (records : List (Live Body)) : Type 0 where
  pub seen : (p : ℕ) → HaveOwnTags (upto p records)
  pub of_tag : (tag : ℕ) → HaveOwnTags (with_tag tag records)
  pub of_either : (one other : ℕ) → HaveOwnTags (with_either_tag one other records)

abbrev pub OwnAreOrdered : Type 0
OwnAreOrdered =
    (shards : List (List (LogRecord Body))) (vectors : List (List ℕ))
    → AllByRecursion (AllByRecursion HasOwnTags) shards → AllByRecursion HasOwnTags (order shards vectors)

abbrev pub OwnAreLive : Type 0
OwnAreLive = (log : List (LogRecord Body)) → AllByRecursion HasOwnTags log → HaveOwnTags (live log)

abbrev pub OwnAreSeen : Type 0
OwnAreSeen = (records : List (Live Body)) → HaveOwnTags records → StayOwn records

-- The same where paths are in range too.
pub record StayOwnLive (records : List (Live Body)) : Type 0 where
  pub tags : HaveOwnTags records
  pub seen : (p : ℕ) → AllByRecursion IsWellFormedLive (upto p records)
  pub of_tag : (tag : ℕ) → AllByRecursion IsWellFormedLive (with_tag tag records)

abbrev pub OwnPathsStay : Type 0
OwnPathsStay = (records : List (Live Body)) → AllByRecursion IsWellFormedLive records → StayOwnLive records

-- as those of a log whose records were sent by the runtime
abbrev pub OwnPathsAreLive : Type 0
OwnPathsAreLive = (log : List (LogRecord Body)) → AllByRecursion IsWellFormed log → AllByRecursion IsWellFormedLive (live log)
