-- The records that carry a tag, and what the reads say of them. A fold over a tag's records goes from the
-- oldest on: behind the first n of them it is the fold of the oldest n.
use Rattle.std.specs.Prelude.{◌≡◌, ℕ, suc, ◌-◌, ◌≤◌, ◌||◌, List, [], ◌∷◌, ◌++◌, length, reverse, map, true, Some, slice_get}
use Rattle.std.specs.List.{filter}
use Rattle.boki_model.specs.Live.{LogRecord, Live, has_tag, count, live, upto}
use Rattle.boki_model.specs.Order.{at_seq}
use Rattle.boki_model.specs.Reads.{tagged_seqnums, nth}
use Rattle.boki_model.specs.LogLaws.{FallBelow}
use Rattle.boki_machine.specs.Decided.{oldest}
use Rattle.exactly_once.specs.FurtherLaws.Words.{IsAmong}
use Rattle.log_folds.specs.Contents.{map_live}

abbrev pub with_tag : {A : Type 0} → ℕ → List (Live A) → List (Live A)
with_tag tag xs = filter (λ x. has_tag tag x.tags) xs

-- those with one tag or the other
abbrev pub with_either_tag : {A : Type 0} → ℕ → ℕ → List (Live A) → List (Live A)
with_either_tag one other xs = filter (λ x. has_tag one x.tags || has_tag other x.tags) xs

-- The oldest of a log's records are a log, whose live records are seen at the position.
pub record AreOldest {A : Type 0} (log : List (LogRecord A)) (p : ℕ) : Type 0 where
  pub live_of : live (oldest p log) ≡ upto p (live log)
  pub none : oldest 0 log ≡ []
  pub counted : p ≤ length log → length (oldest p log) ≡ p
  pub whole : length log ≤ p → oldest p log ≡ log
  -- one record more
  pub next_record : (r : LogRecord A) → at_seq (suc p) log ≡ Some r → oldest (suc p) log ≡ r ∷ oldest p log
  -- and where newer ones are ordered, they stay, and so does what is seen
  pub stay : (news : List (LogRecord A)) → p ≤ length log → oldest p (news ++ log) ≡ oldest p log
  pub still_seen : (news : List (LogRecord A)) → p ≤ length log → upto p (live (news ++ log)) ≡ upto p (live log)

abbrev pub OldestAreSeen : Type 0 → Type 0
OldestAreSeen A = (log : List (LogRecord A)) (p : ℕ) → AreOldest log p

-- The records with a tag.
pub record AreOfTag {A : Type 0} (tag : ℕ) (xs : List (Live A)) : Type 0 where
  pub seqnums : map (λ x. x.seq) (with_tag tag xs) ≡ tagged_seqnums tag xs
  pub counted : length (with_tag tag xs) ≡ count tag xs
  pub placed : (place : ℕ) → slice_get (reverse (with_tag tag xs)) place ≡ nth tag place xs
  -- what stands at a place is one of the records, and carries the tag
  pub among : (place : ℕ) (x : Live A) → nth tag place xs ≡ Some x → IsAmong x xs
  pub carries : (place : ℕ) (x : Live A) → nth tag place xs ≡ Some x → has_tag tag x.tags ≡ true
  -- one by one, from the oldest on
  pub none : oldest 0 (with_tag tag xs) ≡ []
  pub one_more :
      (place : ℕ) (x : Live A) → nth tag place xs ≡ Some x
      → oldest (suc place) (with_tag tag xs) ≡ x ∷ oldest place (with_tag tag xs)
  pub all : oldest (count tag xs) (with_tag tag xs) ≡ with_tag tag xs

abbrev pub TagsRecords : Type 0 → Type 0
TagsRecords A = (tag : ℕ) (xs : List (Live A)) → AreOfTag tag xs

-- And those up to a position, where seqnums fall from the newest on.
pub record AreOfTagUpTo {A : Type 0} (tag : ℕ) (xs : List (Live A)) : Type 0 where
  pub up_to : (p : ℕ) → with_tag tag (upto p xs) ≡ upto p (with_tag tag xs)
  pub front : (p : ℕ) → with_tag tag (upto p xs) ≡ oldest (count tag (upto p xs)) (with_tag tag xs)
  -- those behind which the record at a place comes, and those up to it
  pub behind :
      (place : ℕ) (x : Live A) → nth tag place xs ≡ Some x
      → with_tag tag (upto (x.seq - 1) xs) ≡ oldest place (with_tag tag xs)
  pub with_it :
      (place : ℕ) (x : Live A) → nth tag place xs ≡ Some x
      → with_tag tag (upto x.seq xs) ≡ oldest (suc place) (with_tag tag xs)

abbrev pub TagsRecordsUpTo : Type 0 → Type 0
TagsRecordsUpTo A = (end tag : ℕ) (xs : List (Live A)) → FallBelow end xs → AreOfTagUpTo tag xs

-- they still fall
abbrev pub TaggedFall : Type 0 → Type 0
TaggedFall A = (end tag : ℕ) (xs : List (Live A)) → FallBelow end xs → FallBelow end (with_tag tag xs)

-- What records hold doesn't matter here either.
abbrev pub TaggedAreAlike : Type 0 → Type 0 → Type 0
TaggedAreAlike A B =
    (f : A → B) (tag : ℕ) (xs : List (Live A))
    → with_tag tag (map (map_live f) xs) ≡ map (map_live f) (with_tag tag xs)
