-- What an index keeps, and of which log it is the index.
use Rattle.std.specs.Prelude.{◌≡◌, ℕ, zero, suc, nat_eq, Bool, false, List, [], ◌∷◌, reverse, slice_get, unwrap_or}
use Rattle.std.specs.Map.{lookup}
use Rattle.boki_model.specs.Live.{LogRecord, meets_condition, live}
use Rattle.boki_model.specs.Reads.{tagged_seqnums}

-- for each tag that it has met the seqnums of the tag's live records, ascending, and for each record, from the first on, whether
-- it is live
pub record IndexState : Type 0 where
  pub lists : List (ℕ × List ℕ)
  pub marks : List Bool

-- the seqnums that are kept of a tag: none where it wasn't met
abbrev pub seqnums_of : ℕ → IndexState → List ℕ
seqnums_of tag kept = unwrap_or (lookup (nat_eq tag) kept.lists) []

-- for each record of a log whether it is live, the newest first
abbrev pub marks_of : {A : Type 0} → List (LogRecord A) → List Bool
marks_of [] = []
marks_of (r ∷ log) = meets_condition r.condition (live log) ∷ marks_of log

-- the mark of a seqnum, counted from 1, and false where it has none
abbrev pub mark_at : ℕ → List Bool → Bool
mark_at zero marks = false
mark_at (suc place) marks = unwrap_or (slice_get marks place) false

-- The index has the records of the log, the newest first, and no other. Where it shows two logs, each read answers the same for
-- both.
pub record IsIndexOf (log : List (LogRecord (List ℕ))) (kept : IndexState) : Type 0 where
  pub lists : (tag : ℕ) → seqnums_of tag kept ≡ reverse (tagged_seqnums tag (live log))
  pub marks : kept.marks ≡ reverse (marks_of log)

-- each read answers the same before and after
pub record IsUnchanged (old new : IndexState) : Type 0 where
  pub lists : (tag : ℕ) → seqnums_of tag new ≡ seqnums_of tag old
  pub marks : new.marks ≡ old.marks
