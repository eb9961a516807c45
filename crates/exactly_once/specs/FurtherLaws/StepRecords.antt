-- The step records of an invocation in the log: each live one stands at the place that it was sent for.
use Rattle.std.specs.Prelude.{◌≡◌, ℕ, ◌^◌, ◌==◌, ◌&&◌, nat_le, nat_lt, IsTrue, Bool, true, false, if◌then◌else◌, List, [], ◌∷◌, length, reverse, Option, Some, None, bytes_eq, slice_get}
use Rattle.std.specs.List.{list_all, AllByRecursion}
use Rattle.lb_base.specs.Path.{is_path, is_ordinal, IsPath}
use Rattle.lb_base.specs.declared.value.Tag.{Tag}
use Rattle.lb_base.specs.declared.value.Cond.{Cond}
use Rattle.boki_types.specs.declared.body.Body.{Body}
use Rattle.boki_types.specs.declared.body.Body.TheVariants as b
use Rattle.boki_model.specs.Live.{LogRecord, Live, meets_condition, live}
use Rattle.boki_model.specs.Reads.{nth_seq}
use Rattle.boki_model.specs.Bodies.{tags_of, tag_of, path_number, step_tag, step_of}

-- a record carries the tags of what it says; a user's record has tags of the class 0, which are below 2^56
abbrev pub OwnTags : Body → List Tag → Type 0
OwnTags (b.User bytes) tags = IsTrue (list_all (λ t. nat_lt t.0 (2 ^ 56)) tags)
OwnTags body tags = tags ≡ tags_of body

-- the condition that a place of the invocation's step log is free
abbrev pub place_condition : List ℕ → ℕ → Option Cond
place_condition path place = Some (record { tag = tag_of 2 (path_number path); place = place })

-- Of what a record says, its paths alone are in range: that of its invocation, and that of the child which it spawns. The laws
-- need no more.
abbrev pub is_path_of : Option (List ℕ × ℕ) → Bool
is_path_of None = true
is_path_of (Some s) = is_path s.0

abbrev pub has_paths : Body → Bool
has_paths (b.Submit p f args) = is_path p && (length p == 1)
has_paths (b.Spawn p i ordinal f args) = is_path p && nat_le (length p) 3 && is_ordinal ordinal
has_paths body = is_path_of (step_of body)

-- a record as the runtime sends it
pub record IsWellFormed (r : LogRecord Body) : Type 0 where
  pub tags : OwnTags r.holds r.tags
  pub paths : IsTrue (has_paths r.holds)

-- and as it is where it is live
pub record IsWellFormedLive (x : Live Body) : Type 0 where
  pub tags : OwnTags x.holds x.tags
  pub paths : IsTrue (has_paths x.holds)

abbrev pub is_step_of : List ℕ → Option (List ℕ × ℕ) → Bool
is_step_of path None = false
is_step_of path (Some s) = bytes_eq path s.0

-- the seqnums of an invocation's step records, the newest first
abbrev pub step_seqnums : List ℕ → List (Live Body) → List ℕ
step_seqnums path [] = []
step_seqnums path (x ∷ xs) = if is_step_of path (step_of x.holds) then x.seq ∷ step_seqnums path xs else step_seqnums path xs

-- Of a list of records as the runtime sends them:
pub record AreInOrder (log : List (LogRecord Body)) (path : List ℕ) : Type 0 where
  -- what stands at a place of the step tag is the invocation's live step record of that number, from 0 in ascending seqnums
  pub at : (place : ℕ) → nth_seq (step_tag path) place (live log) ≡ slice_get (reverse (step_seqnums path (live log))) place
  -- and a step record that is ordered next is live exactly where its place is the number of those before it
  pub next : (place : ℕ) → meets_condition (place_condition path place) (live log) ≡ (place == length (step_seqnums path (live log)))

abbrev pub StepsInOrder : Type 0
StepsInOrder = (log : List (LogRecord Body)) (path : List ℕ) → AllByRecursion IsWellFormed log → IsPath path → AreInOrder log path
