-- What was trimmed counts: an engine chooses the bound of a Trim by the records that it sees, and a Trim of that bound
-- counts wherever it is ordered.
use Rattle.std.specs.Prelude.{◌≡◌, ℕ, suc, ◌≤◌, true, List, ◌∷◌, ◌++◌, length, None}
use Rattle.boki_types.specs.declared.body.Body.{Body}
use Rattle.boki_types.specs.declared.body.Body.TheVariants as b
use Rattle.boki_model.specs.Live.{LogRecord, live, upto}
use Rattle.boki_model.specs.Modes.{all_ended}
use Rattle.boki_model.specs.Floor.{counted_trim, floor, trim_limit}

-- a record that trims up to this bound; like any Trim, without a condition
pub record IsTrim (bound : ℕ) (r : LogRecord Body) : Type 0 where
  pub holds_is : r.holds ≡ b.Trim bound
  pub free : r.condition ≡ None

-- A Trim of this bound that is ordered next behind this list:
pub record TrimCounts (bound : ℕ) (log : List (LogRecord Body)) : Type 0 where
  -- the bound is at most its seqnum
  pub reached : bound ≤ suc (length log)
  -- each invocation with its Init below the bound has its Finish in the list
  pub ended : all_ended bound (live log) ≡ true
  -- so it counts
  pub counts : counted_trim (b.Trim bound) (suc (length log)) (live log) ≡ bound
  -- and the floor of the list with it is at least the bound, whatever is ordered behind it
  pub lifts :
      (r : LogRecord Body) (newer : List (LogRecord Body)) → IsTrim bound r → bound ≤ floor (live (newer ++ r ∷ log))
  -- as it is of what an engine sees whose position covers it
  pub seen :
      (r : LogRecord Body) (newer : List (LogRecord Body)) (position : ℕ) → IsTrim bound r → suc (length log) ≤ position
      → bound ≤ floor (upto position (live (newer ++ r ∷ log)))

-- The bound is chosen at a position of an ordered list, and then further records are ordered before the Trim.
abbrev pub TrimmedCounts : Type 0
TrimmedCounts =
    (log since : List (LogRecord Body)) (position : ℕ) → position ≤ length log
    → TrimCounts (trim_limit position (upto position (live log))) (since ++ log)
