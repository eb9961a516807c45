-- What an engine may trim counts: a Trim of it is sent, and wherever it is ordered then, it lifts the
-- floor.
use Rattle.std.specs.Prelude.{◌≡◌, ℕ, suc, ◌≤◌, true, List, ◌∷◌, length}
use Rattle.boki_types.specs.declared.body.Body.{Body}
use Rattle.boki_types.specs.declared.body.Body.TheVariants as b
use Rattle.boki_model.specs.Live.{LogRecord, live, upto}
use Rattle.boki_model.specs.Modes.{all_ended}
use Rattle.boki_model.specs.Floor.{counted_trim, floor, trim_limit}
use Rattle.boki_machine.specs.Machine.{unconditional_record}

-- Of an engine at position p, and any log that has as many records: what the engine may trim, by what it
-- sees, and the log behind which the Trim comes.
pub record ViewTrimCounts (p : ℕ) (log : List (LogRecord Body)) : Type 0 where
  pub within : trim_limit p (upto p (live log)) ≤ suc p
  pub ended : all_ended (trim_limit p (upto p (live log))) (live log) ≡ true
  pub counts :
      counted_trim (b.Trim (trim_limit p (upto p (live log)))) (suc (length log)) (live log)
      ≡ trim_limit p (upto p (live log))
  pub lifts :
      trim_limit p (upto p (live log)) ≤ floor (live (unconditional_record (b.Trim (trim_limit p (upto p (live log)))) ∷ log))

abbrev pub ViewTrimsCount : Type 0
ViewTrimsCount = (p : ℕ) (log : List (LogRecord Body)) → p ≤ length log → ViewTrimCounts p log
