-- What is live at a seqnum is the log's record there: a read finds the seqnum, and the log has the record.
use Rattle.std.specs.Prelude.{◌≡◌, ℕ, ◌≤◌, cond, List, [], length, Option, Some, None, option_map, option_and_then}
use Rattle.std.specs.Option.{option_map_or}
use Rattle.std.specs.List.{AllByRecursion}
use Rattle.boki_types.specs.declared.body.Body.{Body}
use Rattle.boki_model.specs.Live.{LogRecord, Live, live, upto, is_live}
use Rattle.boki_model.specs.Reads.{nth, nth_seq}
use Rattle.boki_model.specs.Order.{at_seq}
use Rattle.boki_machine.specs.Machine.{user_text, user_text_at}
use Rattle.log_folds.specs.Bounds.{record_at}

-- a record of the log, as it is where it is live
abbrev pub live_at : {A : Type 0} → ℕ → LogRecord A → Live A
live_at seq r = record { seq = seq; tags = r.tags; holds = r.holds }

-- the log's record at a seqnum, live or not
abbrev pub logged_at : {A : Type 0} → ℕ → List (LogRecord A) → Option (Live A)
logged_at seq log = option_map (live_at seq) (at_seq seq log)

-- What is seen of a log up to p.
pub record AreOfLog {A : Type 0} (log : List (LogRecord A)) (p : ℕ) : Type 0 where
  -- all, where p is its length or more
  pub all : length log ≤ p → upto p (live log) ≡ live log
  pub each : AllByRecursion (λ x. logged_at x.seq log ≡ Some x) (upto p (live log))
  pub placed :
      (tag place : ℕ)
      → nth tag place (upto p (live log))
      ≡ option_and_then (λ seq. logged_at seq log) (nth_seq tag place (upto p (live log)))
  pub stands :
      (seq : ℕ)
      → record_at seq (upto p (live log)) ≡ cond (is_live seq (upto p (live log))) (logged_at seq log) None

abbrev pub LiveAreLogged : Type 0 → Type 0
LiveAreLogged A = (log : List (LogRecord A)) (p : ℕ) → AreOfLog log p

-- the text of a user's record is that of the record at its seqnum
abbrev pub TextsAreRecorded : Type 0
TextsAreRecorded =
    (seq : ℕ) (records : List (Live Body))
    → user_text_at seq records ≡ option_map_or (λ x. user_text x.holds) (record_at seq records) []
