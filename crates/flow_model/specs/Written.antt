-- A list that workers wrote: each record is a submission, or one that a step of an attempt sends, where the steps of that
-- attempt saw only records of the list before it.
use Rattle.std.specs.Prelude.{◌≡◌, ◌⊎◌, ℕ, ◌≤◌, IsTrue, List, [], ◌∷◌, length, Some}
use Rattle.lb_base.specs.Path.{is_request}
use Rattle.lb_base.specs.declared.value.Value.{Value}
use Rattle.boki_types.specs.declared.body.Body.{Body}
use Rattle.boki_types.specs.declared.program.Function.{Function}
use Rattle.boki_model.specs.Live.{LogRecord, Live, live, upto}
use Rattle.boki_machine.specs.Attempt.{Attempt, new_attempt}
use Rattle.boki_machine.specs.Machine.{submit_record}
use Rattle.flow_model.specs.Step.{flow_step}

-- Where steps over these records bring an attempt: each sees the records up to a position, and the positions never fall.
pub data IsReachable (fs : List Function) (objects : List (List ℕ × Value)) (records : List (Live Body)) : ℕ → Attempt → Type 0 where
  starts : (path : List ℕ) (worker : ℕ) → IsReachable fs objects records 0 (new_attempt path worker)
  steps :
      {p : ℕ} {t : Attempt} (q at : ℕ) → IsReachable fs objects records p t → p ≤ q
      → IsReachable fs objects records q (flow_step fs objects (upto q records) at t).attempt

-- a step of such an attempt sends the record, and saw at most n records
pub record IsSentByStep (fs : List Function) (objects : List (List ℕ × Value)) (records : List (Live Body)) (n : ℕ) (r : LogRecord Body) : Type 0 where
  pub before : ℕ
  pub attempt : Attempt
  pub comes : IsReachable fs objects records before attempt
  pub position : ℕ
  pub at : ℕ
  pub later : before ≤ position
  pub within : position ≤ n
  pub sends : (flow_step fs objects (upto position records) at attempt).sends ≡ Some r

-- a call of a request
pub record IsSubmission (r : LogRecord Body) : Type 0 where
  pub request : ℕ
  pub function : List ℕ
  pub args : List Value
  pub in_range : IsTrue (is_request request)
  pub entry : r ≡ submit_record (request ∷ []) function args

-- the list has the newest first
abbrev pub AllWritten : List Function → List (List ℕ × Value) → List (LogRecord Body) → Type 0
AllWritten fs objects [] = Unit {0}
AllWritten fs objects (r ∷ log) = (IsSubmission r ⊎ IsSentByStep fs objects (live log) (length log) r) × AllWritten fs objects log
