-- The statement of the central theorem rests on this file.
-- An attempt of an invocation, and what a step of it does.
use Rattle.std.specs.Prelude.{ℕ, suc, Bool, true, false, List, [], ◌∷◌, length, Option, Some, None, bytes_eq, if◌then◌else◌}
use Rattle.lb_base.specs.declared.value.Value.{Value}
use Rattle.lb_base.specs.declared.value.Mode.{Mode}
use Rattle.lb_base.specs.declared.value.Mode.TheVariants.{R}
use Rattle.boki_types.specs.declared.body.Body.{Body}
use Rattle.boki_types.specs.declared.body.Body.TheVariants as body
use Rattle.boki_types.specs.declared.line.Life.{Life}
use Rattle.boki_types.specs.declared.line.Life.TheVariants.{Running}
use Rattle.boki_types.specs.declared.line.StepLine.{StepLine}
use Rattle.boki_types.specs.declared.log.Call.{Call}
use Rattle.boki_types.specs.declared.operation.Answer.{Answer}
use Rattle.boki_model.specs.Live.{LogRecord, Live}
use Rattle.std.specs.Option.{option_or}
use Rattle.boki_model.specs.Bodies.{tags_of, tag_of, path_number, child}
use Rattle.boki_model.specs.Writes.{Store}
use Rattle.boki_model.specs.declared.tag_classes.TheConstants.{STEP_CLASS}

-- An attempt runs on one engine. Once it has adopted its Init it has a mode, a function by its number, and arguments. It has
-- the answers so far, the newest first; its cursor, the seqnum of the last step record that it adopted; its place, the number
-- of step records adopted; k, the number of free writes since its cursor; whether a record that it sent is waiting; whether
-- the value of its next write is stored, and whether that write is late; and the seqnum of its open transaction's begin.
pub record Attempt : Type 0 where
  pub path : List ℕ
  pub engine : ℕ
  pub life : Life
  pub mode : Mode
  pub function : ℕ
  pub args : List Value
  pub answers : List Answer
  pub cursor : ℕ
  pub place : ℕ
  pub free_writes : ℕ
  pub waiting : Bool
  pub stored : Bool
  pub late : Bool
  pub transaction : Option ℕ

abbrev pub new_attempt : List ℕ → ℕ → Attempt
new_attempt path engine = record {
  path = path;
  engine = engine;
  life = Running;
  mode = R;
  function = 0;
  args = [];
  answers = [];
  cursor = 0;
  place = 0;
  free_writes = 0;
  waiting = false;
  stored = false;
  late = false;
  transaction = None;
}

-- the index of its next operation
abbrev pub next_index : List Answer → ℕ
next_index answers = suc (length answers)

-- what a step does: the attempt behind it, the record that it sends, if any, the store behind it, and the line
pub record Move : Type 0 where
  pub attempt : Attempt
  pub sends : Option (LogRecord Body)
  pub store : Store
  pub line : StepLine

abbrev pub moves : Attempt → Store → StepLine → Move
moves attempt store line = record { attempt = attempt; sends = None; store = store; line = line }

-- a step record is sent under the condition that its place is free
abbrev pub step_record : List ℕ → ℕ → Body → LogRecord Body
step_record path place body =
    record { tags = tags_of body; condition = Some (record { tag = tag_of STEP_CLASS (path_number path); place = place }); holds = body }

abbrev pub sends_record : Attempt → Store → Body → StepLine → Move
sends_record attempt store body line =
    record { attempt = record attempt { waiting = true }; sends = Some (step_record attempt.path attempt.place body); store = store; line = line }

-- the record at its place is adopted
abbrev pub adopts : Attempt → ℕ → Attempt
adopts attempt seq =
    record attempt { cursor = seq; place = suc attempt.place; free_writes = 0; waiting = false; stored = false; late = false }

abbrev pub answered_with : Attempt → Answer → Attempt
answered_with attempt answer = record attempt { answers = answer ∷ attempt.answers }

-- What an invocation calls: a request's Submit, or the Spawn of its parent. The first live one counts.
abbrev pub call_in : List ℕ → Body → Option Call
call_in path (body.Submit p f args) = if bytes_eq path p then Some (record { function = f; args = args }) else None
call_in path (body.Spawn p i ordinal f args) =
    if bytes_eq path (child p ordinal) then Some (record { function = f; args = args }) else None
call_in path _ = None

abbrev pub call_of : List ℕ → List (Live Body) → Option Call
call_of path [] = None
call_of path (x ∷ xs) = option_or (call_of path xs) (call_in path x.holds)
