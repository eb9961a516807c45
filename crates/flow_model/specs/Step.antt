-- One step of a worker on the live log: the step table in mode R, over the records that the worker sees. A record that is sent
-- is in the list at once, so no attempt waits for one; every write is sent with its value, and nothing is stored.
use Rattle.std.specs.Prelude.{ℕ, zero, suc, List, Option, Some, None, unwrap_or}
use Rattle.lb_base.specs.declared.value.Value.{Value}
use Rattle.lb_base.specs.declared.value.Mode.TheVariants.{R}
use Rattle.lb_base.specs.declared.value.Outcome.{Outcome}
use Rattle.boki_types.specs.declared.body.Body.{Body}
use Rattle.boki_types.specs.declared.body.Body.TheVariants as b
use Rattle.boki_types.specs.declared.line.Life.{Life}
use Rattle.boki_types.specs.declared.line.Life.TheVariants.{Running, Over}
use Rattle.boki_types.specs.declared.line.FlowLine.{FlowLine}
use Rattle.boki_types.specs.declared.line.FlowLine.TheVariants as l
use Rattle.boki_types.specs.declared.log.Call.{Call}
use Rattle.boki_types.specs.declared.operation.Op.{Op}
use Rattle.boki_types.specs.declared.operation.Op.TheVariants as o
use Rattle.boki_types.specs.declared.operation.Ask.{Ask}
use Rattle.boki_types.specs.declared.operation.Ask.TheVariants as k
use Rattle.boki_types.specs.declared.operation.Answer.TheVariants as a
use Rattle.boki_types.specs.declared.program.Function.{Function}
use Rattle.boki_types.specs.Finding.{find}
use Rattle.boki_model.specs.Live.{LogRecord, Live}
use Rattle.boki_model.specs.Reads.{nth}
use Rattle.boki_model.specs.Bodies.{step_tag, child}
use Rattle.boki_model.specs.Modes.{result_of}
use Rattle.boki_model.specs.Writes.{initial_store, last_value_below}
use Rattle.boki_machine.specs.Attempt.{Attempt, adopts, answered_with, next_index, step_record, call_of}
use Rattle.boki_machine.specs.Decided.{value_or_none}
use Rattle.boki_machine.specs.Step.{seqnum, function_name, answers_to, attempt_ask}

-- what a step does: the attempt behind it, the record that it sends, if any, and the line
pub record FlowMove : Type 0 where
  pub attempt : Attempt
  pub sends : Option (LogRecord Body)
  pub line : FlowLine

abbrev pub stays : Attempt → FlowLine → FlowMove
stays t line = record { attempt = t; sends = None; line = line }

abbrev pub posts : Attempt → Body → FlowLine → FlowMove
posts t body line = record { attempt = t; sends = Some (step_record t.path t.place body); line = line }

-- The record at its place is adopted.

abbrev pub flow_adopts_join : Attempt → ℕ → List ℕ → Option Outcome → FlowMove
flow_adopts_join t seq p None = stays t (l.WaitsJoin p)
flow_adopts_join t seq p (Some outcome) = stays (answered_with (adopts t seq) (a.Joined outcome)) (l.AdoptJoin (seqnum seq) p outcome)

-- a record that answers no operation of such a script leaves it to the cases that follow
abbrev pub flow_adopts_operation : Attempt → List (Live Body) → ℕ → Body → FlowMove → FlowMove
flow_adopts_operation t view seq (b.Write p i place key value) other = stays (answered_with (adopts t seq) a.Done) (l.AdoptWrite (seqnum seq) key)
flow_adopts_operation t view seq (b.Spawn p i ordinal f args) other = stays (answered_with (adopts t seq) (a.Spawned ordinal)) (l.AdoptSpawn (seqnum seq) (child p ordinal))
flow_adopts_operation t view seq (b.Join p i ordinal) other = flow_adopts_join t seq (child p ordinal) (result_of (child p ordinal) view)
flow_adopts_operation t view seq _ other = other

abbrev pub flow_adopt_or : Attempt → List (Live Body) → Option (Live Body) → FlowMove → FlowMove
flow_adopt_or t view None other = other
flow_adopt_or t view (Some x) other = flow_adopts_operation t view x.seq x.holds other

-- What an asked operation does where no record answers it; a record that is sent stands at `at`.

-- a read answers the last write at or below the cursor
abbrev pub flow_read_step : List (List ℕ × Value) → Attempt → List (Live Body) → List ℕ → FlowMove
flow_read_step objects t view key =
    let v = value_or_none (last_value_below key (suc t.cursor) 0 (initial_store objects) view) in
    stays (answered_with t (a.Value v)) (l.Read key v)

abbrev pub flow_join_step : Attempt → ℕ → ℕ → Option Outcome → FlowMove
flow_join_step t at ordinal None = stays t (l.WaitsJoin (child t.path ordinal))
flow_join_step t at ordinal (Some outcome) = posts t (b.Join t.path (next_index t.answers) ordinal) (l.SendJoin (seqnum at) (child t.path ordinal))

-- such a script asks no other operation
abbrev pub flow_operation_step : List Function → List (List ℕ × Value) → Attempt → List (Live Body) → ℕ → Op → FlowMove
flow_operation_step fs objects t view at (o.Read key) = flow_read_step objects t view key
flow_operation_step fs objects t view at (o.Write key v) = posts t (b.Write t.path (next_index t.answers) t.place key (Some v)) (l.SendWrite (seqnum at) key v)
flow_operation_step fs objects t view at (o.Spawn ordinal f args) =
    posts t (b.Spawn t.path (next_index t.answers) ordinal (function_name f fs) args) (l.SendSpawn (seqnum at) (child t.path ordinal) f args)
flow_operation_step fs objects t view at (o.Join ordinal) = flow_join_step t at ordinal (result_of (child t.path ordinal) view)
flow_operation_step fs objects t view at _ = stays t l.WaitsCall

abbrev pub flow_script_step : List Function → List (List ℕ × Value) → Attempt → List (Live Body) → ℕ → Option Ask → FlowMove
flow_script_step fs objects t view at None = stays t l.WaitsCall
flow_script_step fs objects t view at (Some (k.Done outcome)) = posts t (b.Finish t.path (next_index t.answers) outcome) (l.SendFinish (seqnum at) outcome)
flow_script_step fs objects t view at (Some (k.Op op)) = flow_operation_step fs objects t view at op

-- The cases in order.

-- the Init at place 0 gives the function and the arguments; the mode is R
abbrev pub flow_init_step : List Function → Attempt → ℕ → Call → Option (Live Body) → FlowMove
flow_init_step fs t at call None = posts t (b.Init t.path) (l.SendInit (seqnum at))
flow_init_step fs t at call (Some x) =
    stays (record (adopts t x.seq) { mode = R; function = unwrap_or (find call.function fs) 0; args = call.args }) (l.AdoptInit (seqnum x.seq) R)

abbrev pub flow_continue_step : List Function → List (List ℕ × Value) → Attempt → List (Live Body) → ℕ → Option Ask → FlowMove
flow_continue_step fs objects t view at ask = flow_adopt_or t view (answers_to t ask (nth (step_tag t.path) t.place view)) (flow_script_step fs objects t view at ask)

abbrev pub flow_step_at_place : List Function → List (List ℕ × Value) → Attempt → List (Live Body) → ℕ → Call → ℕ → FlowMove
flow_step_at_place fs objects t view at call zero = flow_init_step fs t at call (nth (step_tag t.path) 0 view)
flow_step_at_place fs objects t view at call (suc place) = flow_continue_step fs objects t view at (attempt_ask fs t)

abbrev pub flow_step_when_called : List Function → List (List ℕ × Value) → Attempt → List (Live Body) → ℕ → Option Outcome → Option Call → FlowMove
flow_step_when_called fs objects t view at (Some outcome) call = stays (record t { life = Over }) (l.Over outcome)
flow_step_when_called fs objects t view at None None = stays t l.WaitsCall
flow_step_when_called fs objects t view at None (Some call) = flow_step_at_place fs objects t view at call t.place

-- a run ends with its attempt
abbrev pub flow_step_if_running : List Function → List (List ℕ × Value) → Attempt → List (Live Body) → ℕ → Life → FlowMove
flow_step_if_running fs objects t view at Running = flow_step_when_called fs objects t view at (result_of t.path view) (call_of t.path view)
flow_step_if_running fs objects t view at _ = stays t l.WaitsCall

-- one step, over the records that are seen; a record that is sent stands at `at`
abbrev pub flow_step : List Function → List (List ℕ × Value) → List (Live Body) → ℕ → Attempt → FlowMove
flow_step fs objects view at t = flow_step_if_running fs objects t view at t.life
