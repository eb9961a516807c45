-- Which logs the scripts could have written: a list of live records is legal where, record by record, the failure-free execution
-- of its turns does what the record says. So the log alone, without the object store, gives the state behind it.
use Rattle.std.specs.Prelude.{ℕ, zero, suc, ◌-◌, ◌==◌, ◌&&◌, nat_le, Bool, true, false, cond, List, [], ◌∷◌, length, Option, Some, None, option_map, option_and_then, unwrap_or, Result, Ok, Err, bytes_eq, slice_index}
use Rattle.lb_base.specs.declared.value.Value.{Value}
use Rattle.lb_base.specs.declared.value.Mode.{Mode}
use Rattle.lb_base.specs.declared.value.Mode.TheVariants.{R, W, T}
use Rattle.boki_types.specs.declared.body.Body.{Body}
use Rattle.boki_types.specs.declared.body.Body.TheVariants as b
use Rattle.boki_types.specs.declared.operation.Op.{Op}
use Rattle.boki_types.specs.declared.operation.Op.TheVariants as o
use Rattle.boki_types.specs.declared.operation.Ask.{Ask}
use Rattle.boki_types.specs.declared.operation.Ask.TheVariants as k
use Rattle.boki_types.specs.declared.program.Function.{Function}
use Rattle.boki_types.specs.declared.turn.Turn.{Turn}
use Rattle.boki_types.specs.declared.turn.Turn.TheVariants as t
use Rattle.boki_types.specs.declared.turn.Report.{Report}
use Rattle.boki_types.specs.Finding.{find}
use Rattle.boki_model.specs.Live.{Live}
use Rattle.boki_model.specs.Bodies.{step_of}
use Rattle.boki_model.specs.Maps.{get, put}
use Rattle.boki_model.specs.Modes.{mode_after}
use Rattle.boki_model.specs.Plans.{has_arity, known_function}
use Rattle.boki_model.specs.Values.{same_value}
use Rattle.boki_machine.specs.Decided.{transaction_after}
use Rattle.boki_machine.specs.Turns.{turns, add_next_index}
use Rattle.boki_machine.specs.Reports.{ideal_report}
use Rattle.boki_machine.specs.Ideal.{Ideal, running_invocation, invocation_ask, apply_turn, initial_ideal}
use Rattle.exactly_once.specs.FurtherLaws.LogEconomy.{is_read, is_write}
use Rattle.legal_logs.specs.Same.{same_outcome, same_names, same_values, same_writes, is_number}

-- What a record says against what the script asks.

-- a write's record need not have the value
abbrev pub value_agrees : Option Value → Value → Bool
value_agrees None value = true
value_agrees (Some here) value = same_value here value

-- The record names the operation, with all its fields. A spawn's function is named in the record, and numbered in the operation.
-- A commit names the begin of the transaction that its invocation has open.
abbrev pub matches_operation : List Function → Option ℕ → Body → Op → Bool
matches_operation fs open_begin (b.Read p i key) (o.Read name) = bytes_eq key name
matches_operation fs open_begin (b.Write p i place key here) (o.Write name value) = bytes_eq key name && value_agrees here value
matches_operation fs open_begin (b.Spawn p i ordinal name args) (o.Spawn n f values) =
    (ordinal == n) && is_number (find name fs) f && same_values args values
matches_operation fs open_begin (b.Join p i ordinal) (o.Join n) = ordinal == n
matches_operation fs open_begin (b.Push p i queue value) (o.Push name v) = bytes_eq queue name && same_value value v
matches_operation fs open_begin (b.Pop p i queue) (o.Pop name) = bytes_eq queue name
matches_operation fs open_begin (b.TxnBegin p i names) (o.Begin ns) = same_names names ns
matches_operation fs open_begin (b.TxnCommit p i begin names writes) (o.Commit ns ws) =
    is_number open_begin begin && same_names names ns && same_writes writes ws
matches_operation fs open_begin (b.ReadGroup p i keys) (o.ReadGroup names) = same_names keys names
matches_operation fs open_begin _ _ = false

-- the record ends the invocation with the outcome
abbrev pub matches_end : Body → Ask → Bool
matches_end (b.Finish p i outcome) (k.Done end) = same_outcome outcome end
matches_end _ _ = false

abbrev pub matches_ask : List Function → Option ℕ → Body → Ask → Bool
matches_ask fs open_begin body (k.Op op) = matches_operation fs open_begin body op
matches_ask fs open_begin body ask = matches_end body ask

-- an operation that has no record: a read of objects in mode R, a write in mode W, and none in mode T
abbrev pub is_free : Mode → Ask → Bool
is_free R ask = is_read ask
is_free W ask = is_write ask
is_free T ask = false

-- Turns that are tested before they run.

-- what an invocation that runs asks
abbrev pub asked_in : List Function → List ℕ → Ideal → Option Ask
asked_in fs p s = option_and_then (invocation_ask fs p) (running_invocation p s)

abbrev pub passes : (Ask → Bool) → Option Ask → Bool
passes test None = false
passes test (Some ask) = test ask

-- a turn of the invocation, where what it asks passes the test
abbrev pub turn_if : List Function → (Ask → Bool) → List ℕ → Turn → Ideal → Option Ideal
turn_if fs test p one s = cond (passes test (asked_in fs p s)) (apply_turn fs one s) None

-- its next n operations, each with a test of its own; the first has the number 0
abbrev pub go_if : List Function → (ℕ → Ask → Bool) → ℕ → List ℕ → Ideal → Option Ideal
go_if fs tests zero p s = apply_turn fs (t.Go p 0) s
go_if fs tests (suc n) p s = option_and_then (turn_if fs (tests n) p (t.Go p 1)) (go_if fs tests n p s)

-- One record.

-- How many free operations follow in a record's turn: those up to the index of the path's next step record, where there is one.
-- `from` is the index that comes next; no next record stands below it.
abbrev pub free_operations_ahead : ℕ → Option ℕ → Option ℕ
free_operations_ahead from None = Some 0
free_operations_ahead from (Some next) = cond (nat_le from next) (Some (next - from)) None

-- behind an Init all are free
abbrev pub tests_of_init : Mode → ℕ → Ask → Bool
tests_of_init mode n ask = is_free mode ask

-- behind an operation's record the first is the one that it names, and the others are free
abbrev pub tests_of : List Function → Option ℕ → Body → Mode → ℕ → Ask → Bool
tests_of fs open_begin body mode zero ask = matches_ask fs open_begin body ask
tests_of fs open_begin body mode (suc n) ask = is_free mode ask

-- an invocation that has begun: its mode, and the seqnum of its open transaction's begin
pub record BegunInvocation : Type 0 where
  pub mode : Mode
  pub transaction : Option ℕ

-- the state behind some records, and the invocations that have begun
pub record Audited : Type 0 where
  pub state : Ideal
  pub begun : List (List ℕ × BegunInvocation)

abbrev pub with_state : Audited → Ideal → Audited
with_state a s = record a { state = s }

abbrev pub with_begun : Audited → List ℕ → BegunInvocation → Ideal → Audited
with_begun a p i s = record { state = s; begun = put p i a.begun }

-- a request calls a function of the program, with as many arguments as that has parameters
abbrev pub calls_function : List Function → List ℕ → List Value → Bool
calls_function fs name args = has_arity (length args) (known_function fs (find name fs))

abbrev pub audit_submit : List Function → List ℕ → List ℕ → List Value → Ideal → Option Ideal
audit_submit fs p name args s =
    cond (calls_function fs name args) (apply_turn fs (t.Submit (slice_index p 0) (unwrap_or (find name fs) 0) args) s) None

abbrev pub audit_init : List Function → List (List ℕ × ℕ) → List ℕ → Mode → Audited → Option Audited
audit_init fs ahead p mode a =
    option_map (with_begun a p (record { mode = mode; transaction = None }))
    (option_and_then (λ n. go_if fs (tests_of_init mode) n p a.state) (free_operations_ahead 1 (get p ahead)))

abbrev pub audit_operation : List Function → List (List ℕ × ℕ) → ℕ → Body → List ℕ × ℕ → Audited → BegunInvocation → Option Audited
audit_operation fs ahead seq body s a it =
    option_map (with_begun a s.0 (record it { transaction = transaction_after seq body it.transaction }))
    (option_and_then (λ n. go_if fs (tests_of fs it.transaction body it.mode) (suc n) s.0 a.state) (free_operations_ahead (suc s.1) (get s.0 ahead)))

abbrev pub audit_finish : List Function → Body → List ℕ → Audited → Option Audited
audit_finish fs body p a = option_map (with_state a) (turn_if fs (matches_end body) p (t.End p) a.state)

-- an operation's record, with its path and its index; other records give no turn, and are legal
abbrev pub audit_step : List Function → List (List ℕ × ℕ) → ℕ → Body → Audited → Option (List ℕ × ℕ) → Option Audited
audit_step fs ahead seq body a None = Some a
audit_step fs ahead seq body a (Some s) = option_and_then (audit_operation fs ahead seq body s a) (get s.0 a.begun)

-- The state behind one record more, at this seqnum, where it is legal. `past` has the records before it, and `ahead` for each
-- path the index of its next step record, where there is one. The mode of an invocation is that of the book at its Init.
abbrev pub audit_record : List Function → Mode → List (List ℕ × ℕ) → ℕ → List (Live Body) → Audited → Body → Option Audited
audit_record fs first ahead seq past a (b.Submit p name args) = option_map (with_state a) (audit_submit fs p name args a.state)
audit_record fs first ahead seq past a (b.Init p) = audit_init fs ahead p (mode_after first past) a
audit_record fs first ahead seq past a (b.Finish p i outcome) = audit_finish fs (b.Finish p i outcome) p a
audit_record fs first ahead seq past a body = audit_step fs ahead seq body a (step_of body)

-- All records.

abbrev pub or_illegal : ℕ → Option Audited → Result Audited ℕ
or_illegal seq None = Err seq
or_illegal seq (Some a) = Ok a

abbrev pub and_record : List Function → Mode → List (List ℕ × ℕ) → Live Body → List (Live Body) → Result Audited ℕ → Result Audited ℕ
and_record fs first ahead x past (Err seq) = Err seq
and_record fs first ahead x past (Ok a) = or_illegal x.seq (audit_record fs first ahead x.seq past a x.holds)

-- live records, the newest of which stands first
abbrev pub legal_to : List Function → Mode → List (List ℕ × Value) → List (List ℕ × ℕ) → List (Live Body) → Result Audited ℕ
legal_to fs first objects ahead [] = Ok (record { state = initial_ideal objects; begun = [] })
legal_to fs first objects ahead (x ∷ xs) =
    and_record fs first ahead x xs (legal_to fs first objects (add_next_index (step_of x.holds) ahead) xs)

abbrev pub state_behind : Result Audited ℕ → Result Ideal ℕ
state_behind (Err seq) = Err seq
state_behind (Ok a) = Ok a.state

-- The state behind the live records of a log that begins in the mode `first` with these objects; or the seqnum of the first
-- record that isn't legal.
abbrev pub legal : List Function → Mode → List (List ℕ × Value) → List (Live Body) → Result Ideal ℕ
legal fs first objects records = state_behind (legal_to fs first objects [] records)

-- The report of a legal log: the turns of its records alone, and the state behind them.
abbrev pub audited_report : List Turn → Result Ideal ℕ → Result Report ℕ
audited_report ts (Err seq) = Err seq
audited_report ts (Ok s) = Ok (ideal_report ts s)

abbrev pub audit : List Function → Mode → List (List ℕ × Value) → List (Live Body) → Result Report ℕ
audit fs first objects records = audited_report (turns fs [] records) (legal fs first objects records)
