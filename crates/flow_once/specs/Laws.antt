-- A list that workers wrote is that of a failure-free execution.
use Rattle.std.specs.Prelude.{◌≡◌, ℕ, suc, List, [], ◌∷◌, length, Option, Some, None, bytes_eq, cond}
use Rattle.lb_base.specs.declared.value.Value.{Value}
use Rattle.lb_base.specs.declared.value.Mode.TheVariants.{R}
use Rattle.lb_base.specs.declared.value.Outcome.{Outcome}
use Rattle.boki_types.specs.declared.body.Body.{Body}
use Rattle.boki_types.specs.declared.body.Body.TheVariants as b
use Rattle.boki_types.specs.declared.line.FlowLine.TheVariants as l
use Rattle.boki_types.specs.declared.plan.Setup.{Setup}
use Rattle.boki_types.specs.declared.program.Function.{Function}
use Rattle.boki_model.specs.Live.{LogRecord, Live, live}
use Rattle.boki_model.specs.Maps.{get}
use Rattle.std.specs.Option.{option_or}
use Rattle.boki_model.specs.Writes.{initial_store}
use Rattle.boki_machine.specs.Turns.{turns}
use Rattle.boki_machine.specs.Ideal.{Ideal, run_turns, invocation_result}
use Rattle.boki_machine.specs.Ideal as run_turns
use Rattle.exactly_once.specs.Induction.SoundLogsRun.{RunsFailureFree}
use Rattle.exactly_once.specs.Induction.Invariant.{World, InvariantHolds}
use Rattle.exactly_once.specs.FurtherLaws.Words.{IsAmong}
use Rattle.flow_model.specs.declared.flow.FlowText.{FlowText}
use Rattle.flow_model.specs.declared.flow.FlowRun.{FlowRun}
use Rattle.flow_model.specs.declared.flow.FlowStep.{FlowStep}
use Rattle.flow_model.specs.Written.{AllWritten}
use Rattle.flow_model.specs.Flow.{WorkerRecord, log_of, IsLiveFlow, IsClaimed, AreCalls}

-- mode R, from the start; the sizes play no part
abbrev pub flow_setup : Setup
flow_setup = record { shards = 1; replicas = 1; engines = 1; mode = R; newer = None }

-- the list alone: all that was sent is ordered, and the store has the objects alone
abbrev pub list_world : List (List ℕ × Value) → List (LogRecord Body) → World
list_world objects log = record { log = log; sent = log; store = initial_store objects; attempts = []; positions = [] }

abbrev pub WrittenHolds : Type 0
WrittenHolds = (fs : List Function) (objects : List (List ℕ × Value)) (log : List (LogRecord Body)) → AllWritten fs objects log → InvariantHolds flow_setup fs (list_world objects log)

abbrev pub WrittenRuns : Type 0
WrittenRuns =
    (fs : List Function) (objects : List (List ℕ × Value)) (log : List (LogRecord Body))
    → AllWritten fs objects log → RunsFailureFree fs (initial_store objects) (suc (length log)) (live log)

abbrev pub FlowsAreWritten : Type 0
FlowsAreWritten =
    (text : FlowText) (list : List WorkerRecord) (runs : List FlowRun)
    → AreCalls text → IsLiveFlow text list runs → AllWritten text.program.functions text.objects (log_of list)

-- what workers say each for itself, where the records that it saw were written, holds then of all
abbrev pub ClaimsAreFlows : Type 0
ClaimsAreFlows = (text : FlowText) (list : List WorkerRecord) (runs : List FlowRun) → AreCalls text → IsClaimed text list runs → IsLiveFlow text list runs

-- the value of an object's last live write; the newest record stands first
abbrev pub written_by : List ℕ → Body → Option Value
written_by key (b.Write p i place name (Some v)) = cond (bytes_eq key name) (Some v) None
written_by key _ = None

abbrev pub last_written : List ℕ → List (Live Body) → Option Value
last_written key [] = None
last_written key (x ∷ xs) = option_or (written_by key x.holds) (last_written key xs)

-- The failure-free execution of the list's turns.
pub record IsExactFlow (text : FlowText) (list : List WorkerRecord) (runs : List FlowRun) : Type 0 where
  pub state : Ideal
  pub defined : run_turns text.program.functions (turns text.program.functions [] (live (log_of list))) (run_turns.initial_ideal text.objects) ≡ Some state
  -- each live Finish has the result that it comes to
  pub finishes :
      (x : Live Body) → IsAmong x (live (log_of list)) → (path : List ℕ) (index : ℕ) (outcome : Outcome)
      → x.holds ≡ b.Finish path index outcome → invocation_result path state ≡ Some outcome
  -- and so has each line `over`
  pub overs :
      (run : FlowRun) → IsAmong run runs → (s : FlowStep) → IsAmong s run.steps → (outcome : Outcome)
      → s.line ≡ l.Over outcome → invocation_result run.path state ≡ Some outcome
  -- each object is its last live write, or as it was at first
  pub objects : (key : List ℕ) → get key state.objects ≡ option_or (last_written key (live (log_of list))) (get key text.objects)

abbrev pub FlowsAreExact : Type 0
FlowsAreExact = (text : FlowText) (list : List WorkerRecord) (runs : List FlowRun) → AreCalls text → IsLiveFlow text list runs → IsExactFlow text list runs
