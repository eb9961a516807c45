-- A sound log runs: the failure-free execution of its turns is defined, and comes to what the log and the store say.
use Rattle.std.specs.Prelude.{◌≡◌, ℕ, suc, List, length, Some}
use Rattle.boki_types.specs.declared.body.Body.{Body}
use Rattle.boki_types.specs.declared.plan.Setup.{Setup}
use Rattle.boki_types.specs.declared.program.Function.{Function}
use Rattle.boki_model.specs.Live.{LogRecord, live}
use Rattle.boki_model.specs.Live as log
use Rattle.boki_model.specs.Maps.{get}
use Rattle.boki_model.specs.Modes as modes
use Rattle.boki_model.specs.Writes.{Store, last_value_below}
use Rattle.boki_model.specs.Folds.{queues, commits, store_values}
use Rattle.boki_machine.specs.Turns.{turns}
use Rattle.boki_machine.specs.Ideal.{Ideal, run_turns, initial_ideal}
use Rattle.boki_machine.specs.Ideal as run_turns
use Rattle.exactly_once.specs.Induction.SoundLogs.{IsSound}

-- The state that the execution comes to. Where n is above every seqnum, an object's value is its last write below (n, 0).
pub record RunsFailureFree (fs : List Function) (store : Store) (n : ℕ) (records : List (log.Live Body)) : Type 0 where
  pub state : Ideal
  pub defined : run_turns fs (turns fs store.versions records) (initial_ideal store.initial) ≡ Some state
  pub objects : (key : List ℕ) → get key state.objects ≡ last_value_below key n 0 store records
  pub results : (path : List ℕ) → run_turns.invocation_result path state ≡ modes.result_of path records
  pub queues_are : state.queues ≡ queues records
  pub names : state.names ≡ store_values (commits records)

-- Whatever the ordered list and the store: where they are sound, the failure-free execution of the turns is defined, and its
-- objects, results, queues and store names are those of the list and the store.
abbrev pub SoundRuns : Type 0
SoundRuns =
    (setup : Setup) (fs : List Function) (store : Store) (log : List (LogRecord Body))
    → IsSound setup fs store (live log) → RunsFailureFree fs store (suc (length log)) (live log)
