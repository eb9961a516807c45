-- The report of a machine is that of the failure-free execution of its turns.
use Rattle.std.specs.Prelude.{◌≡◌, List, Some}
use Rattle.boki_types.specs.declared.plan.Setup.{Setup}
use Rattle.boki_types.specs.declared.program.Function.{Function}
use Rattle.boki_machine.specs.Machine.{Machine, live_records}
use Rattle.boki_machine.specs.Turns.{turns}
use Rattle.boki_machine.specs.Ideal.{Ideal, run_turns, initial_ideal}
use Rattle.boki_machine.specs.Reports.{report, ideal_report}
use Rattle.exactly_once.specs.Induction.SoundLogs.{IsSound}

pub record IsReported (fs : List Function) (m : Machine) : Type 0 where
  pub state : Ideal
  pub defined : run_turns fs (turns fs m.store.versions (live_records m)) (initial_ideal m.store.initial) ≡ Some state
  pub reported : ideal_report (turns fs m.store.versions (live_records m)) state ≡ report fs m

-- Whatever the machine: where its log and store are sound, the failure-free execution of its turns is defined, and has its report.
abbrev pub ReportsAgree : Type 0
ReportsAgree = (setup : Setup) (fs : List Function) (m : Machine) → IsSound setup fs m.store (live_records m) → IsReported fs m
