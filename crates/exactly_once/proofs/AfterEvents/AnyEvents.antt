-- Laws of a machine that the invariant holds of are laws after any events.
use Rattle.boki_types.specs.declared.plan.Setup.{Setup}
use Rattle.boki_types.specs.declared.program.Function.{Function}
use Rattle.std.proofs.Common.{List}
use Rattle.boki_machine.specs.Machine.{Machine, initial_machine, apply_events}
use Rattle.exactly_once.specs.Induction.EventKeeps.{MachineHolds, EventsKeepInvariant}
use Rattle.exactly_once.specs.Induction.OpeningHolds.{world_of}
use Rattle.exactly_once.specs.FurtherLaws.AnyEvents.{AfterEvents, DuplicatesAgree}
use Rattle.exactly_once.specs.FurtherLaws.Words.{attempts_of}
use Rattle.exactly_once.proofs.Machines.ExactlyOnce.{run_holds, opens}
use Rattle.exactly_once.specs.FurtherLaws.EndedInvocations.{EndedHaveNoEffect}
use Rattle.exactly_once.specs.FurtherLaws.LogEconomy.{EndedAreEconomic}
use Rattle.exactly_once.specs.FurtherLaws.DecidedAnswers.{DecidedAnswersStay}
use Rattle.exactly_once.proofs.AfterEvents.DuplicatesAgree.{all_agree}
use Rattle.exactly_once.proofs.AfterEvents.VersionEvents.{event_puts}
use Rattle.exactly_once.proofs.AfterEvents.LogEconomy.{economic}
use Rattle.exactly_once.proofs.AfterEvents.EndedInvocations.{dead, step_leaves, miss_leaves, gone_only}
use Rattle.exactly_once.proofs.AfterEvents.EndIsLast.{end_is_last}

module _ (keep : EventsKeepInvariant) where
  pub after_events : (Law : Setup → List Function → Machine → Type 0) → ((setup : Setup) (fs : List Function) (m : Machine) → MachineHolds setup fs m → Law setup fs m) → AfterEvents Law
  after_events Law law setup fs objects events all =
      law setup fs (apply_events setup fs events (initial_machine setup objects)).machine (run_holds setup fs keep events (initial_machine setup objects) all (opens setup fs objects))

  pub duplicates_agree : AfterEvents DuplicatesAgree
  duplicates_agree = after_events DuplicatesAgree (λ setup fs m good. all_agree setup fs (world_of m) good.holds (attempts_of m) good.holds.attempts)

  pub ended_are_left : AfterEvents EndedHaveNoEffect
  ended_are_left = after_events EndedHaveNoEffect (λ setup fs m good.
      let w = world_of m in
      record {
        stay = λ a among ended. record {
          steps = step_leaves setup fs w good.holds a among ended;
          misses = miss_leaves setup fs w good.holds a among ended (record { shard = 0; local = 0 });
        };
        dead = dead setup fs w good.holds;
        gone = gone_only setup fs w good.holds;
        end = end_is_last setup fs m good;
      })

  pub ended_are_economic : AfterEvents EndedAreEconomic
  ended_are_economic = after_events EndedAreEconomic (λ setup fs m good path ended. economic setup fs (world_of m) good.holds path ended)

  pub decided_answers_stay : AfterEvents DecidedAnswersStay
  decided_answers_stay = after_events DecidedAnswersStay (λ setup fs m good event v more. event_puts setup fs m good v event more)
