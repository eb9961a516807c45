-- Decided answers are the script's.
use Rattle.std.proofs.Common.{ℕ, ◌-◌, Bool, true, false, cond, List, [], length}
use Rattle.boki_types.specs.declared.operation.Answer.{Answer}
use Rattle.boki_types.specs.declared.program.Function.{Function}
use Rattle.boki_machine.specs.Decided.{InvocationState, with_free_answers, oldest}
use Rattle.boki_machine.specs.Machine.{live_records}
use Rattle.exactly_once.specs.Induction.EventKeeps.{EventsKeepInvariant}
use Rattle.exactly_once.specs.FurtherLaws.Words.{values_only}
use Rattle.exactly_once.specs.FurtherLaws.AnyEvents.{AfterEvents}
use Rattle.exactly_once.specs.Induction.OpeningHolds.{world_of}
use Rattle.exactly_once.proofs.Invocations.NextRecord.{stands, is_called}
use Rattle.exactly_once.proofs.AfterEvents.AnyEvents.{after_events}
use Rattle.machine_laws.proofs.Writes.{behind}
use Rattle.machine_laws.specs.Laws.{WhereHolding}
use Rattle.machine_laws.specs.Scripts.{AnswerInOrder, DecidedAreScripts}
use Rattle.machine_laws.proofs.Answered.{are_dropped, are_more, are_answers}
use Rattle.machine_laws.proofs.Reached.{reached}

if_begun : (fs : List Function) (path : List ℕ) (st : InvocationState) (l : List Answer) (begun : Bool) → AnswerInOrder fs path st l → AnswerInOrder fs path st (cond begun l [])
if_begun fs path st l true are = are
if_begun fs path st l false are = tt

pub holding_decide_scripts : WhereHolding DecidedAreScripts
holding_decide_scripts setup fs m good path =
    let store = values_only m.store in
    let now = live_records m in
    let st = stands setup fs store path now in
    record {
      called = λ begun.
          (let its = is_called setup fs store now path good.holds.sound.fit begun in
          record { call = its.call; called = its.called; function_is = its.function_is; args_are = its.args_are });
      answered = λ n.
          (let l = with_free_answers fs store now path st (n - length st.answers) in
          if_begun fs path st (oldest n l) st.begun
          (are_dropped fs path st (length l - n) l
          (are_more fs path store now st (n - length st.answers) (are_answers fs path setup store now good.holds.sound.fit))));
      reached = λ x index among step.
          (let its = behind x now among in
          reached setup fs (world_of m) good.holds path x its.rest its.tail index step);
    }

pub decided_are_scripts : EventsKeepInvariant → AfterEvents DecidedAreScripts
decided_are_scripts keep = after_events keep DecidedAreScripts holding_decide_scripts
