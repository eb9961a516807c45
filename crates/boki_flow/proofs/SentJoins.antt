-- A join that is asked is sent once its child has a result.
use Rattle.std.proofs.Common.{◌≡◌, ◌∙◌, ℕ, false, List, Option, Some, sym, ap}
use Rattle.lb_base.specs.declared.value.Outcome.{Outcome}
use Rattle.boki_types.specs.declared.operation.Ask.{Ask}
use Rattle.boki_types.specs.declared.operation.Ask.TheVariants as k
use Rattle.boki_types.specs.declared.operation.Op.TheVariants as o
use Rattle.boki_types.specs.declared.plan.Setup.{Setup}
use Rattle.boki_types.specs.declared.program.Function.{Function}
use Rattle.boki_model.specs.Bodies.{step_tag, child}
use Rattle.boki_model.specs.Modes.{result_of}
use Rattle.boki_model.specs.Writes.{Store}
use Rattle.boki_machine.specs.Attempt.{Attempt}
use Rattle.boki_machine.specs.Step.{join_step}
use Rattle.machine_laws.specs.Ends.{finish_in, last_tagged}
use Rattle.book_api.specs.Books.{next_sent}
use Rattle.step_log.specs.Sound.{view}
use Rattle.attempt_state.specs.declared.progress.Progress.{Progress}
use Rattle.attempt_state.specs.declared.state.AttemptState.{AttemptState}
use Rattle.attempt_log.specs.Moves.{asked_move}
use Rattle.flow_parts.specs.declared.parts.Parts.{Parts}
use Rattle.boki_flow.specs.Flow.{FlowStandsFor}
use Rattle.boki_flow.specs.Arms.{HasBegun, ScriptAsks, here_in, join_move, send_move}
use Rattle.boki_flow.proofs.Leading.{Leads}
use Rattle.boki_flow.proofs.SentAsks.{asked_is_in}

module _ (fs : List Function) (parts : Parts) (kept : AttemptState) (ordinal : ℕ) where
  abbrev ended : Progress → Option Outcome
  ended p = finish_in (child p.path ordinal) (last_tagged (step_tag (child p.path ordinal)) (view parts.book p.engine))

  child_ended : (setup : Setup) (store : Store) (a : Attempt) (outcome : Outcome) → FlowStandsFor setup fs store a parts kept → Some outcome ≡ ended kept.progress
      → result_of (child a.path ordinal) (view parts.book a.engine) ≡ Some outcome
  child_ended setup store a outcome stands e =
      (stands.can.sees.ends (child a.path ordinal)).result ∙ sym (e ∙ ap ended stands.attempt.progress)

  pub leads_join : (outcome : Outcome) → Some outcome ≡ ended kept.progress
      → Leads (ScriptAsks fs (k.Op (o.Join ordinal))) HasBegun (join_move parts ordinal) (send_move fs parts false kept.frame) fs parts kept
  leads_join outcome e = record {
    needs = λ setup store a stands p. p.script;
    same = λ setup store a stands p.
        ap (λ (q : Ask). asked_move fs a store (next_sent parts.book a.engine) (here_in false q) q)
        (asked_is_in setup fs store a parts kept stands (k.Op (o.Join ordinal)) p.asks p.script)
        ∙ sym (ap (λ (found : Option Outcome). join_step a store (next_sent parts.book a.engine) ordinal found) (child_ended setup store a outcome stands e));
  }
