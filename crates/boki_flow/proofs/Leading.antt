-- One arm leads to another: what the one needs gives what the other needs, and its move is the other's.
use Rattle.std.proofs.Common.{◌≡◌, List, Result, ap, subst}
use Rattle.std.specs.Prelude.{IfOk, OnErr}
use Rattle.std.proofs.lemmas.Result.{IfOk-weaker, on_err_weaker}
use Rattle.boki_types.specs.declared.line.Miss.{Miss}
use Rattle.boki_types.specs.declared.line.StepLine.{StepLine}
use Rattle.boki_types.specs.declared.plan.Setup.{Setup}
use Rattle.boki_types.specs.declared.program.Function.{Function}
use Rattle.boki_model.specs.Writes.{Store}
use Rattle.boki_machine.specs.Attempt.{Attempt, Move}
use Rattle.boki_machine.specs.Step.{Missed}
use Rattle.attempt_state.specs.declared.state.AttemptState.{AttemptState}
use Rattle.flow_parts.specs.declared.parts.Parts.{Parts}
use Rattle.flow_parts.specs.Parts.{IsCutShort}
use Rattle.boki_flow.specs.Flow.{FlowStandsFor, IsMoved, IsMissed}
use Rattle.boki_flow.specs.Arms.{CanFlowIf, MovesBy, CutShortBy, CanMissIf, MissesBy, MissCutShortBy}

pub record Leads {M : Type 0} (P Q : Setup → Store → Attempt → Type 0) (from to : Setup → Store → Attempt → M) (fs : List Function) (parts : Parts) (kept : AttemptState)
    : Type 0 where
  pub needs : (setup : Setup) (store : Store) (a : Attempt) → FlowStandsFor setup fs store a parts kept → P setup store a → Q setup store a
  pub same : (setup : Setup) (store : Store) (a : Attempt) → FlowStandsFor setup fs store a parts kept → P setup store a → to setup store a ≡ from setup store a

pub can_if : (P Q : Setup → Store → Attempt → Type 0) (fs : List Function) (parts : Parts) (kept : AttemptState)
    → ((setup : Setup) (store : Store) (a : Attempt) → FlowStandsFor setup fs store a parts kept → P setup store a → Q setup store a)
    → CanFlowIf P fs parts kept → CanFlowIf Q fs parts kept
can_if P Q fs parts kept needs can = record {
  setup = can.setup;
  store = can.store;
  attempt = can.attempt;
  stands = can.stands;
  holds = needs can.setup can.store can.attempt can.stands can.holds;
}

module _ {E : Type 0} (P Q : Setup → Store → Attempt → Type 0) (fs : List Function) (old new : Parts) where
  module _ (from to : Setup → Store → Attempt → Move) (before after : AttemptState) (leads : Leads P Q from to fs old before) where
    pub leads_moves : (result : Result StepLine E) → IfOk result (MovesBy Q to fs old new before after) → IfOk result (MovesBy P from fs old new before after)
    leads_moves result = IfOk-weaker result (MovesBy Q to fs old new before after) (MovesBy P from fs old new before after) (λ line did setup store a stands p.
        subst (λ (move : Move). IsMoved setup fs a.engine move old new after line) (leads.same setup store a stands p)
        (did setup store a stands (leads.needs setup store a stands p)))

    pub leads_cut : (result : Result StepLine E) → OnErr result (CutShortBy Q to fs old new before) → OnErr result (CutShortBy P from fs old new before)
    leads_cut result = on_err_weaker result (λ did setup store a stands p.
        subst (λ (after : Store). IsCutShort setup store after old new) (ap (λ (move : Move). move.store) (leads.same setup store a stands p))
        (did setup store a stands (leads.needs setup store a stands p)))

-- The same of lost store calls, for any functions.
module _ {E : Type 0} (P Q : List Function → Setup → Store → Attempt → Type 0) (from to : List Function → Setup → Store → Attempt → Missed) (old new : Parts) (kept : AttemptState)
    (leads : (fs : List Function) → Leads (P fs) (Q fs) (from fs) (to fs) fs old kept) where
  pub leads_misses : (result : Result Miss E) → IfOk result (MissesBy Q to old new kept) → IfOk result (MissesBy P from old new kept)
  leads_misses result = IfOk-weaker result (MissesBy Q to old new kept) (MissesBy P from old new kept) (λ what did fs setup store a stands p.
      subst (λ (missed : Missed). IsMissed setup missed old new what) ((leads fs).same setup store a stands p)
      (did fs setup store a stands ((leads fs).needs setup store a stands p)))

  pub leads_miss_cut : (result : Result Miss E) → OnErr result (MissCutShortBy Q to old new kept) → OnErr result (MissCutShortBy P from old new kept)
  leads_miss_cut result = on_err_weaker result (λ did fs setup store a stands p.
      subst (λ (after : Store). IsCutShort setup store after old new) (ap (λ (missed : Missed). missed.store) ((leads fs).same setup store a stands p))
      (did fs setup store a stands ((leads fs).needs setup store a stands p)))

pub can_miss_if : (P Q : List Function → Setup → Store → Attempt → Type 0) (parts : Parts) (kept : AttemptState)
    → ((fs : List Function) (setup : Setup) (store : Store) (a : Attempt) → FlowStandsFor setup fs store a parts kept → P fs setup store a → Q fs setup store a)
    → CanMissIf P parts kept → CanMissIf Q parts kept
can_miss_if P Q parts kept needs can = (can.0, can_if (P can.0) (Q can.0) can.0 parts kept (needs can.0) can.1)
