-- What a script asks is sent: what the call needs, and the move that it makes.
use Rattle.std.proofs.Common.{◌≡◌, ◌∙◌, ◌^◌, ℕ, Bool, true, List, Option, Some, None, option_map, refl, sym, ap, subst}
use Rattle.std.specs.Prelude.{unwrap_or, IsTrue}
use Rattle.std.proofs.lemmas.Bool.{lt-ltb}
use Rattle.lb_base.specs.declared.value.Value.{Value}
use Rattle.boki_types.specs.declared.line.StepLine.{StepLine}
use Rattle.boki_types.specs.declared.operation.Ask.{Ask}
use Rattle.boki_types.specs.declared.operation.Ask.TheVariants as k
use Rattle.boki_types.specs.declared.operation.Op.TheVariants as o
use Rattle.boki_types.specs.declared.plan.Setup.{Setup}
use Rattle.boki_types.specs.declared.program.Function.{Function}
use Rattle.boki_model.specs.Bodies.{is_optional_value, in_range}
use Rattle.boki_model.specs.Writes.{Store}
use Rattle.boki_machine.specs.Attempt.{Attempt, next_index, step_record}
use Rattle.boki_machine.specs.Step.{seqnum, attempt_ask}
use Rattle.script_ranges.specs.Sends.{body_of_ask}
use Rattle.script_run.specs.Frames.{FrameState}
use Rattle.book_api.specs.Books.{BookState, next_sent}
use Rattle.step_log.specs.Sound.{Sound}
use Rattle.attempt_state.specs.declared.progress.Progress.{Progress}
use Rattle.attempt_state.specs.declared.state.AttemptState.{AttemptState}
use Rattle.attempt_state.specs.Progresses.{begin_of}
use Rattle.attempt_state.specs.Attempts.{HasScript}
use Rattle.attempt_state.specs.Sending.{AskHasPath}
use Rattle.attempt_log.specs.Sent.{asked_body, IsAskSent}
use Rattle.attempt_log.specs.Moves.{attempt_state, asked_move}
use Rattle.attempt_log.proofs.Moves.{asked_are_moves}
use Rattle.flow_parts.specs.declared.parts.Parts.{Parts}
use Rattle.boki_flow.specs.Flow.{FlowStandsFor, IsMoved}
use Rattle.boki_flow.specs.Arms.{asked_in, here_in, send_move}
use Rattle.boki_flow.proofs.Moves.{sent_moves}
use Rattle.boki_flow.proofs.Standing.{asking}

begin_is : (open_at : Option ℕ) → begin_of (option_map seqnum open_at) ≡ unwrap_or open_at 0
begin_is None = refl
begin_is (Some seq) = refl

module _ (setup : Setup) (fs : List Function) (store : Store) (a : Attempt) (parts : Parts) (kept : AttemptState) (stands : FlowStandsFor setup fs store a parts kept) (ask : Ask) (asks : attempt_ask fs a ≡ Some ask) where
  -- what a write's record holds is a value
  here_fits : (inline : Bool) (ask : Ask) → attempt_ask fs a ≡ Some ask → IsTrue (is_optional_value (here_in inline ask))
  here_fits true (k.Op (o.Write key v)) is = stands.can.asks.writes key v is
  here_fits _ _ is = refl

  pub range : (inline : Bool) → IsTrue (in_range (asked_body fs kept.progress (here_in inline ask) ask))
  range inline =
      subst (λ (p : Progress). IsTrue (in_range (asked_body fs p (here_in inline ask) ask))) (sym stands.attempt.progress)
      (subst (λ (begin : ℕ). IsTrue (in_range (body_of_ask fs a.path (next_index a.answers) a.place (here_in inline ask) begin ask))) (sym (begin_is a.transaction))
      (stands.can.asks.sends ask (here_in inline ask) asks (lt-ltb (next_index a.answers) (2 ^ 64) stands.attempt.room) (here_fits inline ask asks)))

  child_path : (ask : Ask) → attempt_ask fs a ≡ Some ask → AskHasPath a.path ask
  child_path (k.Op op) is = stands.can.asks.children op is
  child_path (k.Done outcome) is = tt

  pub has_path : AskHasPath kept.progress.path ask
  has_path = subst (λ (p : Progress). AskHasPath p.path ask) (sym stands.attempt.progress) (child_path ask asks)

  -- the frame asks it
  pub asked_is_in : HasScript a → asked_in kept.frame ≡ ask
  asked_is_in script =
      let there = asking setup fs store a parts kept stands script in
      let same : there.frame.ask ≡ ask = (let e = sym there.asks ∙ asks in cc) in
      ap asked_in there.is ∙ same

  -- it was sent
  pub ask_sent :
      (frame : FrameState) (inline : Bool) (here : Option Value) (book : BookState) (new : Progress) (told : StepLine)
      → kept.frame ≡ Some frame → ask ≡ frame.ask → here ≡ here_in inline ask → Sound book
      → IsAskSent fs here ask kept.progress new parts.book book told
      → IsMoved setup fs a.engine (send_move fs parts inline kept.frame setup store a) parts (record parts { book = book }) (attempt_state new kept.frame) told
  ask_sent frame inline here book new told some same here_is sound is =
      let asked : ask ≡ asked_in kept.frame = same ∙ ap asked_in (sym some) in
      subst (λ (q : Ask). IsMoved setup fs a.engine (asked_move fs a store (next_sent parts.book a.engine) (here_in inline q) q) parts (record parts { book = book }) (attempt_state new kept.frame) told) asked
      (subst (λ (h : Option Value). IsMoved setup fs a.engine (asked_move fs a store (next_sent parts.book a.engine) h ask) parts (record parts { book = book }) (attempt_state new kept.frame) told) here_is
      (sent_moves setup fs a.engine store parts stands.parts (asked_move fs a store (next_sent parts.book a.engine) here ask) (attempt_state new kept.frame) told
      (step_record a.path a.place (body_of_ask fs a.path (next_index a.answers) a.place here (unwrap_or a.transaction 0) ask)) book refl refl sound
      (asked_are_moves fs here ask a store kept.frame kept.progress new parts.book book told stands.attempt is)))
