-- Events by what an engine's view of switches tells: the end of a switch, and a trim.
use Rattle.std.proofs.Common.{◌≡◌, ◌∙◌, ℕ, suc, ◌<◌, ◌^◌, true, List, length, Option, Some, None, refl, sym, ap, ap₂, subst, lt-ltb}
use Rattle.lb_base.specs.declared.value.Mode.{Mode}
use Rattle.lb_base.specs.declared.value.Seqnum.{Seqnum}
use Rattle.boki_types.specs.declared.body.Body.{Body}
use Rattle.boki_types.specs.declared.body.Body.TheVariants as body
use Rattle.boki_types.specs.declared.event.Event.TheVariants as event
use Rattle.boki_types.specs.declared.line.Line.{Line}
use Rattle.boki_types.specs.declared.line.Line.TheVariants as line
use Rattle.boki_types.specs.declared.log.Ending.{Ending}
use Rattle.boki_types.specs.declared.log.Ending.TheVariants as e
use Rattle.boki_types.specs.declared.log.Sent.{Sent}
use Rattle.boki_types.specs.declared.plan.Setup.{Setup}
use Rattle.boki_types.specs.declared.program.Function.{Function}
use Rattle.boki_model.specs.Bodies.{is_u64}
use Rattle.boki_model.specs.Floor.{trim_limit}
use Rattle.boki_model.specs.Live.{Live}
use Rattle.boki_model.specs.Modes.{Switch, modes}
use Rattle.boki_model.specs.Plans.{is_event}
use Rattle.boki_machine.specs.Machine as machine
use Rattle.boki_machine.specs.Machine.{Machine, EventResult, event_result, unconditional_record, end_if_all_ended, send_switch_end, send_trim, apply_event}
use Rattle.script_ranges.specs.Ranged.{NumbersHaveRoom}
use Rattle.book_api.specs.Books.{BookState, ordered, position}
use Rattle.step_log.specs.Sound.{view, Sound}
use Rattle.step_laws.specs.Kept.{IsTextEvent}
use Rattle.hm_switch.specs.Answers.{Pends, IsEnding, IsTrimSent}
use Rattle.flow_parts.specs.declared.parts.Parts.{Parts}
use Rattle.cluster_events.specs.Lines.{line_of_ending}
use Rattle.cluster_events.specs.Machines.{PartsAreOf, IsEventDone}
use Rattle.cluster_events.proofs.Done.{same_done}
use Rattle.cluster_events.proofs.Cuts.{log_length}
use Rattle.cluster_events.proofs.ReadLines.{position_same, view_same}
use Rattle.cluster_events.proofs.Sends.{next_same, body_done}

module _ (setup : Setup) (fs : List Function) (m : Machine) (old : Parts) (are : PartsAreOf setup fs m old) (engine : ℕ) where
  -- The end of a switch.
  module _ (valid : is_event setup fs (event.EndSwitch engine) ≡ true) (b : BookState) (sound : Sound b) (first : Mode) (is_first : first ≡ setup.mode) where
    text : IsTextEvent setup fs (event.EndSwitch engine)
    text = record { valid = valid; bytes = refl; text = tt }

    -- what is pending in the machine's view
    pends : (o : Option Switch) → (modes first (view old.book engine)).pending ≡ o → apply_event setup fs m (event.EndSwitch engine) ≡ send_switch_end setup m engine (view old.book engine) o
    pends o is =
        ap (λ (seen : List (Live Body)). send_switch_end setup m engine seen (modes setup.mode seen).pending) (view_same setup fs m old are engine)
        ∙ ap (λ (mode : Mode). send_switch_end setup m engine (view old.book engine) (modes mode (view old.book engine)).pending) (sym is_first)
        ∙ ap (send_switch_end setup m engine (view old.book engine)) is

    ends : (least : Option (List ℕ)) → Pends first engine old.book least → apply_event setup fs m (event.EndSwitch engine) ≡ end_if_all_ended setup m engine least
    ends least is = pends (Some is.switch) is.pending ∙ ap (end_if_all_ended setup m engine) is.least_is

    -- nothing was sent
    nothing : (line : Line) → b ≡ old.book → apply_event setup fs m (event.EndSwitch engine) ≡ event_result m line → IsEventDone setup fs (event.EndSwitch engine) m (record old { book = b }) line
    nothing line same is =
        subst (λ (b : BookState). IsEventDone setup fs (event.EndSwitch engine) m (record old { book = b }) line) (sym same)
        (same_done setup fs m old are (event.EndSwitch engine) line text (sym (ap (λ (r : EventResult). r.line) is)) (ap (λ (r : EventResult). r.machine) is))

    pub end_done : (ending : Ending) → IsEnding first engine old.book b ending → IsEventDone setup fs (event.EndSwitch engine) m (record old { book = b }) (line_of_ending ending)
    end_done (e.Sent sent) is =
        body_done setup fs m old are engine b sound (event.EndSwitch engine) text tt None body.SwitchEnd sent (line.Sent sent) is.1
        (ap line.Sent (is.1.location ∙ sym (next_same setup fs m old are engine)) ∙ sym (ap (λ (r : EventResult). r.line) (ends None is.0)))
        (ap (λ (r : EventResult). r.machine) (ends None is.0))
    end_done e.Idle is = nothing line.Absent is.1 (pends None is.0)
    end_done (e.Unfinished path) is = nothing (line.Unfinished path) is.1 (ends (Some path) is.0)

    pub end_said : (ending : Ending) (line : Line) → IsEnding first engine old.book b ending → line ≡ line_of_ending ending → IsEventDone setup fs (event.EndSwitch engine) m (record old { book = b }) line
    end_said ending line is line_is = subst (λ (l : Line). IsEventDone setup fs (event.EndSwitch engine) m (record old { book = b }) l) (sym line_is) (end_done ending is)

  -- A trim.
  module _ (valid : is_event setup fs (event.Trim engine) ≡ true) (b : BookState) (sound : Sound b) (few : length (ordered old.book) < 2 ^ 64) (low : suc (position old.book engine) < 2 ^ 64) where
    room : NumbersHaveRoom m (event.Trim engine)
    room = (
      ap is_u64 (log_length m old.book are.book) ∙ lt-ltb (length (ordered old.book)) (2 ^ 64) few,
      ap (λ p. is_u64 (suc p)) (position_same setup fs m old are engine) ∙ lt-ltb (suc (position old.book engine)) (2 ^ 64) low,
    )

    limit_same : trim_limit (machine.position m engine) (machine.view m engine) ≡ trim_limit (position old.book engine) (view old.book engine)
    limit_same = ap₂ (λ (p : ℕ) (seen : List (Live Body)). trim_limit p seen) (position_same setup fs m old are engine) (view_same setup fs m old are engine)

    pub trim_done : (sent : Sent) (bound : Seqnum) → IsTrimSent engine old.book b (sent, bound) → IsEventDone setup fs (event.Trim engine) m (record old { book = b }) (line.Trimmed sent bound)
    trim_done sent bound is =
        let result_is : apply_event setup fs m (event.Trim engine) ≡ send_trim setup m engine bound.0 = ap (send_trim setup m engine) (limit_same ∙ sym is.bound) in
        body_done setup fs m old are engine b sound (event.Trim engine) (record { valid = valid; bytes = refl; text = tt }) room None (body.Trim bound.0) sent (line.Trimmed sent bound) is.sent
        (ap (λ (at : Sent). line.Trimmed at bound) (is.sent.location ∙ sym (next_same setup fs m old are engine)) ∙ sym (ap (λ (r : EventResult). r.line) result_is))
        (ap (λ (r : EventResult). r.machine) result_is)
