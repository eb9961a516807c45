-- What an event does to the store: a step or a miss does what it does, a sweep lifts the floor, and no other event changes it.
use Rattle.std.proofs.Common.{◌≡◌, ℕ, Bool, true, false, cond, leb, ◌&&◌, List, [], ◌∷◌, Option, Some, None, refl, sym, subst, ◌∙◌}
use Rattle.boki_types.specs.declared.body.Body.{Body}
use Rattle.boki_types.specs.declared.event.Event.{Event}
use Rattle.boki_types.specs.declared.event.Event.TheVariants as v
use Rattle.boki_types.specs.declared.line.Line.TheVariants as l
use Rattle.boki_types.specs.declared.log.Sent.{Sent}
use Rattle.boki_types.specs.declared.plan.Setup.{Setup}
use Rattle.boki_types.specs.declared.program.Function.{Function}
use Rattle.boki_model.specs.Live.{LogRecord, Live}
use Rattle.boki_model.specs.Modes.{Switch, least_open, modes}
use Rattle.boki_model.specs.Order.{progress}
use Rattle.boki_model.specs.Floor.{floor}
use Rattle.boki_model.specs.Writes.{Store, after_sweep}
use Rattle.boki_machine.specs.Attempt.{Attempt}
use Rattle.boki_machine.specs.Step.{step, miss}
use Rattle.boki_machine.specs.Machine.{Machine, view, position, next_sent, event_result, with_aux, cut, cuts_nothing, attempt_at, start_attempt, append_sent, with_attempt, step_attempt, kill_attempt, lose_record, miss_attempt, end_if_all_ended, send_switch_end, get_aux, aux_at, aux_of, apply_event, apply_events}
use Rattle.exactly_once.proofs.Machines.EnginesStay.{step_stays, miss_stays}

module _ (setup : Setup) (fs : List Function) (m : Machine) (Keeps : Machine → Type 0) (same : (n : Machine) → n.store ≡ m.store → Keeps n) (by_step : (n : ℕ) (a : Attempt) → attempt_at n m.attempts ≡ Some a → Keeps (step_attempt setup fs m n (Some a)).machine) (by_miss : (n : ℕ) (a : Attempt) → attempt_at n m.attempts ≡ Some a → Keeps (miss_attempt setup fs m (Some a)).machine) (by_sweep : (n : ℕ) → Keeps (record m { store = after_sweep n m.store })) where
  steps_keep : (n : ℕ) (o : Option Attempt) → attempt_at n m.attempts ≡ o → Keeps (step_attempt setup fs m n o).machine
  steps_keep n None e = same m refl
  steps_keep n (Some a) e = by_step n a e

  misses_keep : (n : ℕ) (o : Option Attempt) → attempt_at n m.attempts ≡ o → Keeps (miss_attempt setup fs m o).machine
  misses_keep n None e = same m refl
  misses_keep n (Some a) e = by_miss n a e

  cut_store : (cut m).store ≡ m.store
  cut_store = elim (cuts_nothing m) as (λ t. (cond t m (record m { vectors = progress m.shards m.counts ∷ m.vectors })).store ≡ m.store) [ true ↦ refl | false ↦ refl ]

  starts_keep : (n : ℕ) (path : List ℕ) (engine : ℕ) (o : Option Attempt) → Keeps (start_attempt m n path engine o).machine
  starts_keep n path engine None = same _ refl
  starts_keep n path engine (Some a) = same _ refl

  kills_keep : (n : ℕ) (o : Option Attempt) → Keeps (kill_attempt m n o).machine
  kills_keep n None = same _ refl
  kills_keep n (Some a) = same _ refl

  loses_keep : (n : ℕ) (o : Option Attempt) → Keeps (lose_record m n o).machine
  loses_keep n None = same _ refl
  loses_keep n (Some a) = same _ refl

  ends_keep : (engine : ℕ) (path : Option (List ℕ)) → Keeps (end_if_all_ended setup m engine path).machine
  ends_keep engine None = same _ refl
  ends_keep engine (Some path) = same _ refl

  switch_keeps : (engine : ℕ) (seen : List (Live Body)) (s : Option Switch) → Keeps (send_switch_end setup m engine seen s).machine
  switch_keeps engine seen None = same _ refl
  switch_keeps engine seen (Some s) = ends_keep engine (least_open s.begun seen)

  aux_keeps : (engine seq : ℕ) (text : List ℕ) (t : Bool) → Keeps (cond t (event_result (with_aux m engine seq text) l.Set) (event_result m l.Absent)).machine
  aux_keeps engine seq text true = same _ refl
  aux_keeps engine seq text false = same _ refl

  used_keeps : (engine seq : ℕ) (o : Option (List ℕ)) → Keeps (get_aux m engine seq o).machine
  used_keeps engine seq None = same _ refl
  used_keeps engine seq (Some text) = same _ refl

  pub event_keeps : (event : Event) → Keeps (apply_event setup fs m event).machine
  event_keeps (v.Step n) = steps_keep n (attempt_at n m.attempts) refl
  event_keeps (v.Miss n) = misses_keep n (attempt_at n m.attempts) refl
  event_keeps (v.Sweep engine) = by_sweep (floor (view m engine))
  event_keeps v.Cut = same _ cut_store
  event_keeps v.Sync = same _ cut_store
  event_keeps (v.Start n path engine) = starts_keep n path engine (attempt_at n m.attempts)
  event_keeps (v.Kill n) = kills_keep n (attempt_at n m.attempts)
  event_keeps (v.Lose n) = loses_keep n (attempt_at n m.attempts)
  event_keeps (v.EndSwitch engine) = switch_keeps engine (view m engine) (modes setup.mode (view m engine)).pending
  event_keeps (v.SetAux engine seq text) = aux_keeps engine seq.0 text (leb 1 seq.0 && leb seq.0 (position m engine))
  event_keeps (v.GetAux engine seq) = used_keeps engine seq.0 (aux_at seq.0 (aux_of m engine))
  event_keeps _ = same _ refl

-- So what holds of a store, and of what steps, misses and sweeps make of it, holds behind any event.
module _ (setup : Setup) (fs : List Function) (m : Machine) (P : Store → Type 0) (was : P m.store) (by_step : (a : Attempt) (at : Sent) → P (step setup fs m.store (view m a.engine) at a).store) (by_miss : (a : Attempt) → P (miss setup fs m.store (view m a.engine) a).store) (by_sweep : (n : ℕ) → P (after_sweep n m.store)) where
  sends_keep : (engine : ℕ) (r : Option (LogRecord Body)) (n : Machine) → P n.store → P (append_sent setup engine r n).store
  sends_keep engine None n is = is
  sends_keep engine (Some r) n is = is

  pub store_keeps : (event : Event) → P (apply_event setup fs m event).machine.store
  store_keeps event =
      event_keeps setup fs m (λ n. P n.store) (λ n e. subst P (sym e) was)
      (λ n a e.
      let at = next_sent setup m a.engine in
      let move = step setup fs m.store (view m a.engine) at a in
      sends_keep a.engine move.sends (with_attempt n move.attempt (record m { store = move.store })) (by_step a at))
      (λ n a e. by_miss a) by_sweep event

-- The objects that it began with stay.
pub run_stays : (setup : Setup) (fs : List Function) (es : List Event) (m : Machine) → (apply_events setup fs es m).machine.store.initial ≡ m.store.initial
run_stays setup fs [] m = refl
run_stays setup fs (e ∷ es) m =
    run_stays setup fs es (apply_event setup fs m e).machine
    ∙ store_keeps setup fs m (λ s. s.initial ≡ m.store.initial) refl
    (λ a at. (step_stays setup fs a m.store (view m a.engine) at).1) (λ a. miss_stays setup fs a m.store (view m a.engine) (record { shard = 0; local = 0 })) (λ n. refl) e
