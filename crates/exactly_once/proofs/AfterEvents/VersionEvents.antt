-- An event that puts in a version is a step or a miss of an attempt, and leaves what is decided.
use Rattle.std.proofs.Common.{◌≡◌, ◌⊎◌, inl, inr, ℕ, suc, ◌-◌, Bool, true, false, cond, ltb, ◌&&◌, not, List, ◌∷◌, length, Option, Some, None, refl, sym, ap, ◌∙◌, subst, arith}
use Rattle.std.proofs.lemmas.Bool.{ltb-false}
use Rattle.lb_base.specs.declared.value.Value.{Value}
use Rattle.lb_base.specs.declared.value.Mode.TheVariants.{W}
use Rattle.boki_types.specs.declared.body.Body.{Body}
use Rattle.boki_types.specs.declared.event.Event.{Event}
use Rattle.boki_types.specs.declared.line.StepLine.{StepLine}
use Rattle.boki_types.specs.declared.log.Sent.{Sent}
use Rattle.boki_types.specs.declared.operation.Op.TheVariants as o
use Rattle.boki_types.specs.declared.operation.Ask.TheVariants as k
use Rattle.boki_types.specs.declared.plan.Setup.{Setup}
use Rattle.boki_types.specs.declared.program.Function.{Function}
use Rattle.boki_model.specs.Live.{LogRecord}
use Rattle.boki_model.specs.Order.{order}
use Rattle.boki_model.specs.OrderLaws.{add_to}
use Rattle.boki_model.specs.Writes.{Store, Version, fence, version_value, has_version, after_put}
use Rattle.boki_model.proofs.Orders.{order_stays}
use Rattle.boki_machine.specs.Attempt.{Attempt, Move}
use Rattle.boki_machine.specs.Step.{attempt_ask, step, miss}
use Rattle.boki_machine.specs.Machine.{Machine, log, live_records, view, home_shard, next_sent, attempt_at, with_attempt, append_sent, step_attempt, miss_attempt, apply_event}
use Rattle.exactly_once.specs.Induction.EventKeeps.{MachineHolds}
use Rattle.exactly_once.specs.FurtherLaws.Words.{values_only, IsAmong, attempts_of}
use Rattle.exactly_once.specs.FurtherLaws.DecidedAnswers.{AnswersStay, VersionIsPut}
use Rattle.exactly_once.specs.Induction.OpeningHolds.{world_of}
use Rattle.boki_model.specs.WriteLaws.{with_version}
use Rattle.exactly_once.specs.Induction.VersionKeeps.{next_version}
use Rattle.exactly_once.proofs.Attempts.ActingAttempt.{following}
use Rattle.exactly_once.proofs.Attempts.FreeSteps.{not_fresh}
use Rattle.exactly_once.proofs.OldVersions.Writers.{IsWriter}
use Rattle.exactly_once.proofs.Attempts.WithoutRecord.{no_value}
use Rattle.exactly_once.proofs.Machines.StepEffects.{Effect, leaves, stops, stops_there, fences_keys, puts, names_value, step_effect, miss_effect}
use Rattle.exactly_once.proofs.Machines.EventKeeps.{found_among}
use Rattle.exactly_once.proofs.Machines.EventEffects.{event_keeps}
use Rattle.exactly_once.proofs.AfterEvents.VersionAnswers.{answers_stay}

module _ (setup : Setup) (fs : List Function) (m : Machine) (good : MachineHolds setup fs m) (v : Version) where
  -- the store is the old one with the version of an attempt's next free write
  record PutBy (new : Store) : Type 0 where
    pub attempt : Attempt
    pub key : List ℕ
    pub value : Value
    pub writer : IsWriter setup fs (values_only m.store) m.store.fences (live_records m) attempt key value
    pub is_put : new ≡ with_version (next_version attempt key value) m.store

  abbrev HasMore : Store → Type 0
  HasMore new = new.versions ≡ v ∷ m.store.versions

  no_more : (new : Store) → new.versions ≡ m.store.versions → HasMore new → ⊥
  no_more new e more = let count = ap length (sym e ∙ more) in let h : ⊥ = omega (arith, count) in h

  module _ (t : Attempt) (among : IsAmong t (attempts_of m)) where
    put_by_it : (place : ℕ) → t.place ≡ suc place → (key : List ℕ) (value : Value) → attempt_ask fs t ≡ Some (k.Op (o.Write key value)) → t.mode ≡ W → (new : Store) → new ≡ after_put key t.cursor (suc t.free_writes) value m.store → HasMore new → PutBy new
    put_by_it place begun key value asked mode new e = at (ltb t.cursor m.store.floor) (has_version key t.cursor (suc t.free_writes) m.store) (ltb t.cursor (fence key m.store.fences)) refl refl e
      where
        made : has_version key t.cursor (suc t.free_writes) m.store ≡ false → ltb t.cursor (fence key m.store.fences) ≡ false → new ≡ with_version (next_version t key value) m.store → PutBy new
        made absent before is = record {
          attempt = t;
          key = key;
          value = value;
          writer = record {
            follows = not_fresh setup fs (values_only m.store) m.store.fences (length (log m)) (live_records m) m.positions t place begun (following setup fs (world_of m) good.holds t among);
            mode_is = mode;
            asks = asked;
            new = no_value (version_value key t.cursor (suc t.free_writes) m.store.versions) absent;
            unfenced = ltb-false t.cursor (fence key m.store.fences) before;
          };
          is_put = is;
        }

        at : (below_it there_is fenced : Bool) → has_version key t.cursor (suc t.free_writes) m.store ≡ there_is → ltb t.cursor (fence key m.store.fences) ≡ fenced
            → new ≡ cond (not below_it && not there_is && not fenced) (with_version (next_version t key value) m.store) m.store → HasMore new → PutBy new
        at true there_is fenced a b is more = absurd (no_more new (ap (λ (s : Store). s.versions) is) more)
        at false true fenced a b is more = absurd (no_more new (ap (λ (s : Store). s.versions) is) more)
        at false false true a b is more = absurd (no_more new (ap (λ (s : Store). s.versions) is) more)
        at false false false a b is more = made a b is

    effect_put : (at : Sent) (new : Store) (line : StepLine) → Effect setup fs t m.store (view m t.engine) at new line → HasMore new → PutBy new
    effect_put at new line (leaves e said) more = absurd (no_more new (ap (λ (s : Store). s.versions) e) more)
    effect_put at new line (stops place begun e low) more = absurd (no_more new (ap (λ (s : Store). s.versions) e) more)
    effect_put at new line (stops_there place begun x found e low) more = absurd (no_more new (ap (λ (s : Store). s.versions) e) more)
    effect_put at new line (fences_keys place begun x keys found is e said) more = absurd (no_more new (ap (λ (s : Store). s.versions) e) more)
    effect_put at new line (names_value place begun key value asked late e said) more = absurd (no_more new (ap (λ (s : Store). s.versions) e) more)
    effect_put at new line (puts place begun key value asked mode late e said) more = put_by_it place begun key value asked mode new e more

    step_put : (at : Sent) → HasMore (step setup fs m.store (view m t.engine) at t).store → PutBy (step setup fs m.store (view m t.engine) at t).store
    step_put at more =
        let move = step setup fs m.store (view m t.engine) at t in
        effect_put at move.store move.line (step_effect setup fs t m.store (view m t.engine) at).1 more

    miss_put : HasMore (miss setup fs m.store (view m t.engine) t).store → PutBy (miss setup fs m.store (view m t.engine) t).store
    miss_put more = either_way (miss setup fs m.store (view m t.engine) t).store (step setup fs m.store (view m t.engine) nowhere t).store (miss_effect setup fs t m.store (view m t.engine) nowhere) more (step_put nowhere)
      where
        nowhere : Sent
        nowhere = record { shard = 0; local = 0 }

        either_way : (missed moved : Store) → (missed ≡ m.store) ⊎ (missed ≡ moved) → HasMore missed → (HasMore moved → PutBy moved) → PutBy missed
        either_way missed moved (inl e) more put = absurd (no_more missed (ap (λ (s : Store). s.versions) e) more)
        either_way missed moved (inr e) more put = subst PutBy (sym e) (put (ap (λ (s : Store). s.versions) (sym e) ∙ more))

  -- what it does to decided answers
  version_put : (n : Machine) → log n ≡ log m → PutBy n.store → VersionIsPut setup fs m n
  version_put n same put = record {
    log_stays = same;
    answers_stay = λ path.
        subst (λ s. AnswersStay setup fs (values_only m.store) s (live_records m) (attempts_of m) path) (ap values_only (sym put.is_put))
        (answers_stay setup fs (world_of m) good.holds put.attempt put.key put.value put.writer path);
  }

  sent_log : (engine : ℕ) (r : Option (LogRecord Body)) (n : Machine) → n.shards ≡ m.shards → n.vectors ≡ m.vectors → log (append_sent setup engine r n) ≡ log m
  sent_log engine None n shards vectors = λ i. order (shards i) (vectors i)
  sent_log engine (Some r) n shards vectors = (λ i. order (add_to (home_shard setup engine - 1) r (shards i)) (vectors i)) ∙ order_stays (home_shard setup engine - 1) r m.shards m.vectors good.grow good.have

  sent_store : (engine : ℕ) (r : Option (LogRecord Body)) (n : Machine) → (append_sent setup engine r n).store ≡ n.store
  sent_store engine None n = refl
  sent_store engine (Some r) n = refl

  pub event_puts : (event : Event) → HasMore (apply_event setup fs m event).machine.store → VersionIsPut setup fs m (apply_event setup fs m event).machine
  event_puts event =
      event_keeps setup fs m (λ n. HasMore n.store → VersionIsPut setup fs m n) (λ n e more. absurd (no_more n.store (ap (λ (s : Store). s.versions) e) more)) by_step by_miss
      (λ k more. absurd (no_more m.store refl more)) event
    where
      by_step : (n : ℕ) (a : Attempt) → attempt_at n m.attempts ≡ Some a → HasMore (step_attempt setup fs m n (Some a)).machine.store → VersionIsPut setup fs m (step_attempt setup fs m n (Some a)).machine
      by_step n a e = sent move.sends
        where
          at : Sent
          at = next_sent setup m a.engine

          move : Move
          move = step setup fs m.store (view m a.engine) at a

          sent : (r : Option (LogRecord Body)) → HasMore (append_sent setup a.engine r (with_attempt n move.attempt (record m { store = move.store }))).store → VersionIsPut setup fs m (append_sent setup a.engine r (with_attempt n move.attempt (record m { store = move.store })))
          sent r more =
              let behind : Machine = with_attempt n move.attempt (record m { store = move.store }) in
              version_put (append_sent setup a.engine r behind) (sent_log a.engine r behind refl refl)
              (subst PutBy (sym (sent_store a.engine r behind)) (step_put a (found_among n a m.attempts e) at (ap (λ (s : Store). s.versions) (sym (sent_store a.engine r behind)) ∙ more)))

      by_miss : (n : ℕ) (a : Attempt) → attempt_at n m.attempts ≡ Some a → HasMore (miss_attempt setup fs m (Some a)).machine.store → VersionIsPut setup fs m (miss_attempt setup fs m (Some a)).machine
      by_miss n a e more = version_put (miss_attempt setup fs m (Some a)).machine refl (miss_put a (found_among n a m.attempts e) more)
