-- A step of an attempt, and a store call whose answer is lost, are events of the machine.
use Rattle.std.proofs.Common.{◌≡◌, ◌∙◌, ℕ, ◌<◌, ◌^◌, Bool, true, false, cond, eqb, inl, inr, ◌⊎◌, List, [], ◌∷◌, map, reverse, length, Option, Some, None, refl, sym, ap, ap₂, subst, lt-ltb}
use Rattle.std.specs.Prelude.{IsTrue}
use Rattle.std.specs.List.{IsDistinct}
use Rattle.std.specs.Map.{lookup, keys_of, set_value}
use Rattle.boki_types.specs.declared.body.Body.{Body}
use Rattle.boki_types.specs.declared.event.Event.TheVariants as event
use Rattle.boki_types.specs.declared.line.Line.TheVariants as line
use Rattle.boki_types.specs.declared.line.Miss.{Miss}
use Rattle.boki_types.specs.declared.line.StepLine.{StepLine}
use Rattle.boki_types.specs.declared.log.Sent.{Sent}
use Rattle.boki_types.specs.declared.plan.Setup.{Setup}
use Rattle.boki_types.specs.declared.program.Function.{Function}
use Rattle.boki_model.specs.Bodies.{is_u64}
use Rattle.boki_model.specs.Live.{Live, LogRecord}
use Rattle.boki_model.specs.Plans.{is_event}
use Rattle.boki_model.specs.Writes.{Store}
use Rattle.boki_machine.specs.Attempt.{Attempt, Move, next_index}
use Rattle.boki_machine.specs.Step as s
use Rattle.boki_machine.specs.Step.{Missed}
use Rattle.boki_machine.specs.Machine as machine
use Rattle.boki_machine.specs.Machine.{Machine, NumberedAttempt, EventResult, event_result, live_records, attempt_at, set_attempt, with_attempt, append_sent, apply_move, apply_miss, apply_event}
use Rattle.exactly_once.specs.FurtherLaws.Words.{IsAmong}
use Rattle.script_ranges.specs.Ranged.{HasIndex, NumbersHaveRoom}
use Rattle.step_laws.specs.CanStep.{CanStep}
use Rattle.step_laws.specs.Kept.{MachineIsKept, IsTextEvent}
use Rattle.step_laws.proofs.CanStep.{attempts_can_step}
use Rattle.step_laws.proofs.Kept.{events_keep_machine}
use Rattle.book_api.specs.Books.{BookState, ordered, position}
use Rattle.step_log.specs.Sound.{live_bodies, record_of}
use Rattle.attempt_state.specs.declared.state.AttemptState.{AttemptState}
use Rattle.attempt_state.specs.Attempts.{AttemptStandsFor}
use Rattle.attempt_log.specs.Moves.{IsAppendedIfAny}
use Rattle.flow_parts.specs.declared.parts.Parts.{Parts}
use Rattle.flow_parts.specs.Parts.{PartsStandFor}
use Rattle.cluster_events.specs.Machines.{IsBookOf, HasReplicas, PartsAreOf}
use Rattle.cluster_events.proofs.Cuts.{log_length}
use Rattle.cluster_events.proofs.Done.{live_is}
use Rattle.cluster_events.proofs.ReadLines.{position_same, view_same}
use Rattle.cluster_events.proofs.Sends.{next_same, sent_moved}
use Rattle.boki_flow.specs.Flow.{FlowStandsFor, CanFlow, IsMoved, IsMissed, move_of, missed_of}
use Rattle.cluster_run.specs.Clusters.{AttemptsStandFor}
use Rattle.cluster_run.specs.Attempts.{AllAreOf, IsAllDone}
use Rattle.cluster_run.proofs.AttemptEvents.{none_there, one_there, set_stand}

-- an attempt with a number is one of the machine's
among : (n : ℕ) (a : Attempt) (xs : List NumberedAttempt) → attempt_at n xs ≡ Some a → IsAmong a (map (λ (x : NumberedAttempt). x.attempt) xs)
among n a [] e = cc
among n a (x ∷ xs) e = at (among n a xs) (eqb n x.number) e
  where
    at : (attempt_at n xs ≡ Some a → IsAmong a (map (λ (x : NumberedAttempt). x.attempt) xs)) → (t : Bool) → cond t (Some x.attempt) (attempt_at n xs) ≡ Some a
        → (a ≡ x.attempt) ⊎ IsAmong a (map (λ (x : NumberedAttempt). x.attempt) xs)
    at ih true e = inl cc
    at ih false e = inr (ih e)

-- what is set to what is there stays
set_same : (n : ℕ) (v : AttemptState) (es : List (ℕ × AttemptState)) → Some v ≡ lookup (eqb n) es → set_value (eqb n) es v ≡ es
set_same n v [] e = refl
set_same n v (x ∷ es) e = at (set_same n v es) (eqb n x.0) e
  where
    at : (Some v ≡ lookup (eqb n) es → set_value (eqb n) es v ≡ es) → (t : Bool) → Some v ≡ cond t (Some x.1) (lookup (eqb n) es)
        → cond t ((x.0, v) ∷ es) (x ∷ set_value (eqb n) es v) ≡ x ∷ es
    at ih true e = let same : v ≡ x.1 = cc in ap (λ (w : AttemptState). (x.0, w) ∷ es) same
    at ih false e = ap (λ (l : List (ℕ × AttemptState)). x ∷ l) (ih e)

module _ (setup : Setup) (fs : List Function) (m : Machine) (old : Parts) (es : List (ℕ × AttemptState)) (all : AllAreOf setup fs m old es) (n : ℕ) where
  abbrev are : PartsAreOf setup fs m old
  are = all.are

  module _ (a : Attempt) (there : attempt_at n m.attempts ≡ Some a) where
    can : CanStep setup fs m.store (live_bodies old.book) (position old.book a.engine) a
    can =
        subst (λ (records : List (Live Body)). CanStep setup fs m.store records (position old.book a.engine) a) (live_is m old.book are.book)
        (subst (λ p. CanStep setup fs m.store (live_records m) p a) (position_same setup fs m old are a.engine)
        (attempts_can_step setup fs m a are.kept (among n a m.attempts there)))

    pub flows : (v : AttemptState) → AttemptStandsFor fs a v → FlowStandsFor setup fs m.store a old v
    flows v stands = record { parts = are.stand; attempt = stands; can = can }

    abbrev move : Move
    move = move_of setup fs m.store a old

    move_same : s.step setup fs m.store (machine.view m a.engine) (machine.next_sent setup m a.engine) a ≡ move
    move_same = ap₂ (λ (seen : List (Live Body)) (at : Sent). s.step setup fs m.store seen at a) (view_same setup fs m old are a.engine) (next_same setup fs m old are a.engine)

    stepped_is : apply_event setup fs m (event.Step n) ≡ apply_move setup m n a.engine move
    stepped_is = ap (machine.step_attempt setup fs m n) there ∙ ap (apply_move setup m n a.engine) move_same

    abbrev missed : Missed
    missed = missed_of setup fs m.store a old

    missed_is : apply_event setup fs m (event.Miss n) ≡ apply_miss m missed
    missed_is =
        ap (machine.miss_attempt setup fs m) there
        ∙ ap (λ (seen : List (Live Body)). apply_miss m (s.miss setup fs m.store seen a)) (view_same setup fs m old are a.engine)

    module _ (new : Parts) (attempt : Attempt) (store : Store) (stand : PartsStandFor setup store new) where
      abbrev behind : Option (LogRecord Body) → Machine
      behind sends = append_sent setup a.engine sends (with_attempt n attempt (record m { store = store }))

      parts_behind : (sends : Option (LogRecord Body)) → IsAppendedIfAny a.engine sends old.book new.book → MachineIsKept setup fs (behind sends) → PartsAreOf setup fs (behind sends) new
      parts_behind None same kept = record {
        book =
            subst (IsBookOf (behind None)) (sym same)
            (record { shards = are.book.shards; counts = are.book.counts; vectors = are.book.vectors; positions = are.book.positions; aux = are.book.aux });
        replicas = subst (λ (b : BookState). HasReplicas setup b.counts) (sym same) are.replicas;
        stand = stand;
        kept = kept;
      }
      parts_behind (Some r) sent kept =
          let moved = sent_moved setup fs m old are a.engine (record_of r.condition r.holds) r new.book sent.after sent.says stand.kept.sound in
          record {
            book = record { shards = moved.book.shards; counts = moved.book.counts; vectors = moved.book.vectors; positions = moved.book.positions; aux = moved.book.aux };
            replicas = moved.replicas;
            stand = stand;
            kept = kept;
          }

      attempts_behind : (sends : Option (LogRecord Body)) (after : List (ℕ × AttemptState)) → AttemptsStandFor fs (reverse (set_attempt n attempt m.attempts)) after
          → AttemptsStandFor fs (reverse (behind sends).attempts) after
      attempts_behind None after stand = stand
      attempts_behind (Some r) after stand = stand

    module _ (distinct : IsDistinct eqb (keys_of es)) (new : Parts) (after : List (ℕ × AttemptState)) where
      pub step_done :
          (v kept : AttemptState) (told : StepLine) → AttemptStandsFor fs a v → IsTrue (is_event setup fs (event.Step n)) → length (ordered old.book) < 2 ^ 64
          → IsMoved setup fs a.engine move old new kept told → after ≡ set_value (eqb n) es kept → IsAllDone setup fs (event.Step n) m new after (line.Step told)
      step_done v kept told stands valid few moved is =
          let text : IsTextEvent setup fs (event.Step n) = record { valid = valid; bytes = refl; text = tt } in
          let room : NumbersHaveRoom m (event.Step n) = (
            ap is_u64 (log_length m old.book are.book) ∙ lt-ltb (length (ordered old.book)) (2 ^ 64) few,
            subst HasIndex (sym there) (lt-ltb (next_index a.answers) (2 ^ 64) stands.room),
          ) in
          let is_kept = subst (λ (r : EventResult). MachineIsKept setup fs r.machine) stepped_is (events_keep_machine setup fs m (event.Step n) text room are.kept) in
          record {
            line_is = ap line.Step moved.line_is ∙ sym (ap (λ (r : EventResult). r.line) stepped_is);
            all =
                subst (λ (r : EventResult). AllAreOf setup fs r.machine new after) (sym stepped_is)
                (record {
                  are = parts_behind new move.attempt move.store moved.parts move.sends moved.sent is_kept;
                  stand =
                      attempts_behind new move.attempt move.store moved.parts move.sends after
                      (subst (AttemptsStandFor fs (reverse (set_attempt n move.attempt m.attempts))) (sym is) (set_stand fs m es all.stand distinct n move.attempt kept moved.attempt));
                });
            text = text;
          }

    module _ (new : Parts) (after : List (ℕ × AttemptState)) where
      pub miss_done :
          (v kept : AttemptState) (told : Miss) → Some v ≡ lookup (eqb n) es → kept ≡ v → IsTrue (is_event setup fs (event.Miss n))
          → IsMissed setup missed old new told → after ≡ set_value (eqb n) es kept → IsAllDone setup fs (event.Miss n) m new after (line.Missed told)
      miss_done v kept told found same valid did is =
          let text : IsTextEvent setup fs (event.Miss n) = record { valid = valid; bytes = refl; text = tt } in
          let is_kept = subst (λ (r : EventResult). MachineIsKept setup fs r.machine) missed_is (events_keep_machine setup fs m (event.Miss n) text tt are.kept) in
          record {
            line_is = ap line.Missed did.what_is ∙ sym (ap (λ (r : EventResult). r.line) missed_is);
            all =
                subst (λ (r : EventResult). AllAreOf setup fs r.machine new after) (sym missed_is)
                (record {
                  are = record {
                    book =
                        subst (IsBookOf (record m { store = missed.store })) (sym did.book)
                        (record { shards = are.book.shards; counts = are.book.counts; vectors = are.book.vectors; positions = are.book.positions; aux = are.book.aux });
                    replicas = subst (λ (b : BookState). HasReplicas setup b.counts) (sym did.book) are.replicas;
                    stand = did.parts;
                    kept = is_kept;
                  };
                  stand =
                      subst (AttemptsStandFor fs (reverse m.attempts)) (sym (is ∙ ap (set_value (eqb n) es) same ∙ set_same n v es found)) all.stand;
                });
            text = text;
          }

  -- No attempt has the number.
  module _ (distinct : IsDistinct eqb (keys_of es)) (none : None ≡ lookup (eqb n) es) (after : List (ℕ × AttemptState)) (is : after ≡ es) where
    pub step_ignored : IsTrue (is_event setup fs (event.Step n)) → IsAllDone setup fs (event.Step n) m old after line.Ignored
    step_ignored valid =
        let same : apply_event setup fs m (event.Step n) ≡ event_result m line.Ignored = ap (machine.step_attempt setup fs m n) (none_there fs m es all.stand distinct n none) in
        record {
          line_is = sym (ap (λ (r : EventResult). r.line) same);
          all = subst (λ (r : EventResult). AllAreOf setup fs r.machine old after) (sym same) (record { are = are; stand = subst (AttemptsStandFor fs (reverse m.attempts)) (sym is) all.stand });
          text = record { valid = valid; bytes = refl; text = tt };
        }

    pub miss_ignored : IsTrue (is_event setup fs (event.Miss n)) → IsAllDone setup fs (event.Miss n) m old after line.Ignored
    miss_ignored valid =
        let same : apply_event setup fs m (event.Miss n) ≡ event_result m line.Ignored = ap (machine.miss_attempt setup fs m) (none_there fs m es all.stand distinct n none) in
        record {
          line_is = sym (ap (λ (r : EventResult). r.line) same);
          all = subst (λ (r : EventResult). AllAreOf setup fs r.machine old after) (sym same) (record { are = are; stand = subst (AttemptsStandFor fs (reverse m.attempts)) (sym is) all.stand });
          text = record { valid = valid; bytes = refl; text = tt };
        }

  -- The attempt under a number that is kept can flow.
  pub can_flow : (distinct : IsDistinct eqb (keys_of es)) (v : AttemptState) → Some v ≡ lookup (eqb n) es → CanFlow fs old v
  can_flow distinct v found =
      let one = one_there fs m es all.stand distinct n v found in
      record { setup = setup; store = m.store; attempt = one.0; stands = flows one.0 one.1 v one.2 }
