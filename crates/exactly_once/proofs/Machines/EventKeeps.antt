-- Every event keeps the invariant.
use Rattle.std.proofs.Common.{◌≡◌, inl, inr, ℕ, ◌+◌, ◌-◌, ◌≤◌, Bool, true, false, cond, eqb, leb, ◌&&◌, List, [], ◌∷◌, length, map, Option, Some, None, refl, sym, ◌∙◌, subst, arith}
use Rattle.std.specs.Prelude.{slice_index, slice_set}
use Rattle.std.specs.List.{list_all, AllByRecursion}
use Rattle.std.proofs.lemmas.Bool.{and_parts, leb-true, eqb-false}
use Rattle.lb_base.specs.Path.{is_request, is_path}
use Rattle.lb_base.specs.declared.value.Tag.{Tag}
use Rattle.lb_base.specs.declared.value.Mode.{Mode}
use Rattle.lb_base.specs.declared.value.Value.{Value}
use Rattle.lb_base.specs.declared.value.Cond.{Cond}
use Rattle.boki_types.specs.declared.body.Body.{Body}
use Rattle.boki_types.specs.declared.body.Body.TheVariants as b
use Rattle.boki_types.specs.declared.event.Event.TheVariants as v
use Rattle.boki_types.specs.declared.line.Line.TheVariants as l
use Rattle.boki_types.specs.declared.line.Life.{Life}
use Rattle.boki_types.specs.declared.line.Life.TheVariants.{Running, Over, Stopped, Killed}
use Rattle.boki_types.specs.declared.plan.Setup.{Setup}
use Rattle.boki_types.specs.declared.program.Function.{Function}
use Rattle.boki_model.specs.Live.{LogRecord, Live}
use Rattle.boki_model.specs.Order.{entry_records, last_vector, order, progress}
use Rattle.boki_model.specs.OrderLaws.{AreAtMost, add_to}
use Rattle.boki_model.specs.Modes.{Switch, least_open, modes}
use Rattle.boki_model.specs.Bodies.{is_value}
use Rattle.boki_model.specs.Floor.{trim_limit}
use Rattle.boki_model.specs.Bodies.{is_u64}
use Rattle.boki_model.specs.Plans.{in_bounds, is_attempt, is_from_one_to, is_user_tag, are_user_tags}
use Rattle.boki_model.proofs.Orders.{have_more, order_stays}
use Rattle.boki_machine.specs.Attempt.{Attempt, Move}
use Rattle.boki_machine.specs.Step.{is_running, can_lose, after_kill, after_lose, step, function_name}
use Rattle.boki_machine.specs.Machine.{Machine, NumberedAttempt, log, live_records, view, position, home_shard, next_sent, append_to, unconditional_record, submit_record, log_record, first_tag, after_copy, copied_count, replica_counts, cut, cuts_nothing, catch_up, catch_up_all, attempt_at, set_attempt, with_attempt, runs_on, kill_on, restart_engine, start_attempt, apply_move, append_sent, step_attempt, kill_attempt, lose_record, miss_attempt, sweep_store, end_if_all_ended, send_switch_end, set_aux, get_aux, aux_at, aux_of, with_aux, event_result}
use Rattle.exactly_once.specs.Induction.Invariant.{World, records, IsSentRecord, SeesCursor, IsFollowing, position_of, InvariantHolds}
use Rattle.exactly_once.specs.FurtherLaws.Words.{values_only, IsAmong, all_records}
use Rattle.exactly_once.specs.Induction.OpeningHolds.{world_of}
use Rattle.exactly_once.specs.Induction.StepKeeps.{with_sent, after_move, MoveKeeps, MovesKeepInvariant, MissesKeepInvariant}
use Rattle.exactly_once.specs.Induction.EventKeeps.{MachineHolds, EventsKeepInvariant}
use Rattle.exactly_once.proofs.Log.ListElements.{each_weaker}
use Rattle.exactly_once.proofs.Invariant.MicroSteps.{steps_keep}
use Rattle.exactly_once.proofs.Invariant.QuietEvents.{set_each, following_as, quiet_events_keep, killed_follows}
use Rattle.exactly_once.proofs.Machines.ShardsAndVectors.{among_add, each_add, added_among, at_most_trans, at_most_itself, progress_have, progress_add, progress_copied, resent, orders_all}
use Rattle.exactly_once.proofs.Machines.EnginesStay.{step_stays, seen_set, seen_all, seen_other, within_set, within_all}

-- Lists of attempts.

pub found_among : (n : ℕ) (a : Attempt) (xs : List NumberedAttempt) → attempt_at n xs ≡ Some a → IsAmong a (map (λ x. x.attempt) xs)
found_among n a [] found = cc
found_among n a (x ∷ xs) found = at (found_among n a xs) (eqb n x.number) found
  where
    at : (attempt_at n xs ≡ Some a → IsAmong a (map (λ x. x.attempt) xs)) → (t : Bool) → cond t (Some x.attempt) (attempt_at n xs) ≡ Some a → IsAmong a (map (λ x. x.attempt) (x ∷ xs))
    at ih true found = inl (let same : x.attempt ≡ a = cc in sym same)
    at ih false found = inr (ih found)

abbrev OnEngine : NumberedAttempt → Type 0
OnEngine x = 1 ≤ x.attempt.engine

found_engine : (n : ℕ) (a : Attempt) (xs : List NumberedAttempt) → attempt_at n xs ≡ Some a → AllByRecursion OnEngine xs → 1 ≤ a.engine
found_engine n a [] found all = cc
found_engine n a (x ∷ xs) found all = at (λ e. found_engine n a xs e all.1) (eqb n x.number) found
  where
    at : (attempt_at n xs ≡ Some a → 1 ≤ a.engine) → (t : Bool) → cond t (Some x.attempt) (attempt_at n xs) ≡ Some a → 1 ≤ a.engine
    at ih true found = subst (λ (a : Attempt). 1 ≤ a.engine) (let same : x.attempt ≡ a = cc in same) all.0
    at ih false found = ih found

set_engine : (n : ℕ) (a : Attempt) (xs : List NumberedAttempt) → 1 ≤ a.engine → AllByRecursion OnEngine xs → AllByRecursion OnEngine (set_attempt n a xs)
set_engine n a [] one all = tt
set_engine n a (x ∷ xs) one all =
    elim (eqb n x.number) as (λ t. AllByRecursion OnEngine (cond t (record { number = n; attempt = a } ∷ xs) (x ∷ set_attempt n a xs)))
    [ true ↦ (one, all.1) | false ↦ (all.0, set_engine n a xs one all.1) ]

kill_engine : (t : Bool) (a : Attempt) → 1 ≤ a.engine → 1 ≤ (cond t (record a { life = Killed }) a).engine
kill_engine true a one = one
kill_engine false a one = one

-- what becomes of each attempt where those on an engine are killed
kill_each : (P Q : Attempt → Type 0) (engine : ℕ) (xs : List NumberedAttempt) → ((a : Attempt) → 1 ≤ a.engine → P a → Q (cond (runs_on engine a) (after_kill a) a)) → AllByRecursion OnEngine xs → AllByRecursion P (map (λ x. x.attempt) xs) → AllByRecursion Q (map (λ x. x.attempt) (kill_on engine xs))
kill_each P Q engine [] step on all = tt
kill_each P Q engine (x ∷ xs) step on all = (at (runs_on engine x.attempt) (step x.attempt on.0 all.0), kill_each P Q engine xs step on.1 all.1)
  where
    at : (t : Bool) → Q (cond t (after_kill x.attempt) x.attempt) → Q (cond t (record x { attempt = after_kill x.attempt }) x).attempt
    at true q = q
    at false q = q

kill_engines : (engine : ℕ) (xs : List NumberedAttempt) → AllByRecursion OnEngine xs → AllByRecursion OnEngine (kill_on engine xs)
kill_engines engine [] all = tt
kill_engines engine (x ∷ xs) all = (at (runs_on engine x.attempt), kill_engines engine xs all.1)
  where
    at : (t : Bool) → OnEngine (cond t (record x { attempt = after_kill x.attempt }) x)
    at true = kill_engine (is_running x.attempt.life) x.attempt all.0
    at false = all.0

-- What events send.

module _ (setup : Setup) (fs : List Function) (m : Machine) where
  abbrev Asked : LogRecord Body → Type 0
  Asked r = IsSentRecord setup fs (values_only m.store) m.store.fences (length (log m)) (live_records m) r

  asked_submit : (request : ℕ) (f : List ℕ) (args : List Value) → is_request request ≡ true → Asked (submit_record (request ∷ []) f args)
  asked_submit request f args ok = record { own = record { tags = refl; paths = rw ok }; kind = refl }

  asked_user : (tags : List Tag) (condition : Option Cond) (text : List ℕ) → list_all is_user_tag tags ≡ true → Asked (log_record tags condition (b.User text))
  asked_user tags condition text ok = record { own = record { tags = ok; paths = refl }; kind = tt }

  asked_switch : (target : Mode) → Asked (unconditional_record (b.SwitchBegin target))
  asked_switch target = record { own = record { tags = refl; paths = refl }; kind = tt }

  asked_end : Asked (unconditional_record b.SwitchEnd)
  asked_end = record { own = record { tags = refl; paths = refl }; kind = tt }

  asked_trim : (w : ℕ) → Asked (unconditional_record (b.Trim w))
  asked_trim w = record { own = record { tags = refl; paths = refl }; kind = tt }

  asked_tag : (number upto : ℕ) → Asked (unconditional_record (b.TrimTag number upto))
  asked_tag number upto = record { own = record { tags = refl; paths = refl }; kind = tt }

-- The machine's own parts.

module _ (setup : Setup) (fs : List Function) (m : Machine) (good : MachineHolds setup fs m) where
  -- a record is appended to a shard, where it is among what was sent
  added_holds : (w : World) (k : ℕ) (r : LogRecord Body) → w.log ≡ log m → InvariantHolds setup fs (record w { sent = r ∷ all_records m.shards }) → InvariantHolds setup fs (record w { log = order (add_to k r m.shards) m.vectors; sent = all_records (add_to k r m.shards) })
  added_holds w k r is holds =
      let P = IsSentRecord setup fs (values_only w.store) w.store.fences (length w.log) (records w) in
      let ordered : AllByRecursion (λ x. IsAmong x (all_records (add_to k r m.shards))) w.log =
      subst (AllByRecursion (λ x. IsAmong x (all_records (add_to k r m.shards)))) (sym is)
      (each_weaker (λ x. IsAmong x (all_records m.shards)) (λ x. IsAmong x (all_records (add_to k r m.shards))) (λ x among. among_add x k r m.shards among) (log m) good.holds.ordered) in
      subst (λ l. InvariantHolds setup fs (record w { log = l; sent = all_records (add_to k r m.shards) })) (is ∙ sym (order_stays k r m.shards m.vectors good.grow good.have))
      (resent setup fs (record w { sent = r ∷ all_records m.shards }) (all_records (add_to k r m.shards)) holds (each_add P k r m.shards holds.sent.0 holds.sent.1) ordered)

  sent_holds : (k : ℕ) (r : LogRecord Body) → Asked setup fs m r → InvariantHolds setup fs (record (world_of m) { log = order (add_to k r m.shards) m.vectors; sent = all_records (add_to k r m.shards) })
  sent_holds k r asked = added_holds (world_of m) k r refl ((steps_keep setup fs (world_of m) good.holds).send r asked)

  added_replicas : (k : ℕ) (r : LogRecord Body) → AreAtMost (last_vector m.vectors) (progress (add_to k r m.shards) m.counts)
  added_replicas k r = at_most_trans (last_vector m.vectors) (progress m.shards m.counts) (progress (add_to k r m.shards) m.counts) good.replicas (progress_add k r m.shards m.counts)

  append_holds : (shard : ℕ) (r : LogRecord Body) → Asked setup fs m r → MachineHolds setup fs (append_to shard r m)
  append_holds shard r asked = record {
    holds = sent_holds (shard - 1) r asked;
    grow = good.grow;
    have = have_more (shard - 1) r m.shards (last_vector m.vectors) good.have;
    replicas = added_replicas (shard - 1) r;
    engines = good.engines;
  }

  copies_holds : (shard replica n : ℕ) → MachineHolds setup fs (after_copy m shard replica n)
  copies_holds shard replica n = record {
    holds = good.holds;
    grow = good.grow;
    have = good.have;
    replicas = at_most_trans (last_vector m.vectors) (progress m.shards m.counts) (progress m.shards (slice_set m.counts (shard - 1) (slice_set (replica_counts m shard) (replica - 2) (slice_index (replica_counts m shard) (replica - 2) + n)))) good.replicas
        (progress_copied (shard - 1) (replica - 2) n m.shards m.counts);
    engines = good.engines;
  }

  cut_holds : MachineHolds setup fs (cut m)
  cut_holds =
      elim (cuts_nothing m) as (λ t. MachineHolds setup fs (cond t m (record m { vectors = progress m.shards m.counts ∷ m.vectors }))) [
        | true ↦ good
        | false ↦ record {
          holds = orders_all setup fs (world_of m) (entry_records m.shards (last_vector m.vectors) (progress m.shards m.counts)) good.holds (added_among m.shards (last_vector m.vectors) (progress m.shards m.counts));
          grow = (good.replicas, good.grow);
          have = progress_have m.shards m.counts;
          replicas = at_most_itself (progress m.shards m.counts);
          engines = good.engines;
        }
      ]

  -- positions under which each running attempt sees its cursor
  moves_on : (positions : List ℕ) → AllByRecursion (λ p. p ≤ length (log m)) positions → ((c engine : ℕ) → c ≤ length (log m) → c ≤ position_of m.positions engine → c ≤ position_of positions engine) → MachineHolds setup fs (record m { positions = positions })
  moves_on positions within later = record {
    holds = (steps_keep setup fs (world_of m) good.holds).catch positions within
        (each_weaker (IsFollowing setup fs (values_only m.store) m.store.fences (length (log m)) (live_records m) m.positions) (IsFollowing setup fs (values_only m.store) m.store.fences (length (log m)) (live_records m) positions)
        (λ a is. record { within = is.within; seen = seen a a.life is.within is.seen; follows = is.follows }) (map (λ x. x.attempt) m.attempts) good.holds.attempts);
    grow = good.grow;
    have = good.have;
    replicas = good.replicas;
    engines = good.engines;
  }
    where
      seen : (a : Attempt) (life : Life) → a.cursor ≤ length (log m) → SeesCursor a.cursor (position_of m.positions a.engine) life → SeesCursor a.cursor (position_of positions a.engine) life
      seen a Running le is = later a.cursor a.engine le is
      seen a Over le is = tt
      seen a Stopped le is = tt
      seen a Killed le is = tt

  catch_holds : (engine : ℕ) → MachineHolds setup fs (catch_up engine m)
  catch_holds engine =
      moves_on (slice_set m.positions (engine - 1) (length (log m))) (within_set (length (log m)) (engine - 1) (length (log m)) m.positions (omega arith) good.holds.positions)
      (λ c e le seen. seen_set c (length (log m)) (engine - 1) (e - 1) m.positions le seen)

  all_holds : MachineHolds setup fs (catch_up_all m)
  all_holds = moves_on (map (λ p. length (log m)) m.positions) (within_all (length (log m)) m.positions) (λ c e le seen. seen_all c (length (log m)) (e - 1) m.positions le seen)

  -- a restart kills the attempts of its engine, whose position falls
  abbrev Follow : List ℕ → Attempt → Type 0
  Follow positions = IsFollowing setup fs (values_only m.store) m.store.fences (length (log m)) (live_records m) positions

  reseen : (positions : List ℕ) (a : Attempt) → SeesCursor a.cursor (position_of positions a.engine) a.life → Follow m.positions a → Follow positions a
  reseen positions a seen is = record { within = is.within; seen = seen; follows = is.follows }

  killed_under : (engine : ℕ) → 1 ≤ engine → (a : Attempt) → 1 ≤ a.engine → Follow m.positions a → Follow (slice_set m.positions (engine - 1) 0) (cond (runs_on engine a) (after_kill a) a)
  killed_under engine one a on is = at (runs_on engine a) refl
    where
      dead : Follow (slice_set m.positions (engine - 1) 0) (record a { life = Killed })
      dead = reseen (slice_set m.positions (engine - 1) 0) (record a { life = Killed }) tt (following_as setup fs (values_only m.store) m.store.fences (length (log m)) (live_records m) m.positions a Killed a.waiting tt is)

      still : (life : Life) → (is_running life && eqb engine a.engine) ≡ false → SeesCursor a.cursor (position_of m.positions a.engine) life → SeesCursor a.cursor (position_of (slice_set m.positions (engine - 1) 0) a.engine) life
      still Running e seen =
          subst (λ p. a.cursor ≤ p) (sym (seen_other 0 (engine - 1) (a.engine - 1) m.positions (λ same. eqb-false engine a.engine e (omega (arith, same, one, on))))) seen
      still Over e seen = tt
      still Stopped e seen = tt
      still Killed e seen = tt

      at : (t : Bool) → runs_on engine a ≡ t → Follow (slice_set m.positions (engine - 1) 0) (cond t (after_kill a) a)
      at true e = subst (λ t. Follow (slice_set m.positions (engine - 1) 0) (cond t (record a { life = Killed }) a)) (sym (and_parts (is_running a.life) (eqb engine a.engine) e).0) dead
      at false e = reseen (slice_set m.positions (engine - 1) 0) a (still a.life e is.seen) is

  killed_now : (engine : ℕ) (a : Attempt) → Follow m.positions a → Follow m.positions (cond (runs_on engine a) (after_kill a) a)
  killed_now engine a is =
      elim (runs_on engine a) as (λ t. Follow m.positions (cond t (after_kill a) a)) [ true ↦ killed_follows setup fs (values_only m.store) m.store.fences (length (log m)) (live_records m) m.positions a is | false ↦ is ]

  restart_holds : (engine : ℕ) → 1 ≤ engine → MachineHolds setup fs (restart_engine engine m)
  restart_holds engine one =
      let killed = (steps_keep setup fs (world_of m) good.holds).move (map (λ x. x.attempt) (kill_on engine m.attempts))
      (kill_each (Follow m.positions) (Follow m.positions) engine m.attempts (λ a on is. killed_now engine a is) good.engines good.holds.attempts) in
      record {
        holds = (steps_keep setup fs (record (world_of m) { attempts = map (λ x. x.attempt) (kill_on engine m.attempts) }) killed).catch (slice_set m.positions (engine - 1) 0)
            (within_set (length (log m)) (engine - 1) 0 m.positions (omega arith) good.holds.positions)
            (kill_each (Follow m.positions) (Follow (slice_set m.positions (engine - 1) 0)) engine m.attempts (killed_under engine one) good.engines good.holds.attempts);
        grow = good.grow;
        have = good.have;
        replicas = good.replicas;
        engines = kill_engines engine m.attempts good.engines;
      }

  -- An attempt's step, and a miss.

  abbrev seen : Attempt → List (Live Body)
  seen a = view m a.engine

  move_attempts : (n : ℕ) (a : Attempt) (move : Move) → MoveKeeps setup fs (world_of m) move → InvariantHolds setup fs (record (after_move move (world_of m)) { attempts = map (λ x. x.attempt) (set_attempt n move.attempt m.attempts) })
  move_attempts n a move keeps =
      (steps_keep setup fs (after_move move (world_of m)) keeps.holds).move (map (λ x. x.attempt) (set_attempt n move.attempt m.attempts))
      (set_each (IsFollowing setup fs (values_only move.store) move.store.fences (length (log m)) (live_records m) m.positions) n move.attempt m.attempts keeps.follows keeps.holds.attempts)

  moved_holds : (n engine : ℕ) (a : Attempt) (move : Move) → 1 ≤ move.attempt.engine → MoveKeeps setup fs (world_of m) move → MachineHolds setup fs (apply_move setup m n engine move).machine
  moved_holds n engine a move one keeps = at move.sends refl (move_attempts n a move keeps)
    where
      engines : AllByRecursion OnEngine (set_attempt n move.attempt m.attempts)
      engines = set_engine n move.attempt m.attempts one good.engines

      at :
          (r : Option (LogRecord Body)) → move.sends ≡ r
          → InvariantHolds setup fs (record (world_of m) { store = move.store; sent = with_sent r (all_records m.shards); attempts = map (λ x. x.attempt) (set_attempt n move.attempt m.attempts) })
          → MachineHolds setup fs (append_sent setup engine r (with_attempt n move.attempt (record m { store = move.store })))
      at None e holds = record { holds = holds; grow = good.grow; have = good.have; replicas = good.replicas; engines = engines }
      at (Some r) e holds = record {
        holds = added_holds (record (world_of m) { store = move.store; attempts = map (λ x. x.attempt) (set_attempt n move.attempt m.attempts) }) (home_shard setup engine - 1) r refl holds;
        grow = good.grow;
        have = have_more (home_shard setup engine - 1) r m.shards (last_vector m.vectors) good.have;
        replicas = added_replicas (home_shard setup engine - 1) r;
        engines = engines;
      }

  module _ (moves_keep : MovesKeepInvariant) (misses_keep : MissesKeepInvariant) where
    steps_holds : (n : ℕ) (o : Option Attempt) → attempt_at n m.attempts ≡ o → MachineHolds setup fs (step_attempt setup fs m n o).machine
    steps_holds n None e = good
    steps_holds n (Some a) e =
        let at = next_sent setup m a.engine in
        moved_holds n a.engine a (step setup fs m.store (view m a.engine) at a)
        (subst (λ engine. 1 ≤ engine) (sym (step_stays setup fs a m.store (view m a.engine) at).0) (found_engine n a m.attempts e good.engines))
        (moves_keep setup fs (world_of m) a at good.holds (found_among n a m.attempts e))

    misses_holds : (n : ℕ) (o : Option Attempt) → attempt_at n m.attempts ≡ o → MachineHolds setup fs (miss_attempt setup fs m o).machine
    misses_holds n None e = good
    misses_holds n (Some a) e = record {
      holds = misses_keep setup fs (world_of m) a good.holds (found_among n a m.attempts e);
      grow = good.grow;
      have = good.have;
      replicas = good.replicas;
      engines = good.engines;
    }

  -- Events that send and order nothing.

  start_holds : (n : ℕ) (path : List ℕ) (engine : ℕ) → 1 ≤ engine → (o : Option Attempt) → InvariantHolds setup fs (world_of (start_attempt m n path engine o).machine) → MachineHolds setup fs (start_attempt m n path engine o).machine
  start_holds n path engine one None holds = record { holds = holds; grow = good.grow; have = good.have; replicas = good.replicas; engines = (one, good.engines) }
  start_holds n path engine one (Some a) holds = good

  kill_holds : (n : ℕ) (o : Option Attempt) → attempt_at n m.attempts ≡ o → InvariantHolds setup fs (world_of (kill_attempt m n o).machine) → MachineHolds setup fs (kill_attempt m n o).machine
  kill_holds n None e holds = good
  kill_holds n (Some a) e holds = record { holds = holds; grow = good.grow; have = good.have; replicas = good.replicas; engines = set_engine n (after_kill a) m.attempts (kill_engine (is_running a.life) a (found_engine n a m.attempts e good.engines)) good.engines }

  lose_holds : (n : ℕ) (o : Option Attempt) → attempt_at n m.attempts ≡ o → InvariantHolds setup fs (world_of (lose_record m n o).machine) → MachineHolds setup fs (lose_record m n o).machine
  lose_holds n None e holds = good
  lose_holds n (Some a) e holds = record { holds = holds; grow = good.grow; have = good.have; replicas = good.replicas; engines = set_engine n (after_lose a) m.attempts (at (can_lose a)) good.engines }
    where
      one : 1 ≤ a.engine
      one = found_engine n a m.attempts e good.engines

      at : (t : Bool) → 1 ≤ (cond t (record a { waiting = false }) a).engine
      at true = one
      at false = one

  aux_holds : (engine seq : ℕ) (text : List ℕ) → MachineHolds setup fs (set_aux m engine seq text).machine
  aux_holds engine seq text = at (leb 1 seq && leb seq (position m engine))
    where
      at : (t : Bool) → MachineHolds setup fs (cond t (event_result (with_aux m engine seq text) l.Set) (event_result m l.Absent)).machine
      at true = record { holds = good.holds; grow = good.grow; have = good.have; replicas = good.replicas; engines = good.engines }
      at false = good

  used_holds : (engine seq : ℕ) (o : Option (List ℕ)) → MachineHolds setup fs (get_aux m engine seq o).machine
  used_holds engine seq None = good
  used_holds engine seq (Some text) = record { holds = good.holds; grow = good.grow; have = good.have; replicas = good.replicas; engines = good.engines }

  sweep_holds : (engine : ℕ) → MachineHolds setup fs (sweep_store m engine).machine
  sweep_holds engine = record { holds = quiet_events_keep setup fs m (v.Sweep engine) refl good.holds; grow = good.grow; have = good.have; replicas = good.replicas; engines = good.engines }

  end_holds : (engine : ℕ) (path : Option (List ℕ)) → MachineHolds setup fs (end_if_all_ended setup m engine path).machine
  end_holds engine None = append_holds (home_shard setup engine) (unconditional_record b.SwitchEnd) (asked_end setup fs m)
  end_holds engine (Some path) = good

  end_switch_holds : (engine : ℕ) (records_seen : List (Live Body)) (s : Option Switch) → MachineHolds setup fs (send_switch_end setup m engine records_seen s).machine
  end_switch_holds engine records_seen None = good
  end_switch_holds engine records_seen (Some s) = end_holds engine (least_open s.begun records_seen)

-- the parts of a test
first_part : (a c : Bool) → (a && c) ≡ true → a ≡ true
first_part a c e = (and_parts a c e).0

module _ (moves_keep : MovesKeepInvariant) (misses_keep : MissesKeepInvariant) where
  pub events_keep : EventsKeepInvariant
  events_keep setup fs m (v.Submit engine request f args) ok good =
      let parts = and_parts (is_from_one_to setup.engines engine && is_request request) (list_all is_value args) (first_part _ _ ok) in
      append_holds setup fs m good (home_shard setup engine) (submit_record (request ∷ []) (function_name f fs) args) (asked_submit setup fs m request (function_name f fs) args (and_parts (is_from_one_to setup.engines engine) (is_request request) parts.0).1)
  events_keep setup fs m (v.Copy shard replica n) ok good = copies_holds setup fs m good shard replica (copied_count m shard replica n)
  events_keep setup fs m v.Cut ok good = cut_holds setup fs m good
  events_keep setup fs m (v.Catch engine) ok good = catch_holds setup fs m good engine
  events_keep setup fs m v.Sync ok good = all_holds setup fs (cut m) (cut_holds setup fs m good)
  events_keep setup fs m (v.Restart engine) ok good = restart_holds setup fs m good engine (leb-true 1 engine (and_parts (leb 1 engine) (leb engine setup.engines) ok).0)
  events_keep setup fs m (v.Start n path engine) ok good =
      let range : is_from_one_to setup.engines engine ≡ true = (and_parts (is_attempt n && is_path path) (is_from_one_to setup.engines engine) ok).1 in
      start_holds setup fs m good n path engine (leb-true 1 engine (and_parts (leb 1 engine) (leb engine setup.engines) range).0) (attempt_at n m.attempts) (quiet_events_keep setup fs m (v.Start n path engine) refl good.holds)
  events_keep setup fs m (v.Step n) ok good = steps_holds setup fs m good moves_keep misses_keep n (attempt_at n m.attempts) refl
  events_keep setup fs m (v.Kill n) ok good = kill_holds setup fs m good n (attempt_at n m.attempts) refl (quiet_events_keep setup fs m (v.Kill n) refl good.holds)
  events_keep setup fs m (v.Lose n) ok good = lose_holds setup fs m good n (attempt_at n m.attempts) refl (quiet_events_keep setup fs m (v.Lose n) refl good.holds)
  events_keep setup fs m (v.Miss n) ok good = misses_holds setup fs m good moves_keep misses_keep n (attempt_at n m.attempts) refl
  events_keep setup fs m (v.Switch engine target) ok good = append_holds setup fs m good (home_shard setup engine) (unconditional_record (b.SwitchBegin target)) (asked_switch setup fs m target)
  events_keep setup fs m (v.EndSwitch engine) ok good = end_switch_holds setup fs m good engine (view m engine) (modes setup.mode (view m engine)).pending
  events_keep setup fs m (v.Trim engine) ok good =
      let w = trim_limit (position m engine) (view m engine) in append_holds setup fs m good (home_shard setup engine) (unconditional_record (b.Trim w)) (asked_trim setup fs m w)
  events_keep setup fs m (v.Sweep engine) ok good = sweep_holds setup fs m good engine
  events_keep setup fs m (v.Append engine tags text) ok good =
      let tagged : are_user_tags tags ≡ true = (and_parts (is_from_one_to setup.engines engine) (are_user_tags tags) (first_part _ _ ok)).1 in
      append_holds setup fs m good (home_shard setup engine) (log_record tags None (b.User text)) (asked_user setup fs m tags None text (and_parts (in_bounds 1 8 (length tags)) (list_all is_user_tag tags) tagged).1)
  events_keep setup fs m (v.Cond engine place tags text) ok good =
      let tagged : are_user_tags tags ≡ true = (and_parts (is_from_one_to setup.engines engine && is_u64 place) (are_user_tags tags) (first_part _ _ ok)).1 in
      let condition : Option Cond = Some (record { tag = first_tag tags; place = place }) in
      append_holds setup fs m good (home_shard setup engine) (log_record tags condition (b.User text)) (asked_user setup fs m tags condition text (and_parts (in_bounds 1 8 (length tags)) (list_all is_user_tag tags) tagged).1)
  events_keep setup fs m (v.TrimTag engine tag upto) ok good = append_holds setup fs m good (home_shard setup engine) (unconditional_record (b.TrimTag tag.0 upto.0)) (asked_tag setup fs m tag.0 upto.0)
  events_keep setup fs m (v.SetAux engine seq text) ok good = aux_holds setup fs m good engine seq.0 text
  events_keep setup fs m (v.GetAux engine seq) ok good = used_holds setup fs m good engine seq.0 (aux_at seq.0 (aux_of m engine))
  events_keep setup fs m (v.Next engine tag from) ok good = good
  events_keep setup fs m (v.Prev engine tag upto) ok good = good
  events_keep setup fs m (v.Tail engine tag) ok good = good
  events_keep setup fs m (v.Settled engine shard local) ok good = good
  events_keep setup fs m (v.Seed n) ok good = good
