-- How many records there are, and how many answers an attempt has: each event adds at most one.
use Rattle.std.proofs.Common.{◌≡◌, ℕ, zero, suc, ◌+◌, ◌-◌, ◌≤◌, ◌<◌, ◌^◌, Bool, true, false, cond, leb, ◌&&◌, List, [], ◌∷◌, ◌++◌, length, Option, Some, None, refl, arith, length-append}
use Rattle.std.specs.Prelude.{replicate, slice_index, IsTrue}
use Rattle.std.specs.List.{AllByRecursion}
use Rattle.std.proofs.lemmas.Bool.{lt-ltb}
use Rattle.boki_types.specs.declared.body.Body.{Body}
use Rattle.boki_types.specs.declared.body.Body.TheVariants as b
use Rattle.boki_types.specs.declared.event.Event.{Event}
use Rattle.boki_types.specs.declared.event.Event.TheVariants as v
use Rattle.boki_types.specs.declared.line.Line.TheVariants as l
use Rattle.boki_types.specs.declared.line.Life.TheVariants.{Killed}
use Rattle.boki_types.specs.declared.plan.Setup.{Setup}
use Rattle.boki_types.specs.declared.program.Function.{Function}
use Rattle.boki_model.specs.Live.{LogRecord, Live}
use Rattle.boki_model.specs.Bodies.{is_u64}
use Rattle.boki_model.specs.Entries.{total}
use Rattle.boki_model.specs.Floor.{trim_limit}
use Rattle.boki_model.specs.Modes.{Switch, least_open, modes}
use Rattle.boki_model.specs.Order.{other_counts, last_vector, progress}
use Rattle.boki_model.specs.OrderLaws.{ShardsHave, add_to}
use Rattle.boki_model.specs.Plans.{is_event}
use Rattle.boki_model.proofs.Cuts.{length_total}
use Rattle.boki_machine.specs.Attempt.{Attempt, Move, next_index}
use Rattle.boki_machine.specs.Step.{function_name, step, is_running, can_lose, after_lose, after_kill}
use Rattle.boki_machine.specs.Machine.{NumberedAttempt, Machine, event_result, initial_machine, log, position, view, home_shard, next_sent, append_to, log_record, unconditional_record, submit_record, first_tag, cut, cuts_nothing, attempt_at, with_attempt, start_attempt, append_sent, apply_move, step_attempt, kill_attempt, lose_record, miss_attempt, end_if_all_ended, send_switch_end, with_aux, set_aux, get_aux, aux_at, aux_of, apply_event, apply_events}
use Rattle.exactly_once.specs.Induction.EventKeeps.{MachineHolds, EventsKeepInvariant}
use Rattle.exactly_once.specs.FurtherLaws.Words.{all_records}
use Rattle.exactly_once.proofs.Log.ListElements.{each_weaker}
use Rattle.exactly_once.proofs.Machines.ExactlyOnce.{opens}
use Rattle.exactly_once.proofs.Machines.EventKeeps.{events_keep}
use Rattle.exactly_once.proofs.Attempts.LostAnswerKeeps.{misses_keep}
use Rattle.exactly_once.proofs.Attempts.StepKeeps.{moves_keep}
use Rattle.exactly_once.proofs.OldVersions.VersionKeeps.{versions_keep}
use Rattle.script_ranges.specs.Asks.{AreFunctions}
use Rattle.script_ranges.specs.Ranged.{AttemptInRange, IsRanged, HasIndex, has_bytes, NumbersHaveRoom, RunsAreRanged}
use Rattle.script_ranges.proofs.Each.{SomeHas}
use Rattle.script_ranges.proofs.Events.{Each_attempt, found_has, set_has, kill_has, events_keep_ranges, opening_is_ranged}
use Rattle.script_ranges.proofs.Steps.{step_is}
use Rattle.script_ranges.proofs.Views.{machine_sees}

-- Records.

module _ {A : Type 0} where
  sent_more : (k : ℕ) (r : A) (shards : List (List A)) → length (all_records (add_to k r shards)) ≤ suc (length (all_records shards))
  sent_more k r [] = omega arith
  sent_more zero r (s ∷ ss) =
      let longer = length-append (s ++ r ∷ []) (all_records ss) in
      let one = length-append s (r ∷ []) in
      let was = length-append s (all_records ss) in
      omega (arith, longer, one, was)
  sent_more (suc k) r (s ∷ ss) =
      let rest = sent_more k r ss in
      let longer = length-append s (all_records (add_to k r ss)) in
      let was = length-append s (all_records ss) in
      omega (arith, rest, longer, was)

  counted_sent : (shards : List (List A)) (v : List ℕ) → ShardsHave shards v → total (length shards) v ≤ length (all_records shards)
  counted_sent [] v have = omega arith
  counted_sent (s ∷ ss) v have =
      let here = have.0 in
      let rest = counted_sent ss (other_counts v) have.1 in
      let longer = length-append s (all_records ss) in
      omega (arith, here, rest, longer)

none_sent : (n : ℕ) → length (all_records {A = LogRecord Body} (replicate n [])) ≡ 0
none_sent zero = refl
none_sent (suc n) = none_sent n

position_within : (n i : ℕ) (ps : List ℕ) → AllByRecursion (λ p. p ≤ n) ps → slice_index ps i ≤ n
position_within n i [] all = omega arith
position_within n zero (p ∷ ps) all = all.0
position_within n (suc i) (p ∷ ps) all = position_within n i ps all.1

abbrev HasFew : ℕ → Attempt → Type 0
HasFew n a = length a.answers ≤ n

-- n events have happened
record IsCounted (n : ℕ) (m : Machine) : Type 0 where
  sent : length (all_records m.shards) ≤ n
  answers : Each_attempt (HasFew n) m.attempts

few_later : (n : ℕ) (xs : List NumberedAttempt) → Each_attempt (HasFew n) xs → Each_attempt (HasFew (suc n)) xs
few_later n xs all = each_weaker (λ x. HasFew n x.attempt) (λ x. HasFew (suc n) x.attempt) (λ x few. omega (arith, few)) xs all

killed_few : (n : ℕ) (a : Attempt) → HasFew n a → HasFew n (after_kill a)
killed_few n a few = at (is_running a.life)
  where
    at : (t : Bool) → HasFew n (cond t (record a { life = Killed }) a)
    at true = few
    at false = few

lost_few : (n : ℕ) (a : Attempt) → HasFew n a → HasFew n (after_lose a)
lost_few n a few = at (can_lose a)
  where
    at : (t : Bool) → HasFew n (cond t (record a { waiting = false }) a)
    at true = few
    at false = few

module _ (setup : Setup) (fs : List Function) (are : AreFunctions fs) (n : ℕ) (small : suc n < 2 ^ 64) (m : Machine) (good : MachineHolds setup fs m) (is : IsRanged fs m) (counted : IsCounted n m) where
  log_few : length (log m) ≤ n
  log_few =
      let all = length_total m.shards m.vectors good.grow good.have in
      let some = counted_sent m.shards (last_vector m.vectors) good.have in
      let most = counted.sent in
      omega (arith, all, some, most)

  log_word : is_u64 (length (log m)) ≡ true
  log_word = let few = log_few in lt-ltb (length (log m)) (2 ^ 64) (omega (arith, few, small))

  position_word : (engine : ℕ) → is_u64 (suc (position m engine)) ≡ true
  position_word engine =
      let few = log_few in
      let within = position_within (length (log m)) (engine - 1) m.positions good.holds.positions in
      lt-ltb (suc (position m engine)) (2 ^ 64) (omega (arith, few, within, small))

  index_word : (o : Option Attempt) → SomeHas (HasFew n) o → HasIndex o
  index_word None has = tt
  index_word (Some a) has = lt-ltb (next_index a.answers) (2 ^ 64) (omega (arith, has, small))

  room : (event : Event) → NumbersHaveRoom m event
  room (v.Step k) = (log_word, index_word (attempt_at k m.attempts) (found_has (HasFew n) k m.attempts counted.answers))
  room (v.Trim engine) = (log_word, position_word engine)
  room _ = tt

  -- and one more
  later : IsCounted (suc n) m
  later = record { sent = (let few = counted.sent in omega (arith, few)); answers = few_later n m.attempts counted.answers }

  one_sent : (shard : ℕ) (r : LogRecord Body) → IsCounted (suc n) (append_to shard r m)
  one_sent shard r = record { sent = (let few = counted.sent in let more = sent_more (shard - 1) r m.shards in omega (arith, few, more)); answers = later.answers }

  moved_few : (k engine : ℕ) (move : Move) → HasFew (suc n) move.attempt → IsCounted (suc n) (apply_move setup m k engine move).machine
  moved_few k engine move few = at move.sends
    where
      at : (r : Option (LogRecord Body)) → IsCounted (suc n) (append_sent setup engine r (with_attempt k move.attempt (record m { store = move.store })))
      at None = record { sent = later.sent; answers = set_has (HasFew (suc n)) k move.attempt m.attempts few later.answers }
      at (Some r) = record {
        sent = (let few = counted.sent in let more = sent_more (home_shard setup engine - 1) r m.shards in omega (arith, few, more));
        answers = set_has (HasFew (suc n)) k move.attempt m.attempts few later.answers;
      }

  steps_few : (k : ℕ) (o : Option Attempt) → SomeHas (AttemptInRange fs) o → SomeHas (HasFew n) o → IsCounted (suc n) (step_attempt setup fs m k o).machine
  steps_few k None one has = later
  steps_few k (Some a) one has =
      let at = next_sent setup m a.engine in
      let moves = step_is fs are (length (log m)) log_word setup a m.store (view m a.engine) at (index_word (Some a) has) one is.store (machine_sees fs m a.engine is) in
      moved_few k a.engine (step setup fs m.store (view m a.engine) at a) (let few = moves.few in omega (arith, few, has))

  attempt_few : (k : ℕ) → SomeHas (HasFew n) (attempt_at k m.attempts)
  attempt_few k = found_has (HasFew n) k m.attempts counted.answers

  cut_few : IsCounted (suc n) (cut m)
  cut_few = at (cuts_nothing m)
    where
      at : (t : Bool) → IsCounted (suc n) (cond t m (record m { vectors = progress m.shards m.counts ∷ m.vectors }))
      at true = later
      at false = record { sent = later.sent; answers = later.answers }

  kills_few : (k : ℕ) (o : Option Attempt) → SomeHas (HasFew n) o → IsCounted (suc n) (kill_attempt m k o).machine
  kills_few k None has = later
  kills_few k (Some a) has = record { sent = later.sent; answers = set_has (HasFew (suc n)) k (after_kill a) m.attempts (killed_few (suc n) a (omega (arith, has))) later.answers }

  loses_few : (k : ℕ) (o : Option Attempt) → SomeHas (HasFew n) o → IsCounted (suc n) (lose_record m k o).machine
  loses_few k None has = later
  loses_few k (Some a) has = record { sent = later.sent; answers = set_has (HasFew (suc n)) k (after_lose a) m.attempts (lost_few (suc n) a (omega (arith, has))) later.answers }

  starts_few : (k : ℕ) (path : List ℕ) (engine : ℕ) (o : Option Attempt) → IsCounted (suc n) (start_attempt m k path engine o).machine
  starts_few k path engine None = record { sent = later.sent; answers = (omega arith, later.answers) }
  starts_few k path engine (Some a) = later

  misses_few : (o : Option Attempt) → IsCounted (suc n) (miss_attempt setup fs m o).machine
  misses_few None = later
  misses_few (Some a) = record { sent = later.sent; answers = later.answers }

  end_few : (engine : ℕ) (path : Option (List ℕ)) → IsCounted (suc n) (end_if_all_ended setup m engine path).machine
  end_few engine None = one_sent (home_shard setup engine) (unconditional_record b.SwitchEnd)
  end_few engine (Some path) = later

  end_switch_few : (engine : ℕ) (seen : List (Live Body)) (s : Option Switch) → IsCounted (suc n) (send_switch_end setup m engine seen s).machine
  end_switch_few engine seen None = later
  end_switch_few engine seen (Some s) = end_few engine (least_open s.begun seen)

  sets_few : (engine seq : ℕ) (text : List ℕ) → IsCounted (suc n) (set_aux m engine seq text).machine
  sets_few engine seq text = at (leb 1 seq && leb seq (position m engine))
    where
      at : (t : Bool) → IsCounted (suc n) (cond t (event_result (with_aux m engine seq text) l.Set) (event_result m l.Absent)).machine
      at true = record { sent = later.sent; answers = later.answers }
      at false = later

  gets_few : (engine seq : ℕ) (o : Option (List ℕ)) → IsCounted (suc n) (get_aux m engine seq o).machine
  gets_few engine seq None = later
  gets_few engine seq (Some text) = record { sent = later.sent; answers = later.answers }

  happens_few : (event : Event) → IsCounted (suc n) (apply_event setup fs m event).machine
  happens_few (v.Submit engine request f args) = one_sent (home_shard setup engine) (submit_record (request ∷ []) (function_name f fs) args)
  happens_few (v.Copy shard replica k) = record { sent = later.sent; answers = later.answers }
  happens_few v.Cut = cut_few
  happens_few (v.Catch engine) = record { sent = later.sent; answers = later.answers }
  happens_few v.Sync = record { sent = cut_few.sent; answers = cut_few.answers }
  happens_few (v.Restart engine) = record { sent = later.sent; answers = kill_has (HasFew (suc n)) engine m.attempts (λ a few. killed_few (suc n) a few) later.answers }
  happens_few (v.Start k path engine) = starts_few k path engine (attempt_at k m.attempts)
  happens_few (v.Step k) = steps_few k (attempt_at k m.attempts) (found_has (AttemptInRange fs) k m.attempts is.attempts) (attempt_few k)
  happens_few (v.Kill k) = kills_few k (attempt_at k m.attempts) (attempt_few k)
  happens_few (v.Lose k) = loses_few k (attempt_at k m.attempts) (attempt_few k)
  happens_few (v.Miss k) = misses_few (attempt_at k m.attempts)
  happens_few (v.Switch engine target) = one_sent (home_shard setup engine) (unconditional_record (b.SwitchBegin target))
  happens_few (v.EndSwitch engine) = end_switch_few engine (view m engine) (modes setup.mode (view m engine)).pending
  happens_few (v.Trim engine) = one_sent (home_shard setup engine) (unconditional_record (b.Trim (trim_limit (position m engine) (view m engine))))
  happens_few (v.Sweep engine) = record { sent = later.sent; answers = later.answers }
  happens_few (v.Append engine tags text) = one_sent (home_shard setup engine) (log_record tags None (b.User text))
  happens_few (v.Cond engine place tags text) = one_sent (home_shard setup engine) (log_record tags (Some (record { tag = first_tag tags; place = place })) (b.User text))
  happens_few (v.TrimTag engine tag upto) = one_sent (home_shard setup engine) (unconditional_record (b.TrimTag tag.0 upto.0))
  happens_few (v.SetAux engine seq text) = sets_few engine seq.0 text
  happens_few (v.GetAux engine seq) = gets_few engine seq.0 (aux_at seq.0 (aux_of m engine))
  happens_few _ = later

-- Any events.

keeps : EventsKeepInvariant
keeps = events_keep (moves_keep versions_keep) (misses_keep versions_keep)

run_ranged :
    (setup : Setup) (fs : List Function) (are : AreFunctions fs) (events : List Event) (n : ℕ) (m : Machine) → AllByRecursion (λ e. IsTrue (is_event setup fs e)) events → AllByRecursion (λ e. IsTrue (has_bytes e)) events
    → n + length events < 2 ^ 64 → MachineHolds setup fs m → IsRanged fs m → IsCounted n m → IsRanged fs (apply_events setup fs events m).machine
run_ranged setup fs are [] n m valid bytes few good is counted = is
run_ranged setup fs are (e ∷ es) n m valid bytes few good is counted =
    let small : suc n < 2 ^ 64 = omega (arith, few) in
    run_ranged setup fs are es (suc n) (apply_event setup fs m e).machine valid.1 bytes.1 (omega (arith, few)) (keeps setup fs m e valid.0 good)
    (events_keep_ranges setup fs m e are valid.0 bytes.0 (room setup fs are n small m good is counted e) is) (happens_few setup fs are n small m good is counted e)

pub runs_are_ranged : RunsAreRanged
runs_are_ranged setup fs objects events are ok valid bytes few =
    run_ranged setup fs are events 0 (initial_machine setup objects) valid bytes (omega (arith, few)) (opens setup fs objects) (opening_is_ranged setup fs objects ok)
    (record { sent = (let none = none_sent setup.shards in omega (arith, none)); answers = tt })
