-- Every Trim of a machine counts.
use Rattle.std.proofs.Common.{◌≡◌, ℕ, zero, suc, ◌-◌, ◌≤◌, max, Bool, true, false, cond, leb, ◌&&◌, List, [], ◌∷◌, ◌++◌, length, Option, Some, None, refl, sym, ap, ◌∙◌, subst, arith}
use Rattle.std.specs.Prelude.{is_some, replicate, slice_index, IsTrue}
use Rattle.std.specs.List.{AllByRecursion}
use Rattle.boki_types.specs.declared.body.Body.{Body}
use Rattle.boki_types.specs.declared.body.Body.TheVariants as b
use Rattle.boki_types.specs.declared.event.Event.{Event}
use Rattle.boki_types.specs.declared.event.Event.TheVariants as v
use Rattle.boki_types.specs.declared.line.Line.TheVariants as line
use Rattle.boki_types.specs.declared.plan.Setup.{Setup}
use Rattle.boki_types.specs.declared.program.Function.{Function}
use Rattle.boki_model.specs.Live.{LogRecord, Live, meets_condition, live, upto}
use Rattle.boki_model.specs.Bodies.{step_of}
use Rattle.boki_model.specs.Order.{entry_records, last_vector, order, progress}
use Rattle.boki_model.specs.OrderLaws.{add_to}
use Rattle.boki_model.specs.Floor.{counted_trim, floor, trim_limit}
use Rattle.boki_model.specs.Modes.{Switch, least_open, modes}
use Rattle.boki_model.specs.Plans.{is_event}
use Rattle.boki_model.proofs.Orders.{order_stays}
use Rattle.boki_machine.specs.Attempt.{Attempt, Move}
use Rattle.boki_machine.specs.Step.{step, function_name}
use Rattle.boki_machine.specs.Machine.{Machine, event_result, log, live_records, view, position, home_shard, next_sent, append_to, log_record, unconditional_record, submit_record, first_tag, cut, cuts_nothing, attempt_at, with_attempt, start_attempt, append_sent, apply_move, step_attempt, kill_attempt, lose_record, miss_attempt, end_if_all_ended, send_switch_end, with_aux, aux_of, aux_at, set_aux, get_aux, initial_machine, apply_event, apply_events}
use Rattle.exactly_once.specs.Induction.EventKeeps.{MachineHolds, EventsKeepInvariant}
use Rattle.exactly_once.specs.FurtherLaws.Words.{IsAmong, all_records}
use Rattle.exactly_once.specs.FurtherLaws.AnyEvents.{AfterEvents}
use Rattle.exactly_once.proofs.Log.HistoryTails.{Tail, here, there}
use Rattle.exactly_once.proofs.Log.ListElements.{each_weaker}
use Rattle.exactly_once.proofs.Machines.ExactlyOnce.{opens}
use Rattle.exactly_once.proofs.Invocations.InitAndCursor.{upto_tail}
use Rattle.exactly_once.proofs.Invariant.OrderedRecord.{among_each}
use Rattle.exactly_once.proofs.Machines.SentRecords.{SendsStep, step_sends}
use Rattle.exactly_once.proofs.Machines.ShardsAndVectors.{each_add, added_among}
use Rattle.switch_laws.proofs.Ended.{longer, upto_since}
use Rattle.switch_laws.proofs.Trims.{trimmed_counts}
use Rattle.machine_laws.specs.Trims.{bound_of, greatest_bound, AllCount, IsChosen, ChoseBound, TrimsAreChosen, OpeningIsChosen, EventsKeepChosen, FloorIsGreatest, ChosenCount, EveryTrimCounts}

-- A bound that was chosen stays so, while the list goes on.

chosen_on : (since log : List (LogRecord Body)) (w : ℕ) → IsChosen log w → IsChosen (since ++ log) w
chosen_on since log w is = record {
  position = is.position;
  within = (let le = is.within in let more = longer since log in omega (arith, le, more));
  chosen = is.chosen ∙ ap (trim_limit is.position) (sym (upto_since since log is.position is.within));
}

bound_on : (since log : List (LogRecord Body)) (body : Body) → ChoseBound log body → ChoseBound (since ++ log) body
bound_on since log (b.Trim w) is = chosen_on since log w is
bound_on since log _ is = tt

-- and counts where it is ordered
bound_counts : (since log : List (LogRecord Body)) (body : Body) → ChoseBound log body → counted_trim body (suc (length (since ++ log))) (live (since ++ log)) ≡ bound_of body
bound_counts since log (b.Trim w) is =
    let law = trimmed_counts log since is.position is.within in
    ap (λ w. counted_trim (b.Trim w) (suc (length (since ++ log))) (live (since ++ log))) is.chosen ∙ law.counts ∙ sym is.chosen
bound_counts since log _ is = refl

all_count : (since log : List (LogRecord Body)) → AllByRecursion (λ r. ChoseBound log r.holds) since → AllCount (live log) → AllCount (live (since ++ log))
all_count [] log each count = count
all_count (r ∷ since) log each count = at (meets_condition r.condition (live (since ++ log))) (all_count since log each.1 count)
  where
    now : List (Live Body)
    now = live (since ++ log)

    at : (t : Bool) → AllCount now → AllCount (cond t (record { seq = suc (length (since ++ log)); tags = r.tags; holds = r.holds } ∷ now) now)
    at true rest = (bound_counts since log r.holds each.0, rest)
    at false rest = rest

-- What a step sends is no Trim.

abbrev SomeChosen : List (LogRecord Body) → Option (LogRecord Body) → Type 0
SomeChosen log None = Unit {0}
SomeChosen log (Some r) = ChoseBound log r.holds

step_chose : (log : List (LogRecord Body)) (body : Body) → is_some (step_of body) ≡ true → ChoseBound log body
step_chose log (b.Trim w) step = let no_way : false ≡ true = step in cc
step_chose log _ step = tt

sent_chose : (log : List (LogRecord Body)) (r : Option (LogRecord Body)) → SendsStep r → SomeChosen log r
sent_chose log None sends = tt
sent_chose log (Some r) sends = step_chose log r.holds sends

-- The events.

abbrev Chose : List (LogRecord Body) → LogRecord Body → Type 0
Chose log r = ChoseBound log r.holds

module _ (setup : Setup) (fs : List Function) (m : Machine) (good : MachineHolds setup fs m) (are : TrimsAreChosen m) where
  -- a record is added to a shard
  added_chosen : (n : Machine) (k : ℕ) (r : LogRecord Body) → n.shards ≡ add_to k r m.shards → n.vectors ≡ m.vectors → ChoseBound (log m) r.holds → TrimsAreChosen n
  added_chosen n k r shards vectors one =
      let same : log n ≡ log m = (λ i. order (shards i) (vectors i)) ∙ order_stays k r m.shards m.vectors good.grow good.have in
      record {
        sent =
            subst (λ log. AllByRecursion (Chose log) (all_records n.shards)) (sym same)
            (subst (λ ss. AllByRecursion (Chose (log m)) (all_records ss)) (sym shards) (each_add (Chose (log m)) k r m.shards one are.sent));
        ordered = subst (λ log. AllCount (live log)) (sym same) are.ordered;
      }

  append_chosen : (shard : ℕ) (r : LogRecord Body) → ChoseBound (log m) r.holds → TrimsAreChosen (append_to shard r m)
  append_chosen shard r one = added_chosen (append_to shard r m) (shard - 1) r refl refl one

  -- a cut orders more
  cut_chosen : TrimsAreChosen (cut m)
  cut_chosen = elim (cuts_nothing m) as (λ t. TrimsAreChosen (cond t m (record m { vectors = progress m.shards m.counts ∷ m.vectors }))) [ true ↦ are | false ↦ more ]
    where
      new : List (LogRecord Body)
      new = entry_records m.shards (last_vector m.vectors) (progress m.shards m.counts)

      each : AllByRecursion (Chose (log m)) new
      each =
          each_weaker (λ x. IsAmong x (all_records m.shards)) (Chose (log m)) (λ x is. among_each (Chose (log m)) x (all_records m.shards) is are.sent) new
          (added_among m.shards (last_vector m.vectors) (progress m.shards m.counts))

      more : TrimsAreChosen (record m { vectors = progress m.shards m.counts ∷ m.vectors })
      more = record {
        sent = each_weaker (Chose (log m)) (Chose (new ++ log m)) (λ r is. bound_on new (log m) r.holds is) (all_records m.shards) are.sent;
        ordered = all_count new (log m) each are.ordered;
      }

  starts_chosen : (n : ℕ) (path : List ℕ) (engine : ℕ) (a : Option Attempt) → TrimsAreChosen (start_attempt m n path engine a).machine
  starts_chosen n path engine None = record { sent = are.sent; ordered = are.ordered }
  starts_chosen n path engine (Some a) = are

  kills_chosen : (n : ℕ) (a : Option Attempt) → TrimsAreChosen (kill_attempt m n a).machine
  kills_chosen n None = are
  kills_chosen n (Some a) = record { sent = are.sent; ordered = are.ordered }

  loses_chosen : (n : ℕ) (a : Option Attempt) → TrimsAreChosen (lose_record m n a).machine
  loses_chosen n None = are
  loses_chosen n (Some a) = record { sent = are.sent; ordered = are.ordered }

  sets_chosen : (engine seq : ℕ) (text : List ℕ) → TrimsAreChosen (set_aux m engine seq text).machine
  sets_chosen engine seq text =
      elim (leb 1 seq && leb seq (position m engine)) as (λ t. TrimsAreChosen (cond t (event_result (with_aux m engine seq text) line.Set) (event_result m line.Absent)).machine)
      [ true ↦ record { sent = are.sent; ordered = are.ordered } | false ↦ are ]

  gets_chosen : (engine seq : ℕ) (found : Option (List ℕ)) → TrimsAreChosen (get_aux m engine seq found).machine
  gets_chosen engine seq None = are
  gets_chosen engine seq (Some text) = record { sent = are.sent; ordered = are.ordered }

  moved_chosen : (n engine : ℕ) (move : Move) → SomeChosen (log m) move.sends → TrimsAreChosen (apply_move setup m n engine move).machine
  moved_chosen n engine move is = at move.sends is
    where
      at : (r : Option (LogRecord Body)) → SomeChosen (log m) r → TrimsAreChosen (append_sent setup engine r (with_attempt n move.attempt (record m { store = move.store })))
      at None is = record { sent = are.sent; ordered = are.ordered }
      at (Some r) is = added_chosen (append_sent setup engine (Some r) (with_attempt n move.attempt (record m { store = move.store }))) (home_shard setup engine - 1) r refl refl is

  steps_chosen : (n : ℕ) (a : Option Attempt) → TrimsAreChosen (step_attempt setup fs m n a).machine
  steps_chosen n None = are
  steps_chosen n (Some a) =
      moved_chosen n a.engine (step setup fs m.store (view m a.engine) (next_sent setup m a.engine) a) (sent_chose (log m) _ (step_sends setup fs a m.store (view m a.engine) (next_sent setup m a.engine)))

  misses_chosen : (a : Option Attempt) → TrimsAreChosen (miss_attempt setup fs m a).machine
  misses_chosen None = are
  misses_chosen (Some a) = record { sent = are.sent; ordered = are.ordered }

  end_chosen : (engine : ℕ) (path : Option (List ℕ)) → TrimsAreChosen (end_if_all_ended setup m engine path).machine
  end_chosen engine None = append_chosen (home_shard setup engine) (unconditional_record b.SwitchEnd) tt
  end_chosen engine (Some path) = are

  switch_chosen : (engine : ℕ) (seen : List (Live Body)) (s : Option Switch) → TrimsAreChosen (send_switch_end setup m engine seen s).machine
  switch_chosen engine seen None = are
  switch_chosen engine seen (Some s) = end_chosen engine (least_open s.begun seen)

  -- an engine's position is within the list
  positions_within : (ps : List ℕ) (i : ℕ) → AllByRecursion (λ p. p ≤ length (log m)) ps → slice_index ps i ≤ length (log m)
  positions_within [] i all = omega arith
  positions_within (p ∷ ps) zero all = all.0
  positions_within (p ∷ ps) (suc i) all = positions_within ps i all.1

  its_bound : (engine : ℕ) → IsChosen (log m) (trim_limit (position m engine) (view m engine))
  its_bound engine = record { position = position m engine; within = positions_within m.positions (engine - 1) good.holds.positions; chosen = refl }

pub events_keep_chosen : EventsKeepChosen
events_keep_chosen setup fs m (v.Submit engine request f args) good are = append_chosen setup fs m good are (home_shard setup engine) (submit_record (request ∷ []) (function_name f fs) args) tt
events_keep_chosen setup fs m (v.Copy shard replica n) good are = record { sent = are.sent; ordered = are.ordered }
events_keep_chosen setup fs m v.Cut good are = cut_chosen setup fs m good are
events_keep_chosen setup fs m (v.Catch engine) good are = record { sent = are.sent; ordered = are.ordered }
events_keep_chosen setup fs m v.Sync good are = let rest = cut_chosen setup fs m good are in record { sent = rest.sent; ordered = rest.ordered }
events_keep_chosen setup fs m (v.Restart engine) good are = record { sent = are.sent; ordered = are.ordered }
events_keep_chosen setup fs m (v.Start n path engine) good are = starts_chosen setup fs m good are n path engine (attempt_at n m.attempts)
events_keep_chosen setup fs m (v.Step n) good are = steps_chosen setup fs m good are n (attempt_at n m.attempts)
events_keep_chosen setup fs m (v.Kill n) good are = kills_chosen setup fs m good are n (attempt_at n m.attempts)
events_keep_chosen setup fs m (v.Lose n) good are = loses_chosen setup fs m good are n (attempt_at n m.attempts)
events_keep_chosen setup fs m (v.Miss n) good are = misses_chosen setup fs m good are (attempt_at n m.attempts)
events_keep_chosen setup fs m (v.Switch engine target) good are = append_chosen setup fs m good are (home_shard setup engine) (unconditional_record (b.SwitchBegin target)) tt
events_keep_chosen setup fs m (v.EndSwitch engine) good are = switch_chosen setup fs m good are engine (view m engine) (modes setup.mode (view m engine)).pending
events_keep_chosen setup fs m (v.Trim engine) good are =
    append_chosen setup fs m good are (home_shard setup engine) (unconditional_record (b.Trim (trim_limit (position m engine) (view m engine)))) (its_bound setup fs m good are engine)
events_keep_chosen setup fs m (v.Sweep engine) good are = record { sent = are.sent; ordered = are.ordered }
events_keep_chosen setup fs m (v.Append engine tags text) good are = append_chosen setup fs m good are (home_shard setup engine) (log_record tags None (b.User text)) tt
events_keep_chosen setup fs m (v.Cond engine place tags text) good are =
    append_chosen setup fs m good are (home_shard setup engine) (log_record tags (Some (record { tag = first_tag tags; place = place })) (b.User text)) tt
events_keep_chosen setup fs m (v.TrimTag engine tag upto) good are = append_chosen setup fs m good are (home_shard setup engine) (unconditional_record (b.TrimTag tag.0 upto.0)) tt
events_keep_chosen setup fs m (v.SetAux engine seq text) good are = sets_chosen setup fs m good are engine seq.0 text
events_keep_chosen setup fs m (v.GetAux engine seq) good are = gets_chosen setup fs m good are engine seq.0 (aux_at seq.0 (aux_of m engine))
events_keep_chosen setup fs m _ good are = are

no_records : {A : Type 0} (n : ℕ) → all_records {A = A} (replicate n []) ≡ []
no_records zero = refl
no_records (suc n) = no_records n

pub opening_is_chosen : OpeningIsChosen
opening_is_chosen setup objects = record { sent = subst (AllByRecursion (Chose [])) (sym (no_records setup.shards)) tt; ordered = tt }

-- The floor.

greatest : (xs : List (Live Body)) → AllCount xs → floor xs ≡ greatest_bound xs
greatest [] count = refl
greatest (x ∷ xs) count = λ i. max (count.0 i) (greatest xs count.1 i)

count_tail : (xs ys : List (Live Body)) → Tail xs ys → AllCount ys → AllCount xs
count_tail xs ys here count = count
count_tail xs (y ∷ ys) (there t) count = count_tail xs ys t count.1

is_greatest : (xs : List (Live Body)) → AllCount xs → FloorIsGreatest xs
is_greatest xs count = record { count = count; floor_is = greatest xs count }

pub chosen_count : ChosenCount
chosen_count m are = record {
  whole = is_greatest (live_records m) are.ordered;
  seen = λ engine. is_greatest (view m engine) (count_tail (view m engine) (live_records m) (upto_tail (position m engine) (live_records m)) are.ordered);
}

-- After any events.

run_chosen : EventsKeepInvariant → (setup : Setup) (fs : List Function) (es : List Event) (m : Machine) → AllByRecursion (λ e. IsTrue (is_event setup fs e)) es → MachineHolds setup fs m → TrimsAreChosen m → TrimsAreChosen (apply_events setup fs es m).machine
run_chosen keep setup fs [] m all good are = are
run_chosen keep setup fs (e ∷ es) m all good are =
    run_chosen keep setup fs es (apply_event setup fs m e).machine all.1 (keep setup fs m e all.0 good) (events_keep_chosen setup fs m e good are)

pub trims_count : EventsKeepInvariant → AfterEvents EveryTrimCounts
trims_count keep setup fs objects events all =
    chosen_count (apply_events setup fs events (initial_machine setup objects)).machine
    (run_chosen keep setup fs events (initial_machine setup objects) all (opens setup fs objects) (opening_is_chosen setup objects))
