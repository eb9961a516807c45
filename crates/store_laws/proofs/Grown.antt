-- Stores stand while the list grows.
use Rattle.std.proofs.Common.{◌≡◌, ℕ, suc, ◌≤◌, Bool, true, false, cond, leb, ◌&&◌, List, [], ◌∷◌, ◌++◌, length, Option, Some, None, refl, sym, ap, ◌∙◌, subst, arith}
use Rattle.std.proofs.lemmas.Bool.{le-ltb}
use Rattle.boki_types.specs.declared.body.Body.{Body}
use Rattle.boki_types.specs.declared.event.Event.{Event}
use Rattle.boki_types.specs.declared.event.Event.TheVariants as v
use Rattle.boki_types.specs.declared.line.Line.TheVariants as l
use Rattle.boki_types.specs.declared.plan.Setup.{Setup}
use Rattle.boki_types.specs.declared.program.Function.{Function}
use Rattle.boki_model.specs.Live.{LogRecord, Live, meets_condition, live}
use Rattle.boki_model.specs.Order.{entry_records, last_vector, progress}
use Rattle.boki_model.specs.Modes.{Switch, least_open, modes}
use Rattle.boki_model.specs.Writes.{Store}
use Rattle.boki_model.proofs.Logs.{live_falls}
use Rattle.boki_model.proofs.Orders.{order_stays}
use Rattle.boki_machine.specs.Attempt.{Attempt, Move}
use Rattle.boki_machine.specs.Step.{step}
use Rattle.boki_machine.specs.Machine.{Machine, event_result, log, live_records, position, view, home_shard, next_sent, append_to, cut, cuts_nothing, attempt_at, with_attempt, start_attempt, append_sent, apply_move, step_attempt, kill_attempt, lose_record, miss_attempt, end_if_all_ended, send_switch_end, aux_of, aux_at, with_aux, get_aux, apply_event}
use Rattle.exactly_once.specs.Induction.EventKeeps.{MachineHolds}
use Rattle.obj_store.specs.Kept.{StoreState}
use Rattle.obj_store.specs.Laws.{records_before}
use Rattle.obj_store.specs.StandsFor.{StandsFor}
use Rattle.obj_store.proofs.LawProofs.{records_below}
use Rattle.machine_laws.proofs.Attempts.{floor_is_within}
use Rattle.store_laws.specs.Grown.{CutsLeaveStores, EventsLeaveStores}

-- further records lie above a floor that the list covers
below_grown : (floor : ℕ) (rs log : List (LogRecord Body)) → floor ≤ suc (length log) → records_before floor (live (rs ++ log)) ≡ records_before floor (live log)
below_grown floor [] log le = refl
below_grown floor (r ∷ rs) log le = at (meets_condition r.condition (live (rs ++ log))) (below_grown floor rs log le)
  where
    longer : (rs : List (LogRecord Body)) → length log ≤ length (rs ++ log)
    longer [] = omega arith
    longer (r ∷ rs) = let rest = longer rs in omega (arith, rest)

    at :
        (t : Bool) → records_before floor (live (rs ++ log)) ≡ records_before floor (live log)
        → records_before floor (cond t (record { seq = suc (length (rs ++ log)); tags = r.tags; holds = r.holds } ∷ live (rs ++ log)) (live (rs ++ log))) ≡ records_before floor (live log)
    at true ih =
        let new : Live Body = record { seq = suc (length (rs ++ log)); tags = r.tags; holds = r.holds } in
        ap (λ b. cond b (new ∷ records_before floor (live (rs ++ log))) (records_before floor (live (rs ++ log)))) (le-ltb (suc (length (rs ++ log))) floor (let more = longer rs in omega (arith, le, more))) ∙ ih
    at false ih = ih

stands_grown : (kept : StoreState) (m : Store) (rs log : List (LogRecord Body)) → m.floor ≤ suc (length log) → StandsFor kept m (live log) → StandsFor kept m (live (rs ++ log))
stands_grown kept m rs log le stands = records_below kept m (live log) (live (rs ++ log)) (suc (length (rs ++ log))) stands (live_falls (rs ++ log)) (below_grown m.floor rs log le)

module _ (setup : Setup) (fs : List Function) (m : Machine) (kept : StoreState) (good : MachineHolds setup fs m) where
  cut_leaves : StandsFor kept m.store (live_records m) → StandsFor kept (cut m).store (live_records (cut m))
  cut_leaves stands =
      elim (cuts_nothing m) as (λ t. StandsFor kept (cond t m (record m { vectors = progress m.shards m.counts ∷ m.vectors })).store (live_records (cond t m (record m { vectors = progress m.shards m.counts ∷ m.vectors })))) [
        | true ↦ stands
        | false ↦ stands_grown kept m.store (entry_records m.shards (last_vector m.vectors) (progress m.shards m.counts)) (log m) (let le = floor_is_within setup fs m good in omega (arith, le)) stands
      ]

  -- a machine with the same list
  abbrev Leaves : Machine → Type 0
  Leaves n = StandsFor kept n.store (live_records m) → StandsFor kept n.store (live_records n)

  same_list : (n : Machine) → log n ≡ log m → Leaves n
  same_list n e stands = subst (λ list. StandsFor kept n.store (live list)) (sym e) stands

  append_leaves : (shard : ℕ) (r : LogRecord Body) → Leaves (append_to shard r m)
  append_leaves shard r = same_list (append_to shard r m) (order_stays _ r m.shards m.vectors good.grow good.have)

  cut_store : (cut m).store ≡ m.store
  cut_store = elim (cuts_nothing m) as (λ t. (cond t m (record m { vectors = progress m.shards m.counts ∷ m.vectors })).store ≡ m.store) [ true ↦ refl | false ↦ refl ]

  starts_leave : (n : ℕ) (path : List ℕ) (engine : ℕ) (a : Option Attempt) → Leaves (start_attempt m n path engine a).machine
  starts_leave n path engine None stands = stands
  starts_leave n path engine (Some a) stands = stands

  kills_leave : (n : ℕ) (a : Option Attempt) → Leaves (kill_attempt m n a).machine
  kills_leave n None stands = stands
  kills_leave n (Some a) stands = stands

  loses_leave : (n : ℕ) (a : Option Attempt) → Leaves (lose_record m n a).machine
  loses_leave n None stands = stands
  loses_leave n (Some a) stands = stands

  misses_leave : (a : Option Attempt) → Leaves (miss_attempt setup fs m a).machine
  misses_leave None stands = stands
  misses_leave (Some a) stands = stands

  moved_leaves : (n engine : ℕ) (move : Move) → Leaves (apply_move setup m n engine move).machine
  moved_leaves n engine move = at move.sends
    where
      at : (r : Option (LogRecord Body)) → Leaves (append_sent setup engine r (with_attempt n move.attempt (record m { store = move.store })))
      at None = λ stands. stands
      at (Some r) = same_list (append_sent setup engine (Some r) (with_attempt n move.attempt (record m { store = move.store }))) (order_stays _ r m.shards m.vectors good.grow good.have)

  steps_leave : (n : ℕ) (a : Option Attempt) → Leaves (step_attempt setup fs m n a).machine
  steps_leave n None = λ stands. stands
  steps_leave n (Some a) = moved_leaves n a.engine (step setup fs m.store (view m a.engine) (next_sent setup m a.engine) a)

  end_leaves : (engine : ℕ) (path : Option (List ℕ)) → Leaves (end_if_all_ended setup m engine path).machine
  end_leaves engine None = append_leaves (home_shard setup engine) _
  end_leaves engine (Some path) = λ stands. stands

  switch_leaves : (engine : ℕ) (seen : List (Live Body)) (s : Option Switch) → Leaves (send_switch_end setup m engine seen s).machine
  switch_leaves engine seen None = λ stands. stands
  switch_leaves engine seen (Some s) = end_leaves engine (least_open s.begun seen)

  sets_leave : (engine seq : ℕ) (text : List ℕ) (t : Bool) → Leaves (cond t (event_result (with_aux m engine seq text) l.Set) (event_result m l.Absent)).machine
  sets_leave engine seq text true stands = stands
  sets_leave engine seq text false stands = stands

  gets_leave : (engine seq : ℕ) (o : Option (List ℕ)) → Leaves (get_aux m engine seq o).machine
  gets_leave engine seq None stands = stands
  gets_leave engine seq (Some text) stands = stands

  leaves : (event : Event) → Leaves (apply_event setup fs m event).machine
  leaves (v.Submit engine request f args) = append_leaves (home_shard setup engine) _
  leaves v.Cut = λ stands. cut_leaves (subst (λ s. StandsFor kept s (live_records m)) cut_store stands)
  leaves v.Sync = λ stands. cut_leaves (subst (λ s. StandsFor kept s (live_records m)) cut_store stands)
  leaves (v.Start n path engine) = starts_leave n path engine (attempt_at n m.attempts)
  leaves (v.Step n) = steps_leave n (attempt_at n m.attempts)
  leaves (v.Kill n) = kills_leave n (attempt_at n m.attempts)
  leaves (v.Lose n) = loses_leave n (attempt_at n m.attempts)
  leaves (v.Miss n) = misses_leave (attempt_at n m.attempts)
  leaves (v.Switch engine target) = append_leaves (home_shard setup engine) _
  leaves (v.EndSwitch engine) = switch_leaves engine (view m engine) (modes setup.mode (view m engine)).pending
  leaves (v.Trim engine) = append_leaves (home_shard setup engine) _
  leaves (v.Append engine tags text) = append_leaves (home_shard setup engine) _
  leaves (v.Cond engine place tags text) = append_leaves (home_shard setup engine) _
  leaves (v.TrimTag engine tag upto) = append_leaves (home_shard setup engine) _
  leaves (v.SetAux engine seq text) = sets_leave engine seq.0 text (leb 1 seq.0 && leb seq.0 (position m engine))
  leaves (v.GetAux engine seq) = gets_leave engine seq.0 (aux_at seq.0 (aux_of m engine))
  leaves _ = λ stands. stands

pub cuts_leave_stores : CutsLeaveStores
cuts_leave_stores setup fs m kept good stands = cut_leaves setup fs m kept good stands

pub events_leave_stores : EventsLeaveStores
events_leave_stores setup fs m event kept good stands = leaves setup fs m kept good event stands
