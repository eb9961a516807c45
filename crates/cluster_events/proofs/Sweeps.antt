-- A sweep of the object store.
use Rattle.std.proofs.Common.{◌≡◌, ◌∙◌, ◌⊎◌, inl, inr, ℕ, suc, ◌≤◌, ◌<◌, ◌&&◌, Bool, true, false, cond, eqb, leb, ltb, List, [], ◌∷◌, ◌++◌, Option, Some, None, option_map, refl, sym, ap, ap₂, subst, append-nil, arith}
use Rattle.std.specs.Option.{option_map_or}
use Rattle.std.proofs.Math.Nat.{le_refl}
use Rattle.std.proofs.lemmas.Bool.{eqb-true, eqb-false, ne_eqb, leb-true, leb-false, le-leb, lt-ltb, le-ltb, ltb-true, ltb-false}
use Rattle.lb_base.specs.declared.value.Record.{Record}
use Rattle.lb_base.specs.declared.value.Value.{Value}
use Rattle.boki_types.specs.declared.body.Body.{Body}
use Rattle.boki_types.specs.declared.body.Body.TheVariants as b
use Rattle.boki_types.specs.declared.event.Event.TheVariants as event
use Rattle.boki_types.specs.declared.line.Line.TheVariants as line
use Rattle.boki_types.specs.declared.plan.Setup.{Setup}
use Rattle.boki_types.specs.declared.program.Function.{Function}
use Rattle.boki_types.specs.declared.store.Name.{Name}
use Rattle.boki_types.specs.declared.store.Settled.{Settled}
use Rattle.boki_model.specs.Floor.{floor, counted_trim}
use Rattle.boki_model.specs.Live.{LogRecord, Live, upto, is_live}
use Rattle.boki_model.specs.Order.{order, at_seq}
use Rattle.boki_model.specs.LogLaws.{FallBelow}
use Rattle.boki_model.specs.Plans.{is_event}
use Rattle.boki_model.specs.Writes.{Store, logged_write, after_sweep, held_count}
use Rattle.boki_model.proofs.Logs.{fall_more}
use Rattle.boki_machine.specs.Machine.{Machine, EventResult, event_result, live_records, apply_event}
use Rattle.boki_machine.specs.Step.{seqnum}
use Rattle.log_folds.specs.Bounds.{record_at}
use Rattle.log_folds.specs.Decoded.{decoded_record}
use Rattle.log_folds.specs.Recorded.{live_at}
use Rattle.log_folds.proofs.Recorded.{of_log}
use Rattle.log_folds.proofs.Said.{is_said}
use Rattle.obj_store.specs.Kept.{StoreState}
use Rattle.obj_store.specs.StandsFor.{StandsFor}
use Rattle.obj_store.specs.Sweeps.{settled_of, logged_between, AllHaveValues}
use Rattle.store_laws.proofs.Told.{swept_have_values}
use Rattle.book_api.specs.Books.{BookState, ordered, position, seen}
use Rattle.step_log.specs.Sound.{body_of, bodies, view, live_bodies}
use Rattle.flow_parts.specs.declared.parts.Parts.{Parts}
use Rattle.machine_laws.specs.Kept.{WritesHaveValues}
use Rattle.step_laws.specs.Kept.{MachineIsKept, IsTextEvent}
use Rattle.hm_switch.specs.SwitchStates.{SwitchState, IsFoldOf, IsCurrent}
use Rattle.hm_switch.proofs.Going.{view_falls}
use Rattle.cluster_events.specs.Machines.{PartsAreOf, IsEventDone}
use Rattle.cluster_events.specs.Writes.{write_in}
use Rattle.cluster_events.proofs.Done.{are_after, kept_after, live_is, store_stands}
use Rattle.cluster_events.proofs.ReadLines.{view_same, live_said}

-- The floor is at most the seqnum of a record.

at_most : (t u : Bool) (w n : ℕ) → (t ≡ true → w ≤ n) → cond (t && u) w 0 ≤ n
at_most true true w n le = le refl
at_most true false w n le = omega arith
at_most false u w n le = omega arith

counted_within : (says : Body) (seq n : ℕ) (past : List (Live Body)) → seq ≤ n → counted_trim says seq past ≤ n
counted_within (b.Trim w) seq n past le = at_most (leb w seq) _ w n (λ is. let low : w ≤ seq = leb-true w seq is in omega (arith, low, le))
counted_within _ seq n past le = omega arith

floor_below : (n : ℕ) (xs : List (Live Body)) → FallBelow (suc n) xs → floor xs ≤ n
floor_below n [] fall = omega arith
floor_below n (x ∷ xs) fall =
    let own : counted_trim x.holds x.seq xs ≤ n = counted_within x.holds x.seq n xs (omega (arith, fall.1)) in
    let rest : floor xs ≤ n = floor_below n xs (fall_more x.seq (suc n) xs (omega (arith, fall.1)) fall.2) in
    omega (arith, own, rest)

-- Which writes are between two seqnums.

write_none : (s t : Bool) (seq : ℕ) (w : Option (List ℕ × (Name × Option Value))) → t ≡ false → settled_of (s && t) seq w ≡ []
write_none true true seq w e = cc
write_none true false seq w e = refl
write_none false t seq w e = refl

module _ (low : ℕ) where
  -- those below a seqnum are seen at a position that is at least as high
  between_seen : (high p : ℕ) (xs : List (Live Body)) → high ≤ p → logged_between low high (upto p xs) ≡ logged_between low high xs
  between_seen high p [] le = refl
  between_seen high p (x ∷ xs) le = at (between_seen high p xs le) (leb x.seq p) refl
    where
      at : logged_between low high (upto p xs) ≡ logged_between low high xs → (t : Bool) → leb x.seq p ≡ t → logged_between low high (cond t (x ∷ xs) (upto p xs)) ≡ logged_between low high (x ∷ xs)
      at ih true e = refl
      at ih false e =
          let over : p < x.seq = leb-false x.seq p e in
          ih ∙ sym (append-nil (logged_between low high xs))
          ∙ ap (λ (s : List Settled). logged_between low high xs ++ s) (sym (write_none (leb low x.seq) (ltb x.seq high) x.seq (logged_write x.holds) (le-ltb x.seq high (omega (arith, over, le)))))

  -- and where all records are below both seqnums they are the same
  between_same : (one other n : ℕ) (xs : List (Live Body)) → FallBelow n xs → n ≤ one → n ≤ other → logged_between low one xs ≡ logged_between low other xs
  between_same one other n [] fall le more = refl
  between_same one other n (x ∷ xs) fall le more =
      ap₂ (λ (s : List Settled) (t : Bool). s ++ settled_of (leb low x.seq && t) x.seq (logged_write x.holds))
      (between_same one other x.seq xs fall.2 (omega (arith, fall.1, le)) (omega (arith, fall.1, more)))
      (lt-ltb x.seq one (omega (arith, fall.1, le)) ∙ sym (lt-ltb x.seq other (omega (arith, fall.1, more))))

  -- none where the second isn't above the first
  pub between_empty : (high : ℕ) (xs : List (Live Body)) → high ≤ low → logged_between low high xs ≡ []
  between_empty high [] le = refl
  between_empty high (x ∷ xs) le =
      ap (λ (s : List Settled). s ++ settled_of (leb low x.seq && ltb x.seq high) x.seq (logged_write x.holds)) (between_empty high xs le)
      ∙ none (leb low x.seq) refl
    where
      none : (t : Bool) → leb low x.seq ≡ t → settled_of (t && ltb x.seq high) x.seq (logged_write x.holds) ≡ []
      none true e =
          let above : low ≤ x.seq = leb-true low x.seq e in
          ap (λ (u : Bool). settled_of u x.seq (logged_write x.holds)) (le-ltb x.seq high (omega (arith, above, le)))
      none false e = refl

  record_none : (n seq : ℕ) (xs : List (Live Body)) → FallBelow n xs → n ≤ seq → record_at seq xs ≡ None
  record_none n seq [] fall le = refl
  record_none n seq (x ∷ xs) fall le =
      ap (λ (t : Bool). cond t (Some x) (record_at seq xs)) (ne_eqb seq x.seq (λ e. omega (arith, e, fall.1, le)))
      ∙ record_none x.seq seq xs fall.2 (omega (arith, fall.1, le))

  -- one seqnum more
  pub between_more : (seq end : ℕ) (xs : List (Live Body)) → FallBelow end xs → low ≤ seq → logged_between low (suc seq) xs ≡ logged_between low seq xs ++ write_in xs seq
  between_more seq end [] fall le = refl
  between_more seq end (x ∷ xs) fall le = at (between_more seq x.seq xs fall.2 le) (eqb seq x.seq) refl
    where
      others : List Settled
      others = logged_between low seq xs

      own : Bool → List Settled
      own t = settled_of (leb low x.seq && t) x.seq (logged_write x.holds)

      nothing : x.seq ≤ seq → logged_between low (suc seq) xs ≡ others
      nothing lt = between_same (suc seq) seq x.seq xs fall.2 (omega (arith, lt)) lt

      -- it is at the seqnum, below it, or above
      here : seq ≡ x.seq → logged_between low (suc seq) xs ++ own (ltb x.seq (suc seq)) ≡ (others ++ own (ltb x.seq seq)) ++ settled_of true seq (logged_write x.holds)
      here e =
          ap₂ (λ (s : List Settled) (t : Bool). s ++ own t) (nothing (omega (arith, e))) (lt-ltb x.seq (suc seq) (omega (arith, e)))
          ∙ ap (λ (t : Bool). others ++ settled_of (t && true) x.seq (logged_write x.holds)) (le-leb low x.seq (omega (arith, e, le)))
          ∙ ap (λ n. others ++ settled_of true n (logged_write x.holds)) (sym e)
          ∙ ap (λ (s : List Settled). s ++ settled_of true seq (logged_write x.holds))
          (sym (append-nil others) ∙ ap (λ (s : List Settled). others ++ s) (sym (write_none (leb low x.seq) (ltb x.seq seq) x.seq (logged_write x.holds) (le-ltb x.seq seq (omega (arith, e))))))

      below : x.seq < seq → logged_between low (suc seq) xs ++ own (ltb x.seq (suc seq)) ≡ (others ++ own (ltb x.seq seq)) ++ write_in xs seq
      below lt =
          ap₂ (λ (s : List Settled) (t : Bool). s ++ own t) (nothing (omega (arith, lt))) (lt-ltb x.seq (suc seq) (omega (arith, lt)) ∙ sym (lt-ltb x.seq seq lt))
          ∙ sym (append-nil (others ++ own (ltb x.seq seq)))
          ∙ ap (λ (o : Option (Live Body)). (others ++ own (ltb x.seq seq)) ++ option_map_or (λ (y : Live Body). settled_of true seq (logged_write y.holds)) o []) (sym (record_none x.seq seq xs fall.2 (omega (arith, lt))))

      above : seq < x.seq → logged_between low (suc seq) xs ≡ others ++ write_in xs seq → logged_between low (suc seq) xs ++ own (ltb x.seq (suc seq)) ≡ (others ++ own (ltb x.seq seq)) ++ write_in xs seq
      above lt ih =
          ap (λ (s : List Settled). logged_between low (suc seq) xs ++ s) (write_none (leb low x.seq) (ltb x.seq (suc seq)) x.seq (logged_write x.holds) (le-ltb x.seq (suc seq) (omega (arith, lt))))
          ∙ append-nil (logged_between low (suc seq) xs)
          ∙ ih
          ∙ ap (λ (s : List Settled). s ++ write_in xs seq)
          (sym (append-nil others) ∙ ap (λ (s : List Settled). others ++ s) (sym (write_none (leb low x.seq) (ltb x.seq seq) x.seq (logged_write x.holds) (le-ltb x.seq seq (omega (arith, lt))))))

      other : logged_between low (suc seq) xs ≡ others ++ write_in xs seq → (seq ≡ x.seq → ⊥) → (t : Bool) → ltb x.seq seq ≡ t
          → logged_between low (suc seq) xs ++ own (ltb x.seq (suc seq)) ≡ (others ++ own (ltb x.seq seq)) ++ write_in xs seq
      other ih ne true e = below (ltb-true x.seq seq e)
      other ih ne false e = let le : seq ≤ x.seq = ltb-false x.seq seq e in above (omega (arith, le, ne)) ih

      at : logged_between low (suc seq) xs ≡ others ++ write_in xs seq → (t : Bool) → eqb seq x.seq ≡ t
          → logged_between low (suc seq) xs ++ own (ltb x.seq (suc seq))
          ≡ (others ++ own (ltb x.seq seq)) ++ option_map_or (λ (y : Live Body). settled_of true seq (logged_write y.holds)) (cond t (Some x) (record_at seq xs)) []
      at ih true e = here (eqb-true seq x.seq e)
      at ih false e = other ih (eqb-false seq x.seq e) (ltb x.seq seq) refl

  -- and at the end all of them
  pub between_all : (seq high : ℕ) (xs : List (Live Body)) → (seq ≤ low) ⊎ (seq ≤ high) → high ≤ seq → logged_between low seq xs ≡ logged_between low high xs
  between_all seq high xs (inl le) more = between_empty seq xs le ∙ sym (between_empty high xs (omega (arith, le, more)))
  between_all seq high xs (inr le) more = let same : seq ≡ high = omega (arith, le, more) in ap (λ n. logged_between low n xs) same

-- The write of the record at a seqnum, by the bytes.
module _ (b : BookState) (engine seq : ℕ) where
  record_is : record_at seq (view b engine) ≡ cond (is_live seq (seen b engine)) (option_map (live_at seq) (option_map (decoded_record body_of) (at_seq seq (ordered b)))) None
  record_is =
      (of_log (order (bodies b) b.vectors) (position b engine)).stands seq
      ∙ ap₂ (λ (t : Bool) (o : Option (LogRecord Body)). cond t (option_map (live_at seq) o) None) (live_said b engine seq) ((is_said body_of b.shards b.vectors).stands seq)

  pub write_dead : is_live seq (seen b engine) ≡ false → write_in (view b engine) seq ≡ []
  write_dead dead =
      ap (λ (o : Option (Live Body)). option_map_or (λ (x : Live Body). settled_of true seq (logged_write x.holds)) o []) record_is
      ∙ ap (λ (t : Bool). option_map_or (λ (x : Live Body). settled_of true seq (logged_write x.holds)) (cond t (option_map (live_at seq) (option_map (decoded_record body_of) (at_seq seq (ordered b)))) None) []) dead

  at_record : (o : Option Record) → option_map_or (λ (x : Live Body). settled_of true seq (logged_write x.holds)) (option_map (live_at seq) (option_map (decoded_record body_of) o)) []
      ≡ option_map_or (λ (r : Record). settled_of true seq (logged_write (body_of r.bytes))) o []
  at_record None = refl
  at_record (Some r) = refl

  pub write_live : is_live seq (seen b engine) ≡ true → write_in (view b engine) seq ≡ option_map_or (λ (r : Record). settled_of true seq (logged_write (body_of r.bytes))) (at_seq seq (ordered b)) []
  write_live lives =
      ap (λ (o : Option (Live Body)). option_map_or (λ (x : Live Body). settled_of true seq (logged_write x.holds)) o []) record_is
      ∙ ap (λ (t : Bool). option_map_or (λ (x : Live Body). settled_of true seq (logged_write x.holds)) (cond t (option_map (live_at seq) (option_map (decoded_record body_of) (at_seq seq (ordered b)))) None) []) lives
      ∙ at_record (at_seq seq (ordered b))

  pub write_there : is_live seq (seen b engine) ≡ true → (r : Record) → at_seq seq (ordered b) ≡ Some r → write_in (view b engine) seq ≡ settled_of true seq (logged_write (body_of r.bytes))
  write_there lives r is = write_live lives ∙ ap (λ (o : Option Record). option_map_or (λ (r : Record). settled_of true seq (logged_write (body_of r.bytes))) o []) is

  pub write_absent : is_live seq (seen b engine) ≡ true → at_seq seq (ordered b) ≡ None → write_in (view b engine) seq ≡ []
  write_absent lives is = write_live lives ∙ ap (λ (o : Option Record). option_map_or (λ (r : Record). settled_of true seq (logged_write (body_of r.bytes))) o []) is

-- A view of switches that is current tells the floor.
pub fold_there : (book : BookState) (engine : ℕ) (s t : SwitchState) → s ≡ t → IsCurrent book engine t → IsFoldOf (view book engine) s
fold_there book engine s t is current = subst (IsFoldOf (view book engine)) (sym is) current.fold

-- The event.

module _ (setup : Setup) (fs : List Function) (m : Machine) (old : Parts) (are : PartsAreOf setup fs m old) (engine : ℕ) (valid : is_event setup fs (event.Sweep engine) ≡ true) where
  abbrev pub bound : ℕ
  bound = floor (view old.book engine)

  text : IsTextEvent setup fs (event.Sweep engine)
  text = record { valid = valid; bytes = refl; text = tt }

  -- the machine's sweep
  abbrev swept_at : ℕ → EventResult
  swept_at low =
      event_result (record m { store = after_sweep low m.store })
      (line.Floor (seqnum (after_sweep low m.store).floor) (held_count (after_sweep low m.store) (live_records m)))

  result_is : apply_event setup fs m (event.Sweep engine) ≡ swept_at bound
  result_is = ap (λ (seen : List (Live Body)). swept_at (floor seen)) (view_same setup fs m old are engine)

  -- what is told of settled writes is all of them
  all_told : logged_between m.store.floor bound (view old.book engine) ≡ logged_between m.store.floor bound (live_records m)
  all_told =
      between_seen m.store.floor bound (position old.book engine) (live_bodies old.book) (floor_below (position old.book engine) (view old.book engine) (view_falls old.book engine))
      ∙ ap (logged_between m.store.floor bound) (sym (live_is m old.book are.book))

  -- the sweep of an object store that stands for the machine's
  module _ (swept : StoreState) (settled : List Settled) (told : settled ≡ logged_between old.store.floor bound (view old.book engine))
      (does : (n : Store) (records : List (Live Body)) → StandsFor old.store n records → settled ≡ logged_between n.floor bound records → AllHaveValues old.store.named settled → StandsFor swept (after_sweep bound n) records) where
    told_all : settled ≡ logged_between m.store.floor bound (live_records m)
    told_all = told ∙ ap (λ n. logged_between n bound (view old.book engine)) (store_stands setup fs m old are).floor ∙ all_told

    swept_stands : StandsFor swept (after_sweep bound m.store) (live_records m)
    swept_stands =
        does m.store (live_records m) (store_stands setup fs m old are) told_all
        (subst (AllHaveValues old.store.named) (sym told_all)
        (swept_have_values old.store m.store (live_records m) m.store.floor bound (store_stands setup fs m old are)
        (subst (WritesHaveValues m.store.named) (sym (live_is m old.book are.book)) are.stand.kept.store.values) (le_refl m.store.floor)))

    abbrev after : Machine
    after = record m { store = after_sweep bound m.store }

    swept_are : PartsAreOf setup fs after (record old { store = swept })
    swept_are =
        are_after setup fs after (record old { store = swept })
        (subst (MachineIsKept setup fs) (ap (λ (r : EventResult). r.machine) result_is) (kept_after setup fs m old are (event.Sweep engine) text tt))
        (record { shards = are.book.shards; counts = are.book.counts; vectors = are.book.vectors; positions = are.book.positions; aux = are.book.aux })
        are.replicas are.stand.kept.sound
        (record {
          shards = are.stand.sizes.shards;
          engines = are.stand.sizes.engines;
          queues = are.stand.sizes.queues;
          txns = are.stand.sizes.txns;
          switches = are.stand.sizes.switches;
        })
        (record { queues = are.stand.folds.queues; txns = are.stand.folds.txns; switches = are.stand.folds.switches })
        swept_stands are.stand.first are.stand.newer

    pub sweep_done :
        (low held : ℕ) → low ≡ swept.floor → ((n : Store) (records : List (Live Body)) → StandsFor swept n records → held ≡ held_count n records)
        → IsEventDone setup fs (event.Sweep engine) m (record old { store = swept }) (line.Floor (seqnum low) held)
    sweep_done low held is counted = record {
      line_is =
          ap₂ (λ (a n : ℕ). line.Floor (seqnum a) n) (is ∙ swept_stands.floor) (counted (after_sweep bound m.store) (live_records m) swept_stands)
          ∙ sym (ap (λ (r : EventResult). r.line) result_is);
      text = text;
      are = subst (λ (n : Machine). PartsAreOf setup fs n (record old { store = swept })) (sym (ap (λ (r : EventResult). r.machine) result_is)) swept_are;
    }

  -- up to a seqnum that is the bound
  pub swept_done :
      (swept : StoreState) (settled : List Settled) (high low held : ℕ) → high ≡ bound → settled ≡ logged_between old.store.floor high (view old.book engine)
      → ((n : Store) (records : List (Live Body)) → StandsFor old.store n records → settled ≡ logged_between n.floor high records → AllHaveValues old.store.named settled → StandsFor swept (after_sweep high n) records)
      → low ≡ swept.floor → ((n : Store) (records : List (Live Body)) → StandsFor swept n records → held ≡ held_count n records)
      → IsEventDone setup fs (event.Sweep engine) m (record old { store = swept }) (line.Floor (seqnum low) held)
  swept_done swept settled high low held e told does =
      sweep_done swept settled (told ∙ ap (λ n. logged_between old.store.floor n (view old.book engine)) e)
      (subst
      (λ (h : ℕ). (n : Store) (records : List (Live Body)) → StandsFor old.store n records → settled ≡ logged_between n.floor h records → AllHaveValues old.store.named settled → StandsFor swept (after_sweep h n) records)
      e does)
      low held
