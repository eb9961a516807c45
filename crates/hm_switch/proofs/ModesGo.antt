-- What is kept of modes goes on by a record.
use Rattle.std.proofs.Common.{◌≡◌, ◌⊎◌, inl, inr, ℕ, zero, suc, ◌-◌, ◌<◌, ◌≤◌, Bool, true, false, cond, ltb, List, [], ◌∷◌, ◌++◌, length, get_or, Option, Some, None, is_some, refl, sym, ap, subst, ◌∙◌, arith}
use Rattle.std.specs.List.{AllByRecursion}
use Rattle.std.specs.List.Sorted.{IsPartitionPoint}
use Rattle.std.proofs.lemmas.List.Sorted.{IsNonDecreasingBy-push}
use Rattle.std.proofs.lemmas.Bool.{lt-ltb, le-ltb, cases_lt}
use Rattle.lb_base.specs.declared.value.Mode.{Mode}
use Rattle.boki_types.specs.declared.body.Body.{Body}
use Rattle.boki_model.specs.Live.{Live}
use Rattle.boki_model.specs.LogLaws.{FallBelow}
use Rattle.boki_model.proofs.Logs.{upto_here, upto_skip, upto_all}
use Rattle.boki_model.specs.Modes.{Modes, modes, mode_after, effective_mode, same_mode, begin_switch, all_ended}
use Rattle.boki_machine.specs.Step.{records_below}
use Rattle.log_folds.specs.Opens.{open_invocations, ends_switch_by}
use Rattle.log_folds.proofs.Opens.{are_kept}
use Rattle.hm_switch.specs.declared.marks.Mark.{Mark}
use Rattle.hm_switch.specs.declared.change.Pending.{Pending}
use Rattle.hm_switch.specs.declared.change.Change.{Change}
use Rattle.hm_switch.specs.Marks.{Comes}
use Rattle.hm_switch.specs.Modes.{switch_of, pending_in, mode_below, AreModes}
use Rattle.hm_switch.proofs.Says.{modes_by, switches_by}

-- none yet
pub none_yet : (first : Mode) → AreModes first [] first None []
none_yet first = record { now = refl; earlier = λ seq. refl; ascend = λ i j d le lt. absurd (let f : ⊥ = omega arith in f); within = λ n fall. tt }

below_push : (seq : ℕ) (mode : Mode) (cs : List Change) (c : Change) → mode_below seq mode (cs ++ c ∷ []) ≡ cond (ltb c.seq seq) c.mode (mode_below seq mode cs)
below_push seq mode [] c = refl
below_push seq mode (b ∷ cs) c = below_push seq (cond (ltb b.seq seq) b.mode mode) cs c

all_push : {A : Type 0} (P : A → Type 0) (xs : List A) (y : A) → AllByRecursion P xs → P y → AllByRecursion P (xs ++ y ∷ [])
all_push P [] y all p = (p, tt)
all_push P (x ∷ xs) y all p = (all.0, all_push P xs y all.1 p)

all_weaker : (m n : ℕ) (cs : List Change) → m ≤ n → AllByRecursion (λ (c : Change). c.seq < m) cs → AllByRecursion (λ (c : Change). c.seq < n) cs
all_weaker m n [] le all = tt
all_weaker m n (c ∷ cs) le all = ((let lt = all.0 in omega arith), all_weaker m n cs le all.1)

last_below : (n : ℕ) (cs : List Change) → AllByRecursion (λ (c : Change). c.seq < n) cs → (d : Change) → 0 < length cs → (get_or cs (length cs - 1) d).seq < n
last_below n [] all d lt = absurd (let f : ⊥ = omega arith in f)
last_below n (c ∷ []) all d lt = all.0
last_below n (c ∷ b ∷ cs) all d lt =
    subst (λ i. (get_or (c ∷ b ∷ cs) i d).seq < n) (let e : suc (length (b ∷ cs) - 1) ≡ length (c ∷ b ∷ cs) - 1 = omega arith in e)
    (last_below n (b ∷ cs) all.1 d (omega arith))

-- the records below a seqnum, with one more record
below_here : (seq : ℕ) (x : Live Body) (records : List (Live Body)) → x.seq < seq → records_below seq (x ∷ records) ≡ x ∷ records
below_here seq x records lt = upto_here (seq - 1) x records (omega arith)

below_skip : (seq : ℕ) (x : Live Body) (records : List (Live Body)) → 0 < x.seq → seq ≤ x.seq → records_below seq (x ∷ records) ≡ records_below seq records
below_skip seq x records pos le = upto_skip (seq - 1) x records (omega arith)

module _ (seq : ℕ) (mark : Mark) (first : Mode) (x : Live Body) (records : List (Live Body)) (comes : Comes seq mark x records)
    (current : Mode) (pending : Option Pending) (changes : List Change) (are : AreModes first records current pending changes) where
  fall : FallBelow x.seq records
  fall = subst (λ n. FallBelow n records) (sym comes.seqnum) comes.newest

  positive : 0 < x.seq
  positive = subst (λ n. 0 < n) (sym comes.seqnum) comes.positive

  pub modes_are : modes first (x ∷ records) ≡ modes_by mark x.seq (open_invocations records) (record { current = current; pending = pending_in pending })
  modes_are = switches_by x records first mark comes.says ∙ ap (modes_by mark x.seq (open_invocations records)) are.now

  -- where nothing changes
  pub unchanged : modes_by mark x.seq (open_invocations records) (record { current = current; pending = pending_in pending }) ≡ record { current = current; pending = pending_in pending }
      → AreModes first (x ∷ records) current pending changes
  unchanged same = record {
    now = modes_are ∙ same;
    earlier = λ s. are.earlier s ∙ at s (cases_lt x.seq s);
    ascend = are.ascend;
    within = λ n falls. all_weaker x.seq n changes (let lt = falls.1 in omega arith) (are.within x.seq falls.2);
  }
    where
      still : mode_after first (x ∷ records) ≡ mode_after first records
      still = ap (λ (now : Modes). effective_mode now.pending now.current) (modes_are ∙ same ∙ sym are.now)

      at : (s : ℕ) → (x.seq < s) ⊎ (s ≤ x.seq) → mode_after first (records_below s records) ≡ mode_after first (records_below s (x ∷ records))
      at s (inl lt) = ap (mode_after first) (upto_all x.seq (s - 1) records fall (omega arith)) ∙ sym still ∙ sym (ap (mode_after first) (below_here s x records lt))
      at s (inr le) = sym (ap (mode_after first) (below_skip s x records positive le))

  -- where the mode changes
  pub changed : (new_current : Mode) (new_pending : Option Pending) (mode : Mode) (new_changes : List Change)
      → modes_by mark x.seq (open_invocations records) (record { current = current; pending = pending_in pending }) ≡ record { current = new_current; pending = pending_in new_pending }
      → effective_mode (pending_in new_pending) new_current ≡ mode → new_changes ≡ changes ++ record { seq = seq; mode = mode } ∷ []
      → AreModes first (x ∷ records) new_current new_pending new_changes
  changed new_current new_pending mode new_changes is mode_is pushed = subst (AreModes first (x ∷ records) new_current new_pending) (sym pushed) record {
    now = modes_are ∙ is;
    earlier = λ s. below_push s first changes one ∙ at s (cases_lt seq s);
    ascend = IsNonDecreasingBy-push (λ (c : Change). c.seq) changes one are.ascend (λ d lt. let low = last_below seq changes (are.within seq comes.newest) d lt in omega arith);
    within = λ n falls. all_push (λ (c : Change). c.seq < n) changes one (all_weaker x.seq n changes (let lt = falls.1 in omega arith) (are.within x.seq falls.2)) (let lt = falls.1 in omega (arith, comes.seqnum));
  }
    where
      one : Change
      one = record { seq = seq; mode = mode }

      now_mode : mode_after first (x ∷ records) ≡ mode
      now_mode = ap (λ (now : Modes). effective_mode now.pending now.current) (modes_are ∙ is) ∙ mode_is

      at : (s : ℕ) → (seq < s) ⊎ (s ≤ seq) → cond (ltb seq s) mode (mode_below s first changes) ≡ mode_after first (records_below s (x ∷ records))
      at s (inl lt) = ap (λ t. cond t mode (mode_below s first changes)) (lt-ltb seq s lt) ∙ sym now_mode ∙ sym (ap (mode_after first) (below_here s x records (omega (arith, comes.seqnum))))
      at s (inr le) =
          ap (λ t. cond t mode (mode_below s first changes)) (le-ltb seq s le)
          ∙ are.earlier s
          ∙ sym (ap (mode_after first) (below_skip s x records positive (omega (arith, comes.seqnum))))

-- A SwitchBegin.
module _ (target current : Mode) (seq : ℕ) where
  abbrev Begun : Option Pending → Modes → Type 0
  Begun pending after = begin_switch target seq (record { current = current; pending = pending_in pending }) (pending_in pending) ≡ after

  pub pends_already : (pending : Option Pending) → is_some pending ≡ true → Begun pending (record { current = current; pending = pending_in pending })
  pends_already None some = cc
  pends_already (Some p) some = refl

  pub is_current : (pending : Option Pending) → same_mode target current ≡ true → Begun pending (record { current = current; pending = pending_in pending })
  is_current None same = ap (λ t. cond t (record { current = current; pending = None }) (record { current = current; pending = Some (record { target = target; begun = seq }) })) same
  is_current (Some p) same = refl

  pub pends_now : (pending : Option Pending) → is_some pending ≡ false → same_mode target current ≡ false → (begun : ℕ) → seq ≡ begun
      → Begun pending (record { current = current; pending = Some (record { target = target; begun = begun }) })
  pends_now None none other begun is =
      ap (λ t. cond t (record { current = current; pending = None }) (record { current = current; pending = Some (record { target = target; begun = seq }) })) other
      ∙ ap (λ n. record { current = current; pending = Some (record { target = target; begun = n }) }) is
  pends_now (Some p) none other begun is = cc

-- A SwitchEnd.
module _ (records : List (Live Body)) (current : Mode) where
  abbrev EndsAs : Option Pending → Modes → Type 0
  EndsAs pending after = ends_switch_by (open_invocations records) (record { current = current; pending = pending_in pending }) (pending_in pending) ≡ after

  pub nothing_pends : (pending : Option Pending) → pending ≡ None → EndsAs pending (record { current = current; pending = pending_in pending })
  nothing_pends None is = refl
  nothing_pends (Some p) is = cc

  ending : (p : Pending) (t : Bool) → all_ended p.begun records ≡ t
      → EndsAs (Some p) (cond t (record { current = p.target; pending = None }) (record { current = current; pending = Some (switch_of p) }))
  ending p t is = ap (λ t. cond t (record { current = p.target; pending = None }) (record { current = current; pending = Some (switch_of p) })) (sym ((are_kept records).ended p.begun) ∙ is)

  pub one_is_open : (pending : Option Pending) (p : Pending) → pending ≡ Some p → all_ended p.begun records ≡ false → EndsAs pending (record { current = current; pending = pending_in pending })
  one_is_open pending p is open_one = subst (λ o. EndsAs o (record { current = current; pending = pending_in o })) (sym is) (ending p false open_one)

  pub all_have_ended : (pending : Option Pending) (p : Pending) → pending ≡ Some p → all_ended p.begun records ≡ true → EndsAs pending (record { current = p.target; pending = None })
  all_have_ended pending p is ended = subst (λ o. EndsAs o (record { current = p.target; pending = None })) (sym is) (ending p true ended)

-- A search among the changes.
found_from : (seq : ℕ) (mode : Mode) (cs : List Change) → ((k : ℕ) (d : Change) → k < length cs → ltb (get_or cs k d).seq seq ≡ false) → mode_below seq mode cs ≡ mode
found_from seq mode [] high = refl
found_from seq mode (c ∷ cs) high =
    ap (λ t. mode_below seq (cond t c.mode mode) cs) (high 0 c (omega arith))
    ∙ found_from seq mode cs (λ k d lt. high (suc k) d (omega arith))

pub found : (seq : ℕ) (mode : Mode) (cs : List Change) (i : ℕ) (d : Change) → suc i ≤ length cs
    → ((k : ℕ) (e : Change) → k < suc i → ltb (get_or cs k e).seq seq ≡ true) → ((k : ℕ) (e : Change) → suc i ≤ k → k < length cs → ltb (get_or cs k e).seq seq ≡ false)
    → mode_below seq mode cs ≡ (get_or cs i d).mode
found seq mode [] i d le low high = absurd (let f : ⊥ = omega arith in f)
found seq mode (c ∷ cs) zero d le low high =
    ap (λ t. mode_below seq (cond t c.mode mode) cs) (low 0 c (omega arith))
    ∙ found_from seq c.mode cs (λ k e lt. high (suc k) e (omega arith) (omega arith))
found seq mode (c ∷ cs) (suc i) d le low high =
    ap (λ t. mode_below seq (cond t c.mode mode) cs) (low 0 c (omega arith))
    ∙ found seq c.mode cs i d (omega arith) (λ k e lt. low (suc k) e (omega arith)) (λ k e from lt. high (suc k) e (omega arith) (omega arith))

pub found_none : (seq : ℕ) (mode : Mode) (cs : List Change) → ((k : ℕ) (d : Change) → k < length cs → ltb (get_or cs k d).seq seq ≡ false) → mode_below seq mode cs ≡ mode
found_none = found_from

pub searched_none : (seq : ℕ) (mode : Mode) (cs : List Change) (n : ℕ) → n ≡ 0 → IsPartitionPoint (λ (c : Change). ltb c.seq seq ≡ true) (λ (c : Change). ltb c.seq seq ≡ false) cs n → mode_below seq mode cs ≡ mode
searched_none seq mode cs n is point = found_from seq mode cs (λ k d lt. point.1 k d (omega arith) lt)

pub searched : (seq : ℕ) (mode : Mode) (cs : List Change) (n : ℕ) (d : Change) → 0 < n → n ≤ length cs
    → IsPartitionPoint (λ (c : Change). ltb c.seq seq ≡ true) (λ (c : Change). ltb c.seq seq ≡ false) cs n → mode_below seq mode cs ≡ (get_or cs (n - 1) d).mode
searched seq mode cs n d pos le point = found seq mode cs (n - 1) d (omega arith) (λ k e lt. point.0 k e (omega arith) (omega arith)) (λ k e from lt. point.1 k e (omega arith) lt)
