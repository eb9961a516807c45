-- Where no invocation of mode W is unfinished, no version stands at the last step record of a path; so the turns need no versions.
use Rattle.std.proofs.Common.{◌≡◌, ℕ, Bool, true, false, cond, eqb, List, [], ◌∷◌, ◌++◌, length, Option, Some, None, refl, sym, ap, ◌∙◌, subst, arith}
use Rattle.std.specs.Prelude.{is_some}
use Rattle.std.proofs.lemmas.Bool.{eqb-true, eq-eqb}
use Rattle.lb_base.specs.declared.value.Mode.{Mode}
use Rattle.lb_base.specs.declared.value.Mode.TheVariants.{R, W, T}
use Rattle.lb_base.specs.declared.value.Outcome.{Outcome}
use Rattle.boki_types.specs.declared.body.Body.{Body}
use Rattle.boki_types.specs.declared.body.Body.TheVariants as b
use Rattle.boki_types.specs.declared.plan.Setup.{Setup}
use Rattle.boki_types.specs.declared.program.Function.{Function}
use Rattle.boki_types.specs.declared.turn.Turn.TheVariants as t
use Rattle.boki_model.specs.Live.{Live, upto}
use Rattle.boki_model.specs.Bodies.{step_of}
use Rattle.boki_model.specs.Maps.{get}
use Rattle.boki_model.specs.Modes.{result_of, mode_after}
use Rattle.boki_model.specs.Writes.{Store, versions_at}
use Rattle.boki_machine.specs.Step.{records_below}
use Rattle.boki_machine.specs.Decided.{InvocationState}
use Rattle.boki_machine.specs.Machine.{log, live_records}
use Rattle.boki_machine.specs.Turns.{operation_count, turn_of, turns_to, add_next_index}
use Rattle.exactly_once.specs.FurtherLaws.ModesAndFloors.{body_at, BeganInMode}
use Rattle.exactly_once.specs.FurtherLaws.Words.{values_only, versions_with_cursor}
use Rattle.exactly_once.specs.Induction.SoundLogs.{MayStand, StandAt, MayFollow, AllMayFollow}
use Rattle.exactly_once.proofs.Log.HistoryTails.{Tail, here, there}
use Rattle.exactly_once.proofs.Log.MapChanges.{same_itself}
use Rattle.exactly_once.proofs.Log.LiveRecords.{Under, live_under, IsAt, at_some, tail_below}
use Rattle.exactly_once.proofs.Invocations.InitAndCursor.{one_record, has_init}
use Rattle.exactly_once.proofs.Invocations.NextRecord.{stands, Does, does, apart, began, operates, ends, result_is}
use Rattle.legal_logs.specs.Laws.{NoneUnfinished, TurnsNeedNoStore}
use Rattle.legal_logs.proofs.Ahead.{ahead_apart, ahead_own}

-- the live record at a seqnum
held_there : (y : Live Body) (ys : List (Live Body)) (n : ℕ) (zs : List (Live Body)) → Under n zs → Tail (y ∷ ys) zs → body_at y.seq zs ≡ Some y.holds
held_there y ys n zs under here = ap (λ b. cond b (Some y.holds) (body_at y.seq ys)) (eq-eqb y.seq y.seq refl)
held_there y ys n (z ∷ zs) under (there t) = at (held_there y ys under.0 zs under.3 t) (eqb y.seq z.seq) refl
  where
    at : body_at y.seq zs ≡ Some y.holds → (b : Bool) → eqb y.seq z.seq ≡ b → cond b (Some z.holds) (body_at y.seq zs) ≡ Some y.holds
    at rest false e = rest
    at rest true e = absurd (let lt = tail_below n y z ys zs under t in let same = eqb-true y.seq z.seq e in let h : ⊥ = omega (arith, lt, same) in h)

below_there : (y : Live Body) (ys : List (Live Body)) (n : ℕ) (zs : List (Live Body)) → Under n zs → Tail (y ∷ ys) zs → records_below y.seq zs ≡ ys
below_there y ys n zs under t =
    let a : IsAt n y.seq zs y.holds = at_some n y.seq zs y.holds under (held_there y ys n zs under t) in
    let same : y ∷ ys ≡ a.record_there ∷ a.behind = one_record y a.record_there ys a.behind n zs under t a.tail (sym a.seq_is) in
    let rest : ys ≡ a.behind = cc in
    a.below ∙ sym rest

module _ (setup : Setup) (fs : List Function) (store : Store) where
  -- where no step record of a path lies ahead, it is no invocation of mode W that still runs
  abbrev pub AllQuiet : List (List ℕ × ℕ) → List (Live Body) → Type 0
  AllQuiet ahead xs = (q : List ℕ) → get q ahead ≡ None → (stands setup fs store q xs).begun ≡ true → (stands setup fs store q xs).mode ≡ W → (stands setup fs store q xs).result ≡ None → ⊥

  pub quiet_before : (x : Live Body) (xs : List (Live Body)) (ahead : List (List ℕ × ℕ)) → MayFollow setup fs store xs x.holds → AllQuiet ahead (x ∷ xs) → AllQuiet (add_next_index (step_of x.holds) ahead) xs
  quiet_before x xs ahead fits quiet q none = at (stands setup fs store q (x ∷ xs)) (quiet q) (does setup fs store x xs q fits)
    where
      st : InvocationState
      st = stands setup fs store q xs

      own : (i : ℕ) → step_of x.holds ≡ Some (q, i) → ⊥
      own i step = let is = ahead_own q i ahead (step_of x.holds) step in let no_way : Some i ≡ None = sym is ∙ none in cc

      at : (next : InvocationState) → (get q ahead ≡ None → next.begun ≡ true → next.mode ≡ W → next.result ≡ None → ⊥) → Does setup fs store x.seq x.holds xs q next → (stands setup fs store q xs).begun ≡ true → (stands setup fs store q xs).mode ≡ W → (stands setup fs store q xs).result ≡ None → ⊥
      at next still (apart other finish is) begun mode result =
          still (sym (ahead_apart q ahead (step_of x.holds) other) ∙ none) (ap (λ (p : InvocationState). p.begun) is ∙ begun) (ap (λ (p : InvocationState). p.mode) is ∙ mode) (ap (λ (p : InvocationState). p.result) is ∙ result)
      at next still (began body may is) begun mode result = own 1 (ap step_of body)
      at next still (operates i step finish reaches is) begun mode result = own i step
      at next still (ends i outcome body asks is) begun mode result = own i (ap step_of body)

  -- an invocation has begun behind a step record of its own
  pub begun_own : (x : Live Body) (xs : List (Live Body)) (p : List ℕ) (i : ℕ) → MayFollow setup fs store xs x.holds → step_of x.holds ≡ Some (p, i) → (stands setup fs store p (x ∷ xs)).begun ≡ true
  begun_own x xs p i fits step = at (stands setup fs store p (x ∷ xs)) (does setup fs store x xs p fits)
    where
      at : (next : InvocationState) → Does setup fs store x.seq x.holds xs p next → next.begun ≡ true
      at next (apart other finish is) = let no_way : true ≡ false = sym (same_itself p) ∙ other (p, i) step in cc
      at next (began body may is) = ap (λ (p : InvocationState). p.begun) is
      at next (operates j s finish reaches is) = ap (λ (p : InvocationState). p.begun) is ∙ reaches.begun
      at next (ends j outcome body asks is) = ap (λ (p : InvocationState). p.begun) is ∙ asks.reaches.begun

  -- so no version stands at the last step record
  pub none_at_last : (x : Live Body) (xs : List (Live Body)) (ahead : List (List ℕ × ℕ)) (p : List ℕ) (i : ℕ) → AllMayFollow setup fs store (x ∷ xs) → AllQuiet ahead (x ∷ xs) → step_of x.holds ≡ Some (p, i) → get p ahead ≡ None → versions_with_cursor x.seq store.versions ≡ []
  none_at_last x xs ahead p i fit quiet step none =
      at (stands setup fs store p (x ∷ xs)).result (stands setup fs store p (x ∷ xs)).mode (quiet p none (begun_own x xs p i fit.0 step)) (subst (λ o. StandAt setup fs store (x ∷ xs) o (versions_with_cursor x.seq store.versions)) step fit.1)
    where
      at : (r : Option Outcome) (mode : Mode) → (mode ≡ W → r ≡ None → ⊥) → MayStand fs store (x ∷ xs) p (stands setup fs store p (x ∷ xs)) r mode (versions_with_cursor x.seq store.versions) → versions_with_cursor x.seq store.versions ≡ []
      at None W still stand = absurd (still refl refl)
      at None R still stand = stand
      at None T still stand = stand
      at (Some outcome) mode still stand = stand

  pub none_free : (x : Live Body) (xs : List (Live Body)) (ahead : List (List ℕ × ℕ)) (p : List ℕ) (i : ℕ) → AllMayFollow setup fs store (x ∷ xs) → AllQuiet ahead (x ∷ xs) → step_of x.holds ≡ Some (p, i) → get p ahead ≡ None → versions_at x.seq store.versions ≡ 0
  none_free x xs ahead p i fit quiet step none = ap length (none_at_last x xs ahead p i fit quiet step none)

  -- The turns.

  same_until : (next : Option ℕ) (index own free : ℕ) → (next ≡ None → free ≡ 0) → operation_count next index own free ≡ operation_count next index own 0
  same_until None index own free none = ap (operation_count None index own) (none refl)
  same_until (Some j) index own free none = refl

  same_go : (ahead : List (List ℕ × ℕ)) (p : List ℕ) (index own free : ℕ) → (get p ahead ≡ None → free ≡ 0) → t.Go p (operation_count (get p ahead) index own free) ∷ [] ≡ t.Go p (operation_count (get p ahead) index own 0) ∷ []
  same_go ahead p index own free none = ap (λ n. t.Go p n ∷ []) (same_until (get p ahead) index own free none)

  same_turn : (ahead : List (List ℕ × ℕ)) (free : ℕ) (body : Body) → ((p : List ℕ) (i : ℕ) → step_of body ≡ Some (p, i) → get p ahead ≡ None → free ≡ 0) → turn_of fs ahead free body ≡ turn_of fs ahead 0 body
  same_turn ahead free (b.Submit p f args) none = refl
  same_turn ahead free (b.Init p) none = same_go ahead p 1 0 free (none p 1 refl)
  same_turn ahead free (b.Read p i key) none = same_go ahead p i 1 free (none p i refl)
  same_turn ahead free (b.Write p i place key value) none = same_go ahead p i 1 free (none p i refl)
  same_turn ahead free (b.Spawn p i ordinal f args) none = same_go ahead p i 1 free (none p i refl)
  same_turn ahead free (b.Join p i ordinal) none = same_go ahead p i 1 free (none p i refl)
  same_turn ahead free (b.Push p i queue value) none = same_go ahead p i 1 free (none p i refl)
  same_turn ahead free (b.Pop p i queue) none = same_go ahead p i 1 free (none p i refl)
  same_turn ahead free (b.TxnBegin p i names) none = same_go ahead p i 1 free (none p i refl)
  same_turn ahead free (b.TxnCommit p i begin names writes) none = same_go ahead p i 1 free (none p i refl)
  same_turn ahead free (b.Finish p i outcome) none = refl
  same_turn ahead free (b.SwitchBegin target) none = refl
  same_turn ahead free b.SwitchEnd none = refl
  same_turn ahead free (b.Trim w) none = refl
  same_turn ahead free (b.TrimTag number upto) none = refl
  same_turn ahead free (b.User bytes) none = refl
  same_turn ahead free (b.ReadGroup p i keys) none = same_go ahead p i 1 free (none p i refl)

  same_turns : (xs : List (Live Body)) (ahead : List (List ℕ × ℕ)) → AllMayFollow setup fs store xs → AllQuiet ahead xs → turns_to fs ahead store.versions xs ≡ turns_to fs ahead [] xs
  same_turns [] ahead fit quiet = refl
  same_turns (x ∷ xs) ahead fit quiet =
      ap (λ ts. ts ++ turn_of fs ahead (versions_at x.seq store.versions) x.holds) (same_turns xs (add_next_index (step_of x.holds) ahead) fit.2 (quiet_before x xs ahead fit.0 quiet))
      ∙ ap (λ ts. turns_to fs (add_next_index (step_of x.holds) ahead) [] xs ++ ts) (same_turn ahead (versions_at x.seq store.versions) x.holds (λ p i step none. none_free x xs ahead p i fit quiet step none))

  -- where all have ended, they are quiet
  pub all_quiet : (n : ℕ) (xs : List (Live Body)) → Under n xs → AllMayFollow setup fs store xs → NoneUnfinished setup.mode xs → AllQuiet [] xs
  all_quiet n xs under fit ended q none begun mode result =
      let h = has_init setup fs store q n xs under fit begun in
      let is : BeganInMode setup.mode xs q h.init.seq W = record {
        init = held_there h.init h.behind n xs under h.tail ∙ ap Some h.holds_is;
        mode_is = ap (mode_after setup.mode) (below_there h.init h.behind n xs under h.tail) ∙ h.mode_is ∙ mode;
      } in
      let over : is_some (result_of q xs) ≡ true = ended q h.init.seq is in
      let none : result_of q xs ≡ None = sym (result_is setup fs store xs q fit) ∙ result in
      let no_way : false ≡ true = ap is_some (sym none) ∙ over in cc

pub turns_need_no_store : TurnsNeedNoStore
turns_need_no_store setup fs m holds ended =
    same_turns setup fs (values_only m.store) (live_records m) [] holds.sound.fit (all_quiet setup fs (values_only m.store) (length (log m)) (live_records m) (live_under (log m)) holds.sound.fit ended)
