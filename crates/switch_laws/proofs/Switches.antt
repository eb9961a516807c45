-- The first SwitchEnd ends a switch below which all have ended.
use Rattle.std.proofs.Common.{◌≡◌, ◌⊎◌, inl, inr, ⊎_elim, ℕ, suc, ◌<◌, ◌≤◌, Bool, true, false, cond, leb, ◌||◌, List, [], ◌∷◌, ◌++◌, length, Option, Some, None, refl, sym, ap, ◌∙◌, subst, arith}
use Rattle.std.proofs.lemmas.Bool.{leb-false}
use Rattle.lb_base.specs.declared.value.Mode.{Mode}
use Rattle.boki_types.specs.declared.body.Body.{Body}
use Rattle.boki_types.specs.declared.body.Body.TheVariants as b
use Rattle.boki_model.specs.Live.{LogRecord, Live, meets_condition, live, upto}
use Rattle.boki_model.specs.LogLaws.{FallBelow}
use Rattle.boki_model.specs.Modes.{Switch, Modes, same_mode, all_ended, begin_switch, end_switch, apply_to_modes, modes}
use Rattle.boki_model.proofs.Logs.{live_falls}
use Rattle.switch_laws.specs.Switches.{is_switch_end, ended_since, IsEnd, EndedSwitchesEnd}
use Rattle.switch_laws.proofs.Ended.{NoneOpen, ended_all, all_none, none_upto, upto_falls, longer, upto_since}

-- What one record does to the pending switch.

abbrev begun_in : Option Switch → ℕ
begun_in None = 0
begun_in (Some s) = s.begun

-- a switch that pends behind it pended before, or began with it
pends_from : (body : Body) (seq : ℕ) (xs : List (Live Body)) (m : Modes) (s : Switch) → (apply_to_modes body seq xs m).pending ≡ Some s → (m.pending ≡ Some s) ⊎ (s.begun ≡ seq)
pends_from (b.SwitchBegin target) seq xs m s = begins m.pending
  where
    begins : (o : Option Switch) → (begin_switch target seq m o).pending ≡ Some s → (m.pending ≡ Some s) ⊎ (s.begun ≡ seq)
    begins (Some q) e = inl e
    begins None e = at (same_mode target m.current) e
      where
        at : (t : Bool) → (cond t m (record m { pending = Some (record { target = target; begun = seq }) })).pending ≡ Some s → (m.pending ≡ Some s) ⊎ (s.begun ≡ seq)
        at true e = inl e
        at false e = inr (sym (ap begun_in e))
pends_from b.SwitchEnd seq xs m s = ends m.pending
  where
    ends : (o : Option Switch) → (end_switch xs m o).pending ≡ Some s → (m.pending ≡ Some s) ⊎ (s.begun ≡ seq)
    ends None e = inl e
    ends (Some q) e = at (all_ended q.begun xs) e
      where
        at : (t : Bool) → (cond t (record { current = q.target; pending = None }) m).pending ≡ Some s → (m.pending ≡ Some s) ⊎ (s.begun ≡ seq)
        at true e = cc
        at false e = inl e
pends_from _ seq xs m s = λ e. inl e

-- but for a SwitchEnd it goes on to pend
pends_on : (body : Body) (seq : ℕ) (xs : List (Live Body)) (m : Modes) (s : Switch) → is_switch_end body ≡ false → m.pending ≡ Some s → (apply_to_modes body seq xs m).pending ≡ Some s
pends_on (b.SwitchBegin target) seq xs m s other is = at m.pending is
  where
    at : (o : Option Switch) → o ≡ Some s → (begin_switch target seq m o).pending ≡ Some s
    at None e = cc
    at (Some q) e = is
pends_on b.SwitchEnd seq xs m s other is = cc
pends_on _ seq xs m s other is = is

-- and where all below its begin have ended, a SwitchEnd ends it
ends_it : (xs : List (Live Body)) (m : Modes) (s : Switch) → m.pending ≡ Some s → all_ended s.begun xs ≡ true → end_switch xs m m.pending ≡ record { current = s.target; pending = None }
ends_it xs m s is ended =
    ap (end_switch xs m) is ∙ ap (λ t. cond t (record { current = s.target; pending = None }) m) ended

-- A switch that pends began at a seqnum of the records.
begun_below : (first : Mode) (n : ℕ) (xs : List (Live Body)) → FallBelow n xs → (s : Switch) → (modes first xs).pending ≡ Some s → s.begun < n
begun_below first n [] fall s e = cc
begun_below first n (x ∷ xs) fall s e =
    ⊎_elim (λ was. let lt = begun_below first x.seq xs fall.2 s was in omega (arith, lt, fall.1)) (λ same. omega (arith, same, fall.1))
    (pends_from x.holds x.seq xs (modes first xs) s e)

module _ (first : Mode) (position : ℕ) (s : Switch) where
  -- while no SwitchEnd comes it pends
  still_pends : (xs : List (Live Body)) → (modes first (upto position xs)).pending ≡ Some s → ended_since position xs ≡ false → (modes first xs).pending ≡ Some s
  still_pends [] is none = is
  still_pends (x ∷ xs) is none = at (leb x.seq position) (still_pends xs) is none
    where
      both : (t u : Bool) → (t || u) ≡ false → (t ≡ false) × (u ≡ false)
      both false u e = (refl, e)
      both true u e = cc

      at : (t : Bool) → ((modes first (upto position xs)).pending ≡ Some s → ended_since position xs ≡ false → (modes first xs).pending ≡ Some s) → (modes first (cond t (x ∷ xs) (upto position xs))).pending ≡ Some s → cond t false (is_switch_end x.holds || ended_since position xs) ≡ false → (modes first (x ∷ xs)).pending ≡ Some s
      at true ih is none = is
      at false ih is none =
          let parts = both (is_switch_end x.holds) (ended_since position xs) none in
          pends_on x.holds x.seq xs (modes first xs) s parts.0 (ih is parts.1)

  -- it pends, or a switch that began since
  abbrev ItOrLater : Modes → Type 0
  ItOrLater m = (q : Switch) → m.pending ≡ Some q → (q ≡ s) ⊎ (position < q.begun)

  abbrev Later : Modes → Type 0
  Later m = (q : Switch) → m.pending ≡ Some q → position < q.begun

  it_or_later : (xs : List (Live Body)) → (modes first (upto position xs)).pending ≡ Some s → ItOrLater (modes first xs)
  it_or_later [] is = λ q e. cc
  it_or_later (x ∷ xs) is = at (leb x.seq position) refl (it_or_later xs) is
    where
      one : (q : Switch) → Some q ≡ Some s → q ≡ s
      one q e = cc

      at : (t : Bool) → leb x.seq position ≡ t → ((modes first (upto position xs)).pending ≡ Some s → ItOrLater (modes first xs)) → (modes first (cond t (x ∷ xs) (upto position xs))).pending ≡ Some s → ItOrLater (modes first (x ∷ xs))
      at true e ih is q pending = inl (one q (sym pending ∙ is))
      at false e ih is q pending =
          ⊎_elim (λ was. ih is q was) (λ same. inr (let lt = leb-false x.seq position e in omega (arith, lt, same)))
          (pends_from x.holds x.seq xs (modes first xs) q pending)

  later_on : (r : LogRecord Body) (log : List (LogRecord Body)) → position ≤ length log → Later (modes first (live log)) → Later (modes first (live (r ∷ log)))
  later_on r log le later = at (meets_condition r.condition (live log))
    where
      at : (t : Bool) → Later (modes first (cond t (record { seq = suc (length log); tags = r.tags; holds = r.holds } ∷ live log) (live log)))
      at false = later
      at true = λ q pending.
          ⊎_elim (λ was. later q was) (λ same. omega (arith, same, le))
          (pends_from r.holds (suc (length log)) (live log) (modes first (live log)) q pending)

  later_since : (newer log : List (LogRecord Body)) → position ≤ length log → Later (modes first (live log)) → Later (modes first (live (newer ++ log)))
  later_since [] log le later = later
  later_since (r ∷ newer) log le later =
      later_on r (newer ++ log) (let more = longer newer log in omega (arith, le, more)) (later_since newer log le later)

  -- a SwitchEnd, ordered next
  module _ (r : LogRecord Body) (log : List (LogRecord Body)) (end : IsEnd r) where
    behind_it : modes first (live (r ∷ log)) ≡ apply_to_modes b.SwitchEnd (suc (length log)) (live log) (modes first (live log))
    behind_it =
        ap (λ c. modes first (cond (meets_condition c (live log)) (record { seq = suc (length log); tags = r.tags; holds = r.holds } ∷ live log) (live log))) end.free
        ∙ ap (λ body. apply_to_modes body (suc (length log)) (live log) (modes first (live log))) end.holds_is

    ends_here : all_ended s.begun (live log) ≡ true → (modes first (live log)).pending ≡ Some s → modes first (live (r ∷ log)) ≡ record { current = s.target; pending = None }
    ends_here ended is = behind_it ∙ ends_it (live log) (modes first (live log)) s is ended

    later_here : position ≤ length log → all_ended s.begun (live log) ≡ true → ItOrLater (modes first (live log)) → Later (modes first (live (r ∷ log)))
    later_here le ended either q pending =
        ⊎_elim (λ was. ⊎_elim (λ same. absurd (ended_it was same)) (λ lt. lt) (either q was)) (λ same. omega (arith, same, le))
        (pends_from b.SwitchEnd (suc (length log)) (live log) (modes first (live log)) q (sym (ap (λ (m : Modes). m.pending) behind_it) ∙ pending))
      where
        ended_it : (modes first (live log)).pending ≡ Some q → q ≡ s → ⊥
        ended_it was same =
            let no_way : None ≡ Some q = sym (ap (λ (m : Modes). m.pending) (ends_here ended (was ∙ ap Some same))) ∙ pending in cc

pub ended_switches_end : EndedSwitchesEnd
ended_switches_end first log since position s le is none = record {
  ended = ended;
  pends = still_pends first position s now pending;
  counts = λ r end no_end. ends_here first position s r whole end ended (still_pends first position s now pending no_end);
  over = λ r newer end still.
      (let later : position < s.begun =
      later_since first position s newer (r ∷ whole) (omega (arith, within)) (later_here first position s r whole end within ended (it_or_later first position s now pending)) s still in
      let h : ⊥ = omega (arith, later, begun) in h);
}
  where
    whole : List (LogRecord Body)
    whole = since ++ log

    now : List (Live Body)
    now = live whole

    within : position ≤ length whole
    within = let more = longer since log in omega (arith, le, more)

    same_view : upto position now ≡ upto position (live log)
    same_view = upto_since since log position le

    pending : (modes first (upto position now)).pending ≡ Some s
    pending = ap (λ xs. (modes first xs).pending) same_view ∙ is

    begun : s.begun < suc position
    begun = begun_below first (suc position) (upto position (live log)) (upto_falls (suc (length log)) position (live log) (live_falls log)) s is

    ended : all_ended s.begun now ≡ true
    ended =
        ended_all s.begun now
        (none_upto s.begun position now (omega (arith, begun))
        (subst (λ xs. NoneOpen s.begun xs xs) (sym same_view) (all_none s.begun (upto position (live log)) (upto position (live log)) none)))
