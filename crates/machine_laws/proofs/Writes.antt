-- Live writes: what is told of their names, and at which place each stands.
use Rattle.std.proofs.Common.{◌≡◌, inl, inr, ⊎_elim, ℕ, suc, ◌<◌, ◌≤◌, Bool, true, false, cond, ltb, ◌&&◌, ◌||◌, List, [], ◌∷◌, length, Option, Some, refl, sym, ap, ◌∙◌, subst, arith}
use Rattle.std.proofs.lemmas.Bool.{ltb-true, cases_order}
use Rattle.lb_base.specs.declared.value.Value.{Value}
use Rattle.boki_types.specs.declared.body.Body.{Body}
use Rattle.boki_types.specs.declared.body.Body.TheVariants as b
use Rattle.boki_types.specs.declared.plan.Setup.{Setup}
use Rattle.boki_types.specs.declared.program.Function.{Function}
use Rattle.boki_types.specs.declared.store.Name.{Name}
use Rattle.boki_model.specs.Live.{Live, upto}
use Rattle.boki_model.specs.Bodies.{step_of}
use Rattle.boki_model.specs.Writes.{Store, logged_write, is_write_named, is_settled}
use Rattle.boki_machine.specs.Decided.{InvocationState}
use Rattle.exactly_once.specs.FurtherLaws.StoreBound.{WritesName}
use Rattle.exactly_once.specs.Induction.Invariant.{World, records, IsNext, InvariantHolds}
use Rattle.exactly_once.specs.FurtherLaws.Words.{values_only}
use Rattle.exactly_once.specs.FurtherLaws.StepRecords.{is_step_of, step_seqnums}
use Rattle.exactly_once.proofs.Log.HistoryTails.{Tail, here, there, shorter}
pub use Rattle.exactly_once.proofs.Log.ListElements.{Behind, behind, among_tail}
use Rattle.exactly_once.proofs.Log.LiveRecords.{live_under, tails_by_seq}
use Rattle.exactly_once.proofs.Log.MapChanges.{same_itself}
use Rattle.exactly_once.proofs.Invariant.NamedValue.{one_name}
use Rattle.exactly_once.proofs.Invocations.SamePlace.{place_is}
use Rattle.exactly_once.proofs.Invocations.InitAndCursor.{one_record, fit_tail}
use Rattle.exactly_once.proofs.OldVersions.StepOrigins.{origin}

-- Names.

-- a record that has the name is the write of it
record IsNamed (name : Name) (body : Body) : Type 0 where
  pub index : ℕ
  pub key : List ℕ
  pub here : Option Value
  pub is_write : body ≡ b.Write name.path index name.place key here

named : (name : Name) (body : Body) → is_write_named name (logged_write body) ≡ true → IsNamed name body
named name (b.Write p i place key value) e =
    let same : name ≡ record { path = p; place = place } = one_name name (record { path = p; place = place }) e in
    record { index = i; key = key; here = value; is_write = ap (λ (n : Name). b.Write n.path i n.place key value) (sym same) }
named name _ e = let no_way : false ≡ true = e in cc

-- the live write below a floor by which a name is settled there
pub record SettledBy (name : Name) (floor : ℕ) (xs : List (Live Body)) : Type 0 where
  pub x : Live Body
  pub write : WritesName name xs x
  pub low : x.seq < floor

settled_later : (name : Name) (floor : ℕ) (x : Live Body) (xs : List (Live Body)) → SettledBy name floor xs → SettledBy name floor (x ∷ xs)
settled_later name floor x xs by =
    let w = by.write in
    record { x = by.x; write = record { among = inr w.among; index = w.index; key = w.key; here = w.here; is_write = w.is_write }; low = by.low }

pub settled_by : (name : Name) (floor : ℕ) (xs : List (Live Body)) → is_settled name floor xs ≡ true → SettledBy name floor xs
settled_by name floor [] e = let no_way : false ≡ true = e in cc
settled_by name floor (x ∷ xs) e = at (settled_by name floor xs) (ltb x.seq floor) refl (is_write_named name (logged_write x.holds)) refl e
  where
    at : (is_settled name floor xs ≡ true → SettledBy name floor xs) → (t : Bool) → ltb x.seq floor ≡ t → (u : Bool) → is_write_named name (logged_write x.holds) ≡ u → ((t && u) || is_settled name floor xs) ≡ true → SettledBy name floor (x ∷ xs)
    at ih true low true own e =
        let w = named name x.holds own in
        record { x = x; write = record { among = inl refl; index = w.index; key = w.key; here = w.here; is_write = w.is_write }; low = ltb-true x.seq floor low }
    at ih true low false own e = settled_later name floor x xs (ih e)
    at ih false low u own e = settled_later name floor x xs (ih e)

-- Places.

pub own_count : (p : List ℕ) (i : ℕ) (x : Live Body) (xs : List (Live Body)) → step_of x.holds ≡ Some (p, i) → length (step_seqnums p (x ∷ xs)) ≡ suc (length (step_seqnums p xs))
own_count p i x xs step = ap (λ t. length (cond t (x.seq ∷ step_seqnums p xs) (step_seqnums p xs))) (ap (is_step_of p) step ∙ same_itself p)

steps_tail : (p : List ℕ) (ys xs : List (Live Body)) → Tail ys xs → length (step_seqnums p ys) ≤ length (step_seqnums p xs)
steps_tail p ys xs here = omega arith
steps_tail p ys (x ∷ xs) (there t) =
    let le = steps_tail p ys xs t in
    elim (is_step_of p (step_of x.holds)) as (λ b. length (step_seqnums p ys) ≤ length (cond b (x.seq ∷ step_seqnums p xs) (step_seqnums p xs)))
    [ true ↦ omega (arith, le) | false ↦ le ]

module _ (setup : Setup) (fs : List Function) (w : World) (holds : InvariantHolds setup fs w) where
  abbrev now : List (Live Body)
  now = records w

  abbrev store : Store
  store = values_only w.store

  -- a live write stands at the place of its name
  pub write_place : (name : Name) (x : Live Body) (xs : List (Live Body)) → Tail (x ∷ xs) now → WritesName name now x → name.place ≡ length (step_seqnums name.path xs)
  write_place name x xs t write =
      let body = b.Write name.path write.index name.place write.key write.here in
      let from = origin setup fs w holds x xs name.path write.index t (ap step_of write.is_write) in
      let next : IsNext setup fs store w.store.fences (upto from.c now) now body = subst (IsNext setup fs store w.store.fences (upto from.c now) now) write.is_write from.next in
      next.1 ∙ ap (λ (st : InvocationState). st.place) from.same ∙ place_is setup fs store name.path xs (fit_tail setup fs store xs now (shorter t) holds.sound.fit)

  -- so of two live writes of one name none comes first
  not_before : (name : Name) (x y : Live Body) → WritesName name now x → WritesName name now y → x.seq < y.seq → ⊥
  not_before name x y first second lt =
      let bx = behind x now first.among in
      let by = behind y now second.among in
      let t = tails_by_seq x y bx.rest by.rest (length w.log) now (live_under w.log) bx.tail by.tail lt in
      let le = steps_tail name.path (x ∷ bx.rest) by.rest t in
      let more = own_count name.path first.index x bx.rest (ap step_of first.is_write) in
      let one = write_place name x bx.rest bx.tail first in
      let two = write_place name y by.rest by.tail second in
      let no_way : ⊥ = omega (arith, le, more, one, two) in no_way

  pub one_write : (name : Name) (x y : Live Body) → WritesName name now x → WritesName name now y → x ≡ y
  one_write name x y first second =
      ⊎_elim (λ e. same e)
      (λ h. ⊎_elim (λ lt. absurd (not_before name x y first second lt)) (λ gt. absurd (not_before name y x second first gt)) h)
      (cases_order x.seq y.seq)
    where
      same : x.seq ≡ y.seq → x ≡ y
      same e =
          let bx = behind x now first.among in
          let by = behind y now second.among in
          let one = one_record x y bx.rest by.rest (length w.log) now (live_under w.log) bx.tail by.tail e in cc
