-- A name has one value: whoever stores it asked the same write at the same place.
use Rattle.std.proofs.Common.{◌≡◌, ⊎_elim, ℕ, ◌≤◌, Bool, true, false, cond, List, [], ◌∷◌, length, Some, refl, sym, ap, ◌∙◌, subst, arith}
use Rattle.std.specs.List.{AllByRecursion}
use Rattle.std.proofs.lemmas.Bool.{cases_order}
use Rattle.lb_base.specs.declared.value.Value.{Value}
use Rattle.boki_types.specs.declared.body.Body.{Body}
use Rattle.boki_types.specs.declared.operation.Op.TheVariants as o
use Rattle.boki_types.specs.declared.operation.Ask.{Ask}
use Rattle.boki_types.specs.declared.operation.Ask.TheVariants as k
use Rattle.boki_types.specs.declared.plan.Setup.{Setup}
use Rattle.boki_types.specs.declared.program.Function.{Function}
use Rattle.boki_types.specs.declared.store.Name.{Name}
use Rattle.boki_model.specs.Live.{Live, upto}
use Rattle.boki_model.specs.Writes.{Store, NamedValue, KeyFence, same_name, value_under_name}
use Rattle.boki_model.proofs.Logs.{upto-upto}
use Rattle.boki_machine.specs.Decided.{InvocationState}
use Rattle.exactly_once.specs.Induction.SoundLogs.{AllMayFollow}
use Rattle.exactly_once.specs.Induction.Invariant.{MayLog, AreFenced, AsksLogged, IsAskedWrite}
use Rattle.exactly_once.specs.FurtherLaws.StepRecords.{step_seqnums}
use Rattle.exactly_once.proofs.Log.LiveRecords.{Under}
use Rattle.exactly_once.proofs.Invariant.NamedValue.{one_name}
use Rattle.exactly_once.proofs.Invocations.NextRecord.{stands}
use Rattle.exactly_once.proofs.Invocations.SamePlace.{IsSamePlace, same_point, same_marks, asks_now, fit_upto, under_upto, place_is}
use Rattle.exactly_once.proofs.Asking.FreeAtCursor.{same_ask}

-- the stored value that a name is found with
record IsKept (P : NamedValue → Type 0) (name : Name) (value : Value) : Type 0 where
  pub entry : NamedValue
  pub holds : P entry
  pub name_is : entry.name ≡ name
  pub value_is : entry.value ≡ value

kept : (P : NamedValue → Type 0) (name : Name) (value : Value) (named : List NamedValue) → AllByRecursion P named → value_under_name name named ≡ Some value → IsKept P name value
kept P name value [] all is = cc
kept P name value (s ∷ ss) all is = at (kept P name value ss all.1) (same_name name s.name) refl is
  where
    at : (value_under_name name ss ≡ Some value → IsKept P name value) → (t : Bool) → same_name name s.name ≡ t → cond t (Some s.value) (value_under_name name ss) ≡ Some value → IsKept P name value
    at ih false e is = ih is
    at ih true e is =
        let value_is : s.value ≡ value = cc in
        record { entry = s; holds = all.0; name_is = sym (one_name name s.name e); value_is = value_is }

module _ (setup : Setup) (fs : List Function) (store : Store) (fences : List KeyFence) (n : ℕ) (now : List (Live Body)) (under : Under n now) (fit : AllMayFollow setup fs store now) (p : List ℕ) where
  abbrev LogsAt : ℕ → ℕ → Ask → Type 0
  LogsAt c i ask = AsksLogged fs store fences (upto c now) p (stands setup fs store p (upto c now)) i ask

  abbrev place_at : ℕ → ℕ
  place_at c = (stands setup fs store p (upto c now)).place

  -- what an invocation asks at a place, it asks wherever it is at that place
  logs_later : (c d i : ℕ) (ask : Ask) → c ≤ d → place_at c ≡ place_at d → LogsAt c i ask → LogsAt d i ask
  logs_later c d i ask le places logs =
      let xs = upto d now in
      let fit_d = fit_upto setup fs store p d now fit in
      let cut : upto c xs ≡ upto c now = upto-upto c d now le in
      let same : IsSamePlace p c xs =
      ap (λ ys. length (step_seqnums p ys)) cut ∙ sym (place_is setup fs store p (upto c now) (fit_upto setup fs store p c now fit)) ∙ places ∙ place_is setup fs store p xs fit_d in
      let here : AsksLogged fs store fences (upto c xs) p (stands setup fs store p (upto c xs)) i ask = subst (λ ys. AsksLogged fs store fences ys p (stands setup fs store p ys) i ask) (sym cut) logs in
      record {
        asks = asks_now setup fs store p c d xs i ask (under_upto setup fs store p d n now under) fit_d same here.asks;
        may_log = subst (λ (st : InvocationState). MayLog fences st.mode st.cursor ask) (sym (same_point setup fs store p c xs same)) here.may_log;
        fenced = subst (AreFenced fences) (sym (same_marks setup fs store p c xs same)) here.fenced;
      }

  -- so what it logs at a place is the same
  pub one_ask : (c d i j : ℕ) (one two : Ask) → place_at c ≡ place_at d → LogsAt c i one → LogsAt d j two → one ≡ two
  one_ask c d i j one two places logs others =
      ⊎_elim (λ e. from (omega (arith, e))) (λ h. ⊎_elim (λ lt. from (omega (arith, lt))) (λ gt. same_ask fs store (upto c now) p (stands setup fs store p (upto c now)) fences i j one two logs (logs_later d c j two (omega (arith, gt)) (sym places) others)) h) (cases_order c d)
    where
      from : c ≤ d → one ≡ two
      from le = same_ask fs store (upto d now) p (stands setup fs store p (upto d now)) fences i j one two (logs_later c d i one le places logs) others

  -- a value that is stored already is that of the write that is asked
  pub one_value :
      (place : ℕ) (key : List ℕ) (value old : Value) (c i : ℕ) → AllByRecursion (IsAskedWrite setup fs store fences n now) store.named → place_at c ≡ place → LogsAt c i (k.Op (o.Write key value))
      → value_under_name (record { path = p; place = place }) store.named ≡ Some old → old ≡ value
  one_value place key value old c i owed here logs found =
      let entry = kept (IsAskedWrite setup fs store fences n now) (record { path = p; place = place }) old store.named owed found in
      let s = entry.entry in
      let is = entry.holds in
      let path : s.name.path ≡ p = ap (λ (n : Name). n.path) entry.name_is in
      let there : place_at is.c ≡ place = ap (λ q. (stands setup fs store q (upto is.c now)).place) (sym path) ∙ sym is.place ∙ ap (λ (n : Name). n.place) entry.name_is in
      let asks : LogsAt is.c is.index (k.Op (o.Write is.key s.value)) = subst (λ q. AsksLogged fs store fences (upto is.c now) q (stands setup fs store q (upto is.c now)) is.index (k.Op (o.Write is.key s.value))) path is.asks in
      let same : k.Op (o.Write is.key s.value) ≡ k.Op (o.Write key value) = one_ask is.c c is.index i (k.Op (o.Write is.key s.value)) (k.Op (o.Write key value)) (there ∙ sym here) asks logs in
      let value_is : s.value ≡ value = cc in
      sym entry.value_is ∙ value_is
