-- A further named value changes nothing that was decided: each live logged write had its value before.
use Rattle.std.proofs.Common.{◌≡◌, ℕ, zero, suc, ◌-◌, Bool, true, false, cond, eqb, List, [], ◌∷◌, ◌++◌, length, Option, Some, None, option_map, refl, sym, ap, ◌∙◌, subst}
use Rattle.std.specs.Prelude.{bytes_eq}
use Rattle.std.proofs.lemmas.Bool.{and_parts, eqb-true}
use Rattle.lb_base.specs.declared.value.Value.{Value}
use Rattle.lb_base.specs.declared.value.Outcome.{Outcome}
use Rattle.lb_base.specs.declared.value.Mode.{Mode}
use Rattle.lb_base.specs.declared.value.Mode.TheVariants.{R, W, T}
use Rattle.boki_types.specs.declared.body.Body.{Body}
use Rattle.boki_types.specs.declared.body.Body.TheVariants as b
use Rattle.boki_types.specs.declared.operation.Op.TheVariants as o
use Rattle.boki_types.specs.declared.operation.Ask.{Ask}
use Rattle.boki_types.specs.declared.operation.Ask.TheVariants as k
use Rattle.boki_types.specs.declared.operation.Answer.TheVariants as a
use Rattle.boki_types.specs.declared.plan.Setup.{Setup}
use Rattle.boki_types.specs.declared.program.Function.{Function}
use Rattle.boki_types.specs.declared.store.Name.{Name}
use Rattle.boki_model.specs.Live.{Live}
use Rattle.boki_model.specs.Bodies.{step_of}
use Rattle.boki_model.specs.Writes.{Store, NamedValue, Version, KeyFence, Write, write_at, same_name, value_under_name, here_or_named, logged_write_of, logged_write, logged_writes, version_writes, initial_writes, prepend_some, last_write_below, last_value_below}
use Rattle.boki_machine.specs.Decided.{InvocationState, invocation_state, asked_at, value_or_none, values_below, free_answer, add_answer, with_free_answers, own_answer, transaction_after, after_operation, after_step_record, after_record}
use Rattle.exactly_once.specs.Induction.SoundLogs.{Asks, MayBegin, MayWrite, MayCommit, MayFollow, AreNextWrites, MayStand, StandAt, free_operations_to, AllMayFollow}
use Rattle.exactly_once.specs.FurtherLaws.Words.{versions_with_cursor}
use Rattle.exactly_once.specs.Induction.Invariant.{AsksLogged, IsNext}
use Rattle.exactly_once.specs.Induction.NamedValue.{with_named_value}
use Rattle.exactly_once.proofs.Log.MapChanges.{same_key}

-- names that are the same by the test are one
pub one_name : (m n : Name) → same_name m n ≡ true → m ≡ n
one_name m n e =
    let parts = and_parts (bytes_eq m.path n.path) (eqb m.place n.place) e in
    λ i. record { path = same_key m.path n.path parts.0 i; place = eqb-true m.place n.place parts.1 i }

-- A name that has a value keeps it.

module _ (s : NamedValue) (store : Store) (new : value_under_name s.name store.named ≡ None) where
  abbrev grown : Store
  grown = with_named_value s store

  pub value_kept : (name : Name) (v : Value) → value_under_name name store.named ≡ Some v → value_under_name name (s ∷ store.named) ≡ Some v
  value_kept name v is = at (same_name name s.name) refl
    where
      at : (t : Bool) → same_name name s.name ≡ t → cond t (Some s.value) (value_under_name name store.named) ≡ Some v
      at false e = is
      at true e =
          let none : value_under_name name store.named ≡ None = ap (λ n. value_under_name n store.named) (one_name name s.name e) ∙ new in
          let no_way : None ≡ Some v = sym none ∙ is in cc

  here_kept : (here : Option Value) (name : Name) (v : Value) → here_or_named here name store.named ≡ Some v → here_or_named here name (s ∷ store.named) ≡ Some v
  here_kept (Some u) name v is = is
  here_kept None name v is = value_kept name v is

  module _ (setup : Setup) (fs : List Function) where
    write_kept : (key : List ℕ) (seq : ℕ) (xs : List (Live Body)) (body : Body) → MayFollow setup fs store xs body → logged_write_of key seq (s ∷ store.named) (logged_write body) ≡ logged_write_of key seq store.named (logged_write body)
    write_kept key seq xs (b.Write p i place q here) may =
        ap (λ v. cond (bytes_eq key q) (option_map (write_at seq 0) v) None) (here_kept here (record { path = p; place = place }) may.value may.kept ∙ sym may.kept)
    write_kept key seq xs _ may = refl

    logged_kept : (key : List ℕ) (xs : List (Live Body)) → AllMayFollow setup fs store xs → logged_writes key (s ∷ store.named) xs ≡ logged_writes key store.named xs
    logged_kept key [] fit = refl
    logged_kept key (x ∷ xs) fit = λ i. prepend_some (write_kept key x.seq xs x.holds fit.0 i) (logged_kept key xs fit.2 i)

    last_kept : (key : List ℕ) (c j : ℕ) (xs : List (Live Body)) → AllMayFollow setup fs store xs → last_value_below key c j grown xs ≡ last_value_below key c j store xs
    last_kept key c j xs fit = ap (λ ls. option_map (λ (w : Write). w.value) (last_write_below c j (version_writes key store.versions ++ ls ++ initial_writes key store.initial))) (logged_kept key xs fit)

    values_kept : (c : ℕ) (keys : List (List ℕ)) (xs : List (Live Body)) → AllMayFollow setup fs store xs → values_below c 0 grown xs keys ≡ values_below c 0 store xs keys
    values_kept c [] xs fit = refl
    values_kept c (key ∷ keys) xs fit = λ i. value_or_none (last_kept key c 0 xs fit i) ∷ values_kept c keys xs fit i

    free_kept : (xs : List (Live Body)) (c since : ℕ) (mode : Mode) (ask : Option Ask) → AllMayFollow setup fs store xs → free_answer grown xs c since mode ask ≡ free_answer store xs c since mode ask
    free_kept xs c since R (Some (k.Op (o.Read key))) fit = ap (λ v. Some (a.Value (value_or_none v))) (last_kept key (suc c) 0 xs fit)
    free_kept xs c since R (Some (k.Op (o.ReadGroup keys))) fit = ap (λ vs. Some (a.Values vs)) (values_kept (suc c) keys xs fit)
    free_kept xs c since mode ask fit = refl

    pub more_kept : (xs : List (Live Body)) (path : List ℕ) (st : InvocationState) (n : ℕ) → AllMayFollow setup fs store xs → with_free_answers fs grown xs path st n ≡ with_free_answers fs store xs path st n
    more_kept xs path st zero fit = refl
    more_kept xs path st (suc n) fit =
        ap (λ l. add_answer (free_answer grown xs st.cursor (length l - length st.answers) st.mode (asked_at fs path st l)) l) (more_kept xs path st n fit)
        ∙ ap (λ o. add_answer o (with_free_answers fs store xs path st n)) (free_kept xs st.cursor (length (with_free_answers fs store xs path st n) - length st.answers) st.mode (asked_at fs path st (with_free_answers fs store xs path st n)) fit)

    own_kept : (xs : List (Live Body)) (seq : ℕ) (body : Body) → AllMayFollow setup fs store xs → own_answer grown xs seq body ≡ own_answer store xs seq body
    own_kept xs seq (b.Read p i key) fit = ap (λ v. Some (a.Value (value_or_none v))) (last_kept key seq 0 xs fit)
    own_kept xs seq (b.ReadGroup p i keys) fit = ap (λ vs. Some (a.Values vs)) (values_kept seq keys xs fit)
    own_kept xs seq _ fit = refl

    operated_kept : (xs : List (Live Body)) (path : List ℕ) (seq : ℕ) (body : Body) (i : ℕ) (d : InvocationState) → AllMayFollow setup fs store xs → after_operation fs grown xs path seq body i d ≡ after_operation fs store xs path seq body i d
    operated_kept xs path seq body i d fit = λ j. record d {
      place = suc d.place;
      cursor = seq;
      transaction = transaction_after seq body d.transaction;
      answers = add_answer (own_kept xs seq body fit j) (more_kept xs path d (i - suc (length d.answers)) fit j);
    }

    stepped_kept : (xs : List (Live Body)) (path : List ℕ) (seq : ℕ) (body : Body) (i : ℕ) (d : InvocationState) → AllMayFollow setup fs store xs → after_step_record setup fs grown xs path seq body i d ≡ after_step_record setup fs store xs path seq body i d
    stepped_kept xs path seq (b.Init p) i d fit = refl
    stepped_kept xs path seq (b.Finish p n outcome) i d fit = λ j. record d { place = suc d.place; cursor = seq; result = Some outcome; answers = more_kept xs path d (i - suc (length d.answers)) fit j }
    stepped_kept xs path seq body i d fit = operated_kept xs path seq body i d fit

    pub point_kept : (p : List ℕ) (xs : List (Live Body)) → AllMayFollow setup fs store xs → invocation_state setup fs grown p xs ≡ invocation_state setup fs store p xs
    point_kept p [] fit = refl
    point_kept p (x ∷ xs) fit = at (step_of x.holds) (point_kept p xs fit.2)
      where
        at : (o : Option (List ℕ × ℕ)) → invocation_state setup fs grown p xs ≡ invocation_state setup fs store p xs → after_record setup fs grown xs p x o (invocation_state setup fs grown p xs) ≡ after_record setup fs store xs p x o (invocation_state setup fs store p xs)
        at None ih = ih
        at (Some t) ih = by_path (bytes_eq p t.0)
          where
            by_path : (u : Bool) → cond u (after_step_record setup fs grown xs p x.seq x.holds t.1 (invocation_state setup fs grown p xs)) (invocation_state setup fs grown p xs) ≡ cond u (after_step_record setup fs store xs p x.seq x.holds t.1 (invocation_state setup fs store p xs)) (invocation_state setup fs store p xs)
            by_path true = ap (after_step_record setup fs grown xs p x.seq x.holds t.1) ih ∙ stepped_kept xs p x.seq x.holds t.1 (invocation_state setup fs store p xs) fit.2
            by_path false = ih

    -- Facts of an invocation.

    asks_kept : (xs : List (Live Body)) (p : List ℕ) (st : InvocationState) (i : ℕ) (ask : Ask) → AllMayFollow setup fs store xs → Asks fs store xs p st i ask → Asks fs grown xs p st i ask
    asks_kept xs p st i ask fit asks = record {
      reaches = record {
        begun = asks.reaches.begun;
        unended = asks.reaches.unended;
        decided = ap (λ l. suc (length l)) (more_kept xs p st (free_operations_to i st) fit) ∙ asks.reaches.decided;
        all_versions = asks.reaches.all_versions;
      };
      asked = ap (asked_at fs p st) (more_kept xs p st (free_operations_to i st) fit) ∙ asks.asked;
    }

    asks_here : (xs : List (Live Body)) (p : List ℕ) (i : ℕ) (ask : Ask) → AllMayFollow setup fs store xs → Asks fs store xs p (invocation_state setup fs store p xs) i ask → Asks fs grown xs p (invocation_state setup fs grown p xs) i ask
    asks_here xs p i ask fit asks = subst (λ st. Asks fs grown xs p st i ask) (sym (point_kept p xs fit)) (asks_kept xs p (invocation_state setup fs store p xs) i ask fit asks)

    write_here : (xs : List (Live Body)) (p : List ℕ) (i place : ℕ) (key : List ℕ) (here : Option Value) → AllMayFollow setup fs store xs → MayWrite fs store xs p (invocation_state setup fs store p xs) i place key here → MayWrite fs grown xs p (invocation_state setup fs grown p xs) i place key here
    write_here xs p i place key here fit may = record { value = may.value; asks = asks_here xs p i (k.Op (o.Write key may.value)) fit may.asks; kept = here_kept here (record { path = p; place = place }) may.value may.kept }

    begin_here : (xs : List (Live Body)) (p : List ℕ) → AllMayFollow setup fs store xs → MayBegin p (invocation_state setup fs store p xs) xs → MayBegin p (invocation_state setup fs grown p xs) xs
    begin_here xs p fit may = record { call = may.call; called = may.called; new = ap (λ (st : InvocationState). st.begun) (point_kept p xs fit) ∙ may.new }

    commit_here : (xs : List (Live Body)) (p : List ℕ) (i begin : ℕ) (names : List (List ℕ)) (writes : List (List ℕ × Value)) → AllMayFollow setup fs store xs → MayCommit fs store xs p (invocation_state setup fs store p xs) i begin names writes → MayCommit fs grown xs p (invocation_state setup fs grown p xs) i begin names writes
    commit_here xs p i begin names writes fit may = record { asks = asks_here xs p i (k.Op (o.Commit names writes)) fit may.asks; begin_is = ap (λ (st : InvocationState). st.transaction) (point_kept p xs fit) ∙ may.begin_is }

    fits_kept : (xs : List (Live Body)) (body : Body) → AllMayFollow setup fs store xs → MayFollow setup fs store xs body → MayFollow setup fs grown xs body
    fits_kept xs (b.Submit p f args) fit may = may
    fits_kept xs (b.Init p) fit may = begin_here xs p fit may
    fits_kept xs (b.Write p i place key here) fit may = write_here xs p i place key here fit may
    fits_kept xs (b.Spawn p i ordinal name args) fit may = record { function = may.function; asks = asks_here xs p i (k.Op (o.Spawn ordinal may.function args)) fit may.asks; found = may.found; unknown = may.unknown }
    fits_kept xs (b.Join p i ordinal) fit may = record { outcome = may.outcome; asks = asks_here xs p i (k.Op (o.Join ordinal)) fit may.asks; result = may.result }
    fits_kept xs (b.TxnCommit p i begin names writes) fit may = commit_here xs p i begin names writes fit may
    fits_kept xs (b.Read p i key) fit may = asks_here xs p i (k.Op (o.Read key)) fit may
    fits_kept xs (b.ReadGroup p i keys) fit may = asks_here xs p i (k.Op (o.ReadGroup keys)) fit may
    fits_kept xs (b.Push p i queue value) fit may = asks_here xs p i (k.Op (o.Push queue value)) fit may
    fits_kept xs (b.Pop p i queue) fit may = asks_here xs p i (k.Op (o.Pop queue)) fit may
    fits_kept xs (b.TxnBegin p i names) fit may = asks_here xs p i (k.Op (o.Begin names)) fit may
    fits_kept xs (b.Finish p i outcome) fit may = asks_here xs p i (k.Done outcome) fit may
    fits_kept xs _ fit may = tt

    writes_kept : (xs : List (Live Body)) (p : List ℕ) (st : InvocationState) (vs : List Version) → AllMayFollow setup fs store xs → AreNextWrites fs store xs p st vs → AreNextWrites fs grown xs p st vs
    writes_kept xs p st [] fit are = tt
    writes_kept xs p st (v ∷ vs) fit are = (are.0, ap (asked_at fs p st) (more_kept xs p st (length vs) fit) ∙ are.1, writes_kept xs p st vs fit are.2)

    may_stand_kept : (xs : List (Live Body)) (p : List ℕ) (st : InvocationState) (result : Option Outcome) (mode : Mode) (vs : List Version) → AllMayFollow setup fs store xs → MayStand fs store xs p st result mode vs → MayStand fs grown xs p st result mode vs
    may_stand_kept xs p st None W vs fit stand = writes_kept xs p st vs fit stand
    may_stand_kept xs p st None R vs fit stand = stand
    may_stand_kept xs p st None T vs fit stand = stand
    may_stand_kept xs p st (Some outcome) mode vs fit stand = stand

    stand_kept : (xs : List (Live Body)) (o : Option (List ℕ × ℕ)) (vs : List Version) → AllMayFollow setup fs store xs → StandAt setup fs store xs o vs → StandAt setup fs grown xs o vs
    stand_kept xs None vs fit stand = stand
    stand_kept xs (Some t) vs fit stand =
        subst (λ (st : InvocationState). MayStand fs grown xs t.0 st st.result st.mode vs) (sym (point_kept t.0 xs fit))
        (may_stand_kept xs t.0 (invocation_state setup fs store t.0 xs) (invocation_state setup fs store t.0 xs).result (invocation_state setup fs store t.0 xs).mode vs fit stand)

    pub all_kept : (xs : List (Live Body)) → AllMayFollow setup fs store xs → AllMayFollow setup fs grown xs
    all_kept [] fit = tt
    all_kept (x ∷ xs) fit = (fits_kept xs x.holds fit.2 fit.0, stand_kept (x ∷ xs) (step_of x.holds) (versions_with_cursor x.seq store.versions) fit fit.1, all_kept xs fit.2)

    -- Records in flight, values and attempts.

    module _ (fences : List KeyFence) where
      pub logs_here : (xs : List (Live Body)) (p : List ℕ) (i : ℕ) (ask : Ask) → AllMayFollow setup fs store xs → AsksLogged fs store fences xs p (invocation_state setup fs store p xs) i ask → AsksLogged fs grown fences xs p (invocation_state setup fs grown p xs) i ask
      logs_here xs p i ask fit logs =
          subst (λ st. AsksLogged fs grown fences xs p st i ask) (sym (point_kept p xs fit))
          (record { asks = asks_kept xs p (invocation_state setup fs store p xs) i ask fit logs.asks; may_log = logs.may_log; fenced = logs.fenced })

      pub next_kept : (xs now : List (Live Body)) (body : Body) → AllMayFollow setup fs store xs → IsNext setup fs store fences xs now body → IsNext setup fs grown fences xs now body
      unfolding write_here
      next_kept xs now (b.Init p) fit next = begin_here xs p fit next
      next_kept xs now (b.Write p i place key here) fit next =
          (write_here xs p i place key here fit next.0, next.1 ∙ sym (ap (λ (st : InvocationState). st.place) (point_kept p xs fit)), logs_here xs p i (k.Op (o.Write key next.0.value)) fit next.2)
      next_kept xs now (b.Spawn p i ordinal name args) fit next = (next.0, next.1, logs_here xs p i (k.Op (o.Spawn ordinal next.0 args)) fit next.2)
      next_kept xs now (b.Join p i ordinal) fit next = (logs_here xs p i (k.Op (o.Join ordinal)) fit next.0, next.1)
      next_kept xs now (b.TxnCommit p i begin names writes) fit next = (commit_here xs p i begin names writes fit next.0, logs_here xs p i (k.Op (o.Commit names writes)) fit next.1)
      next_kept xs now (b.Read p i key) fit next = logs_here xs p i (k.Op (o.Read key)) fit next
      next_kept xs now (b.ReadGroup p i keys) fit next = logs_here xs p i (k.Op (o.ReadGroup keys)) fit next
      next_kept xs now (b.Push p i queue value) fit next = logs_here xs p i (k.Op (o.Push queue value)) fit next
      next_kept xs now (b.Pop p i queue) fit next = logs_here xs p i (k.Op (o.Pop queue)) fit next
      next_kept xs now (b.TxnBegin p i names) fit next = logs_here xs p i (k.Op (o.Begin names)) fit next
      next_kept xs now (b.Finish p i outcome) fit next = logs_here xs p i (k.Done outcome) fit next
      next_kept xs now _ fit next = tt
