-- A record that was sent is ordered.
use Rattle.std.proofs.Common.{◌≡◌, inl, ⊎_elim, ℕ, suc, ◌<◌, Bool, true, false, cond, eqb, ◌||◌, List, [], ◌∷◌, length, Option, Some, None, refl, sym, ap, ◌∙◌, subst, arith}
use Rattle.std.specs.Prelude.{bytes_eq, slice_index, IsTrue}
use Rattle.std.specs.List.{filter, AllByRecursion}
use Rattle.std.proofs.lemmas.Bool.{and_parts, eqb-true, eq-eqb, ne_eqb, or_left, or_right}
use Rattle.lb_base.specs.Path.{IsPath}
use Rattle.lb_base.specs.declared.value.Tag.{Tag}
use Rattle.lb_base.specs.declared.value.Mode.{Mode}
use Rattle.lb_base.specs.declared.value.Mode.TheVariants.{R, W, T}
use Rattle.lb_base.specs.declared.value.Value.{Value}
use Rattle.lb_base.specs.declared.value.Outcome.{Outcome}
use Rattle.lb_base.specs.declared.value.Cond.{Cond}
use Rattle.boki_types.specs.declared.body.Body.{Body}
use Rattle.boki_types.specs.declared.body.Body.TheVariants as b
use Rattle.boki_types.specs.declared.log.Call.{Call}
use Rattle.boki_types.specs.declared.operation.Op.TheVariants as o
use Rattle.boki_types.specs.declared.operation.Ask.{Ask}
use Rattle.boki_types.specs.declared.operation.Ask.TheVariants as k
use Rattle.boki_types.specs.declared.plan.Setup.{Setup}
use Rattle.boki_types.specs.declared.program.Function.{Function}
use Rattle.boki_model.specs.Live.{LogRecord, Live, has_tag, count, meets_condition, live, upto, is_live}
use Rattle.boki_model.specs.Bodies.{step_of, child, call_tag, step_tag, tags_of}
use Rattle.std.specs.Option.{option_or}
use Rattle.boki_model.specs.Writes.{Store, Version, KeyFence}
use Rattle.boki_machine.specs.Attempt.{call_in, call_of}
use Rattle.boki_machine.specs.Decided.{InvocationState, invocation_state}
use Rattle.exactly_once.specs.Induction.SoundLogs.{Asks, MayFollow, MayStand, StandAt, free_operations_to, IsSound}
use Rattle.exactly_once.specs.FurtherLaws.Words.{versions_with_cursor, values_only, IsAmong}
use Rattle.exactly_once.specs.FurtherLaws.StepRecords.{OwnTags, has_paths, IsWellFormed, place_condition, step_seqnums}
use Rattle.exactly_once.specs.Induction.Invariant.{records, marked_reads, AreFenced, AsksLogged, IsNext, IsStepRecord, SentOfKind, IsSentRecord, FencedBehind, AllFenced}
use Rattle.exactly_once.specs.Induction.OrderedRecord.{OrderingKeepsInvariant}
use Rattle.exactly_once.proofs.Log.ListElements.{each_weaker}
use Rattle.exactly_once.proofs.Log.LiveRecords.{Under, live_under}
use Rattle.exactly_once.proofs.Log.MapChanges.{same_key}
use Rattle.exactly_once.proofs.Log.StepRecords.{in_order}
use Rattle.exactly_once.proofs.Invocations.SamePlace.{IsSamePlace, same_point, same_marks, fit_upto, called_upto, asks_now, place_is, unbegun_marks}
use Rattle.exactly_once.proofs.Simulation.SoundLogsRun.{live_within}
use Rattle.exactly_once.proofs.Asking.NewChildren.{next_child}
use Rattle.exactly_once.proofs.Invariant.MicroSteps.{steps_keep}

path_some : (p : List ℕ) → IsPath p → 0 < length p
path_some [] path = cc
path_some (n ∷ p) path = omega arith

-- No version stands at a new record.

none_kept : {A : Type 0} (test : A → Bool) (xs : List A) → AllByRecursion (λ x. test x ≡ false) xs → filter test xs ≡ []
none_kept test [] all = refl
none_kept test (x ∷ xs) all = rw all.0 (none_kept test xs all.1)

pub stand_none : (setup : Setup) (fs : List Function) (store : Store) (xs : List (Live Body)) (s : Option (List ℕ × ℕ)) → StandAt setup fs store xs s []
stand_none setup fs store xs None = refl
stand_none setup fs store xs (Some s) = at (invocation_state setup fs store s.0 xs).result (invocation_state setup fs store s.0 xs).mode
  where
    at : (result : Option Outcome) (mode : Mode) → MayStand fs store xs s.0 (invocation_state setup fs store s.0 xs) result mode []
    at None R = refl
    at None W = tt
    at None T = refl
    at (Some outcome) mode = refl

module _ (setup : Setup) (fs : List Function) (store : Store) (fences : List KeyFence) (n : ℕ) (xs : List (Live Body)) (under : Under n xs) (sound : IsSound setup fs store xs) where
  no_version : versions_with_cursor (suc n) store.versions ≡ []
  no_version = none_kept (λ (v : Version). eqb (suc n) v.cursor) store.versions
      (each_weaker (λ (v : Version). IsTrue (is_live v.cursor xs)) (λ (v : Version). eqb (suc n) v.cursor ≡ false) (λ v there. ne_eqb (suc n) v.cursor (λ e. let le = live_within setup fs store n xs v.cursor under there in omega (arith, e, le))) store.versions sound.placed)

  -- a live record that fits keeps the log sound
  sound_more : (tags : List Tag) (body : Body) → MayFollow setup fs store xs body → IsSound setup fs store (record { seq = suc n; tags = tags; holds = body } ∷ xs)
  sound_more tags body fits =
      let x : Live Body = record { seq = suc n; tags = tags; holds = body } in
      record {
        fit = (fits, subst (StandAt setup fs store (x ∷ xs) (step_of body)) (sym no_version) (stand_none setup fs store (x ∷ xs) (step_of body)), sound.fit);
        placed = each_weaker (λ (v : Version). IsTrue (is_live v.cursor xs)) (λ (v : Version). IsTrue (is_live v.cursor (x ∷ xs))) (λ v there. or_right (eqb v.cursor (suc n)) (is_live v.cursor xs) there) store.versions sound.placed;
      }

  fenced_more : (tags : List Tag) (body : Body) → FencedBehind fences (step_of body) xs → AllFenced store fences xs → AllFenced store fences (record { seq = suc n; tags = tags; holds = body } ∷ xs)
  fenced_more tags body behind all = (behind, inl no_version, all)

  -- A step record that is live when it is ordered fits there.
  module _ (p : List ℕ) (c : ℕ) (same : IsSamePlace p c xs) where
    logs_now : (i : ℕ) (ask : Ask) → AsksLogged fs store fences (upto c xs) p (invocation_state setup fs store p (upto c xs)) i ask → Asks fs store xs p (invocation_state setup fs store p xs) i ask
    logs_now i ask logs = asks_now setup fs store p c n xs i ask under sound.fit same logs.asks

    fenced_now : (i : ℕ) (ask : Ask) → AsksLogged fs store fences (upto c xs) p (invocation_state setup fs store p (upto c xs)) i ask → AreFenced fences (marked_reads p xs)
    fenced_now i ask logs = subst (AreFenced fences) (sym (same_marks setup fs store p c xs same)) logs.fenced

    point_now : invocation_state setup fs store p xs ≡ invocation_state setup fs store p (upto c xs)
    point_now = same_point setup fs store p c xs same

  -- it fits, and the marked reads behind it have their fences
  record IsFit (body : Body) : Type 0 where
    pub fits : MayFollow setup fs store xs body
    pub fenced : FencedBehind fences (step_of body) xs

  abbrev StepOf : List ℕ → Body → Type 0
  StepOf p body = (c : ℕ) → IsSamePlace p c xs → IsPath p → IsNext setup fs store fences (upto c xs) xs body → IsFit body

  fits_init : (p : List ℕ) → StepOf p (b.Init p)
  fits_init p c same path next =
      let unbegun : (invocation_state setup fs store p xs).begun ≡ false = ap (λ (st : InvocationState). st.begun) (point_now p c same) ∙ next.new in
      record {
        fits = record { call = next.call; called = called_upto setup fs store p c next.call xs next.called; new = unbegun };
        fenced = subst (AreFenced fences) (sym (unbegun_marks setup fs store p xs sound.fit unbegun)) tt;
      }

  fits_read : (p : List ℕ) (i : ℕ) (key : List ℕ) → StepOf p (b.Read p i key)
  fits_read p i key c same path next = record { fits = logs_now p c same i (k.Op (o.Read key)) next; fenced = fenced_now p c same i (k.Op (o.Read key)) next }

  fits_read_all : (p : List ℕ) (i : ℕ) (keys : List (List ℕ)) → StepOf p (b.ReadGroup p i keys)
  fits_read_all p i keys c same path next = record { fits = logs_now p c same i (k.Op (o.ReadGroup keys)) next; fenced = fenced_now p c same i (k.Op (o.ReadGroup keys)) next }

  fits_push : (p : List ℕ) (i : ℕ) (queue : List ℕ) (value : Value) → StepOf p (b.Push p i queue value)
  fits_push p i queue value c same path next = record { fits = logs_now p c same i (k.Op (o.Push queue value)) next; fenced = fenced_now p c same i (k.Op (o.Push queue value)) next }

  fits_pop : (p : List ℕ) (i : ℕ) (queue : List ℕ) → StepOf p (b.Pop p i queue)
  fits_pop p i queue c same path next = record { fits = logs_now p c same i (k.Op (o.Pop queue)) next; fenced = fenced_now p c same i (k.Op (o.Pop queue)) next }

  fits_begin : (p : List ℕ) (i : ℕ) (names : List (List ℕ)) → StepOf p (b.TxnBegin p i names)
  fits_begin p i names c same path next = record { fits = logs_now p c same i (k.Op (o.Begin names)) next; fenced = fenced_now p c same i (k.Op (o.Begin names)) next }

  fits_finish : (p : List ℕ) (i : ℕ) (outcome : Outcome) → StepOf p (b.Finish p i outcome)
  fits_finish p i outcome c same path next = record { fits = logs_now p c same i (k.Done outcome) next; fenced = fenced_now p c same i (k.Done outcome) next }

  fits_write : (p : List ℕ) (i : ℕ) (place : ℕ) (key : List ℕ) (here : Option Value) → StepOf p (b.Write p i place key here)
  fits_write p i place key here c same path next = record {
    fits = record { value = next.0.value; asks = logs_now p c same i (k.Op (o.Write key next.0.value)) next.2; kept = next.0.kept };
    fenced = fenced_now p c same i (k.Op (o.Write key next.0.value)) next.2;
  }

  fits_spawn : (p : List ℕ) (i : ℕ) (ordinal : ℕ) (name : List ℕ) (args : List Value) → StepOf p (b.Spawn p i ordinal name args)
  fits_spawn p i ordinal name args c same path next = record {
    fits = record { function = next.0; asks = logs_now p c same i (k.Op (o.Spawn ordinal next.0 args)) next.2; found = next.1; unknown = next_child setup fs store p xs (free_operations_to i (invocation_state setup fs store p xs)) ordinal next.0 args (path_some p path) sound.fit (logs_now p c same i (k.Op (o.Spawn ordinal next.0 args)) next.2).asked };
    fenced = fenced_now p c same i (k.Op (o.Spawn ordinal next.0 args)) next.2;
  }

  fits_join : (p : List ℕ) (i : ℕ) (ordinal : ℕ) → StepOf p (b.Join p i ordinal)
  fits_join p i ordinal c same path next = record {
    fits = record { outcome = next.1.0; asks = logs_now p c same i (k.Op (o.Join ordinal)) next.0; result = next.1.1 };
    fenced = fenced_now p c same i (k.Op (o.Join ordinal)) next.0;
  }

  fits_commit : (p : List ℕ) (i : ℕ) (begin : ℕ) (names : List (List ℕ)) (writes : List (List ℕ × Value)) → StepOf p (b.TxnCommit p i begin names writes)
  fits_commit p i begin names writes c same path next = record {
    fits = record { asks = logs_now p c same i (k.Op (o.Commit names writes)) next.1; begin_is = ap (λ (st : InvocationState). st.transaction) (point_now p c same) ∙ next.0.begin_is };
    fenced = fenced_now p c same i (k.Op (o.Commit names writes)) next.1;
  }

-- A record that is live is at its place.

pub among_each : {A : Type 0} (P : A → Type 0) (x : A) (ys : List A) → IsAmong x ys → AllByRecursion P ys → P x
among_each P x [] among all = absurd among
among_each P x (y ∷ ys) among all = ⊎_elim (λ same. subst P (sym same) all.0) (λ rest. among_each P x ys rest all.1) among

one_number : (p : List ℕ) → length p ≡ 1 → p ≡ slice_index p 0 ∷ []
one_number [] e = absurd (omega (arith, e))
one_number (n ∷ []) e = refl
one_number (n ∷ m ∷ p) e = absurd (omega (arith, e))

-- The call of a path has its call tag.

call_tagged : (p : List ℕ) (body : Body) (tags : List Tag) (c : Call) → OwnTags body tags → call_in p body ≡ Some c → has_tag (call_tag p) tags ≡ true
call_tagged p (b.Submit q f args) tags c own is = ap (has_tag (call_tag p)) own ∙ at (bytes_eq p q) refl is
  where
    at : (t : Bool) → bytes_eq p q ≡ t → cond t (Some (record { function = f; args = args })) None ≡ Some c → has_tag (call_tag p) (tags_of (b.Submit q f args)) ≡ true
    at true e is = or_left (eqb (call_tag p) (call_tag q)) false (eq-eqb (call_tag p) (call_tag q) (ap call_tag (same_key p q e)))
    at false e is = cc
call_tagged p (b.Spawn q i ordinal f args) tags c own is = ap (has_tag (call_tag p)) own ∙ at (bytes_eq p (child q ordinal)) refl is
  where
    at : (t : Bool) → bytes_eq p (child q ordinal) ≡ t → cond t (Some (record { function = f; args = args })) None ≡ Some c → has_tag (call_tag p) (tags_of (b.Spawn q i ordinal f args)) ≡ true
    at true e is =
        or_right (eqb (call_tag p) (step_tag q)) (eqb (call_tag p) (call_tag (child q ordinal)) || false)
        (or_left (eqb (call_tag p) (call_tag (child q ordinal))) false (eq-eqb (call_tag p) (call_tag (child q ordinal)) (ap call_tag (same_key p (child q ordinal) e))))
    at false e is = cc
call_tagged p _ tags c own is = cc

uncounted : (p : List ℕ) (log : List (LogRecord Body)) → AllByRecursion IsWellFormed log → count (call_tag p) (live log) ≡ 0 → call_of p (live log) ≡ None
uncounted p [] own none = refl
uncounted p (r ∷ log) own none = at (meets_condition r.condition (live log)) (uncounted p log own.1) none
  where
    joined_none : (o : Option Call) → call_in p r.holds ≡ o → has_tag (call_tag p) r.tags ≡ false → option_or None o ≡ None
    joined_none None e no_tag = refl
    joined_none (Some c) e no_tag = let tagged = call_tagged p r.holds r.tags c own.0.tags e in let no_way : true ≡ false = sym tagged ∙ no_tag in cc

    counted : (t : Bool) → has_tag (call_tag p) r.tags ≡ t → (count (call_tag p) (live log) ≡ 0 → call_of p (live log) ≡ None) → cond t (suc (count (call_tag p) (live log))) (count (call_tag p) (live log)) ≡ 0 → option_or (call_of p (live log)) (call_in p r.holds) ≡ None
    counted true e ih none = absurd (let h : ⊥ = omega (arith, none) in h)
    counted false e ih none = ap (λ o. option_or o (call_in p r.holds)) (ih none) ∙ joined_none (call_in p r.holds) refl e

    at : (t : Bool) → (count (call_tag p) (live log) ≡ 0 → call_of p (live log) ≡ None) → count (call_tag p) (cond t (record { seq = suc (length log); tags = r.tags; holds = r.holds } ∷ live log) (live log)) ≡ 0 → call_of p (cond t (record { seq = suc (length log); tags = r.tags; holds = r.holds } ∷ live log) (live log)) ≡ None
    at true ih none = counted (has_tag (call_tag p) r.tags) refl ih none
    at false ih none = ih none

module _ (setup : Setup) (fs : List Function) (store : Store) (log : List (LogRecord Body)) (own : AllByRecursion IsWellFormed log) (sound : IsSound setup fs store (live log)) where
  place_taken : (p : List ℕ) (c : ℕ) (condition : Option Cond) → IsPath p → condition ≡ place_condition p (invocation_state setup fs store p (upto c (live log))).place → meets_condition condition (live log) ≡ true → IsSamePlace p c (live log)
  place_taken p c condition path is meet =
      let place = (invocation_state setup fs store p (upto c (live log))).place in
      let here : eqb place (length (step_seqnums p (live log))) ≡ true = sym ((in_order p path log own).next place) ∙ ap (λ c. meets_condition c (live log)) (sym is) ∙ meet in
      sym (place_is setup fs store p (upto c (live log)) (fit_upto setup fs store p c (live log) sound.fit)) ∙ eqb-true place (length (step_seqnums p (live log))) here

  abbrev Fit : Body → List KeyFence → Type 0
  Fit body fences = IsFit setup fs store fences (length log) (live log) (live_under log) sound body

  -- a step record
  step_fits :
      (fences : List KeyFence) (p : List ℕ) (body : Body) (condition : Option Cond) → IsPath p
      → ((c : ℕ) → IsSamePlace p c (live log) → IsPath p → IsNext setup fs store fences (upto c (live log)) (live log) body → Fit body fences)
      → meets_condition condition (live log) ≡ true → IsStepRecord setup fs store fences (length log) (live log) p condition body → Fit body fences
  step_fits fences p body condition path fits meet step = fits step.c (place_taken p step.c condition path step.place meet) path step.next

  -- a path whose call tag has no live record isn't called
  not_called : (p : List ℕ) → count (call_tag p) (live log) ≡ 0 → call_of p (live log) ≡ None
  not_called p none = uncounted p log own none

  record_fits : (fences : List KeyFence) (body : Body) (condition : Option Cond) → has_paths body ≡ true → meets_condition condition (live log) ≡ true → SentOfKind setup fs store fences (length log) (live log) condition body (step_of body) → Fit body fences
  record_fits fences (b.Submit p f args) condition paths meet kind = record {
    fits = record {
      request = one_number p (eqb-true (length p) 1 (and_parts _ _ paths).1);
      unknown = not_called p (sym (eqb-true 0 (count (call_tag p) (live log)) (ap (λ c. meets_condition c (live log)) (sym kind) ∙ meet)));
    };
    fenced = tt;
  }
  record_fits fences (b.Init p) condition paths meet kind = step_fits fences p (b.Init p) condition paths (fits_init setup fs store fences (length log) (live log) (live_under log) sound p) meet kind
  record_fits fences (b.Read p i key) condition paths meet kind =
      step_fits fences p (b.Read p i key) condition paths (fits_read setup fs store fences (length log) (live log) (live_under log) sound p i key) meet kind
  record_fits fences (b.ReadGroup p i keys) condition paths meet kind =
      step_fits fences p (b.ReadGroup p i keys) condition paths (fits_read_all setup fs store fences (length log) (live log) (live_under log) sound p i keys) meet kind
  record_fits fences (b.Write p i place key here) condition paths meet kind =
      step_fits fences p (b.Write p i place key here) condition paths (fits_write setup fs store fences (length log) (live log) (live_under log) sound p i place key here) meet kind
  record_fits fences (b.Spawn p i ordinal name args) condition paths meet kind =
      step_fits fences p (b.Spawn p i ordinal name args) condition (and_parts _ _ (and_parts _ _ paths).0).0 (fits_spawn setup fs store fences (length log) (live log) (live_under log) sound p i ordinal name args) meet kind
  record_fits fences (b.Join p i ordinal) condition paths meet kind =
      step_fits fences p (b.Join p i ordinal) condition paths (fits_join setup fs store fences (length log) (live log) (live_under log) sound p i ordinal) meet kind
  record_fits fences (b.Push p i queue value) condition paths meet kind =
      step_fits fences p (b.Push p i queue value) condition paths (fits_push setup fs store fences (length log) (live log) (live_under log) sound p i queue value) meet kind
  record_fits fences (b.Pop p i queue) condition paths meet kind =
      step_fits fences p (b.Pop p i queue) condition paths (fits_pop setup fs store fences (length log) (live log) (live_under log) sound p i queue) meet kind
  record_fits fences (b.TxnBegin p i names) condition paths meet kind =
      step_fits fences p (b.TxnBegin p i names) condition paths (fits_begin setup fs store fences (length log) (live log) (live_under log) sound p i names) meet kind
  record_fits fences (b.TxnCommit p i begin names writes) condition paths meet kind =
      step_fits fences p (b.TxnCommit p i begin names writes) condition paths (fits_commit setup fs store fences (length log) (live log) (live_under log) sound p i begin names writes) meet kind
  record_fits fences (b.Finish p i outcome) condition paths meet kind =
      step_fits fences p (b.Finish p i outcome) condition paths (fits_finish setup fs store fences (length log) (live log) (live_under log) sound p i outcome) meet kind
  record_fits fences _ condition paths meet kind = record { fits = tt; fenced = tt }

  -- a record that is ordered keeps the log sound, with its fences
  record SoundWith (fences : List KeyFence) (r : LogRecord Body) : Type 0 where
    pub sound_then : IsSound setup fs store (live (r ∷ log))
    pub fenced_then : AllFenced store fences (live (r ∷ log))

  joined_sound : (fences : List KeyFence) (r : LogRecord Body) → AllFenced store fences (live log) → IsSentRecord setup fs store fences (length log) (live log) r → SoundWith fences r
  joined_sound fences r fenced asked = at (meets_condition r.condition (live log)) refl
    where
      at : (t : Bool) → meets_condition r.condition (live log) ≡ t → SoundWith fences r
      at false e =
          let same : live log ≡ live (r ∷ log) = sym (ap (λ t. cond t (record { seq = suc (length log); tags = r.tags; holds = r.holds } ∷ live log) (live log)) e) in
          record { sound_then = subst (IsSound setup fs store) same sound; fenced_then = subst (AllFenced store fences) same fenced }
      at true e =
          let same : record { seq = suc (length log); tags = r.tags; holds = r.holds } ∷ live log ≡ live (r ∷ log) = sym (ap (λ t. cond t (record { seq = suc (length log); tags = r.tags; holds = r.holds } ∷ live log) (live log)) e) in
          let fit = record_fits fences r.holds r.condition asked.own.paths e asked.kind in
          record {
            sound_then = subst (IsSound setup fs store) same (sound_more setup fs store fences (length log) (live log) (live_under log) sound r.tags r.holds fit.fits);
            fenced_then = subst (AllFenced store fences) same (fenced_more setup fs store fences (length log) (live log) (live_under log) sound r.tags r.holds fit.fenced fenced);
          }

pub orders_keep : OrderingKeepsInvariant
orders_keep setup fs w r holds among =
    let asked_is : (x : LogRecord Body) → IsAmong x w.sent → IsSentRecord setup fs (values_only w.store) w.store.fences (length w.log) (records w) x =
    λ x is. among_each (IsSentRecord setup fs (values_only w.store) w.store.fences (length w.log) (records w)) x w.sent is holds.sent in
    let own : AllByRecursion IsWellFormed w.log = each_weaker (λ x. IsAmong x w.sent) IsWellFormed (λ x is. (asked_is x is).own) w.log holds.ordered in
    let then_ = joined_sound setup fs (values_only w.store) w.log own holds.sound w.store.fences r holds.fenced (asked_is r among) in
    (steps_keep setup fs w holds).order r among then_.sound_then then_.fenced_then
