-- Ended invocations are left alone.
use Rattle.std.proofs.Common.{◌≡◌, inl, inr, ⊎_elim, ℕ, suc, ◌<◌, ◌≤◌, max, Bool, true, false, cond, ltb, eqb, ◌&&◌, not, List, [], ◌∷◌, length, Option, Some, None, refl, sym, ap, ◌∙◌, subst, arith}
use Rattle.std.specs.Prelude.{bytes_eq, is_some}
use Rattle.std.specs.List.{AllByRecursion}
use Rattle.std.proofs.lemmas.Bool.{eqb-true, ltb-true, ltb-false}
use Rattle.lb_base.specs.Path.{IsPath}
use Rattle.lb_base.specs.declared.value.Value.{Value}
use Rattle.lb_base.specs.declared.value.Mode.TheVariants.{W}
use Rattle.lb_base.specs.declared.value.Outcome.{Outcome}
use Rattle.boki_types.specs.declared.body.Body.{Body}
use Rattle.boki_types.specs.declared.body.Body.TheVariants as b
use Rattle.boki_types.specs.declared.log.Sent.{Sent}
use Rattle.boki_types.specs.declared.operation.Op.TheVariants as o
use Rattle.boki_types.specs.declared.operation.Ask.{Ask}
use Rattle.boki_types.specs.declared.operation.Ask.TheVariants as k
use Rattle.boki_types.specs.declared.plan.Setup.{Setup}
use Rattle.boki_types.specs.declared.program.Function.{Function}
use Rattle.boki_types.specs.declared.line.StepLine.{StepLine}
use Rattle.boki_types.specs.declared.line.StepLine.TheVariants as l
use Rattle.boki_model.specs.Live.{LogRecord, Live, meets_condition, upto}
use Rattle.std.specs.Option.{option_or}
use Rattle.boki_model.specs.Reads.{nth}
use Rattle.boki_model.specs.Bodies.{step_of, step_tag}
use Rattle.boki_model.specs.Modes.{result_of, finish_of}
use Rattle.boki_model.specs.Writes.{Store, KeyFence, fence, raise_fences, value_under_name, version_value, has_version, here_or_named, after_put, add_if_new}
use Rattle.boki_machine.specs.Attempt.{Attempt, next_index}
use Rattle.boki_machine.specs.Decided.{InvocationState, invocation_state}
use Rattle.boki_machine.specs.Step.{attempt_ask, next_write_name, step, miss}
use Rattle.exactly_once.specs.Induction.SoundLogs.{AllMayFollow}
use Rattle.exactly_once.specs.FurtherLaws.StepRecords.{IsWellFormed, step_seqnums}
use Rattle.exactly_once.specs.FurtherLaws.ModesAndFloors.{IsEnded}
use Rattle.exactly_once.specs.Induction.Invariant.{World, records, marked_reads, marked_reads_at, marked_reads_by, AreFenced, AllFenced, FencedBehind, AsksLogged, IsNext, IsStepRecord, SentOfKind, Follows, InvariantHolds}
use Rattle.exactly_once.specs.FurtherLaws.Words.{values_only, IsAmong}
use Rattle.exactly_once.specs.Induction.StepKeeps.{view_of}
use Rattle.exactly_once.specs.FurtherLaws.EndedInvocations.{IsInlineWrite, NamedValuesStay, unchanged, one_more, StoreStays}
use Rattle.exactly_once.proofs.Log.HistoryTails.{Tail, here, there, longer}
use Rattle.exactly_once.proofs.Log.ListElements.{each_tail}
use Rattle.exactly_once.proofs.Log.LiveRecords.{live_under, under_tail}
use Rattle.exactly_once.proofs.Log.MapChanges.{same_key, same_itself}
use Rattle.exactly_once.proofs.Log.StepRecords.{in_order}
use Rattle.exactly_once.proofs.Log.ModesAndFloors.{below_floor}
use Rattle.exactly_once.proofs.Invocations.NextRecord.{stands, Does, does, apart, began, operates, ends, unbegun, result_is}
use Rattle.exactly_once.proofs.Invocations.SamePlace.{no_own_step, IsSamePlace, same_point, marks_apart, fit_upto, place_is}
use Rattle.exactly_once.proofs.OldVersions.OneVersionMore.{marks_behind}
use Rattle.exactly_once.proofs.Invocations.InitAndCursor.{upto_tail, HasInit, has_init, stands_on}
use Rattle.exactly_once.proofs.Asking.OpenTransactions.{same_step}
use Rattle.exactly_once.proofs.OldVersions.StepOrigins.{own_log, asked_is, StepLogs, next_logs, step_is_path, entry_of, origin}
use Rattle.exactly_once.proofs.Attempts.ActingAttempt.{engine_at, following, up_to}
use Rattle.exactly_once.proofs.OldVersions.Writers.{IsWriter}
use Rattle.exactly_once.proofs.OldVersions.NoStepBeyond.{FirstAbove, first_above, unended_now}
use Rattle.exactly_once.proofs.Invocations.RecordAtPlace.{IsTagged, IsRecorded, recorded, all_tagged, earlier}
use Rattle.exactly_once.proofs.Attempts.OneValueOfAName.{one_ask}
use Rattle.exactly_once.proofs.Attempts.FreeSteps.{not_fresh}
use Rattle.exactly_once.proofs.Attempts.SentIsAsked as sends
use Rattle.exactly_once.proofs.Attempts.WithoutRecord.{no_value}
use Rattle.exactly_once.proofs.Machines.StepEffects.{keys_of, is_gone, Effect, leaves, stops, stops_there, fences_keys, puts, names_value, step_effect, miss_effect}

path_is : (s t : List ℕ × ℕ) → Some s ≡ Some t → s.0 ≡ t.0
path_is s t e = ap (λ (s : List ℕ × ℕ). s.0) (same_step s t e)

pub tail_among : {A : Type 0} (x : A) (xs ys : List A) → Tail (x ∷ xs) ys → IsAmong x ys
tail_among x xs ys here = inl refl
tail_among x xs (y ∷ ys) (there t) = inr (tail_among x xs ys t)

-- The marked reads of an invocation that has ended have their fences.

module _ (setup : Setup) (fs : List Function) (store : Store) (fences : List KeyFence) (p : List ℕ) where
  pub not_over : (xs : List (Live Body)) → AllMayFollow setup fs store xs → IsEnded p xs → (stands setup fs store p xs).result ≡ None → ⊥
  not_over xs fit ended unended = let no_way : false ≡ true = ap is_some (sym unended ∙ result_is setup fs store xs p fit) ∙ ended in cc

  pub ended_marks : (xs : List (Live Body)) → AllMayFollow setup fs store xs → AllFenced store fences xs → IsEnded p xs → AreFenced fences (marked_reads p xs)
  ended_marks [] fit fenced ended = let no_way : false ≡ true = ended in cc
  ended_marks (x ∷ xs) fit fenced ended = at (ended_marks xs fit.2 fenced.2) (stands setup fs store p (x ∷ xs)) refl (does setup fs store x xs p fit.0)
    where
      before : finish_of p x.holds ≡ None → IsEnded p xs
      before none = by (result_of p xs) (ap (λ o. is_some (option_or (result_of p xs) o)) (sym none) ∙ ended)
        where
          by : (r : Option Outcome) → is_some (option_or r None) ≡ true → is_some r ≡ true
          by None e = e
          by (Some r) e = refl

      at : (IsEnded p xs → AreFenced fences (marked_reads p xs)) → (next : InvocationState) → stands setup fs store p (x ∷ xs) ≡ next → Does setup fs store x.seq x.holds xs p next → AreFenced fences (marked_reads p (x ∷ xs))
      at ih next e (apart other finish is) = subst (AreFenced fences) (sym (marks_apart p x.seq x.holds (marked_reads p xs) (no_own_step p (step_of x.holds) other))) (ih (before finish))
      at ih next e (began body may is) = absurd (not_over (x ∷ xs) fit ended (ap (λ (st : InvocationState). st.result) (e ∙ is)))
      at ih next e (operates i step finish reaches is) = absurd (not_over (x ∷ xs) fit ended (ap (λ (st : InvocationState). st.result) (e ∙ is) ∙ reaches.unended))
      at ih next e (ends i outcome body asks is) =
          subst (AreFenced fences) (sym (ap (λ body. marked_reads_by p x.seq body (marked_reads p xs)) body))
          (subst (λ s. FencedBehind fences s xs) (ap step_of body) fenced.0)

module _ (fences : List KeyFence) where
  pub marks_tail : (p : List ℕ) (ys xs : List (Live Body)) → Tail ys xs → AreFenced fences (marked_reads p xs) → AreFenced fences (marked_reads p ys)
  marks_tail p ys xs here all = all
  marks_tail p ys (x ∷ xs) (there t) all = marks_tail p ys xs t (marks_behind fences p x.seq x.holds (marked_reads p xs) all)

  -- a marker's own
  own_marks : (p : List ℕ) (seq i : ℕ) (keys : List (List ℕ)) (body : Body) (others : List KeyFence) → step_of body ≡ Some (p, i) → keys_of body ≡ Some keys → AreFenced fences (marked_reads_by p seq body others) → AreFenced fences (marked_reads_at seq keys others)
  own_marks p seq i keys (b.Read q j key) others step is all = own (let e : Some (key ∷ []) ≡ Some keys = is in let same : key ∷ [] ≡ keys = cc in same)
    where
      own : key ∷ [] ≡ keys → AreFenced fences (marked_reads_at seq keys others)
      own same = subst (λ keys. AreFenced fences (marked_reads_at seq keys others)) same
          (subst (λ t. AreFenced fences (cond t (marked_reads_at seq (key ∷ []) others) others)) (ap (bytes_eq p) (path_is (q, j) (p, i) step) ∙ same_itself p) all)
  own_marks p seq i keys (b.ReadGroup q j read) others step is all = own (let e : Some read ≡ Some keys = is in let same : read ≡ keys = cc in same)
    where
      own : read ≡ keys → AreFenced fences (marked_reads_at seq keys others)
      own same = subst (λ keys. AreFenced fences (marked_reads_at seq keys others)) same
          (subst (λ t. AreFenced fences (cond t (marked_reads_at seq read others) others)) (ap (bytes_eq p) (path_is (q, j) (p, i) step) ∙ same_itself p) all)
  own_marks p seq i keys _ others step is all = cc

  -- where a marker's keys have their fences, raising them again changes none
  raised_again : (seq : ℕ) (keys : List (List ℕ)) (others : List KeyFence) → AreFenced fences (marked_reads_at seq keys others) → (q : List ℕ) → fence q (raise_fences keys seq fences) ≡ fence q fences
  raised_again seq [] others all q = refl
  raised_again seq (key ∷ keys) others all q = at (raised_again seq keys others all.1 q) (bytes_eq q key) refl
    where
      at : fence q (raise_fences keys seq fences) ≡ fence q fences → (t : Bool) → bytes_eq q key ≡ t → cond t (max seq (fence q (raise_fences keys seq fences))) (fence q (raise_fences keys seq fences)) ≡ fence q fences
      at ih false e = ih
      at ih true e =
          let le : seq ≤ fence q fences = subst (λ k. seq ≤ fence k fences) (sym (same_key q key e)) all.0 in
          ap (max seq) ih ∙ (let h : max seq (fence q fences) ≡ fence q fences = grind arith in h)

-- The next step record at the place of an attempt that asks a write is of that write.

pub record IsWrite (store : Store) (body : Body) (path : List ℕ) (at : ℕ) (value : Value) : Type 0 where
  pub index : ℕ
  pub key : List ℕ
  pub here_is : Option Value
  pub is_write : body ≡ b.Write path index at key here_is
  pub kept : here_or_named here_is (record { path = path; place = at }) store.named ≡ Some value

module _ (setup : Setup) (fs : List Function) (store : Store) (fences : List KeyFence) (behind now : List (Live Body)) (p : List ℕ) (key : List ℕ) (value : Value) (begun : (stands setup fs store p behind).begun ≡ true) (one : (j : ℕ) (ask : Ask) → AsksLogged fs store fences behind p (stands setup fs store p behind) j ask → ask ≡ k.Op (o.Write key value)) where
  abbrev place_now : ℕ
  place_now = (stands setup fs store p behind).place

  -- at the record's own path
  one_at : (q : List ℕ) (i j : ℕ) → ◌≡◌ {A = Option (List ℕ × ℕ)} (Some (q, j)) (Some (p, i)) → (ask : Ask) → AsksLogged fs store fences behind q (stands setup fs store q behind) j ask → ask ≡ k.Op (o.Write key value)
  one_at q i j e ask logs = one j ask (subst (λ q. AsksLogged fs store fences behind q (stands setup fs store q behind) j ask) (path_is (q, j) (p, i) e) logs)

  write_of : (body : Body) (i : ℕ) → step_of body ≡ Some (p, i) → IsNext setup fs store fences behind now body → IsWrite store body p place_now value
  write_of (b.Init q) i step next =
      absurd (let no_way : true ≡ false = sym begun ∙ ap (λ q. (stands setup fs store q behind).begun) (sym (path_is (q, 1) (p, i) step)) ∙ next.new in let h : ⊥ = cc in h)
  write_of (b.Write q j place written here_is) i step next =
      let e : k.Op (o.Write written next.0.value) ≡ k.Op (o.Write key value) = one_at q i j step (k.Op (o.Write written next.0.value)) next.2 in
      let value_is : next.0.value ≡ value = cc in
      let path : q ≡ p = path_is (q, j) (p, i) step in
      let there_is : place ≡ place_now = next.1 ∙ ap (λ q. (stands setup fs store q behind).place) path in
      record {
        index = j;
        key = written;
        here_is = here_is;
        is_write = λ u. b.Write (path u) j (there_is u) written here_is;
        kept = (λ u. here_or_named here_is (record { path = sym path u; place = sym there_is u }) store.named) ∙ next.0.kept ∙ ap Some value_is;
      }
  write_of (b.Read q j read) i step next = let e : k.Op (o.Read read) ≡ k.Op (o.Write key value) = one_at q i j step (k.Op (o.Read read)) next in cc
  write_of (b.ReadGroup q j read) i step next = let e : k.Op (o.ReadGroup read) ≡ k.Op (o.Write key value) = one_at q i j step (k.Op (o.ReadGroup read)) next in cc
  write_of (b.Spawn q j ordinal name args) i step next = let e : k.Op (o.Spawn ordinal next.0 args) ≡ k.Op (o.Write key value) = one_at q i j step (k.Op (o.Spawn ordinal next.0 args)) next.2 in cc
  write_of (b.Join q j ordinal) i step next = let e : k.Op (o.Join ordinal) ≡ k.Op (o.Write key value) = one_at q i j step (k.Op (o.Join ordinal)) next.0 in cc
  write_of (b.Push q j queue v) i step next = let e : k.Op (o.Push queue v) ≡ k.Op (o.Write key value) = one_at q i j step (k.Op (o.Push queue v)) next in cc
  write_of (b.Pop q j queue) i step next = let e : k.Op (o.Pop queue) ≡ k.Op (o.Write key value) = one_at q i j step (k.Op (o.Pop queue)) next in cc
  write_of (b.TxnBegin q j names) i step next = let e : k.Op (o.Begin names) ≡ k.Op (o.Write key value) = one_at q i j step (k.Op (o.Begin names)) next in cc
  write_of (b.TxnCommit q j begin names writes) i step next = let e : k.Op (o.Commit names writes) ≡ k.Op (o.Write key value) = one_at q i j step (k.Op (o.Commit names writes)) next.1 in cc
  write_of (b.Finish q j outcome) i step next = let e : k.Done outcome ≡ k.Op (o.Write key value) = one_at q i j step (k.Done outcome) next in cc
  write_of _ i step next = cc

-- A state that the invariant holds of.

module _ (setup : Setup) (fs : List Function) (w : World) (holds : InvariantHolds setup fs w) where
  abbrev now : List (Live Body)
  now = records w

  abbrev store : Store
  store = values_only w.store

  -- what an ended invocation's step record was sent for, is ordered already
  pub dead : (p : List ℕ) → IsEnded p now → (r : LogRecord Body) → IsAmong r w.sent → (i : ℕ) → step_of r.holds ≡ Some (p, i) → meets_condition r.condition now ≡ false
  dead p ended r among i step_is = at (meets_condition r.condition now) refl
    where
      is : IsStepRecord setup fs store w.store.fences (length w.log) now p r.condition r.holds
      is = subst (SentOfKind setup fs store w.store.fences (length w.log) now r.condition r.holds) step_is (asked_is setup fs w holds r among).kind

      path : IsPath p
      path = step_is_path p i r.holds step_is (asked_is setup fs w holds r among).own.paths

      unended : (invocation_state setup fs store p (upto is.c now)).result ≡ None
      unended =
          ⊎_elim (λ may. ap (λ (st : InvocationState). st.result) (unbegun setup fs store (upto is.c now) p (fit_upto setup fs store p is.c now holds.sound.fit) may.new)) (λ l. l.logs.asks.reaches.unended)
          (subst (StepLogs setup fs store w.store.fences (upto is.c now) now) step_is (next_logs setup fs store w.store.fences (upto is.c now) now r.holds is.next))

      never : meets_condition r.condition now ≡ true → ⊥
      never live =
          let place = (invocation_state setup fs store p (upto is.c now)).place in
          let last : eqb place (length (step_seqnums p now)) ≡ true = sym ((in_order p path w.log (own_log setup fs w holds)).next place) ∙ ap (λ c. meets_condition c now) (sym is.place) ∙ live in
          let same : IsSamePlace p is.c now =
          sym (place_is setup fs store p (upto is.c now) (fit_upto setup fs store p is.c now holds.sound.fit)) ∙ eqb-true place (length (step_seqnums p now)) last in
          not_over setup fs store w.store.fences p now holds.sound.fit ended (ap (λ (st : InvocationState). st.result) (same_point setup fs store p is.c now same) ∙ unended)

      at : (t : Bool) → meets_condition r.condition now ≡ t → t ≡ false
      at false e = refl
      at true e = absurd (never e)

  -- Where an ended invocation asked a write that may be logged, behind the records up to c, its next step record is that write.
  module _ (p : List ℕ) (ended : IsEnded p now) (c i : ℕ) (key : List ℕ) (value : Value) (logs : AsksLogged fs store w.store.fences (upto c now) p (stands setup fs store p (upto c now)) i (k.Op (o.Write key value))) where
    abbrev there_then : InvocationState
    there_then = stands setup fs store p (upto c now)

    pub next_step : FirstAbove setup fs store p c now now
    next_step =
        ⊎_elim (λ same. absurd (not_over setup fs store w.store.fences p now holds.sound.fit ended (ap (λ (st : InvocationState). st.result) (same_point setup fs store p c now same) ∙ logs.asks.reaches.unended)))
        (λ n. n) (first_above setup fs store p c now now refl)

    pub its_record : IsWrite store next_step.step.holds p there_then.place value
    its_record =
        let n = next_step in
        let from = origin setup fs w holds n.step n.rest p n.index n.tail n.step_is in
        let there_is : invocation_state setup fs store p (upto from.c now) ≡ there_then = from.same ∙ n.same in
        let places : there_then.place ≡ (stands setup fs store p (upto from.c now)).place = ap (λ (st : InvocationState). st.place) (sym there_is) in
        let one : (j : ℕ) (ask : Ask) → AsksLogged fs store w.store.fences (upto from.c now) p (stands setup fs store p (upto from.c now)) j ask → ask ≡ k.Op (o.Write key value) =
        λ j ask others. sym (one_ask setup fs store w.store.fences (length w.log) now (live_under w.log) holds.sound.fit p c from.c i j (k.Op (o.Write key value)) ask places logs others) in
        subst (λ place. IsWrite store n.step.holds p place value) (sym places)
        (write_of setup fs store w.store.fences (upto from.c now) now p key value (ap (λ (st : InvocationState). st.begun) there_is ∙ logs.asks.reaches.begun) one n.step.holds n.index n.step_is from.next)

  -- An attempt that has adopted its Init.

  module _ (t : Attempt) (among : IsAmong t w.attempts) (place : ℕ) (begun : t.place ≡ suc place) where
    abbrev here_now : List (Live Body)
    here_now = up_to setup fs w holds t

    f : Follows setup fs store w.store.fences here_now t
    f = not_fresh setup fs store w.store.fences (length w.log) now w.positions t place begun (following setup fs w holds t among)

    fit_there : AllMayFollow setup fs store here_now
    fit_there = fit_upto setup fs store t.path t.cursor now holds.sound.fit

    -- its path is that of a record
    path : IsPath t.path
    path =
        let on = stands_on setup fs store t.path here_now fit_there f.begun in
        let e = entry_of on.on on.behind w.log (longer on.tail (upto_tail t.cursor now)) in
        let own = (each_tail IsWellFormed (e.entry ∷ e.older) w.log e.tail (own_log setup fs w holds)).0 in
        step_is_path t.path on.index e.entry.holds (ap step_of e.holds_is ∙ on.step) own.paths

    init : HasInit setup fs store t.path here_now (stands setup fs store t.path here_now)
    init = has_init setup fs store t.path (length w.log) here_now (under_tail here_now (length w.log) now (live_under w.log) (upto_tail t.cursor now)) fit_there f.begun

    -- where its cursor is below the floor, it has ended
    ended_below : (n : ℕ) → t.cursor ≤ n → n < w.store.floor → IsEnded t.path now
    ended_below n le lt =
        below_floor init.init init.behind (length w.log) now t.path (live_under w.log) (longer init.tail (upto_tail t.cursor now)) init.holds_is
        (let low = init.low in let e = f.cursor in let floor_is = holds.floor_is in omega (arith, low, e, le, lt, floor_is))

    -- the record at its place
    module _ (x : Live Body) (found : nth (step_tag t.path) t.place (view_of t w) ≡ Some x) where
      abbrev tags : AllByRecursion (IsTagged t.path) now
      tags = all_tagged t.path path w.log (own_log setup fs w holds)

      r : IsRecorded setup fs store (length w.log) now (live_under w.log) holds.sound.fit t.path tags (engine_at setup fs w holds t) t.place x
      r = recorded setup fs store (length w.log) now (live_under w.log) holds.sound.fit t.path tags (engine_at setup fs w holds t) t.place x found

      ended_there : x.seq < w.store.floor → IsEnded t.path now
      ended_there lt =
          let le = earlier setup fs store (length w.log) now (live_under w.log) holds.sound.fit t.path tags (engine_at setup fs w holds t) t.place x r t.cursor f.place in
          let e = r.seq_is in ended_below x.seq (omega (arith, le, e)) lt

      same_fences : IsEnded t.path now → (keys : List (List ℕ)) → keys_of x.holds ≡ Some keys → (q : List ℕ) → fence q (raise_fences keys x.seq w.store.fences) ≡ fence q w.store.fences
      same_fences ended keys is =
          raised_again w.store.fences x.seq keys (marked_reads t.path r.behind)
          (own_marks w.store.fences t.path x.seq r.index keys x.holds (marked_reads t.path r.behind) r.step is
          (marks_tail w.store.fences t.path (x ∷ r.behind) now (subst (λ ys. Tail ys now) r.cut (upto_tail x.seq now))
          (ended_marks setup fs store w.store.fences t.path now holds.sound.fit holds.fenced ended)))

    -- Where its invocation has ended.

    module _ (ended : IsEnded t.path now) where
      -- no version is put in
      not_put : (key : List ℕ) (value : Value) → attempt_ask fs t ≡ Some (k.Op (o.Write key value)) → t.mode ≡ W → after_put key t.cursor (suc t.free_writes) value w.store ≡ w.store
      not_put key value asked mode = at (ltb t.cursor w.store.floor) (has_version key t.cursor (suc t.free_writes) w.store) (ltb t.cursor (fence key w.store.fences)) refl refl
        where
          never : has_version key t.cursor (suc t.free_writes) w.store ≡ false → ltb t.cursor (fence key w.store.fences) ≡ false → ⊥
          never absent before =
              let writer : IsWriter setup fs store w.store.fences now t key value = record { follows = f; mode_is = mode; asks = asked; new = no_value (version_value key t.cursor (suc t.free_writes) w.store.versions) absent; unfenced = ltb-false t.cursor (fence key w.store.fences) before } in
              let no_way : false ≡ true = ap is_some (sym (unended_now setup fs w holds t key value writer)) ∙ ended in cc

          at : (below_it there_is fenced : Bool) → has_version key t.cursor (suc t.free_writes) w.store ≡ there_is → ltb t.cursor (fence key w.store.fences) ≡ fenced
              → cond (not below_it && not there_is && not fenced) (record (w.store) { versions = record { key = key; cursor = t.cursor; number = suc t.free_writes; value = value } ∷ w.store.versions }) w.store ≡ w.store
          at true there_is fenced a b = refl
          at false true fenced a b = refl
          at false false true a b = refl
          at false false false a b = absurd (never a b)

      -- a value that is put in under a new name stands in its record
      module _ (key : List ℕ) (value : Value) (asked : attempt_ask fs t ≡ Some (k.Op (o.Write key value))) (late : t.mode ≡ W → t.late ≡ true) where
        its_logs : AsksLogged fs store w.store.fences here_now t.path (stands setup fs store t.path here_now) (next_index t.answers) (k.Op (o.Write key value))
        its_logs = sends.logs_write setup fs w holds t among path f key value asked late

        written : IsWrite store (next_step t.path ended t.cursor (next_index t.answers) key value its_logs).step.holds t.path t.place value
        written =
            subst (λ place. IsWrite store (next_step t.path ended t.cursor (next_index t.answers) key value its_logs).step.holds t.path place value) f.place
            (its_record t.path ended t.cursor (next_index t.answers) key value its_logs)

        holds_value : value_under_name (next_write_name t) w.store.named ≡ None → IsInlineWrite t.path now t.place value
        holds_value new = at written.here_is written.is_write written.kept
          where
            next : FirstAbove setup fs store t.path t.cursor now now
            next = next_step t.path ended t.cursor (next_index t.answers) key value its_logs

            at : (o : Option Value) → next.step.holds ≡ b.Write t.path written.index t.place written.key o → here_or_named o (next_write_name t) w.store.named ≡ Some value → IsInlineWrite t.path now t.place value
            at None is kept = absurd (let no_way : None ≡ Some value = sym new ∙ kept in let h : ⊥ = cc in h)
            at (Some v) is kept =
                let same : v ≡ value = cc in
                record {
                  x = next.step;
                  among = tail_among next.step next.rest now next.tail;
                  index = written.index;
                  key = written.key;
                  is_write = is ∙ ap (λ v. b.Write t.path written.index t.place written.key (Some v)) same;
                }

        names_stay : NamedValuesStay t.path now w.store.named (add_if_new (next_write_name t) value w.store.named)
        names_stay = at (value_under_name (next_write_name t) w.store.named) refl
          where
            at : (o : Option Value) → value_under_name (next_write_name t) w.store.named ≡ o → NamedValuesStay t.path now w.store.named (cond (is_some o) w.store.named (record { name = next_write_name t; value = value } ∷ w.store.named))
            at (Some v) e = unchanged refl
            at None e = one_more (record { name = next_write_name t; value = value }) refl e refl (holds_value e)

  module _ (t : Attempt) (among : IsAmong t w.attempts) where
    abbrev Stays : Store → Type 0
    Stays = StoreStays t.path now w.store

    as_it_was : (new : Store) → new ≡ w.store → Stays new
    as_it_was new e = subst Stays (sym e) (record { initial = refl; versions = refl; fences = λ key. refl; floor = refl; named = unchanged refl })

    pub effect_stays : IsEnded t.path now → (at : Sent) (new : Store) (line : StepLine) → Effect setup fs t w.store (view_of t w) at new line → Stays new
    effect_stays ended at new line (leaves e said) = as_it_was new e
    effect_stays ended at new line (stops place begun e low) = as_it_was new e
    effect_stays ended at new line (stops_there place begun x found e low) = as_it_was new e
    effect_stays ended at new line (fences_keys place begun x keys found is e said) =
        subst Stays (sym e) (record { initial = refl; versions = refl; fences = same_fences t among place begun x found ended keys is; floor = refl; named = unchanged refl })
    effect_stays ended at new line (puts place begun key value asked mode late e said) = as_it_was new (e ∙ not_put t among place begun ended key value asked mode)
    effect_stays ended at new line (names_value place begun key value asked late e said) =
        subst Stays (sym e) (record { initial = refl; versions = refl; fences = λ key. refl; floor = refl; named = names_stay t among place begun ended key value asked late })

    gone_ended : (at : Sent) (new : Store) (line : StepLine) → Effect setup fs t w.store (view_of t w) at new line → is_gone line ≡ true → IsEnded t.path now
    gone_ended at new line (leaves e said) gone = let no_way : false ≡ true = sym said ∙ gone in cc
    gone_ended at new line (stops place begun e low) gone = ended_below t among place begun t.cursor (omega arith) (ltb-true t.cursor w.store.floor low)
    gone_ended at new line (stops_there place begun x found e low) gone = ended_there t among place begun x found (ltb-true x.seq w.store.floor low)
    gone_ended at new line (fences_keys place begun x keys found is e said) gone = let no_way : false ≡ true = sym said ∙ gone in cc
    gone_ended at new line (puts place begun key value asked mode late e said) gone = let no_way : false ≡ true = sym said ∙ gone in cc
    gone_ended at new line (names_value place begun key value asked late e said) gone = let no_way : false ≡ true = sym said ∙ gone in cc

    pub step_leaves : IsEnded t.path now → (at : Sent) → Stays (step setup fs w.store (view_of t w) at t).store
    step_leaves ended at =
        let move = step setup fs w.store (view_of t w) at t in
        effect_stays ended at move.store move.line (step_effect setup fs t w.store (view_of t w) at).1

    pub miss_leaves : IsEnded t.path now → Sent → Stays (miss setup fs w.store (view_of t w) t).store
    miss_leaves ended at =
        let missed = miss setup fs w.store (view_of t w) t in
        ⊎_elim (λ e. as_it_was missed.store e) (λ e. subst Stays (sym e) (step_leaves ended at)) (miss_effect setup fs t w.store (view_of t w) at)

    pub gone_only : (at : Sent) → (step setup fs w.store (view_of t w) at t).line ≡ l.StoppedGone → IsEnded t.path now
    gone_only at is =
        let move = step setup fs w.store (view_of t w) at t in
        gone_ended at move.store move.line (step_effect setup fs t w.store (view_of t w) at).1 (ap is_gone is)
