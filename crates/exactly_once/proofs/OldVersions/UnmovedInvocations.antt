-- A version that is put in moves no invocation whose marked reads have their fences.
use Rattle.std.proofs.Common.{◌≡◌, ℕ, suc, ◌-◌, Bool, true, false, cond, List, [], ◌∷◌, length, Option, Some, None, refl, sym, ap, ◌∙◌, subst, arith}
use Rattle.std.specs.Prelude.{bytes_eq}
use Rattle.lb_base.specs.declared.value.Value.{Value}
use Rattle.boki_types.specs.declared.body.Body.{Body}
use Rattle.boki_types.specs.declared.body.Body.TheVariants as b
use Rattle.boki_types.specs.declared.operation.Op.TheVariants as o
use Rattle.boki_types.specs.declared.operation.Ask.{Ask}
use Rattle.boki_types.specs.declared.operation.Ask.TheVariants as k
use Rattle.boki_types.specs.declared.plan.Setup.{Setup}
use Rattle.boki_types.specs.declared.program.Function.{Function}
use Rattle.boki_model.specs.Live.{Live}
use Rattle.boki_model.specs.Bodies.{step_of}
use Rattle.boki_model.specs.Writes.{Store, Version, KeyFence}
use Rattle.boki_machine.specs.Attempt.{Attempt}
use Rattle.boki_machine.specs.Decided.{InvocationState, invocation_state, after_step_record, after_record}
use Rattle.exactly_once.specs.Induction.SoundLogs.{Asks, MayBegin, MayWrite, MayCommit, MayFollow}
use Rattle.exactly_once.specs.FurtherLaws.StepRecords.{is_step_of}
use Rattle.exactly_once.specs.Induction.Invariant.{World, records, marked_reads, AreFenced, FencedBehind, AsksLogged, IsNext, InvariantHolds}
use Rattle.exactly_once.specs.FurtherLaws.Words.{values_only}
use Rattle.boki_model.specs.WriteLaws.{with_version}
use Rattle.exactly_once.specs.Induction.VersionKeeps.{next_version}
use Rattle.exactly_once.proofs.Log.HistoryTails.{Tail, shorter}
use Rattle.exactly_once.proofs.Log.LiveRecords.{Under, live_under, under_tail}
use Rattle.exactly_once.proofs.Log.MapChanges.{same_key, same_itself}
use Rattle.exactly_once.proofs.Invocations.NextRecord.{stands, Does, does, apart, began, operates, ends, cursor_within}
use Rattle.exactly_once.proofs.Invocations.InitAndCursor.{fit_tail}
use Rattle.exactly_once.proofs.OldVersions.Writers.{IsWriter, logs_apart, is_its}
use Rattle.exactly_once.proofs.OldVersions.NoStepBeyond.{none_above, no_later, reads_below}
use Rattle.exactly_once.proofs.OldVersions.OneVersionMore.{marks_behind, IsSafe, IsUnhit, unhit_safe, asks_kept, NotInit, stepped_kept, frame, same_frame}

module _ (setup : Setup) (fs : List Function) (w : World) (holds : InvariantHolds setup fs w) (a : Attempt) (key : List ℕ) (value : Value) (writer : IsWriter setup fs (values_only w.store) w.store.fences (records w) a key value) where
  abbrev pub old : Store
  old = values_only w.store

  abbrev pub fences : List KeyFence
  fences = w.store.fences

  abbrev pub now : List (Live Body)
  now = records w

  abbrev pub v : Version
  v = next_version a key value

  abbrev pub new : Store
  new = with_version v old

  under : Under (length w.log) now
  under = live_under w.log

  -- behind a step record no free operation of its invocation is at the version's cursor
  unhit : (x : Live Body) (xs : List (Live Body)) (q : List ℕ) (i : ℕ) → Tail (x ∷ xs) now → step_of x.holds ≡ Some (q, i) → (stands setup fs old q xs).begun ≡ true → IsUnhit v old fs (stands setup fs old q xs)
  unhit x xs q i t step begun = record { low = λ mode. reads_below setup fs w holds a key value writer q xs (shorter t) begun mode; other = λ mode. above }
    where
      above : (stands setup fs old q xs).cursor ≡ a.cursor → ⊥
      above cursor =
          let it = is_its setup fs old fences (length w.log) now under holds.sound a key value writer q xs (shorter t) begun cursor in
          let u = under_tail (x ∷ xs) (length w.log) now under t in
          let le = cursor_within setup fs old u.0 xs q u.3 (fit_tail setup fs old xs now (shorter t) holds.sound.fit) in
          let first = u.1 in
          none_above a.path a.cursor i x xs (length w.log) now under (no_later setup fs w holds a key value writer) t
          (step ∙ ap (λ q. Some (q, i)) it.path_is) (omega (arith, le, first, cursor))

  pub safe_behind : (x : Live Body) (xs : List (Live Body)) (q : List ℕ) (i n : ℕ) → Tail (x ∷ xs) now → step_of x.holds ≡ Some (q, i) → NotInit v old fs fences writer.unfenced x.holds → IsSafe v old (stands setup fs old q xs) n
  safe_behind x xs q i n t step not_init = at (stands setup fs old q (x ∷ xs)) (does setup fs old x xs q (fit_tail setup fs old (x ∷ xs) now t holds.sound.fit).0)
    where
      from : (stands setup fs old q xs).begun ≡ true → IsSafe v old (stands setup fs old q xs) n
      from begun = unhit_safe v old fs (stands setup fs old q xs) n (unhit x xs q i t step begun)

      at : (next : InvocationState) → Does setup fs old x.seq x.holds xs q next → IsSafe v old (stands setup fs old q xs) n
      at next (apart other f is) = let e = other (q, i) step in let s = same_itself q in let no_way : true ≡ false = sym s ∙ e in cc
      at next (began body may is) = absurd (subst (NotInit v old fs fences writer.unfenced) body not_init)
      at next (operates j s f reaches is) = from reaches.begun
      at next (ends j outcome body asks is) = from asks.reaches.begun

  pub point_kept : (q : List ℕ) (xs : List (Live Body)) → Tail xs now → AreFenced fences (marked_reads q xs) → invocation_state setup fs new q xs ≡ invocation_state setup fs old q xs
  point_kept q [] t fenced = refl
  point_kept q (x ∷ xs) t fenced = at (step_of x.holds) refl (point_kept q xs (shorter t) (marks_behind fences q x.seq x.holds (marked_reads q xs) fenced))
    where
      at : (s : Option (List ℕ × ℕ)) → step_of x.holds ≡ s → invocation_state setup fs new q xs ≡ invocation_state setup fs old q xs → after_record setup fs new xs q x s (invocation_state setup fs new q xs) ≡ after_record setup fs old xs q x s (invocation_state setup fs old q xs)
      at None e ih = ih
      at (Some s) e ih = by_path (bytes_eq q s.0) refl
        where
          by_path : (u : Bool) → bytes_eq q s.0 ≡ u → cond u (after_step_record setup fs new xs q x.seq x.holds s.1 (invocation_state setup fs new q xs)) (invocation_state setup fs new q xs) ≡ cond u (after_step_record setup fs old xs q x.seq x.holds s.1 (invocation_state setup fs old q xs)) (invocation_state setup fs old q xs)
          by_path false f = ih
          by_path true f =
              ap (after_step_record setup fs new xs q x.seq x.holds s.1) ih
              ∙ stepped_kept v old fs fences writer.unfenced setup q xs x.seq x.holds s.1 (invocation_state setup fs old q xs) (marked_reads q xs) (ap (is_step_of q) e ∙ f) fenced
              (safe_behind x xs q s.1 (s.1 - suc (length (invocation_state setup fs old q xs).answers)) t (e ∙ (λ i. Some ((sym (same_key q s.0 f)) i, s.1))))

  -- the frame of any point
  pub framed : (q : List ℕ) (xs : List (Live Body)) → frame (invocation_state setup fs new q xs) ≡ frame (invocation_state setup fs old q xs)
  framed q xs = same_frame setup fs new old q xs

  -- Facts of an invocation.

  asks_here : (q : List ℕ) (xs : List (Live Body)) (i : ℕ) (ask : Ask) → Tail xs now → AreFenced fences (marked_reads q xs) → IsUnhit v old fs (invocation_state setup fs old q xs) → Asks fs old xs q (invocation_state setup fs old q xs) i ask → Asks fs new xs q (invocation_state setup fs new q xs) i ask
  asks_here q xs i ask t fenced is asks = subst (λ st. Asks fs new xs q st i ask) (sym (point_kept q xs t fenced)) (asks_kept v old fs xs q (invocation_state setup fs old q xs) i ask is asks)

  write_here : (q : List ℕ) (xs : List (Live Body)) (i place : ℕ) (name : List ℕ) (kept : Option Value) → Tail xs now → AreFenced fences (marked_reads q xs) → IsUnhit v old fs (invocation_state setup fs old q xs) → MayWrite fs old xs q (invocation_state setup fs old q xs) i place name kept → MayWrite fs new xs q (invocation_state setup fs new q xs) i place name kept
  write_here q xs i place name kept t fenced is may = record { value = may.value; asks = asks_here q xs i (k.Op (o.Write name may.value)) t fenced is may.asks; kept = may.kept }

  begin_here : (q : List ℕ) (xs : List (Live Body)) → MayBegin q (invocation_state setup fs old q xs) xs → MayBegin q (invocation_state setup fs new q xs) xs
  begin_here q xs may = record { call = may.call; called = may.called; new = ap (λ (st : InvocationState). st.begun) (framed q xs) ∙ may.new }

  commit_here : (q : List ℕ) (xs : List (Live Body)) (i begin : ℕ) (names : List (List ℕ)) (writes : List (List ℕ × Value)) → Tail xs now → AreFenced fences (marked_reads q xs) → IsUnhit v old fs (invocation_state setup fs old q xs) → MayCommit fs old xs q (invocation_state setup fs old q xs) i begin names writes → MayCommit fs new xs q (invocation_state setup fs new q xs) i begin names writes
  commit_here q xs i begin names writes t fenced is may = record { asks = asks_here q xs i (k.Op (o.Commit names writes)) t fenced is may.asks; begin_is = ap (λ (st : InvocationState). st.transaction) (framed q xs) ∙ may.begin_is }

  pub fits_kept : (x : Live Body) (xs : List (Live Body)) → Tail (x ∷ xs) now → (body : Body) → x.holds ≡ body → FencedBehind fences (step_of body) xs → MayFollow setup fs old xs body → MayFollow setup fs new xs body
  fits_kept x xs t (b.Submit p f args) e fenced may = may
  fits_kept x xs t (b.Init p) e fenced may = begin_here p xs may
  fits_kept x xs t (b.Write p i place name kept) e fenced may = write_here p xs i place name kept (shorter t) fenced (unhit x xs p i t (ap step_of e) may.asks.reaches.begun) may
  fits_kept x xs t (b.Spawn p i ordinal name args) e fenced may = record { function = may.function; asks = asks_here p xs i (k.Op (o.Spawn ordinal may.function args)) (shorter t) fenced (unhit x xs p i t (ap step_of e) may.asks.reaches.begun) may.asks; found = may.found; unknown = may.unknown }
  fits_kept x xs t (b.Join p i ordinal) e fenced may = record { outcome = may.outcome; asks = asks_here p xs i (k.Op (o.Join ordinal)) (shorter t) fenced (unhit x xs p i t (ap step_of e) may.asks.reaches.begun) may.asks; result = may.result }
  fits_kept x xs t (b.TxnCommit p i begin names writes) e fenced may = commit_here p xs i begin names writes (shorter t) fenced (unhit x xs p i t (ap step_of e) may.asks.reaches.begun) may
  fits_kept x xs t (b.Read p i name) e fenced may = asks_here p xs i (k.Op (o.Read name)) (shorter t) fenced (unhit x xs p i t (ap step_of e) may.reaches.begun) may
  fits_kept x xs t (b.ReadGroup p i names) e fenced may = asks_here p xs i (k.Op (o.ReadGroup names)) (shorter t) fenced (unhit x xs p i t (ap step_of e) may.reaches.begun) may
  fits_kept x xs t (b.Push p i queue u) e fenced may = asks_here p xs i (k.Op (o.Push queue u)) (shorter t) fenced (unhit x xs p i t (ap step_of e) may.reaches.begun) may
  fits_kept x xs t (b.Pop p i queue) e fenced may = asks_here p xs i (k.Op (o.Pop queue)) (shorter t) fenced (unhit x xs p i t (ap step_of e) may.reaches.begun) may
  fits_kept x xs t (b.TxnBegin p i names) e fenced may = asks_here p xs i (k.Op (o.Begin names)) (shorter t) fenced (unhit x xs p i t (ap step_of e) may.reaches.begun) may
  fits_kept x xs t (b.Finish p i outcome) e fenced may = asks_here p xs i (k.Done outcome) (shorter t) fenced (unhit x xs p i t (ap step_of e) may.reaches.begun) may
  fits_kept x xs t _ e fenced may = tt

  -- Records in flight.

  unhit_logs : (q : List ℕ) (xs : List (Live Body)) (i : ℕ) (ask : Ask) → Tail xs now → AsksLogged fs old fences xs q (invocation_state setup fs old q xs) i ask → IsUnhit v old fs (invocation_state setup fs old q xs)
  unhit_logs q xs i ask t logs = record {
    low = λ mode. reads_below setup fs w holds a key value writer q xs t logs.asks.reaches.begun mode;
    other = λ mode cursor. logs_apart setup fs old fences (length w.log) now under holds.sound a key value writer q xs i ask t logs cursor;
  }

  pub logs_here : (q : List ℕ) (xs : List (Live Body)) (i : ℕ) (ask : Ask) → Tail xs now → AsksLogged fs old fences xs q (invocation_state setup fs old q xs) i ask → AsksLogged fs new fences xs q (invocation_state setup fs new q xs) i ask
  logs_here q xs i ask t logs =
      subst (λ st. AsksLogged fs new fences xs q st i ask) (sym (point_kept q xs t logs.fenced))
      (record { asks = asks_kept v old fs xs q (invocation_state setup fs old q xs) i ask (unhit_logs q xs i ask t logs) logs.asks; may_log = logs.may_log; fenced = logs.fenced })

  pub next_kept : (xs : List (Live Body)) (body : Body) → Tail xs now → IsNext setup fs old fences xs now body → IsNext setup fs new fences xs now body
  unfolding write_here
  next_kept xs (b.Init p) t next = begin_here p xs next
  next_kept xs (b.Write p i place name kept) t next = (
    write_here p xs i place name kept t next.2.fenced (unhit_logs p xs i (k.Op (o.Write name next.0.value)) t next.2) next.0,
    next.1 ∙ sym (ap (λ (st : InvocationState). st.place) (framed p xs)),
    logs_here p xs i (k.Op (o.Write name next.0.value)) t next.2,
  )
  next_kept xs (b.Spawn p i ordinal name args) t next = (next.0, next.1, logs_here p xs i (k.Op (o.Spawn ordinal next.0 args)) t next.2)
  next_kept xs (b.Join p i ordinal) t next = (logs_here p xs i (k.Op (o.Join ordinal)) t next.0, next.1)
  next_kept xs (b.TxnCommit p i begin names writes) t next =
      (commit_here p xs i begin names writes t next.1.fenced (unhit_logs p xs i (k.Op (o.Commit names writes)) t next.1) next.0, logs_here p xs i (k.Op (o.Commit names writes)) t next.1)
  next_kept xs (b.Read p i name) t next = logs_here p xs i (k.Op (o.Read name)) t next
  next_kept xs (b.ReadGroup p i names) t next = logs_here p xs i (k.Op (o.ReadGroup names)) t next
  next_kept xs (b.Push p i queue u) t next = logs_here p xs i (k.Op (o.Push queue u)) t next
  next_kept xs (b.Pop p i queue) t next = logs_here p xs i (k.Op (o.Pop queue)) t next
  next_kept xs (b.TxnBegin p i names) t next = logs_here p xs i (k.Op (o.Begin names)) t next
  next_kept xs (b.Finish p i outcome) t next = logs_here p xs i (k.Done outcome) t next
  next_kept xs _ t next = tt
