-- How many step records an invocation that has ended has in the log.
use Rattle.std.proofs.Common.{◌≡◌, ℕ, suc, ◌+◌, Bool, true, false, cond, not, List, [], ◌∷◌, length, Option, Some, None, refl, sym, ap, ◌∙◌, subst, arith}
use Rattle.std.specs.Prelude.{is_some}
use Rattle.lb_base.specs.declared.value.Mode.TheVariants.{R, W, T}
use Rattle.lb_base.specs.declared.value.Outcome.{Outcome}
use Rattle.boki_types.specs.declared.body.Body.{Body}
use Rattle.boki_types.specs.declared.body.Body.TheVariants as b
use Rattle.boki_types.specs.declared.operation.Op.{Op}
use Rattle.boki_types.specs.declared.operation.Op.TheVariants as o
use Rattle.boki_types.specs.declared.operation.Ask.{Ask}
use Rattle.boki_types.specs.declared.operation.Ask.TheVariants as k
use Rattle.boki_types.specs.declared.operation.Answer.{Answer}
use Rattle.boki_types.specs.declared.plan.Setup.{Setup}
use Rattle.boki_types.specs.declared.program.Function.{Function}
use Rattle.boki_model.specs.Live.{Live}
use Rattle.boki_model.specs.Bodies.{step_of}
use Rattle.boki_model.specs.Writes.{Store, Version, KeyFence, version_value, versions_at}
use Rattle.boki_machine.specs.Attempt.{call_of}
use Rattle.boki_machine.specs.Decided.{InvocationState, asked_at, add_answer, transaction_after, after_operation, after_init, after_finish}
use Rattle.exactly_once.specs.Induction.SoundLogs.{MayFollow, AllMayFollow, MayStand, StandAt, free_operations_to, Reaches}
use Rattle.exactly_once.specs.FurtherLaws.Words.{versions_with_cursor, AreConsecutive, values_only}
use Rattle.exactly_once.specs.FurtherLaws.ModesAndFloors.{IsEnded}
use Rattle.exactly_once.specs.FurtherLaws.StepRecords.{is_step_of, step_seqnums}
use Rattle.exactly_once.specs.Induction.Invariant.{World, records, MayLog, InvariantHolds}
use Rattle.exactly_once.specs.FurtherLaws.LogEconomy.{AllConsecutive, is_any, is_write, one_if, count_answered, is_write_by, count_live_writes, count_versions, WasLate, WereLate, IsEconomic}
use Rattle.exactly_once.proofs.Log.HistoryTails.{Tail, here, there, shorter, longer}
use Rattle.exactly_once.proofs.Log.LiveRecords.{live_under, under_tail}
use Rattle.exactly_once.proofs.Log.MapChanges.{same_itself, same_key}
use Rattle.exactly_once.proofs.Invocations.NextRecord.{stands, Does, does, apart, began, operates, ends, unbegun, result_is}
use Rattle.exactly_once.proofs.Invocations.SamePlace.{no_own_step, place_is}
use Rattle.exactly_once.proofs.Invocations.FreeAnswers.{on, long_reaches}
use Rattle.exactly_once.proofs.Invocations.InitAndCursor.{fit_tail, stands_on}
use Rattle.exactly_once.proofs.Simulation.FreeOperations.{stand_numbered}
use Rattle.exactly_once.proofs.Asking.FreeAtCursor.{none_next}
use Rattle.exactly_once.proofs.AfterEvents.CountedOperations.{is_no_read, is_no_write, any_more, reads_more, others_more, writes_more, none_more, IsOperation, is_operation, may, asks_at}

-- the end has a record of its own
abbrev closed : Option Outcome → ℕ
closed None = 0
closed (Some outcome) = 1

-- a record that is no step record of the path is no write of it
step_write : (p : List ℕ) (body : Body) → is_step_of p (step_of body) ≡ false → is_write_by p body ≡ false
step_write p (b.Write q i place key here_is) other = other
step_write p _ other = refl

module _ (p : List ℕ) (versions : List Version) where
  abbrev steps : List (Live Body) → ℕ
  steps xs = length (step_seqnums p xs)

  abbrev put_in : List (Live Body) → ℕ
  put_in xs = count_versions p versions xs

  -- one further record
  record IsOther (x : Live Body) (xs : List (Live Body)) : Type 0 where
    pub same_steps : steps (x ∷ xs) ≡ steps xs
    pub same_writes : count_live_writes p (x ∷ xs) ≡ count_live_writes p xs
    pub same_versions : put_in (x ∷ xs) ≡ put_in xs

  is_other : (x : Live Body) (xs : List (Live Body)) → is_step_of p (step_of x.holds) ≡ false → IsOther x xs
  is_other x xs other = record {
    same_steps = ap (λ t. length (cond t (x.seq ∷ step_seqnums p xs) (step_seqnums p xs))) other;
    same_writes = ap (λ t. cond t (suc (count_live_writes p xs)) (count_live_writes p xs)) (step_write p x.holds other);
    same_versions = ap (λ t. cond t (versions_at x.seq versions + put_in xs) (put_in xs)) other;
  }

  record IsOwn (x : Live Body) (xs : List (Live Body)) (write : Bool) : Type 0 where
    pub one_step : steps (x ∷ xs) ≡ suc (steps xs)
    pub more_writes : count_live_writes p (x ∷ xs) ≡ cond write (suc (count_live_writes p xs)) (count_live_writes p xs)
    pub more_versions : put_in (x ∷ xs) ≡ versions_at x.seq versions + put_in xs

  is_own : (x : Live Body) (xs : List (Live Body)) (i : ℕ) (write : Bool) → step_of x.holds ≡ Some (p, i) → is_write_by p x.holds ≡ write → IsOwn x xs write
  is_own x xs i write step is =
      let own : is_step_of p (step_of x.holds) ≡ true = ap (is_step_of p) step ∙ same_itself p in
      record {
        one_step = ap (λ t. length (cond t (x.seq ∷ step_seqnums p xs) (step_seqnums p xs))) own;
        more_writes = ap (λ t. cond t (suc (count_live_writes p xs)) (count_live_writes p xs)) is;
        more_versions = ap (λ t. cond t (versions_at x.seq versions + put_in xs) (put_in xs)) own;
      }

  -- without step records there is none of these
  record IsNone (xs : List (Live Body)) : Type 0 where
    pub no_writes : count_live_writes p xs ≡ 0
    pub no_versions : put_in xs ≡ 0

  none_there : (xs : List (Live Body)) → steps xs ≡ 0 → IsNone xs
  none_there [] e = record { no_writes = refl; no_versions = refl }
  none_there (x ∷ xs) e = at (none_there xs) (is_step_of p (step_of x.holds)) refl
    where
      at : (steps xs ≡ 0 → IsNone xs) → (t : Bool) → is_step_of p (step_of x.holds) ≡ t → IsNone (x ∷ xs)
      at ih true own = absurd (let one = ap (λ t. length (cond t (x.seq ∷ step_seqnums p xs) (step_seqnums p xs))) own in let h : ⊥ = omega (arith, one, e) in h)
      at ih false own =
          let it = is_other x xs own in
          let rest = ih (sym it.same_steps ∙ e) in
          record { no_writes = it.same_writes ∙ rest.no_writes; no_versions = it.same_versions ∙ rest.no_versions }

module _ (setup : Setup) (fs : List Function) (w : World) (holds : InvariantHolds setup fs w) (p : List ℕ) where
  abbrev store : Store
  store = values_only w.store

  abbrev now : List (Live Body)
  now = records w

  fit_at : (xs : List (Live Body)) → Tail xs now → AllMayFollow setup fs store xs
  fit_at xs t = fit_tail setup fs store xs now t holds.sound.fit

  -- of its step records up to a moment, where it stands there
  record Counts (xs : List (Live Body)) (st : InvocationState) : Type 0 where
    pub any : count_answered is_any fs p st st.answers ≡ length st.answers
    pub in_T : st.mode ≡ T → length (step_seqnums p xs) ≡ suc (closed st.result + length st.answers)
    pub in_R : st.mode ≡ R → length (step_seqnums p xs) ≡ suc (closed st.result + count_answered is_no_read fs p st st.answers)
    pub in_W : st.mode ≡ W → length (step_seqnums p xs) ≡ suc (closed st.result + (count_answered is_no_write fs p st st.answers + count_live_writes p xs))
    pub written : st.mode ≡ W → count_answered is_write fs p st st.answers + versions_at st.cursor store.versions ≡ count_live_writes p xs + count_versions p store.versions xs

  module _ (x : Live Body) (xs : List (Live Body)) where
    abbrev st : InvocationState
    st = stands setup fs store p xs

    apart_counts : is_step_of p (step_of x.holds) ≡ false → Counts xs st → Counts (x ∷ xs) st
    apart_counts other c =
        let it = is_other p store.versions x xs other in
        let writes = it.same_writes in
        let versions = it.same_versions in
        record {
          any = c.any;
          in_T = λ m. it.same_steps ∙ c.in_T m;
          in_R = λ m. it.same_steps ∙ c.in_R m;
          in_W = λ m. it.same_steps ∙ c.in_W m ∙ ap (λ n. suc (closed st.result + (count_answered is_no_write fs p st st.answers + n))) (sym writes);
          written = λ m. let e = c.written m in omega (arith, e, writes, versions);
        }

    began_counts : x.holds ≡ b.Init p → st.begun ≡ false → AllMayFollow setup fs store xs → Counts (x ∷ xs) (after_init setup fs xs x.seq (call_of p xs))
    began_counts body new fit =
        let own = is_own p store.versions x xs 1 false (ap step_of body) (ap (is_write_by p) body) in
        let zero_is : length (step_seqnums p xs) ≡ 0 = sym (place_is setup fs store p xs fit) ∙ ap (λ (st : InvocationState). st.place) (unbegun setup fs store xs p fit new) in
        let none = none_there p store.versions xs zero_is in
        let one = own.one_step in
        let writes = own.more_writes in
        let versions = own.more_versions in
        let no_writes = none.no_writes in
        let no_versions = none.no_versions in
        record {
          any = refl;
          in_T = λ m. omega (arith, one, zero_is);
          in_R = λ m. omega (arith, one, zero_is);
          in_W = λ m. omega (arith, one, zero_is, writes, no_writes);
          written = λ m. omega (arith, writes, versions, no_writes, no_versions);
        }

    logged_R : (fences : List KeyFence) (cursor : ℕ) (op : Op) → MayLog fences R cursor (k.Op op) → one_if is_no_read (Some (k.Op op)) ≡ 1
    logged_R fences cursor (o.Read key) may = absurd may
    logged_R fences cursor (o.ReadGroup keys) may = absurd may
    logged_R fences cursor _ may = refl

    module _ (i : ℕ) (step : step_of x.holds ≡ Some (p, i)) (reaches : Reaches fs store xs p st i) (c : Counts xs st) where
      abbrev n : ℕ
      n = free_operations_to i st

      abbrev l : List Answer
      l = on fs store xs p st n

      long : length l ≡ n + length st.answers
      long = long_reaches fs store xs p st i reaches

      abbrev after : Answer → InvocationState
      after answer = record st { place = suc st.place; cursor = x.seq; transaction = transaction_after x.seq x.holds st.transaction; answers = answer ∷ l }

      operates_counts : (op : IsOperation fs store w.store.fences xs p st i x.seq x.holds) → st.result ≡ None → Counts (x ∷ xs) (after op.answer)
      operates_counts op unended = record {
        any = (let one = picks is_any in let more = any_more fs store xs p st n long in let was = c.any in omega (arith, one, more, was, long));
        in_T = λ m. (let was = c.in_T m in let none = none_more fs store xs p st n long m in let one = own.one_step in omega (arith, was, none, one, long));
        in_R = λ m.
            (let was = c.in_R m in let more = reads_more fs store xs p st n long m in let one = own.one_step in
            let pick = picks is_no_read in let logged = logged_R w.store.fences st.cursor op.op (subst (λ m. MayLog w.store.fences m st.cursor (k.Op op.op)) m op.may_log) in omega (arith, was, more, one, pick, logged));
        in_W = λ m. in_mode_W m (is_write (k.Op op.op)) refl;
        written = λ m. writes_W m (is_write (k.Op op.op)) refl;
      }
        where
          own : IsOwn p store.versions x xs (is_write (k.Op op.op))
          own = is_own p store.versions x xs i (is_write (k.Op op.op)) step op.written

          picks : (test : Ask → Bool) → one_if test (asked_at fs p st l) ≡ one_if test (Some (k.Op op.op))
          picks test = ap (one_if test) op.asked

          in_mode_W : st.mode ≡ W → (u : Bool) → is_write (k.Op op.op) ≡ u → length (step_seqnums p (x ∷ xs)) ≡ suc (closed st.result + (count_answered is_no_write fs p st (op.answer ∷ l) + count_live_writes p (x ∷ xs)))
          in_mode_W m true e =
              let was = c.in_W m in let more = others_more fs store xs p st n long m in let one = own.one_step in
              let pick : one_if is_no_write (asked_at fs p st l) ≡ 0 = picks is_no_write ∙ ap (λ b. cond (not b) 1 0) e in
              let writes : count_live_writes p (x ∷ xs) ≡ suc (count_live_writes p xs) = own.more_writes ∙ ap (λ b. cond b (suc (count_live_writes p xs)) (count_live_writes p xs)) e in omega (arith, was, more, one, pick, writes)
          in_mode_W m false e =
              let was = c.in_W m in let more = others_more fs store xs p st n long m in let one = own.one_step in
              let pick : one_if is_no_write (asked_at fs p st l) ≡ 1 = picks is_no_write ∙ ap (λ b. cond (not b) 1 0) e in
              let writes : count_live_writes p (x ∷ xs) ≡ count_live_writes p xs = own.more_writes ∙ ap (λ b. cond b (suc (count_live_writes p xs)) (count_live_writes p xs)) e in omega (arith, was, more, one, pick, writes)

          writes_W : st.mode ≡ W → (u : Bool) → is_write (k.Op op.op) ≡ u → count_answered is_write fs p st (op.answer ∷ l) + versions_at x.seq store.versions ≡ count_live_writes p (x ∷ xs) + count_versions p store.versions (x ∷ xs)
          writes_W m true e =
              let was = c.written m in let more = writes_more fs store xs p st n long m in let all = reaches.all_versions m in let versions = own.more_versions in
              let pick : one_if is_write (asked_at fs p st l) ≡ 1 = picks is_write ∙ ap (λ b. cond b 1 0) e in
              let writes : count_live_writes p (x ∷ xs) ≡ suc (count_live_writes p xs) = own.more_writes ∙ ap (λ b. cond b (suc (count_live_writes p xs)) (count_live_writes p xs)) e in omega (arith, was, more, all, versions, pick, writes)
          writes_W m false e =
              let was = c.written m in let more = writes_more fs store xs p st n long m in let all = reaches.all_versions m in let versions = own.more_versions in
              let pick : one_if is_write (asked_at fs p st l) ≡ 0 = picks is_write ∙ ap (λ b. cond b 1 0) e in
              let writes : count_live_writes p (x ∷ xs) ≡ count_live_writes p xs = own.more_writes ∙ ap (λ b. cond b (suc (count_live_writes p xs)) (count_live_writes p xs)) e in omega (arith, was, more, all, versions, pick, writes)

      ends_counts : (outcome : Outcome) → x.holds ≡ b.Finish p i outcome → st.result ≡ None → Counts (x ∷ xs) (after_finish fs store xs p x.seq outcome i st)
      ends_counts outcome body unended =
          let own = is_own p store.versions x xs i false step (ap (is_write_by p) body) in
          let one = own.one_step in
          let writes = own.more_writes in
          let versions = own.more_versions in
          let open_yet : closed st.result ≡ 0 = ap closed unended in
          record {
            any = (let more = any_more fs store xs p st n long in let was = c.any in omega (arith, more, was, long));
            in_T = λ m. (let was = c.in_T m in let none = none_more fs store xs p st n long m in omega (arith, was, none, one, long, open_yet));
            in_R = λ m. (let was = c.in_R m in let more = reads_more fs store xs p st n long m in omega (arith, was, more, one, open_yet));
            in_W = λ m. (let was = c.in_W m in let more = others_more fs store xs p st n long m in omega (arith, was, more, one, open_yet, writes));
            written = λ m. (let was = c.written m in let more = writes_more fs store xs p st n long m in let all = reaches.all_versions m in omega (arith, was, more, all, versions, writes));
          }

  counts : (xs : List (Live Body)) → Tail xs now → (stands setup fs store p xs).begun ≡ true → Counts xs (stands setup fs store p xs)
  counts [] t begun = let no_way : false ≡ true = begun in cc
  counts (x ∷ xs) t begun = at (counts xs (shorter t)) (stands setup fs store p (x ∷ xs)) begun (does setup fs store x xs p (fit_at (x ∷ xs) t).0)
    where
      at : ((stands setup fs store p xs).begun ≡ true → Counts xs (stands setup fs store p xs)) → (next : InvocationState) → next.begun ≡ true → Does setup fs store x.seq x.holds xs p next → Counts (x ∷ xs) next
      at ih next begun (apart other finish is) =
          subst (Counts (x ∷ xs)) (sym is) (apart_counts x xs (no_own_step p (step_of x.holds) other) (ih (ap (λ (st : InvocationState). st.begun) (sym is) ∙ begun)))
      at ih next begun (began body may is) = subst (Counts (x ∷ xs)) (sym is) (began_counts x xs body may.new (fit_at xs (shorter t)))
      at ih next begun (operates i step finish reaches is) =
          let st = stands setup fs store p xs in
          let op = is_operation setup fs w holds x xs t p i step reaches.begun finish in
          let same : after_operation fs store xs p x.seq x.holds i st ≡ after x xs i step reaches (ih reaches.begun) op.answer =
          λ j. record st { place = suc st.place; cursor = x.seq; transaction = transaction_after x.seq x.holds st.transaction; answers = add_answer (op.own j) (on fs store xs p st (free_operations_to i st)) } in
          subst (Counts (x ∷ xs)) (sym (is ∙ same)) (operates_counts x xs i step reaches (ih reaches.begun) op reaches.unended)
      at ih next begun (ends i outcome body asks is) =
          subst (Counts (x ∷ xs)) (sym is) (ends_counts x xs i (ap step_of body) asks.reaches (ih asks.reaches.begun) outcome body asks.reaches.unended)

  -- A logged write of mode W was late.

  mode_stays : (ys xs : List (Live Body)) → Tail ys xs → AllMayFollow setup fs store xs → (stands setup fs store p ys).begun ≡ true → ((stands setup fs store p xs).mode ≡ (stands setup fs store p ys).mode) × ((stands setup fs store p xs).begun ≡ true)
  mode_stays ys xs here fit begun = (refl, begun)
  mode_stays ys (x ∷ xs) (there t) fit begun = at (mode_stays ys xs t fit.2 begun) (stands setup fs store p (x ∷ xs)) (does setup fs store x xs p fit.0)
    where
      at : ((stands setup fs store p xs).mode ≡ (stands setup fs store p ys).mode) × ((stands setup fs store p xs).begun ≡ true) → (next : InvocationState) → Does setup fs store x.seq x.holds xs p next → (next.mode ≡ (stands setup fs store p ys).mode) × (next.begun ≡ true)
      at ih next (apart other finish is) = (ap (λ (st : InvocationState). st.mode) is ∙ ih.0, ap (λ (st : InvocationState). st.begun) is ∙ ih.1)
      at ih next (began body may is) = absurd (let no_way : true ≡ false = sym ih.1 ∙ may.new in let h : ⊥ = cc in h)
      at ih next (operates i step finish reaches is) = (ap (λ (st : InvocationState). st.mode) is ∙ ih.0, ap (λ (st : InvocationState). st.begun) is ∙ ih.1)
      at ih next (ends i outcome body asks is) = (ap (λ (st : InvocationState). st.mode) is ∙ ih.0, ap (λ (st : InvocationState). st.begun) is ∙ ih.1)

  -- the next number at its cursor has no version
  next_absent : (xs : List (Live Body)) → Tail xs now → (stands setup fs store p xs).begun ≡ true → (stands setup fs store p xs).result ≡ None → (stands setup fs store p xs).mode ≡ W → (key : List ℕ) → version_value key (stands setup fs store p xs).cursor (suc (versions_at (stands setup fs store p xs).cursor store.versions)) store.versions ≡ None
  next_absent xs t begun unended mode key =
      let on = stands_on setup fs store p xs (fit_at xs t) begun in
      let tail_on = longer on.tail t in
      let u = under_tail (on.on ∷ on.behind) (length w.log) now (live_under w.log) tail_on in
      let same = on.same in
      subst (λ c. version_value key c (suc (versions_at c store.versions)) store.versions ≡ None) on.seq_is
      (none_next setup fs store p on.on.seq (on.on ∷ on.behind) (u.0, u.1, (let e = u.1 in omega (arith, e)), u.3) (fit_at (on.on ∷ on.behind) tail_on)
      (ap (λ (st : InvocationState). st.begun) (sym same) ∙ begun) (ap (λ (st : InvocationState). st.result) (sym same) ∙ unended) (ap (λ (st : InvocationState). st.cursor) (sym same) ∙ sym on.seq_is) (ap (λ (st : InvocationState). st.mode) (sym same) ∙ mode) key)

  was_late : (x : Live Body) (xs : List (Live Body)) → Tail (x ∷ xs) now → ((stands setup fs store p xs).begun ≡ true → (stands setup fs store p xs).mode ≡ W) → (body : Body) → x.holds ≡ body → WasLate setup fs store w.store.fences p xs body
  was_late x xs t mode (b.Write q j place key here_is) e = λ own.
      let path : q ≡ p = sym (same_key p q own) in
      let fits : MayFollow setup fs store xs (b.Write q j place key here_is) = subst (MayFollow setup fs store xs) e (fit_at (x ∷ xs) t).0 in
      let step_there : ◌≡◌ {A = Option (List ℕ × ℕ)} (Some (q, j)) (Some (p, j)) = λ u. Some (path u, j) in
      let begun : (stands setup fs store p xs).begun ≡ true = subst (λ q. (stands setup fs store q xs).begun ≡ true) path fits.asks.reaches.begun in
      let step : step_of x.holds ≡ Some (p, j) = ap step_of e ∙ step_there in
      let asks = asks_at setup fs w holds x xs t p j step begun q j (k.Op (o.Write key fits.value)) step_there fits.asks in
      let logged = may setup fs w holds x xs t p j step begun (k.Op (o.Write key fits.value)) asks in
      (next_absent xs (shorter t) begun asks.reaches.unended (mode begun) key, subst (λ m. MayLog w.store.fences m (stands setup fs store p xs).cursor (k.Op (o.Write key fits.value))) (mode begun) logged)
  was_late x xs t mode _ e = tt

  were_late : (xs : List (Live Body)) → Tail xs now → ((ys : List (Live Body)) → Tail ys now → (stands setup fs store p ys).begun ≡ true → (stands setup fs store p ys).mode ≡ W) → WereLate setup fs store w.store.fences p xs
  were_late [] t mode = tt
  were_late (x ∷ xs) t mode = (was_late x xs t (mode xs (shorter t)) x.holds refl, were_late xs (shorter t) mode)

  -- The versions at a record are numbered.

  all_numbered : (xs : List (Live Body)) → AllMayFollow setup fs store xs → AllConsecutive store.versions xs
  all_numbered [] fit = tt
  all_numbered (x ∷ xs) fit = (at (step_of x.holds) (versions_with_cursor x.seq store.versions) fit.1, all_numbered xs fit.2)
    where
      at : (s : Option (List ℕ × ℕ)) (vs : List Version) → StandAt setup fs store (x ∷ xs) s vs → AreConsecutive vs
      at None vs stand = subst AreConsecutive (sym stand) tt
      at (Some s) vs stand = let it = stands setup fs store s.0 (x ∷ xs) in stand_numbered fs store (x ∷ xs) s.0 it it.result it.mode vs stand

  -- At its end.

  module _ (ended : IsEnded p now) where
    abbrev at_end : InvocationState
    at_end = stands setup fs store p now

    over_now : is_some at_end.result ≡ true
    over_now = ap is_some (result_is setup fs store now p holds.sound.fit) ∙ ended

    begun_now : at_end.begun ≡ true
    begun_now = at at_end.begun refl
      where
        at : (t : Bool) → at_end.begun ≡ t → t ≡ true
        at true e = refl
        at false e = let no_way : false ≡ true = ap (λ (st : InvocationState). is_some st.result) (sym (unbegun setup fs store now p holds.sound.fit e)) ∙ over_now in cc

    closed_now : closed at_end.result ≡ 1
    closed_now = at at_end.result over_now
      where
        at : (r : Option Outcome) → is_some r ≡ true → closed r ≡ 1
        at None e = let no_way : false ≡ true = e in cc
        at (Some outcome) e = refl

    -- no version stands at its Finish
    none_at_end : versions_at at_end.cursor store.versions ≡ 0
    none_at_end =
        let on = stands_on setup fs store p now holds.sound.fit begun_now in
        let there_is : StandAt setup fs store (on.on ∷ on.behind) (Some (p, on.index)) (versions_with_cursor on.on.seq store.versions) =
        subst (λ s. StandAt setup fs store (on.on ∷ on.behind) s (versions_with_cursor on.on.seq store.versions)) on.step (fit_at (on.on ∷ on.behind) on.tail).1 in
        let it : InvocationState = stands setup fs store p (on.on ∷ on.behind) in
        ap (λ c. versions_at c store.versions) (sym on.seq_is) ∙ ap length (at it it.result (on.on ∷ on.behind) (versions_with_cursor on.on.seq store.versions) (ap (λ (st : InvocationState). is_some st.result) (sym on.same) ∙ over_now) there_is)
      where
        at : (it : InvocationState) (r : Option Outcome) (xs : List (Live Body)) (vs : List Version) → is_some r ≡ true → MayStand fs store xs p it r it.mode vs → vs ≡ []
        at it None xs vs e stand = let no_way : false ≡ true = e in cc
        at it (Some outcome) xs vs e stand = stand

    pub economic : IsEconomic setup fs store w.store.fences p now at_end
    economic =
        let c = counts now here begun_now in
        let closing = closed_now in
        record {
          answered = c.any;
          in_T = λ m. let h = c.in_T m in omega (arith, h, closing);
          in_R = λ m. let h = c.in_R m in omega (arith, h, closing);
          in_W = λ m. let h = c.in_W m in omega (arith, h, closing);
          written = λ m. let h = c.written m in let none = none_at_end in omega (arith, h, none);
          numbered = all_numbered now holds.sound.fit;
          late = λ m. were_late now here (λ ys t begun. sym (mode_stays ys now t holds.sound.fit begun).0 ∙ m);
        }
