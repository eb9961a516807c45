-- How many of the operations that were answered are free, and which operation a step record is of.
use Rattle.std.proofs.Common.{◌≡◌, ⊎_elim, ℕ, zero, suc, ◌+◌, ◌≤◌, Bool, true, false, cond, not, List, ◌∷◌, length, Option, Some, None, refl, sym, ap, ◌∙◌, subst, arith}
use Rattle.std.specs.Prelude.{bytes_eq}
use Rattle.lb_base.specs.declared.value.Mode.{Mode}
use Rattle.lb_base.specs.declared.value.Mode.TheVariants.{R, W, T}
use Rattle.boki_types.specs.declared.body.Body.{Body}
use Rattle.boki_types.specs.declared.body.Body.TheVariants as b
use Rattle.boki_types.specs.declared.operation.Op.{Op}
use Rattle.boki_types.specs.declared.operation.Op.TheVariants as o
use Rattle.boki_types.specs.declared.operation.Ask.{Ask}
use Rattle.boki_types.specs.declared.operation.Ask.TheVariants as k
use Rattle.boki_types.specs.declared.operation.Answer.{Answer}
use Rattle.boki_types.specs.declared.operation.Answer.TheVariants as a
use Rattle.boki_types.specs.declared.plan.Setup.{Setup}
use Rattle.boki_types.specs.declared.program.Function.{Function}
use Rattle.boki_model.specs.Live.{Live, upto}
use Rattle.boki_model.specs.Bodies.{step_of}
use Rattle.boki_model.specs.Modes.{finish_of}
use Rattle.boki_model.specs.Writes.{Store, KeyFence}
use Rattle.boki_model.proofs.Logs.{upto-upto, upto_skip}
use Rattle.boki_machine.specs.Decided.{InvocationState, with_free_answers, asked_at, free_answer, own_answer, join_answer}
use Rattle.exactly_once.specs.Induction.SoundLogs.{Asks, MayFollow, free_operations_to}
use Rattle.exactly_once.specs.Induction.Invariant.{World, records, MayLog, InvariantHolds}
use Rattle.exactly_once.specs.FurtherLaws.Words.{values_only}
use Rattle.exactly_once.specs.FurtherLaws.LogEconomy.{is_any, is_read, is_write, one_if, count_answered, is_write_by}
use Rattle.exactly_once.proofs.Log.HistoryTails.{Tail}
use Rattle.exactly_once.proofs.Log.LiveRecords.{live_under, upto_whole, under_tail}
use Rattle.exactly_once.proofs.Log.MapChanges.{same_itself}
use Rattle.exactly_once.proofs.Invocations.NextRecord.{stands, cursor_within}
use Rattle.exactly_once.proofs.Invocations.SamePlace.{same_more, cursor_upto}
use Rattle.exactly_once.proofs.Invocations.FreeAnswers.{on, IsNext, next_decided, IsRead, reads, reads_all, is_read as is_read_free}
use Rattle.exactly_once.proofs.Invocations.InitAndCursor.{upto_at, fit_tail}
use Rattle.exactly_once.proofs.Asking.OpenTransactions.{same_step}
use Rattle.exactly_once.proofs.OldVersions.StepOrigins.{IsLogged, origin}
use Rattle.exactly_once.proofs.Asking.FreeAtCursor.{is_there}

abbrev pub is_no_read : Ask → Bool
is_no_read ask = not (is_read ask)

abbrev pub is_no_write : Ask → Bool
is_no_write ask = not (is_write ask)

module _ (fs : List Function) (store : Store) (xs : List (Live Body)) (p : List ℕ) (st : InvocationState) where
  abbrev pub many : (Ask → Bool) → List Answer → ℕ
  many test l = count_answered test fs p st l

  abbrev its_ask : ℕ → Option Ask
  its_ask n = asked_at fs p st (on fs store xs p st n)

  abbrev IsLong : ℕ → Type 0
  IsLong n = length (on fs store xs p st n) ≡ n + length st.answers

  -- where the test picks none of the free operations, or all
  more_none : (test : Ask → Bool) → ((n : ℕ) → IsNext fs store xs p st n → one_if test (its_ask n) ≡ 0) → (n : ℕ) → IsLong n → many test (on fs store xs p st n) ≡ many test st.answers
  more_none test each zero long = refl
  more_none test each (suc n) long =
      let next = next_decided fs store xs p st n long in
      let none = each n next in
      let rest = more_none test each n next.before in
      ap (many test) next.is ∙ (let e : one_if test (its_ask n) + many test (on fs store xs p st n) ≡ many test st.answers = omega (arith, none, rest) in e)

  more_all : (test : Ask → Bool) → ((n : ℕ) → IsNext fs store xs p st n → one_if test (its_ask n) ≡ 1) → (n : ℕ) → IsLong n → many test (on fs store xs p st n) ≡ n + many test st.answers
  more_all test each zero long = omega arith
  more_all test each (suc n) long =
      let next = next_decided fs store xs p st n long in
      let one = each n next in
      let rest = more_all test each n next.before in
      ap (many test) next.is ∙ (let e : one_if test (its_ask n) + many test (on fs store xs p st n) ≡ suc n + many test st.answers = omega (arith, one, rest) in e)

  -- a free operation is a read in mode R, a write in mode W, and none in mode T
  module _ (n : ℕ) (next : IsNext fs store xs p st n) where
    free_in : (mode : Mode) → st.mode ≡ mode → free_answer store xs st.cursor n mode (its_ask n) ≡ Some next.answer
    free_in mode is = ap (λ m. free_answer store xs st.cursor n m (its_ask n)) (sym is) ∙ next.free

    read_kind : (test : Ask → Bool) (v : ℕ) → ((key : List ℕ) → one_if test (Some (k.Op (o.Read key))) ≡ v) → ((keys : List (List ℕ)) → one_if test (Some (k.Op (o.ReadGroup keys))) ≡ v) → st.mode ≡ R → one_if test (its_ask n) ≡ v
    read_kind test v one group mode = at (is_read_free store xs st.cursor n (its_ask n) next.answer (free_in R mode))
      where
        at : IsRead store xs st.cursor (its_ask n) next.answer → one_if test (its_ask n) ≡ v
        at (reads key is answer) = ap (one_if test) is ∙ one key
        at (reads_all keys is answer) = ap (one_if test) is ∙ group keys

    write_kind : (test : Ask → Bool) (v : ℕ) → ((ask : Ask) → is_write ask ≡ true → one_if test (Some ask) ≡ v) → st.mode ≡ W → one_if test (its_ask n) ≡ v
    write_kind test v one mode =
        let t = is_there store xs st.cursor n (its_ask n) next.answer (free_in W mode) in
        ap (one_if test) t.asks ∙ one (k.Op (o.Write t.key t.value)) refl

    none_free : st.mode ≡ T → ⊥
    none_free mode = let no_way : None ≡ Some next.answer = free_in T mode in cc

    any_kind : one_if is_any (its_ask n) ≡ 1
    any_kind = at st.mode refl
      where
        at : (mode : Mode) → st.mode ≡ mode → one_if is_any (its_ask n) ≡ 1
        at R e = read_kind is_any 1 (λ key. refl) (λ keys. refl) e
        at W e = write_kind is_any 1 (λ ask is. refl) e
        at T e = absurd (none_free e)

  module _ (n : ℕ) (long : IsLong n) where
    pub any_more : many is_any (on fs store xs p st n) ≡ n + many is_any st.answers
    any_more = more_all is_any any_kind n long

    pub reads_more : st.mode ≡ R → many is_no_read (on fs store xs p st n) ≡ many is_no_read st.answers
    reads_more mode = more_none is_no_read (λ m next. read_kind m next is_no_read 0 (λ key. refl) (λ keys. refl) mode) n long

    pub others_more : st.mode ≡ W → many is_no_write (on fs store xs p st n) ≡ many is_no_write st.answers
    others_more mode = more_none is_no_write (λ m next. write_kind m next is_no_write 0 (λ ask is. ap (λ b. cond (not b) 1 0) is) mode) n long

    pub writes_more : st.mode ≡ W → many is_write (on fs store xs p st n) ≡ n + many is_write st.answers
    writes_more mode = more_all is_write (λ m next. write_kind m next is_write 1 (λ ask is. ap (λ b. cond b 1 0) is) mode) n long

  pub none_more : (n : ℕ) → IsLong n → st.mode ≡ T → n ≡ 0
  none_more zero long mode = refl
  none_more (suc n) long mode = absurd (none_free n (next_decided fs store xs p st n long) mode)

-- The operation of a step record.

pub record IsOperation (fs : List Function) (store : Store) (fences : List KeyFence) (xs : List (Live Body)) (p : List ℕ) (st : InvocationState) (i seq : ℕ) (body : Body) : Type 0 where
  pub op : Op
  pub answer : Answer
  pub asked : asked_at fs p st (with_free_answers fs store xs p st (free_operations_to i st)) ≡ Some (k.Op op)
  pub own : own_answer store xs seq body ≡ Some answer
  pub may_log : MayLog fences st.mode st.cursor (k.Op op)
  pub written : is_write_by p body ≡ is_write (k.Op op)

module _ (setup : Setup) (fs : List Function) (w : World) (holds : InvariantHolds setup fs w) (x : Live Body) (xs : List (Live Body)) (tail : Tail (x ∷ xs) (records w)) (p : List ℕ) (i : ℕ) (step : step_of x.holds ≡ Some (p, i)) (begun : (stands setup fs (values_only w.store) p xs).begun ≡ true) where
  abbrev store : Store
  store = values_only w.store

  abbrev now : List (Live Body)
  now = records w

  abbrev st : InvocationState
  st = stands setup fs store p xs

  -- free answers up to its cursor
  over : (c n : ℕ) → st.cursor ≤ c → with_free_answers fs store (upto c now) p st n ≡ with_free_answers fs store (upto st.cursor now) p st n
  over c n le = same_more setup fs store p st.cursor st n (upto c now) (let h : st.cursor ≤ st.cursor = omega arith in h) ∙ ap (λ ys. with_free_answers fs store ys p st n) (upto-upto st.cursor c now le)

  -- what it asks here was asked where the record was sent, so that it may be logged
  pub may : (ask : Ask) → Asks fs store xs p st i ask → MayLog w.store.fences st.mode st.cursor ask
  may ask asks =
      let u = under_tail (x ∷ xs) (length w.log) now (live_under w.log) tail in
      let from = origin setup fs w holds x xs p i tail step in
      let behind : upto u.0 now ≡ xs =
      sym (upto-upto u.0 x.seq now (let e = u.1 in omega (arith, e))) ∙ ap (upto u.0) (upto_at x xs (length w.log) now (live_under w.log) tail) ∙ upto_skip u.0 x xs (let e = u.1 in omega (arith, e)) ∙ upto_whole u.0 u.0 xs u.3 (omega arith) in
      let low : st.cursor ≤ u.0 = cursor_within setup fs store u.0 xs p u.3 (fit_tail setup fs store (x ∷ xs) now tail holds.sound.fit).2 in
      let low_there : st.cursor ≤ from.c =
      (let le = cursor_upto setup fs store p from.c (length w.log) now (live_under w.log) holds.sound.fit in let e = ap (λ (st : InvocationState). st.cursor) from.same in omega (arith, le, e)) in
      ⊎_elim
      (λ may. absurd (let no_way : true ≡ false = sym (ap (λ (st : InvocationState). st.begun) from.same ∙ begun) ∙ may.new in let h : ⊥ = cc in h))
      (λ l.
      let there_is : IsLogged fs store w.store.fences (upto from.c now) p st i = subst (λ st. IsLogged fs store w.store.fences (upto from.c now) p st i) from.same l in
      let grown : with_free_answers fs store (upto from.c now) p st (free_operations_to i st) ≡ with_free_answers fs store xs p st (free_operations_to i st) =
      over from.c (free_operations_to i st) low_there ∙ sym (over u.0 (free_operations_to i st) low) ∙ ap (λ ys. with_free_answers fs store ys p st (free_operations_to i st)) behind in
      let one : Some there_is.ask ≡ Some ask = sym there_is.logs.asks.asked ∙ ap (asked_at fs p st) grown ∙ asks.asked in
      let same : there_is.ask ≡ ask = cc in
      subst (MayLog w.store.fences st.mode st.cursor) same there_is.logs.may_log)
      from.logs

  pub asks_at : (q : List ℕ) (j : ℕ) (ask : Ask) → ◌≡◌ {A = Option (List ℕ × ℕ)} (Some (q, j)) (Some (p, i)) → Asks fs store xs q (stands setup fs store q xs) j ask → Asks fs store xs p st i ask
  asks_at q j ask e asks = subst (λ (s : List ℕ × ℕ). Asks fs store xs s.0 (stands setup fs store s.0 xs) s.1 ask) (same_step (q, j) (p, i) e) asks

  abbrev Operates : Body → Type 0
  Operates body = IsOperation fs store w.store.fences xs p st i x.seq body

  operation : (body : Body) (q : List ℕ) (j : ℕ) (op : Op) (answer : Answer) → ◌≡◌ {A = Option (List ℕ × ℕ)} (Some (q, j)) (Some (p, i)) → Asks fs store xs q (stands setup fs store q xs) j (k.Op op) → own_answer store xs x.seq body ≡ Some answer → is_write_by p body ≡ is_write (k.Op op) → Operates body
  operation body q j op answer e asks own written =
      let here_asks = asks_at q j (k.Op op) e asks in
      record { op = op; answer = answer; asked = here_asks.asked; own = own; may_log = may (k.Op op) here_asks; written = written }

  operation_of : (body : Body) → step_of body ≡ Some (p, i) → finish_of p body ≡ None → MayFollow setup fs store xs body → Operates body
  operation_of (b.Init q) e none fits =
      absurd (let no_way : true ≡ false = sym begun ∙ ap (λ (s : List ℕ × ℕ). (stands setup fs store s.0 xs).begun) (sym (same_step (q, 1) (p, i) e)) ∙ fits.new in let h : ⊥ = cc in h)
  operation_of (b.Finish q j outcome) e none fits =
      absurd (let own : bytes_eq p q ≡ true = ap (λ (s : List ℕ × ℕ). bytes_eq p s.0) (same_step (q, j) (p, i) e) ∙ same_itself p in
      let no_way : Some outcome ≡ None = sym (ap (λ t. cond t (Some outcome) None) own) ∙ none in let h : ⊥ = cc in h)
  operation_of (b.Write q j place key here_is) e none fits =
      operation (b.Write q j place key here_is) q j (o.Write key fits.value) a.Done e fits.asks refl (ap (λ (s : List ℕ × ℕ). bytes_eq p s.0) (same_step (q, j) (p, i) e) ∙ same_itself p)
  operation_of (b.Read q j key) e none fits = operation (b.Read q j key) q j (o.Read key) _ e fits refl refl
  operation_of (b.ReadGroup q j keys) e none fits = operation (b.ReadGroup q j keys) q j (o.ReadGroup keys) _ e fits refl refl
  operation_of (b.Spawn q j ordinal name args) e none fits = operation (b.Spawn q j ordinal name args) q j (o.Spawn ordinal fits.function args) _ e fits.asks refl refl
  operation_of (b.Join q j ordinal) e none fits = operation (b.Join q j ordinal) q j (o.Join ordinal) _ e fits.asks (ap join_answer fits.result) refl
  operation_of (b.Push q j queue value) e none fits = operation (b.Push q j queue value) q j (o.Push queue value) _ e fits refl refl
  operation_of (b.Pop q j queue) e none fits = operation (b.Pop q j queue) q j (o.Pop queue) _ e fits refl refl
  operation_of (b.TxnBegin q j names) e none fits = operation (b.TxnBegin q j names) q j (o.Begin names) _ e fits refl refl
  operation_of (b.TxnCommit q j begin names writes) e none fits = operation (b.TxnCommit q j begin names writes) q j (o.Commit names writes) _ e fits.asks refl refl
  operation_of _ e none fits = let no_way : ◌≡◌ {A = Option (List ℕ × ℕ)} None (Some (p, i)) = e in cc

  pub is_operation : finish_of p x.holds ≡ None → Operates x.holds
  is_operation none = operation_of x.holds step none (fit_tail setup fs store (x ∷ xs) now tail holds.sound.fit).0
