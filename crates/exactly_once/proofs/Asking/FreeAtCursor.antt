-- The record at an invocation's cursor, and the operations that come behind it: in mode W its versions are all its free
-- operations, and it asks one logged operation at a place.
use Rattle.std.proofs.Common.{◌≡◌, ◌⊎◌, inl, inr, ⊎_elim, ℕ, zero, suc, ◌+◌, ◌-◌, ◌<◌, ◌≤◌, Bool, true, false, cond, eqb, ◌&&◌, List, [], ◌∷◌, length, Option, Some, None, refl, sym, ap, ◌∙◌, subst, arith}
use Rattle.std.specs.Prelude.{bytes_eq, is_some}
use Rattle.std.proofs.lemmas.Bool.{and_parts, eqb-true, cases_order}
use Rattle.lb_base.specs.declared.value.Value.{Value}
use Rattle.lb_base.specs.declared.value.Mode.{Mode}
use Rattle.lb_base.specs.declared.value.Mode.TheVariants.{R, W, T}
use Rattle.boki_types.specs.declared.body.Body.{Body}
use Rattle.boki_types.specs.declared.operation.Op.TheVariants as o
use Rattle.boki_types.specs.declared.operation.Ask.{Ask}
use Rattle.boki_types.specs.declared.operation.Ask.TheVariants as k
use Rattle.boki_types.specs.declared.operation.Answer.{Answer}
use Rattle.boki_types.specs.declared.operation.Answer.TheVariants as a
use Rattle.boki_types.specs.declared.plan.Setup.{Setup}
use Rattle.boki_types.specs.declared.program.Function.{Function}
use Rattle.boki_model.specs.Live.{Live, upto}
use Rattle.boki_model.specs.Writes.{Store, Version, KeyFence, version_value, versions_at}
use Rattle.boki_machine.specs.Decided.{InvocationState, asked_at, free_answer}
use Rattle.exactly_once.specs.Induction.SoundLogs.{AreNextWrites, MayStand, StandAt, free_operations_to, AllMayFollow}
use Rattle.exactly_once.specs.FurtherLaws.Words.{versions_with_cursor, AreConsecutive}
use Rattle.exactly_once.specs.Induction.Invariant.{MayLog, AsksLogged}
use Rattle.exactly_once.proofs.Log.HistoryTails.{Tail, here, there}
use Rattle.exactly_once.proofs.Log.ListElements.{each_weaker}
use Rattle.exactly_once.proofs.Log.LiveRecords.{Under, upto_whole}
use Rattle.exactly_once.proofs.LastWrites.WritePositions.{numbered_within, numbered_once, At, at_of, found_version}
use Rattle.exactly_once.proofs.Invocations.NextRecord.{stands}
use Rattle.exactly_once.proofs.Invocations.FreeAnswers.{on, IsNext, next_decided, long_reaches, is_read, IsRead, reads, reads_all}
use Rattle.exactly_once.proofs.Invocations.InitAndCursor.{upto_at, fit_tail, stands_on}
use Rattle.exactly_once.proofs.Simulation.FreeOperations.{stand_numbered}

-- What is decided so far, was decided before.

module _ (fs : List Function) (store : Store) (xs : List (Live Body)) (p : List ℕ) (st : InvocationState) where
  long_before : (d n m : ℕ) → m ≡ d + n → length (on fs store xs p st m) ≡ m + length st.answers → length (on fs store xs p st n) ≡ n + length st.answers
  long_before zero n m e long = let same : m ≡ n = omega (arith, e) in subst (λ n. length (on fs store xs p st n) ≡ n + length st.answers) same long
  long_before (suc d) n m e long =
      let same : m ≡ suc (d + n) = omega (arith, e) in
      let next : IsNext fs store xs p st (d + n) = next_decided fs store xs p st (d + n) (subst (λ m. length (on fs store xs p st m) ≡ m + length st.answers) same long) in
      long_before d n (d + n) refl next.before

  -- of two numbers of decided operations, behind the lesser one a free operation is decided
  pub free_between : (n m : ℕ) → n < m → length (on fs store xs p st m) ≡ m + length st.answers → IsNext fs store xs p st n
  free_between n m lt long = next_decided fs store xs p st n (long_before (m - suc n) (suc n) m (omega (arith, lt)) long)

  -- where a read or an operation of mode T is free, it isn't logged
  pub no_free : (fences : List KeyFence) (n : ℕ) (ask : Ask) → (st.mode ≡ W → ⊥) → asked_at fs p st (on fs store xs p st n) ≡ Some ask → MayLog fences st.mode st.cursor ask → IsNext fs store xs p st n → ⊥
  no_free fences n ask not_W asked may next = at st.mode refl may next.free
    where
      at : (mode : Mode) → st.mode ≡ mode → MayLog fences mode st.cursor ask → free_answer store xs st.cursor n mode (asked_at fs p st (on fs store xs p st n)) ≡ Some next.answer → ⊥
      at W e may free = not_W e
      at T e may free = let no_way : None ≡ Some next.answer = free in cc
      at R e may free = by_read (is_read store xs st.cursor n (asked_at fs p st (on fs store xs p st n)) next.answer free)
        where
          by_read : IsRead store xs st.cursor (asked_at fs p st (on fs store xs p st n)) next.answer → ⊥
          by_read (reads key is answer) = let same : ask ≡ k.Op (o.Read key) = (let e : Some ask ≡ Some (k.Op (o.Read key)) = sym asked ∙ is in cc) in subst (MayLog fences R st.cursor) same may
          by_read (reads_all keys is answer) = let same : ask ≡ k.Op (o.ReadGroup keys) = (let e : Some ask ≡ Some (k.Op (o.ReadGroup keys)) = sym asked ∙ is in cc) in subst (MayLog fences R st.cursor) same may

  -- one logged operation, or end, at a place
  module _ (fences : List KeyFence) (i j : ℕ) (one two : Ask) (logs : AsksLogged fs store fences xs p st i one) (others : AsksLogged fs store fences xs p st j two) where
    same_frees : free_operations_to i st ≡ free_operations_to j st
    same_frees = at st.mode refl
      where
        unless : (st.mode ≡ W → ⊥) → free_operations_to i st ≡ free_operations_to j st
        unless not_W =
            ⊎_elim (λ e. e)
            (λ c. ⊎_elim
            (λ lt. absurd (no_free fences (free_operations_to i st) one not_W logs.asks.asked logs.may_log (free_between (free_operations_to i st) (free_operations_to j st) lt (long_reaches fs store xs p st j others.asks.reaches))))
            (λ gt. absurd (no_free fences (free_operations_to j st) two not_W others.asks.asked others.may_log (free_between (free_operations_to j st) (free_operations_to i st) gt (long_reaches fs store xs p st i logs.asks.reaches)))) c)
            (cases_order (free_operations_to i st) (free_operations_to j st))

        at : (mode : Mode) → st.mode ≡ mode → free_operations_to i st ≡ free_operations_to j st
        at W e = logs.asks.reaches.all_versions e ∙ sym (others.asks.reaches.all_versions e)
        at R e = unless (λ f. let no_way : R ≡ W = sym e ∙ f in cc)
        at T e = unless (λ f. let no_way : T ≡ W = sym e ∙ f in cc)

    pub same_ask : one ≡ two
    same_ask =
        let e : Some one ≡ Some two = sym logs.asks.asked ∙ ap (λ n. asked_at fs p st (on fs store xs p st n)) same_frees ∙ others.asks.asked in cc

-- The record at the cursor.

-- a version that is found stands at its cursor
version_within : (key : List ℕ) (c j most : ℕ) (vs : List Version) → At c (λ v. v.number ≤ most) vs → is_some (version_value key c j vs) ≡ true → j ≤ most
version_within key c j most [] each found = let no_way : false ≡ true = found in cc
version_within key c j most (v ∷ vs) each found = at (version_within key c j most vs each.1) (bytes_eq key v.key && eqb c v.cursor && eqb j v.number) refl found
  where
    at : (is_some (version_value key c j vs) ≡ true → j ≤ most) → (t : Bool) → (bytes_eq key v.key && eqb c v.cursor && eqb j v.number) ≡ t → is_some (cond t (Some v.value) (version_value key c j vs)) ≡ true → j ≤ most
    at ih true e found =
        let parts = and_parts (bytes_eq key v.key && eqb c v.cursor) (eqb j v.number) e in
        let le : v.number ≤ most = each.0 (and_parts (bytes_eq key v.key) (eqb c v.cursor) parts.0).1 in
        let same : j ≡ v.number = eqb-true j v.number parts.1 in omega (arith, le, same)
    at ih false e found = ih found

-- a free operation of the mode W is a write whose version is there
pub record IsThere (store : Store) (c j : ℕ) (ask : Option Ask) (answer : Answer) : Type 0 where
  pub key : List ℕ
  pub value : Value
  pub asks : ask ≡ Some (k.Op (o.Write key value))
  pub there_is : is_some (version_value key c (suc j) store.versions) ≡ true

pub is_there : (store : Store) (records : List (Live Body)) (c j : ℕ) (ask : Option Ask) (answer : Answer) → free_answer store records c j W ask ≡ Some answer → IsThere store c j ask answer
is_there store records c j (Some (k.Op (o.Write key value))) answer e = record { key = key; value = value; asks = refl; there_is = at (is_some (version_value key c (suc j) store.versions)) e }
  where
    at : (b : Bool) → cond b (Some a.Done) None ≡ Some answer → b ≡ true
    at true e = refl
    at false e = cc
is_there store records c j _ answer e = let no_way : None ≡ Some answer = e in cc

-- the version of a number
record IsVersion (n : ℕ) (vs : List Version) : Type 0 where
  pub v : Version
  pub rest : List Version
  pub tail : Tail (v ∷ rest) vs
  pub long : length rest ≡ n

version_of : (n : ℕ) (vs : List Version) → n < length vs → IsVersion n vs
version_of n [] lt = absurd (let no_way : ⊥ = omega (arith, lt) in no_way)
version_of n (v ∷ vs) lt = ⊎_elim (λ e. record { v = v; rest = vs; tail = here; long = e }) (λ c. ⊎_elim (λ less. absurd (let no_way : ⊥ = omega (arith, lt, less) in no_way)) (λ more. let found = version_of n vs more in record { v = found.v; rest = found.rest; tail = there found.tail; long = found.long }) c) (cases_order (length vs) n)

next_at : (fs : List Function) (store : Store) (xs : List (Live Body)) (p : List ℕ) (st : InvocationState) (v : Version) (rest vs : List Version) → Tail (v ∷ rest) vs → AreNextWrites fs store xs p st vs → AreNextWrites fs store xs p st (v ∷ rest)
next_at fs store xs p st v rest vs here are = are
next_at fs store xs p st v rest (u ∷ vs) (there t) are = next_at fs store xs p st v rest vs t are.2

module _ (setup : Setup) (fs : List Function) (store : Store) (p : List ℕ) (c : ℕ) where
  module _ (xs : List (Live Body)) (under : Under c xs) (fit : AllMayFollow setup fs store xs) (begun : (stands setup fs store p xs).begun ≡ true) (unended : (stands setup fs store p xs).result ≡ None) (cursor : (stands setup fs store p xs).cursor ≡ c) where
    abbrev st : InvocationState
    st = stands setup fs store p xs

    stand_here : MayStand fs store xs p st None st.mode (versions_with_cursor c store.versions)
    stand_here =
        let on = stands_on setup fs store p xs fit begun in
        let seq_is : on.on.seq ≡ c = on.seq_is ∙ cursor in
        let whole : on.on ∷ on.behind ≡ xs = sym (upto_at on.on on.behind c xs under on.tail) ∙ ap (λ c. upto c xs) seq_is ∙ upto_whole c c xs under (omega arith) in
        let one : StandAt setup fs store (on.on ∷ on.behind) (Some (p, on.index)) (versions_with_cursor on.on.seq store.versions) =
        subst (λ s. StandAt setup fs store (on.on ∷ on.behind) s (versions_with_cursor on.on.seq store.versions)) on.step (fit_tail setup fs store (on.on ∷ on.behind) xs on.tail fit).1 in
        let two : StandAt setup fs store xs (Some (p, on.index)) (versions_with_cursor on.on.seq store.versions) = subst (λ xs. StandAt setup fs store xs (Some (p, on.index)) (versions_with_cursor on.on.seq store.versions)) whole one in
        let three : MayStand fs store xs p st st.result st.mode (versions_with_cursor c store.versions) = subst (λ c. MayStand fs store xs p st st.result st.mode (versions_with_cursor c store.versions)) seq_is two in
        subst (λ r. MayStand fs store xs p st r st.mode (versions_with_cursor c store.versions)) unended three

    numbered_here : AreConsecutive (versions_with_cursor c store.versions)
    numbered_here = stand_numbered fs store xs p st None st.mode (versions_with_cursor c store.versions) stand_here

    module _ (mode : st.mode ≡ W) where
      pub next_writes : AreNextWrites fs store xs p st (versions_with_cursor c store.versions)
      next_writes = subst (λ m. MayStand fs store xs p st None m (versions_with_cursor c store.versions)) mode stand_here

      within : At c (λ v. v.number ≤ versions_at c store.versions) store.versions
      within = at_of c (λ v. v.number ≤ versions_at c store.versions) store.versions
          (each_weaker (λ (v : Version). (0 < v.number) × (v.number ≤ versions_at c store.versions)) (λ (v : Version). v.number ≤ versions_at c store.versions) (λ v h. h.1) (versions_with_cursor c store.versions) (numbered_within (versions_with_cursor c store.versions) numbered_here))

      -- the next number has no version
      pub none_next : (key : List ℕ) → version_value key c (suc (versions_at c store.versions)) store.versions ≡ None
      none_next key = at (version_value key c (suc (versions_at c store.versions)) store.versions) refl
        where
          at : (o : Option Value) → version_value key c (suc (versions_at c store.versions)) store.versions ≡ o → o ≡ None
          at None e = refl
          at (Some v) e = absurd (let le = version_within key c (suc (versions_at c store.versions)) (versions_at c store.versions) store.versions within (ap is_some e) in let no_way : ⊥ = omega (arith, le) in no_way)

      -- at most as many operations are free as there are versions
      pub frees_most : (n : ℕ) → length (on fs store xs p st n) ≡ n + length st.answers → n ≤ versions_at c store.versions
      frees_most zero long = omega arith
      frees_most (suc n) long =
          let next : IsNext fs store xs p st n = next_decided fs store xs p st n long in
          let t = is_there store xs st.cursor n (asked_at fs p st (on fs store xs p st n)) next.answer (ap (λ m. free_answer store xs st.cursor n m (asked_at fs p st (on fs store xs p st n))) (sym mode) ∙ next.free) in
          version_within t.key c (suc n) (versions_at c store.versions) store.versions within (ap (λ c. is_some (version_value t.key c (suc n) store.versions)) (sym cursor) ∙ t.there_is)

      -- where the next operation is no write whose version is there, they are all free operations
      pub all_free : (free : ℕ) (ask : Ask) → length (on fs store xs p st free) ≡ free + length st.answers → asked_at fs p st (on fs store xs p st free) ≡ Some ask
          → ((key : List ℕ) (value : Value) → ask ≡ k.Op (o.Write key value) → version_value key st.cursor (suc free) store.versions ≡ None) → free ≡ versions_at st.cursor store.versions
      all_free free ask long asked absent =
          same (cases_order free (versions_at c store.versions)) ∙ ap (λ c. versions_at c store.versions) (sym cursor)
        where
          never : free < versions_at c store.versions → ⊥
          never lt =
              let u = version_of free (versions_with_cursor c store.versions) lt in
              let are = next_at fs store xs p st u.v u.rest (versions_with_cursor c store.versions) u.tail next_writes in
              let found : version_value u.v.key c u.v.number store.versions ≡ Some u.v.value = found_version c u.v u.rest store.versions u.tail (at_of c (λ w. w.number ≡ u.v.number → w ≡ u.v) store.versions (numbered_once u.v u.rest (versions_with_cursor c store.versions) u.tail numbered_here)) in
              let asks_write : asked_at fs p st (on fs store xs p st free) ≡ Some (k.Op (o.Write u.v.key u.v.value)) = subst (λ n. asked_at fs p st (on fs store xs p st n) ≡ Some (k.Op (o.Write u.v.key u.v.value))) u.long are.1 in
              let same : ask ≡ k.Op (o.Write u.v.key u.v.value) = (let e : Some ask ≡ Some (k.Op (o.Write u.v.key u.v.value)) = sym asked ∙ asks_write in cc) in
              let none : version_value u.v.key st.cursor (suc free) store.versions ≡ None = absent u.v.key u.v.value same in
              let number : u.v.number ≡ suc free = are.0 ∙ ap suc u.long in
              let no_way : None ≡ Some u.v.value = sym none ∙ (λ i. version_value u.v.key (cursor i) (sym number i) store.versions) ∙ found in cc

          same : (free ≡ versions_at c store.versions) ⊎ ((free < versions_at c store.versions) ⊎ (versions_at c store.versions < free)) → free ≡ versions_at c store.versions
          same (inl e) = e
          same (inr (inl lt)) = absurd (never lt)
          same (inr (inr gt)) = absurd (let le = frees_most free long in let no_way : ⊥ = omega (arith, le, gt) in no_way)
