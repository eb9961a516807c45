-- A further version: which writes, free answers and answers of records it leaves as they were.
use Rattle.std.proofs.Common.{◌≡◌, ℕ, zero, suc, ◌-◌, ◌<◌, ◌≤◌, Bool, true, false, cond, eqb, ◌&&◌, List, [], ◌∷◌, ◌++◌, length, Option, Some, None, option_map, refl, sym, ap, ◌∙◌, subst, arith}
use Rattle.std.specs.Prelude.{bytes_eq, is_some}
use Rattle.std.proofs.lemmas.Bool.{and_parts, eqb-true}
use Rattle.lb_base.specs.declared.value.Mode.{Mode}
use Rattle.lb_base.specs.declared.value.Mode.TheVariants.{R, W}
use Rattle.boki_types.specs.declared.body.Body.{Body}
use Rattle.boki_types.specs.declared.body.Body.TheVariants as b
use Rattle.boki_types.specs.declared.operation.Op.TheVariants as o
use Rattle.boki_types.specs.declared.operation.Ask.{Ask}
use Rattle.boki_types.specs.declared.operation.Ask.TheVariants as k
use Rattle.boki_types.specs.declared.operation.Answer.TheVariants as a
use Rattle.boki_types.specs.declared.plan.Setup.{Setup}
use Rattle.boki_types.specs.declared.program.Function.{Function}
use Rattle.boki_model.specs.Live.{Live}
use Rattle.boki_model.specs.Bodies.{step_of}
use Rattle.boki_model.specs.Writes.{Store, Version, KeyFence, Write, write_at, version_value, fence, logged_writes, version_writes, initial_writes, is_below, last_write_below, last_value_below}
use Rattle.boki_machine.specs.Decided.{InvocationState, invocation_state, asked_at, value_or_none, values_below, free_answer, add_answer, with_free_answers, own_answer, transaction_after, after_operation, after_step_record, after_record}
use Rattle.exactly_once.specs.Induction.SoundLogs.{Asks, AreNextWrites, free_operations_to}
use Rattle.exactly_once.specs.FurtherLaws.Words.{versions_with_cursor}
use Rattle.exactly_once.specs.FurtherLaws.StepRecords.{is_step_of}
use Rattle.exactly_once.specs.Induction.Invariant.{marked_reads_at, marked_reads_by, AreFenced}
use Rattle.boki_model.specs.WriteLaws.{with_version}
use Rattle.exactly_once.proofs.Log.MapChanges.{same_key}
use Rattle.exactly_once.proofs.LastWrites.LastBelow.{last_skip, not_below_zero}
use Rattle.exactly_once.proofs.Invocations.FreeAnswers.{on_most}

module _ (fences : List KeyFence) where
  marks_drop : (seq : ℕ) (keys : List (List ℕ)) (others : List KeyFence) → AreFenced fences (marked_reads_at seq keys others) → AreFenced fences others
  marks_drop seq [] others all = all
  marks_drop seq (key ∷ keys) others all = marks_drop seq keys others all.1

  -- the marks behind a record are fenced where all are
  pub marks_behind : (q : List ℕ) (seq : ℕ) (body : Body) (others : List KeyFence) → AreFenced fences (marked_reads_by q seq body others) → AreFenced fences others
  marks_behind q seq (b.Read p i key) others all = at (bytes_eq q p) all
    where
      at : (t : Bool) → AreFenced fences (cond t (marked_reads_at seq (key ∷ []) others) others) → AreFenced fences others
      at true all = all.1
      at false all = all
  marks_behind q seq (b.ReadGroup p i keys) others all = at (bytes_eq q p) all
    where
      at : (t : Bool) → AreFenced fences (cond t (marked_reads_at seq keys others) others) → AreFenced fences others
      at true all = marks_drop seq keys others all
      at false all = all
  marks_behind q seq _ others all = all

module _ (v : Version) (store : Store) where
  abbrev pub grown : Store
  grown = with_version v store

  pub version_kept : (q : List ℕ) (c j : ℕ) → (c ≡ v.cursor → j ≡ v.number → ⊥) → version_value q c j (v ∷ store.versions) ≡ version_value q c j store.versions
  version_kept q c j other = at (bytes_eq q v.key && eqb c v.cursor && eqb j v.number) refl
    where
      at : (t : Bool) → (bytes_eq q v.key && eqb c v.cursor && eqb j v.number) ≡ t → cond t (Some v.value) (version_value q c j store.versions) ≡ version_value q c j store.versions
      at false e = refl
      at true e =
          let parts = and_parts (bytes_eq q v.key && eqb c v.cursor) (eqb j v.number) e in
          absurd (other (eqb-true c v.cursor (and_parts (bytes_eq q v.key) (eqb c v.cursor) parts.0).1) (eqb-true j v.number parts.1))

  last_kept : (key : List ℕ) (c j : ℕ) (xs : List (Live Body)) → (bytes_eq key v.key ≡ true → is_below v.cursor v.number c j ≡ false) → last_value_below key c j grown xs ≡ last_value_below key c j store xs
  last_kept key c j xs above = at (bytes_eq key v.key) refl
    where
      at :
          (t : Bool) → bytes_eq key v.key ≡ t
          → option_map (λ (w : Write). w.value) (last_write_below c j (cond t (write_at v.cursor v.number v.value ∷ version_writes key store.versions) (version_writes key store.versions) ++ logged_writes key store.named xs ++ initial_writes key store.initial)) ≡ last_value_below key c j store xs
      at false e = refl
      at true e = ap (option_map (λ (w : Write). w.value)) (last_skip c j [] (write_at v.cursor v.number v.value) (version_writes key store.versions ++ logged_writes key store.named xs ++ initial_writes key store.initial) (above e))

  last_low : (key : List ℕ) (c : ℕ) (xs : List (Live Body)) → c ≤ v.cursor → last_value_below key c 0 grown xs ≡ last_value_below key c 0 store xs
  last_low key c xs le = last_kept key c 0 xs (λ e. not_below_zero v.cursor v.number c le)

  values_low : (c : ℕ) (keys : List (List ℕ)) (xs : List (Live Body)) → c ≤ v.cursor → values_below c 0 grown xs keys ≡ values_below c 0 store xs keys
  values_low c [] xs le = refl
  values_low c (key ∷ keys) xs le = λ i. value_or_none (last_low key c xs le i) ∷ values_low c keys xs le i

  -- Free answers.

  free_kept : (xs : List (Live Body)) (c since : ℕ) (mode : Mode) (ask : Option Ask) → (mode ≡ R → c < v.cursor) → (mode ≡ W → c ≡ v.cursor → suc since < v.number) → free_answer grown xs c since mode ask ≡ free_answer store xs c since mode ask
  free_kept xs c since R (Some (k.Op (o.Read key))) low few = ap (λ v. Some (a.Value (value_or_none v))) (last_low key (suc c) xs (low refl))
  free_kept xs c since R (Some (k.Op (o.ReadGroup keys))) low few = ap (λ vs. Some (a.Values vs)) (values_low (suc c) keys xs (low refl))
  free_kept xs c since W (Some (k.Op (o.Write key value))) low few =
      ap (λ o. cond (is_some o) (Some a.Done) None) (version_kept key c (suc since) (λ e f. let lt = few refl e in let h : ⊥ = omega (arith, lt, f) in h))
  free_kept xs c since mode ask low few = refl

  -- the version is none of the first n free operations there, and no read above it
  pub record IsSafe (st : InvocationState) (n : ℕ) : Type 0 where
    pub low : st.mode ≡ R → st.cursor < v.cursor
    pub few : st.mode ≡ W → st.cursor ≡ v.cursor → n < v.number

  module _ (fs : List Function) where
    pub more_kept : (xs : List (Live Body)) (path : List ℕ) (st : InvocationState) (n : ℕ) → IsSafe st n → with_free_answers fs grown xs path st n ≡ with_free_answers fs store xs path st n
    more_kept xs path st zero safe = refl
    more_kept xs path st (suc n) safe =
        let most = on_most fs store xs path st n in
        ap (λ l. add_answer (free_answer grown xs st.cursor (length l - length st.answers) st.mode (asked_at fs path st l)) l)
        (more_kept xs path st n (record { low = safe.low; few = λ m e. let lt = safe.few m e in omega (arith, lt) }))
        ∙ ap (λ o. add_answer o (with_free_answers fs store xs path st n))
        (free_kept xs st.cursor (length (with_free_answers fs store xs path st n) - length st.answers) st.mode (asked_at fs path st (with_free_answers fs store xs path st n)) safe.low (λ m e. let lt = safe.few m e in omega (arith, lt, most)))

    pub writes_kept : (xs : List (Live Body)) (p : List ℕ) (st : InvocationState) (vs : List Version) → ((n : ℕ) → n ≤ length vs → IsSafe st n) → AreNextWrites fs store xs p st vs → AreNextWrites fs grown xs p st vs
    writes_kept xs p st [] safe are = tt
    writes_kept xs p st (u ∷ vs) safe are =
        (are.0, ap (asked_at fs p st) (more_kept xs p st (length vs) (safe (length vs) (omega arith))) ∙ are.1, writes_kept xs p st vs (λ n le. safe n (omega (arith, le))) are.2)

    -- no free operation of the invocation is at the version's cursor
    pub record IsUnhit (st : InvocationState) : Type 0 where
      pub low : st.mode ≡ R → st.cursor < v.cursor
      pub other : st.mode ≡ W → st.cursor ≡ v.cursor → ⊥

    pub unhit_safe : (st : InvocationState) (n : ℕ) → IsUnhit st → IsSafe st n
    unhit_safe st n unhit = record { low = unhit.low; few = λ m e. absurd (unhit.other m e) }

    pub standing_other : (c : ℕ) → (c ≡ v.cursor → ⊥) → versions_with_cursor c (v ∷ store.versions) ≡ versions_with_cursor c store.versions
    standing_other c other = at (eqb c v.cursor) refl
      where
        at : (t : Bool) → eqb c v.cursor ≡ t → cond t (v ∷ versions_with_cursor c store.versions) (versions_with_cursor c store.versions) ≡ versions_with_cursor c store.versions
        at false e = refl
        at true e = absurd (other (eqb-true c v.cursor e))

    pub asks_kept : (xs : List (Live Body)) (p : List ℕ) (st : InvocationState) (i : ℕ) (ask : Ask) → IsUnhit st → Asks fs store xs p st i ask → Asks fs grown xs p st i ask
    asks_kept xs p st i ask unhit asks =
        let same = more_kept xs p st (free_operations_to i st) (unhit_safe st (free_operations_to i st) unhit) in
        record {
          reaches = record {
            begun = asks.reaches.begun;
            unended = asks.reaches.unended;
            decided = ap (λ l. suc (length l)) same ∙ asks.reaches.decided;
            all_versions = λ m. asks.reaches.all_versions m ∙ sym (ap length (standing_other st.cursor (unhit.other m)));
          };
          asked = ap (asked_at fs p st) same ∙ asks.asked;
        }

    -- Answers of records.

    module _ (fences : List KeyFence) (unfenced : fence v.key fences ≤ v.cursor) where
      last_fenced : (key : List ℕ) (seq : ℕ) (xs : List (Live Body)) → seq ≤ fence key fences → last_value_below key seq 0 grown xs ≡ last_value_below key seq 0 store xs
      last_fenced key seq xs le =
          last_kept key seq 0 xs
          (λ e.
          let same : seq ≤ fence v.key fences = subst (λ k. seq ≤ fence k fences) (same_key key v.key e) le in
          not_below_zero v.cursor v.number seq (omega (arith, same, unfenced)))

      values_fenced : (seq : ℕ) (keys : List (List ℕ)) (others : List KeyFence) (xs : List (Live Body)) → AreFenced fences (marked_reads_at seq keys others) → values_below seq 0 grown xs keys ≡ values_below seq 0 store xs keys
      values_fenced seq [] others xs all = refl
      values_fenced seq (key ∷ keys) others xs all = λ i. value_or_none (last_fenced key seq xs all.0 i) ∷ values_fenced seq keys others xs all.1 i

      own_kept : (q : List ℕ) (xs : List (Live Body)) (seq : ℕ) (body : Body) (others : List KeyFence) → is_step_of q (step_of body) ≡ true → AreFenced fences (marked_reads_by q seq body others) → own_answer grown xs seq body ≡ own_answer store xs seq body
      own_kept q xs seq (b.Read p i key) others own all =
          let it = subst (λ t. AreFenced fences (cond t (marked_reads_at seq (key ∷ []) others) others)) own all in ap (λ v. Some (a.Value (value_or_none v))) (last_fenced key seq xs it.0)
      own_kept q xs seq (b.ReadGroup p i keys) others own all =
          let it = subst (λ t. AreFenced fences (cond t (marked_reads_at seq keys others) others)) own all in ap (λ vs. Some (a.Values vs)) (values_fenced seq keys others xs it)
      own_kept q xs seq _ others own all = refl

      -- but for an Init
      abbrev pub NotInit : Body → Type 0
      NotInit (b.Init p) = ⊥
      NotInit _ = Unit {0}

      module _ (setup : Setup) where
        operated_kept :
            (q : List ℕ) (xs : List (Live Body)) (seq : ℕ) (body : Body) (i : ℕ) (d : InvocationState) (others : List KeyFence) → is_step_of q (step_of body) ≡ true → AreFenced fences (marked_reads_by q seq body others)
            → IsSafe d (i - suc (length d.answers)) → after_operation fs grown xs q seq body i d ≡ after_operation fs store xs q seq body i d
        operated_kept q xs seq body i d others own all safe = λ j. record d {
          place = suc d.place;
          cursor = seq;
          transaction = transaction_after seq body d.transaction;
          answers = add_answer (own_kept q xs seq body others own all j) (more_kept xs q d (i - suc (length d.answers)) safe j);
        }

        pub stepped_kept :
            (q : List ℕ) (xs : List (Live Body)) (seq : ℕ) (body : Body) (i : ℕ) (d : InvocationState) (others : List KeyFence) → is_step_of q (step_of body) ≡ true → AreFenced fences (marked_reads_by q seq body others)
            → (NotInit body → IsSafe d (i - suc (length d.answers))) → after_step_record setup fs grown xs q seq body i d ≡ after_step_record setup fs store xs q seq body i d
        stepped_kept q xs seq (b.Init p) i d others own all safe = refl
        stepped_kept q xs seq (b.Finish p n outcome) i d others own all safe = λ j. record d { place = suc d.place; cursor = seq; result = Some outcome; answers = more_kept xs q d (i - suc (length d.answers)) (safe tt) j }
        stepped_kept q xs seq body i d others own all safe = operated_kept q xs seq body i d others own all (safe tt)

-- Whatever the store has, an invocation's begin, mode, place, cursor, transaction and result are those of the records.

abbrev pub frame : InvocationState → InvocationState
frame p = record p { answers = [] }

module _ (setup : Setup) (fs : List Function) (s t : Store) where
  stepped_frame : (q : List ℕ) (xs : List (Live Body)) (seq : ℕ) (body : Body) (i : ℕ) (d e : InvocationState) → frame d ≡ frame e → frame (after_step_record setup fs s xs q seq body i d) ≡ frame (after_step_record setup fs t xs q seq body i e)
  stepped_frame q xs seq (b.Init p) i d e same = refl
  stepped_frame q xs seq (b.Finish p n outcome) i d e same = ap (λ (f : InvocationState). record f { place = suc f.place; cursor = seq; result = Some outcome }) same
  stepped_frame q xs seq body i d e same = ap (λ (f : InvocationState). record f { place = suc f.place; cursor = seq; transaction = transaction_after seq body f.transaction }) same

  pub same_frame : (q : List ℕ) (xs : List (Live Body)) → frame (invocation_state setup fs s q xs) ≡ frame (invocation_state setup fs t q xs)
  same_frame q [] = refl
  same_frame q (x ∷ xs) = at (step_of x.holds) (same_frame q xs)
    where
      at : (o : Option (List ℕ × ℕ)) → frame (invocation_state setup fs s q xs) ≡ frame (invocation_state setup fs t q xs) → frame (after_record setup fs s xs q x o (invocation_state setup fs s q xs)) ≡ frame (after_record setup fs t xs q x o (invocation_state setup fs t q xs))
      at None ih = ih
      at (Some r) ih = by_path (bytes_eq q r.0)
        where
          by_path : (u : Bool) → frame (cond u (after_step_record setup fs s xs q x.seq x.holds r.1 (invocation_state setup fs s q xs)) (invocation_state setup fs s q xs)) ≡ frame (cond u (after_step_record setup fs t xs q x.seq x.holds r.1 (invocation_state setup fs t q xs)) (invocation_state setup fs t q xs))
          by_path true = stepped_frame q xs x.seq x.holds r.1 (invocation_state setup fs s q xs) (invocation_state setup fs t q xs) ih
          by_path false = ih
