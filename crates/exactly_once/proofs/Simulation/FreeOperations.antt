-- The failure-free execution of the free operations behind a step record.
use Rattle.std.proofs.Common.{◌≡◌, ℕ, zero, suc, ◌+◌, List, [], ◌∷◌, length, Option, Some, None, refl, sym, ap, ◌∙◌, subst, arith}
use Rattle.lb_base.specs.declared.value.Value.{Value}
use Rattle.lb_base.specs.declared.value.Outcome.{Outcome}
use Rattle.lb_base.specs.declared.value.Mode.{Mode}
use Rattle.lb_base.specs.declared.value.Mode.TheVariants.{R, W, T}
use Rattle.boki_types.specs.declared.body.Body.{Body}
use Rattle.boki_types.specs.declared.operation.Answer.{Answer}
use Rattle.boki_types.specs.declared.operation.Answer.TheVariants as a
use Rattle.boki_types.specs.declared.program.Function.{Function}
use Rattle.boki_model.specs.Live.{Live}
use Rattle.boki_model.specs.Writes.{Store, Version, version_value, last_value_below}
use Rattle.boki_machine.specs.Decided.{InvocationState, asked_at, value_or_none, values_below, free_answer}
use Rattle.boki_machine.specs.Ideal.{Invocation, Ideal, Dirty}
use Rattle.exactly_once.specs.FurtherLaws.Words.{versions_with_cursor, AreConsecutive}
use Rattle.exactly_once.specs.Induction.SoundLogs.{AreNextWrites, MayStand}
use Rattle.exactly_once.proofs.Log.HistoryTails.{Tail, here, shorter}
use Rattle.exactly_once.proofs.Log.LiveRecords.{Under}
use Rattle.exactly_once.proofs.Invocations.FreeAnswers.{on, IsNext, next_decided, is_read, IsRead, reads, reads_all, AreFound, writes_long, IsWritten, is_written}
use Rattle.exactly_once.proofs.LastWrites.ObjectStages.{is_found, stage_version, stage_others, stage_end}
use Rattle.exactly_once.proofs.Simulation.NextOperations.{Gone, moved_to, answering, go_answer, go_write}
use Rattle.exactly_once.proofs.Simulation.NextOperations as goes

-- an invocation that runs, as its point says, with these answers and its open transaction
abbrev pub running_at : InvocationState → List Answer → Option Dirty → Invocation
running_at st l transaction = record { function = st.function; args = st.args; answers = l; result = None; transaction = transaction }

-- the versions at a record are numbered from 1
next_numbered : (fs : List Function) (store : Store) (records : List (Live Body)) (p : List ℕ) (st : InvocationState) (vs : List Version) → AreNextWrites fs store records p st vs → AreConsecutive vs
next_numbered fs store records p st [] are = tt
next_numbered fs store records p st (v ∷ vs) are = (are.0, next_numbered fs store records p st vs are.2)

none_numbered : (vs : List Version) → vs ≡ [] → AreConsecutive vs
none_numbered vs none = subst AreConsecutive (sym none) tt

pub stand_numbered : (fs : List Function) (store : Store) (records : List (Live Body)) (p : List ℕ) (st : InvocationState) (result : Option Outcome) (mode : Mode) (vs : List Version) → MayStand fs store records p st result mode vs → AreConsecutive vs
stand_numbered fs store records p st None W vs stand = next_numbered fs store records p st vs stand
stand_numbered fs store records p st None R vs stand = none_numbered vs stand
stand_numbered fs store records p st None T vs stand = none_numbered vs stand
stand_numbered fs store records p st (Some outcome) mode vs stand = none_numbered vs stand

module _ (fs : List Function) (store : Store) (x : Live Body) (xs : List (Live Body)) (m : ℕ) (is_seq : x.seq ≡ suc m) (under : Under m xs) (numbered : AreConsecutive (versions_with_cursor x.seq store.versions)) where
  module _ (p : List ℕ) (others : List ℕ → Option Invocation) (queues : List (List ℕ × List Value)) (names : List (List ℕ × Value)) (st : InvocationState) (cursor : st.cursor ≡ x.seq) (transaction : Option Dirty) (s0 : Ideal) (own : ℕ) where
    abbrev Comes : ℕ → ℕ → ℕ → ℕ → Type 0
    Comes n k c l = Gone fs store (x ∷ xs) p others queues names s0 n (running_at st (on fs store (x ∷ xs) p st k) transaction) c l

    with_answers : (n c l : ℕ) (l1 l2 : List Answer) → l1 ≡ l2 → Gone fs store (x ∷ xs) p others queues names s0 n (running_at st l1 transaction) c l → Gone fs store (x ∷ xs) p others queues names s0 n (running_at st l2 transaction) c l
    with_answers n c l l1 l2 same gone = subst (λ a. Gone fs store (x ∷ xs) p others queues names s0 n (running_at st a transaction) c l) same gone

    one_more : (k n c l : ℕ) → n ≡ suc (own + k) → Gone fs store (x ∷ xs) p others queues names s0 (suc (own + k)) (running_at st (on fs store (x ∷ xs) p st (suc k)) transaction) c l → Comes n (suc k) c l
    one_more k n c l e gone = subst (λ n. Comes n (suc k) c l) (sym e) gone

    -- reads at the cursor
    reads_go : st.mode ≡ R → (k : ℕ) → length (on fs store (x ∷ xs) p st k) ≡ k + length st.answers → Comes own 0 (suc x.seq) 0 → Comes (own + k) k (suc x.seq) 0
    reads_go mode zero long start = subst (λ n. Comes n 0 (suc x.seq) 0) (let e : own ≡ own + 0 = omega arith in e) start
    reads_go mode (suc k) long start = at (reads_go mode k next.before start) (is_read store (x ∷ xs) x.seq k (asked_at fs p st (on fs store (x ∷ xs) p st k)) next.answer free)
      where
        next : IsNext fs store (x ∷ xs) p st k
        next = next_decided fs store (x ∷ xs) p st k long

        free : free_answer store (x ∷ xs) x.seq k R (asked_at fs p st (on fs store (x ∷ xs) p st k)) ≡ Some next.answer
        free = ap (λ m. free_answer store (x ∷ xs) x.seq k m (asked_at fs p st (on fs store (x ∷ xs) p st k))) (sym mode)
            ∙ ap (λ c. free_answer store (x ∷ xs) c k st.mode (asked_at fs p st (on fs store (x ∷ xs) p st k))) (sym cursor) ∙ next.free

        at : Comes (own + k) k (suc x.seq) 0 → IsRead store (x ∷ xs) x.seq (asked_at fs p st (on fs store (x ∷ xs) p st k)) next.answer → Comes (own + suc k) (suc k) (suc x.seq) 0
        at gone (reads key asked is) =
            one_more k (own + suc k) (suc x.seq) 0 (omega arith)
            (with_answers (suc (own + k)) (suc x.seq) 0 (a.Value (value_or_none (last_value_below key (suc x.seq) 0 store (x ∷ xs))) ∷ on fs store (x ∷ xs) p st k) (on fs store (x ∷ xs) p st (suc k)) (ap (λ y. y ∷ on fs store (x ∷ xs) p st k) (sym is) ∙ sym next.is)
            (go_answer fs store (x ∷ xs) p others queues names s0 (own + k) (running_at st (on fs store (x ∷ xs) p st k) transaction) (suc x.seq) 0 (a.Value (value_or_none (last_value_below key (suc x.seq) 0 store (x ∷ xs)))) gone refl
            (goes.reads fs store (x ∷ xs) p others queues names gone.state (running_at st (on fs store (x ∷ xs) p st k) transaction) (suc x.seq) 0 key gone.is.objects asked)))
        at gone (reads_all keys asked is) =
            one_more k (own + suc k) (suc x.seq) 0 (omega arith)
            (with_answers (suc (own + k)) (suc x.seq) 0 (a.Values (values_below (suc x.seq) 0 store (x ∷ xs) keys) ∷ on fs store (x ∷ xs) p st k) (on fs store (x ∷ xs) p st (suc k)) (ap (λ y. y ∷ on fs store (x ∷ xs) p st k) (sym is) ∙ sym next.is)
            (go_answer fs store (x ∷ xs) p others queues names s0 (own + k) (running_at st (on fs store (x ∷ xs) p st k) transaction) (suc x.seq) 0 (a.Values (values_below (suc x.seq) 0 store (x ∷ xs) keys)) gone refl
            (goes.reads_all fs store (x ∷ xs) p others queues names gone.state (running_at st (on fs store (x ∷ xs) p st k) transaction) (suc x.seq) keys gone.is.objects asked)))

    -- the versions at the cursor
    found_all : (vs : List Version) → Tail vs (versions_with_cursor x.seq store.versions) → AreConsecutive vs → AreFound store st.cursor vs
    found_all [] t num = tt
    found_all (v ∷ vs) t num = (ap (λ c. version_value v.key c v.number store.versions) cursor ∙ is_found store x xs m is_seq under numbered v vs t num.0, found_all vs (shorter t) num.1)

    writes_go : st.mode ≡ W → (vs : List Version) → Tail vs (versions_with_cursor x.seq store.versions) → AreNextWrites fs store (x ∷ xs) p st vs → Comes own 0 x.seq 1 → Comes (own + length vs) (length vs) x.seq (suc (length vs))
    writes_go mode [] t are start = subst (λ n. Comes n 0 x.seq 1) (let e : own ≡ own + 0 = omega arith in e) start
    writes_go mode (v ∷ vs) t are start =
        let num : AreConsecutive (v ∷ vs) = next_numbered fs store (x ∷ xs) p st (v ∷ vs) are in
        let next : IsWritten fs store (x ∷ xs) p st mode (length vs) = is_written fs store (x ∷ xs) p st mode v vs are (found_all (v ∷ vs) t num) in
        one_more (length vs) (own + suc (length vs)) x.seq (suc (suc (length vs))) (omega arith)
        (with_answers (suc (own + length vs)) x.seq (suc (suc (length vs))) (a.Done ∷ on fs store (x ∷ xs) p st (length vs)) (on fs store (x ∷ xs) p st (suc (length vs))) (sym next.is)
        (go_write fs store (x ∷ xs) p others queues names s0 (own + length vs) (running_at st (on fs store (x ∷ xs) p st (length vs)) transaction) x.seq (suc (length vs)) v.key v.value
        (writes_go mode vs (shorter t) are.2 start) refl are.1 (stage_version store x xs m is_seq under numbered v vs t num.0) (stage_others store x xs m is_seq under numbered v vs t num.0)))

    no_versions : versions_with_cursor x.seq store.versions ≡ [] → Comes own 0 x.seq 1 → Comes own 0 (suc x.seq) 0
    no_versions none start =
        moved_to fs store (x ∷ xs) p others queues names s0 own (running_at st (on fs store (x ∷ xs) p st 0) transaction) x.seq 1 (suc x.seq) 0
        (λ key. ap (λ l. last_value_below key x.seq (suc (length l)) store (x ∷ xs)) (sym none) ∙ stage_end store x xs m is_seq under numbered key) start

    -- all free operations up to the next step record, or up to the last version
    pub frees_go :
        (mode : Mode) → st.mode ≡ mode → MayStand fs store (x ∷ xs) p st None mode (versions_with_cursor x.seq store.versions)
        → (k : ℕ) → (st.mode ≡ W → k ≡ length (versions_with_cursor x.seq store.versions)) → length (on fs store (x ∷ xs) p st k) ≡ k + length st.answers
        → Comes own 0 x.seq 1 → Comes (own + k) k (suc x.seq) 0
    frees_go R mode stand k all long start = reads_go mode k long (no_versions stand start)
    frees_go T mode stand k all long start = at k long
      where
        at : (k : ℕ) → length (on fs store (x ∷ xs) p st k) ≡ k + length st.answers → Comes (own + k) k (suc x.seq) 0
        at zero long = subst (λ n. Comes n 0 (suc x.seq) 0) (let e : own ≡ own + 0 = omega arith in e) (no_versions stand start)
        at (suc k) long =
            let next : IsNext fs store (x ∷ xs) p st k = next_decided fs store (x ∷ xs) p st k long in
            let no_way : None ≡ Some next.answer = ap (λ m. free_answer store (x ∷ xs) st.cursor k m (asked_at fs p st (on fs store (x ∷ xs) p st k))) (sym mode) ∙ next.free in cc
    frees_go W mode stand k all long start =
        subst (λ k. Comes (own + k) k (suc x.seq) 0) (sym (all mode))
        (moved_to fs store (x ∷ xs) p others queues names s0 (own + length (versions_with_cursor x.seq store.versions)) (running_at st (on fs store (x ∷ xs) p st (length (versions_with_cursor x.seq store.versions))) transaction) x.seq (suc (length (versions_with_cursor x.seq store.versions))) (suc x.seq) 0
        (stage_end store x xs m is_seq under numbered) (writes_go mode (versions_with_cursor x.seq store.versions) here stand start))

    -- where no step record follows, as many as there are versions
    pub last_decided : (mode : Mode) → st.mode ≡ mode → MayStand fs store (x ∷ xs) p st None mode (versions_with_cursor x.seq store.versions) → length (on fs store (x ∷ xs) p st (length (versions_with_cursor x.seq store.versions))) ≡ length (versions_with_cursor x.seq store.versions) + length st.answers
    last_decided R mode stand = subst (λ (l : List Version). length (on fs store (x ∷ xs) p st (length l)) ≡ length l + length st.answers) (sym stand) (omega arith)
    last_decided T mode stand = subst (λ (l : List Version). length (on fs store (x ∷ xs) p st (length l)) ≡ length l + length st.answers) (sym stand) (omega arith)
    last_decided W mode stand = writes_long fs store (x ∷ xs) p st mode (versions_with_cursor x.seq store.versions) stand (found_all (versions_with_cursor x.seq store.versions) here (next_numbered fs store (x ∷ xs) p st (versions_with_cursor x.seq store.versions) stand))
