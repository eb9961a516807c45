-- Each live step record of an invocation comes where its script has come to.
use Rattle.std.proofs.Common.{◌≡◌, ℕ, zero, suc, ◌+◌, ◌-◌, ◌≤◌, Bool, true, false, cond, List, [], ◌∷◌, length, Option, Some, None, refl, sym, ap, ◌∙◌, subst, arith}
use Rattle.std.specs.Prelude.{drop, is_some}
use Rattle.lb_base.specs.declared.value.Mode.{Mode}
use Rattle.lb_base.specs.declared.value.Mode.TheVariants.{R, W, T}
use Rattle.lb_base.specs.declared.value.Outcome.{Outcome}
use Rattle.boki_types.specs.declared.body.Body.{Body}
use Rattle.boki_types.specs.declared.body.Body.TheVariants as b
use Rattle.boki_types.specs.declared.operation.Ask.{Ask}
use Rattle.boki_types.specs.declared.operation.Ask.TheVariants as k
use Rattle.boki_types.specs.declared.operation.Answer.{Answer}
use Rattle.boki_types.specs.declared.plan.Setup.{Setup}
use Rattle.boki_types.specs.declared.program.Function.{Function}
use Rattle.boki_model.specs.Live.{Live, upto}
use Rattle.boki_model.specs.Bodies.{step_of}
use Rattle.boki_model.specs.Writes.{Store, version_value, versions_at}
use Rattle.boki_model.proofs.Logs.{upto-upto, upto_skip}
use Rattle.boki_machine.specs.Decided.{InvocationState, asked_at, free_answer, add_answer, own_answer, with_free_answers, oldest, first_decided_answers}
use Rattle.exactly_once.specs.Induction.SoundLogs.{free_operations_to, Reaches, Asks, AllMayFollow}
use Rattle.boki_machine.specs.Step.{records_below}
use Rattle.exactly_once.specs.Induction.Invariant.{World, records, InvariantHolds}
use Rattle.exactly_once.specs.FurtherLaws.Words.{values_only}
use Rattle.exactly_once.proofs.Log.HistoryTails.{Tail, here, there, shorter, longer}
use Rattle.exactly_once.proofs.Log.LiveRecords.{live_under, upto_whole, under_tail}
use Rattle.exactly_once.proofs.Log.MapChanges.{same_itself}
use Rattle.exactly_once.proofs.Invocations.NextRecord.{stands, Does, does, apart, began, operates, ends}
use Rattle.exactly_once.proofs.Invocations.FreeAnswers.{IsNext, long_reaches}
use Rattle.exactly_once.proofs.Invocations.InitAndCursor.{upto_at, fit_tail, stands_on, ended_stays}
use Rattle.exactly_once.proofs.Asking.OpenTransactions.{same_step}
use Rattle.exactly_once.proofs.Asking.FreeAtCursor.{no_free, IsThere, is_there, none_next}
use Rattle.exactly_once.proofs.AfterEvents.CountedOperations.{may, is_operation}
use Rattle.exactly_once.proofs.AfterEvents.DuplicatesAgree.{none_dropped, tail_none, tail_shorter, and_tail, oldest_tail, decided_begun, unbegun_decides}
use Rattle.exactly_once.proofs.AfterEvents.EndIsLast.{finish_ends}
use Rattle.machine_laws.specs.Scripts.{RecordsAsk, IsReached}
use Rattle.machine_laws.proofs.Answered.{is_asked}

-- The first answers.

module _ {A : Type 0} where
  oldest_all : (n : ℕ) (l : List A) → length l ≤ n → oldest n l ≡ l
  oldest_all n l le = ap (λ m. drop m l) (let e : length l - n ≡ 0 = omega (arith, le) in e) ∙ none_dropped l

module _ (fs : List Function) (store : Store) (xs : List (Live Body)) (p : List ℕ) (st : InvocationState) where
  more_tail : (n : ℕ) → Tail st.answers (with_free_answers fs store xs p st n)
  more_tail zero = here
  more_tail (suc n) =
      let l = with_free_answers fs store xs p st n in
      longer (more_tail n) (and_tail (free_answer store xs st.cursor (length l - length st.answers) st.mode (asked_at fs p st l)) l)

  -- where no free operation is decided behind these answers, there are no more
  module _ (l : List Answer) (none : free_answer store xs st.cursor (length l - length st.answers) st.mode (asked_at fs p st l) ≡ None) where
    no_more : (d n : ℕ) → with_free_answers fs store xs p st n ≡ l → with_free_answers fs store xs p st (d + n) ≡ l
    no_more zero n is = ap (with_free_answers fs store xs p st) (let e : 0 + n ≡ n = omega arith in e) ∙ is
    no_more (suc d) n is =
        ap (with_free_answers fs store xs p st) (let e : suc d + n ≡ suc (d + n) = omega arith in e)
        ∙ ap (λ l. add_answer (free_answer store xs st.cursor (length l - length st.answers) st.mode (asked_at fs p st l)) l) (no_more d n is)
        ∙ ap (λ answer. add_answer answer l) none

    no_more_from : (n m : ℕ) → n ≤ m → with_free_answers fs store xs p st n ≡ l → with_free_answers fs store xs p st m ≡ l
    no_more_from n m le is = ap (with_free_answers fs store xs p st) (let e : m ≡ (m - n) + n = omega (arith, le) in e) ∙ no_more (m - n) n is

done_none : (store : Store) (xs : List (Live Body)) (c since : ℕ) (mode : Mode) (outcome : Outcome) → free_answer store xs c since mode (Some (k.Done outcome)) ≡ None
done_none store xs c since R outcome = refl
done_none store xs c since W outcome = refl
done_none store xs c since T outcome = refl

module _ (setup : Setup) (fs : List Function) (w : World) (holds : InvariantHolds setup fs w) (p : List ℕ) where
  abbrev store : Store
  store = values_only w.store

  abbrev now : List (Live Body)
  now = records w

  abbrev at_now : InvocationState
  at_now = stands setup fs store p now

  fit_at : (xs : List (Live Body)) → Tail xs now → AllMayFollow setup fs store xs
  fit_at xs t = fit_tail setup fs store xs now t holds.sound.fit

  -- What comes behind a moment at which the invocation had begun.
  record Goes (ys zs : List (Live Body)) : Type 0 where
    pub begun : (stands setup fs store p zs).begun ≡ true
    pub function_is : (stands setup fs store p zs).function ≡ (stands setup fs store p ys).function
    pub args_are : (stands setup fs store p zs).args ≡ (stands setup fs store p ys).args
    pub tail : Tail (stands setup fs store p ys).answers (stands setup fs store p zs).answers

  goes : (ys zs : List (Live Body)) → Tail ys zs → Tail zs now → (stands setup fs store p ys).begun ≡ true → Goes ys zs
  goes ys zs here t begun = record { begun = begun; function_is = refl; args_are = refl; tail = here }
  goes ys (z ∷ zs) (there s) t begun = at (goes ys zs s (shorter t) begun) (stands setup fs store p (z ∷ zs)) refl (does setup fs store z zs p (fit_at (z ∷ zs) t).0)
    where
      was : InvocationState
      was = stands setup fs store p zs

      on_to : Goes ys zs → (next : InvocationState) → stands setup fs store p (z ∷ zs) ≡ next → next.begun ≡ was.begun → next.function ≡ was.function → next.args ≡ was.args → Tail was.answers next.answers → Goes ys (z ∷ zs)
      on_to ih next e begun function args tail = record {
        begun = ap (λ (st : InvocationState). st.begun) e ∙ begun ∙ ih.begun;
        function_is = ap (λ (st : InvocationState). st.function) e ∙ function ∙ ih.function_is;
        args_are = ap (λ (st : InvocationState). st.args) e ∙ args ∙ ih.args_are;
        tail = subst (λ (st : InvocationState). Tail (stands setup fs store p ys).answers st.answers) (sym e) (longer ih.tail tail);
      }

      at : Goes ys zs → (next : InvocationState) → stands setup fs store p (z ∷ zs) ≡ next → Does setup fs store z.seq z.holds zs p next → Goes ys (z ∷ zs)
      at ih next e (apart other finish is) = on_to ih was (e ∙ is) refl refl refl here
      at ih next e (began body may is) = absurd (let no_way : true ≡ false = sym ih.begun ∙ may.new in let h : ⊥ = cc in h)
      at ih next e (operates i step finish reaches is) =
          on_to ih _ (e ∙ is) refl refl refl (longer (more_tail fs store zs p was (free_operations_to i was)) (and_tail (own_answer store zs z.seq z.holds) (with_free_answers fs store zs p was (free_operations_to i was))))
      at ih next e (ends i outcome body is_done is) = on_to ih _ (e ∙ is) refl refl refl (more_tail fs store zs p was (free_operations_to i was))

  -- answers up to some moment are the first that are decided
  decided_first : at_now.begun ≡ true → (us : List Answer) → Tail us at_now.answers → first_decided_answers setup fs store now p (length us) ≡ us
  decided_first begun us t =
      decided_begun setup fs store now p (length us) begun
      ∙ ap (λ n. oldest (length us) (with_free_answers fs store now p at_now n)) (let le = tail_shorter us at_now.answers t in let e : length us - length at_now.answers ≡ 0 = omega (arith, le) in e)
      ∙ oldest_tail us at_now.answers t

  module _ (x : Live Body) (xs : List (Live Body)) (t : Tail (x ∷ xs) now) (i : ℕ) (step : step_of x.holds ≡ Some (p, i)) where
    abbrev st : InvocationState
    st = stands setup fs store p xs

    abbrev l : List Answer
    l = with_free_answers fs store xs p st (free_operations_to i st)

    below_is : records_below x.seq now ≡ xs
    below_is =
        let u = under_tail (x ∷ xs) (length w.log) now (live_under w.log) t in
        let le : x.seq - 1 ≤ x.seq = omega arith in
        sym (upto-upto (x.seq - 1) x.seq now le)
        ∙ ap (upto (x.seq - 1)) (upto_at x xs (length w.log) now (live_under w.log) t)
        ∙ upto_skip (x.seq - 1) x xs (let e = u.1 in omega (arith, e))
        ∙ upto_whole u.0 (x.seq - 1) xs u.3 (let e = u.1 in omega (arith, e))

    -- of an invocation that has begun and comes to this record
    module _ (reaches : Reaches fs store xs p st i) (ask : Ask) (asks : Asks fs store xs p st i ask) where
      long : length l ≡ free_operations_to i st + length st.answers
      long = long_reaches fs store xs p st i reaches

      -- the next number at its cursor has no version
      next_absent : st.mode ≡ W → (key : List ℕ) → version_value key st.cursor (suc (versions_at st.cursor store.versions)) store.versions ≡ None
      next_absent mode key =
          let on = stands_on setup fs store p xs (fit_at xs (shorter t)) reaches.begun in
          let tail_on = longer on.tail (shorter t) in
          let u = under_tail (on.on ∷ on.behind) (length w.log) now (live_under w.log) tail_on in
          let same = on.same in
          subst (λ c. version_value key c (suc (versions_at c store.versions)) store.versions ≡ None) on.seq_is
          (none_next setup fs store p on.on.seq (on.on ∷ on.behind) (u.0, u.1, (let e = u.1 in omega (arith, e)), u.3) (fit_at (on.on ∷ on.behind) tail_on)
          (ap (λ (st : InvocationState). st.begun) (sym same) ∙ reaches.begun) (ap (λ (st : InvocationState). st.result) (sym same) ∙ reaches.unended) (ap (λ (st : InvocationState). st.cursor) (sym same) ∙ sym on.seq_is) (ap (λ (st : InvocationState). st.mode) (sym same) ∙ mode) key)

      -- so behind these answers no free operation is decided
      none : free_answer store xs st.cursor (length l - length st.answers) st.mode (asked_at fs p st l) ≡ None
      none = at (free_answer store xs st.cursor (length l - length st.answers) st.mode (asked_at fs p st l)) refl
        where
          number : length l - length st.answers ≡ free_operations_to i st
          number = let e = long in omega (arith, e)

          free_by : (mode : Mode) (answer : Answer) → free_answer store xs st.cursor (length l - length st.answers) st.mode (asked_at fs p st l) ≡ Some answer → st.mode ≡ mode → free_answer store xs st.cursor (free_operations_to i st) mode (asked_at fs p st l) ≡ Some answer
          free_by mode answer free is = (λ u. free_answer store xs st.cursor (sym number u) (sym is u) (asked_at fs p st l)) ∙ free

          next : (answer : Answer) → free_answer store xs st.cursor (length l - length st.answers) st.mode (asked_at fs p st l) ≡ Some answer → IsNext fs store xs p st (free_operations_to i st)
          next answer free = record {
            answer = answer;
            free = free_by st.mode answer free refl;
            is = ap (λ answer. add_answer answer l) free;
            before = long;
          }

          logged : (answer : Answer) → free_answer store xs st.cursor (length l - length st.answers) st.mode (asked_at fs p st l) ≡ Some answer → (st.mode ≡ W → ⊥) → ⊥
          logged answer free not_W =
              no_free fs store xs p st w.store.fences (free_operations_to i st) ask not_W asks.asked (may setup fs w holds x xs t p i step reaches.begun ask asks) (next answer free)

          by_mode : (answer : Answer) → free_answer store xs st.cursor (length l - length st.answers) st.mode (asked_at fs p st l) ≡ Some answer → (mode : Mode) → st.mode ≡ mode → ⊥
          by_mode answer free R is = logged answer free (λ e. let no_way : R ≡ W = sym is ∙ e in cc)
          by_mode answer free T is = logged answer free (λ e. let no_way : T ≡ W = sym is ∙ e in cc)
          by_mode answer free W is =
              let its : IsThere store st.cursor (free_operations_to i st) (asked_at fs p st l) answer = is_there store xs st.cursor (free_operations_to i st) (asked_at fs p st l) answer (free_by W answer free is) in
              let absent : version_value its.key st.cursor (suc (free_operations_to i st)) store.versions ≡ None = ap (λ n. version_value its.key st.cursor (suc n) store.versions) (reaches.all_versions is) ∙ next_absent is its.key in
              let no_way : false ≡ true = sym (ap is_some absent) ∙ its.there_is in cc

          at : (answer : Option Answer) → free_answer store xs st.cursor (length l - length st.answers) st.mode (asked_at fs p st l) ≡ answer → answer ≡ None
          at None e = refl
          at (Some answer) e = absurd (by_mode answer e st.mode refl)

      -- what it decides up to here is all that the records below decide
      all_below : (n : ℕ) → length l ≤ n → first_decided_answers setup fs store (records_below x.seq now) p n ≡ l
      all_below n le =
          ap (λ ys. first_decided_answers setup fs store ys p n) below_is
          ∙ decided_begun setup fs store xs p n reaches.begun
          ∙ ap (oldest n) (no_more_from fs store xs p st l none (free_operations_to i st) (n - length st.answers) (let e = long in omega (arith, e, le)) refl)
          ∙ oldest_all n l le

      -- the point behind the record, and all that comes later
      module _ (behind_is : (stands setup fs store p (x ∷ xs)).answers ≡ add_answer (own_answer store xs x.seq x.holds) l) (begun : (stands setup fs store p (x ∷ xs)).begun ≡ true) (function_is : (stands setup fs store p (x ∷ xs)).function ≡ st.function) (args_are : (stands setup fs store p (x ∷ xs)).args ≡ st.args) where
        later : Goes (x ∷ xs) now
        later = goes (x ∷ xs) now t here begun

        index : i ≡ suc (length l)
        index = sym reaches.decided

        asked_same : (answers : List Answer) → asked_at fs p at_now answers ≡ asked_at fs p st answers
        asked_same answers = λ u. asked_at fs p (record st { function = (later.function_is ∙ function_is) u; args = (later.args_are ∙ args_are) u }) answers

        tail_own : (own : Option Answer) → own_answer store xs x.seq x.holds ≡ own → Tail (add_answer own l) at_now.answers
        tail_own own is = subst (λ us. Tail us at_now.answers) (behind_is ∙ ap (λ answer. add_answer answer l) is) later.tail

        first : first_decided_answers setup fs store now p (length l) ≡ l
        first = decided_first later.begun l (longer (and_tail (own_answer store xs x.seq x.holds) l) (tail_own (own_answer store xs x.seq x.holds) refl))

        own : (answer : Answer) → own_answer store (records_below x.seq now) x.seq x.holds ≡ Some answer → first_decided_answers setup fs store now p i ≡ answer ∷ l
        own answer is =
            ap (first_decided_answers setup fs store now p) index
            ∙ decided_first later.begun (answer ∷ l) (tail_own (Some answer) (ap (λ ys. own_answer store ys x.seq x.holds) (sym below_is) ∙ is))

        -- behind a Finish nothing is decided
        at_end : (outcome : Outcome) (n : ℕ) → x.holds ≡ b.Finish p i outcome → length l ≤ n → first_decided_answers setup fs store now p n ≡ l
        at_end outcome n body le =
            decided_begun setup fs store now p n later.begun
            ∙ ap (oldest n) (no_more_from fs store now p at_now l nothing 0 (n - length at_now.answers) (omega arith) answers_are)
            ∙ oldest_all n l le
          where
            answers_are : at_now.answers ≡ l
            answers_are =
                ap (λ (st : InvocationState). st.answers) (ended_stays setup fs store p (x ∷ xs) now t holds.sound.fit (finish_ends p i outcome x xs body))
                ∙ behind_is ∙ ap (λ body. add_answer (own_answer store xs x.seq body) l) body

            asked_done : asked_at fs p at_now l ≡ Some (k.Done outcome)
            asked_done =
                asked_same l
                ∙ subst (λ body. RecordsAsk fs store (asked_at fs p st l) body) body (is_asked fs p setup store xs i x.holds step (fit_at (x ∷ xs) t).0)

            nothing : free_answer store now at_now.cursor (length l - length at_now.answers) at_now.mode (asked_at fs p at_now l) ≡ None
            nothing =
                ap (free_answer store now at_now.cursor (length l - length at_now.answers) at_now.mode) asked_done
                ∙ done_none store now at_now.cursor (length l - length at_now.answers) at_now.mode outcome

        is_reached : IsReached setup fs store now p x i
        is_reached = record {
          before = l;
          index_is = index;
          first = first;
          all = all_below;
          asked = subst (λ ask. RecordsAsk fs store ask x.holds) (sym (asked_same l)) (is_asked fs p setup store xs i x.holds step (fit_at (x ∷ xs) t).0);
          own = own;
          end = at_end;
        }

    -- its Init
    at_init : x.holds ≡ b.Init p → st.begun ≡ false → IsReached setup fs store now p x i
    at_init body new = record {
      before = [];
      index_is = sym (step_index (p, 1) (p, i) (ap step_of (sym body) ∙ step));
      first = none_yet at_now.begun (oldest_tail [] (with_free_answers fs store now p at_now (0 - length at_now.answers)) (tail_none _));
      all = λ n le. ap (λ ys. first_decided_answers setup fs store ys p n) below_is ∙ unbegun_decides setup fs store xs p n new;
      asked = subst (λ body. RecordsAsk fs store (asked_at fs p at_now []) body) (sym body) tt;
      own = λ answer is. (let no_way : None ≡ Some answer = ap (own_answer store (records_below x.seq now) x.seq) (sym body) ∙ is in cc);
      end = λ outcome n is le. (let no_way : b.Init p ≡ b.Finish p i outcome = sym body ∙ is in cc);
    }
      where
        none_yet : {l : List Answer} (begun : Bool) → l ≡ [] → cond begun l [] ≡ []
        none_yet true e = e
        none_yet false e = refl

        step_index : (s s' : List ℕ × ℕ) → ◌≡◌ {A = Option (List ℕ × ℕ)} (Some s) (Some s') → s.1 ≡ s'.1
        step_index s s' e = ap (λ (s : List ℕ × ℕ). s.1) (same_step s s' e)

    pub reached : IsReached setup fs store now p x i
    reached = at (stands setup fs store p (x ∷ xs)) refl (does setup fs store x xs p (fit_at (x ∷ xs) t).0)
      where
        same_index : (j : ℕ) → ◌≡◌ {A = Option (List ℕ × ℕ)} (Some (p, j)) (Some (p, i)) → j ≡ i
        same_index j e = ap (λ (s : List ℕ × ℕ). s.1) (same_step (p, j) (p, i) e)

        at : (next : InvocationState) → stands setup fs store p (x ∷ xs) ≡ next → Does setup fs store x.seq x.holds xs p next → IsReached setup fs store now p x i
        at next e (apart other finish is) = let no_way : true ≡ false = sym (same_itself p) ∙ other (p, i) step in cc
        at next e (began body may is) = at_init body may.new
        at next e (operates j own finish reaches is) =
            let same : j ≡ i = same_index j (sym own ∙ step) in
            let reaches_i : Reaches fs store xs p st i = subst (Reaches fs store xs p st) same reaches in
            let op = is_operation setup fs w holds x xs t p i step reaches.begun finish in
            is_reached reaches_i (k.Op op.op) (record { reaches = reaches_i; asked = op.asked })
            (ap (λ (st : InvocationState). st.answers) (e ∙ is) ∙ ap (λ j. add_answer (own_answer store xs x.seq x.holds) (with_free_answers fs store xs p st (free_operations_to j st))) same)
            (ap (λ (st : InvocationState). st.begun) (e ∙ is) ∙ reaches.begun) (ap (λ (st : InvocationState). st.function) (e ∙ is)) (ap (λ (st : InvocationState). st.args) (e ∙ is))
        at next e (ends j outcome body asks is) =
            let same : j ≡ i = same_index j (ap step_of (sym body) ∙ step) in
            let asks_i : Asks fs store xs p st i (k.Done outcome) = subst (λ i. Asks fs store xs p st i (k.Done outcome)) same asks in
            is_reached asks_i.reaches (k.Done outcome) asks_i
            (ap (λ (st : InvocationState). st.answers) (e ∙ is) ∙ ap (λ j. with_free_answers fs store xs p st (free_operations_to j st)) same ∙ ap (λ body. add_answer (own_answer store xs x.seq body) l) (sym body))
            (ap (λ (st : InvocationState). st.begun) (e ∙ is) ∙ asks_i.reaches.begun) (ap (λ (st : InvocationState). st.function) (e ∙ is)) (ap (λ (st : InvocationState). st.args) (e ∙ is))
