-- Each answer is of what the script asks after those before it.
use Rattle.std.proofs.Common.{◌≡◌, ℕ, zero, suc, ◌-◌, Bool, true, false, cond, List, [], ◌∷◌, length, Option, Some, None, refl, sym, ap, ◌∙◌, subst}
use Rattle.std.specs.Prelude.{drop, is_some}
use Rattle.lb_base.specs.declared.value.Value.{Value}
use Rattle.lb_base.specs.declared.value.Mode.{Mode}
use Rattle.lb_base.specs.declared.value.Mode.TheVariants.{R, W, T}
use Rattle.lb_base.specs.declared.value.Outcome.{Outcome}
use Rattle.boki_types.specs.declared.body.Body.{Body}
use Rattle.boki_types.specs.declared.body.Body.TheVariants as b
use Rattle.boki_types.specs.declared.operation.Op.{Op}
use Rattle.boki_types.specs.declared.operation.Op.TheVariants as o
use Rattle.boki_types.specs.declared.operation.Ask.{Ask}
use Rattle.boki_types.specs.declared.operation.Ask.TheVariants as k
use Rattle.boki_types.specs.declared.operation.Answer.{Answer}
use Rattle.boki_types.specs.declared.operation.Answer.TheVariants as a
use Rattle.boki_types.specs.declared.plan.Setup.{Setup}
use Rattle.boki_types.specs.declared.program.Function.{Function}
use Rattle.boki_model.specs.Live.{Live}
use Rattle.boki_model.specs.Bodies.{child, step_of}
use Rattle.boki_model.specs.Modes.{result_of}
use Rattle.boki_model.specs.Writes.{Store, version_value}
use Rattle.boki_model.specs.Folds.{commits, store_values, values_of_names}
use Rattle.boki_machine.specs.Decided.{InvocationState, asked_at, values_below, free_answer, add_answer, own_answer, join_answer, with_free_answers, after_operation, after_finish}
use Rattle.exactly_once.specs.Induction.SoundLogs.{free_operations_to, Asks, MayFollow, AllMayFollow}
use Rattle.exactly_once.proofs.Invocations.NextRecord.{stands, Does, does, apart, began, operates, ends}
use Rattle.exactly_once.proofs.Invocations.FreeAnswers.{IsRead, reads, reads_all, is_read}
use Rattle.exactly_once.proofs.Asking.OpenTransactions.{same_step}
use Rattle.script_run.specs.Answering.{IsOfKind}
use Rattle.machine_laws.specs.Scripts.{AnswersAsk, AnswerInOrder, RecordsAsk}

-- an answer of what is asked
pub record Fitting (ask : Option Ask) (answer : Answer) : Type 0 where
  pub op : Op
  pub asked : ask ≡ Some (k.Op op)
  pub of_kind : IsOfKind op answer

-- What a free operation answers.

length-values_below : (c j : ℕ) (store : Store) (xs : List (Live Body)) (keys : List (List ℕ)) → length (values_below c j store xs keys) ≡ length keys
length-values_below c j store xs [] = refl
length-values_below c j store xs (key ∷ keys) = ap suc (length-values_below c j store xs keys)

module _ (store : Store) (xs : List (Live Body)) (c since : ℕ) where
  free_read : (ask : Option Ask) (answer : Answer) → IsRead store xs c ask answer → Fitting ask answer
  free_read ask answer (reads key is e) = record { op = o.Read key; asked = is; of_kind = subst (IsOfKind (o.Read key)) (sym e) tt }
  free_read ask answer (reads_all keys is e) =
      record { op = o.ReadGroup keys; asked = is; of_kind = subst (IsOfKind (o.ReadGroup keys)) (sym e) (length-values_below (suc c) 0 store xs keys) }

  free_write : (ask : Option Ask) (answer : Answer) → free_answer store xs c since W ask ≡ Some answer → Fitting ask answer
  free_write (Some (k.Op (o.Write key value))) answer e = at (is_some (version_value key c (suc since) store.versions)) e
    where
      at : (t : Bool) → cond t (Some a.Done) None ≡ Some answer → Fitting (Some (k.Op (o.Write key value))) answer
      at true e = let same : a.Done ≡ answer = cc in record { op = o.Write key value; asked = refl; of_kind = subst (IsOfKind (o.Write key value)) same tt }
      at false e = cc
  free_write _ answer e = let no_way : None ≡ Some answer = e in cc

  pub free_fits : (mode : Mode) (ask : Option Ask) (answer : Answer) → free_answer store xs c since mode ask ≡ Some answer → Fitting ask answer
  free_fits R ask answer e = free_read ask answer (is_read store xs c since ask answer e)
  free_fits W ask answer e = free_write ask answer e
  free_fits T ask answer e = let no_way : None ≡ Some answer = e in cc

-- What a step record answers.

length-values_of : (names : List (List ℕ)) (m : List (List ℕ × Value)) → length (values_of_names names m) ≡ length names
length-values_of [] m = refl
length-values_of (n ∷ names) m = ap suc (length-values_of names m)

module _ (fs : List Function) (store : Store) (xs : List (Live Body)) (seq : ℕ) where
  one : (ask : Option Ask) (op : Op) (own answer : Answer) → ask ≡ Some (k.Op op) → IsOfKind op own → Some own ≡ Some answer → Fitting ask answer
  one ask op own answer asked kind e = let same : own ≡ answer = cc in record { op = op; asked = asked; of_kind = subst (IsOfKind op) same kind }

  pub own_fits : (ask : Option Ask) (body : Body) (answer : Answer) → RecordsAsk fs store ask body → own_answer store xs seq body ≡ Some answer → Fitting ask answer
  own_fits ask (b.Init p) answer is e = let no_way : None ≡ Some answer = e in cc
  own_fits ask (b.Finish p i outcome) answer is e = let no_way : None ≡ Some answer = e in cc
  own_fits ask (b.Read p i key) answer is e = one ask (o.Read key) _ answer is tt e
  own_fits ask (b.ReadGroup p i keys) answer is e = one ask (o.ReadGroup keys) (a.Values (values_below seq 0 store xs keys)) answer is (length-values_below seq 0 store xs keys) e
  own_fits ask (b.Write p i place key here) answer is e = one ask (o.Write key is.value) a.Done answer is.asks tt e
  own_fits ask (b.Spawn p i ordinal name args) answer is e = one ask (o.Spawn ordinal is.function args) (a.Spawned ordinal) answer is.asks refl e
  own_fits ask (b.Join p i ordinal) answer is e = at (result_of (child p ordinal) xs) e
    where
      at : (r : Option Outcome) → join_answer r ≡ Some answer → Fitting ask answer
      at None e = cc
      at (Some outcome) e = one ask (o.Join ordinal) (a.Joined outcome) answer is tt e
  own_fits ask (b.Push p i queue value) answer is e = one ask (o.Push queue value) a.Done answer is tt e
  own_fits ask (b.Pop p i queue) answer is e = one ask (o.Pop queue) _ answer is tt e
  own_fits ask (b.TxnBegin p i names) answer is e =
      one ask (o.Begin names) (a.Values (values_of_names names (store_values (commits xs)))) answer is (length-values_of names (store_values (commits xs))) e
  own_fits ask (b.TxnCommit p i begin names writes) answer is e = one ask (o.Commit names writes) _ answer is tt e
  own_fits ask _ answer is e = absurd is

-- Lists of answers.

module _ (fs : List Function) (p : List ℕ) where
  answer_of : (st : InvocationState) (before : List Answer) (answer : Answer) → Fitting (asked_at fs p st before) answer → AnswersAsk fs p st before answer
  answer_of st before answer fits = record { op = fits.op; asked = fits.asked; of_kind = fits.of_kind }

  -- answers at a point with the same function and arguments
  are_same : (st next : InvocationState) (l : List Answer) → next.function ≡ st.function → next.args ≡ st.args → AnswerInOrder fs p st l → AnswerInOrder fs p next l
  are_same st next [] function args are = tt
  are_same st next (x ∷ l) function args are = (
    record { op = are.0.op; asked = (λ u. asked_at fs p (record next { function = function u; args = args u }) l) ∙ are.0.asked; of_kind = are.0.of_kind },
    are_same st next l function args are.1,
  )

  pub are_dropped : (st : InvocationState) (n : ℕ) (l : List Answer) → AnswerInOrder fs p st l → AnswerInOrder fs p st (drop n l)
  are_dropped st zero [] are = tt
  are_dropped st zero (x ∷ l) are = are
  are_dropped st (suc n) [] are = tt
  are_dropped st (suc n) (x ∷ l) are = are_dropped st n l are.1

  pub are_more : (store : Store) (xs : List (Live Body)) (st : InvocationState) (n : ℕ) → AnswerInOrder fs p st st.answers → AnswerInOrder fs p st (with_free_answers fs store xs p st n)
  are_more store xs st zero are = are
  are_more store xs st (suc n) are =
      let l = with_free_answers fs store xs p st n in
      at l (are_more store xs st n are) (free_answer store xs st.cursor (length l - length st.answers) st.mode (asked_at fs p st l)) refl
    where
      at : (l : List Answer) → AnswerInOrder fs p st l → (answer : Option Answer) → free_answer store xs st.cursor (length l - length st.answers) st.mode (asked_at fs p st l) ≡ answer → AnswerInOrder fs p st (add_answer answer l)
      at l ih None e = ih
      at l ih (Some x) e =
          (answer_of st l x (free_fits store xs st.cursor (length l - length st.answers) st.mode (asked_at fs p st l) x e), ih)

  module _ (setup : Setup) (store : Store) where
    -- what a step record of the path says is what its script asks there
    module _ (xs : List (Live Body)) (i : ℕ) where
      abbrev st : InvocationState
      st = stands setup fs store p xs

      abbrev here_asked : Option Ask
      here_asked = asked_at fs p st (with_free_answers fs store xs p st (free_operations_to i st))

      asks : (q : List ℕ) (j : ℕ) (ask : Ask) → ◌≡◌ {A = Option (List ℕ × ℕ)} (Some (q, j)) (Some (p, i)) → Asks fs store xs q (stands setup fs store q xs) j ask → here_asked ≡ Some ask
      asks q j ask e is =
          let there_is : Asks fs store xs p st i ask = subst (λ (s : List ℕ × ℕ). Asks fs store xs s.0 (stands setup fs store s.0 xs) s.1 ask) (same_step (q, j) (p, i) e) is in there_is.asked

      pub is_asked : (body : Body) → step_of body ≡ Some (p, i) → MayFollow setup fs store xs body → RecordsAsk fs store here_asked body
      is_asked (b.Init q) e fits = tt
      is_asked (b.Finish q j outcome) e fits = asks q j (k.Done outcome) e fits
      is_asked (b.Read q j key) e fits = asks q j (k.Op (o.Read key)) e fits
      is_asked (b.ReadGroup q j keys) e fits = asks q j (k.Op (o.ReadGroup keys)) e fits
      is_asked (b.Write q j place key here) e fits = record { value = fits.value; asks = asks q j (k.Op (o.Write key fits.value)) e fits.asks; kept = fits.kept }
      is_asked (b.Spawn q j ordinal name args) e fits =
          record { function = fits.function; asks = asks q j (k.Op (o.Spawn ordinal fits.function args)) e fits.asks; found = fits.found }
      is_asked (b.Join q j ordinal) e fits = asks q j (k.Op (o.Join ordinal)) e fits.asks
      is_asked (b.Push q j queue value) e fits = asks q j (k.Op (o.Push queue value)) e fits
      is_asked (b.Pop q j queue) e fits = asks q j (k.Op (o.Pop queue)) e fits
      is_asked (b.TxnBegin q j names) e fits = asks q j (k.Op (o.Begin names)) e fits
      is_asked (b.TxnCommit q j begin names writes) e fits = asks q j (k.Op (o.Commit names writes)) e fits.asks
      is_asked _ e fits = let no_way : ◌≡◌ {A = Option (List ℕ × ℕ)} None (Some (p, i)) = e in cc

    -- where the invocation stands, all its answers are of its script
    pub are_answers : (xs : List (Live Body)) → AllMayFollow setup fs store xs → AnswerInOrder fs p (stands setup fs store p xs) (stands setup fs store p xs).answers
    are_answers [] fit = tt
    are_answers (x ∷ xs) fit = at (are_answers xs fit.2) (stands setup fs store p (x ∷ xs)) (does setup fs store x xs p fit.0)
      where
        its : InvocationState
        its = stands setup fs store p xs

        with_own : (i : ℕ) (l : List Answer) → l ≡ with_free_answers fs store xs p its (free_operations_to i its) → AnswerInOrder fs p its l → step_of x.holds ≡ Some (p, i) → (own : Option Answer) → own_answer store xs x.seq x.holds ≡ own → AnswerInOrder fs p its (add_answer own l)
        with_own i l is are step None e = are
        with_own i l is are step (Some answer) e = (
          answer_of its l answer
              (subst (λ l. Fitting (asked_at fs p its l) answer) (sym is)
              (own_fits fs store xs x.seq (asked_at fs p its (with_free_answers fs store xs p its (free_operations_to i its))) x.holds answer (is_asked xs i x.holds step fit.0) e)),
          are,
        )

        at : AnswerInOrder fs p its its.answers → (next : InvocationState) → Does setup fs store x.seq x.holds xs p next → AnswerInOrder fs p next next.answers
        at ih next (apart other finish is) = subst (λ (st : InvocationState). AnswerInOrder fs p st st.answers) (sym is) ih
        at ih next (began body may is) = subst (λ (st : InvocationState). AnswerInOrder fs p st st.answers) (sym is) tt
        at ih next (operates i step finish reaches is) =
            subst (λ (st : InvocationState). AnswerInOrder fs p st st.answers) (sym is)
            (are_same its (after_operation fs store xs p x.seq x.holds i its) _ refl refl
            (with_own i (with_free_answers fs store xs p its (free_operations_to i its)) refl (are_more store xs its (free_operations_to i its) ih) step (own_answer store xs x.seq x.holds) refl))
        at ih next (ends i outcome body is_done is) =
            subst (λ (st : InvocationState). AnswerInOrder fs p st st.answers) (sym is)
            (are_same its (after_finish fs store xs p x.seq outcome i its) _ refl refl (are_more store xs its (free_operations_to i its) ih))
