-- Where an invocation stands, as records are added to a sound log.
use Rattle.std.proofs.Common.{◌≡◌, ℕ, ◌≤◌, Bool, true, false, cond, List, [], ◌∷◌, Option, Some, None, refl, sym, ap, ◌∙◌, subst, arith}
use Rattle.std.specs.Prelude.{bytes_eq}
use Rattle.lb_base.specs.declared.value.Tag.{Tag}
use Rattle.lb_base.specs.declared.value.Outcome.{Outcome}
use Rattle.boki_types.specs.declared.body.Body.{Body}
use Rattle.boki_types.specs.declared.body.Body.TheVariants as b
use Rattle.boki_types.specs.declared.log.Call.{Call}
use Rattle.boki_types.specs.declared.operation.Ask.TheVariants as k
use Rattle.boki_types.specs.declared.plan.Setup.{Setup}
use Rattle.boki_types.specs.declared.program.Function.{Function}
use Rattle.boki_model.specs.Live.{Live}
use Rattle.boki_model.specs.Bodies.{step_of}
use Rattle.std.specs.Option.{option_or}
use Rattle.boki_model.specs.Modes.{finish_of, result_of}
use Rattle.boki_model.specs.Writes.{Store}
use Rattle.boki_machine.specs.Attempt.{call_in, call_of}
use Rattle.boki_machine.specs.Decided.{InvocationState, not_begun, invocation_state, after_operation, after_init, after_finish, function_of, args_of}
use Rattle.exactly_once.specs.Induction.SoundLogs.{Reaches, Asks, MayBegin, MayFollow, AllMayFollow}
use Rattle.exactly_once.proofs.Log.LiveRecords.{Under}
use Rattle.exactly_once.proofs.Log.MapChanges.{same_itself, same_key}

module _ (setup : Setup) (fs : List Function) (store : Store) where
  abbrev pub stands : List ℕ → List (Live Body) → InvocationState
  stands q xs = invocation_state setup fs store q xs

  -- it is no step record of the path
  abbrev pub IsApart : List ℕ → Body → Type 0
  IsApart q body = (s : List ℕ × ℕ) → step_of body ≡ Some s → bytes_eq q s.0 ≡ false

  -- what a record does to an invocation
  pub data Does (seq : ℕ) (body : Body) (xs : List (Live Body)) (q : List ℕ) (next : InvocationState) : Type 0 where
    apart : IsApart q body → finish_of q body ≡ None → next ≡ stands q xs → Does seq body xs q next
    began : body ≡ b.Init q → MayBegin q (stands q xs) xs → next ≡ after_init setup fs xs seq (call_of q xs) → Does seq body xs q next
    operates : (i : ℕ) → step_of body ≡ Some (q, i) → finish_of q body ≡ None → Reaches fs store xs q (stands q xs) i → next ≡ after_operation fs store xs q seq body i (stands q xs) → Does seq body xs q next
    ends : (i : ℕ) (outcome : Outcome) → body ≡ b.Finish q i outcome → Asks fs store xs q (stands q xs) i (k.Done outcome) → next ≡ after_finish fs store xs q seq outcome i (stands q xs) → Does seq body xs q next

  no_step : (q : List ℕ) (s : List ℕ × ℕ) → None ≡ Some s → bytes_eq q s.0 ≡ false
  no_step q s e = cc

  other_step : (q p : List ℕ) (i : ℕ) → bytes_eq q p ≡ false → (s : List ℕ × ℕ) → Some (p, i) ≡ Some s → bytes_eq q s.0 ≡ false
  other_step q p i other s e = let same : p ≡ s.0 = ap (λ (o : Option (List ℕ × ℕ)). path_in o) e in subst (λ p. bytes_eq q p ≡ false) same other
    where
      path_in : Option (List ℕ × ℕ) → List ℕ
      path_in None = []
      path_in (Some s) = s.0

  -- an operation's record of the path p
  does_operate :
      (seq : ℕ) (body : Body) (xs : List (Live Body)) (q p : List ℕ) (i : ℕ) → step_of body ≡ Some (p, i) → finish_of q body ≡ None → Reaches fs store xs p (stands p xs) i
      → Does seq body xs q (cond (bytes_eq q p) (after_operation fs store xs q seq body i (stands q xs)) (stands q xs))
  does_operate seq body xs q p i step finish reaches = at (bytes_eq q p) refl
    where
      at : (t : Bool) → bytes_eq q p ≡ t → Does seq body xs q (cond t (after_operation fs store xs q seq body i (stands q xs)) (stands q xs))
      at true e =
          let same : p ≡ q = sym (same_key q p e) in
          operates i (step ∙ ap (λ p. Some (p, i)) same) finish (subst (λ p. Reaches fs store xs p (stands p xs) i) same reaches) refl
      at false e = apart (λ s is. other_step q p i e s (sym step ∙ is)) finish refl

  does_body : (seq : ℕ) (tags : List Tag) (body : Body) (xs : List (Live Body)) (q : List ℕ) → MayFollow setup fs store xs body → Does seq body xs q (stands q (record { seq = seq; tags = tags; holds = body } ∷ xs))
  does_body seq tags (b.Submit p f args) xs q fits = apart (no_step q) refl refl
  does_body seq tags (b.Init p) xs q fits = at (bytes_eq q p) refl
    where
      at : (t : Bool) → bytes_eq q p ≡ t → Does seq (b.Init p) xs q (cond t (after_init setup fs xs seq (call_of q xs)) (stands q xs))
      at true e = let same : p ≡ q = sym (same_key q p e) in began (ap b.Init same) (subst (λ p. MayBegin p (stands p xs) xs) same fits) refl
      at false e = apart (other_step q p 1 e) refl refl
  does_body seq tags (b.Read p i key) xs q fits = does_operate seq (b.Read p i key) xs q p i refl refl fits.reaches
  does_body seq tags (b.Write p i place key value) xs q fits = does_operate seq (b.Write p i place key value) xs q p i refl refl fits.asks.reaches
  does_body seq tags (b.Spawn p i ordinal f args) xs q fits = does_operate seq (b.Spawn p i ordinal f args) xs q p i refl refl fits.asks.reaches
  does_body seq tags (b.Join p i ordinal) xs q fits = does_operate seq (b.Join p i ordinal) xs q p i refl refl fits.asks.reaches
  does_body seq tags (b.Push p i queue value) xs q fits = does_operate seq (b.Push p i queue value) xs q p i refl refl fits.reaches
  does_body seq tags (b.Pop p i queue) xs q fits = does_operate seq (b.Pop p i queue) xs q p i refl refl fits.reaches
  does_body seq tags (b.TxnBegin p i names) xs q fits = does_operate seq (b.TxnBegin p i names) xs q p i refl refl fits.reaches
  does_body seq tags (b.TxnCommit p i begin names writes) xs q fits = does_operate seq (b.TxnCommit p i begin names writes) xs q p i refl refl fits.asks.reaches
  does_body seq tags (b.Finish p i outcome) xs q fits = at (bytes_eq q p) refl
    where
      at : (t : Bool) → bytes_eq q p ≡ t → Does seq (b.Finish p i outcome) xs q (cond t (after_finish fs store xs q seq outcome i (stands q xs)) (stands q xs))
      at true e = let same : p ≡ q = sym (same_key q p e) in ends i outcome (ap (λ p. b.Finish p i outcome) same) (subst (λ p. Asks fs store xs p (stands p xs) i (k.Done outcome)) same fits) refl
      at false e = apart (other_step q p i e) (ap (λ t. cond t (Some outcome) None) e) refl
  does_body seq tags (b.SwitchBegin target) xs q fits = apart (no_step q) refl refl
  does_body seq tags b.SwitchEnd xs q fits = apart (no_step q) refl refl
  does_body seq tags (b.Trim w) xs q fits = apart (no_step q) refl refl
  does_body seq tags (b.TrimTag number upto) xs q fits = apart (no_step q) refl refl
  does_body seq tags (b.User bytes) xs q fits = apart (no_step q) refl refl
  does_body seq tags (b.ReadGroup p i keys) xs q fits = does_operate seq (b.ReadGroup p i keys) xs q p i refl refl fits.reaches

  pub does : (x : Live Body) (xs : List (Live Body)) (q : List ℕ) → MayFollow setup fs store xs x.holds → Does x.seq x.holds xs q (stands q (x ∷ xs))
  does x xs q fits = does_body x.seq x.tags x.holds xs q fits

  -- an invocation's cursor is a seqnum of the records
  pub cursor_within : (n : ℕ) (xs : List (Live Body)) (q : List ℕ) → Under n xs → AllMayFollow setup fs store xs → (stands q xs).cursor ≤ n
  cursor_within n [] q under fit = omega arith
  cursor_within n (x ∷ xs) q under fit = at (cursor_within under.0 xs q under.3 fit.2) (stands q (x ∷ xs)) (does x xs q fit.0)
    where
      at : (stands q xs).cursor ≤ under.0 → (next : InvocationState) → Does x.seq x.holds xs q next → next.cursor ≤ n
      at le next (apart a f is) = subst (λ (p : InvocationState). p.cursor ≤ n) (sym is) (omega (arith, le, under.2))
      at le next (began e may is) = subst (λ (p : InvocationState). p.cursor ≤ n) (sym is) (omega (arith, under.1, under.2))
      at le next (operates i s f r is) = subst (λ (p : InvocationState). p.cursor ≤ n) (sym is) (omega (arith, under.1, under.2))
      at le next (ends i o e a is) = subst (λ (p : InvocationState). p.cursor ≤ n) (sym is) (omega (arith, under.1, under.2))

  -- one that has not begun is as it was at first
  pub unbegun : (xs : List (Live Body)) (q : List ℕ) → AllMayFollow setup fs store xs → (stands q xs).begun ≡ false → stands q xs ≡ not_begun
  unbegun [] q fit new = refl
  unbegun (x ∷ xs) q fit new = at (unbegun xs q fit.2) (stands q (x ∷ xs)) new (does x xs q fit.0)
    where
      at : ((stands q xs).begun ≡ false → stands q xs ≡ not_begun) → (next : InvocationState) → next.begun ≡ false → Does x.seq x.holds xs q next → next ≡ not_begun
      at ih next new (apart a f is) = is ∙ ih (ap (λ (p : InvocationState). p.begun) (sym is) ∙ new)
      at ih next new (began e may is) = let no_way : true ≡ false = ap (λ (p : InvocationState). p.begun) (sym is) ∙ new in cc
      at ih next new (operates i s f r is) = let no_way : true ≡ false = sym r.begun ∙ ap (λ (p : InvocationState). p.begun) (sym is) ∙ new in cc
      at ih next new (ends i o e a is) = let no_way : true ≡ false = sym a.reaches.begun ∙ ap (λ (p : InvocationState). p.begun) (sym is) ∙ new in cc

  -- a path that has begun was called: its function and arguments are those of its call
  pub record IsCalled (q : List ℕ) (xs : List (Live Body)) (st : InvocationState) : Type 0 where
    pub call : Call
    pub called : call_of q xs ≡ Some call
    pub function_is : st.function ≡ function_of fs (Some call)
    pub args_are : st.args ≡ call.args

  pub still_called : (q : List ℕ) (x : Live Body) (xs : List (Live Body)) (c : Call) → call_of q xs ≡ Some c → call_of q (x ∷ xs) ≡ Some c
  still_called q x xs c e = ap (λ o. option_or o (call_in q x.holds)) e

  pub is_called : (xs : List (Live Body)) (q : List ℕ) → AllMayFollow setup fs store xs → (stands q xs).begun ≡ true → IsCalled q xs (stands q xs)
  is_called [] q fit begun = cc
  is_called (x ∷ xs) q fit begun = at (is_called xs q fit.2) (stands q (x ∷ xs)) begun (does x xs q fit.0)
    where
      later : (next : InvocationState) → IsCalled q xs (stands q xs) → next.function ≡ (stands q xs).function → next.args ≡ (stands q xs).args → IsCalled q (x ∷ xs) next
      later next was function args =
          record { call = was.call; called = still_called q x xs was.call was.called; function_is = function ∙ was.function_is; args_are = args ∙ was.args_are }

      at : ((stands q xs).begun ≡ true → IsCalled q xs (stands q xs)) → (next : InvocationState) → next.begun ≡ true → Does x.seq x.holds xs q next → IsCalled q (x ∷ xs) next
      at ih next begun (apart a f is) = later next (ih (ap (λ (p : InvocationState). p.begun) (sym is) ∙ begun)) (ap (λ (p : InvocationState). p.function) is) (ap (λ (p : InvocationState). p.args) is)
      at ih next begun (began e may is) = record {
        call = may.call;
        called = still_called q x xs may.call may.called;
        function_is = ap (λ (p : InvocationState). p.function) is ∙ ap (function_of fs) may.called;
        args_are = ap (λ (p : InvocationState). p.args) is ∙ ap args_of may.called;
      }
      at ih next begun (operates i s f r is) = later next (ih r.begun) (ap (λ (p : InvocationState). p.function) is) (ap (λ (p : InvocationState). p.args) is)
      at ih next begun (ends i o e a is) = later next (ih a.reaches.begun) (ap (λ (p : InvocationState). p.function) is) (ap (λ (p : InvocationState). p.args) is)

  -- one that is not called has not begun
  pub uncalled : (xs : List (Live Body)) (q : List ℕ) → AllMayFollow setup fs store xs → call_of q xs ≡ None → stands q xs ≡ not_begun
  uncalled xs q fit none = unbegun xs q fit (at (stands q xs).begun refl)
    where
      at : (t : Bool) → (stands q xs).begun ≡ t → t ≡ false
      at false e = refl
      at true e = let was = is_called xs q fit e in let h = was.called in cc

  -- an invocation's result is that of its Finish
  pub result_is : (xs : List (Live Body)) (q : List ℕ) → AllMayFollow setup fs store xs → (stands q xs).result ≡ result_of q xs
  result_is [] q fit = refl
  result_is (x ∷ xs) q fit = at (result_is xs q fit.2) (stands q (x ∷ xs)) (does x xs q fit.0)
    where
      same : (o : Option Outcome) → option_or o None ≡ o
      same None = refl
      same (Some r) = refl

      keeps : (next : InvocationState) → (stands q xs).result ≡ result_of q xs → next.result ≡ (stands q xs).result → finish_of q x.holds ≡ None → next.result ≡ result_of q (x ∷ xs)
      keeps next ih is none = is ∙ ih ∙ sym (ap (option_or (result_of q xs)) none ∙ same (result_of q xs))

      at : (stands q xs).result ≡ result_of q xs → (next : InvocationState) → Does x.seq x.holds xs q next → next.result ≡ result_of q (x ∷ xs)
      at ih next (apart a f is) = keeps next ih (ap (λ (p : InvocationState). p.result) is) f
      at ih next (began e may is) = keeps next ih (ap (λ (p : InvocationState). p.result) is ∙ sym (ap (λ (p : InvocationState). p.result) (unbegun xs q fit.2 may.new))) (ap (finish_of q) e)
      at ih next (operates i s f r is) = keeps next ih (ap (λ (p : InvocationState). p.result) is) f
      at ih next (ends i outcome e a is) =
          ap (λ (p : InvocationState). p.result) is
          ∙ sym (ap (λ o. option_or o (finish_of q x.holds)) (sym ih ∙ a.reaches.unended) ∙ ap (finish_of q) e ∙ ap (λ t. cond t (Some outcome) None) (same_itself q))
