-- A child that a script asks to spawn is new: the children of an invocation are those of its answered spawns.
use Rattle.std.proofs.Common.{◌≡◌, ◌⊎◌, inl, inr, ℕ, zero, suc, ◌-◌, ◌<◌, ◌≤◌, false, cond, List, [], ◌∷◌, length, Option, Some, None, refl, sym, ap, ◌∙◌, subst, arith}
use Rattle.std.specs.Prelude.{bytes_eq, slice_index}
use Rattle.lb_base.specs.declared.value.Value.{Value}
use Rattle.boki_types.specs.declared.body.Body.{Body}
use Rattle.boki_types.specs.declared.body.Body.TheVariants as b
use Rattle.boki_types.specs.declared.log.Call.{Call}
use Rattle.boki_types.specs.declared.operation.Op.TheVariants as o
use Rattle.boki_types.specs.declared.operation.Ask.TheVariants as k
use Rattle.boki_types.specs.declared.operation.Answer.{Answer}
use Rattle.boki_types.specs.declared.plan.Setup.{Setup}
use Rattle.boki_types.specs.declared.program.Function.{Function}
use Rattle.boki_model.specs.Live.{Live}
use Rattle.boki_model.specs.Bodies.{child, step_of}
use Rattle.std.specs.Option.{option_or}
use Rattle.boki_model.specs.Writes.{Store}
use Rattle.boki_machine.specs.Attempt.{call_in, call_of}
use Rattle.boki_machine.specs.Decided.{InvocationState, asked_at, free_answer, add_answer, own_answer, with_free_answers, after_operation, after_step_record}
use Rattle.exactly_once.specs.Induction.SoundLogs.{MaySubmit, MaySpawn, MayFollow, free_operations_to, AllMayFollow}
use Rattle.exactly_once.proofs.Log.MapChanges.{keys_cases}
use Rattle.exactly_once.proofs.Invocations.NextRecord.{stands, Does, does, apart, began, operates, ends, unbegun}
use Rattle.exactly_once.proofs.Simulation.OperationTurn.{stands_own}
use Rattle.exactly_once.proofs.Asking.SpawnOrdinals.{spawned_in, ordinal_is}

-- Paths of children.

length_child : (p : List ℕ) (n : ℕ) → length (child p n) ≡ suc (length p)
length_child [] n = refl
length_child (m ∷ p) n = ap suc (length_child p n)

pub same_child : (p q : List ℕ) (m n : ℕ) → child p m ≡ child q n → (p ≡ q) × (m ≡ n)
same_child [] [] m n e = (refl, (let h : m ≡ n = cc in h))
same_child [] (y ∷ q) m n e = absurd (let l = length_child q n in let no_way : ⊥ = omega (arith, ap length e, l) in no_way)
same_child (x ∷ p) [] m n e = absurd (let l = length_child p m in let no_way : ⊥ = omega (arith, ap length e, l) in no_way)
same_child (x ∷ p) (y ∷ q) m n e =
    let rest : child p m ≡ child q n = cc in
    let r = same_child p q m n rest in
    let first : x ≡ y = cc in
    ((λ i. first i ∷ r.0 i), r.1)

-- Answers only grow between an invocation's step records.

spawned_and : (o : Option Answer) (l : List Answer) → spawned_in l ≤ spawned_in (add_answer o l)
spawned_and None l = omega arith
spawned_and (Some x) l = omega arith

spawned_more : (fs : List Function) (store : Store) (xs : List (Live Body)) (p : List ℕ) (st : InvocationState) (n : ℕ) → spawned_in st.answers ≤ spawned_in (with_free_answers fs store xs p st n)
spawned_more fs store xs p st zero = omega arith
spawned_more fs store xs p st (suc n) =
    let here = spawned_and (free_answer store xs st.cursor (length (with_free_answers fs store xs p st n) - length st.answers) st.mode (asked_at fs p st (with_free_answers fs store xs p st n))) (with_free_answers fs store xs p st n) in
    omega (arith, here, spawned_more fs store xs p st n)

module _ (setup : Setup) (fs : List Function) (store : Store) (p : List ℕ) where
  spawned_grows : (x : Live Body) (xs : List (Live Body)) → AllMayFollow setup fs store (x ∷ xs) → spawned_in (stands setup fs store p xs).answers ≤ spawned_in (stands setup fs store p (x ∷ xs)).answers
  spawned_grows x xs fit = at (stands setup fs store p (x ∷ xs)) (does setup fs store x xs p fit.0)
    where
      at : (next : InvocationState) → Does setup fs store x.seq x.holds xs p next → spawned_in (stands setup fs store p xs).answers ≤ spawned_in next.answers
      at next (apart other finish is) = subst (λ (st : InvocationState). spawned_in (stands setup fs store p xs).answers ≤ spawned_in st.answers) (sym is) (omega arith)
      at next (began body may is) =
          let none : spawned_in (stands setup fs store p xs).answers ≡ 0 = ap (λ (st : InvocationState). spawned_in st.answers) (unbegun setup fs store xs p fit.2 may.new) in omega (arith, none)
      at next (operates i step finish reaches is) =
          let st = stands setup fs store p xs in
          let n = free_operations_to i st in
          let own = spawned_and (own_answer store xs x.seq x.holds) (with_free_answers fs store xs p st n) in
          subst (λ (new : InvocationState). spawned_in (stands setup fs store p xs).answers ≤ spawned_in new.answers) (sym is) (omega (arith, own, spawned_more fs store xs p st n))
      at next (ends i outcome body asks is) =
          let st = stands setup fs store p xs in
          subst (λ (new : InvocationState). spawned_in (stands setup fs store p xs).answers ≤ spawned_in new.answers) (sym is) (spawned_more fs store xs p st (free_operations_to i st))

  -- a spawn's own record
  spawned_own : (x : Live Body) (xs : List (Live Body)) (i ordinal : ℕ) (name : List ℕ) (args : List Value) → x.holds ≡ b.Spawn p i ordinal name args → AllMayFollow setup fs store (x ∷ xs) → ordinal ≤ spawned_in (stands setup fs store p (x ∷ xs)).answers
  spawned_own x xs i ordinal name args holds fit =
      let st = stands setup fs store p xs in
      let may : MaySpawn fs store xs p st i ordinal name args = subst (MayFollow setup fs store xs) holds fit.0 in
      let is : stands setup fs store p (x ∷ xs) ≡ after_operation fs store xs p x.seq (b.Spawn p i ordinal name args) i st =
      stands_own setup fs store x xs p i (ap step_of holds) ∙ ap (λ body. after_step_record setup fs store xs p x.seq body i st) holds in
      let one : ordinal ≡ suc (spawned_in (with_free_answers fs store xs p st (free_operations_to i st))) = ordinal_is fs (length p) st.function st.args (with_free_answers fs store xs p st (free_operations_to i st)) ordinal may.function args may.asks.asked in
      subst (λ (new : InvocationState). ordinal ≤ spawned_in new.answers) (sym is) (omega (arith, one))

  -- a child with a greater ordinal isn't called
  not_called_in : (x : Live Body) (xs : List (Live Body)) (ordinal : ℕ) → 0 < length p → AllMayFollow setup fs store (x ∷ xs) → spawned_in (stands setup fs store p (x ∷ xs)).answers < ordinal → call_in (child p ordinal) x.holds ≡ None
  not_called_in x xs ordinal some fit less = at x.holds refl
    where
      one_long : (q : List ℕ) → q ≡ slice_index q 0 ∷ [] → length q ≡ 1
      one_long q is = ap length is

      at : (body : Body) → x.holds ≡ body → call_in (child p ordinal) body ≡ None
      at (b.Submit q f args) holds = by_key (keys_cases (child p ordinal) q)
        where
          may : MaySubmit q xs
          may = subst (MayFollow setup fs store xs) holds fit.0

          by_key : (child p ordinal ≡ q) ⊎ (bytes_eq (child p ordinal) q ≡ false) → call_in (child p ordinal) (b.Submit q f args) ≡ None
          by_key (inl same) = absurd (let long = length_child p ordinal in let short = one_long q may.request in let no_way : ⊥ = omega (arith, ap length same, long, short, some) in no_way)
          by_key (inr e) = ap (λ t. cond {A = Option Call} t (Some (record { function = f; args = args })) None) e
      at (b.Spawn q i m f args) holds = by_key (keys_cases (child p ordinal) (child q m))
        where
          by_key : (child p ordinal ≡ child q m) ⊎ (bytes_eq (child p ordinal) (child q m) ≡ false) → call_in (child p ordinal) (b.Spawn q i m f args) ≡ None
          by_key (inl same) =
              let parts = same_child p q ordinal m same in
              let own : m ≤ spawned_in (stands setup fs store p (x ∷ xs)).answers = spawned_own x xs i m f args (holds ∙ ap (λ q. b.Spawn q i m f args) (sym parts.0)) fit in
              absurd (let no_way : ⊥ = omega (arith, own, parts.1, less) in no_way)
          by_key (inr e) = ap (λ t. cond {A = Option Call} t (Some (record { function = f; args = args })) None) e
      at _ holds = refl

  pub new_child : (xs : List (Live Body)) (ordinal : ℕ) → 0 < length p → AllMayFollow setup fs store xs → spawned_in (stands setup fs store p xs).answers < ordinal → call_of (child p ordinal) xs ≡ None
  new_child [] ordinal some fit less = refl
  new_child (x ∷ xs) ordinal some fit less =
      let grown = spawned_grows x xs fit in
      ap (λ o. option_or o (call_in (child p ordinal) x.holds)) (new_child xs ordinal some fit.2 (omega (arith, grown, less))) ∙ not_called_in x xs ordinal some fit less

  -- what is asked next to be spawned
  pub next_child : (xs : List (Live Body)) (n ordinal f : ℕ) (args : List Value) → 0 < length p → AllMayFollow setup fs store xs → asked_at fs p (stands setup fs store p xs) (with_free_answers fs store xs p (stands setup fs store p xs) n) ≡ Some (k.Op (o.Spawn ordinal f args)) → call_of (child p ordinal) xs ≡ None
  next_child xs n ordinal f args some fit asked =
      let st = stands setup fs store p xs in
      let one : ordinal ≡ suc (spawned_in (with_free_answers fs store xs p st n)) = ordinal_is fs (length p) st.function st.args (with_free_answers fs store xs p st n) ordinal f args asked in
      new_child xs ordinal some fit (let grown = spawned_more fs store xs p st n in omega (arith, one, grown))
