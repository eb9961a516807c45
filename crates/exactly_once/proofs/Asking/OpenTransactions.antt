-- A script commits only where its transaction is open in the log too.
use Rattle.std.proofs.Common.{◌≡◌, ℕ, zero, suc, ◌-◌, Bool, true, false, cond, List, [], ◌∷◌, length, Option, Some, None, refl, sym, ap, ◌∙◌, subst}
use Rattle.std.specs.Prelude.{is_some, bytes_eq}
use Rattle.lb_base.specs.declared.value.Mode.{Mode}
use Rattle.lb_base.specs.declared.value.Mode.TheVariants.{R, W}
use Rattle.lb_base.specs.declared.value.Value.{Value}
use Rattle.boki_types.specs.declared.body.Body.{Body}
use Rattle.boki_types.specs.declared.body.Body.TheVariants as b
use Rattle.boki_types.specs.declared.operation.Op.{Op}
use Rattle.boki_types.specs.declared.operation.Op.TheVariants as o
use Rattle.boki_types.specs.declared.operation.Ask.{Ask}
use Rattle.boki_types.specs.declared.operation.Ask.TheVariants as k
use Rattle.boki_types.specs.declared.operation.Answer.{Answer}
use Rattle.boki_types.specs.declared.operation.Answer.TheVariants as a
use Rattle.boki_types.specs.declared.plan.Setup.{Setup}
use Rattle.boki_types.specs.declared.program.Function.{Function}
use Rattle.boki_model.specs.Live.{Live}
use Rattle.boki_model.specs.Bodies.{step_of}
use Rattle.boki_model.specs.Modes.{finish_of}
use Rattle.boki_model.specs.Writes.{Store}
use Rattle.boki_machine.specs.Decided.{InvocationState, asked_at, free_answer, add_answer, with_free_answers, own_answer, join_answer, transaction_after}
use Rattle.exactly_once.specs.Induction.SoundLogs.{Asks, MayBegin, MayFollow, free_operations_to, AllMayFollow}
use Rattle.exactly_once.proofs.Log.MapChanges.{same_itself}
use Rattle.exactly_once.proofs.Invocations.NextRecord.{stands, Does, does, apart, began, operates, ends}
use Rattle.exactly_once.proofs.Asking.ScriptAsks.{open_at, open_behind, asking, open_before, none_open}

-- A free operation opens and ends no transaction.

record IsFree (ask : Option Ask) : Type 0 where
  pub op : Op
  pub is : ask ≡ Some (k.Op op)
  pub keeps : (was : Bool) → open_behind op was ≡ was

free_is : (store : Store) (records : List (Live Body)) (c since : ℕ) (mode : Mode) (ask : Option Ask) (x : Answer) → free_answer store records c since mode ask ≡ Some x → IsFree ask
free_is store records c since R (Some (k.Op (o.Read key))) x e = record { op = o.Read key; is = refl; keeps = λ was. refl }
free_is store records c since R (Some (k.Op (o.ReadGroup keys))) x e = record { op = o.ReadGroup keys; is = refl; keeps = λ was. refl }
free_is store records c since W (Some (k.Op (o.Write key v))) x e = record { op = o.Write key v; is = refl; keeps = λ was. refl }
free_is store records c since _ ask x e = let no_way : None ≡ Some x = e in cc

pub same_step : (s t : List ℕ × ℕ) → Some s ≡ Some t → s ≡ t
same_step s t e = cc

-- An operation's record: what was asked, what it answers, and what it leaves of a transaction.

module _ (setup : Setup) (fs : List Function) (store : Store) where
  record IsOperation (seq : ℕ) (body : Body) (xs : List (Live Body)) (p : List ℕ) (i : ℕ) : Type 0 where
    pub op : Op
    pub asks : Asks fs store xs p (stands setup fs store p xs) i (k.Op op)
    pub own : Answer
    pub own_is : own_answer store xs seq body ≡ Some own
    pub opens : (is_open : Bool) (was : Option ℕ) → (is_open ≡ true → is_some was ≡ true) → open_behind op is_open ≡ true → is_some (transaction_after seq body was) ≡ true

  moved : (xs : List (Live Body)) (q p : List ℕ) (j i : ℕ) (ask : Ask) → ◌≡◌ {A = Option (List ℕ × ℕ)} (Some (q, j)) (Some (p, i)) → Asks fs store xs q (stands setup fs store q xs) j ask → Asks fs store xs p (stands setup fs store p xs) i ask
  moved xs q p j i ask e asks =
      let same = same_step (q, j) (p, i) e in let path : q ≡ p = ap (λ (s : List ℕ × ℕ). s.0) same in let index : j ≡ i = ap (λ (s : List ℕ × ℕ). s.1) same in
      subst (λ p. Asks fs store xs p (stands setup fs store p xs) i ask) path (subst (λ i. Asks fs store xs q (stands setup fs store q xs) i ask) index asks)

  plain : (seq : ℕ) (body : Body) (xs : List (Live Body)) (p : List ℕ) (i : ℕ) (op : Op) → Asks fs store xs p (stands setup fs store p xs) i (k.Op op) → (own : Answer) → own_answer store xs seq body ≡ Some own
      → ((was : Bool) → open_behind op was ≡ was) → ((was : Option ℕ) → transaction_after seq body was ≡ was) → IsOperation seq body xs p i
  plain seq body xs p i op asks own own_is keeps same = record {
    op = op;
    asks = asks;
    own = own;
    own_is = own_is;
    opens = λ is_open was f e. ap is_some (same was) ∙ f (sym (keeps is_open) ∙ e);
  }

  operation_of :
      (seq : ℕ) (body : Body) (xs : List (Live Body)) (p : List ℕ) (i : ℕ) → MayFollow setup fs store xs body → ◌≡◌ {A = Option (List ℕ × ℕ)} (step_of body) (Some (p, i)) → finish_of p body ≡ None → (stands setup fs store p xs).begun ≡ true
      → IsOperation seq body xs p i
  operation_of seq (b.Init q) xs p i fits step finish begun =
      let path : q ≡ p = ap (λ (s : List ℕ × ℕ). s.0) (same_step (q, 1) (p, i) step) in
      let may : MayBegin p (stands setup fs store p xs) xs = subst (λ p. MayBegin p (stands setup fs store p xs) xs) path fits in
      let no_way : false ≡ true = sym may.new ∙ begun in cc
  operation_of seq (b.Read q j key) xs p i fits step finish begun = plain seq (b.Read q j key) xs p i (o.Read key) (moved xs q p j i (k.Op (o.Read key)) step fits) _ refl (λ was. refl) (λ was. refl)
  operation_of seq (b.ReadGroup q j keys) xs p i fits step finish begun = plain seq (b.ReadGroup q j keys) xs p i (o.ReadGroup keys) (moved xs q p j i (k.Op (o.ReadGroup keys)) step fits) _ refl (λ was. refl) (λ was. refl)
  operation_of seq (b.Write q j place key here) xs p i fits step finish begun =
      plain seq (b.Write q j place key here) xs p i (o.Write key fits.value) (moved xs q p j i (k.Op (o.Write key fits.value)) step fits.asks) a.Done refl (λ was. refl) (λ was. refl)
  operation_of seq (b.Spawn q j ordinal name args) xs p i fits step finish begun =
      plain seq (b.Spawn q j ordinal name args) xs p i (o.Spawn ordinal fits.function args) (moved xs q p j i (k.Op (o.Spawn ordinal fits.function args)) step fits.asks) (a.Spawned ordinal) refl (λ was. refl) (λ was. refl)
  operation_of seq (b.Join q j ordinal) xs p i fits step finish begun =
      plain seq (b.Join q j ordinal) xs p i (o.Join ordinal) (moved xs q p j i (k.Op (o.Join ordinal)) step fits.asks) (a.Joined fits.outcome) (ap join_answer fits.result) (λ was. refl) (λ was. refl)
  operation_of seq (b.Push q j queue value) xs p i fits step finish begun = plain seq (b.Push q j queue value) xs p i (o.Push queue value) (moved xs q p j i (k.Op (o.Push queue value)) step fits) a.Done refl (λ was. refl) (λ was. refl)
  operation_of seq (b.Pop q j queue) xs p i fits step finish begun = plain seq (b.Pop q j queue) xs p i (o.Pop queue) (moved xs q p j i (k.Op (o.Pop queue)) step fits) _ refl (λ was. refl) (λ was. refl)
  operation_of seq (b.TxnBegin q j names) xs p i fits step finish begun = record {
    op = o.Begin names;
    asks = moved xs q p j i (k.Op (o.Begin names)) step fits;
    own = _;
    own_is = refl;
    opens = λ is_open was f e. refl;
  }
  operation_of seq (b.TxnCommit q j begin names writes) xs p i fits step finish begun = record {
    op = o.Commit names writes;
    asks = moved xs q p j i (k.Op (o.Commit names writes)) step fits.asks;
    own = _;
    own_is = refl;
    opens = λ is_open was f e. let no_way : false ≡ true = e in cc;
  }
  operation_of seq (b.Finish q j outcome) xs p i fits step finish begun =
      let path : q ≡ p = ap (λ (s : List ℕ × ℕ). s.0) (same_step (q, j) (p, i) step) in
      let no_way : Some outcome ≡ None = sym (ap (λ t. cond t (Some outcome) None) (ap (bytes_eq p) path ∙ same_itself p)) ∙ finish in cc
  operation_of seq _ xs p i fits step finish begun = let no_way : ◌≡◌ {A = Option (List ℕ × ℕ)} None (Some (p, i)) = step in cc

  module _ (p : List ℕ) where
    abbrev Opens : InvocationState → Type 0
    Opens st = open_at fs (length p) st.function st.args st.answers ≡ true → is_some st.transaction ≡ true

    open_free : (xs : List (Live Body)) (st : InvocationState) (n : ℕ) → open_at fs (length p) st.function st.args (with_free_answers fs store xs p st n) ≡ true → open_at fs (length p) st.function st.args st.answers ≡ true
    open_free xs st zero is = is
    open_free xs st (suc n) is =
        let l = with_free_answers fs store xs p st n in
        at (open_free xs st n) (free_answer store xs st.cursor (length l - length st.answers) st.mode (asked_at fs p st l)) refl is
      where
        at :
            (open_at fs (length p) st.function st.args (with_free_answers fs store xs p st n) ≡ true → open_at fs (length p) st.function st.args st.answers ≡ true)
            → (x : Option Answer) → free_answer store xs st.cursor (length (with_free_answers fs store xs p st n) - length st.answers) st.mode (asked_at fs p st (with_free_answers fs store xs p st n)) ≡ x
            → open_at fs (length p) st.function st.args (add_answer x (with_free_answers fs store xs p st n)) ≡ true → open_at fs (length p) st.function st.args st.answers ≡ true
        at ih None e is = ih is
        at ih (Some x) e is =
            let l = with_free_answers fs store xs p st n in
            let free = free_is store xs st.cursor (length l - length st.answers) st.mode (asked_at fs p st l) x e in
            ih (sym (free.keeps (open_at fs (length p) st.function st.args l)) ∙ open_before (length p) st.function st.args fs x l free.op free.is is)

    pub opens : (xs : List (Live Body)) → AllMayFollow setup fs store xs → Opens (stands setup fs store p xs)
    opens [] fit is = absurd (none_open (length p) 0 [] fs is)
    opens (x ∷ xs) fit is = at (opens xs fit.2) (stands setup fs store p (x ∷ xs)) is (does setup fs store x xs p fit.0)
      where
        at : Opens (stands setup fs store p xs) → (next : InvocationState) → open_at fs (length p) next.function next.args next.answers ≡ true → Does setup fs store x.seq x.holds xs p next → is_some next.transaction ≡ true
        at ih next is (apart other finish e) = subst Opens (sym e) ih is
        at ih next is (began body may e) =
            absurd (none_open (length p) next.function next.args fs (subst (λ (l : List Answer). open_at fs (length p) next.function next.args l ≡ true) (ap (λ (st : InvocationState). st.answers) e) is))
        at ih next is (operates i step finish reaches e) =
            let st = stands setup fs store p xs in
            let l = with_free_answers fs store xs p st (free_operations_to i st) in
            let op = operation_of x.seq x.holds xs p i fit.0 step finish reaches.begun in
            let there : open_at fs (length p) st.function st.args (op.own ∷ l) ≡ true =
            ap (λ x. open_at fs (length p) st.function st.args (add_answer x l)) (sym op.own_is)
            ∙ ap (λ (st : InvocationState). open_at fs (length p) st.function st.args st.answers) (sym e) ∙ is in
            ap (λ (st : InvocationState). is_some st.transaction) e
            ∙ op.opens (open_at fs (length p) st.function st.args l) st.transaction (λ h. ih (open_free xs st (free_operations_to i st) h)) (open_before (length p) st.function st.args fs op.own l op.op op.asks.asked there)
        at ih next is (ends i outcome body asks e) =
            let st = stands setup fs store p xs in
            ap (λ (st : InvocationState). is_some st.transaction) e
            ∙ ih (open_free xs st (free_operations_to i st) (ap (λ (st : InvocationState). open_at fs (length p) st.function st.args st.answers) (sym e) ∙ is))

    -- a commit that is asked has its begin
    pub commit_open : (xs : List (Live Body)) (n : ℕ) (names : List (List ℕ)) (writes : List (List ℕ × Value)) → AllMayFollow setup fs store xs
        → asked_at fs p (stands setup fs store p xs) (with_free_answers fs store xs p (stands setup fs store p xs) n) ≡ Some (k.Op (o.Commit names writes)) → is_some (stands setup fs store p xs).transaction ≡ true
    commit_open xs n names writes fit is =
        let st = stands setup fs store p xs in
        opens xs fit (open_free xs st n (asking (length p) st.function st.args fs (with_free_answers fs store xs p st n) (o.Commit names writes) is).right)
