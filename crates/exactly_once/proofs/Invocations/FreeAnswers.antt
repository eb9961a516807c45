-- Free operations: what they answer, and how many of them are decided.
use Rattle.std.proofs.Common.{◌≡◌, ℕ, zero, suc, ◌+◌, ◌-◌, ◌<◌, ◌≤◌, cond, List, [], ◌∷◌, length, Option, Some, None, refl, sym, ap, ◌∙◌, arith}
use Rattle.std.specs.Prelude.{is_some}
use Rattle.lb_base.specs.declared.value.Mode.{Mode}
use Rattle.lb_base.specs.declared.value.Mode.TheVariants.{R, W, T}
use Rattle.boki_types.specs.declared.body.Body.{Body}
use Rattle.boki_types.specs.declared.operation.Op.TheVariants as o
use Rattle.boki_types.specs.declared.operation.Ask.{Ask}
use Rattle.boki_types.specs.declared.operation.Ask.TheVariants as k
use Rattle.boki_types.specs.declared.operation.Answer.{Answer}
use Rattle.boki_types.specs.declared.operation.Answer.TheVariants as a
use Rattle.boki_types.specs.declared.program.Function.{Function}
use Rattle.boki_model.specs.Live.{Live}
use Rattle.boki_model.specs.Writes.{Store, Version, last_value_below, version_value}
use Rattle.boki_machine.specs.Decided.{InvocationState, asked_at, value_or_none, values_below, free_answer, add_answer, with_free_answers}
use Rattle.exactly_once.specs.Induction.SoundLogs.{Reaches, free_operations_to, AreNextWrites}
use Rattle.exactly_once.proofs.LastWrites.LastBelow.{not_below_zero}
use Rattle.exactly_once.proofs.LastWrites.WritePositions.{last_behind}

-- A record above the cursor changes no free answer.

module _ (store : Store) (x : Live Body) (xs : List (Live Body)) where
  pub last_older : (key : List ℕ) (c : ℕ) → c ≤ x.seq → last_value_below key c 0 store (x ∷ xs) ≡ last_value_below key c 0 store xs
  last_older key c le = last_behind store key c 0 x xs (not_below_zero x.seq 0 c le)

  values_older : (c : ℕ) (keys : List (List ℕ)) → c ≤ x.seq → values_below c 0 store (x ∷ xs) keys ≡ values_below c 0 store xs keys
  values_older c [] le = refl
  values_older c (key ∷ keys) le = λ i. value_or_none (last_older key c le i) ∷ values_older c keys le i

  free_older : (c since : ℕ) (mode : Mode) (ask : Option Ask) → c < x.seq → free_answer store (x ∷ xs) c since mode ask ≡ free_answer store xs c since mode ask
  free_older c since R (Some (k.Op (o.Read key))) lt = ap (λ v. Some (a.Value (value_or_none v))) (last_older key (suc c) lt)
  free_older c since R (Some (k.Op (o.ReadGroup keys))) lt = ap (λ vs. Some (a.Values vs)) (values_older (suc c) keys lt)
  free_older c since mode ask lt = refl

  pub more_older : (fs : List Function) (path : List ℕ) (st : InvocationState) (n : ℕ) → st.cursor < x.seq → with_free_answers fs store (x ∷ xs) path st n ≡ with_free_answers fs store xs path st n
  more_older fs path st zero lt = refl
  more_older fs path st (suc n) lt =
      ap (λ l. add_answer (free_answer store (x ∷ xs) st.cursor (length l - length st.answers) st.mode (asked_at fs path st l)) l) (more_older fs path st n lt)
      ∙ ap (λ o. add_answer o (with_free_answers fs store xs path st n)) (free_older st.cursor (length (with_free_answers fs store xs path st n) - length st.answers) st.mode (asked_at fs path st (with_free_answers fs store xs path st n)) lt)

-- How many are decided.

module _ (fs : List Function) (store : Store) (records : List (Live Body)) (path : List ℕ) (st : InvocationState) where
  abbrev pub on : ℕ → List Answer
  on n = with_free_answers fs store records path st n

  and_longer : (o : Option Answer) (l : List Answer) (n : ℕ) → length l ≤ n → length (add_answer o l) ≤ suc n
  and_longer None l n le = omega arith
  and_longer (Some x) l n le = omega arith

  not_shorter : (o : Option Answer) (l : List Answer) (n : ℕ) → n ≤ length l → n ≤ length (add_answer o l)
  not_shorter None l n le = le
  not_shorter (Some x) l n le = omega arith

  pub on_most : (n : ℕ) → length (on n) ≤ n + length st.answers
  on_most zero = omega arith
  on_most (suc n) = let h : length (on (suc n)) ≤ suc (n + length st.answers) = and_longer (free_answer store records st.cursor (length (on n) - length st.answers) st.mode (asked_at fs path st (on n))) (on n) (n + length st.answers) (on_most n) in omega arith

  pub on_least : (n : ℕ) → length st.answers ≤ length (on n)
  on_least zero = omega arith
  on_least (suc n) = not_shorter (free_answer store records st.cursor (length (on n) - length st.answers) st.mode (asked_at fs path st (on n))) (on n) (length st.answers) (on_least n)

  -- the next free operation is decided
  pub record IsNext (n : ℕ) : Type 0 where
    pub answer : Answer
    pub free : free_answer store records st.cursor n st.mode (asked_at fs path st (on n)) ≡ Some answer
    pub is : on (suc n) ≡ answer ∷ on n
    pub before : length (on n) ≡ n + length st.answers

  next_from : (n : ℕ) (answer : Answer) → length (on n) ≡ n + length st.answers → free_answer store records st.cursor n st.mode (asked_at fs path st (on n)) ≡ Some answer → IsNext n
  next_from n answer long free = record {
    answer = answer;
    free = free;
    is =
        ap (λ m. add_answer (free_answer store records st.cursor m st.mode (asked_at fs path st (on n))) (on n)) (let e : length (on n) - length st.answers ≡ n = omega arith in e)
        ∙ ap (λ o. add_answer o (on n)) free;
    before = long;
  }

  pub next_decided : (n : ℕ) → length (on (suc n)) ≡ suc n + length st.answers → IsNext n
  next_decided n long = at (free_answer store records st.cursor (length (on n) - length st.answers) st.mode (asked_at fs path st (on n))) refl long
    where
      at : (o : Option Answer) → free_answer store records st.cursor (length (on n) - length st.answers) st.mode (asked_at fs path st (on n)) ≡ o → length (add_answer o (on n)) ≡ suc n + length st.answers → IsNext n
      at None e long = absurd (let h : ⊥ = omega (arith, long, on_most n) in h)
      at (Some x) e long =
          let before : length (on n) ≡ n + length st.answers = omega (arith, long) in
          next_from n x before (ap (λ m. free_answer store records st.cursor m st.mode (asked_at fs path st (on n))) (let e : n ≡ length (on n) - length st.answers = omega arith in e) ∙ e)

  -- what reaches a step record is decided in number
  pub long_reaches : (index : ℕ) → Reaches fs store records path st index → length (on (free_operations_to index st)) ≡ free_operations_to index st + length st.answers
  long_reaches index reaches = omega (arith, reaches.decided, on_least (free_operations_to index st))

  pub index_is : (index : ℕ) → Reaches fs store records path st index → index ≡ suc (free_operations_to index st + length st.answers)
  index_is index reaches = omega (arith, reaches.decided, long_reaches index reaches)

-- what a free operation of the mode R is
pub data IsRead (store : Store) (records : List (Live Body)) (c : ℕ) (ask : Option Ask) (answer : Answer) : Type 0 where
  reads : (key : List ℕ) → ask ≡ Some (k.Op (o.Read key)) → answer ≡ a.Value (value_or_none (last_value_below key (suc c) 0 store records)) → IsRead store records c ask answer
  reads_all : (keys : List (List ℕ)) → ask ≡ Some (k.Op (o.ReadGroup keys)) → answer ≡ a.Values (values_below (suc c) 0 store records keys) → IsRead store records c ask answer

some_answer : (x y : Answer) → Some x ≡ Some y → y ≡ x
some_answer x y e = cc

pub is_read : (store : Store) (records : List (Live Body)) (c since : ℕ) (ask : Option Ask) (answer : Answer) → free_answer store records c since R ask ≡ Some answer → IsRead store records c ask answer
is_read store records c since (Some (k.Op (o.Read key))) answer e = reads key refl (some_answer _ answer e)
is_read store records c since (Some (k.Op (o.ReadGroup keys))) answer e = reads_all keys refl (some_answer _ answer e)
is_read store records c since _ answer e = let no_way : None ≡ Some answer = e in cc

pub none_in_T : (store : Store) (records : List (Live Body)) (c since : ℕ) (ask : Option Ask) → free_answer store records c since T ask ≡ None
none_in_T store records c since ask = refl

-- versions are found at the cursor
abbrev pub AreFound : Store → ℕ → List Version → Type 0
AreFound store c [] = Unit {0}
AreFound store c (v ∷ vs) = (version_value v.key c v.number store.versions ≡ Some v.value) × AreFound store c vs

-- where the versions at the cursor are the next writes, each of them is a decided operation
module _ (fs : List Function) (store : Store) (records : List (Live Body)) (path : List ℕ) (st : InvocationState) (mode : st.mode ≡ W) where
  write_free : (v : Version) (vs : List Version) → AreNextWrites fs store records path st (v ∷ vs) → version_value v.key st.cursor v.number store.versions ≡ Some v.value → free_answer store records st.cursor (length vs) st.mode (asked_at fs path st (on fs store records path st (length vs))) ≡ Some a.Done
  write_free v vs are found =
      ap (λ m. free_answer store records st.cursor (length vs) m (asked_at fs path st (on fs store records path st (length vs)))) mode
      ∙ ap (free_answer store records st.cursor (length vs) W) are.1
      ∙ ap (λ n. cond (is_some (version_value v.key st.cursor n store.versions)) (Some a.Done) None) (sym are.0)
      ∙ ap (λ v. cond (is_some v) (Some a.Done) None) found

  pub record IsWritten (n : ℕ) : Type 0 where
    pub is : on fs store records path st (suc n) ≡ a.Done ∷ on fs store records path st n
    pub before : length (on fs store records path st n) ≡ n + length st.answers

  pub writes_long : (vs : List Version) → AreNextWrites fs store records path st vs → AreFound store st.cursor vs → length (on fs store records path st (length vs)) ≡ length vs + length st.answers
  writes_long [] are found = omega arith
  writes_long (v ∷ vs) are found =
      let next = next_from fs store records path st (length vs) a.Done (writes_long vs are.2 found.1) (write_free v vs are found.0) in
      ap length next.is ∙ (let h : suc (length (on fs store records path st (length vs))) ≡ suc (length vs) + length st.answers = omega (arith, next.before) in h)

  pub is_written : (v : Version) (vs : List Version) → AreNextWrites fs store records path st (v ∷ vs) → AreFound store st.cursor (v ∷ vs) → IsWritten (length vs)
  unfolding next_from
  is_written v vs are found =
      let next = next_from fs store records path st (length vs) a.Done (writes_long vs are.2 found.1) (write_free v vs are found.0) in
      record { is = next.is; before = next.before }
