-- A queue's values, and the commits of names.
use Rattle.std.proofs.Common.{◌≡◌, ℕ, zero, suc, ◌≤◌, ◌<◌, ltb, Bool, true, false, cond, not, ◌&&◌, ◌||◌, List, [], ◌∷◌, ◌++◌, length, map, drop, slice_get, Option, Some, None, option_map, unwrap_or, refl, sym, ap, ◌∙◌, subst, arith, length-append}
use Rattle.std.specs.Prelude.{bytes_eq}
use Rattle.std.specs.List.{list_any}
use Rattle.std.proofs.lemmas.Bool.Decides.{nat_tests}
use Rattle.lb_base.specs.declared.value.Value.{Value}
use Rattle.lb_base.specs.declared.value.Value.TheVariants.{Nothing}
use Rattle.boki_model.specs.Maps.{get, put, has}
use Rattle.boki_model.specs.Folds as folds
use Rattle.boki_model.specs.Folds.{front_of, written_names, intersects, put_all, values_of_names, push_queue, pop_queue, front}
use Rattle.boki_machine.specs.Ideal as ideal
use Rattle.ideal_run.specs.declared.kept.Queue.{Queue}
use Rattle.ideal_run.specs.declared.kept.Stored.{Stored}
use Rattle.ideal_run.specs.Kept.{unpopped_values, queue_in, push_value, pop_front, front_value, commit_of, name_in, is_dirty, may_commit, with_writes}
use Rattle.ideal_run.specs.Standing.{map_values, TransactionStands}
use Rattle.ideal_run.proofs.Mapped.{get-put, each_put, each_get}

drop_none : (n : ℕ) → drop n (let l : List Value = [] in l) ≡ []
drop_none zero = refl
drop_none (suc n) = refl

drop_append : (n : ℕ) (xs ys : List Value) → n ≤ length xs → drop n (xs ++ ys) ≡ drop n xs ++ ys
drop_append zero xs ys le = refl
drop_append (suc n) [] ys le = absurd (let z : ⊥ = omega (arith, le) in z)
drop_append (suc n) (x ∷ xs) ys le = drop_append n xs ys (omega (arith, le))

front_is : (n : ℕ) (xs : List Value) → unwrap_or (slice_get xs n) Nothing ≡ front_of (drop n xs)
front_is n [] = ap front_of (sym (drop_none n))
front_is zero (x ∷ xs) = refl
front_is (suc n) (x ∷ xs) = front_is n xs

taken_is : (n : ℕ) (xs : List Value) (b : Bool) → ltb n (length xs) ≡ b → drop (cond b (suc n) n) xs ≡ drop 1 (drop n xs)
taken_is n [] b e = drop_none (cond b (suc n) n) ∙ sym (drop_none 1) ∙ ap (drop 1) (sym (drop_none n))
taken_is zero (x ∷ xs) true e = refl
taken_is zero (x ∷ xs) false e = let z : ltb 0 (suc (length xs)) ≡ true = grind (arith, nat_tests) in absurd (let no : ⊥ = cc in no)
taken_is (suc n) (x ∷ xs) true e = taken_is n xs true (let h : ltb n (length xs) ≡ true = grind (arith, nat_tests) in h)
taken_is (suc n) (x ∷ xs) false e = taken_is n xs false (let h : ltb n (length xs) ≡ false = grind (arith, nat_tests) in h)

module _ (name : List ℕ) (qs : List (List ℕ × Queue)) (ms : List (List ℕ × List Value)) (same : map_values unpopped_values qs ≡ ms)
    (fronts : (k : List ℕ) (q : Queue) → get k qs ≡ Some q → q.front ≤ length q.values) where
  pub left_is : unpopped_values (queue_in name qs) ≡ folds.queue_in name ms
  left_is = at (get name qs) refl ∙ ap (λ (m : List (List ℕ × List Value)). folds.queue_in name m) same
    where
      at : (o : Option Queue) → get name qs ≡ o → unpopped_values (queue_in name qs) ≡ folds.queue_in name (map_values unpopped_values qs)
      at None e =
          ap (λ (o : Option Queue). unpopped_values (unwrap_or o (record { values = []; front = 0 }))) e
          ∙ sym (ap (λ (o : Option (List Value)). unwrap_or o []) (each_get unpopped_values name qs ∙ ap (option_map unpopped_values) e))
      at (Some q) e =
          ap (λ (o : Option Queue). unpopped_values (unwrap_or o (record { values = []; front = 0 }))) e
          ∙ sym (ap (λ (o : Option (List Value)). unwrap_or o []) (each_get unpopped_values name qs ∙ ap (option_map unpopped_values) e))

  front_within : (queue_in name qs).front ≤ length (queue_in name qs).values
  front_within = at (get name qs) refl
    where
      at : (o : Option Queue) → get name qs ≡ o → (queue_in name qs).front ≤ length (queue_in name qs).values
      at None e = subst (λ (o : Option Queue). (unwrap_or o (record { values = []; front = 0 })).front ≤ length (unwrap_or o (record { values = []; front = 0 })).values) (sym e) (omega arith)
      at (Some q) e = subst (λ (o : Option Queue). (unwrap_or o (record { values = []; front = 0 })).front ≤ length (unwrap_or o (record { values = []; front = 0 })).values) (sym e) (fronts name q e)

  put_fronts : (w : Queue) → w.front ≤ length w.values → (k : List ℕ) (q : Queue) → get k (put name w qs) ≡ Some q → q.front ≤ length q.values
  put_fronts w le k q e = at (bytes_eq k name) (sym (get-put k name w qs) ∙ e)
    where
      at : (b : Bool) → cond b (Some w) (get k qs) ≡ Some q → q.front ≤ length q.values
      at true is = subst (λ (x : Queue). x.front ≤ length x.values) (let same : w ≡ q = cc in same) le
      at false is = fronts k q is

  pub push_is : (v : Value) → map_values unpopped_values (put name (push_value (queue_in name qs) v) qs) ≡ push_queue name v ms
  push_is v =
      each_put unpopped_values name (push_value (queue_in name qs) v) qs
      ∙ ap (λ (vs : List Value). put name vs (map_values unpopped_values qs)) (drop_append (queue_in name qs).front (queue_in name qs).values (v ∷ []) front_within ∙ ap (λ (vs : List Value). vs ++ v ∷ []) left_is)
      ∙ ap (put name (folds.queue_in name ms ++ v ∷ [])) same

  pub push_fronts : (v : Value) (k : List ℕ) (q : Queue) → get k (put name (push_value (queue_in name qs) v) qs) ≡ Some q → q.front ≤ length q.values
  push_fronts v = put_fronts (push_value (queue_in name qs) v) (let h = front_within in let n = length-append (queue_in name qs).values (v ∷ []) in omega (arith, h, n))

  left_taken : (q : Queue) → unpopped_values (pop_front q) ≡ drop 1 (unpopped_values q)
  left_taken q = at (ltb q.front (length q.values)) refl
    where
      at : (b : Bool) → ltb q.front (length q.values) ≡ b → unpopped_values (cond b (record q { front = suc q.front }) q) ≡ drop 1 (unpopped_values q)
      at true e = taken_is q.front q.values true e
      at false e = taken_is q.front q.values false e

  pub pop_is : map_values unpopped_values (put name (pop_front (queue_in name qs)) qs) ≡ pop_queue name ms
  pop_is =
      each_put unpopped_values name (pop_front (queue_in name qs)) qs
      ∙ ap (λ (vs : List Value). put name vs (map_values unpopped_values qs)) (left_taken (queue_in name qs) ∙ ap (drop 1) left_is)
      ∙ ap (put name (drop 1 (folds.queue_in name ms))) same

  pub pop_fronts : (k : List ℕ) (q : Queue) → get k (put name (pop_front (queue_in name qs)) qs) ≡ Some q → q.front ≤ length q.values
  pop_fronts = put_fronts (pop_front (queue_in name qs)) (at (ltb (queue_in name qs).front (length (queue_in name qs).values)) refl)
    where
      at : (b : Bool) → ltb (queue_in name qs).front (length (queue_in name qs).values) ≡ b
          → (cond b (record (queue_in name qs) { front = suc (queue_in name qs).front }) (queue_in name qs)).front ≤ length (cond b (record (queue_in name qs) { front = suc (queue_in name qs).front }) (queue_in name qs)).values
      at true e = let h : (queue_in name qs).front < length (queue_in name qs).values = grind (arith, nat_tests) in omega (arith, h)
      at false e = front_within

  pub pop_answer : front_value (queue_in name qs) ≡ front name ms
  pop_answer = front_is (queue_in name qs).front (queue_in name qs).values ∙ ap front_of left_is

-- Store names.

abbrev pub value_of : Stored → Value
value_of s = s.value

pub name_is : (names : List (List ℕ × Stored)) (name : List ℕ) → name_in names name ≡ unwrap_or (get name (map_values value_of names)) Nothing
name_is names name = ap (λ (o : Option Value). unwrap_or o Nothing) (sym (each_get value_of name names))

pub names_are : (names : List (List ℕ × Stored)) (ns : List (List ℕ)) → map (name_in names) ns ≡ values_of_names ns (map_values value_of names)
names_are names [] = refl
names_are names (n ∷ ns) = λ j. name_is names n j ∷ names_are names ns j

pub writes_are : (commit : ℕ) (ws : List (List ℕ × Value)) (names : List (List ℕ × Stored)) → map_values value_of (with_writes commit ws names) ≡ put_all ws (map_values value_of names)
writes_are commit [] names = refl
writes_are commit (w ∷ ws) names =
    writes_are commit ws (put w.0 (record { value = w.1; commit = commit }) names) ∙ ap (put_all ws) (each_put value_of w.0 (record { value = w.1; commit = commit }) names)

commit_put : (n k : List ℕ) (s : Stored) (names : List (List ℕ × Stored)) → commit_of n (put k s names) ≡ cond (bytes_eq n k) s.commit (commit_of n names)
commit_put n k s names = ap (λ (o : Option Stored). unwrap_or (option_map (λ x. x.commit) o) 0) (get-put n k s names) ∙ at (bytes_eq n k)
  where
    at : (b : Bool) → unwrap_or (option_map (λ x. x.commit) (cond b (Some s) (get n names))) 0 ≡ cond b s.commit (commit_of n names)
    at true = refl
    at false = refl

-- the names that a commit writes have its number
pub commit_is : (commit : ℕ) (n : List ℕ) (ws : List (List ℕ × Value)) (names : List (List ℕ × Stored)) → commit_of n (with_writes commit ws names) ≡ cond (has n (written_names ws)) commit (commit_of n names)
commit_is commit n [] names = refl
commit_is commit n (w ∷ ws) names =
    commit_is commit n ws (put w.0 (record { value = w.1; commit = commit }) names)
    ∙ ap (cond (has n (written_names ws)) commit) (commit_put n w.0 (record { value = w.1; commit = commit }) names)
    ∙ at (has n (written_names ws)) (bytes_eq n w.0)
  where
    at : (a b : Bool) → cond a commit (cond b commit (commit_of n names)) ≡ cond (b || a) commit (commit_of n names)
    at true true = refl
    at true false = refl
    at false true = refl
    at false false = refl

pub numbered_more : (commits : ℕ) (ws : List (List ℕ × Value)) (names : List (List ℕ × Stored)) → ((n : List ℕ) → commit_of n names ≤ commits) → (n : List ℕ) → commit_of n (with_writes (suc commits) ws names) ≤ suc commits
numbered_more commits ws names le n = subst (λ k. k ≤ suc commits) (sym (commit_is (suc commits) n ws names)) (at (has n (written_names ws)))
  where
    at : (b : Bool) → cond b (suc commits) (commit_of n names) ≤ suc commits
    at true = omega arith
    at false = let h = le n in omega (arith, h)

has_append : (n : List ℕ) (xs ys : List (List ℕ)) → has n (xs ++ ys) ≡ (has n xs || has n ys)
has_append n [] ys = refl
has_append n (x ∷ xs) ys = ap (λ b. bytes_eq n x || b) (has_append n xs ys) ∙ at (bytes_eq n x) (has n xs) (has n ys)
  where
    at : (a b c : Bool) → (a || (b || c)) ≡ ((a || b) || c)
    at true b c = refl
    at false b c = refl

-- behind a commit, in another open transaction
pub transaction_more : (commits : ℕ) (ws : List (List ℕ × Value)) (names : List (List ℕ × Stored)) (begun : Option ℕ) (dirty : Option ideal.Dirty)
    → TransactionStands names commits begun dirty → TransactionStands (with_writes (suc commits) ws names) (suc commits) begun (ideal.add_dirty (written_names ws) dirty)
transaction_more commits ws names None None stands = tt
transaction_more commits ws names None (Some dirty) stands = stands
transaction_more commits ws names (Some begun) None stands = stands
transaction_more commits ws names (Some begun) (Some dirty) stands = (
  (let h = stands.0 in omega (arith, h)),
  λ n. has_append n (written_names ws) dirty ∙ ap (λ b. has n (written_names ws) || b) (stands.1 n) ∙ at n (has n (written_names ws)) ∙ ap (ltb begun) (sym (commit_is (suc commits) n ws names)),
)
  where
    at : (n : List ℕ) (b : Bool) → (b || ltb begun (commit_of n names)) ≡ ltb begun (cond b (suc commits) (commit_of n names))
    at n true = let h = stands.0 in let less : begun < suc commits = omega (arith, h) in let z : ltb begun (suc commits) ≡ true = grind (arith, nat_tests) in sym z
    at n false = refl

-- at a begin nothing is dirty
pub clean : (commits : ℕ) (names : List (List ℕ × Stored)) → ((n : List ℕ) → commit_of n names ≤ commits) → TransactionStands names commits (Some commits) (Some [])
clean commits names le = (omega arith, λ n. let h = le n in let z : ltb commits (commit_of n names) ≡ false = grind (arith, nat_tests) in sym z)

meets : (test : List ℕ → Bool) (dirty : List (List ℕ)) → ((n : List ℕ) → has n dirty ≡ test n) → (xs ys : List (List ℕ)) → intersects (xs ++ ys) dirty ≡ (list_any test xs || list_any test ys)
meets test dirty same [] [] = refl
meets test dirty same [] (y ∷ ys) = (λ j. same y j || meets test dirty same [] ys j)
meets test dirty same (x ∷ xs) ys = (λ j. same x j || meets test dirty same xs ys j) ∙ at (test x) (list_any test xs) (list_any test ys)
  where
    at : (a b c : Bool) → (a || (b || c)) ≡ ((a || b) || c)
    at true b c = refl
    at false b c = refl

-- a commit succeeds here where it does in the definitions
pub succeeds_is : (read : List (List ℕ)) (ws : List (List ℕ × Value)) (names : List (List ℕ × Stored)) (commits : ℕ) (begun : Option ℕ) (dirty : Option ideal.Dirty)
    → TransactionStands names commits begun dirty → may_commit begun read ws names ≡ ideal.commit_succeeds read ws dirty
succeeds_is read ws names commits None None stands = refl
succeeds_is read ws names commits None (Some dirty) stands = absurd stands
succeeds_is read ws names commits (Some begun) None stands = absurd stands
succeeds_is read ws names commits (Some begun) (Some dirty) stands =
    at (list_any (is_dirty begun names) read) (list_any (is_dirty begun names) (written_names ws)) ∙ ap not (sym (meets (is_dirty begun names) dirty stands.1 read (written_names ws)))
  where
    at : (a b : Bool) → (not a && not b) ≡ not (a || b)
    at true b = refl
    at false b = refl
