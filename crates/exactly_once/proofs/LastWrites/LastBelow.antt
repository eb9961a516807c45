-- The last write below a position.
use Rattle.std.proofs.Common.{◌≡◌, ◌⊎◌, inl, inr, ℕ, suc, ◌<◌, ◌≤◌, Bool, true, false, cond, List, [], ◌∷◌, ◌++◌, Option, Some, None, refl, sym, ap, ◌∙◌, subst, arith}
use Rattle.std.specs.List.{AllByRecursion}
use Rattle.std.proofs.lemmas.Bool.{lt-ltb}
use Rattle.std.proofs.lemmas.Bool.Decides.{nat_tests}
use Rattle.lb_base.specs.declared.value.Value.{Value}
use Rattle.boki_model.specs.Writes.{Write, is_below, later_write, last_write_below}
use Rattle.exactly_once.proofs.Log.HistoryTails.{Tail, here, there}

-- Positions.

pub below_true : (a j c k : ℕ) → is_below a j c k ≡ true → (a < c) ⊎ ((a ≡ c) × (j < k))
below_true a j c k e = grind (arith, nat_tests)

pub below_false : (a j c k : ℕ) → is_below a j c k ≡ false → (c < a) ⊎ ((a ≡ c) × (k ≤ j))
below_false a j c k e = grind (arith, nat_tests)

pub is_below_first : (a j c k : ℕ) → a < c → is_below a j c k ≡ true
is_below_first a j c k lt = rw (lt-ltb a c lt)

pub is_below_second : (a j c k : ℕ) → a ≡ c → j < k → is_below a j c k ≡ true
is_below_second a j c k e lt = grind (arith, nat_tests)

pub not_below_first : (a j c k : ℕ) → c < a → is_below a j c k ≡ false
not_below_first a j c k lt = grind (arith, nat_tests)

pub not_below_second : (a j c k : ℕ) → a ≡ c → k ≤ j → is_below a j c k ≡ false
not_below_second a j c k e le = grind (arith, nat_tests)

pub not_below_zero : (a j c : ℕ) → c ≤ a → is_below a j c 0 ≡ false
not_below_zero a j c le = grind (arith, nat_tests)

-- a write that is not at (c, k) is below (c, k + 1) where it is below (c, k)
pub below_apart : (a j c k : ℕ) → (a ≡ c → j ≡ k → ⊥) → is_below a j c k ≡ is_below a j c (suc k)
below_apart a j c k apart = grind (arith, nat_tests)

-- nothing between (c, m + 1) and (d, 0)
pub below_over : (a j c m d : ℕ) → c < d → (a < d → a ≤ c) → (a ≡ c → j ≤ m) → is_below a j c (suc m) ≡ is_below a j d 0
below_over a j c m d lt between within = grind (arith, nat_tests)

-- The last write.

pub last_same : (c k d l : ℕ) (ws : List Write) → AllByRecursion (λ w. is_below w.first w.second c k ≡ is_below w.first w.second d l) ws → last_write_below c k ws ≡ last_write_below d l ws
last_same c k d l [] each = refl
last_same c k d l (w ∷ ws) each = λ i. cond (each.0 i) (later_write w (last_same c k d l ws each.1 i)) (last_same c k d l ws each.1 i)

pub last_skip : (c k : ℕ) (us : List Write) (w : Write) (ws : List Write) → is_below w.first w.second c k ≡ false → last_write_below c k (us ++ w ∷ ws) ≡ last_write_below c k (us ++ ws)
last_skip c k [] w ws e = rw e
last_skip c k (u ∷ us) w ws e = ap (λ (o : Option Write). cond (is_below u.first u.second c k) (later_write u o) o) (last_skip c k us w ws e)

pub last_none : (c k : ℕ) (us ws : List Write) → AllByRecursion (λ w. is_below w.first w.second c k ≡ false) us → last_write_below c k (us ++ ws) ≡ last_write_below c k ws
last_none c k [] ws each = refl
last_none c k (u ∷ us) ws each = rw each.0 (last_none c k us ws each.1)

-- the last write is below the position
pub last_within : (c k : ℕ) (ws : List Write) (u : Write) → last_write_below c k ws ≡ Some u → is_below u.first u.second c k ≡ true
last_within c k [] u e = cc
last_within c k (w ∷ ws) u e = at (last_within c k ws u) (is_below w.first w.second c k) refl (last_write_below c k ws) refl e
  where
    at : (last_write_below c k ws ≡ Some u → is_below u.first u.second c k ≡ true) → (b : Bool) → is_below w.first w.second c k ≡ b → (o : Option Write) → last_write_below c k ws ≡ o → cond b (later_write w o) o ≡ Some u → is_below u.first u.second c k ≡ true
    at ih false b o is e = ih (is ∙ e)
    at ih true b None is e = subst (λ (u : Write). is_below u.first u.second c k ≡ true) (let same : w ≡ u = cc in same) b
    at ih true b (Some v) is e = pick (is_below w.first w.second v.first v.second) e
      where
        pick : (d : Bool) → cond d (Some v) (Some w) ≡ Some u → is_below u.first u.second c k ≡ true
        pick true e = ih (is ∙ e)
        pick false e = subst (λ (u : Write). is_below u.first u.second c k ≡ true) (let same : w ≡ u = cc in same) b

-- the last write below (c, k + 1) stands at (c, k) and has this value
pub record IsTop (c k : ℕ) (value : Value) (ws : List Write) : Type 0 where
  pub top : Write
  pub is_last : last_write_below c (suc k) ws ≡ Some top
  pub first_is : top.first ≡ c
  pub second_is : top.second ≡ k
  pub value_is : top.value ≡ value

-- a write at (c, k) has this value
pub record Agrees (c k : ℕ) (value : Value) (w : Write) : Type 0 where
  pub agrees : w.first ≡ c → w.second ≡ k → w.value ≡ value

top_here : (c k : ℕ) (w : Write) (ws : List Write) → w.first ≡ c → w.second ≡ k → IsTop c k w.value (w ∷ ws)
top_here c k w ws first second = at (last_write_below c (suc k) ws) refl
  where
    below : is_below w.first w.second c (suc k) ≡ true
    below = is_below_second w.first w.second c (suc k) first (omega arith)

    is_this : (o : Option Write) → last_write_below c (suc k) ws ≡ o → later_write w o ≡ Some w → IsTop c k w.value (w ∷ ws)
    is_this o e is = record { top = w; is_last = rw (below, e) is; first_is = first; second_is = second; value_is = refl }

    at : (o : Option Write) → last_write_below c (suc k) ws ≡ o → IsTop c k w.value (w ∷ ws)
    at None e = is_this None e refl
    at (Some v) e = is_this (Some v) e (rw (not_above (below_true v.first v.second c (suc k) (last_within c (suc k) ws v e))))
      where
        not_above : (v.first < c) ⊎ ((v.first ≡ c) × (v.second < suc k)) → is_below w.first w.second v.first v.second ≡ false
        not_above (inl lt) = not_below_first w.first w.second v.first v.second (omega (arith, lt, first))
        not_above (inr h) = not_below_second w.first w.second v.first v.second (first ∙ sym h.0) (omega (arith, h.1, second))

top_later : (c k : ℕ) (value : Value) (w : Write) (ws : List Write) → Agrees c k value w → IsTop c k value ws → IsTop c k value (w ∷ ws)
top_later c k value w ws agree top = at (is_below w.first w.second c (suc k)) refl (is_below w.first w.second top.top.first top.top.second) refl
  where
    at : (b : Bool) → is_below w.first w.second c (suc k) ≡ b → (d : Bool) → is_below w.first w.second top.top.first top.top.second ≡ d → IsTop c k value (w ∷ ws)
    at false e d f = record { top = top.top; is_last = rw (e, top.is_last); first_is = top.first_is; second_is = top.second_is; value_is = top.value_is }
    at true e true f = record { top = top.top; is_last = rw (e, top.is_last, f); first_is = top.first_is; second_is = top.second_is; value_is = top.value_is }
    at true e false f = beside (below_true w.first w.second c (suc k) e) (below_false w.first w.second top.top.first top.top.second f)
      where
        this : w.first ≡ c → w.second ≡ k → IsTop c k value (w ∷ ws)
        this first second = record { top = w; is_last = rw (e, top.is_last, f); first_is = first; second_is = second; value_is = agree.agrees first second }

        beside : (w.first < c) ⊎ ((w.first ≡ c) × (w.second < suc k)) → (top.top.first < w.first) ⊎ ((w.first ≡ top.top.first) × (top.top.second ≤ w.second)) → IsTop c k value (w ∷ ws)
        beside (inl lt) (inl gt) = absurd (omega (arith, lt, gt, top.first_is))
        beside (inl lt) (inr g) = absurd (omega (arith, lt, g.0, top.first_is))
        beside (inr h) (inl gt) = absurd (omega (arith, h.0, gt, top.first_is))
        beside (inr h) (inr g) = this h.0 (omega (arith, h.1, g.1, top.second_is))

pub top_of : (c k : ℕ) (value : Value) (w : Write) (rest ws : List Write) → w.first ≡ c → w.second ≡ k → w.value ≡ value → Tail (w ∷ rest) ws → AllByRecursion (Agrees c k value) ws → IsTop c k value ws
top_of c k value w rest ws first second is here each = subst (λ v. IsTop c k v (w ∷ rest)) is (top_here c k w rest first second)
top_of c k value w rest (v ∷ ws) first second is (there t) each = top_later c k value v ws each.0 (top_of c k value w rest ws first second is t each.1)
