-- Lists of writes in the order of their positions, and searches of them.
use Rattle.std.proofs.Common.{◌≡◌, ℕ, zero, suc, ◌+◌, ◌-◌, ◌<◌, ◌≤◌, leb, eqb, Bool, true, false, cond, ◌&&◌, ◌||◌, List, [], ◌∷◌, length, get_or, slice_get, filter, Option, Some, None, refl, sym, ap, ◌∙◌, arith, insert, remove}
use Rattle.std.specs.List.Sorted.{IsPartitionPoint, IsPartitionedBy}
use Rattle.std.proofs.lemmas.List.Sums.{prefix_len_is}
use Rattle.std.proofs.lemmas.Bool.Decides.{nat_tests}
use Rattle.boki_model.specs.Writes.{Write, is_below, later_write, last_write_below}
use Rattle.obj_store.specs.Ascending.{AllAbove, Ascend, before_count, has_at, not_below}
use Rattle.obj_store.specs.Kept.{insert_write}
use Rattle.obj_store.proofs.Positions.{below_trans}

all_above_at : (w : Write) (ws : List Write) → AllAbove w ws → (i : ℕ) (d : Write) → i < length ws → is_below w.first w.second (get_or ws i d).first (get_or ws i d).second ≡ true
all_above_at w [] h i d lt = absurd (let h : ⊥ = omega arith in h)
all_above_at w (v ∷ vs) h zero d lt = h.0
all_above_at w (v ∷ vs) h (suc i) d lt = all_above_at w vs h.1 i d (omega arith)

-- those below a position stand in front
pub parted : (c k : ℕ) (ws : List Write) → Ascend ws → IsPartitionedBy (λ w. is_below w.first w.second c k) ws
parted c k [] up i j d le lt h = absurd (let h : ⊥ = omega arith in h)
parted c k (w ∷ ws) up zero zero d le lt h = h
parted c k (w ∷ ws) up zero (suc j) d le lt h =
    below_trans w.first w.second (get_or ws j d).first (get_or ws j d).second c k (all_above_at w ws up.0 j d (omega arith)) h
parted c k (w ∷ ws) up (suc i) zero d le lt h = absurd (let h : ⊥ = omega arith in h)
parted c k (w ∷ ws) up (suc i) (suc j) d le lt h = parted c k ws up.1 i j d (omega arith) (omega arith) h

pub point_is : (c k : ℕ) (ws : List Write) (n : ℕ) → n ≤ length ws
    → IsPartitionPoint (λ w. is_below w.first w.second c k ≡ true) (λ w. is_below w.first w.second c k ≡ false) ws n → n ≡ before_count c k ws
point_is c k [] n le point = omega arith
point_is c k (w ∷ ws) n le point = sym (prefix_len_is (λ w. is_below w.first w.second c k) (w ∷ ws) n w le (λ i lt. point.0 i w (omega arith) lt) (λ lt. point.1 n w (omega arith) lt))

-- where a write isn't below a position, no later one is
none_before : (c k : ℕ) (w : Write) (ws : List Write) → AllAbove w ws → is_below w.first w.second c k ≡ false → before_count c k ws ≡ 0
none_before c k w [] up h = refl
none_before c k w (v ∷ vs) up h = at (is_below v.first v.second c k) refl
  where
    at : (b : Bool) → is_below v.first v.second c k ≡ b → before_count c k (v ∷ vs) ≡ 0
    at true e = absurd (let n : true ≡ false = sym (below_trans w.first w.second v.first v.second c k up.0 e) ∙ h in cc)
    at false e = ap (λ b. cond b (1 + before_count c k vs) 0) e

-- whether what stands at a place has a position
abbrev pub is_found : ℕ → ℕ → Option Write → Bool
is_found c k None = false
is_found c k (Some w) = eqb c w.first && eqb k w.second

none_at : (c k : ℕ) (w : Write) (ws : List Write) → AllAbove w ws → is_below w.first w.second c k ≡ false → has_at c k ws ≡ false
none_at c k w [] up h = refl
none_at c k w (v ∷ vs) up h = at (eqb c v.first && eqb k v.second) refl (none_at c k w vs up.1 h)
  where
    at : (b : Bool) → (eqb c v.first && eqb k v.second) ≡ b → has_at c k vs ≡ false → (b || has_at c k vs) ≡ false
    at true e ih = absurd (let w_up = up.0 in let n : ⊥ = grind (arith, nat_tests) in n)
    at false e ih = ih

pub found_at : (c k : ℕ) (ws : List Write) → Ascend ws → is_found c k (slice_get ws (before_count c k ws)) ≡ has_at c k ws
found_at c k [] up = refl
found_at c k (w ∷ ws) up = at (is_below w.first w.second c k) refl (found_at c k ws up.1)
  where
    at : (b : Bool) → is_below w.first w.second c k ≡ b → is_found c k (slice_get ws (before_count c k ws)) ≡ has_at c k ws
        → is_found c k (slice_get (w ∷ ws) (cond b (1 + before_count c k ws) 0)) ≡ ((eqb c w.first && eqb k w.second) || has_at c k ws)
    at true e ih =
        ap (λ n. is_found c k (slice_get (w ∷ ws) n)) (let n : 1 + before_count c k ws ≡ suc (before_count c k ws) = omega arith in n)
        ∙ ih ∙ ap (λ b. b || has_at c k ws) (let n : false ≡ (eqb c w.first && eqb k w.second) = grind (arith, nat_tests) in n)
    at false e ih = or_false (eqb c w.first && eqb k w.second) (has_at c k ws) (none_at c k w ws up.0 e)
      where
        or_false : (x y : Bool) → y ≡ false → x ≡ (x || y)
        or_false true y e = refl
        or_false false y e = sym e

-- what stands before a place
abbrev pub before : ℕ → List Write → Option Write
before zero ws = None
before (suc n) ws = slice_get ws n

pub before_is : (n : ℕ) (ws : List Write) → 0 < n → slice_get ws (n - 1) ≡ before n ws
before_is zero ws lt = absurd (let h : ⊥ = omega arith in h)
before_is (suc n) ws lt = ap (slice_get ws) (let e : suc n - 1 ≡ n = omega arith in e)

last_above : (w : Write) (ws : List Write) → AllAbove w ws → (n : ℕ) → 0 < n → n ≤ length ws → later_write w (before n ws) ≡ before (suc n) (w ∷ ws)
last_above w ws up zero lt le = absurd (let h : ⊥ = omega arith in h)
last_above w [] up (suc n) lt le = absurd (let h : ⊥ = omega arith in h)
last_above w (v ∷ vs) up (suc zero) lt le = ap (λ b. cond b (Some v) (Some w)) up.0
last_above w (v ∷ vs) up (suc (suc n)) lt le = last_above w vs up.1 (suc n) (omega arith) (omega arith)

pub count_bound : (c k : ℕ) (ws : List Write) → before_count c k ws ≤ length ws
count_bound c k [] = omega arith
count_bound c k (w ∷ ws) = at (is_below w.first w.second c k) (count_bound c k ws)
  where
    at : (b : Bool) → before_count c k ws ≤ length ws → cond b (1 + before_count c k ws) 0 ≤ suc (length ws)
    at true ih = omega arith
    at false ih = omega arith

pub last_is : (c k : ℕ) (ws : List Write) → Ascend ws → last_write_below c k ws ≡ before (before_count c k ws) ws
last_is c k [] up = refl
last_is c k (w ∷ ws) up = at (is_below w.first w.second c k) refl (last_is c k ws up.1)
  where
    some : (n : ℕ) → n ≡ before_count c k ws → last_write_below c k ws ≡ before n ws → later_write w (last_write_below c k ws) ≡ before (suc n) (w ∷ ws)
    some zero e ih = ap (later_write w) ih
    some (suc n) e ih = ap (later_write w) ih ∙ last_above w ws up.0 (suc n) (omega arith) (omega (arith, count_bound c k ws))

    none : (n : ℕ) → before_count c k ws ≡ n → n ≡ 0 → last_write_below c k ws ≡ before n ws → last_write_below c k ws ≡ None
    none zero e z ih = ih
    none (suc n) e z ih = absurd (let h : ⊥ = omega arith in h)

    at : (b : Bool) → is_below w.first w.second c k ≡ b → last_write_below c k ws ≡ before (before_count c k ws) ws
        → cond b (later_write w (last_write_below c k ws)) (last_write_below c k ws) ≡ before (cond b (1 + before_count c k ws) 0) (w ∷ ws)
    at true e ih = some (before_count c k ws) refl ih ∙ ap (λ n. before n (w ∷ ws)) (let n : suc (before_count c k ws) ≡ 1 + before_count c k ws = omega arith in n)
    at false e ih = none (before_count c k ws) refl (none_before c k w ws up.0 e) ih

abbrev pub at_first : ℕ → List Write → List Write
at_first c ws = filter (λ w. eqb c w.first) ws

pub count_at_is : (c : ℕ) (ws : List Write) → Ascend ws → length (at_first c ws) + before_count c 0 ws ≡ before_count (suc c) 0 ws
count_at_is c [] up = refl
count_at_is c (w ∷ ws) up = at (is_below w.first w.second c 0) (is_below w.first w.second (suc c) 0) (eqb c w.first) refl refl refl (count_at_is c ws up.1)
  where
    at : (x y z : Bool) → is_below w.first w.second c 0 ≡ x → is_below w.first w.second (suc c) 0 ≡ y → eqb c w.first ≡ z
        → length (at_first c ws) + before_count c 0 ws ≡ before_count (suc c) 0 ws
        → length (cond z (w ∷ at_first c ws) (at_first c ws)) + cond x (1 + before_count c 0 ws) 0 ≡ cond y (1 + before_count (suc c) 0 ws) 0
    at true true true h g e ih = absurd (let n : ⊥ = grind (arith, nat_tests) in n)
    at true true false h g e ih = omega arith
    at true false z h g e ih = absurd (let n : ⊥ = grind (arith, nat_tests) in n)
    at false true true h g e ih = omega (arith, none_before c 0 w ws up.0 h)
    at false true false h g e ih = absurd (let n : ⊥ = grind (arith, nat_tests) in n)
    at false false true h g e ih = absurd (let n : ⊥ = grind (arith, nat_tests) in n)
    at false false false h g e ih = omega (arith, none_before c 0 w ws up.0 h, none_before (suc c) 0 w ws up.0 g)

pub insert_is : (w : Write) (ws : List Write) → insert ws (before_count w.first w.second ws) w ≡ insert_write w ws
insert_is w [] = refl
insert_is w (v ∷ vs) = at (is_below v.first v.second w.first w.second) (insert_is w vs)
  where
    at : (b : Bool) → insert vs (before_count w.first w.second vs) w ≡ insert_write w vs → insert (v ∷ vs) (cond b (1 + before_count w.first w.second vs) 0) w ≡ cond b (v ∷ insert_write w vs) (w ∷ v ∷ vs)
    at true ih = ap (λ n. insert (v ∷ vs) n w) (let n : 1 + before_count w.first w.second vs ≡ suc (before_count w.first w.second vs) = omega arith in n) ∙ ap (λ l. v ∷ l) ih
    at false ih = refl

-- a first number of at most n, as a position below (n + 1, 0)

upto_below : (n : ℕ) (w : Write) → leb w.first n ≡ is_below w.first w.second (suc n) 0
upto_below n w = grind (arith, nat_tests)

pub parted_upto : (n : ℕ) (ws : List Write) → Ascend ws → IsPartitionedBy (λ w. leb w.first n) ws
parted_upto n ws up = λ i j d le lt h.
    upto_below n (get_or ws i d) ∙ parted (suc n) 0 ws up i j d le lt (sym (upto_below n (get_or ws j d)) ∙ h)

pub point_upto : (n : ℕ) (ws : List Write) (i : ℕ) → i ≤ length ws
    → IsPartitionPoint (λ w. leb w.first n ≡ true) (λ w. leb w.first n ≡ false) ws i → i ≡ before_count (suc n) 0 ws
point_upto n ws i le point =
    point_is (suc n) 0 ws i le (
      (λ k d low lt. sym (upto_below n (get_or ws k d)) ∙ point.0 k d low lt),
      (λ k d low lt. sym (upto_below n (get_or ws k d)) ∙ point.1 k d low lt),
    )

pub found_none : (c k : ℕ) (o : Option Write) → o ≡ None → false ≡ is_found c k o
found_none c k o e = sym (ap (is_found c k) e)

pub found_some : (c k : ℕ) (o : Option Write) (w : Write) (b : Bool) → o ≡ Some w → (b ≡ true → (c ≡ w.first) × (k ≡ w.second)) → ((c ≡ w.first) × (k ≡ w.second) → b ≡ true) → b ≡ is_found c k o
found_some c k o w b e to from = at b (eqb c w.first && eqb k w.second) refl refl ∙ sym (ap (is_found c k) e)
  where
    at : (x y : Bool) → b ≡ x → (eqb c w.first && eqb k w.second) ≡ y → b ≡ (eqb c w.first && eqb k w.second)
    at true true h g = h ∙ sym g
    at false false h g = h ∙ sym g
    at true false h g = let e = to h in let f = e.0 in let s = e.1 in absurd (let n : ⊥ = grind (arith, nat_tests) in n)
    at false true h g =
        let f : c ≡ w.first = grind (arith, nat_tests) in
        let s : k ≡ w.second = grind (arith, nat_tests) in
        absurd (let n : true ≡ false = sym (from (f, s)) ∙ h in let m : ⊥ = cc in m)

-- the last one below a floor is taken out

pub slice_get_at : (ws : List Write) (i : ℕ) (w : Write) → i < length ws → w ≡ get_or ws i w → slice_get ws i ≡ Some w
slice_get_at [] i w lt e = absurd (let h : ⊥ = omega arith in h)
slice_get_at (v ∷ vs) zero w lt e = ap Some (sym e)
slice_get_at (v ∷ vs) (suc i) w lt e = slice_get_at vs i w (omega arith) e

dropped : (f : ℕ) (w : Write) → is_below w.first w.second f 0 ≡ true → leb f w.first ≡ false
dropped f w h = grind (arith, nat_tests)

pub filter_removed : (f : ℕ) (ws : List Write) (i : ℕ) → i < before_count f 0 ws → not_below f (remove ws i) ≡ not_below f ws
filter_removed f [] i lt = absurd (let h : ⊥ = omega arith in h)
filter_removed f (w ∷ ws) i lt = at (is_below w.first w.second f 0) refl i lt (filter_removed f ws)
  where
    at : (b : Bool) → is_below w.first w.second f 0 ≡ b → (i : ℕ) → i < cond b (1 + before_count f 0 ws) 0
        → ((i : ℕ) → i < before_count f 0 ws → not_below f (remove ws i) ≡ not_below f ws) → not_below f (remove (w ∷ ws) i) ≡ not_below f (w ∷ ws)
    at true e zero lt ih = sym (ap (λ b. cond b (w ∷ not_below f ws) (not_below f ws)) (dropped f w e))
    at true e (suc i) lt ih = ap (λ l. cond (leb f w.first) (w ∷ l) l) (ih i (omega arith))
    at false e i lt ih = absurd (let h : ⊥ = omega arith in h)
