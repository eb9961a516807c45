-- The last of several writes.
use Rattle.std.proofs.Common.{◌≡◌, ℕ, ◌<◌, ◌≤◌, leb, Bool, true, false, cond, List, [], ◌∷◌, ◌++◌, Option, Some, None, refl, sym, ap, ◌∙◌, arith}
use Rattle.std.proofs.lemmas.Bool.Decides.{nat_tests}
use Rattle.boki_model.specs.Writes.{Write, is_below, later_write, last_write_below}
use Rattle.obj_store.specs.Ascending.{not_below}
use Rattle.obj_store.specs.Kept.{last_of_two, insert_write, sort_writes}
use Rattle.obj_store.proofs.Positions.{below_trans, above_trans, not_both, one_tie}

pub last_none : (a : Option Write) → last_of_two a None ≡ a
last_none None = refl
last_none (Some x) = refl

pub last_assoc : (a b c : Option Write) → last_of_two (last_of_two a b) c ≡ last_of_two a (last_of_two b c)
last_assoc None b c = refl
last_assoc (Some x) None c = refl
last_assoc (Some x) (Some y) None = last_none (later_write x (Some y))
last_assoc (Some x) (Some y) (Some z) = at (is_below x.first x.second y.first y.second) (is_below y.first y.second z.first z.second) refl refl
  where
    at : (p q : Bool) → is_below x.first x.second y.first y.second ≡ p → is_below y.first y.second z.first z.second ≡ q
        → last_of_two (cond p (Some y) (Some x)) (Some z) ≡ later_write x (cond q (Some z) (Some y))
    at true true h g =
        ap (λ b. cond b (Some z) (Some y)) g
        ∙ sym (ap (λ b. cond b (Some z) (Some x)) (below_trans x.first x.second y.first y.second z.first z.second h g))
    at true false h g = ap (λ b. cond b (Some z) (Some y)) g ∙ sym (ap (λ b. cond b (Some y) (Some x)) h)
    at false true h g = refl
    at false false h g =
        ap (λ b. cond b (Some z) (Some x)) (above_trans x.first x.second y.first y.second z.first z.second h g)
        ∙ sym (ap (λ b. cond b (Some y) (Some x)) h)

-- two writes do not stand at one position
abbrev pub Apart : Option Write → Option Write → Type 0
Apart None b = Unit {0}
Apart (Some x) None = Unit {0}
Apart (Some x) (Some y) = (x.first ≡ y.first) → (x.second ≡ y.second) → ⊥

pub last_swap : (a b : Option Write) → Apart a b → last_of_two a b ≡ last_of_two b a
last_swap None b h = sym (last_none b)
last_swap (Some x) None h = refl
last_swap (Some x) (Some y) h = at (is_below x.first x.second y.first y.second) (is_below y.first y.second x.first x.second) refl refl
  where
    at : (p q : Bool) → is_below x.first x.second y.first y.second ≡ p → is_below y.first y.second x.first x.second ≡ q
        → cond p (Some y) (Some x) ≡ cond q (Some x) (Some y)
    at true true e g = absurd (let n : true ≡ false = sym g ∙ not_both x.first x.second y.first y.second e in let m : ⊥ = cc in m)
    at true false e g = refl
    at false true e g = refl
    at false false e g = let t = one_tie x.first x.second y.first y.second e g in absurd (h t.0 t.1)

pub last_past : (a b c : Option Write) → Apart a b → last_of_two a (last_of_two b c) ≡ last_of_two b (last_of_two a c)
last_past a b c h = sym (last_assoc a b c) ∙ ap (λ (o : Option Write). last_of_two o c) (last_swap a b h) ∙ last_assoc b a c

-- the last of two lists

pub last_append : (c k : ℕ) (xs ys : List Write) → last_write_below c k (xs ++ ys) ≡ last_of_two (last_write_below c k xs) (last_write_below c k ys)
last_append c k [] ys = refl
last_append c k (x ∷ xs) ys = at (is_below x.first x.second c k) (last_append c k xs ys)
  where
    at : (b : Bool) → last_write_below c k (xs ++ ys) ≡ last_of_two (last_write_below c k xs) (last_write_below c k ys)
        → cond b (later_write x (last_write_below c k (xs ++ ys))) (last_write_below c k (xs ++ ys)) ≡ last_of_two (cond b (later_write x (last_write_below c k xs)) (last_write_below c k xs)) (last_write_below c k ys)
    at true ih = ap (later_write x) ih ∙ sym (last_assoc (Some x) (last_write_below c k xs) (last_write_below c k ys))
    at false ih = ih

-- a fact of a write, where there is one
abbrev pub If : Option Write → (Write → Type 0) → Type 0
If None P = Unit {0}
If (Some w) P = P w

abbrev pub Each : (Write → Type 0) → List Write → Type 0
Each P [] = Unit {0}
Each P (w ∷ ws) = P w × Each P ws

pub later_has : (P : Write → Type 0) (x : Write) (o : Option Write) → P x → If o P → If (later_write x o) P
later_has P x None h g = h
later_has P x (Some y) h g = at (is_below x.first x.second y.first y.second)
  where
    at : (b : Bool) → If (cond b (Some y) (Some x)) P
    at true = g
    at false = h

pub last_has : (P : Write → Type 0) (a b : Option Write) → If a P → If b P → If (last_of_two a b) P
last_has P None b h g = g
last_has P (Some x) b h g = later_has P x b h g

pub below_has : (P : Write → Type 0) (c k : ℕ) (ws : List Write) → ((w : Write) → is_below w.first w.second c k ≡ true → P w) → If (last_write_below c k ws) P
below_has P c k [] h = tt
below_has P c k (w ∷ ws) h = at (is_below w.first w.second c k) refl (below_has P c k ws h)
  where
    at : (b : Bool) → is_below w.first w.second c k ≡ b → If (last_write_below c k ws) P → If (cond b (later_write w (last_write_below c k ws)) (last_write_below c k ws)) P
    at true e ih = later_has P w (last_write_below c k ws) (h w e) ih
    at false e ih = ih

pub each_has : (P : Write → Type 0) (c k : ℕ) (ws : List Write) → Each P ws → If (last_write_below c k ws) P
each_has P c k [] h = tt
each_has P c k (w ∷ ws) h = at (is_below w.first w.second c k) (each_has P c k ws h.1)
  where
    at : (b : Bool) → If (last_write_below c k ws) P → If (cond b (later_write w (last_write_below c k ws)) (last_write_below c k ws)) P
    at true ih = later_has P w (last_write_below c k ws) h.0 ih
    at false ih = ih

-- a floor: what stands below it, and what doesn't

pub each_from : (f : ℕ) (ws : List Write) → Each (λ w. f ≤ w.first) (not_below f ws)
each_from f [] = tt
each_from f (w ∷ ws) = at (leb f w.first) refl (each_from f ws)
  where
    at : (b : Bool) → leb f w.first ≡ b → Each (λ v. f ≤ v.first) (not_below f ws) → Each (λ v. f ≤ v.first) (cond b (w ∷ not_below f ws) (not_below f ws))
    at true e ih = (grind (arith, nat_tests), ih)
    at false e ih = ih

pub below_floor : (f : ℕ) (ws : List Write) → If (last_write_below f 0 ws) (λ w. w.first < f)
below_floor f ws = below_has (λ w. w.first < f) f 0 ws (λ w e. let h : w.first < f = grind (arith, nat_tests) in h)

pub apart_from : (f : ℕ) (a b : Option Write) → If a (λ w. f ≤ w.first) → If b (λ w. w.first < f) → Apart a b
apart_from f None b h g = tt
apart_from f (Some x) None h g = tt
apart_from f (Some x) (Some y) h g = λ e s. absurd (let n : ⊥ = omega arith in n)

pub last_split : (f c k : ℕ) (ws : List Write) → f ≤ c → last_write_below c k ws ≡ last_of_two (last_write_below c k (not_below f ws)) (last_write_below f 0 ws)
last_split f c k [] le = refl
last_split f c k (x ∷ xs) le = at (leb f x.first) (is_below x.first x.second c k) (is_below x.first x.second f 0) refl refl refl (last_split f c k xs le)
  where
    at : (t p q : Bool) → leb f x.first ≡ t → is_below x.first x.second c k ≡ p → is_below x.first x.second f 0 ≡ q
        → last_write_below c k xs ≡ last_of_two (last_write_below c k (not_below f xs)) (last_write_below f 0 xs)
        → cond p (later_write x (last_write_below c k xs)) (last_write_below c k xs)
        ≡ last_of_two (last_write_below c k (cond t (x ∷ not_below f xs) (not_below f xs))) (cond q (later_write x (last_write_below f 0 xs)) (last_write_below f 0 xs))
    at true p true h g e ih = absurd (let n : ⊥ = grind (arith, nat_tests) in n)
    at true true false h g e ih =
        ap (later_write x) ih ∙ sym (last_assoc (Some x) (last_write_below c k (not_below f xs)) (last_write_below f 0 xs))
        ∙ ap (λ b. last_of_two (cond b (later_write x (last_write_below c k (not_below f xs))) (last_write_below c k (not_below f xs))) (last_write_below f 0 xs)) (sym g)
    at true false false h g e ih =
        ih ∙ ap (λ b. last_of_two (cond b (later_write x (last_write_below c k (not_below f xs))) (last_write_below c k (not_below f xs))) (last_write_below f 0 xs)) (sym g)
    at false p false h g e ih = absurd (let n : ⊥ = grind (arith, nat_tests) in n)
    at false false true h g e ih = absurd (let n : ⊥ = grind (arith, nat_tests) in n)
    at false true true h g e ih =
        ap (later_write x) ih
        ∙ sym (last_past (last_write_below c k (not_below f xs)) (Some x) (last_write_below f 0 xs)
        (apart_from f (last_write_below c k (not_below f xs)) (Some x) (each_has (λ w. f ≤ w.first) c k (not_below f xs) (each_from f xs)) (let lt : x.first < f = grind (arith, nat_tests) in lt)))

-- writes put in order

pub last_put_in : (c k : ℕ) (w : Write) (ws : List Write) → last_write_below c k (insert_write w ws) ≡ last_write_below c k (w ∷ ws)
last_put_in c k w [] = refl
last_put_in c k w (v ∷ vs) = at (is_below v.first v.second w.first w.second) refl (last_put_in c k w vs)
  where
    both : (p q : Bool) → is_below v.first v.second w.first w.second ≡ true
        → cond p (later_write v (cond q (later_write w (last_write_below c k vs)) (last_write_below c k vs))) (cond q (later_write w (last_write_below c k vs)) (last_write_below c k vs))
        ≡ cond q (later_write w (cond p (later_write v (last_write_below c k vs)) (last_write_below c k vs))) (cond p (later_write v (last_write_below c k vs)) (last_write_below c k vs))
    both true true e = last_past (Some v) (Some w) (last_write_below c k vs) (λ h g. absurd (let n : ⊥ = grind (arith, nat_tests) in n))
    both true false e = refl
    both false true e = refl
    both false false e = refl

    at : (b : Bool) → is_below v.first v.second w.first w.second ≡ b → last_write_below c k (insert_write w vs) ≡ last_write_below c k (w ∷ vs)
        → last_write_below c k (cond b (v ∷ insert_write w vs) (w ∷ v ∷ vs)) ≡ last_write_below c k (w ∷ v ∷ vs)
    at true e ih =
        ap (λ (o : Option Write). cond (is_below v.first v.second c k) (later_write v o) o) ih
        ∙ both (is_below v.first v.second c k) (is_below w.first w.second c k) e
    at false e ih = refl

pub last_in_order : (c k : ℕ) (ws : List Write) → last_write_below c k (sort_writes ws) ≡ last_write_below c k ws
last_in_order c k [] = refl
last_in_order c k (w ∷ ws) =
    last_put_in c k w (sort_writes ws)
    ∙ ap (λ (o : Option Write). cond (is_below w.first w.second c k) (later_write w o) o) (last_in_order c k ws)
