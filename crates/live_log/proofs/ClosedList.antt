-- Where all engines of a log appended as much as its list has, the list is their appends.
use Rattle.std.proofs.Common.{All, take, drop, set, get_or, ◌≡◌, ◌≢◌, ℕ, zero, suc, ◌+◌, ◌-◌, ◌≤◌, ◌<◌, ◌==◌, Bool, true, false, cond, List, [], ◌∷◌, ◌++◌, length, Some, slice_get, refl, sym, ap, ◌∙◌, subst, arith, eq-eqb}
use Rattle.std.proofs.lemmas.Bool.Decides.{nat_tests}
use mathlib.Core.List.{IsPrefix}
use Rattle.live_log.specs.Appended.{Appended}
use Rattle.live_log.specs.Engines.{records_in, Engine, EachAtIndex, AscendingBy}
use Rattle.live_log.specs.Closing.{EachByEngine, EachCounted, EachHasSeen, EachSound, EachHasAppends, NewEngines, new_engine, appends_in, NumberedFrom, HasAllAppends, IsLater, IsCaughtUp, Pointwise}
use Rattle.live_log.proofs.Lists.{prefix_whole, prefix_self, prefix_trans, all_tail}

-- each stands at its index in a list that begins at this index
abbrev EachSits : ℕ → List Appended → List (ℕ × Appended) → Type 0
EachSits from list [] = Unit {0}
EachSits from list (p ∷ ps) = (slice_get list (p.0 - from) ≡ Some p.1) × EachSits from list ps

sits : (list : List Appended) (appends : List (ℕ × Appended)) → EachAtIndex list appends → EachSits 0 list appends
sits list [] h = tt
sits list (p ∷ ps) h =
    let same : p.0 - 0 ≡ p.0 = omega arith in
    (ap (λ k. slice_get list k) same ∙ h.0, sits list ps h.1)

shifted : (who from : ℕ) (x : Appended) (list : List Appended) (appends : List (ℕ × Appended)) → AscendingBy who (from + 1) appends → EachSits from (x ∷ list) appends → EachSits (from + 1) list appends
shifted who from x list [] r s = tt
shifted who from x list (p ∷ ps) r s =
    let one : p.0 - from ≡ suc (p.0 - (from + 1)) = omega (arith, r.0) in
    (sym (ap (λ k. slice_get (x ∷ list) k) one) ∙ s.0, shifted_on p.0 from x list ps r.0 r.2 s.1)
  where
    shifted_on : (at from : ℕ) (x : Appended) (list : List Appended) (ps : List (ℕ × Appended)) → from + 1 ≤ at → AscendingBy who (at + 1) ps → EachSits from (x ∷ list) ps → EachSits (from + 1) list ps
    shifted_on at from x list [] le r s = tt
    shifted_on at from x list (q ∷ qs) le r s =
        let one : q.0 - from ≡ suc (q.0 - (from + 1)) = omega (arith, r.0, le) in
        (sym (ap (λ k. slice_get (x ∷ list) k) one) ∙ s.0, shifted_on q.0 from x list qs (omega (arith, r.0, le)) r.2 s.1)

none_left : (xs : List (ℕ × Appended)) → length xs ≤ 0 → xs ≡ []
none_left [] h = refl
none_left (x ∷ xs) h = absurd (omega arith)

-- the appends are at most the engine's records in the list, and where they are as many, they are those
abbrev Counted : ℕ → ℕ → List Appended → List (ℕ × Appended) → Type 0
Counted who from list appends = (length appends ≤ length (appends_in who from list)) × (length (appends_in who from list) ≤ length appends → appends_in who from list ≡ appends)

abbrev Rest : ℕ → ℕ → List Appended → Type 0
Rest who from list = (appends : List (ℕ × Appended)) → AscendingBy who from appends → EachSits from list appends → Counted who from list appends

-- the first append stands behind the first record
counted_later : (who from : ℕ) (x : Appended) (list : List Appended) (p : ℕ × Appended) (ps : List (ℕ × Appended)) → AscendingBy who from (p ∷ ps) → EachSits from (x ∷ list) (p ∷ ps) → Rest who (from + 1) list → from + 1 ≤ p.0
    → (b : Bool) → (x.0 == who) ≡ b → Counted who from (x ∷ list) (p ∷ ps)
counted_later who from x list p ps r s go le true is =
    let r' : AscendingBy who (from + 1) (p ∷ ps) = (le, r.1, r.2) in
    let c = go (p ∷ ps) r' (shifted who from x list (p ∷ ps) r' s) in
    rw is (omega (arith, c.0), λ h. absurd (omega (arith, c.0, h)))
counted_later who from x list p ps r s go le false is =
    let r' : AscendingBy who (from + 1) (p ∷ ps) = (le, r.1, r.2) in
    rw is (go (p ∷ ps) r' (shifted who from x list (p ∷ ps) r' s))

-- the first append is the first record
counted_now : (who from : ℕ) (x : Appended) (list : List Appended) (p : ℕ × Appended) (ps : List (ℕ × Appended)) → AscendingBy who from (p ∷ ps) → EachSits from (x ∷ list) (p ∷ ps) → Rest who (from + 1) list → p.0 ≡ from
    → Counted who from (x ∷ list) (p ∷ ps)
counted_now who from x list p ps r s go at =
    let none : p.0 - from ≡ 0 = omega (arith, at) in
    let some : Some x ≡ Some p.1 = sym (ap (λ k. slice_get (x ∷ list) k) none) ∙ s.0 in
    let same : x ≡ p.1 = cc some in
    let appends : (x.0 == who) ≡ true = eq-eqb x.0 who (ap (λ y. y.0) same ∙ r.1) in
    let r' : AscendingBy who (from + 1) ps = subst (λ (k : ℕ). AscendingBy who (k + 1) ps) at r.2 in
    let c = go ps r' (shifted who from x list ps r' s.1) in
    rw appends (omega (arith, c.0), λ h. let tail = c.1 (omega (arith, h)) in λ i. (sym at i, same i) ∷ tail i)

counted_first : (who from : ℕ) (x : Appended) (list : List Appended) (p : ℕ × Appended) (ps : List (ℕ × Appended)) → AscendingBy who from (p ∷ ps) → EachSits from (x ∷ list) (p ∷ ps) → Rest who (from + 1) list
    → (b : Bool) → (p.0 == from) ≡ b → Counted who from (x ∷ list) (p ∷ ps)
counted_first who from x list p ps r s go true is = counted_now who from x list p ps r s go (grind (arith, nat_tests, is))
counted_first who from x list p ps r s go false is =
    let apart : p.0 ≢ from = grind (arith, nat_tests, is) in
    counted_later who from x list p ps r s go (omega (arith, r.0, apart)) (x.0 == who) refl

pub counts : (who from : ℕ) (list : List Appended) (appends : List (ℕ × Appended)) → AscendingBy who from appends → EachSits from list appends → Counted who from list appends
counts who from [] [] r s = (omega arith, λ h. refl)
counts who from [] (p ∷ ps) r s = absurd (cc (s.0))
counts who from (x ∷ list) [] r s = (omega arith, λ h. none_left (appends_in who from (x ∷ list)) h)
counts who from (x ∷ list) (p ∷ ps) r s = counted_first who from x list p ps r s (λ appends r' s'. counts who (from + 1) list appends r' s') (p.0 == from) refl

-- each engine's appends rise, and stand in the list
abbrev pub EachOwn : List Appended → List Engine → Type 0
EachOwn list [] = Unit {0}
EachOwn list (e ∷ es) = AscendingBy e.number 0 e.appends × EachAtIndex list e.appends × EachOwn list es

own_of : (list : List Appended) (es : List Engine) → EachSound es → EachHasSeen list es → EachOwn list es
own_of list [] s l = tt
own_of list (e ∷ es) s l = (s.0, rw l.1 at s.1, own_of list es s.2 l.2)

pairs_are : (who from : ℕ) (list : List Appended) → length (appends_in who from list) ≡ records_in who list
pairs_are who from [] = refl
pairs_are who from (x ∷ list) = by_test (x.0 == who) (pairs_are who (from + 1) list)
  where
    by_test : (b : Bool) → length (appends_in who (from + 1) list) ≡ records_in who list → length (cond b ((from, x) ∷ appends_in who (from + 1) list) (appends_in who (from + 1) list)) ≡ cond b 1 0 + records_in who list
    by_test true h = omega (arith, h)
    by_test false h = omega (arith, h)

all_of : (list : List Appended) (es : List Engine) → EachOwn list es → EachCounted list es → EachHasAppends list es
all_of list [] o h = tt
all_of list (e ∷ es) o h = ((counts e.number 0 list e.appends o.0 (sits list e.appends o.1)).1 (omega (arith, h.0, pairs_are e.number 0 list)), all_of list es o.2 h.1)

pub settles : (list : List Appended) (es : List Engine) → EachSound es → EachHasSeen list es → EachCounted list es → EachHasAppends list es
settles list es s l c = all_of list es (own_of list es s l) c

-- an engine that was caught, and is not ahead, has seen just the list
like_one : (list : List Appended) (e f : Engine) → IsCaughtUp list e f → f.position ≤ length list → f.seen ≡ list
like_one list e f c le = sym (prefix_whole list f.seen c.1 (omega (arith, c.2, le)))

pub likes : (list : List Appended) (es fs : List Engine) → Pointwise (IsCaughtUp list) es fs → All (λ (f : Engine). f.position ≤ length list) fs → EachHasSeen list fs
likes list [] [] c a = tt
likes list [] (f ∷ fs) c a = absurd c
likes list (e ∷ es) [] c a = absurd c
likes list (e ∷ es) (f ∷ fs) c a = (like_one list e f c.0 (a 0 f (omega arith)), c.0.3 ∙ like_one list e f c.0 (a 0 f (omega arith)), likes list es fs c.1 (all_tail (λ (f : Engine). f.position ≤ length list) (f ∷ fs) fs f refl a))

pub numbered_later : (from : ℕ) (es fs : List Engine) → Pointwise IsLater es fs → NumberedFrom from es → NumberedFrom from fs
numbered_later from [] [] l n = tt
numbered_later from [] (f ∷ fs) l n = absurd l
numbered_later from (e ∷ es) [] l n = absurd l
numbered_later from (e ∷ es) (f ∷ fs) l n = (l.0.0 ∙ n.0, numbered_later (from + 1) es fs l.1 n.1)

pub length_pointwise : (R : Engine → Engine → Type 0) (es fs : List Engine) → Pointwise R es fs → length fs ≡ length es
length_pointwise R [] [] l = refl
length_pointwise R [] (f ∷ fs) l = absurd l
length_pointwise R (e ∷ es) [] l = absurd l
length_pointwise R (e ∷ es) (f ∷ fs) l = ap suc (length_pointwise R es fs l.1)

pub wholes : (list : List Appended) (es fs : List Engine) → Pointwise IsLater es fs → EachHasSeen list fs → EachHasAppends list fs → HasAllAppends list es
wholes list [] [] l k p = tt
wholes list [] (f ∷ fs) l k p = absurd l
wholes list (e ∷ es) [] l k p = absurd l
wholes list (e ∷ es) (f ∷ fs) l k p = (
  ap (λ n. appends_in n 0 list) (sym l.0.0) ∙ p.0 ∙ l.0.1,
  subst (λ (x : List Appended). IsPrefix e.seen x) k.0 l.0.2,
  wholes list es fs l.1 k.2 p.1,
)

later_self : (e : Engine) → IsLater e e
later_self e = (refl, refl, prefix_self e.seen, omega arith)

later_all : (es : List Engine) → Pointwise IsLater es es
later_all [] = tt
later_all (e ∷ es) = (later_self e, later_all es)

-- one more is caught
pub caught_more : (list : List Appended) (es fs : List Engine) (at : ℕ) (d f : Engine) → Pointwise (IsCaughtUp list) (take at es) (take at fs) → drop at fs ≡ drop at es → at < length fs → IsCaughtUp list (get_or fs at d) f
    → Pointwise (IsCaughtUp list) (take (suc at) es) (take (suc at) (set fs at f)) × (drop (suc at) (set fs at f) ≡ drop (suc at) es)
caught_more list es [] at d f c same lt new = absurd (omega (arith, lt))
caught_more list [] (g ∷ fs) zero d f c same lt new = absurd (cc same)
caught_more list [] (g ∷ fs) (suc at) d f c same lt new = absurd c
caught_more list (e ∷ es) (g ∷ fs) zero d f c same lt new =
    let here : g ≡ e = cc same in
    ((subst (λ (x : Engine). IsCaughtUp list x f) here new, tt), cc same)
caught_more list (e ∷ es) (g ∷ fs) (suc at) d f c same lt new =
    let rest = caught_more list es fs at d f c.1 same (omega (arith, lt)) new in
    ((c.0, rest.0), rest.1)

-- where one is not caught, all are as they were or later
pub later_mixed : (list : List Appended) (es fs : List Engine) (at : ℕ) (d f : Engine) → Pointwise (IsCaughtUp list) (take at es) (take at fs) → drop at fs ≡ drop at es → at < length fs → IsLater (get_or fs at d) f
    → Pointwise IsLater es (set fs at f)
later_mixed list es [] at d f c same lt new = absurd (omega (arith, lt))
later_mixed list [] (g ∷ fs) zero d f c same lt new = absurd (cc same)
later_mixed list [] (g ∷ fs) (suc at) d f c same lt new = absurd c
later_mixed list (e ∷ es) (g ∷ fs) zero d f c same lt new =
    let here : g ≡ e = cc same in
    let rest : fs ≡ es = cc same in
    (subst (λ (x : Engine). IsLater x f) here new, subst (λ (x : List Engine). Pointwise IsLater es x) (sym rest) (later_all es))
later_mixed list (e ∷ es) (g ∷ fs) (suc at) d f c same lt new = (c.0.0, later_mixed list es fs at d f c.1 same (omega (arith, lt)) new)

pub later_caught : (list : List Appended) (es fs : List Engine) → Pointwise (IsCaughtUp list) es fs → Pointwise IsLater es fs
later_caught list [] [] c = tt
later_caught list [] (f ∷ fs) c = absurd c
later_caught list (e ∷ es) [] c = absurd c
later_caught list (e ∷ es) (f ∷ fs) c = (c.0.0, later_caught list es fs c.1)

pub caught_all : (list : List Appended) (es fs : List Engine) (n : ℕ) → n ≡ length es → n ≡ length fs → Pointwise (IsCaughtUp list) (take n es) (take n fs) → Pointwise (IsCaughtUp list) es fs
caught_all list [] [] n a b c = tt
caught_all list [] (f ∷ fs) n a b c = absurd (omega (arith, a, b))
caught_all list (e ∷ es) [] n a b c = absurd (omega (arith, a, b))
caught_all list (e ∷ es) (f ∷ fs) zero a b c = absurd (omega (arith, a))
caught_all list (e ∷ es) (f ∷ fs) (suc n) a b c = (c.0, caught_all list es fs n (omega (arith, a)) (omega (arith, b)) c.1)

pub caught_one : (e l f : Engine) (list : List Appended) → l ≡ record e { known = l.known } → IsPrefix list l.known → (f.number ≡ l.number) × (f.appends ≡ l.appends) → IsPrefix l.seen f.seen × (l.position ≤ f.position) × (f.position ≤ length f.seen) → IsPrefix l.known f.seen → f.position ≡ length f.seen → f.known ≡ f.seen → IsCaughtUp list e f
caught_one e l f list is learned same grows known at last =
    let seen' : IsPrefix e.seen f.seen = subst (λ (z : Engine). IsPrefix z.seen f.seen) is grows.0 in
    let at' : e.position ≤ f.position = subst (λ (z : Engine). z.position ≤ f.position) is grows.1 in
    ((same.0 ∙ ap (λ (z : Engine). z.number) is, same.1 ∙ ap (λ (z : Engine). z.appends) is, seen', at'), prefix_trans list l.known f.seen learned known, at, last)

pub counted_more : (list : List Appended) (es : List Engine) (e : Engine) → EachCounted list es → length e.appends ≡ records_in e.number list → EachCounted list (es ++ e ∷ [])
counted_more list [] e c is = (is, tt)
counted_more list (f ∷ es) e c is = (c.0, counted_more list es e c.1 is)

pub sound_more : (es : List Engine) (e : Engine) → EachSound es → AscendingBy e.number 0 e.appends → EachAtIndex e.known e.appends → EachSound (es ++ e ∷ [])
sound_more [] e s r t = (r, t, tt)
sound_more (f ∷ es) e s r t = (s.0, s.1, sound_more es e s.2 r t)

pub new_engines_numbered : (from : ℕ) (es : List Engine) → NewEngines from es → NumberedFrom from es
new_engines_numbered from [] b = tt
new_engines_numbered from (e ∷ es) b = (ap (λ (z : Engine). z.number) b.0, new_engines_numbered (from + 1) es b.1)

pub set_same : (es : List Engine) (at : ℕ) (d : Engine) → at < length es → set es at (get_or es at d) ≡ es
set_same [] at d lt = refl
set_same (e ∷ es) zero d lt = refl
set_same (e ∷ es) (suc at) d lt = ap (λ l. e ∷ l) (set_same es at d (omega (arith, lt)))

pub new_engines_more : (from n : ℕ) (es : List Engine) → NewEngines from es → n ≡ from + length es → NewEngines from (es ++ new_engine n ∷ [])
new_engines_more from n [] b is = (ap new_engine (omega (arith, is)), tt)
new_engines_more from n (e ∷ es) b is = (b.0, new_engines_more (from + 1) n es b.1 (omega (arith, is)))

pub each_by_more : (engines : ℕ) (xs : List Appended) (x : Appended) → EachByEngine engines xs → 1 ≤ x.0 → x.0 ≤ engines → EachByEngine engines (xs ++ x ∷ [])
each_by_more engines [] x b low high = (low, high, tt)
each_by_more engines (y ∷ xs) x b low high = (b.0, b.1, each_by_more engines xs x b.2 low high)
