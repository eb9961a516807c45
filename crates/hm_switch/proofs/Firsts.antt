-- The first Inits of open invocations tell what all of them tell.
use Rattle.std.proofs.Common.{◌≡◌, ◌⊎◌, inl, inr, ℕ, ◌<◌, ◌≤◌, Bool, true, false, cond, ltb, ◌&&◌, ◌||◌, not, List, [], ◌∷◌, Option, Some, None, refl, sym, ap, subst, ◌∙◌, arith}
use Rattle.std.specs.Prelude.{bytes_eq, is_some}
use Rattle.std.specs.Option.{option_or}
use Rattle.std.proofs.lemmas.Bool.{lt-ltb, ltb-true, ltb-false}
use Rattle.std.specs.Cmp.Lexicographic.{nat_list_cmp_total}
use Rattle.std.proofs.lemmas.Cmp.{upto, tied_itself}
use Rattle.std.proofs.lemmas.Map.Text.{is_eq-slice_cmp}
use Rattle.std.specs.declared.cmp.Ordering.{Ordering}
use Rattle.std.specs.declared.cmp.Ordering.TheVariants.{Less, Equal, Greater}
use Rattle.std.specs.Ordering.{is_lt, is_eq, is_gt, ordering_reverse}
use Rattle.boki_types.specs.declared.body.Body.{Body}
use Rattle.boki_model.specs.Live.{Live}
use Rattle.boki_model.specs.LogLaws.{FallBelow}
use Rattle.boki_model.specs.Maps.{key_order, before}
use Rattle.boki_model.specs.Writes.{prepend_some}
use Rattle.boki_model.specs.Modes.{init_path, result_of, lesser_path}
use Rattle.exactly_once.proofs.Log.MapChanges.{keys_cases}
use Rattle.log_folds.specs.Opens.{OpenInvocation, if_open, open_in, none_open_below, least_open_below, first_open_seqnum}
use Rattle.hm_switch.specs.Lives.{has_path, first_inits}

-- their seqnums fall from the newest on
abbrev pub FallInits : ℕ → List OpenInvocation → Type 0
FallInits n [] = Unit {0}
FallInits n (o ∷ os) = (o.seq < n) × FallInits o.seq os

pub lower_inits : (m n : ℕ) (os : List OpenInvocation) → m ≤ n → FallInits m os → FallInits n os
lower_inits m n [] le fall = tt
lower_inits m n (o ∷ os) le fall = ((let lt = fall.0 in omega arith), fall.1)

pub inits_fall : (n : ℕ) (records xs : List (Live Body)) → FallBelow n xs → FallInits n (open_in records xs)
inits_fall n records [] fall = tt
inits_fall n records (x ∷ xs) fall = at (init_path x.holds) (inits_fall x.seq records xs fall.2)
  where
    lt : x.seq < n
    lt = fall.1

    at : (o : Option (List ℕ)) → FallInits x.seq (open_in records xs) → FallInits n (prepend_some (if_open records x.seq o) (open_in records xs))
    at None ih = lower_inits x.seq n (open_in records xs) (let l = lt in omega arith) ih
    at (Some p) ih = by (is_some (result_of p records))
      where
        by : (t : Bool) → FallInits n (prepend_some (cond t None (Some (record { seq = x.seq; path = p }))) (open_in records xs))
        by true = lower_inits x.seq n (open_in records xs) (let l = lt in omega arith) ih
        by false = (lt, ih)

-- where none began below n, a newer one didn't either
newer_too : (n m : ℕ) (p : List ℕ) (os : List OpenInvocation) → has_path p os ≡ true → FallInits m os → (not (ltb m n) && none_open_below n os) ≡ none_open_below n os
newer_too n m p [] has fall = cc
newer_too n m p (o ∷ os) has fall = at (ltb m n) (ltb o.seq n) refl refl
  where
    at : (t u : Bool) → ltb m n ≡ t → ltb o.seq n ≡ u → (not t && (not u && none_open_below n os)) ≡ (not u && none_open_below n os)
    at false u e f = refl
    at true true e f = refl
    at true false e f = absurd (let lt = fall.0 in let a = ltb-true m n e in let b = ltb-false o.seq n f in let c : ⊥ = omega arith in c)

pub none_by_first : (n m : ℕ) (os : List OpenInvocation) → FallInits m os → none_open_below n os ≡ none_open_below n (first_inits os)
none_by_first n m [] fall = refl
none_by_first n m (o ∷ os) fall = at (has_path o.path os) refl (none_by_first n o.seq os fall.1)
  where
    at : (t : Bool) → has_path o.path os ≡ t → none_open_below n os ≡ none_open_below n (first_inits os)
        → (not (ltb o.seq n) && none_open_below n os) ≡ none_open_below n (cond t (first_inits os) (o ∷ first_inits os))
    at true e ih = newer_too n o.seq o.path os e fall.1 ∙ ih
    at false e ih = ap (λ b. not (ltb o.seq n) && b) ih

-- the first of all is the first of the first ones
some_first : (p : List ℕ) (os : List OpenInvocation) → has_path p os ≡ true → (later : ℕ) → option_or (first_open_seqnum os) (Some later) ≡ first_open_seqnum os
some_first p [] has later = cc
some_first p (o ∷ os) has later = at (first_open_seqnum os)
  where
    at : (f : Option ℕ) → option_or (option_or f (Some o.seq)) (Some later) ≡ option_or f (Some o.seq)
    at None = refl
    at (Some n) = refl

pub first_by_first : (os : List OpenInvocation) → first_open_seqnum os ≡ first_open_seqnum (first_inits os)
first_by_first [] = refl
first_by_first (o ∷ os) = at (has_path o.path os) refl (first_by_first os)
  where
    at : (t : Bool) → has_path o.path os ≡ t → first_open_seqnum os ≡ first_open_seqnum (first_inits os)
        → option_or (first_open_seqnum os) (Some o.seq) ≡ first_open_seqnum (cond t (first_inits os) (o ∷ first_inits os))
    at true e ih = some_first o.path os e o.seq ∙ ih
    at false e ih = ap (λ f. option_or f (Some o.seq)) ih

-- none open below n iff the first isn't
abbrev pub from_on : ℕ → Option ℕ → Bool
from_on n None = true
from_on n (Some seq) = not (ltb seq n)

pub none_by_seqnum : (n m : ℕ) (os : List OpenInvocation) → FallInits m os → none_open_below n os ≡ from_on n (first_open_seqnum os)
none_by_seqnum n m [] fall = refl
none_by_seqnum n m (o ∷ os) fall = at (first_open_seqnum os) (none_by_seqnum n o.seq os fall.1) (first_below o.seq os fall.1)
  where
    FirstBelow : ℕ → Option ℕ → Type 0
    FirstBelow k None = Unit {0}
    FirstBelow k (Some f) = f < k

    first_below : (k : ℕ) (ps : List OpenInvocation) → FallInits k ps → FirstBelow k (first_open_seqnum ps)
    first_below k [] fall = tt
    first_below k (p ∷ ps) fall = by (first_open_seqnum ps) (first_below p.seq ps fall.1)
      where
        by : (f : Option ℕ) → FirstBelow p.seq f → FirstBelow k (option_or f (Some p.seq))
        by None below = fall.0
        by (Some f) below = (let lt = fall.0 in omega arith)

    at : (f : Option ℕ) → none_open_below n os ≡ from_on n f → FirstBelow o.seq f → (not (ltb o.seq n) && none_open_below n os) ≡ from_on n (option_or f (Some o.seq))
    at None ih below = ap (λ b. not (ltb o.seq n) && b) ih ∙ and_true (not (ltb o.seq n))
      where
        and_true : (t : Bool) → (t && true) ≡ t
        and_true true = refl
        and_true false = refl
    at (Some f) ih below = ap (λ b. not (ltb o.seq n) && b) ih ∙ by (ltb o.seq n) (ltb f n) refl refl
      where
        by : (t u : Bool) → ltb o.seq n ≡ t → ltb f n ≡ u → (not t && not u) ≡ not u
        by false u e g = refl
        by true true e g = refl
        by true false e g = absurd (let a = ltb-true o.seq n e in let b = ltb-false f n g in let c : ⊥ = omega arith in c)

-- The least path. A path that stands among them twice makes no other least.
abbrev AtMost : List ℕ → List ℕ → Type 0
AtMost q p = is_gt (key_order q p) ≡ false

keeps_lesser : (p q : List ℕ) → AtMost q p → lesser_path (Some p) (Some q) ≡ Some q
keeps_lesser p q le = at (key_order q p) refl le
  where
    equal : key_order q p ≡ Equal → p ≡ q
    equal e = by (keys_cases q p)
      where
        by : (q ≡ p) ⊎ (bytes_eq q p ≡ false) → p ≡ q
        by (inl s) = sym s
        by (inr d) = absurd (let t = ap is_eq (sym e) ∙ is_eq-slice_cmp q p ∙ d in let f : ⊥ = cc in f)

    at : (o : Ordering) → key_order q p ≡ o → is_gt o ≡ false → cond (is_lt o) (Some q) (Some p) ≡ Some q
    at Less e le = refl
    at Equal e le = ap Some (equal e)
    at Greater e le = cc

itself : (p : List ℕ) → AtMost p p
itself p = ap is_gt (tied_itself nat_list_cmp_total p)

-- the lesser of two is at most either
other_at_most : (p r : List ℕ) → before r p ≡ false → AtMost p r
other_at_most p r ge = ap is_gt (nat_list_cmp_total.antisymm p r) ∙ at (key_order r p) ge
  where
    at : (o : Ordering) → is_lt o ≡ false → is_gt (ordering_reverse o) ≡ false
    at Less ge = cc
    at Equal ge = refl
    at Greater ge = refl

less_at_most : (p r : List ℕ) → before r p ≡ true → AtMost r p
less_at_most p r lt = at (key_order r p) lt
  where
    at : (o : Ordering) → is_lt o ≡ true → is_gt o ≡ false
    at Less lt = refl
    at Equal lt = cc
    at Greater lt = cc

record LeastHas (least : Option (List ℕ)) (p : List ℕ) : Type 0 where
  path : List ℕ
  is : least ≡ Some path
  most : AtMost path p

least_has : (n : ℕ) (p : List ℕ) (os : List OpenInvocation) → has_path p os ≡ true → FallInits n os → LeastHas (least_open_below n os) p
least_has n p [] has fall = cc
least_has n p (o ∷ os) has fall = subst (λ t. LeastHas (lesser_path (cond t (Some o.path) None) (least_open_below n os)) p) (sym (lt-ltb o.seq n fall.0)) (at (least_has n p os) (keys_cases p o.path))
  where
    rest : FallInits n os
    rest = lower_inits o.seq n os (let lt = fall.0 in omega arith) fall.1

    Now : Option (List ℕ) → Type 0
    Now least = LeastHas (lesser_path (Some o.path) least) p

    itself_here : p ≡ o.path → (least : Option (List ℕ)) → Now least
    itself_here same None = record { path = o.path; is = refl; most = subst (λ q. AtMost q p) same (itself p) }
    itself_here same (Some r) = by (before r o.path) refl
      where
        by : (t : Bool) → before r o.path ≡ t → LeastHas (cond t (Some r) (Some o.path)) p
        by true e = record { path = r; is = refl; most = subst (AtMost r) (sym same) (less_at_most o.path r e) }
        by false e = record { path = o.path; is = refl; most = subst (λ q. AtMost q p) same (itself p) }

    later : LeastHas (least_open_below n os) p → Now (least_open_below n os)
    later h = subst Now (sym h.is) (by (before h.path o.path) refl)
      where
        by : (t : Bool) → before h.path o.path ≡ t → LeastHas (cond t (Some h.path) (Some o.path)) p
        by true e = record { path = h.path; is = refl; most = h.most }
        by false e = record { path = o.path; is = refl; most = upto nat_list_cmp_total o.path h.path p (other_at_most o.path h.path e) h.most }

    at : (has_path p os ≡ true → FallInits n os → LeastHas (least_open_below n os) p) → (p ≡ o.path) ⊎ (bytes_eq p o.path ≡ false) → Now (least_open_below n os)
    at ih (inl same) = itself_here same (least_open_below n os)
    at ih (inr d) = later (ih (sym (ap (λ b. b || has_path p os) d) ∙ has) rest)

pub least_by_first : (n m : ℕ) (os : List OpenInvocation) → FallInits m os → least_open_below n os ≡ least_open_below n (first_inits os)
least_by_first n m [] fall = refl
least_by_first n m (o ∷ os) fall = at (has_path o.path os) refl (least_by_first n o.seq os fall.1)
  where
    twice : has_path o.path os ≡ true → (t : Bool) → ltb o.seq n ≡ t → lesser_path (cond t (Some o.path) None) (least_open_below n os) ≡ least_open_below n os
    twice has true e =
        let h = least_has n o.path os has (lower_inits o.seq n os (let lt = ltb-true o.seq n e in omega arith) fall.1) in
        ap (lesser_path (Some o.path)) h.is ∙ keeps_lesser o.path h.path h.most ∙ sym h.is
    twice has false e = refl

    at : (t : Bool) → has_path o.path os ≡ t → least_open_below n os ≡ least_open_below n (first_inits os)
        → lesser_path (cond (ltb o.seq n) (Some o.path) None) (least_open_below n os) ≡ least_open_below n (cond t (first_inits os) (o ∷ first_inits os))
    at true e ih = twice e (ltb o.seq n) refl ∙ ih
    at false e ih = ap (lesser_path (cond (ltb o.seq n) (Some o.path) None)) ih
