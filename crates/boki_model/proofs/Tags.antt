-- Tags tell paths apart, and a path begins once.
use Rattle.std.proofs.Common.{◌≡◌, ℕ, zero, suc, ◌+◌, ◌*◌, ◌^◌, ◌<◌, ◌≤◌, Bool, true, false, cond, ◌&&◌, ltb, List, [], ◌∷◌, length, get_or, Option, refl, sym, ap, ◌∙◌, arith}
use Rattle.std.proofs.lemmas.Bool.{eqb-true, eq-eqb, ltb-true, and_parts}
use Rattle.std.proofs.lemmas.List.{get_or_past}
use Rattle.std.proofs.lemmas.Slice.Eq.{bytes_eq-Decides}
use Rattle.lb_base.specs.declared.value.Tag.{Tag}
use Rattle.lb_base.specs.declared.value.Cond.{Cond}
use Rattle.lb_base.specs.Path.{is_request, is_ordinal, are_ordinals, is_path, IsPath}
use Rattle.boki_types.specs.declared.body.Body.{Body}
use Rattle.boki_types.specs.declared.body.Body.TheVariants as b
use Rattle.boki_model.specs.Live.{LogRecord, Live, has_tag, count, meets_condition, live}
use Rattle.boki_model.specs.Bodies.{path_number, call_tag, step_tag, tag_of, tags_of}
use Rattle.boki_model.specs.TagLaws.{TagsTellPaths, first_with_tag, IsFirst, AreFirst, is_submit, is_init, how_many, IsBegunOnce}

-- what a path's numbers keep to
pub record AreDigits (n : ℕ) (ns : List ℕ) : Type 0 where
  pub request : n < 1048576
  pub ordinals : are_ordinals ns ≡ true
  pub few : length ns < 4

path_digits : (n : ℕ) (ns : List ℕ) → is_path (n ∷ ns) ≡ true → AreDigits n ns
path_digits n ns h =
    let parts = and_parts (is_request n && are_ordinals ns) (ltb (length ns) 4) h in
    let fronts = and_parts (is_request n) (are_ordinals ns) parts.0 in
    record {
      request = ltb-true n 1048576 (and_parts (ltb 0 n) (ltb n 1048576) fronts.0).1;
      ordinals = fronts.1;
      few = ltb-true (length ns) 4 parts.1;
    }

ordinal_least : (n : ℕ) → is_ordinal n ≡ true → 0 < n
ordinal_least n h = ltb-true 0 n (and_parts (ltb 0 n) (ltb n 4096) h).0

ordinal_most : (n : ℕ) → is_ordinal n ≡ true → n < 4096
ordinal_most n h = ltb-true n 4096 (and_parts (ltb 0 n) (ltb n 4096) h).1

digit_most : (ns : List ℕ) (i : ℕ) → are_ordinals ns ≡ true → get_or ns i 0 < 4096
digit_most [] i h = omega arith
digit_most (n ∷ ns) zero h = ordinal_most n (and_parts (is_ordinal n) (are_ordinals ns) h).0
digit_most (n ∷ ns) (suc i) h = digit_most ns i (and_parts (is_ordinal n) (are_ordinals ns) h).1

-- ordinals are not 0, so their digits say where the list ends
same_ordinals : (p q : List ℕ) → are_ordinals p ≡ true → are_ordinals q ≡ true → ((i : ℕ) → get_or p i 0 ≡ get_or q i 0) → p ≡ q
same_ordinals [] [] hp hq e = refl
same_ordinals [] (y ∷ q) hp hq e = absurd (let h : ⊥ = omega (arith, e 0, ordinal_least y (and_parts (is_ordinal y) (are_ordinals q) hq).0) in h)
same_ordinals (x ∷ p) [] hp hq e = absurd (let h : ⊥ = omega (arith, e 0, ordinal_least x (and_parts (is_ordinal x) (are_ordinals p) hp).0) in h)
same_ordinals (x ∷ p) (y ∷ q) hp hq e =
    let rest : p ≡ q = same_ordinals p q (and_parts (is_ordinal x) (are_ordinals p) hp).1 (and_parts (is_ordinal y) (are_ordinals q) hq).1 (λ i. e (suc i)) in
    ap (λ z. z ∷ p) (e 0) ∙ ap (λ l. y ∷ l) rest

digit_left : (a c d f : ℕ) → c < 4096 → f < 4096 → a * 4096 + c ≡ d * 4096 + f → a ≡ d
digit_left a c d f lc lf e = omega arith

digit_right : (a c d f : ℕ) → c < 4096 → f < 4096 → a * 4096 + c ≡ d * 4096 + f → c ≡ f
digit_right a c d f lc lf e = omega arith

abbrev number : ℕ → List ℕ → ℕ
number n ns = ((n * 4096 + get_or ns 0 0) * 4096 + get_or ns 1 0) * 4096 + get_or ns 2 0

number_is : (n : ℕ) (ns : List ℕ) → path_number (n ∷ ns) ≡ number n ns
number_is n ns = omega arith

number_most : (n : ℕ) (ns : List ℕ) → AreDigits n ns → path_number (n ∷ ns) < 2 ^ 56
number_most n ns h = omega (arith, h.request, digit_most ns 0 h.ordinals, digit_most ns 1 h.ordinals, digit_most ns 2 h.ordinals)

pub same_numbers : (p q : List ℕ) → IsPath p → IsPath q → path_number p ≡ path_number q → p ≡ q
same_numbers [] q hp hq e = cc
same_numbers (n ∷ p) [] hp hq e = cc
same_numbers (n ∷ p) (m ∷ q) hp hq e = at (path_digits n p hp) (path_digits m q hq)
  where
    at : AreDigits n p → AreDigits m q → n ∷ p ≡ m ∷ q
    at dp dq =
        let e3 : number n p ≡ number m q = sym (number_is n p) ∙ e ∙ number_is m q in
        let p0 = digit_most p 0 dp.ordinals in
        let p1 = digit_most p 1 dp.ordinals in
        let p2 = digit_most p 2 dp.ordinals in
        let q0 = digit_most q 0 dq.ordinals in
        let q1 = digit_most q 1 dq.ordinals in
        let q2 = digit_most q 2 dq.ordinals in
        let e2 = digit_left ((n * 4096 + get_or p 0 0) * 4096 + get_or p 1 0) (get_or p 2 0) ((m * 4096 + get_or q 0 0) * 4096 + get_or q 1 0) (get_or q 2 0) p2 q2 e3 in
        let e1 = digit_left (n * 4096 + get_or p 0 0) (get_or p 1 0) (m * 4096 + get_or q 0 0) (get_or q 1 0) p1 q1 e2 in
        let e0 = digit_left n (get_or p 0 0) m (get_or q 0 0) p0 q0 e1 in
        let d2 = digit_right ((n * 4096 + get_or p 0 0) * 4096 + get_or p 1 0) (get_or p 2 0) ((m * 4096 + get_or q 0 0) * 4096 + get_or q 1 0) (get_or q 2 0) p2 q2 e3 in
        let d1 = digit_right (n * 4096 + get_or p 0 0) (get_or p 1 0) (m * 4096 + get_or q 0 0) (get_or q 1 0) p1 q1 e2 in
        let d0 = digit_right n (get_or p 0 0) m (get_or q 0 0) p0 q0 e1 in
        ap (λ z. z ∷ p) e0 ∙ ap (λ l. m ∷ l) (same_ordinals p q dp.ordinals dq.ordinals (each d0 d1 d2 dp.few dq.few))
      where
        each : get_or p 0 0 ≡ get_or q 0 0 → get_or p 1 0 ≡ get_or q 1 0 → get_or p 2 0 ≡ get_or q 2 0 → length p < 4 → length q < 4 → (i : ℕ) → get_or p i 0 ≡ get_or q i 0
        each d0 d1 d2 fp fq zero = d0
        each d0 d1 d2 fp fq (suc zero) = d1
        each d0 d1 d2 fp fq (suc (suc zero)) = d2
        each d0 d1 d2 fp fq (suc (suc (suc i))) = get_or_past p (suc (suc (suc i))) 0 (omega arith) ∙ sym (get_or_past q (suc (suc (suc i))) 0 (omega arith))

pub number_below : (p : List ℕ) → IsPath p → path_number p < 2 ^ 56
number_below [] h = cc
number_below (n ∷ ns) h = number_most n ns (path_digits n ns h)

pub tags_tell : TagsTellPaths
tags_tell = record {
  calls = λ p q hp hq e. same_numbers p q hp hq (let f : path_number p ≡ path_number q = omega arith in f);
  steps = λ p q hp hq e. same_numbers p q hp hq (let f : path_number p ≡ path_number q = omega arith in f);
  apart = λ p q hp hq e. omega (arith, number_below p hp);
}

-- At most one.

abbrev IsAlone : (Body → Bool) → ℕ → List (LogRecord Body) → Type 0
IsAlone passes tag [] = Unit {0}
IsAlone passes tag (r ∷ log) = (passes r.holds ≡ true → (has_tag tag r.tags ≡ true) × (r.condition ≡ first_with_tag tag)) × IsAlone passes tag log

pub record AtMostOne (passes : Body → Bool) (tag : ℕ) (xs : List (Live Body)) : Type 0 where
  pub one : how_many passes xs ≤ 1
  pub tagged : how_many passes xs ≤ count tag xs

one_more : (passes : Body → Bool) (tag : ℕ) (r : LogRecord Body) (x : Live Body) (xs : List (Live Body)) → x.holds ≡ r.holds → x.tags ≡ r.tags → meets_condition r.condition xs ≡ true
    → (passes r.holds ≡ true → (has_tag tag r.tags ≡ true) × (r.condition ≡ first_with_tag tag)) → AtMostOne passes tag xs → AtMostOne passes tag (x ∷ xs)
one_more passes tag r x xs holds tags meet alone past = at (passes x.holds) refl (has_tag tag x.tags) refl
  where
    none : passes x.holds ≡ true → count tag xs ≡ 0
    none e = sym (eqb-true 0 (count tag xs) (sym (ap (λ c. meets_condition c xs) (alone (ap passes (sym holds) ∙ e)).1) ∙ meet))

    has : passes x.holds ≡ true → has_tag tag x.tags ≡ true
    has e = ap (has_tag tag) tags ∙ (alone (ap passes (sym holds) ∙ e)).0

    at : (p : Bool) → passes x.holds ≡ p → (h : Bool) → has_tag tag x.tags ≡ h → AtMostOne passes tag (x ∷ xs)
    at true e true f = record { one = rw e (omega (arith, none e, past.tagged)); tagged = rw (e, f) (omega (arith, past.tagged)) }
    at true e false f = absurd (let h : ⊥ = cc (has e) in h)
    at false e true f = record { one = rw e past.one; tagged = rw (e, f) (omega (arith, past.tagged)) }
    at false e false f = record { one = rw e past.one; tagged = rw (e, f) past.tagged }

pub at_most_one : (passes : Body → Bool) (tag : ℕ) (log : List (LogRecord Body)) → IsAlone passes tag log → AtMostOne passes tag (live log)
at_most_one passes tag [] alone = record { one = omega arith; tagged = omega arith }
at_most_one passes tag (r ∷ log) alone = at (at_most_one passes tag log alone.1) (meets_condition r.condition (live log)) refl
  where
    at : AtMostOne passes tag (live log) → (m : Bool) → meets_condition r.condition (live log) ≡ m → AtMostOne passes tag (cond m (record { seq = suc (length log); tags = r.tags; holds = r.holds } ∷ live log) (live log))
    at past true e = one_more passes tag r (record { seq = suc (length log); tags = r.tags; holds = r.holds }) (live log) refl refl e alone.0 past
    at past false e = past

has_own : (t : ℕ) (ts : List Tag) → has_tag t (record { 0 = t } ∷ ts) ≡ true
has_own t ts = rw (eq-eqb t t refl)

submit_first : (path : List ℕ) (body : Body) (tags : List Tag) (condition : Option Cond) → IsFirst body tags condition → is_submit path body ≡ true → (has_tag (call_tag path) tags ≡ true) × (condition ≡ first_with_tag (call_tag path))
submit_first path (b.Submit p f args) tags condition first is =
    let same : path ≡ p = (bytes_eq-Decides path p).0 is in
    (ap (has_tag (call_tag path)) first.0 ∙ ap (λ q. has_tag (call_tag q) (tags_of (b.Submit p f args))) same ∙ has_own (call_tag p) [], first.1 ∙ ap (λ q. first_with_tag (call_tag q)) (sym same))
submit_first path _ tags condition first is = cc

init_first : (path : List ℕ) (body : Body) (tags : List Tag) (condition : Option Cond) → IsFirst body tags condition → is_init path body ≡ true → (has_tag (step_tag path) tags ≡ true) × (condition ≡ first_with_tag (step_tag path))
init_first path (b.Init p) tags condition first is =
    let same : path ≡ p = (bytes_eq-Decides path p).0 is in
    (ap (has_tag (step_tag path)) first.0 ∙ ap (λ q. has_tag (step_tag q) (tags_of (b.Init p))) same ∙ has_own (step_tag p) (tag_of 9 0 ∷ []), first.1 ∙ ap (λ q. first_with_tag (step_tag q)) (sym same))
init_first path _ tags condition first is = cc

submits_alone : (path : List ℕ) (log : List (LogRecord Body)) → AreFirst log → IsAlone (is_submit path) (call_tag path) log
submits_alone path [] first = tt
submits_alone path (r ∷ log) first = (submit_first path r.holds r.tags r.condition first.0, submits_alone path log first.1)

inits_alone : (path : List ℕ) (log : List (LogRecord Body)) → AreFirst log → IsAlone (is_init path) (step_tag path) log
inits_alone path [] first = tt
inits_alone path (r ∷ log) first = (init_first path r.holds r.tags r.condition first.0, inits_alone path log first.1)

pub begun_once : (log : List (LogRecord Body)) → AreFirst log → IsBegunOnce log
begun_once log first = record {
  submits = λ path. (at_most_one (is_submit path) (call_tag path) log (submits_alone path log first)).one;
  inits = λ path. (at_most_one (is_init path) (step_tag path) log (inits_alone path log first)).one;
}
