-- What a sweep makes of one object and of the names.
use Rattle.std.proofs.Common.{◌≡◌, ℕ, suc, ◌+◌, ◌<◌, ◌≤◌, ltb, leb, Bool, true, false, cond, ◌&&◌, ◌||◌, List, [], ◌∷◌, ◌++◌, length, bytes_eq, Option, Some, None, is_some, unwrap_or, option_map, refl, sym, ap, ◌∙◌, arith}
use Rattle.std.specs.Map.{lookup, keys_of, values_of}
use Rattle.std.proofs.lemmas.List.Sums.{sum_by-cons}
use Rattle.std.proofs.lemmas.Bool.Decides.{nat_tests}
use Rattle.lb_base.specs.declared.value.Value.{Value}
use Rattle.boki_types.specs.declared.body.Body.{Body}
use Rattle.boki_types.specs.declared.store.Name.{Name}
use Rattle.boki_types.specs.declared.store.Settled.{Settled}
use Rattle.boki_model.specs.Live.{Live}
use Rattle.std.specs.Option.{option_or}
use Rattle.boki_model.specs.Writes.{NamedValue, Version, Store, Write, is_below, later_write, last_write_below, logged_write, logged_writes, version_writes, write_at, prepend_some, logged_write_of, here_or_named, is_write_named, same_name, is_settled}
use Rattle.obj_store.specs.declared.objects.SweptWrite.{SweptWrite}
use Rattle.obj_store.specs.Ascending.{not_below}
use Rattle.obj_store.specs.Kept.{StoreState, KeptObject, empty_object, base_count, count_of, total, object_in, insert_write, sort_writes, last_of_two, same_name_pair, value_under}
use Rattle.obj_store.specs.StandsFor.{versions_from, HasValue, HaveValues}
use Rattle.obj_store.specs.Steps.{swept_object, swept_objects, lifted, lifted_one}
use Rattle.obj_store.specs.Sweeps.{settled_of, logged_between, AllHaveValues, swept_write, swept_writes, has_settled}
use Rattle.obj_store.proofs.Lasts.{last_assoc}
use Rattle.obj_store.proofs.Versions.{writes_standing}
use Rattle.obj_store.proofs.Fences.{name_flip}

-- versions at or above a higher floor

from_put_in : (f : ℕ) (w : Write) (ws : List Write) → not_below f (insert_write w ws) ≡ cond (leb f w.first) (insert_write w (not_below f ws)) (not_below f ws)
from_put_in f w [] = by (leb f w.first)
  where
    by : (b : Bool) → cond b (w ∷ []) [] ≡ cond b (w ∷ []) []
    by true = refl
    by false = refl
from_put_in f w (v ∷ vs) = by (is_below v.first v.second w.first w.second) (leb f v.first) (leb f w.first) refl refl refl (from_put_in f w vs)
  where
    by : (p q r : Bool) → is_below v.first v.second w.first w.second ≡ p → leb f v.first ≡ q → leb f w.first ≡ r
        → not_below f (insert_write w vs) ≡ cond (leb f w.first) (insert_write w (not_below f vs)) (not_below f vs)
        → not_below f (cond p (v ∷ insert_write w vs) (w ∷ v ∷ vs)) ≡ cond r (insert_write w (cond q (v ∷ not_below f vs) (not_below f vs))) (cond q (v ∷ not_below f vs) (not_below f vs))
    by true true true e g h ih =
        ap (λ b. cond b (v ∷ not_below f (insert_write w vs)) (not_below f (insert_write w vs))) g
        ∙ ap (λ (l : List Write). let k : List Write = v ∷ l in k) (ih ∙ ap (λ b. cond b (insert_write w (not_below f vs)) (not_below f vs)) h)
        ∙ sym (ap (λ b. cond b (v ∷ insert_write w (not_below f vs)) (w ∷ v ∷ not_below f vs)) e)
    by true true false e g h ih =
        ap (λ b. cond b (v ∷ not_below f (insert_write w vs)) (not_below f (insert_write w vs))) g
        ∙ ap (λ (l : List Write). let k : List Write = v ∷ l in k) (ih ∙ ap (λ b. cond b (insert_write w (not_below f vs)) (not_below f vs)) h)
    by true false r e g h ih =
        ap (λ b. cond b (v ∷ not_below f (insert_write w vs)) (not_below f (insert_write w vs))) g
        ∙ ih ∙ ap (λ b. cond b (insert_write w (not_below f vs)) (not_below f vs)) h
    by false true true e g h ih =
        ap (λ b. cond b (w ∷ not_below f (v ∷ vs)) (not_below f (v ∷ vs))) h
        ∙ ap (λ (l : List Write). let k : List Write = w ∷ l in k) (ap (λ b. cond b (v ∷ not_below f vs) (not_below f vs)) g)
        ∙ sym (ap (λ b. cond b (v ∷ insert_write w (not_below f vs)) (w ∷ v ∷ not_below f vs)) e)
    by false true false e g h ih =
        ap (λ b. cond b (w ∷ not_below f (v ∷ vs)) (not_below f (v ∷ vs))) h ∙ ap (λ b. cond b (v ∷ not_below f vs) (not_below f vs)) g
    by false false true e g h ih = absurd (let z : ⊥ = grind (arith, nat_tests) in z)
    by false false false e g h ih =
        ap (λ b. cond b (w ∷ not_below f (v ∷ vs)) (not_below f (v ∷ vs))) h ∙ ap (λ b. cond b (v ∷ not_below f vs) (not_below f vs)) g

from_in_order : (f : ℕ) (ws : List Write) → not_below f (sort_writes ws) ≡ sort_writes (not_below f ws)
from_in_order f [] = refl
from_in_order f (w ∷ ws) = from_put_in f w (sort_writes ws) ∙ by (leb f w.first) (from_in_order f ws)
  where
    by : (b : Bool) → not_below f (sort_writes ws) ≡ sort_writes (not_below f ws) → cond b (insert_write w (not_below f (sort_writes ws))) (not_below f (sort_writes ws)) ≡ sort_writes (cond b (w ∷ not_below f ws) (not_below f ws))
    by true ih = ap (insert_write w) ih
    by false ih = ih

from_twice : (f g : ℕ) (ws : List Write) → f ≤ g → not_below g (not_below f ws) ≡ not_below g ws
from_twice f g [] le = refl
from_twice f g (w ∷ ws) le = by (leb f w.first) (leb g w.first) refl refl (from_twice f g ws le)
  where
    by : (p q : Bool) → leb f w.first ≡ p → leb g w.first ≡ q → not_below g (not_below f ws) ≡ not_below g ws
        → not_below g (cond p (w ∷ not_below f ws) (not_below f ws)) ≡ cond q (w ∷ not_below g ws) (not_below g ws)
    by true q e h ih = ap (λ b. cond b (w ∷ not_below g (not_below f ws)) (not_below g (not_below f ws))) h ∙ ap (λ (l : List Write). cond q (w ∷ l) l) ih
    by false true e h ih = absurd (let z : ⊥ = grind (arith, nat_tests) in z)
    by false false e h ih = ih

pub versions_swept : (f g : ℕ) (key : List ℕ) (vs : List Version) → f ≤ g
    → not_below g (sort_writes (version_writes key (versions_from f vs))) ≡ sort_writes (version_writes key (versions_from g vs))
versions_swept f g key vs le =
    from_in_order g (version_writes key (versions_from f vs))
    ∙ ap sort_writes (ap (not_below g) (writes_standing f key vs) ∙ from_twice f g (version_writes key vs) le ∙ sym (writes_standing g key vs))

-- logged writes made the bases

pub lifted_versions : (key : List ℕ) (ps : List SweptWrite) (o : KeptObject) → (lifted key ps o).versions ≡ o.versions
lifted_versions key [] o = refl
lifted_versions key (p ∷ ps) o = lifted_versions key ps (lifted_one key p o) ∙ by (bytes_eq key p.key)
  where
    by : (b : Bool) → (cond b (record o { base = later_write p.write o.base }) o).versions ≡ o.versions
    by true = refl
    by false = refl

pub lifted_fence : (key : List ℕ) (ps : List SweptWrite) (o : KeptObject) → (lifted key ps o).fence ≡ o.fence
lifted_fence key [] o = refl
lifted_fence key (p ∷ ps) o = lifted_fence key ps (lifted_one key p o) ∙ by (bytes_eq key p.key)
  where
    by : (b : Bool) → (cond b (record o { base = later_write p.write o.base }) o).fence ≡ o.fence
    by true = refl
    by false = refl

lifted_append : (key : List ℕ) (ps qs : List SweptWrite) (o : KeptObject) → lifted key (ps ++ qs) o ≡ lifted key qs (lifted key ps o)
lifted_append key [] qs o = refl
lifted_append key (p ∷ ps) qs o = lifted_append key ps qs (lifted_one key p o)

with_append : (o : Option SweptWrite) (xs ys : List SweptWrite) → prepend_some o (xs ++ ys) ≡ prepend_some o xs ++ ys
with_append None xs ys = refl
with_append (Some p) xs ys = refl

passed_append : (named : List ((List ℕ × ℕ) × Value)) (ss ts : List Settled) → swept_writes named (ss ++ ts) ≡ swept_writes named ss ++ swept_writes named ts
passed_append named [] ts = refl
passed_append named (s ∷ ss) ts = ap (prepend_some (swept_write named s)) (passed_append named ss ts) ∙ with_append (swept_write named s) (swept_writes named ss) (swept_writes named ts)

valued_front : (named : List ((List ℕ × ℕ) × Value)) (ss ts : List Settled) → AllHaveValues named (ss ++ ts) → AllHaveValues named ss × AllHaveValues named ts
valued_front named [] ts h = (tt, h)
valued_front named (s ∷ ss) ts h = let r = valued_front named ss ts h.1 in ((h.0, r.0), r.1)

some_value : (o : Option Value) → is_some o ≡ true → (v : Value) × (o ≡ Some v)
some_value None e = absurd (let z : ⊥ = cc in z)
some_value (Some v) e = (v, refl)

module _ (kept : StoreState) (m : Store) (named_is : (here : Option Value) (name : Name) (v : Value) → option_or here (value_under name kept.named) ≡ Some v → here_or_named here name m.named ≡ Some v)
    (f g : ℕ) (le : f ≤ g) (key : List ℕ) where
  abbrev R : List (Live Body) → Option Write
  R xs = last_write_below g 0 (not_below f (logged_writes key m.named xs))

  pub base_lifted : (xs : List (Live Body)) (o : KeptObject) → AllHaveValues kept.named (logged_between f g xs)
      → (lifted key (swept_writes kept.named (logged_between f g xs)) o).base ≡ last_of_two (last_write_below g 0 (not_below f (logged_writes key m.named xs))) o.base
  base_lifted [] o h = refl
  base_lifted (x ∷ xs) o h =
      let split = valued_front kept.named (logged_between f g xs) (settled_of (leb f x.seq && ltb x.seq g) x.seq (logged_write x.holds)) h in
      ap (λ (l : List SweptWrite). (lifted key l o).base) (passed_append kept.named (logged_between f g xs) (settled_of (leb f x.seq && ltb x.seq g) x.seq (logged_write x.holds)))
      ∙ ap (λ (p : KeptObject). p.base) (lifted_append key (swept_writes kept.named (logged_between f g xs)) (swept_writes kept.named (settled_of (leb f x.seq && ltb x.seq g) x.seq (logged_write x.holds))) o)
      ∙ by (logged_write x.holds) (leb f x.seq) (ltb x.seq g) refl refl (lifted key (swept_writes kept.named (logged_between f g xs)) o) (base_lifted xs o split.0) split.1
    where
      by : (w : Option (List ℕ × (Name × Option Value))) (p q : Bool) → leb f x.seq ≡ p → ltb x.seq g ≡ q → (before : KeptObject)
          → before.base ≡ last_of_two (last_write_below g 0 (not_below f (logged_writes key m.named xs))) o.base
          → AllHaveValues kept.named (settled_of (p && q) x.seq w)
          → (lifted key (swept_writes kept.named (settled_of (p && q) x.seq w)) before).base
          ≡ last_of_two (last_write_below g 0 (not_below f (prepend_some (logged_write_of key x.seq m.named w) (logged_writes key m.named xs)))) o.base
      by None true true e h before ih v = ih
      by None true false e h before ih v = ih
      by None false q e h before ih v = ih
      by (Some w) false q e h before ih v = ih ∙ ap (λ (r : Option Write). last_of_two r o.base) (sym (skip (bytes_eq key w.0) (here_or_named w.1.1 w.1.0 m.named)))
        where
          skip : (b : Bool) (u : Option Value) → last_write_below g 0 (not_below f (prepend_some (cond b (option_map (write_at x.seq 0) u) None) (logged_writes key m.named xs))) ≡ last_write_below g 0 (not_below f (logged_writes key m.named xs))
          skip true (Some u) = ap (λ b. last_write_below g 0 (cond b (write_at x.seq 0 u ∷ not_below f (logged_writes key m.named xs)) (not_below f (logged_writes key m.named xs)))) e
          skip true None = refl
          skip false u = refl
      by (Some w) true false e h before ih v = ih ∙ ap (λ (r : Option Write). last_of_two r o.base) (sym (skip (bytes_eq key w.0) (here_or_named w.1.1 w.1.0 m.named)))
        where
          skip : (b : Bool) (u : Option Value) → last_write_below g 0 (not_below f (prepend_some (cond b (option_map (write_at x.seq 0) u) None) (logged_writes key m.named xs))) ≡ last_write_below g 0 (not_below f (logged_writes key m.named xs))
          skip true (Some u) =
              ap (λ b. last_write_below g 0 (cond b (write_at x.seq 0 u ∷ not_below f (logged_writes key m.named xs)) (not_below f (logged_writes key m.named xs)))) e
              ∙ ap (λ b. cond b (later_write (write_at x.seq 0 u) (last_write_below g 0 (not_below f (logged_writes key m.named xs)))) (last_write_below g 0 (not_below f (logged_writes key m.named xs)))) (let t : is_below x.seq 0 g 0 ≡ false = grind (arith, nat_tests) in t)
          skip true None = refl
          skip false u = refl
      by (Some w) true true e h before ih v =
          let u = some_value (option_or w.1.1 (value_under w.1.0 kept.named)) v.0 in
          ap (λ (y : Option Value). (lifted key (prepend_some (option_map (λ z. record { key = w.0; write = write_at x.seq 0 z }) y) []) before).base) u.1
          ∙ at (bytes_eq key w.0) u.0
          ∙ sym (ap (λ (y : Option Value). last_of_two (last_write_below g 0 (not_below f (prepend_some (cond (bytes_eq key w.0) (option_map (write_at x.seq 0) y) None) (logged_writes key m.named xs)))) o.base) (named_is w.1.1 w.1.0 u.0 u.1))
        where
          at : (b : Bool) (u : Value) → (cond b (record before { base = later_write (write_at x.seq 0 u) before.base }) before).base
              ≡ last_of_two (last_write_below g 0 (not_below f (prepend_some (cond b (Some (write_at x.seq 0 u)) None) (logged_writes key m.named xs)))) o.base
          at true u =
              ap (later_write (write_at x.seq 0 u)) ih
              ∙ sym (last_assoc (Some (write_at x.seq 0 u)) (last_write_below g 0 (not_below f (logged_writes key m.named xs))) o.base)
              ∙ ap (λ (r : Option Write). last_of_two r o.base) (sym (
              ap (λ b. last_write_below g 0 (cond b (write_at x.seq 0 u ∷ not_below f (logged_writes key m.named xs)) (not_below f (logged_writes key m.named xs)))) e
              ∙ ap (λ b. cond b (later_write (write_at x.seq 0 u) (last_write_below g 0 (not_below f (logged_writes key m.named xs)))) (last_write_below g 0 (not_below f (logged_writes key m.named xs)))) (let t : is_below x.seq 0 g 0 ≡ true = grind (arith, nat_tests) in t)))
          at false u = ih

-- names

or_swap : (a b c : Bool) → ((a || b) || c) ≡ (a || (b || c))
or_swap true b c = refl
or_swap false b c = refl

settled_append : (q : Name) (ss ts : List Settled) → has_settled q (ss ++ ts) ≡ (has_settled q ss || has_settled q ts)
settled_append q [] ts = refl
settled_append q (s ∷ ss) ts =
    ap (λ b. same_name_pair (s.name.path, s.name.place) (q.path, q.place) || b) (settled_append q ss ts)
    ∙ sym (or_swap (same_name_pair (s.name.path, s.name.place) (q.path, q.place)) (has_settled q ss) (has_settled q ts))

pub settled_grows : (q : Name) (f g : ℕ) (xs : List (Live Body)) → f ≤ g → is_settled q g xs ≡ (has_settled q (logged_between f g xs) || is_settled q f xs)
settled_grows q f g [] le = refl
settled_grows q f g (x ∷ xs) le =
    by (logged_write x.holds) (leb f x.seq) (ltb x.seq g) (ltb x.seq f) refl refl refl (has_settled q (logged_between f g xs)) (is_settled q f xs) (is_settled q g xs) (settled_grows q f g xs le)
    ∙ ap (λ b. b || ((ltb x.seq f && is_write_named q (logged_write x.holds)) || is_settled q f xs)) (sym (settled_append q (logged_between f g xs) (settled_of (leb f x.seq && ltb x.seq g) x.seq (logged_write x.holds))))
  where
    all : (n a b c : Bool) → c ≡ (a || b) → (n || c) ≡ ((a || (n || false)) || (false || b))
    all true true b c e = refl
    all true false b c e = refl
    all false true b c e = e
    all false false b c e = e

    old : (n a b c : Bool) → c ≡ (a || b) → (n || c) ≡ ((a || false) || (n || b))
    old true true b c e = refl
    old true false b c e = refl
    old false true b c e = e
    old false false b c e = e

    none : (a b c : Bool) → c ≡ (a || b) → (false || c) ≡ ((a || false) || (false || b))
    none true b c e = e
    none false b c e = e

    by : (w : Option (List ℕ × (Name × Option Value))) (p r s : Bool) → leb f x.seq ≡ p → ltb x.seq g ≡ r → ltb x.seq f ≡ s → (a b c : Bool) → c ≡ (a || b)
        → ((r && is_write_named q w) || c) ≡ ((a || has_settled q (settled_of (p && r) x.seq w)) || ((s && is_write_named q w) || b))
    by w true true true e h k a b c ih = absurd (let z : ⊥ = grind (arith, nat_tests) in z)
    by w true false true e h k a b c ih = absurd (let z : ⊥ = grind (arith, nat_tests) in z)
    by w false r false e h k a b c ih = absurd (let z : ⊥ = grind (arith, nat_tests) in z)
    by w false false true e h k a b c ih = absurd (let z : ⊥ = grind (arith, nat_tests) in z)
    by None true true false e h k a b c ih = none a b c ih
    by None true false false e h k a b c ih = none a b c ih
    by None false true true e h k a b c ih = none a b c ih
    by (Some w) true true false e h k a b c ih =
        all (same_name q w.1.0) a b c ih ∙ ap (λ n. (a || (n || false)) || (false || b)) (name_flip q w.1.0)
    by (Some w) true false false e h k a b c ih = none a b c ih
    by (Some w) false true true e h k a b c ih = old (same_name q w.1.0) a b c ih

-- values

pub values_swept : (kept : StoreState) (named : List NamedValue) (f g : ℕ) (xs : List (Live Body))
    → ((here : Option Value) (name : Name) (v : Value) → option_or here (value_under name kept.named) ≡ Some v → here_or_named here name named ≡ Some v)
    → HaveValues f named xs → AllHaveValues kept.named (logged_between f g xs) → HaveValues g named xs
values_swept kept named f g [] is h v = tt
values_swept kept named f g (x ∷ xs) is h v =
    let split = valued_front kept.named (logged_between f g xs) (settled_of (leb f x.seq && ltb x.seq g) x.seq (logged_write x.holds)) v in
    ((λ lt. by (logged_write x.holds) (leb f x.seq) (ltb x.seq g) refl refl lt h.0 split.1), values_swept kept named f g xs is h.1 split.0)
  where
    by : (w : Option (List ℕ × (Name × Option Value))) (p q : Bool) → leb f x.seq ≡ p → ltb x.seq g ≡ q → x.seq < g → (x.seq < f → HasValue named w)
        → AllHaveValues kept.named (settled_of (p && q) x.seq w) → HasValue named w
    by None p q e k lt old new = tt
    by (Some w) false q e k lt old new = old (let t : x.seq < f = grind (arith, nat_tests) in t)
    by (Some w) true false e k lt old new = absurd (let t : ⊥ = grind (arith, nat_tests) in t)
    by (Some w) true true e k lt old new = λ none.
        let u = some_value (option_or w.1.1 (value_under w.1.0 kept.named)) new.0 in
        let z = is w.1.1 w.1.0 u.0 u.1 in
        let y : ⊥ = cc in y

-- counts

pub dropped_count : (f : ℕ) (ws : List Write) → length (not_below f ws) + base_count (last_write_below f 0 ws) ≤ length ws
dropped_count f [] = omega arith
dropped_count f (w ∷ ws) = by (leb f w.first) (is_below w.first w.second f 0) refl refl (dropped_count f ws) (last_write_below f 0 ws) refl
  where
    one : (o : Option Write) → base_count (later_write w o) ≡ 1
    one None = refl
    one (Some v) = at (is_below w.first w.second v.first v.second)
      where
        at : (b : Bool) → base_count (cond b (Some v) (Some w)) ≡ 1
        at true = refl
        at false = refl

    by : (p q : Bool) → leb f w.first ≡ p → is_below w.first w.second f 0 ≡ q → length (not_below f ws) + base_count (last_write_below f 0 ws) ≤ length ws → (o : Option Write) → last_write_below f 0 ws ≡ o
        → length (cond p (w ∷ not_below f ws) (not_below f ws)) + base_count (cond q (later_write w (last_write_below f 0 ws)) (last_write_below f 0 ws)) ≤ suc (length ws)
    by true true e h ih o is = absurd (let z : ⊥ = grind (arith, nat_tests) in z)
    by true false e h ih o is = omega arith
    by false true e h ih o is = omega (arith, one (last_write_below f 0 ws), shorter)
      where
        shorter : length (not_below f ws) ≤ length ws
        shorter = omega arith
    by false false e h ih o is = omega arith

or_count : (a b : Option Write) → base_count (option_or a b) ≤ base_count a + base_count b
or_count None b = omega arith
or_count (Some w) b = omega arith

pub settled_count : (f : ℕ) (o : KeptObject) → count_of (swept_object f o) ≤ count_of o
settled_count f o = omega (arith, dropped_count f o.versions, or_count (last_write_below f 0 o.versions) o.base)

pub total_settled : (f : ℕ) (es : List (List ℕ × KeptObject)) → total (swept_objects f es) ≤ total es
total_settled f [] = omega arith
total_settled f (e ∷ es) = omega (arith, total_settled f es, settled_count f e.1, sum_by-cons count_of e.1 (values_of es), sum_by-cons count_of (swept_object f e.1) (values_of (swept_objects f es)))

pub length_passed : (named : List ((List ℕ × ℕ) × Value)) (ss : List Settled) → length (swept_writes named ss) ≤ length ss
length_passed named [] = omega arith
length_passed named (s ∷ ss) = by (swept_write named s) (length_passed named ss)
  where
    by : (o : Option SweptWrite) → length (swept_writes named ss) ≤ length ss → length (prepend_some o (swept_writes named ss)) ≤ suc (length ss)
    by None h = omega arith
    by (Some p) h = omega arith

pub settled_object : (f : ℕ) (k : List ℕ) (es : List (List ℕ × KeptObject)) → object_in k (swept_objects f es) ≡ swept_object f (object_in k es)
settled_object f k [] = refl
settled_object f k (e ∷ es) = by (bytes_eq k e.0) (settled_object f k es)
  where
    by : (b : Bool) → object_in k (swept_objects f es) ≡ swept_object f (object_in k es)
        → unwrap_or (cond b (Some (swept_object f e.1)) (lookup (bytes_eq k) (swept_objects f es))) empty_object ≡ swept_object f (unwrap_or (cond b (Some e.1) (lookup (bytes_eq k) es)) empty_object)
    by true ih = refl
    by false ih = ih

pub settled_keys : (f : ℕ) (es : List (List ℕ × KeptObject)) → keys_of (swept_objects f es) ≡ keys_of es
settled_keys f [] = refl
settled_keys f (e ∷ es) = ap (λ (l : List (List ℕ)). let k : List (List ℕ) = e.0 ∷ l in k) (settled_keys f es)
