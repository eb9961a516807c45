-- Loops over keys, and over the logged writes that a sweep passes.
use Rattle.std.proofs.Common.{◌≡◌, ℕ, zero, suc, ◌+◌, ◌<◌, ◌≤◌, max, Bool, true, false, cond, ◌||◌, List, [], ◌∷◌, ◌++◌, length, take, Option, Some, None, get_or, bytes_eq, refl, sym, ap, ◌∙◌, subst, arith}
use Rattle.std.specs.List.{IsDistinct}
use Rattle.std.proofs.lemmas.List.{length_push}
use Rattle.std.specs.Cmp.Lexicographic.{nat_list_eq_equiv}
use Rattle.boki_model.specs.Maps.{has}
use Rattle.boki_model.specs.Writes.{Write, is_below, later_write, prepend_some}
use Rattle.lb_base.specs.declared.value.Value.{Value}
use Rattle.boki_types.specs.declared.store.Name.{Name}
use Rattle.boki_types.specs.declared.store.Settled.{Settled}
use Rattle.obj_store.specs.declared.objects.SweptWrite.{SweptWrite}
use Rattle.obj_store.specs.Kept.{KeptObject, object_in, has_key, base_count, insert_write, same_name_pair, value_under}
use Rattle.obj_store.specs.Sweeps.{swept_write, swept_writes, has_settled}
use Rattle.obj_store.specs.Steps.{AddsEmptyObjects, ChangesObject, PutsVersion, with_version, RaisesFences, LiftsBases, raised_to, lifted, lifted_one, has_swept_write}
use Rattle.obj_store.proofs.Entries.{same_key, key_itself}

lists_flip : (k q : List ℕ) → bytes_eq k q ≡ bytes_eq q k
lists_flip k q = nat_list_eq_equiv.symm k q

has_take : (k : List ℕ) (keys : List (List ℕ)) (i : ℕ) (d : List ℕ) → i < length keys → has k (take (i + 1) keys) ≡ true → (has k (take i keys) ≡ true → ⊥) → k ≡ get_or keys i d
has_take k [] i d lt h fresh = absurd (let n : ⊥ = omega arith in n)
has_take k (x ∷ xs) zero d lt h fresh = at (bytes_eq k x) refl h
  where
    at : (b : Bool) → bytes_eq k x ≡ b → (b || false) ≡ true → k ≡ x
    at true e h = same_key k x e
    at false e h = absurd (let n : ⊥ = cc in n)
has_take k (x ∷ xs) (suc i) d lt h fresh =
    at (bytes_eq k x) refl (subst (λ (n : ℕ). has k (take n (x ∷ xs)) ≡ true) (let n : suc i + 1 ≡ suc (i + 1) = omega arith in n) h) fresh (has_take k xs i d (omega arith))
  where
    at : (b : Bool) → bytes_eq k x ≡ b → (b || has k (take (i + 1) xs)) ≡ true → ((b || has k (take i xs)) ≡ true → ⊥)
        → (has k (take (i + 1) xs) ≡ true → (has k (take i xs) ≡ true → ⊥) → k ≡ get_or xs i d) → k ≡ get_or xs i d
    at true e h fresh ih = absurd (fresh refl)
    at false e h fresh ih = ih h fresh

decided : (b : Bool) (P : Type 0) → (b ≡ true → P) → ((b ≡ true → ⊥) → P) → P
decided true P held fresh = held refl
decided false P held fresh = fresh (λ e. let n : ⊥ = cc in n)

pub has_more : (keys : List (List ℕ)) (i : ℕ) (d : List ℕ) → i < length keys → (es fs : List (List ℕ × KeptObject))
    → ((k : List ℕ) → has_key k es ≡ true → has_key k fs ≡ true)
    → ((k : List ℕ) → has k (take i keys) ≡ true → has_key k es ≡ true)
    → has_key (get_or keys i d) fs ≡ true
    → (k : List ℕ) → has k (take (i + 1) keys) ≡ true → has_key k fs ≡ true
has_more keys i d lt es fs keeps there here k h =
    decided (has k (take i keys)) (has_key k fs ≡ true) (λ e. keeps k (there k e))
    (λ fresh. subst (λ (q : List ℕ). has_key q fs ≡ true) (sym (has_take k keys i d lt h fresh)) here)

passed_take : (k : List ℕ) (ps : List SweptWrite) (i : ℕ) (d : SweptWrite) → i < length ps → has_swept_write k (take (i + 1) ps) ≡ true → (has_swept_write k (take i ps) ≡ true → ⊥) → k ≡ (get_or ps i d).key
passed_take k [] i d lt h fresh = absurd (let n : ⊥ = omega arith in n)
passed_take k (x ∷ xs) zero d lt h fresh = at (bytes_eq k x.key) refl h
  where
    at : (b : Bool) → bytes_eq k x.key ≡ b → (b || false) ≡ true → k ≡ x.key
    at true e h = same_key k x.key e
    at false e h = absurd (let n : ⊥ = cc in n)
passed_take k (x ∷ xs) (suc i) d lt h fresh =
    at (bytes_eq k x.key) refl (subst (λ (n : ℕ). has_swept_write k (take n (x ∷ xs)) ≡ true) (let n : suc i + 1 ≡ suc (i + 1) = omega arith in n) h) fresh (passed_take k xs i d (omega arith))
  where
    at : (b : Bool) → bytes_eq k x.key ≡ b → (b || has_swept_write k (take (i + 1) xs)) ≡ true → ((b || has_swept_write k (take i xs)) ≡ true → ⊥)
        → (has_swept_write k (take (i + 1) xs) ≡ true → (has_swept_write k (take i xs) ≡ true → ⊥) → k ≡ (get_or xs i d).key) → k ≡ (get_or xs i d).key
    at true e h fresh ih = absurd (fresh refl)
    at false e h fresh ih = ih h fresh

pub passed_more : (ps : List SweptWrite) (i : ℕ) (d : SweptWrite) → i < length ps → (es fs : List (List ℕ × KeptObject))
    → ((k : List ℕ) → has_key k es ≡ true → has_key k fs ≡ true)
    → ((k : List ℕ) → has_swept_write k (take i ps) ≡ true → has_key k es ≡ true)
    → has_key (get_or ps i d).key fs ≡ true
    → (k : List ℕ) → has_swept_write k (take (i + 1) ps) ≡ true → has_key k fs ≡ true
passed_more ps i d lt es fs keeps there here k h =
    decided (has_swept_write k (take i ps)) (has_key k fs ≡ true) (λ e. keeps k (there k e))
    (λ fresh. subst (λ (q : List ℕ). has_key q fs ≡ true) (sym (passed_take k ps i d lt h fresh)) here)

pub has_at_place : (keys : List (List ℕ)) (i : ℕ) (d : List ℕ) → i < length keys → has (get_or keys i d) keys ≡ true
has_at_place [] i d lt = absurd (let n : ⊥ = omega arith in n)
has_at_place (x ∷ xs) zero d lt = ap (λ b. b || has x xs) (key_itself x)
has_at_place (x ∷ xs) (suc i) d lt = at (bytes_eq (get_or xs i d) x) (has_at_place xs i d (omega arith))
  where
    at : (b : Bool) → has (get_or xs i d) xs ≡ true → (b || has (get_or xs i d) xs) ≡ true
    at true h = refl
    at false h = h

-- whether a key is one of the first i + 1
pub has_take_more : (k : List ℕ) (keys : List (List ℕ)) (i : ℕ) (d : List ℕ) → i < length keys → has k (take (i + 1) keys) ≡ (has k (take i keys) || bytes_eq k (get_or keys i d))
has_take_more k [] i d lt = absurd (let n : ⊥ = omega arith in n)
has_take_more k (x ∷ xs) zero d lt = at (bytes_eq k x)
  where
    at : (b : Bool) → (b || false) ≡ (false || b)
    at true = refl
    at false = refl
has_take_more k (x ∷ xs) (suc i) d lt =
    ap (λ (n : ℕ). has k (take n (x ∷ xs))) (let n : suc i + 1 ≡ suc (i + 1) = omega arith in n) ∙ at (bytes_eq k x) (has_take_more k xs i d (omega arith))
  where
    at : (b : Bool) → has k (take (i + 1) xs) ≡ (has k (take i xs) || bytes_eq k (get_or xs i d)) → (b || has k (take (i + 1) xs)) ≡ ((b || has k (take i xs)) || bytes_eq k (get_or xs i d))
    at true ih = refl
    at false ih = ih

-- one more fence is raised
pub raises_more : (keys : List (List ℕ)) (at i : ℕ) (key d : List ℕ) (es fs gs : List (List ℕ × KeptObject)) → i < length keys → key ≡ get_or keys i d
    → RaisesFences (take i keys) at es fs → ChangesObject key (raised_to at) fs gs → RaisesFences (take (i + 1) keys) at es gs
raises_more keys n i key d es fs gs lt is h g = record {
  objects = λ k. g.objects k ∙ ap (λ (o : KeptObject). cond (bytes_eq key k) (raised_to n o) o) (h.objects k) ∙ both k (has k (take i keys)) (bytes_eq key k) refl
      ∙ ap (λ b. cond b (raised_to n (object_in k es)) (object_in k es)) (sym (has_take_more k keys i d lt ∙ ap (λ (q : List ℕ). has k (take i keys) || bytes_eq k q) (sym is)));
  keys = g.keys ∙ h.keys;
  total = omega (arith, h.total, g.total);
}
  where
    flip : (k q : List ℕ) → bytes_eq k q ≡ bytes_eq q k
    flip k q = lists_flip k q

    twice : (o : KeptObject) → raised_to n (raised_to n o) ≡ raised_to n o
    twice o = ap (λ (m : ℕ). let p : KeptObject = record o { fence = m } in p) (let e : max n (max n o.fence) ≡ max n o.fence = omega arith in e)

    both : (k : List ℕ) (a b : Bool) → bytes_eq key k ≡ b
        → cond b (raised_to n (cond a (raised_to n (object_in k es)) (object_in k es))) (cond a (raised_to n (object_in k es)) (object_in k es))
        ≡ cond (a || bytes_eq k key) (raised_to n (object_in k es)) (object_in k es)
    both k true true e = twice (object_in k es)
    both k true false e = refl
    both k false true e = ap (λ b. cond b (raised_to n (object_in k es)) (object_in k es)) (sym (flip k key ∙ e))
    both k false false e = ap (λ b. cond b (raised_to n (object_in k es)) (object_in k es)) (sym (flip k key ∙ e))

-- logged writes made the bases

pub lifted_push : (k : List ℕ) (ps : List SweptWrite) (p : SweptWrite) (o : KeptObject) → lifted k (ps ++ p ∷ []) o ≡ lifted_one k p (lifted k ps o)
lifted_push k [] p o = refl
lifted_push k (x ∷ xs) p o = lifted_push k xs p (lifted_one k x o)

pub lifts_more : (ps : List SweptWrite) (p : SweptWrite) (key : List ℕ) (es fs gs : List (List ℕ × KeptObject)) → key ≡ p.key → LiftsBases ps es fs
    → ChangesObject key (λ (o : KeptObject). let q : KeptObject = record o { base = later_write p.write o.base } in q) fs gs → LiftsBases (ps ++ p ∷ []) es gs
lifts_more ps p key es fs gs is h g = record {
  objects = λ k. g.objects k ∙ ap (λ b. cond b (record (object_in k fs) { base = later_write p.write (object_in k fs).base }) (object_in k fs)) (lists_flip key k ∙ ap (bytes_eq k) is)
      ∙ ap (lifted_one k p) (h.objects k) ∙ sym (lifted_push k ps p (object_in k es));
  keys = g.keys ∙ h.keys;
  total = omega (arith, h.total, g.total, length_push ps p, by_one (object_in key fs).base);
}
  where
    one_more : (o : Option Write) → base_count (later_write p.write o) ≡ 1
    one_more None = refl
    one_more (Some v) = at (is_below p.write.first p.write.second v.first v.second)
      where
        at : (b : Bool) → base_count (cond b (Some v) (Some p.write)) ≡ 1
        at true = refl
        at false = refl

    by_one : (o : Option Write) → base_count (later_write p.write o) ≤ base_count o + 1
    by_one o = omega (arith, one_more o)

pub passed_at_place : (ps : List SweptWrite) (i : ℕ) (d : SweptWrite) → i < length ps → has_swept_write (get_or ps i d).key ps ≡ true
passed_at_place [] i d lt = absurd (let n : ⊥ = omega arith in n)
passed_at_place (x ∷ xs) zero d lt = ap (λ b. b || has_swept_write x.key xs) (key_itself x.key)
passed_at_place (x ∷ xs) (suc i) d lt = at (bytes_eq (get_or xs i d).key x.key) (passed_at_place xs i d (omega arith))
  where
    at : (b : Bool) → has_swept_write (get_or xs i d).key xs ≡ true → (b || has_swept_write (get_or xs i d).key xs) ≡ true
    at true h = refl
    at false h = h

-- names are taken out

pub removed_more : (ss : List Settled) (i : ℕ) (s : Settled) (es fs gs : List ((List ℕ × ℕ) × Value)) → i < length ss → s ≡ get_or ss i s
    → ((n : Name) → value_under n fs ≡ cond (has_settled n (take i ss)) None (value_under n es))
    → ((n : Name) → value_under n gs ≡ cond (same_name_pair (s.name.path, s.name.place) (n.path, n.place)) None (value_under n fs))
    → (n : Name) → value_under n gs ≡ cond (has_settled n (take (i + 1) ss)) None (value_under n es)
removed_more ss i s es fs gs lt is h g n =
    g n ∙ ap (λ (o : Option Value). cond (same_name_pair (s.name.path, s.name.place) (n.path, n.place)) None o) (h n)
    ∙ both (same_name_pair (s.name.path, s.name.place) (n.path, n.place)) (has_settled n (take i ss))
    ∙ ap (λ b. cond b None (value_under n es)) (sym (more ss i lt ∙ ap (λ (x : Settled). has_settled n (take i ss) || same_name_pair (x.name.path, x.name.place) (n.path, n.place)) (sym is)))
  where
    both : (a b : Bool) → cond a None (cond b None (value_under n es)) ≡ cond (b || a) None (value_under n es)
    both true true = refl
    both true false = refl
    both false true = refl
    both false false = refl

    more : (ss : List Settled) (i : ℕ) → i < length ss → has_settled n (take (i + 1) ss) ≡ (has_settled n (take i ss) || same_name_pair ((get_or ss i s).name.path, (get_or ss i s).name.place) (n.path, n.place))
    more [] i lt = absurd (let h : ⊥ = omega arith in h)
    more (x ∷ xs) zero lt = at (same_name_pair (x.name.path, x.name.place) (n.path, n.place))
      where
        at : (b : Bool) → (b || false) ≡ (false || b)
        at true = refl
        at false = refl
    more (x ∷ xs) (suc i) lt =
        ap (λ (m : ℕ). has_settled n (take m (x ∷ xs))) (let e : suc i + 1 ≡ suc (i + 1) = omega arith in e) ∙ at (same_name_pair (x.name.path, x.name.place) (n.path, n.place)) (more xs i (omega arith))
      where
        at : (b : Bool) → has_settled n (take (i + 1) xs) ≡ (has_settled n (take i xs) || same_name_pair ((get_or xs i s).name.path, (get_or xs i s).name.place) (n.path, n.place))
            → (b || has_settled n (take (i + 1) xs)) ≡ ((b || has_settled n (take i xs)) || same_name_pair ((get_or xs i s).name.path, (get_or xs i s).name.place) (n.path, n.place))
        at true ih = refl
        at false ih = ih

-- copies of the logged writes that have a value

with_append : (o : Option SweptWrite) (xs ys : List SweptWrite) → prepend_some o (xs ++ ys) ≡ prepend_some o xs ++ ys
with_append None xs ys = refl
with_append (Some p) xs ys = refl

pub passed_of_more : (named : List ((List ℕ × ℕ) × Value)) (ss : List Settled) (i : ℕ) (s : Settled) (o : Option SweptWrite) (ps qs : List SweptWrite) → i < length ss → s ≡ get_or ss i s
    → ps ≡ swept_writes named (take i ss) → o ≡ swept_write named s → qs ≡ ps ++ prepend_some o [] → qs ≡ swept_writes named (take (i + 1) ss)
passed_of_more named ss i s o ps qs lt is before one push =
    push ∙ ap (λ (l : List SweptWrite). l ++ prepend_some o []) before
    ∙ ap (λ (p : Option SweptWrite). swept_writes named (take i ss) ++ prepend_some p []) (one ∙ ap (swept_write named) is) ∙ sym (more ss i lt)
  where
    more : (ss : List Settled) (i : ℕ) → i < length ss → swept_writes named (take (i + 1) ss) ≡ swept_writes named (take i ss) ++ prepend_some (swept_write named (get_or ss i s)) []
    more [] i lt = absurd (let h : ⊥ = omega arith in h)
    more (x ∷ xs) zero lt = refl
    more (x ∷ xs) (suc i) lt =
        ap (λ (m : ℕ). swept_writes named (take m (x ∷ xs))) (let e : suc i + 1 ≡ suc (i + 1) = omega arith in e)
        ∙ ap (prepend_some (swept_write named x)) (more xs i (omega arith))
        ∙ with_append (swept_write named x) (swept_writes named (take i xs)) (prepend_some (swept_write named (get_or xs i s)) [])

-- a version is put in

pub length_put_in : (w : Write) (ws : List Write) → length (insert_write w ws) ≡ length ws + 1
length_put_in w [] = refl
length_put_in w (v ∷ vs) = at (is_below v.first v.second w.first w.second) (length_put_in w vs)
  where
    at : (b : Bool) → length (insert_write w vs) ≡ length vs + 1 → length (cond b (v ∷ insert_write w vs) (w ∷ v ∷ vs)) ≡ suc (length vs) + 1
    at true ih = omega arith
    at false ih = omega arith

pub puts_is : (key : List ℕ) (w v : Write) (es fs gs : List (List ℕ × KeptObject)) → v ≡ w → AddsEmptyObjects es fs → ChangesObject key (with_version v) fs gs → PutsVersion key w es gs
puts_is key w v es fs gs is h g = record {
  objects = λ k. g.objects k ∙ ap (λ (o : KeptObject). cond (bytes_eq key k) (with_version v o) o) (h.objects k)
      ∙ ap (λ (x : Write). cond (bytes_eq key k) (with_version x (object_in k es)) (object_in k es)) is;
  total = omega (arith, h.total, g.total, length_put_in v (object_in key fs).versions);
  distinct = λ d. subst (IsDistinct bytes_eq) (sym g.keys) (h.distinct d);
}
