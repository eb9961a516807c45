-- A cache of 64 entries, as the states that it keeps.
use Rattle.std.proofs.Common.{◌≡◌, ℕ, suc, ◌-◌, ◌≤◌, Bool, true, false, not, cond, eqb, nat_eq, List, [], ◌∷◌, length, map, take, Option, Some, None, option_map, refl, sym, ap, subst, ◌∙◌, arith}
use Rattle.std.specs.List.{AllByRecursion, IsDistinct, filter}
use Rattle.std.specs.Map.{keys_of, lookup, lookup_entry, remove_entry}
use Rattle.std.specs.Option.{option_map_or}
use Rattle.std.proofs.lemmas.Bool.{eqb-true}
use Rattle.std.proofs.lemmas.List.{length-map, take-map, take_all}
use Rattle.lru.specs.LruCache.{LruCache, IsValid}
use Rattle.aux_cache.specs.Entries.{moved_to_front, with_entry}
use Rattle.log_folds.proofs.Each.{each_take, each_filtered}
use Rattle.fold_cache.specs.Kept.{KeptState, kept_state, state_at, with_state, kept_by}

-- What is so of each state that is kept.
module _ {S : Type 0} (P : KeptState S → Type 0) where
  pub all_with_state :
      (seq : ℕ) (state : S) (xs : List (KeptState S)) → AllByRecursion P xs → P (kept_state seq state)
      → AllByRecursion P (with_state seq state xs)
  all_with_state seq state xs all is = (is, each_take P 63 (filter (λ x. not (eqb seq x.seq)) xs) (each_filtered P (λ x. not (eqb seq x.seq)) xs all))

  pub of_state_at :
      (seq : ℕ) (state : S) (xs : List (KeptState S)) → AllByRecursion P xs → state_at seq xs ≡ Some state
      → P (kept_state seq state)
  of_state_at seq state [] all is = cc
  of_state_at seq state (x ∷ xs) all is = at (of_state_at seq state xs all.1) (eqb seq x.seq) refl is
    where
      at :
          (state_at seq xs ≡ Some state → P (kept_state seq state)) → (b : Bool) → eqb seq x.seq ≡ b
          → cond b (Some x.state) (state_at seq xs) ≡ Some state → P (kept_state seq state)
      at ih true t is =
          let same : x.state ≡ state = cc in
          subst P (ap (λ n. kept_state n x.state) (sym (eqb-true seq x.seq t)) ∙ ap (kept_state seq) same) all.0
      at ih false t is = ih is

-- What is so of each value of a cache.
module _ {V : Type 0} (P : V → Type 0) where
  pub of_lookup :
      (seq : ℕ) (v : V) (es : List (ℕ × V)) → AllByRecursion (λ e. P e.1) es → lookup (eqb seq) es ≡ Some v → P v
  of_lookup seq v [] all is = cc
  of_lookup seq v (e ∷ es) all is = at (of_lookup seq v es all.1) (eqb seq e.0) is
    where
      at : (lookup (eqb seq) es ≡ Some v → P v) → (b : Bool) → cond b (Some e.1) (lookup (eqb seq) es) ≡ Some v → P v
      at ih true is = subst P (let same : e.1 ≡ v = cc in same) all.0
      at ih false is = ih is

  all_removed :
      (seq : ℕ) (es : List (ℕ × V)) → AllByRecursion (λ e. P e.1) es
      → AllByRecursion (λ e. P e.1) (remove_entry (eqb seq) es)
  all_removed seq [] all = tt
  all_removed seq (e ∷ es) all = at (all_removed seq es all.1) (eqb seq e.0)
    where
      at :
          AllByRecursion (λ e. P e.1) (remove_entry (eqb seq) es) → (b : Bool)
          → AllByRecursion (λ e. P e.1) (cond b es (e ∷ remove_entry (eqb seq) es))
      at ih true = all.1
      at ih false = (all.0, ih)

  pub all_put :
      (seq : ℕ) (v : V) (c : LruCache ℕ V) → AllByRecursion (λ e. P e.1) c.entries → P v
      → AllByRecursion (λ e. P e.1) (with_entry seq v c).entries
  all_put seq v c all is = at (lookup_entry (eqb seq) c.entries)
    where
      at :
          (o : Option (ℕ × V))
          → AllByRecursion (λ e. P e.1) (option_map_or (λ e. (e.0, v) ∷ remove_entry (eqb seq) c.entries) o ((seq, v) ∷ take (c.cap - 1) c.entries))
      at None = (is, each_take (λ e. P e.1) (c.cap - 1) c.entries all)
      at (Some e) = (is, all_removed seq c.entries all)

  pub all_promoted :
      (seq : ℕ) (c : LruCache ℕ V) → AllByRecursion (λ e. P e.1) c.entries
      → AllByRecursion (λ e. P e.1) (moved_to_front seq c).entries
  all_promoted seq c all = at (lookup_entry (eqb seq) c.entries) refl
    where
      of_entry : (es : List (ℕ × V)) (e : ℕ × V) → AllByRecursion (λ e. P e.1) es → lookup_entry (eqb seq) es ≡ Some e → P e.1
      of_entry [] e all is = cc
      of_entry (d ∷ es) e all is = on (of_entry es e all.1) (eqb seq d.0) is
        where
          on : (lookup_entry (eqb seq) es ≡ Some e → P e.1) → (b : Bool) → cond b (Some d) (lookup_entry (eqb seq) es) ≡ Some e → P e.1
          on ih true is = subst (λ (e : ℕ × V). P e.1) (let same : d ≡ e = cc in same) all.0
          on ih false is = ih is

      at :
          (o : Option (ℕ × V)) → lookup_entry (eqb seq) c.entries ≡ o
          → AllByRecursion (λ e. P e.1) (option_map_or (λ e. e ∷ remove_entry (eqb seq) c.entries) o c.entries)
      at None is = all
      at (Some e) is = (of_entry c.entries e all is, all_removed seq c.entries all)

-- The cache as the states that its values stand for.
module _ {V S : Type 0} (f : V → S) where
  abbrev entry : ℕ × V → KeptState S
  entry e = kept_state e.0 (f e.1)

  pub looked_up : (seq : ℕ) (es : List (ℕ × V)) → option_map f (lookup (eqb seq) es) ≡ state_at seq (map entry es)
  looked_up seq [] = refl
  looked_up seq (e ∷ es) = at (looked_up seq es) (eqb seq e.0)
    where
      at :
          option_map f (lookup (eqb seq) es) ≡ state_at seq (map entry es) → (b : Bool)
          → option_map f (cond b (Some e.1) (lookup (eqb seq) es)) ≡ cond b (Some (f e.1)) (state_at seq (map entry es))
      at ih true = refl
      at ih false = ih

  abbrev others : ℕ → List (KeptState S) → List (KeptState S)
  others seq xs = filter (λ x. not (eqb seq x.seq)) xs

  all_others : (seq : ℕ) (es : List (ℕ × V)) → AllByRecursion (λ k. eqb seq k ≡ false) (keys_of es) → others seq (map entry es) ≡ map entry es
  all_others seq [] none = refl
  all_others seq (e ∷ es) none =
      ap (λ b. cond (not b) (entry e ∷ others seq (map entry es)) (others seq (map entry es))) none.0
      ∙ ap (λ l. entry e ∷ l) (all_others seq es none.1)

  removed : (seq : ℕ) (es : List (ℕ × V)) → IsDistinct eqb (keys_of es) → map entry (remove_entry (eqb seq) es) ≡ others seq (map entry es)
  unfolding IsDistinct
  removed seq [] apart = refl
  removed seq (e ∷ es) apart = at (removed seq es apart.1) (eqb seq e.0) refl
    where
      at :
          map entry (remove_entry (eqb seq) es) ≡ others seq (map entry es) → (b : Bool) → eqb seq e.0 ≡ b
          → map entry (cond b es (e ∷ remove_entry (eqb seq) es)) ≡ cond (not b) (entry e ∷ others seq (map entry es)) (others seq (map entry es))
      at ih true t = sym (all_others seq es (subst (λ k. AllByRecursion (λ y. eqb k y ≡ false) (keys_of es)) (sym (eqb-true seq e.0 t)) apart.0))
      at ih false t = ap (λ l. entry e ∷ l) ih

  -- what the look-up of an entry finds
  record Finds (seq : ℕ) (es : List (ℕ × V)) (e : ℕ × V) : Type 0 where
    key : e.0 ≡ seq
    value : lookup (eqb seq) es ≡ Some e.1
    fewer : suc (length (remove_entry (eqb seq) es)) ≡ length es

  finds : (seq : ℕ) (es : List (ℕ × V)) (e : ℕ × V) → lookup_entry (eqb seq) es ≡ Some e → Finds seq es e
  finds seq [] e is = cc
  finds seq (d ∷ es) e is = at (finds seq es e) (eqb seq d.0) refl is
    where
      at :
          (lookup_entry (eqb seq) es ≡ Some e → Finds seq es e) → (b : Bool) → eqb seq d.0 ≡ b
          → cond b (Some d) (lookup_entry (eqb seq) es) ≡ Some e → Finds seq (d ∷ es) e
      at ih true t is =
          let same : d ≡ e = cc in
          record {
            key = ap (λ (p : ℕ × V). p.0) (sym same) ∙ sym (eqb-true seq d.0 t);
            value = ap (λ b. cond b (Some d.1) (lookup (eqb seq) es)) t ∙ ap (λ (p : ℕ × V). Some p.1) same;
            fewer = ap (λ b. suc (length (cond b es (d ∷ remove_entry (eqb seq) es)))) t;
          }
      at ih false t is =
          let rest = ih is in
          record {
            key = rest.key;
            value = ap (λ b. cond b (Some d.1) (lookup (eqb seq) es)) t ∙ rest.value;
            fewer = ap (λ b. suc (length (cond b es (d ∷ remove_entry (eqb seq) es)))) t ∙ ap suc rest.fewer;
          }

  record Misses (seq : ℕ) (es : List (ℕ × V)) : Type 0 where
    value : lookup (eqb seq) es ≡ None
    all : others seq (map entry es) ≡ map entry es

  misses : (seq : ℕ) (es : List (ℕ × V)) → lookup_entry (eqb seq) es ≡ None → Misses seq es
  misses seq [] is = record { value = refl; all = refl }
  misses seq (d ∷ es) is = at (misses seq es) (eqb seq d.0) refl is
    where
      at :
          (lookup_entry (eqb seq) es ≡ None → Misses seq es) → (b : Bool) → eqb seq d.0 ≡ b
          → cond b (Some d) (lookup_entry (eqb seq) es) ≡ None → Misses seq (d ∷ es)
      at ih true t is = cc
      at ih false t is =
          let rest = ih is in
          record {
            value = ap (λ b. cond b (Some d.1) (lookup (eqb seq) es)) t ∙ rest.value;
            all = ap (λ b. cond (not b) (entry d ∷ others seq (map entry es)) (others seq (map entry es))) t ∙ ap (λ l. entry d ∷ l) rest.all;
          }

  abbrev Is64 : LruCache ℕ V → Type 0
  Is64 c = IsValid nat_eq c × (c.cap ≡ 64)

  -- an entry that is there comes to the front, with this value
  front_is :
      (seq : ℕ) (v : V) (e : ℕ × V) (c : LruCache ℕ V) → Is64 c → lookup_entry (eqb seq) c.entries ≡ Some e
      → map entry ((e.0, v) ∷ remove_entry (eqb seq) c.entries) ≡ with_state seq (f v) (kept_by f c)
  front_is seq v e c is found =
      let there = finds seq c.entries e found in
      let few = is.0.1 in
      let cap = is.1 in
      let fewer = there.fewer in
      let rest = removed seq c.entries is.0.0 in
      let long : length (others seq (map entry c.entries)) ≤ 63 = omega (arith, ap length rest, length-map (remove_entry (eqb seq) c.entries) entry) in
      ap (λ k. entry (k, v) ∷ map entry (remove_entry (eqb seq) c.entries)) there.key
      ∙ ap (λ l. entry (seq, v) ∷ l) (rest ∙ sym (take_all 63 (others seq (map entry c.entries)) long))

  put_is :
      (seq : ℕ) (v : V) (c : LruCache ℕ V) → Is64 c → (o : Option (ℕ × V)) → lookup_entry (eqb seq) c.entries ≡ o
      → map entry (option_map_or (λ e. (e.0, v) ∷ remove_entry (eqb seq) c.entries) o ((seq, v) ∷ take (c.cap - 1) c.entries))
      ≡ with_state seq (f v) (kept_by f c)
  put_is seq v c is None none =
      let cap = is.1 in
      ap (λ n. entry (seq, v) ∷ map entry (take n c.entries)) (let e : c.cap - 1 ≡ 63 = omega arith in e)
      ∙ ap (λ l. entry (seq, v) ∷ l) (sym (take-map entry 63 c.entries) ∙ ap (take 63) (sym (misses seq c.entries none).all))
  put_is seq v c is (Some e) found = front_is seq v e c is found

  -- a value is set
  pub set_is_kept :
      (seq : ℕ) (v : V) (c new : LruCache ℕ V) → IsValid nat_eq c → c.cap ≡ 64 → new ≡ with_entry seq v c
      → kept_by f new ≡ with_state seq (f v) (kept_by f c)
  set_is_kept seq v c new valid cap made =
      ap (kept_by f) made ∙ put_is seq v c (valid, cap) (lookup_entry (eqb seq) c.entries) refl

  -- a value comes to the front
  pub get_is_kept :
      (seq : ℕ) (v : V) (c new : LruCache ℕ V) → IsValid nat_eq c → c.cap ≡ 64 → lookup (eqb seq) c.entries ≡ Some v
      → new ≡ moved_to_front seq c → kept_by f new ≡ with_state seq (f v) (kept_by f c)
  get_is_kept seq v c new valid cap some made = ap (kept_by f) made ∙ at (lookup_entry (eqb seq) c.entries) refl
    where
      at :
          (o : Option (ℕ × V)) → lookup_entry (eqb seq) c.entries ≡ o
          → map entry (option_map_or (λ e. e ∷ remove_entry (eqb seq) c.entries) o c.entries) ≡ with_state seq (f v) (kept_by f c)
      at None none = let m = (misses seq c.entries none).value in cc
      at (Some e) found =
          let value = (finds seq c.entries e found).value in
          let same : e.1 ≡ v = cc in
          ap (λ x. map entry ((e.0, x) ∷ remove_entry (eqb seq) c.entries)) same
          ∙ front_is seq v e c (valid, cap) found
