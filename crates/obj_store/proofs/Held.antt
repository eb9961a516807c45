-- The numbers of versions, of bases and of named values.
use Rattle.std.proofs.Common.{◌≡◌, ℕ, suc, ◌+◌, ◌<◌, ◌≤◌, leb, eqb, Bool, true, false, cond, List, [], ◌∷◌, length, filter, sum_by, bytes_eq, Option, Some, None, is_some, unwrap_or, refl, sym, ap, ◌∙◌, subst, arith}
use Rattle.std.specs.List.{IsDistinct}
use Rattle.std.specs.Map.{lookup, keys_of, values_of}
use Rattle.std.specs.Cmp.Lexicographic.{nat_list_eq_equiv}
use Rattle.std.proofs.lemmas.List.Sums.{sum_by-cons}
use Rattle.std.proofs.lemmas.Bool.Decides.{nat_tests}
use Rattle.boki_types.specs.declared.body.Body.{Body}
use Rattle.boki_model.specs.Live.{Live}
use Rattle.boki_model.specs.Writes.{Version, Store, Write, is_below, version_writes, write_at, versions_at}
use Rattle.obj_store.specs.Kept.{StoreState, KeptObject, empty_object, has_key, insert_write, sort_writes, base_count, count_of, total}
use Rattle.obj_store.specs.StandsFor.{StandsFor, versions_from, kept_of, base_of}
use Rattle.obj_store.specs.Steps.{count_at_cursor}
use Rattle.obj_store.proofs.Entries.{key_itself}
use Rattle.obj_store.proofs.Passing.{length_put_in}
use Rattle.obj_store.proofs.Counting.{key_sum, key_sum_same, key_sum_zero, key_sum_plus, one_at, one_there, sum_by_keys}

-- the versions of each key are all versions

abbrev pub AllHave : List (List ℕ × KeptObject) → List Version → Type 0
AllHave es [] = Unit {0}
AllHave es (v ∷ vs) = (has_key v.key es ≡ true) × AllHave es vs

pub versions_sum : (es : List (List ℕ × KeptObject)) (vs : List Version) → IsDistinct bytes_eq (keys_of es) → AllHave es vs → key_sum (λ k. length (version_writes k vs)) es ≡ length vs
versions_sum es [] distinct h = key_sum_zero es
versions_sum es (v ∷ vs) distinct h =
    key_sum_same (λ k. length (version_writes k (v ∷ vs))) (λ k. one_at v.key k + length (version_writes k vs)) es (λ k. by k (bytes_eq k v.key) refl)
    ∙ key_sum_plus (one_at v.key) (λ k. length (version_writes k vs)) es
    ∙ (let a = one_there v.key es distinct h.0 in let b = versions_sum es vs distinct h.1 in omega arith)
  where
    by : (k : List ℕ) (b : Bool) → bytes_eq k v.key ≡ b → length (cond b (write_at v.cursor v.number v.value ∷ version_writes k vs) (version_writes k vs)) ≡ one_at v.key k + length (version_writes k vs)
    by k true e = (let z : suc (length (version_writes k vs)) ≡ 1 + length (version_writes k vs) = omega arith in z) ∙ ap (λ b. cond b 1 0 + length (version_writes k vs)) (sym (nat_list_eq_equiv.symm v.key k ∙ e))
    by k false e = (let z : length (version_writes k vs) ≡ 0 + length (version_writes k vs) = omega arith in z) ∙ ap (λ b. cond b 1 0 + length (version_writes k vs)) (sym (nat_list_eq_equiv.symm v.key k ∙ e))

-- counts don't depend on the order

pub length_in_order : (ws : List Write) → length (sort_writes ws) ≡ length ws
length_in_order [] = refl
length_in_order (w ∷ ws) = omega (arith, length_put_in w (sort_writes ws), length_in_order ws)

abbrev pub at_cursor : ℕ → List Write → List Write
at_cursor c ws = filter (λ w. eqb c w.first) ws

count_put_in : (c : ℕ) (w : Write) (ws : List Write) → length (at_cursor c (insert_write w ws)) ≡ length (at_cursor c (w ∷ ws))
count_put_in c w [] = refl
count_put_in c w (v ∷ vs) = by (is_below v.first v.second w.first w.second) (eqb c v.first) (eqb c w.first) refl refl (count_put_in c w vs)
  where
    by : (b p q : Bool) → eqb c v.first ≡ p → eqb c w.first ≡ q → length (at_cursor c (insert_write w vs)) ≡ length (at_cursor c (w ∷ vs))
        → length (at_cursor c (cond b (v ∷ insert_write w vs) (w ∷ v ∷ vs))) ≡ length (at_cursor c (w ∷ v ∷ vs))
    by false p q e h ih = refl
    by true p q e h ih =
        ap (λ b. length (cond b (v ∷ at_cursor c (insert_write w vs)) (at_cursor c (insert_write w vs)))) e
        ∙ both p q (ih ∙ ap (λ b. length (cond b (w ∷ at_cursor c vs) (at_cursor c vs))) h)
        ∙ sym (ap (λ b. length (cond b (w ∷ at_cursor c (v ∷ vs)) (at_cursor c (v ∷ vs)))) h ∙ ap (λ b. length (cond q (w ∷ cond b (v ∷ at_cursor c vs) (at_cursor c vs)) (cond b (v ∷ at_cursor c vs) (at_cursor c vs)))) e)
      where
        both : (p q : Bool) → length (at_cursor c (insert_write w vs)) ≡ length (cond q (w ∷ at_cursor c vs) (at_cursor c vs))
            → length (cond p (v ∷ at_cursor c (insert_write w vs)) (at_cursor c (insert_write w vs))) ≡ length (cond q (w ∷ cond p (v ∷ at_cursor c vs) (at_cursor c vs)) (cond p (v ∷ at_cursor c vs) (at_cursor c vs)))
        both true true e = omega arith
        both true false e = omega arith
        both false true e = omega arith
        both false false e = omega arith

pub count_in_order : (c : ℕ) (ws : List Write) → length (at_cursor c (sort_writes ws)) ≡ length (at_cursor c ws)
count_in_order c [] = refl
count_in_order c (w ∷ ws) = count_put_in c w (sort_writes ws) ∙ by (eqb c w.first) (count_in_order c ws)
  where
    by : (b : Bool) → length (at_cursor c (sort_writes ws)) ≡ length (at_cursor c ws) → length (cond b (w ∷ at_cursor c (sort_writes ws)) (at_cursor c (sort_writes ws))) ≡ length (cond b (w ∷ at_cursor c ws) (at_cursor c ws))
    by true e = ap suc e
    by false e = e

-- the versions of a key at a cursor, at or above the floor
pub count_versions : (f c : ℕ) (k : List ℕ) (vs : List Version) → f ≤ c → at_cursor c (version_writes k (versions_from f vs)) ≡ version_writes k (filter (λ v. eqb c v.cursor) vs)
count_versions f c k [] le = refl
count_versions f c k (v ∷ vs) le = by (leb f v.cursor) (eqb c v.cursor) (bytes_eq k v.key) refl refl refl (count_versions f c k vs le)
  where
    by : (p q b : Bool) → leb f v.cursor ≡ p → eqb c v.cursor ≡ q → bytes_eq k v.key ≡ b
        → at_cursor c (version_writes k (versions_from f vs)) ≡ version_writes k (filter (λ u. eqb c u.cursor) vs)
        → at_cursor c (version_writes k (cond p (v ∷ versions_from f vs) (versions_from f vs))) ≡ version_writes k (cond q (v ∷ filter (λ u. eqb c u.cursor) vs) (filter (λ u. eqb c u.cursor) vs))
    by false true b e h g ih = absurd (let z : ⊥ = grind (arith, nat_tests) in z)
    by false false b e h g ih = ih
    by true true true e h g ih =
        ap (λ x. at_cursor c (cond x (write_at v.cursor v.number v.value ∷ version_writes k (versions_from f vs)) (version_writes k (versions_from f vs)))) g
        ∙ ap (λ x. cond x (write_at v.cursor v.number v.value ∷ at_cursor c (version_writes k (versions_from f vs))) (at_cursor c (version_writes k (versions_from f vs)))) h
        ∙ ap (λ (l : List Write). let m : List Write = write_at v.cursor v.number v.value ∷ l in m) ih
        ∙ sym (ap (λ x. cond x (write_at v.cursor v.number v.value ∷ version_writes k (filter (λ u. eqb c u.cursor) vs)) (version_writes k (filter (λ u. eqb c u.cursor) vs))) g)
    by true false true e h g ih =
        ap (λ x. at_cursor c (cond x (write_at v.cursor v.number v.value ∷ version_writes k (versions_from f vs)) (version_writes k (versions_from f vs)))) g
        ∙ ap (λ x. cond x (write_at v.cursor v.number v.value ∷ at_cursor c (version_writes k (versions_from f vs))) (at_cursor c (version_writes k (versions_from f vs)))) h ∙ ih
    by true true false e h g ih =
        ap (λ x. at_cursor c (cond x (write_at v.cursor v.number v.value ∷ version_writes k (versions_from f vs)) (version_writes k (versions_from f vs)))) g ∙ ih
        ∙ sym (ap (λ x. cond x (write_at v.cursor v.number v.value ∷ version_writes k (filter (λ u. eqb c u.cursor) vs)) (version_writes k (filter (λ u. eqb c u.cursor) vs))) g)
    by true false false e h g ih =
        ap (λ x. at_cursor c (cond x (write_at v.cursor v.number v.value ∷ version_writes k (versions_from f vs)) (version_writes k (versions_from f vs)))) g ∙ ih

module _ (kept : StoreState) (m : Store) (records : List (Live Body)) (stands : StandsFor kept m records) where
  -- an object of which something is kept has an entry
  pub has_entry : (k : List ℕ) → (kept_of k m records ≡ empty_object → ⊥) → has_key k kept.objects ≡ true
  has_entry k h = by (lookup (bytes_eq k) kept.objects) refl
    where
      by : (o : Option KeptObject) → lookup (bytes_eq k) kept.objects ≡ o → has_key k kept.objects ≡ true
      by None e = absurd (h (sym (stands.objects k) ∙ ap (λ (o : Option KeptObject). unwrap_or o empty_object) e))
      by (Some o) e = ap is_some e

  more_versions : (v : Version) (vs : List Version) → m.floor ≤ v.cursor → 0 < length (version_writes v.key (versions_from m.floor (v ∷ vs)))
  more_versions v vs le =
      subst (λ b. 0 < length (version_writes v.key (cond b (v ∷ versions_from m.floor vs) (versions_from m.floor vs)))) (sym (let t : leb m.floor v.cursor ≡ true = grind (arith, nat_tests) in t))
      (subst (λ b. 0 < length (cond b (write_at v.cursor v.number v.value ∷ version_writes v.key (versions_from m.floor vs)) (version_writes v.key (versions_from m.floor vs)))) (sym (key_itself v.key)) (omega arith))

  kept_version : (k : List ℕ) → 0 < length (version_writes k (versions_from m.floor m.versions)) → kept_of k m records ≡ empty_object → ⊥
  kept_version k h e = let n = ap (λ (o : KeptObject). length o.versions) e in let l = length_in_order (version_writes k (versions_from m.floor m.versions)) in let z : ⊥ = omega arith in z

module _ (f : ℕ) (es : List (List ℕ × KeptObject)) where
  one_more : (k : List ℕ) (v : Version) (vs : List Version) → length (version_writes k (versions_from f vs)) ≤ length (version_writes k (versions_from f (v ∷ vs)))
  one_more k v vs = by (leb f v.cursor) (bytes_eq k v.key) refl
    where
      by : (p b : Bool) → bytes_eq k v.key ≡ b → length (version_writes k (versions_from f vs)) ≤ length (version_writes k (cond p (v ∷ versions_from f vs) (versions_from f vs)))
      by false b e = omega arith
      by true true e = subst (λ x. length (version_writes k (versions_from f vs)) ≤ length (cond x (write_at v.cursor v.number v.value ∷ version_writes k (versions_from f vs)) (version_writes k (versions_from f vs)))) (sym e) (omega arith)
      by true false e = subst (λ x. length (version_writes k (versions_from f vs)) ≤ length (cond x (write_at v.cursor v.number v.value ∷ version_writes k (versions_from f vs)) (version_writes k (versions_from f vs)))) (sym e) (omega arith)

  its_own : (v : Version) (vs : List Version) → leb f v.cursor ≡ true → 0 < length (version_writes v.key (versions_from f (v ∷ vs)))
  its_own v vs e =
      subst (λ b. 0 < length (version_writes v.key (cond b (v ∷ versions_from f vs) (versions_from f vs)))) (sym e)
      (subst (λ b. 0 < length (cond b (write_at v.cursor v.number v.value ∷ version_writes v.key (versions_from f vs)) (version_writes v.key (versions_from f vs)))) (sym (key_itself v.key)) (omega arith))

  pub have_standing : (vs : List Version) → ((k : List ℕ) → 0 < length (version_writes k (versions_from f vs)) → has_key k es ≡ true) → AllHave es (versions_from f vs)
  have_standing [] h = tt
  have_standing (v ∷ vs) h = by (leb f v.cursor) refl (have_standing vs (λ k lt. h k (omega (arith, lt, one_more k v vs))))
    where
      by : (p : Bool) → leb f v.cursor ≡ p → AllHave es (versions_from f vs) → AllHave es (cond p (v ∷ versions_from f vs) (versions_from f vs))
      by true e ih = (h v.key (its_own v vs e), ih)
      by false e ih = ih

  pub have_at : (c : ℕ) (vs : List Version) → f ≤ c → ((k : List ℕ) → 0 < length (version_writes k (versions_from f vs)) → has_key k es ≡ true) → AllHave es (filter (λ v. eqb c v.cursor) vs)
  have_at c [] le h = tt
  have_at c (v ∷ vs) le h = by (eqb c v.cursor) refl (have_at c vs le (λ k lt. h k (omega (arith, lt, one_more k v vs))))
    where
      by : (p : Bool) → eqb c v.cursor ≡ p → AllHave es (filter (λ u. eqb c u.cursor) vs) → AllHave es (cond p (v ∷ filter (λ u. eqb c u.cursor) vs) (filter (λ u. eqb c u.cursor) vs))
      by true e ih = (h v.key (its_own v vs (let t : leb f v.cursor ≡ true = grind (arith, nat_tests) in t)), ih)
      by false e ih = ih

count_le : (c : ℕ) (ws : List Write) → length (at_cursor c ws) ≤ length ws
count_le c [] = omega arith
count_le c (w ∷ ws) = by (eqb c w.first) (count_le c ws)
  where
    by : (b : Bool) → length (at_cursor c ws) ≤ length ws → length (cond b (w ∷ at_cursor c ws) (at_cursor c ws)) ≤ suc (length ws)
    by true h = omega arith
    by false h = omega arith

pub counts_le : (c : ℕ) (es : List (List ℕ × KeptObject)) → sum_by (count_at_cursor c) (values_of es) ≤ total es
counts_le c [] = omega arith
counts_le c (e ∷ es) = omega (arith, counts_le c es, count_le c e.1.versions, sum_by-cons (count_at_cursor c) e.1 (values_of es), sum_by-cons count_of e.1 (values_of es))

module _ (kept : StoreState) (m : Store) (records : List (Live Body)) (stands : StandsFor kept m records) where
  entries : (k : List ℕ) → 0 < length (version_writes k (versions_from m.floor m.versions)) → has_key k kept.objects ≡ true
  entries k h = has_entry kept m records stands k (λ e.
      let n : length (sort_writes (version_writes k (versions_from m.floor m.versions))) ≡ 0 = ap (λ (o : KeptObject). length o.versions) e in
      let l = length_in_order (version_writes k (versions_from m.floor m.versions)) in let z : ⊥ = omega arith in z)

  pub versions_at_is : (c : ℕ) → m.floor ≤ c → sum_by (count_at_cursor c) (values_of kept.objects) ≡ versions_at c m.versions
  versions_at_is c le =
      sum_by_keys (count_at_cursor c) (λ k. length (version_writes k (filter (λ v. eqb c v.cursor) m.versions))) kept.objects stands.sound.keys
      (λ k has. ap (count_at_cursor c) (stands.objects k) ∙ count_in_order c (version_writes k (versions_from m.floor m.versions)) ∙ ap length (count_versions m.floor c k m.versions le))
      ∙ versions_sum kept.objects (filter (λ v. eqb c v.cursor) m.versions) stands.sound.keys (have_at m.floor kept.objects c m.versions le entries)

  pub total_is : total kept.objects ≡ key_sum (λ k. base_count (base_of k m records)) kept.objects + length (versions_from m.floor m.versions)
  total_is =
      sum_by_keys count_of (λ k. base_count (base_of k m records) + length (version_writes k (versions_from m.floor m.versions))) kept.objects stands.sound.keys
      (λ k has. ap count_of (stands.objects k) ∙ ap (λ (n : ℕ). base_count (base_of k m records) + n) (length_in_order (version_writes k (versions_from m.floor m.versions))))
      ∙ key_sum_plus (λ k. base_count (base_of k m records)) (λ k. length (version_writes k (versions_from m.floor m.versions))) kept.objects
      ∙ ap (λ (n : ℕ). key_sum (λ k. base_count (base_of k m records)) kept.objects + n)
      (versions_sum kept.objects (versions_from m.floor m.versions) stands.sound.keys (have_standing m.floor kept.objects m.versions entries))
