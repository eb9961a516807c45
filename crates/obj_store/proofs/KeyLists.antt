-- The keys that are kept, in order.
use Rattle.std.proofs.Common.{◌≡◌, ℕ, zero, suc, ◌+◌, leb, eqb, Bool, true, false, T, cond, not, ◌&&◌, ◌||◌, List, [], ◌∷◌, length, take, slice_get, bytes_eq, is_eq, Option, Some, None, is_some, unwrap_or, refl, sym, ap, ◌∙◌, subst, arith}
use Rattle.std.specs.List.{IsDistinct}
use Rattle.std.specs.Map.{lookup, keys_of}
use Rattle.std.specs.BTreeMap.{insert_entry}
use Rattle.std.specs.Ordering.{match_ordering, is_lt}
use Rattle.std.specs.declared.cmp.Ordering.{Ordering}
use Rattle.std.specs.declared.cmp.Ordering.TheVariants.{Less, Equal, Greater}
use Rattle.std.specs.FinMap.{slice_cmp-IsAntisymmetric, nat_cmp-IsAntisymmetric}
use Rattle.std.specs.FinMap.Entries.{by_order, put, find, below_all, is_sorted, find-put, is_sorted-put, same_entries}
use Rattle.std.specs.Cmp.Lexicographic.{nat_list_cmp_total, nat_list_eq_equiv}
use Rattle.std.proofs.lemmas.Map.{lookup-none}
use Rattle.std.proofs.lemmas.Map.Entries.{none_past_head}
use Rattle.std.proofs.lemmas.Map.Keys.{IsDistinct-tail}
use Rattle.std.proofs.lemmas.Map.Text.{is_eq-slice_cmp}
use Rattle.std.proofs.lemmas.Bool.Decides.{nat_tests}
use Rattle.lb_base.specs.declared.value.Value.{Value}
use Rattle.lb_base.specs.declared.value.Value.TheVariants.{Nothing}
use Rattle.boki_types.specs.declared.body.Body.{Body}
use Rattle.boki_model.specs.Live.{Live}
use Rattle.boki_model.specs.Maps.{key_order, get}
use Rattle.boki_model.specs.Writes.{Version, Store, Write, is_below, later_write, last_write_below, logged_writes, version_writes, write_at, initial_keys, logged_keys_below}
use Rattle.obj_store.specs.Kept.{StoreState, KeptObject, empty_object, object_in, last_of_two, count_of, base_count}
use Rattle.obj_store.specs.Keys.{version_keys, keys_in, with_key, with_keys}
use Rattle.obj_store.specs.StandsFor.{StandsFor, versions_from, kept_of, base_of, initial_write}
use Rattle.obj_store.proofs.Held.{length_in_order}
use Rattle.obj_store.proofs.KeyCount.{counts_logged, counts_initial, present, present_put, logged_present, initial_present, initial_some, some_last, some_later}

abbrev pub Units : Type 0
Units = List (List ℕ × Unit {0})

pub with_keys_more : (es : List (List ℕ × KeptObject)) (i : ℕ) (e : List ℕ × KeptObject) (ks : Units) → slice_get es i ≡ Some e → with_keys (take (i + 1) es) ks ≡ with_key e (with_keys (take i es) ks)
with_keys_more [] i e ks is = absurd (let z : ⊥ = cc in z)
with_keys_more (x ∷ xs) zero e ks is = ap (λ (y : List ℕ × KeptObject). with_key y ks) (let s : x ≡ e = cc in s)
with_keys_more (x ∷ xs) (suc i) e ks is =
    ap (λ (n : ℕ). with_keys (take n (x ∷ xs)) ks) (let z : suc i + 1 ≡ suc (i + 1) = omega arith in z) ∙ with_keys_more xs i e (with_key x ks) is

insert_is : (k : List ℕ) (ks : Units) → insert_entry key_order ks k tt ≡ put key_order k tt ks
insert_is k [] = refl
insert_is k (e ∷ es) = by (key_order k e.0) (insert_is k es)
  where
    by : (o : Ordering) → insert_entry key_order es k tt ≡ put key_order k tt es
        → match_ordering o ((k, tt) ∷ e ∷ es) ((e.0, tt) ∷ es) (e ∷ insert_entry key_order es k tt) ≡ by_order o ((k, tt) ∷ e ∷ es) ((e.0, tt) ∷ es) (e ∷ put key_order k tt es)
    by Less ih = refl
    by Equal ih = refl
    by Greater ih = ap (λ (l : Units). let m : Units = e ∷ l in m) ih

sorted_with : (e : List ℕ × KeptObject) (ks : Units) → T (is_sorted key_order ks) → T (is_sorted key_order (with_key e ks))
sorted_with e ks h = by (eqb (count_of e.1) 0)
  where
    by : (b : Bool) → T (is_sorted key_order (cond b ks (insert_entry key_order ks e.0 tt)))
    by true = h
    by false = subst (λ (l : Units). T (is_sorted key_order l)) (sym (insert_is e.0 ks)) (is_sorted-put key_order nat_list_cmp_total e.0 tt ks h)

sorted_all : (es : List (List ℕ × KeptObject)) (ks : Units) → T (is_sorted key_order ks) → T (is_sorted key_order (with_keys es ks))
sorted_all [] ks h = h
sorted_all (e ∷ es) ks h = sorted_all es (with_key e ks) (sorted_with e ks h)

abbrev is_kept : KeptObject → Bool
is_kept o = not (eqb (count_of o) 0)

found_with : (q : List ℕ) (e : List ℕ × KeptObject) (ks : Units) → find key_order q (with_key e ks) ≡ cond (is_kept e.1 && bytes_eq q e.0) (Some tt) (find key_order q ks)
found_with q e ks = by (eqb (count_of e.1) 0)
  where
    by : (b : Bool) → find key_order q (cond b ks (insert_entry key_order ks e.0 tt)) ≡ cond (not b && bytes_eq q e.0) (Some tt) (find key_order q ks)
    by true = refl
    by false = ap (find key_order q) (insert_is e.0 ks) ∙ find-put key_order nat_list_cmp_total q e.0 tt ks ∙ ap (λ b. cond b (Some tt) (find key_order q ks)) (is_eq-slice_cmp q e.0)

found_all : (q : List ℕ) (es : List (List ℕ × KeptObject)) (ks : Units) → IsDistinct bytes_eq (keys_of es) → find key_order q (with_keys es ks) ≡ cond (is_kept (object_in q es)) (Some tt) (find key_order q ks)
found_all q [] ks distinct = refl
found_all q (e ∷ es) ks distinct =
    found_all q es (with_key e ks) (IsDistinct-tail bytes_eq e.0 (keys_of es) distinct)
    ∙ ap (λ (o : Option (Unit {0})). cond (is_kept (object_in q es)) (Some tt) o) (found_with q e ks)
    ∙ by (bytes_eq q e.0) refl
  where
    by : (b : Bool) → bytes_eq q e.0 ≡ b
        → cond (is_kept (object_in q es)) (Some tt) (cond (is_kept e.1 && b) (Some tt) (find key_order q ks))
        ≡ cond (is_kept (unwrap_or (cond b (Some e.1) (lookup (bytes_eq q) es)) empty_object)) (Some tt) (find key_order q ks)
    by true is =
        ap (λ (o : Option KeptObject). cond (is_kept (unwrap_or o empty_object)) (Some tt) (cond (is_kept e.1 && true) (Some tt) (find key_order q ks))) (lookup-none (bytes_eq q) es (none_past_head nat_list_eq_equiv q e es distinct is))
        ∙ at (is_kept e.1)
      where
        at : (b : Bool) → cond (b && true) (Some tt) (find key_order q ks) ≡ cond b (Some tt) (find key_order q ks)
        at true = refl
        at false = refl
    by false is = at (is_kept e.1) (is_kept (object_in q es))
      where
        at : (a b : Bool) → cond b (Some tt) (cond (a && false) (Some tt) (find key_order q ks)) ≡ cond b (Some tt) (find key_order q ks)
        at true b = refl
        at false b = refl

-- the definition's keys, without values

abbrev pub units : List (List ℕ × Value) → Units
units [] = []
units (k ∷ ks) = (k.0, tt) ∷ units ks

keys_units : (ks : List (List ℕ × Value)) → keys_of (units ks) ≡ keys_of ks
keys_units [] = refl
keys_units (k ∷ ks) = ap (λ (l : List (List ℕ)). let m : List (List ℕ) = k.0 ∷ l in m) (keys_units ks)

below_units : (x : List ℕ) (ks : List (List ℕ × Value)) → below_all key_order x (units ks) ≡ below_all key_order x ks
below_units x [] = refl
below_units x (k ∷ ks) = ap (λ b. is_lt (key_order x k.0) && b) (below_units x ks)

sorted_units : (ks : List (List ℕ × Value)) → is_sorted key_order (units ks) ≡ is_sorted key_order ks
sorted_units [] = refl
sorted_units (k ∷ ks) = ap (λ b. b && is_sorted key_order (units ks)) (below_units k.0 ks) ∙ ap (λ b. below_all key_order k.0 ks && b) (sorted_units ks)

found_units : (q : List ℕ) (ks : List (List ℕ × Value)) → find key_order q (units ks) ≡ cond (present q ks) (Some tt) None
found_units q [] = refl
found_units q (k ∷ ks) = by (is_eq (key_order q k.0)) (found_units q ks)
  where
    by : (b : Bool) → find key_order q (units ks) ≡ cond (present q ks) (Some tt) None → cond b (Some tt) (find key_order q (units ks)) ≡ cond (is_some (cond b (Some k.1) (get q ks))) (Some tt) None
    by true ih = refl
    by false ih = ih

-- which keys these are

one_is_kept : (n : ℕ) → not (eqb (suc n) 0) ≡ true
one_is_kept n = let t : eqb (suc n) 0 ≡ false = grind (arith, nat_tests) in ap not t

known_present : (q : List ℕ) (vs : List Version) (ks : List (List ℕ × Value)) → present q (version_keys vs ks) ≡ (not (eqb (length (version_writes q vs)) 0) || present q ks)
known_present q [] ks = refl
known_present q (v ∷ vs) ks = present_put q v.key Nothing (version_keys vs ks) ∙ by (bytes_eq q v.key) (known_present q vs ks)
  where
    by : (b : Bool) → present q (version_keys vs ks) ≡ (not (eqb (length (version_writes q vs)) 0) || present q ks)
        → (b || present q (version_keys vs ks)) ≡ (not (eqb (length (cond b (write_at v.cursor v.number v.value ∷ version_writes q vs) (version_writes q vs))) 0) || present q ks)
    by true ih = sym (ap (λ b. b || present q ks) (one_is_kept (length (version_writes q vs))))
    by false ih = ih

or_true : (b : Bool) → true ≡ (b || true)
or_true true = refl
or_true false = refl

any_splits : (f : ℕ) (q : List ℕ) (vs : List Version) → not (eqb (length (version_writes q vs)) 0) ≡ (is_some (last_write_below f 0 (version_writes q vs)) || not (eqb (length (version_writes q (versions_from f vs))) 0))
any_splits f q [] = refl
any_splits f q (v ∷ vs) = by (leb f v.cursor) (bytes_eq q v.key) refl refl (any_splits f q vs)
  where
    by : (p b : Bool) → leb f v.cursor ≡ p → bytes_eq q v.key ≡ b
        → not (eqb (length (version_writes q vs)) 0) ≡ (is_some (last_write_below f 0 (version_writes q vs)) || not (eqb (length (version_writes q (versions_from f vs))) 0))
        → not (eqb (length (cond b (write_at v.cursor v.number v.value ∷ version_writes q vs) (version_writes q vs))) 0)
        ≡ (is_some (last_write_below f 0 (cond b (write_at v.cursor v.number v.value ∷ version_writes q vs) (version_writes q vs))) || not (eqb (length (version_writes q (cond p (v ∷ versions_from f vs) (versions_from f vs)))) 0))
    by false false e h ih = ih
    by true false e h ih = ih ∙ sym (ap (λ x. is_some (last_write_below f 0 (version_writes q vs)) || not (eqb (length (cond x (write_at v.cursor v.number v.value ∷ version_writes q (versions_from f vs)) (version_writes q (versions_from f vs)))) 0)) h)
    by true true e h ih =
        one_is_kept (length (version_writes q vs))
        ∙ or_true (is_some (last_write_below f 0 (write_at v.cursor v.number v.value ∷ version_writes q vs)))
        ∙ ap (λ b. is_some (last_write_below f 0 (write_at v.cursor v.number v.value ∷ version_writes q vs)) || b) (sym (
        ap (λ x. not (eqb (length (cond x (write_at v.cursor v.number v.value ∷ version_writes q (versions_from f vs)) (version_writes q (versions_from f vs)))) 0)) h
        ∙ one_is_kept (length (version_writes q (versions_from f vs)))))
    by false true e h ih =
        one_is_kept (length (version_writes q vs))
        ∙ ap (λ b. b || not (eqb (length (version_writes q (versions_from f vs))) 0)) (sym (
        ap (λ x. is_some (cond x (later_write (write_at v.cursor v.number v.value) (last_write_below f 0 (version_writes q vs))) (last_write_below f 0 (version_writes q vs)))) (let t : is_below v.cursor v.number f 0 ≡ true = grind (arith, nat_tests) in t)
        ∙ some_later (write_at v.cursor v.number v.value) (last_write_below f 0 (version_writes q vs))))

kept_any : (o : KeptObject) → not (eqb (count_of o) 0) ≡ (is_some o.base || not (eqb (length o.versions) 0))
kept_any o = by o.base (length o.versions)
  where
    by : (b : Option Write) (n : ℕ) → not (eqb (base_count b + n) 0) ≡ (is_some b || not (eqb n 0))
    by None n = ap (λ (x : ℕ). not (eqb x 0)) (let t : 0 + n ≡ n = omega arith in t)
    by (Some w) n = ap (λ (x : ℕ). not (eqb x 0)) (let t : 1 + n ≡ suc n = omega arith in t) ∙ one_is_kept n

module _ (kept : StoreState) (m : Store) (records : List (Live Body)) (stands : StandsFor kept m records) where
  known_sorted : (vs : List Version) → T (is_sorted key_order (version_keys vs (logged_keys_below m.floor records (initial_keys m.initial))))
  known_sorted [] = (counts_logged kept.objects stands.sound.keys m.floor records (initial_keys m.initial) (counts_initial kept.objects stands.sound.keys m.initial)).0
  known_sorted (v ∷ vs) = is_sorted-put key_order nat_list_cmp_total v.key Nothing (version_keys vs (logged_keys_below m.floor records (initial_keys m.initial))) (known_sorted vs)

  kept_is_known : (q : List ℕ) → not (eqb (count_of (object_in q kept.objects)) 0) ≡ present q (version_keys m.versions (logged_keys_below m.floor records (initial_keys m.initial)))
  kept_is_known q =
      ap (λ (o : KeptObject). not (eqb (count_of o) 0)) (stands.objects q) ∙ kept_any (kept_of q m records)
      ∙ ap (λ (n : ℕ). is_some (base_of q m records) || not (eqb n 0)) (length_in_order (version_writes q (versions_from m.floor m.versions)))
      ∙ ap (λ b. b || not (eqb (length (version_writes q (versions_from m.floor m.versions))) 0)) (some_last (last_write_below m.floor 0 (logged_writes q m.named records)) (last_of_two (last_write_below m.floor 0 (version_writes q m.versions)) (initial_write q m.initial))
      ∙ ap (λ b. is_some (last_write_below m.floor 0 (logged_writes q m.named records)) || b) (some_last (last_write_below m.floor 0 (version_writes q m.versions)) (initial_write q m.initial)))
      ∙ swap (is_some (last_write_below m.floor 0 (logged_writes q m.named records))) (is_some (last_write_below m.floor 0 (version_writes q m.versions))) (is_some (initial_write q m.initial)) (not (eqb (length (version_writes q (versions_from m.floor m.versions))) 0))
      ∙ sym (known_present q m.versions (logged_keys_below m.floor records (initial_keys m.initial))
      ∙ ap (λ b. b || present q (logged_keys_below m.floor records (initial_keys m.initial))) (any_splits m.floor q m.versions)
      ∙ ap (λ b. (is_some (last_write_below m.floor 0 (version_writes q m.versions)) || not (eqb (length (version_writes q (versions_from m.floor m.versions))) 0)) || b)
      (logged_present q m.floor m.named (initial_keys m.initial) records stands.valued
      ∙ ap (λ b. is_some (last_write_below m.floor 0 (logged_writes q m.named records)) || b) (initial_present q m.initial ∙ sym (initial_some q m.initial))))
    where
      swap : (l v i s : Bool) → ((l || (v || i)) || s) ≡ ((v || s) || (l || i))
      swap true true i s = refl
      swap true false i true = refl
      swap true false i false = refl
      swap false true i s = refl
      swap false false true true = refl
      swap false false true false = refl
      swap false false false true = refl
      swap false false false false = refl

  pub keys_are : keys_of (with_keys kept.objects []) ≡ keys_in m records
  keys_are =
      ap keys_of (same_entries key_order nat_list_cmp_total (slice_cmp-IsAntisymmetric nat_cmp-IsAntisymmetric) (with_keys kept.objects [])
      (units (version_keys m.versions (logged_keys_below m.floor records (initial_keys m.initial))))
      (sorted_all kept.objects [] tt)
      (subst T (sym (sorted_units (version_keys m.versions (logged_keys_below m.floor records (initial_keys m.initial))))) (known_sorted m.versions))
      (λ q. found_all q kept.objects [] stands.sound.keys ∙ ap (λ b. cond b (Some tt) None) (kept_is_known q)
      ∙ sym (found_units q (version_keys m.versions (logged_keys_below m.floor records (initial_keys m.initial))))))
      ∙ keys_units (version_keys m.versions (logged_keys_below m.floor records (initial_keys m.initial)))
