-- The number of bases that are kept.
use Rattle.std.proofs.Common.{◌≡◌, ℕ, ◌+◌, ◌<◌, ltb, Bool, true, false, T, cond, ◌||◌, List, [], ◌∷◌, length, bytes_eq, Option, Some, None, is_some, option_map, refl, sym, ap, ◌∙◌, arith}
use Rattle.std.specs.List.{IsDistinct}
use Rattle.std.specs.Map.{keys_of}
use Rattle.std.specs.FinMap.Entries.{find-put, is_sorted-put, length-put}
use Rattle.std.specs.FinMap as map
use Rattle.std.specs.Cmp.Lexicographic.{nat_list_cmp_total}
use Rattle.std.proofs.lemmas.Map.Text.{is_eq-slice_cmp}
use Rattle.std.proofs.lemmas.Bool.Decides.{nat_tests}
use Rattle.lb_base.specs.declared.value.Value.{Value}
use Rattle.lb_base.specs.declared.value.Value.TheVariants.{Nothing}
use Rattle.boki_types.specs.declared.body.Body.{Body}
use Rattle.boki_types.specs.declared.store.Name.{Name}
use Rattle.boki_model.specs.Live.{Live}
use Rattle.boki_model.specs.Maps.{key_order, get, put}
use Rattle.boki_model.specs.Writes.{NamedValue, Version, Store, Write, is_below, later_write, last_write_below, logged_write, logged_writes, version_writes, write_at, prepend_some, logged_write_of, here_or_named, initial_keys, logged_key, logged_keys_below, version_keys_below, keys_below, held_count}
use Rattle.obj_store.specs.Kept.{StoreState, KeptObject, has_key, last_of_two, base_count}
use Rattle.obj_store.specs.StandsFor.{StandsFor, base_of, initial_write, HasValue, HaveValues}
use Rattle.obj_store.proofs.Entries.{same_key}
use Rattle.obj_store.proofs.Counting.{key_sum, key_sum_same, key_sum_zero, key_sum_plus, one_at, one_there}
use Rattle.obj_store.proofs.LoggedWrites.{skipped}
use Rattle.obj_store.proofs.Held.{has_entry, total_is}
use Rattle.obj_store.proofs.NameCount.{names_count}
use Rattle.std.specs.Cmp.Lexicographic.{nat_list_eq_equiv}

abbrev pub Keys : Type 0
Keys = List (List ℕ × Value)

abbrev pub present : List ℕ → Keys → Bool
present k ks = is_some (get k ks)

pub present_put : (q k : List ℕ) (v : Value) (ks : Keys) → present q (put k v ks) ≡ (bytes_eq q k || present q ks)
present_put q k v ks = ap is_some (find-put key_order nat_list_cmp_total q k v ks) ∙ ap (λ b. is_some (cond b (Some v) (get q ks))) (is_eq-slice_cmp q k) ∙ by (bytes_eq q k)
  where
    by : (b : Bool) → is_some (cond b (Some v) (get q ks)) ≡ (b || present q ks)
    by true = refl
    by false = refl

module _ (es : List (List ℕ × KeptObject)) (distinct : IsDistinct bytes_eq (keys_of es)) where
  abbrev pub Counts : Keys → Type 0
  Counts ks = T (map.is_sorted key_order ks) × (((k : List ℕ) → present k ks ≡ true → has_key k es ≡ true) → length ks ≡ key_sum (λ k. cond (present k ks) 1 0) es)

  counts_none : Counts []
  counts_none = (tt, λ h. sym (key_sum_zero es))

  pub counts_put : (key : List ℕ) (v : Value) (ks : Keys) → Counts ks → Counts (put key v ks)
  counts_put key v ks h = (
    is_sorted-put key_order nat_list_cmp_total key v ks h.0,
    λ all. by (present key ks) refl (h.1 (λ k is. all k (present_put k key v ks ∙ or_true (bytes_eq k key) is)))
        (all key (present_put key key v ks ∙ ap (λ b. b || present key ks) (nat_list_eq_equiv.refl key))),
  )
    where
      or_true : (b : Bool) {c : Bool} → c ≡ true → (b || c) ≡ true
      or_true true e = refl
      or_true false e = e

      len : length (put key v ks) ≡ cond (present key ks) (length ks) (length ks + 1)
      len = length-put key_order nat_list_cmp_total key v ks h.0

      there : present key ks ≡ true → (k : List ℕ) (b : Bool) → bytes_eq k key ≡ b → (b || present k ks) ≡ present k ks
      there is k true e = sym (ap (λ (q : List ℕ). present q ks) (same_key k key e) ∙ is)
      there is k false e = refl

      added : present key ks ≡ false → (k : List ℕ) (b : Bool) → bytes_eq k key ≡ b → cond (b || present k ks) 1 0 ≡ cond b 1 0 + cond (present k ks) 1 0
      added is k true e = sym (ap (λ c. 1 + cond c 1 0) (ap (λ (q : List ℕ). present q ks) (same_key k key e) ∙ is))
      added is k false e = (let z : cond (present k ks) 1 0 ≡ 0 + cond (present k ks) 1 0 = omega arith in z)

      by : (b : Bool) → present key ks ≡ b → length ks ≡ key_sum (λ k. cond (present k ks) 1 0) es → has_key key es ≡ true → length (put key v ks) ≡ key_sum (λ k. cond (present k (put key v ks)) 1 0) es
      by true is ih has =
          len ∙ ap (λ b. cond b (length ks) (length ks + 1)) is ∙ ih
          ∙ key_sum_same (λ k. cond (present k ks) 1 0) (λ k. cond (present k (put key v ks)) 1 0) es (λ k. sym (ap (λ b. cond b 1 0) (present_put k key v ks ∙ there is k (bytes_eq k key) refl)))
      by false is ih has =
          len ∙ ap (λ b. cond b (length ks) (length ks + 1)) is
          ∙ (let one = one_there key es distinct has in let plus = key_sum_plus (one_at key) (λ k. cond (present k ks) 1 0) es in
          let z : length ks + 1 ≡ key_sum (λ k. one_at key k + cond (present k ks) 1 0) es = omega arith in z)
          ∙ key_sum_same (λ k. one_at key k + cond (present k ks) 1 0) (λ k. cond (present k (put key v ks)) 1 0) es
          (λ k. sym (ap (λ b. cond b 1 0) (present_put k key v ks) ∙ added is k (bytes_eq k key) refl ∙ ap (λ b. cond b 1 0 + cond (present k ks) 1 0) (nat_list_eq_equiv.symm k key)))

  pub counts_initial : (objects : Keys) → Counts (initial_keys objects)
  counts_initial [] = counts_none
  counts_initial (x ∷ xs) = counts_put x.0 _ (initial_keys xs) (counts_initial xs)

  pub counts_logged : (n : ℕ) (xs : List (Live Body)) (ks : Keys) → Counts ks → Counts (logged_keys_below n xs ks)
  counts_logged n [] ks h = h
  counts_logged n (x ∷ xs) ks h = by (ltb x.seq n) (logged_write x.holds) (counts_logged n xs ks h)
    where
      by : (b : Bool) (w : Option (List ℕ × (Name × Option Value))) → Counts (logged_keys_below n xs ks) → Counts (logged_key b w (logged_keys_below n xs ks))
      by true (Some w) ih = counts_put w.0 _ (logged_keys_below n xs ks) ih
      by true None ih = ih
      by false w ih = ih

  pub counts_keys : (n : ℕ) (vs : List Version) (ks : Keys) → Counts ks → Counts (version_keys_below n vs ks)
  counts_keys n [] ks h = h
  counts_keys n (v ∷ vs) ks h = by (ltb v.cursor n) (counts_keys n vs ks h)
    where
      by : (b : Bool) → Counts (version_keys_below n vs ks) → Counts (cond b (put v.key Nothing (version_keys_below n vs ks)) (version_keys_below n vs ks))
      by true ih = counts_put v.key Nothing (version_keys_below n vs ks) ih
      by false ih = ih

  pub counts_all : (n : ℕ) (m : Store) (records : List (Live Body)) → Counts (keys_below n m records)
  counts_all n m records = counts_keys n m.versions (logged_keys_below n records (initial_keys m.initial)) (counts_logged n records (initial_keys m.initial) (counts_initial m.initial))

-- which keys are there

pub some_later : (w : Write) (o : Option Write) → is_some (later_write w o) ≡ true
some_later w None = refl
some_later w (Some v) = by (is_below w.first w.second v.first v.second)
  where
    by : (b : Bool) → is_some (cond b (Some v) (Some w)) ≡ true
    by true = refl
    by false = refl

pub some_last : (a b : Option Write) → is_some (last_of_two a b) ≡ (is_some a || is_some b)
some_last None b = refl
some_last (Some w) b = some_later w b

pub initial_present : (k : List ℕ) (objects : Keys) → present k (initial_keys objects) ≡ is_some (get k objects)
initial_present k [] = refl
initial_present k (x ∷ xs) = present_put k x.0 _ (initial_keys xs) ∙ by (bytes_eq k x.0) (initial_present k xs) ∙ sym (ap (λ b. is_some (cond b (Some x.1) (get k xs))) (is_eq-slice_cmp k x.0))
  where
    by : (b : Bool) → present k (initial_keys xs) ≡ is_some (get k xs) → (b || present k (initial_keys xs)) ≡ is_some (cond b (Some x.1) (get k xs))
    by true ih = refl
    by false ih = ih

pub initial_some : (k : List ℕ) (objects : Keys) → is_some (initial_write k objects) ≡ is_some (get k objects)
initial_some k objects = by (get k objects)
  where
    by : (o : Option Value) → is_some (last_write_below 1 0 (prepend_some (option_map (write_at 0 0) o) [])) ≡ is_some o
    by None = refl
    by (Some v) = ap (λ b. is_some (cond b (Some (write_at 0 0 v)) None)) (let t : is_below 0 0 1 0 ≡ true = grind (arith, nat_tests) in t)

pub logged_present : (k : List ℕ) (n : ℕ) (named : List NamedValue) (ks : Keys) (xs : List (Live Body)) → HaveValues n named xs
    → present k (logged_keys_below n xs ks) ≡ (is_some (last_write_below n 0 (logged_writes k named xs)) || present k ks)
logged_present k n named ks [] h = refl
logged_present k n named ks (x ∷ xs) h = by (ltb x.seq n) refl (logged_write x.holds) h.0 (logged_present k n named ks xs h.1)
  where
    by : (b : Bool) → ltb x.seq n ≡ b → (w : Option (List ℕ × (Name × Option Value))) → (x.seq < n → HasValue named w)
        → present k (logged_keys_below n xs ks) ≡ (is_some (last_write_below n 0 (logged_writes k named xs)) || present k ks)
        → present k (logged_key b w (logged_keys_below n xs ks)) ≡ (is_some (last_write_below n 0 (prepend_some (logged_write_of k x.seq named w) (logged_writes k named xs))) || present k ks)
    by true e None has ih = ih
    by false e None has ih = ih
    by false e (Some w) has ih = ih ∙ ap (λ (o : Option Write). is_some o || present k ks) (sym (skipped k named n x.seq (Some w) (logged_writes k named xs) e))
    by true e (Some w) has ih =
        present_put k w.0 _ (logged_keys_below n xs ks)
        ∙ at (bytes_eq k w.0) (here_or_named w.1.1 w.1.0 named) refl
      where
        lt : x.seq < n
        lt = grind (arith, nat_tests)

        at : (b : Bool) (o : Option Value) → here_or_named w.1.1 w.1.0 named ≡ o
            → (b || present k (logged_keys_below n xs ks)) ≡ (is_some (last_write_below n 0 (prepend_some (cond b (option_map (write_at x.seq 0) o) None) (logged_writes k named xs))) || present k ks)
        at false o is = ih
        at true None is = absurd (has lt is)
        at true (Some v) is = sym (ap (λ b. is_some (cond b (later_write (write_at x.seq 0 v) (last_write_below n 0 (logged_writes k named xs))) (last_write_below n 0 (logged_writes k named xs))) || present k ks) (let t : is_below x.seq 0 n 0 ≡ true = grind (arith, nat_tests) in t)
            ∙ ap (λ b. b || present k ks) (some_later (write_at x.seq 0 v) (last_write_below n 0 (logged_writes k named xs))))

version_present : (k : List ℕ) (n : ℕ) (ks : Keys) (vs : List Version) → present k (version_keys_below n vs ks) ≡ (is_some (last_write_below n 0 (version_writes k vs)) || present k ks)
version_present k n ks [] = refl
version_present k n ks (v ∷ vs) = by (ltb v.cursor n) refl (version_present k n ks vs)
  where
    by : (b : Bool) → ltb v.cursor n ≡ b → present k (version_keys_below n vs ks) ≡ (is_some (last_write_below n 0 (version_writes k vs)) || present k ks)
        → present k (cond b (put v.key Nothing (version_keys_below n vs ks)) (version_keys_below n vs ks)) ≡ (is_some (last_write_below n 0 (version_writes k (v ∷ vs))) || present k ks)
    by true e ih = present_put k v.key Nothing (version_keys_below n vs ks) ∙ at (bytes_eq k v.key)
      where
        at : (b : Bool) → (b || present k (version_keys_below n vs ks)) ≡ (is_some (last_write_below n 0 (cond b (write_at v.cursor v.number v.value ∷ version_writes k vs) (version_writes k vs))) || present k ks)
        at false = ih
        at true = sym (ap (λ b. is_some (cond b (later_write (write_at v.cursor v.number v.value) (last_write_below n 0 (version_writes k vs))) (last_write_below n 0 (version_writes k vs))) || present k ks) (let t : is_below v.cursor v.number n 0 ≡ true = grind (arith, nat_tests) in t)
            ∙ ap (λ b. b || present k ks) (some_later (write_at v.cursor v.number v.value) (last_write_below n 0 (version_writes k vs))))
    by false e ih = ih ∙ sym (at (bytes_eq k v.key))
      where
        at : (b : Bool) → (is_some (last_write_below n 0 (cond b (write_at v.cursor v.number v.value ∷ version_writes k vs) (version_writes k vs))) || present k ks) ≡ (is_some (last_write_below n 0 (version_writes k vs)) || present k ks)
        at false = refl
        at true = ap (λ b. is_some (cond b (later_write (write_at v.cursor v.number v.value) (last_write_below n 0 (version_writes k vs))) (last_write_below n 0 (version_writes k vs))) || present k ks) (let t : is_below v.cursor v.number n 0 ≡ false = grind (arith, nat_tests) in t)

module _ (kept : StoreState) (m : Store) (records : List (Live Body)) (stands : StandsFor kept m records) where
  base_present : (k : List ℕ) → present k (keys_below m.floor m records) ≡ is_some (base_of k m records)
  base_present k =
      version_present k m.floor (logged_keys_below m.floor records (initial_keys m.initial)) m.versions
      ∙ ap (λ b. is_some (last_write_below m.floor 0 (version_writes k m.versions)) || b) (logged_present k m.floor m.named (initial_keys m.initial) records stands.valued
      ∙ ap (λ b. is_some (last_write_below m.floor 0 (logged_writes k m.named records)) || b) (initial_present k m.initial ∙ sym (initial_some k m.initial)))
      ∙ swap (is_some (last_write_below m.floor 0 (version_writes k m.versions))) (is_some (last_write_below m.floor 0 (logged_writes k m.named records))) (is_some (initial_write k m.initial))
      ∙ sym (some_last (last_write_below m.floor 0 (logged_writes k m.named records)) (last_of_two (last_write_below m.floor 0 (version_writes k m.versions)) (initial_write k m.initial))
      ∙ ap (λ b. is_some (last_write_below m.floor 0 (logged_writes k m.named records)) || b) (some_last (last_write_below m.floor 0 (version_writes k m.versions)) (initial_write k m.initial)))
    where
      swap : (a b c : Bool) → (a || (b || c)) ≡ (b || (a || c))
      swap true true c = refl
      swap true false c = refl
      swap false true c = refl
      swap false false c = refl

  base_entry : (k : List ℕ) → present k (keys_below m.floor m records) ≡ true → has_key k kept.objects ≡ true
  base_entry k h = has_entry kept m records stands k (λ e.
      let b : is_some (base_of k m records) ≡ false = ap (λ (o : KeptObject). is_some o.base) e in
      let n : true ≡ false = sym h ∙ base_present k ∙ b in let z : ⊥ = cc in z)

  pub held_is : kept.held ≡ held_count m records
  held_is =
      let keys = (counts_all kept.objects stands.sound.keys m.floor m records).1 base_entry in
      let bases = key_sum_same (λ k. cond (present k (keys_below m.floor m records)) 1 0) (λ k. base_count (base_of k m records)) kept.objects
      (λ k. ap (λ b. cond b 1 0) (base_present k) ∙ by (base_of k m records)) in
      omega (arith, keys, bases, total_is kept m records stands, names_count kept m records stands, stands.sound.count)
    where
      by : (o : Option Write) → cond (is_some o) 1 0 ≡ base_count o
      by None = refl
      by (Some w) = refl
