-- An object store that stands for a store, after fences were raised or a value was stored under a name.
use Rattle.std.proofs.Common.{◌≡◌, ℕ, ◌+◌, ◌<◌, ltb, eqb, max, Bool, true, false, cond, ◌&&◌, ◌||◌, List, [], ◌∷◌, length, bytes_eq, Option, Some, None, is_some, option_map, refl, sym, ap, ◌∙◌, subst, arith}
use Rattle.std.specs.List.{IsDistinct}
use Rattle.std.specs.Map.{keys_of}
use Rattle.std.specs.Cmp.Lexicographic.{nat_list_eq_equiv}
use Rattle.std.proofs.lemmas.Bool.Decides.{nat_tests}
use Rattle.lb_base.specs.declared.value.Value.{Value}
use Rattle.boki_types.specs.declared.body.Body.{Body}
use Rattle.boki_types.specs.declared.store.Name.{Name}
use Rattle.boki_types.specs.declared.store.Named.TheVariants as n
use Rattle.boki_model.specs.Live.{Live}
use Rattle.std.specs.Option.{option_or}
use Rattle.boki_model.specs.Maps.{has}
use Rattle.boki_model.specs.Writes.{NamedValue, Store, Write, KeyFence, is_below, later_write, last_write_below, logged_write, logged_writes, version_writes, write_at, fence, raise_fences, after_read_fenced, prepend_some, logged_write_of, here_or_named, is_write_named, same_name, value_under_name, is_settled, put_named, add_if_new, after_put_named}
use Rattle.obj_store.specs.Kept.{StoreState, KeptObject, object_in, last_of_two, same_name_pair, value_under, total}
use Rattle.obj_store.specs.StandsFor.{StandsFor, kept_of, initial_write, HasValue, HaveValues}
use Rattle.obj_store.specs.Steps.{AddsEmptyObjects, ChangesObject, raised_to}
use Rattle.obj_store.proofs.Entries.{same_key, key_itself}
use Rattle.obj_store.proofs.Puts.{object_is}

fence_raised : (k : List ℕ) (ks : List (List ℕ)) (at : ℕ) (fs : List KeyFence) → fence k (raise_fences ks at fs) ≡ cond (has k ks) (max at (fence k fs)) (fence k fs)
fence_raised k [] at fs = refl
fence_raised k (x ∷ xs) at fs = by (bytes_eq k x) (has k xs) refl (fence_raised k xs at fs)
  where
    by : (a b : Bool) → has k xs ≡ b → fence k (raise_fences xs at fs) ≡ cond (has k xs) (max at (fence k fs)) (fence k fs)
        → cond a (max at (fence k (raise_fences xs at fs))) (fence k (raise_fences xs at fs)) ≡ cond (a || has k xs) (max at (fence k fs)) (fence k fs)
    by true true e ih = ap (max at) (ih ∙ ap (λ b. cond b (max at (fence k fs)) (fence k fs)) e) ∙ (let t : max at (max at (fence k fs)) ≡ max at (fence k fs) = omega arith in t)
    by true false e ih = ap (max at) (ih ∙ ap (λ b. cond b (max at (fence k fs)) (fence k fs)) e)
    by false b e ih = ih

module _ (kept : StoreState) (m : Store) (records : List (Live Body)) (stands : StandsFor kept m records) where
  pub fences_raised : (ks : List (List ℕ)) (at : ℕ) (gs : List (List ℕ × KeptObject)) → ltb at m.floor ≡ false
      → ((k : List ℕ) → object_in k gs ≡ cond (has k ks) (raised_to at (object_in k kept.objects)) (object_in k kept.objects))
      → total gs ≡ total kept.objects → (IsDistinct bytes_eq (keys_of kept.objects) → IsDistinct bytes_eq (keys_of gs))
      → StandsFor (record kept { objects = gs }) (after_read_fenced ks at m) records
  fences_raised ks at gs low are same distinct =
      subst (λ b. StandsFor (record kept { objects = gs }) (cond b m (record m { fences = raise_fences ks at m.fences })) records) (sym low) record {
        floor = stands.floor;
        objects = λ k. are k ∙ ap (λ (o : KeptObject). cond (has k ks) (raised_to at o) o) (stands.objects k) ∙ to k (has k ks) refl;
        named = stands.named;
        sound = record { keys = distinct stands.sound.keys; names = stands.sound.names; count = omega (arith, same, stands.sound.count) };
        numbered = stands.numbered;
        differ = stands.differ;
        valued = stands.valued;
        end = stands.end;
        falls = stands.falls;
      }
    where
      to : (k : List ℕ) (b : Bool) → has k ks ≡ b → cond b (raised_to at (kept_of k m records)) (kept_of k m records) ≡ kept_of k (record m { fences = raise_fences ks at m.fences }) records
      to k true e = object_is _ _ refl refl (sym (fence_raised k ks at m.fences ∙ ap (λ b. cond b (max at (fence k m.fences)) (fence k m.fences)) e))
      to k false e = object_is _ _ refl refl (sym (fence_raised k ks at m.fences ∙ ap (λ b. cond b (max at (fence k m.fences)) (fence k m.fences)) e))

-- names

pub same_name_is : (a b : Name) → same_name a b ≡ true → a ≡ b
same_name_is a b h = by (bytes_eq a.path b.path) (eqb a.place b.place) refl refl h
  where
    by : (x y : Bool) → bytes_eq a.path b.path ≡ x → eqb a.place b.place ≡ y → (x && y) ≡ true → a ≡ b
    by true true e g h = let p = same_key a.path b.path e in let q : a.place ≡ b.place = grind (arith, nat_tests) in λ i. record { path = p i; place = q i }
    by true false e g h = absurd (let n : ⊥ = cc in n)
    by false y e g h = absurd (let n : ⊥ = cc in n)

pub name_itself : (a : Name) → same_name a a ≡ true
name_itself a = ap (λ b. b && eqb a.place a.place) (key_itself a.path) ∙ (let e : eqb a.place a.place ≡ true = grind (arith, nat_tests) in e)

pub name_flip : (a b : Name) → same_name a b ≡ same_name b a
name_flip a b = ap (λ x. x && eqb a.place b.place) (nat_list_eq_equiv.symm a.path b.path) ∙ ap (λ x. bytes_eq b.path a.path && x) (let e : eqb a.place b.place ≡ eqb b.place a.place = grind (arith, nat_tests) in e)

and_both : (x y : Bool) → (x || y) ≡ false → (x ≡ false) × (y ≡ false)
and_both true y e = absurd (let n : ⊥ = cc in n)
and_both false y e = (refl, e)

-- a value that is stored under a name which isn't settled changes no base
module _ (name : Name) (value : Value) (named : List NamedValue) (f : ℕ) (key : List ℕ) where
  -- the value of a logged write of another name stays
  here_stays : (here : Option Value) (n : Name) → same_name name n ≡ false → here_or_named here n (record { name = name; value = value } ∷ named) ≡ here_or_named here n named
  here_stays here n off = ap (option_or here) (ap (λ b. cond b (Some value) (value_under_name n named)) (name_flip n name ∙ off))

  pub base_keeps : (xs : List (Live Body)) → is_settled name f xs ≡ false
      → last_write_below f 0 (logged_writes key (record { name = name; value = value } ∷ named) xs) ≡ last_write_below f 0 (logged_writes key named xs)
  base_keeps [] h = refl
  base_keeps (x ∷ xs) h = by (logged_write x.holds) (ltb x.seq f) refl refl h (base_keeps xs)
    where
      by : (w : Option (List ℕ × (Name × Option Value))) (lt : Bool) → logged_write x.holds ≡ w → ltb x.seq f ≡ lt → ((lt && is_write_named name (logged_write x.holds)) || is_settled name f xs) ≡ false
          → (is_settled name f xs ≡ false → last_write_below f 0 (logged_writes key (record { name = name; value = value } ∷ named) xs) ≡ last_write_below f 0 (logged_writes key named xs))
          → last_write_below f 0 (prepend_some (logged_write_of key x.seq (record { name = name; value = value } ∷ named) (logged_write x.holds)) (logged_writes key (record { name = name; value = value } ∷ named) xs))
          ≡ last_write_below f 0 (prepend_some (logged_write_of key x.seq named (logged_write x.holds)) (logged_writes key named xs))
      by None lt is e h ih =
          ap (λ (o : Option (List ℕ × (Name × Option Value))). last_write_below f 0 (prepend_some (logged_write_of key x.seq (record { name = name; value = value } ∷ named) o) (logged_writes key (record { name = name; value = value } ∷ named) xs))) is
          ∙ ih (and_both (lt && is_write_named name (logged_write x.holds)) (is_settled name f xs) h).1
          ∙ sym (ap (λ (o : Option (List ℕ × (Name × Option Value))). last_write_below f 0 (prepend_some (logged_write_of key x.seq named o) (logged_writes key named xs))) is)
      by (Some w) lt is e h ih =
          ap (λ (o : Option (List ℕ × (Name × Option Value))). last_write_below f 0 (prepend_some (logged_write_of key x.seq (record { name = name; value = value } ∷ named) o) (logged_writes key (record { name = name; value = value } ∷ named) xs))) is
          ∙ at lt e (subst (λ (o : Option (List ℕ × (Name × Option Value))). (lt && is_write_named name o) ≡ false) is (and_both (lt && is_write_named name (logged_write x.holds)) (is_settled name f xs) h).0)
          (ih (and_both (lt && is_write_named name (logged_write x.holds)) (is_settled name f xs) h).1)
          ∙ sym (ap (λ (o : Option (List ℕ × (Name × Option Value))). last_write_below f 0 (prepend_some (logged_write_of key x.seq named o) (logged_writes key named xs))) is)
        where
          skip : (o : Option Write) (ws : List Write) → ((v : Write) → o ≡ Some v → is_below v.first v.second f 0 ≡ false) → last_write_below f 0 (prepend_some o ws) ≡ last_write_below f 0 ws
          skip None ws g = refl
          skip (Some v) ws g = ap (λ b. cond b (later_write v (last_write_below f 0 ws)) (last_write_below f 0 ws)) (g v refl)

          high : (ss : List NamedValue) → ltb x.seq f ≡ false → (v : Write) → logged_write_of key x.seq ss (Some w) ≡ Some v → is_below v.first v.second f 0 ≡ false
          high ss e v is = first (bytes_eq key w.0) (here_or_named w.1.1 w.1.0 ss) is
            where
              first : (b : Bool) (o : Option Value) → cond b (option_map (write_at x.seq 0) o) None ≡ Some v → is_below v.first v.second f 0 ≡ false
              first true (Some u) is = subst (λ (y : Write). is_below y.first y.second f 0 ≡ false) (let s : write_at x.seq 0 u ≡ v = cc in s) (let t : is_below x.seq 0 f 0 ≡ false = grind (arith, nat_tests) in t)
              first true None is = absurd (let z : ⊥ = cc in z)
              first false o is = absurd (let z : ⊥ = cc in z)

          at : (lt : Bool) → ltb x.seq f ≡ lt → (lt && is_write_named name (Some w)) ≡ false
              → last_write_below f 0 (logged_writes key (record { name = name; value = value } ∷ named) xs) ≡ last_write_below f 0 (logged_writes key named xs)
              → last_write_below f 0 (prepend_some (logged_write_of key x.seq (record { name = name; value = value } ∷ named) (Some w)) (logged_writes key (record { name = name; value = value } ∷ named) xs))
              ≡ last_write_below f 0 (prepend_some (logged_write_of key x.seq named (Some w)) (logged_writes key named xs))
          at true e off rest =
              ap (λ (o : Option Value). last_write_below f 0 (prepend_some (cond (bytes_eq key w.0) (option_map (write_at x.seq 0) o) None) (logged_writes key (record { name = name; value = value } ∷ named) xs))) (here_stays w.1.1 w.1.0 off)
              ∙ again (logged_write_of key x.seq named (Some w))
            where
              again : (o : Option Write) → last_write_below f 0 (prepend_some o (logged_writes key (record { name = name; value = value } ∷ named) xs)) ≡ last_write_below f 0 (prepend_some o (logged_writes key named xs))
              again None = rest
              again (Some v) = ap (λ (o : Option Write). cond (is_below v.first v.second f 0) (later_write v o) o) rest
          at false e off rest =
              skip (logged_write_of key x.seq (record { name = name; value = value } ∷ named) (Some w)) (logged_writes key (record { name = name; value = value } ∷ named) xs) (high (record { name = name; value = value } ∷ named) e)
              ∙ rest
              ∙ sym (skip (logged_write_of key x.seq named (Some w)) (logged_writes key named xs) (high named e))

-- one more name takes no value away
pub values_stay : (s : NamedValue) (named : List NamedValue) (f : ℕ) (xs : List (Live Body)) → HaveValues f named xs → HaveValues f (s ∷ named) xs
values_stay s named f [] h = tt
values_stay s named f (x ∷ xs) h = (λ lt. by (logged_write x.holds) (h.0 lt), values_stay s named f xs h.1)
  where
    at : (here : Option Value) (b : Bool) (o : Option Value) → (option_or here o ≡ None → ⊥) → option_or here (cond b (Some s.value) o) ≡ None → ⊥
    at (Some v) b o h e = let z : ⊥ = cc in z
    at None true o h e = let z : ⊥ = cc in z
    at None false o h e = h e

    by : (w : Option (List ℕ × (Name × Option Value))) → HasValue named w → HasValue (s ∷ named) w
    by None h = tt
    by (Some w) h = at w.1.1 (same_name w.1.0 s.name) (value_under_name w.1.0 named) h

none_of : (o : Option Value) → is_some o ≡ false → o ≡ None
none_of None e = refl
none_of (Some v) e = absurd (let z : ⊥ = cc in z)

module _ (kept : StoreState) (m : Store) (records : List (Live Body)) (stands : StandsFor kept m records) (name : Name) (cursor : ℕ) (value : Value)
    (low : ltb cursor m.floor ≡ false) (fresh : is_settled name m.floor records ≡ true → cursor < m.floor) where
  not_settled : is_settled name m.floor records ≡ false
  not_settled = by (is_settled name m.floor records) refl
    where
      by : (b : Bool) → is_settled name m.floor records ≡ b → b ≡ false
      by true e = absurd (let lt = fresh e in let z : ⊥ = grind (arith, nat_tests) in z)
      by false e = refl

  value_is : value_under name kept.named ≡ value_under_name name m.named
  value_is = stands.named name ∙ ap (λ b. cond b None (value_under_name name m.named)) not_settled

  done : n.Done ≡ put_named name cursor value m
  done = sym (ap (λ b. cond b n.Gone n.Done) low)

  pub named_there : is_some (value_under name kept.named) ≡ true → (n.Done ≡ put_named name cursor value m) × StandsFor kept (after_put_named name cursor value m) records
  named_there is = (
    done,
    subst (λ b. StandsFor kept (cond b m (record m { named = add_if_new name value m.named })) records) (sym low)
        (subst (λ b. StandsFor kept (record m { named = cond b m.named (record { name = name; value = value } ∷ m.named) }) records) (sym (ap is_some (sym value_is) ∙ is)) stands),
  )

  pub named_new : (gs : List ((List ℕ × ℕ) × Value)) (held : ℕ) → is_some (value_under name kept.named) ≡ false
      → ((q : Name) → value_under q gs ≡ cond (same_name_pair (name.path, name.place) (q.path, q.place)) (Some value) (value_under q kept.named))
      → length gs ≡ length kept.named + 1 → IsDistinct same_name_pair (keys_of gs) → held ≡ kept.held + 1
      → (n.Done ≡ put_named name cursor value m) × StandsFor (record kept { named = gs; held = held }) (after_put_named name cursor value m) records
  named_new gs held is finds len distinct more = (
    done,
    subst (λ b. StandsFor (record kept { named = gs; held = held }) (cond b m (record m { named = add_if_new name value m.named })) records) (sym low)
        (subst (λ b. StandsFor (record kept { named = gs; held = held }) (record m { named = cond b m.named (record { name = name; value = value } ∷ m.named) }) records) (sym (ap is_some (sym value_is) ∙ is)) record {
          floor = stands.floor;
          objects = λ k. stands.objects k ∙ object_is _ _ (sym (ap (λ (o : Option Write). last_of_two o (last_of_two (last_write_below m.floor 0 (version_writes k m.versions)) (initial_write k m.initial)))
              (base_keeps name value m.named m.floor k records not_settled))) refl refl;
          named = λ q. finds q ∙ by q (same_name_pair (name.path, name.place) (q.path, q.place)) refl;
          sound = record { keys = stands.sound.keys; names = distinct; count = omega (arith, more, len, stands.sound.count) };
          numbered = stands.numbered;
          differ = (none_of (value_under_name name m.named) (ap is_some (sym value_is) ∙ is), stands.differ);
          valued = values_stay (record { name = name; value = value }) m.named m.floor records stands.valued;
          end = stands.end;
          falls = stands.falls;
        }),
  )
    where
      by : (q : Name) (b : Bool) → same_name name q ≡ b
          → cond b (Some value) (value_under q kept.named) ≡ cond (is_settled q m.floor records) None (cond (same_name q name) (Some value) (value_under_name q m.named))
      by q true e =
          sym (ap (λ b. cond b None (cond (same_name q name) (Some value) (value_under_name q m.named))) (ap (λ (x : Name). is_settled x m.floor records) (sym (same_name_is name q e)) ∙ not_settled)
          ∙ ap (λ b. cond b (Some value) (value_under_name q m.named)) (name_flip q name ∙ e))
      by q false e =
          stands.named q ∙ ap (λ (o : Option Value). cond (is_settled q m.floor records) None o) (sym (ap (λ b. cond b (Some value) (value_under_name q m.named)) (name_flip q name ∙ e)))

module _ (kept : StoreState) (m : Store) (records : List (Live Body)) (stands : StandsFor kept m records) where
  pub one_raised : (key : List ℕ) (at : ℕ) (fs gs : List (List ℕ × KeptObject)) → ltb at m.floor ≡ false → AddsEmptyObjects kept.objects fs → ChangesObject key (raised_to at) fs gs
      → StandsFor (record kept { objects = gs }) (after_read_fenced (key ∷ []) at m) records
  one_raised key at fs gs low wide change =
      fences_raised kept m records stands (key ∷ []) at gs low
      (λ k. change.objects k ∙ ap (λ (o : KeptObject). cond (bytes_eq key k) (raised_to at o) o) (wide.objects k)
      ∙ ap (λ b. cond b (raised_to at (object_in k kept.objects)) (object_in k kept.objects)) (nat_list_eq_equiv.symm key k ∙ or_none (bytes_eq k key)))
      (omega (arith, change.total, wide.total)) (λ d. subst (IsDistinct bytes_eq) (sym change.keys) (wide.distinct d))
    where
      or_none : (b : Bool) → b ≡ (b || false)
      or_none true = refl
      or_none false = refl
