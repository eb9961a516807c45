-- An object store that stands for a store, after a version was put in, fences were raised, or a value was stored under a name.
use Rattle.std.proofs.Common.{◌≡◌, ℕ, ◌+◌, ◌<◌, ◌≤◌, ltb, leb, Bool, true, false, cond, not, ◌&&◌, List, ◌∷◌, bytes_eq, Option, Some, None, is_some, unwrap_or, refl, sym, ap, ◌∙◌, subst, arith}
use Rattle.std.specs.Map.{lookup}
use Rattle.std.specs.Cmp.Lexicographic.{nat_list_eq_equiv}
use Rattle.std.proofs.lemmas.Map.Entries.{lookup_from_place}
use Rattle.std.proofs.lemmas.Bool.Decides.{nat_tests}
use Rattle.lb_base.specs.declared.value.Value.{Value}
use Rattle.boki_types.specs.declared.body.Body.{Body}
use Rattle.boki_types.specs.declared.store.Put.TheVariants as u
use Rattle.boki_model.specs.Live.{Live}
use Rattle.boki_model.specs.Writes.{Version, Store, Write, is_below, later_write, last_write_below, logged_writes, version_value, version_writes, write_at, fence, put_at, put_answer, puts_version, after_put, has_version}
use Rattle.obj_store.specs.declared.object.VersionStatus.{VersionStatus}
use Rattle.obj_store.specs.declared.object.VersionStatus.TheVariants as s
use Rattle.obj_store.specs.Ascending.{Ascend, has_at}
use Rattle.obj_store.specs.Kept.{StoreState, KeptObject, empty_object, object_in, sort_writes, last_of_two}
use Rattle.obj_store.specs.StandsFor.{StandsFor, versions_from, kept_of, initial_write}
use Rattle.obj_store.specs.Steps.{AllAscend, AddsEmptyObjects, PutsVersion, version_status_of, status_by, with_version}
use Rattle.obj_store.proofs.Versions.{ascends, has_in_order, has_version_write, version_standing}

pub object_is : (o p : KeptObject) → o.base ≡ p.base → o.versions ≡ p.versions → o.fence ≡ p.fence → o ≡ p
object_is o p b v f = λ i. record { base = b i; versions = v i; fence = f i }

module _ (kept : StoreState) (m : Store) (records : List (Live Body)) (stands : StandsFor kept m records) where
  pub up : (key : List ℕ) → Ascend (object_in key kept.objects).versions
  up key = subst (λ (o : KeptObject). Ascend o.versions) (sym (stands.objects key)) (ascends m.floor key m.versions stands.numbered)

  there_is : (key : List ℕ) (cursor k : ℕ) → m.floor ≤ cursor → has_at cursor k (object_in key kept.objects).versions ≡ has_version key cursor k m
  there_is key cursor k le =
      ap (λ (o : KeptObject). has_at cursor k o.versions) (stands.objects key)
      ∙ has_in_order cursor k (version_writes key (versions_from m.floor m.versions))
      ∙ has_version_write key cursor k (versions_from m.floor m.versions)
      ∙ ap is_some (version_standing m.floor key cursor k m.versions le)

  fence_is : (key : List ℕ) → (object_in key kept.objects).fence ≡ fence key m.fences
  fence_is key = ap (λ (o : KeptObject). o.fence) (stands.objects key)

  not_gone : (cursor : ℕ) → (cursor < kept.floor → ⊥) → m.floor ≤ cursor
  not_gone cursor h = le (stands.floor) (ltb cursor kept.floor) refl
    where
      le : kept.floor ≡ m.floor → (b : Bool) → ltb cursor kept.floor ≡ b → m.floor ≤ cursor
      le e true g = absurd (h (let lt : cursor < kept.floor = grind (arith, nat_tests) in lt))
      le e false g = let n : kept.floor ≤ cursor = grind (arith, nat_tests) in omega arith

  pub case_is : (key : List ℕ) (cursor k : ℕ) → m.floor ≤ cursor → version_status_of cursor k (object_in key kept.objects) ≡ status_by (has_version key cursor k m) (ltb cursor (fence key m.fences))
  case_is key cursor k le =
      ap (λ b. status_by b (ltb cursor (object_in key kept.objects).fence)) (there_is key cursor k le)
      ∙ ap (λ (n : ℕ). status_by (has_version key cursor k m) (ltb cursor n)) (fence_is key)

  -- what each case tells of the tests
  there_tells : (t r : Bool) → status_by t r ≡ s.Present → t ≡ true
  there_tells true r e = refl
  there_tells false true e = cc
  there_tells false false e = cc

  fenced_tells : (t r : Bool) → status_by t r ≡ s.BelowFence → (t ≡ false) × (r ≡ true)
  fenced_tells true r e = absurd (let n : ⊥ = cc in n)
  fenced_tells false true e = (refl, refl)
  fenced_tells false false e = absurd (let n : ⊥ = cc in n)

  free_tells : (t r : Bool) → status_by t r ≡ s.Insertable → (t ≡ false) × (r ≡ false)
  free_tells true r e = absurd (let n : ⊥ = cc in n)
  free_tells false true e = absurd (let n : ⊥ = cc in n)
  free_tells false false e = (refl, refl)

  module _ (key : List ℕ) (cursor k : ℕ) (value : Value) (le : m.floor ≤ cursor) where
    not_low : ltb cursor m.floor ≡ false
    not_low = grind (arith, nat_tests)

    low : Bool → Bool → Bool → Bool
    low g t r = not g && not t && not r

    stays : puts_version key cursor k m ≡ false → StandsFor kept (after_put key cursor k value m) records
    stays e = subst (λ b. StandsFor kept (cond b (record m { versions = record { key = key; cursor = cursor; number = k; value = value } ∷ m.versions }) m) records) (sym e) stands

    puts_by : (g t r : Bool) → ltb cursor m.floor ≡ g → has_version key cursor k m ≡ t → ltb cursor (fence key m.fences) ≡ r
        → (put_at key cursor k m ≡ put_answer g t r) × (puts_version key cursor k m ≡ (not g && not t && not r))
    puts_by g t r a b c = (
      ap (λ x. put_answer x (has_version key cursor k m) (ltb cursor (fence key m.fences))) a ∙ ap (λ x. put_answer g x (ltb cursor (fence key m.fences))) b ∙ ap (put_answer g t) c,
      ap (λ x. not x && not (has_version key cursor k m) && not (ltb cursor (fence key m.fences))) a ∙ ap (λ x. not g && not x && not (ltb cursor (fence key m.fences))) b ∙ ap (λ x. not g && not t && not x) c,
    )

    and_false : (x : Bool) → (false && x) ≡ false
    and_false x = refl

    pub put_there : version_status_of cursor k (object_in key kept.objects) ≡ s.Present → (u.Done ≡ put_at key cursor k m) × StandsFor kept (after_put key cursor k value m) records
    put_there is =
        let t = there_tells (has_version key cursor k m) (ltb cursor (fence key m.fences)) (sym (case_is key cursor k le) ∙ is) in
        let p = puts_by false true (ltb cursor (fence key m.fences)) not_low t refl in
        (sym p.0, stays p.1)

    pub put_fenced : version_status_of cursor k (object_in key kept.objects) ≡ s.BelowFence → (u.Late ≡ put_at key cursor k m) × StandsFor kept (after_put key cursor k value m) records
    put_fenced is =
        let t = fenced_tells (has_version key cursor k m) (ltb cursor (fence key m.fences)) (sym (case_is key cursor k le) ∙ is) in
        let p = puts_by false false true not_low t.0 t.1 in
        (sym p.0, stays p.1)

    pub free_puts : version_status_of cursor k (object_in key kept.objects) ≡ s.Insertable → puts_version key cursor k m ≡ false → ⊥
    free_puts is e =
        let t = free_tells (has_version key cursor k m) (ltb cursor (fence key m.fences)) (sym (case_is key cursor k le) ∙ is) in
        let p = puts_by false false false not_low t.0 t.1 in
        let n : true ≡ false = sym p.1 ∙ e in
        let h : ⊥ = cc in h

    new : Version
    new = record { key = key; cursor = cursor; number = k; value = value }

    after : Store
    after = record m { versions = record { key = key; cursor = cursor; number = k; value = value } ∷ m.versions }

    pub put_free : (gs : List (List ℕ × KeptObject)) (held : ℕ) → 1 ≤ k → version_status_of cursor k (object_in key kept.objects) ≡ s.Insertable → PutsVersion key (write_at cursor k value) kept.objects gs → held ≡ kept.held + 1
        → (u.Done ≡ put_at key cursor k m) × StandsFor (record kept { objects = gs; held = held }) (after_put key cursor k value m) records
    put_free gs held one is puts more =
        let t = free_tells (has_version key cursor k m) (ltb cursor (fence key m.fences)) (sym (case_is key cursor k le) ∙ is) in
        let p = puts_by false false false not_low t.0 t.1 in (
          sym p.0,
          subst (λ b. StandsFor (record kept { objects = gs; held = held }) (cond b (record m { versions = record { key = key; cursor = cursor; number = k; value = value } ∷ m.versions }) m) records) (sym p.1)
              record {
                floor = stands.floor;
                objects = λ q. puts.objects q ∙ ap (λ (o : KeptObject). cond (bytes_eq key q) (with_version (write_at cursor k value) o) o) (stands.objects q) ∙ at q (bytes_eq key q) (nat_list_eq_equiv.symm q key) refl;
                named = stands.named;
                sound = record { keys = puts.distinct stands.sound.keys; names = stands.sound.names; count = omega (arith, more, puts.total, stands.sound.count) };
                numbered = (one, none (version_value key cursor k m.versions) t.0, stands.numbered);
                differ = stands.differ;
                valued = stands.valued;
                end = stands.end;
                falls = stands.falls;
              },
        )
      where
        none : (o : Option Value) → is_some o ≡ false → o ≡ None
        none None e = refl
        none (Some v) e = absurd (let n : ⊥ = cc in n)

        stays_in : leb m.floor cursor ≡ true
        stays_in = grind (arith, nat_tests)

        not_under : is_below cursor k m.floor 0 ≡ false
        not_under = grind (arith, nat_tests)

        w : Write
        w = write_at cursor k value

        base_stays : (q : List ℕ) (b : Bool) → bytes_eq q key ≡ b
            → last_write_below m.floor 0 (version_writes q (record { key = key; cursor = cursor; number = k; value = value } ∷ m.versions)) ≡ last_write_below m.floor 0 (version_writes q m.versions)
        base_stays q true e =
            ap (λ b. last_write_below m.floor 0 (cond b (write_at cursor k value ∷ version_writes q m.versions) (version_writes q m.versions))) e
            ∙ ap (λ b. cond b (later_write (write_at cursor k value) (last_write_below m.floor 0 (version_writes q m.versions))) (last_write_below m.floor 0 (version_writes q m.versions))) not_under
        base_stays q false e = ap (λ b. last_write_below m.floor 0 (cond b (write_at cursor k value ∷ version_writes q m.versions) (version_writes q m.versions))) e

        versions_are : (q : List ℕ) (b : Bool) → bytes_eq q key ≡ b
            → sort_writes (version_writes q (versions_from m.floor (record { key = key; cursor = cursor; number = k; value = value } ∷ m.versions)))
            ≡ sort_writes (cond b (write_at cursor k value ∷ version_writes q (versions_from m.floor m.versions)) (version_writes q (versions_from m.floor m.versions)))
        versions_are q b e =
            ap (λ x. sort_writes (version_writes q (cond x (record { key = key; cursor = cursor; number = k; value = value } ∷ versions_from m.floor m.versions) (versions_from m.floor m.versions)))) stays_in
            ∙ ap (λ x. sort_writes (cond x (write_at cursor k value ∷ version_writes q (versions_from m.floor m.versions)) (version_writes q (versions_from m.floor m.versions)))) e

        at : (q : List ℕ) (b : Bool) → bytes_eq q key ≡ b → bytes_eq key q ≡ b
            → cond b (with_version (write_at cursor k value) (kept_of q m records)) (kept_of q m records)
            ≡ kept_of q (record m { versions = record { key = key; cursor = cursor; number = k; value = value } ∷ m.versions }) records
        at q true e h = object_is _ _ (sym (ap (λ (o : Option Write). last_of_two (last_write_below m.floor 0 (logged_writes q m.named records)) (last_of_two o (initial_write q m.initial))) (base_stays q true e))) (sym (versions_are q true e)) refl
        at q false e h = object_is _ _ (sym (ap (λ (o : Option Write). last_of_two (last_write_below m.floor 0 (logged_writes q m.named records)) (last_of_two o (initial_write q m.initial))) (base_stays q false e))) (sym (versions_are q false e)) refl

  pub case_told : (key : List ℕ) (cursor k : ℕ) (o : Option KeptObject) (case : VersionStatus) → o ≡ lookup (bytes_eq key) kept.objects
      → (Ascend (unwrap_or o empty_object).versions → case ≡ version_status_of cursor k (unwrap_or o empty_object)) → case ≡ version_status_of cursor k (object_in key kept.objects)
  case_told key cursor k o case is tells =
      let here : unwrap_or o empty_object ≡ object_in key kept.objects = ap (λ (p : Option KeptObject). unwrap_or p empty_object) is in
      tells (subst (λ (p : KeptObject). Ascend p.versions) (sym here) (up key)) ∙ ap (version_status_of cursor k) here

  -- the versions of each entry are in order
  pub all_up : (es : List (List ℕ × KeptObject)) → AddsEmptyObjects kept.objects es → AllAscend es
  all_up es wide = λ place e is.
      subst (λ (o : KeptObject). Ascend o.versions)
      (sym (wide.objects e.0) ∙ ap (λ (o : Option KeptObject). unwrap_or o empty_object) (lookup_from_place nat_list_eq_equiv es place e.0 e.1 (wide.distinct stands.sound.keys) is))
      (up e.0)
