-- Fences count by their keys alone.
use Rattle.std.proofs.Common.{◌≡◌, ℕ, suc, max, Bool, true, false, cond, ltb, ◌||◌, List, [], ◌∷◌, refl, sym, ap, ◌∙◌, subst, arith}
use Rattle.std.specs.Prelude.{bytes_eq}
use Rattle.boki_types.specs.declared.body.Body.{Body}
use Rattle.boki_model.specs.Live.{Live}
use Rattle.boki_model.specs.Maps.{has}
use Rattle.boki_model.specs.Writes.{Store, KeyFence, fence, raise_fences, version_writes, read_below, after_read_fenced}
use Rattle.exactly_once.proofs.Log.MapChanges.{same_key}
use Rattle.obj_store.specs.Kept.{sort_writes}
use Rattle.obj_store.specs.StandsFor.{base_of, kept_of, versions_from, StandsFor}
use Rattle.store_laws.specs.Fences.{SameFences, FencesByKey, fenced_each, GroupsAreRaised}

abbrev with_fences : List KeyFence → Store → Store
with_fences fences m = record m { fences = fences }

pub fences_by_key : FencesByKey
fences_by_key kept m n records same stands = subst (λ s. StandsFor kept s records) (sym as_m) (record {
  floor = stands.floor;
  objects = λ key. stands.objects key ∙ object_is key;
  named = stands.named;
  sound = stands.sound;
  numbered = stands.numbered;
  differ = stands.differ;
  valued = stands.valued;
  end = stands.end;
  falls = stands.falls;
})
  where
    as_m : n ≡ record m { fences = n.fences }
    as_m = λ i. record { initial = same.initial i; named = same.named i; versions = same.versions i; fences = n.fences; floor = same.floor i }

    object_is : (key : List ℕ) → kept_of key m records ≡ kept_of key (record m { fences = n.fences }) records
    object_is key = λ i. record { base = base_of key m records; versions = sort_writes (version_writes key (versions_from m.floor m.versions)); fence = sym (same.fence_of key) i }

-- The fence of a key when those of some keys are raised.

abbrev raised_to : List (List ℕ) → ℕ → List ℕ → ℕ → ℕ
raised_to keys at q old = cond (has q keys) (max at old) old

more_raised : (keys : List (List ℕ)) (at : ℕ) (key q : List ℕ) (old : ℕ) → cond (bytes_eq q key) (max at (raised_to keys at q old)) (raised_to keys at q old) ≡ raised_to (key ∷ keys) at q old
more_raised keys at key q old = by (bytes_eq q key) (has q keys)
  where
    by : (t u : Bool) → cond t (max at (cond u (max at old) old)) (cond u (max at old) old) ≡ cond (t || u) (max at old) old
    by true true = omega arith
    by true false = refl
    by false u = refl

first_raised : (keys : List (List ℕ)) (at : ℕ) (key q : List ℕ) (old : ℕ) → raised_to keys at q (cond (bytes_eq q key) (max at old) old) ≡ raised_to (key ∷ keys) at q old
first_raised keys at key q old = by (bytes_eq q key) (has q keys)
  where
    by : (t u : Bool) → cond u (max at (cond t (max at old) old)) (cond t (max at old) old) ≡ cond (t || u) (max at old) old
    by true true = omega arith
    by true false = refl
    by false u = refl

twice_raised : (keys : List (List ℕ)) (at : ℕ) (q : List ℕ) (old : ℕ) → raised_to keys at q (raised_to keys at q old) ≡ raised_to keys at q old
twice_raised keys at q old = by (has q keys)
  where
    by : (u : Bool) → cond u (max at (cond u (max at old) old)) (cond u (max at old) old) ≡ cond u (max at old) old
    by true = omega arith
    by false = refl

fence_raised : (keys : List (List ℕ)) (at : ℕ) (fences : List KeyFence) (q : List ℕ) → fence q (raise_fences keys at fences) ≡ raised_to keys at q (fence q fences)
fence_raised [] at fences q = refl
fence_raised (key ∷ keys) at fences q = ap (λ old. cond (bytes_eq q key) (max at old) old) (fence_raised keys at fences q) ∙ more_raised keys at key q (fence q fences)

-- A store whose fences of some keys are raised.
record IsRaised (keys : List (List ℕ)) (at : ℕ) (m n : Store) : Type 0 where
  pub initial : n.initial ≡ m.initial
  pub named : n.named ≡ m.named
  pub versions : n.versions ≡ m.versions
  pub floor : n.floor ≡ m.floor
  pub fence_of : (q : List ℕ) → fence q n.fences ≡ raised_to keys at q (fence q m.fences)

same_raised : (keys : List (List ℕ)) (at : ℕ) (m n s : Store) → IsRaised keys at m n → IsRaised keys at m s → SameFences n s
same_raised keys at m n s one two = record {
  initial = two.initial ∙ sym one.initial;
  named = two.named ∙ sym one.named;
  versions = two.versions ∙ sym one.versions;
  floor = two.floor ∙ sym one.floor;
  fence_of = λ q. two.fence_of q ∙ sym (one.fence_of q);
}

same_itself : (m : Store) → SameFences m m
same_itself m = record { initial = refl; named = refl; versions = refl; floor = refl; fence_of = λ q. refl }

module _ (at : ℕ) where
  -- at or above the floor
  once : (keys : List (List ℕ)) (m : Store) → ltb at m.floor ≡ false → after_read_fenced keys at m ≡ with_fences (raise_fences keys at m.fences) m
  once keys m e = ap (λ b. cond b m (with_fences (raise_fences keys at m.fences) m)) e

  all_raised : (keys : List (List ℕ)) (m : Store) → ltb at m.floor ≡ false → IsRaised keys at m (after_read_fenced keys at m)
  all_raised keys m e = subst (IsRaised keys at m) (sym (once keys m e)) (record { initial = refl; named = refl; versions = refl; floor = refl; fence_of = fence_raised keys at m.fences })

  each_raised : (keys : List (List ℕ)) (m : Store) → ltb at m.floor ≡ false → IsRaised keys at m (fenced_each keys at m)
  each_raised [] m e = record { initial = refl; named = refl; versions = refl; floor = refl; fence_of = λ q. refl }
  each_raised (key ∷ keys) m e =
      let n = with_fences (raise_fences (key ∷ []) at m.fences) m in
      let rest = each_raised keys n e in
      subst (λ s. IsRaised (key ∷ keys) at m (fenced_each keys at s)) (sym (once (key ∷ []) m e)) (record {
        initial = rest.initial;
        named = rest.named;
        versions = rest.versions;
        floor = rest.floor;
        fence_of = λ q. rest.fence_of q ∙ first_raised keys at key q (fence q m.fences);
      })

  -- below the floor
  nothing : (keys : List (List ℕ)) (m : Store) → ltb at m.floor ≡ true → after_read_fenced keys at m ≡ m
  nothing keys m e = ap (λ b. cond b m (with_fences (raise_fences keys at m.fences) m)) e

  nothing_each : (keys : List (List ℕ)) (m : Store) → ltb at m.floor ≡ true → fenced_each keys at m ≡ m
  nothing_each [] m e = refl
  nothing_each (key ∷ keys) m e = ap (fenced_each keys at) (nothing (key ∷ []) m e) ∙ nothing_each keys m e

  each_same : (keys : List (List ℕ)) (m : Store) → SameFences (after_read_fenced keys at m) (fenced_each keys at m)
  each_same keys m = by (ltb at m.floor) refl
    where
      by : (t : Bool) → ltb at m.floor ≡ t → SameFences (after_read_fenced keys at m) (fenced_each keys at m)
      by true e = subst (SameFences (after_read_fenced keys at m)) (sym (nothing_each keys m e)) (subst (λ s. SameFences s m) (sym (nothing keys m e)) (same_itself m))
      by false e = same_raised keys at m (after_read_fenced keys at m) (fenced_each keys at m) (all_raised keys m e) (each_raised keys m e)

  -- raised again, where each of the further keys is one of the first
  again_same : (keys more : List (List ℕ)) (m : Store) → ((q : List ℕ) (old : ℕ) → raised_to more at q (raised_to keys at q old) ≡ raised_to keys at q old) → SameFences (after_read_fenced more at (after_read_fenced keys at m)) (after_read_fenced keys at m)
  again_same keys more m nothing_more = by (ltb at m.floor) refl
    where
      by : (t : Bool) → ltb at m.floor ≡ t → SameFences (after_read_fenced more at (after_read_fenced keys at m)) (after_read_fenced keys at m)
      by true e = subst (λ s. SameFences (after_read_fenced more at s) s) (sym (nothing keys m e)) (subst (λ s. SameFences s m) (sym (nothing more m e)) (same_itself m))
      by false e = subst (λ s. SameFences (after_read_fenced more at s) s) (sym (once keys m e)) high
        where
          high : SameFences (after_read_fenced more at (with_fences (raise_fences keys at m.fences) m)) (with_fences (raise_fences keys at m.fences) m)
          high =
              let is = all_raised more (with_fences (raise_fences keys at m.fences) m) e in
              record {
                initial = sym is.initial;
                named = sym is.named;
                versions = sym is.versions;
                floor = sym is.floor;
                fence_of = λ q.
                    sym (is.fence_of q ∙ ap (raised_to more at q) (fence_raised keys at m.fences q) ∙ nothing_more q (fence q m.fences) ∙ sym (fence_raised keys at m.fences q));
              }

  one_again : (keys : List (List ℕ)) (key : List ℕ) → has key keys ≡ true → (q : List ℕ) (old : ℕ) → raised_to (key ∷ []) at q (raised_to keys at q old) ≡ raised_to keys at q old
  one_again keys key there q old = by (bytes_eq q key) refl
    where
      by : (t : Bool) → bytes_eq q key ≡ t → cond (t || false) (max at (raised_to keys at q old)) (raised_to keys at q old) ≡ raised_to keys at q old
      by false e = refl
      by true e =
          let own : has q keys ≡ true = ap (λ q. has q keys) (same_key q key e) ∙ there in
          ap (λ u. max at (cond u (max at old) old)) own ∙ (let h : max at (max at old) ≡ max at old = omega arith in h) ∙ sym (ap (λ u. cond u (max at old) old) own)

  read_same : (keys : List (List ℕ)) (m : Store) (bound : ℕ) (key : List ℕ) (c k : ℕ) (view : List (Live Body)) → read_below bound key c k (after_read_fenced keys at m) view ≡ read_below bound key c k m view
  read_same keys m bound key c k view =
      elim (ltb at m.floor) as (λ b. read_below bound key c k (cond b m (with_fences (raise_fences keys at m.fences) m)) view ≡ read_below bound key c k m view) [ true ↦ refl | false ↦ refl ]

  named_stays : (keys : List (List ℕ)) (m : Store) → (after_read_fenced keys at m).named ≡ m.named
  named_stays keys m = elim (ltb at m.floor) as (λ b. (cond b m (with_fences (raise_fences keys at m.fences) m)).named ≡ m.named) [ true ↦ refl | false ↦ refl ]

  floor_stays : (keys : List (List ℕ)) (m : Store) → (after_read_fenced keys at m).floor ≡ m.floor
  floor_stays keys m = elim (ltb at m.floor) as (λ b. (cond b m (with_fences (raise_fences keys at m.fences) m)).floor ≡ m.floor) [ true ↦ refl | false ↦ refl ]

pub groups_are_raised : GroupsAreRaised
groups_are_raised keys at m = record {
  each = each_same at keys m;
  again = λ key there. again_same at keys (key ∷ []) m (one_again at keys key there);
  all_again = again_same at keys keys m (twice_raised keys at);
  named = named_stays at keys m;
  floor = floor_stays at keys m;
  free = λ key cursor view. read_same at keys m cursor key (suc cursor) 0 view;
  fenced = λ key seq view. read_same at keys m seq key seq 0 view;
}
