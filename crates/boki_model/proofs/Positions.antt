-- Positions of writes.
use Rattle.std.proofs.Common.{◌≡◌, ◌⊎◌, inl, inr, ℕ, ◌<◌, ◌≤◌, Bool, true, false, cond, ◌&&◌, eqb, List, [], ◌∷◌, ◌++◌, Option, Some, None, option_map, bytes_eq, refl, sym, ap, ◌∙◌, subst, append_assoc, arith}
use Rattle.std.proofs.lemmas.Bool.{eq-eqb, false_from_ne_true}
use Rattle.std.proofs.lemmas.Slice.Eq.{bytes_eq-Decides}
use Rattle.lb_base.specs.declared.value.Value.{Value}
use Rattle.boki_types.specs.declared.body.Body.{Body}
use Rattle.boki_types.specs.declared.store.Name.{Name}
use Rattle.boki_model.specs.Live.{Live}
use Rattle.boki_model.specs.Maps.{get}
use Rattle.boki_model.specs.LogLaws.{FallBelow}
use Rattle.boki_model.specs.Writes.{Version, Store, NamedValue, Write, write_at, version_value, version_writes, logged_write, here_or_named, logged_write_of, prepend_some, logged_writes, initial_writes, writes_of, is_below, last_value_below}
use Rattle.boki_model.specs.WriteLaws.{IsFree, HaveOwnPositions, AreUniqueVersions, with_version, ChangesNoLast}

-- One further version.

pub last_others : (v : Version) (store : Store) (view : List (Live Body)) (key : List ℕ) (c k : ℕ) → (key ≡ v.key → ⊥) → last_value_below key c k (with_version v store) view ≡ last_value_below key c k store view
last_others v store view key c k ne = rw (false_from_ne_true (bytes_eq key v.key) (λ e. ne ((bytes_eq-Decides key v.key).0 e)))

pub last_before : (v : Version) (store : Store) (view : List (Live Body)) (c k : ℕ) → is_below v.cursor v.number c k ≡ false → last_value_below v.key c k (with_version v store) view ≡ last_value_below v.key c k store view
last_before v store view c k at = rw ((bytes_eq-Decides v.key v.key).1 refl, at)

pub changes_no_last : (v : Version) (store : Store) (view : List (Live Body)) → ChangesNoLast v store view
changes_no_last v store view = record { others = last_others v store view; before = last_before v store view }

-- Positions that differ.

free_append : (a j : ℕ) (ws us : List Write) → IsFree a j ws → IsFree a j us → IsFree a j (ws ++ us)
free_append a j [] us fw fu = fu
free_append a j (w ∷ ws) us fw fu = (fw.0, free_append a j ws us fw.1 fu)

-- all second numbers are at least 1
abbrev AreRaised : List Write → Type 0
AreRaised [] = Unit {0}
AreRaised (w ∷ ws) = (0 < w.second) × AreRaised ws

-- all first numbers are below n, at least 1, and second numbers are 0
abbrev AreLogged : ℕ → List Write → Type 0
AreLogged n [] = Unit {0}
AreLogged n (w ∷ ws) = (0 < w.first) × (w.first < n) × (w.second ≡ 0) × AreLogged n ws

logged_more : (n m : ℕ) (ws : List Write) → n ≤ m → AreLogged n ws → AreLogged m ws
logged_more n m [] le h = tt
logged_more n m (w ∷ ws) le h = (h.0, omega (arith, h.1), h.2, logged_more n m ws le h.3)

free_above : (a n : ℕ) (ws : List Write) → n ≤ a → AreLogged n ws → IsFree a 0 ws
free_above a n [] le h = tt
free_above a n (w ∷ ws) le h = ((λ e f. omega (arith, h.1, e)), free_above a n ws le h.3)

free_raised : (a j n : ℕ) (ws : List Write) → 0 < j → AreLogged n ws → IsFree a j ws
free_raised a j n [] lt h = tt
free_raised a j n (w ∷ ws) lt h = ((λ e f. omega (arith, h.2, f)), free_raised a j n ws lt h.3)

-- the initial object stands at (0, 0), below all logged writes
abbrev AreInitial : List Write → Type 0
AreInitial [] = Unit {0}
AreInitial (w ∷ ws) = (w.first ≡ 0) × (w.second ≡ 0) × (ws ≡ [])

initial_is : (key : List ℕ) (objects : List (List ℕ × Value)) → AreInitial (initial_writes key objects)
initial_is key objects = at (get key objects)
  where
    at : (o : Option Value) → AreInitial (prepend_some (option_map (write_at 0 0) o) [])
    at None = tt
    at (Some v) = (refl, refl, refl)

initial_apart : (ws : List Write) → AreInitial ws → HaveOwnPositions ws
initial_apart [] h = tt
initial_apart (w ∷ ws) h = subst (λ l. IsFree w.first w.second l × HaveOwnPositions l) (sym h.2) (tt, tt)

free_initial : (a j : ℕ) (ws : List Write) → (0 < a) ⊎ (0 < j) → AreInitial ws → IsFree a j ws
free_initial a j [] above h = tt
free_initial a j (w ∷ ws) above h = (differs above, subst (IsFree a j) (sym h.2) tt)
  where
    differs : (0 < a) ⊎ (0 < j) → a ≡ w.first → j ≡ w.second → ⊥
    differs (inl lt) e f = omega (arith, h.0, e)
    differs (inr lt) e f = omega (arith, h.1, f)

logged_are : (key : List ℕ) (named : List NamedValue) (n : ℕ) (view : List (Live Body)) → FallBelow n view → AreLogged n (logged_writes key named view)
logged_are key named n [] fall = tt
logged_are key named n (x ∷ xs) fall = at (logged_are key named x.seq xs fall.2) (logged_write x.holds)
  where
    more : AreLogged x.seq (logged_writes key named xs) → AreLogged n (logged_writes key named xs)
    more h = logged_more x.seq n (logged_writes key named xs) (omega (arith, fall.1)) h

    put : AreLogged x.seq (logged_writes key named xs) → (o : Option Value) → AreLogged n (prepend_some (option_map (write_at x.seq 0) o) (logged_writes key named xs))
    put h None = more h
    put h (Some v) = (fall.0, fall.1, refl, more h)

    at : AreLogged x.seq (logged_writes key named xs) → (o : Option (List ℕ × (Name × Option Value))) → AreLogged n (prepend_some (logged_write_of key x.seq named o) (logged_writes key named xs))
    at h None = more h
    at h (Some w) = elim (bytes_eq key w.0) as (λ t. AreLogged n (prepend_some (cond t (option_map (write_at x.seq 0) (here_or_named w.1.1 w.1.0 named)) None) (logged_writes key named xs)))
        [ true ↦ put h (here_or_named w.1.1 w.1.0 named) | false ↦ more h ]

logged_apart : (key : List ℕ) (named : List NamedValue) (n : ℕ) (view : List (Live Body)) (us : List Write) → FallBelow n view → AreInitial us → HaveOwnPositions (logged_writes key named view ++ us)
logged_apart key named n [] us fall initial = initial_apart us initial
logged_apart key named n (x ∷ xs) us fall initial = at (logged_apart key named x.seq xs us fall.2 initial) (logged_write x.holds)
  where
    put : HaveOwnPositions (logged_writes key named xs ++ us) → (o : Option Value) → HaveOwnPositions (prepend_some (option_map (write_at x.seq 0) o) (logged_writes key named xs) ++ us)
    put h None = h
    put h (Some v) =
        (free_append x.seq 0 (logged_writes key named xs) us (free_above x.seq x.seq (logged_writes key named xs) (omega arith) (logged_are key named x.seq xs fall.2)) (free_initial x.seq 0 us (inl fall.0) initial), h)

    at : HaveOwnPositions (logged_writes key named xs ++ us) → (o : Option (List ℕ × (Name × Option Value))) → HaveOwnPositions (prepend_some (logged_write_of key x.seq named o) (logged_writes key named xs) ++ us)
    at h None = h
    at h (Some w) = elim (bytes_eq key w.0) as (λ t. HaveOwnPositions (prepend_some (cond t (option_map (write_at x.seq 0) (here_or_named w.1.1 w.1.0 named)) None) (logged_writes key named xs) ++ us))
        [ true ↦ put h (here_or_named w.1.1 w.1.0 named) | false ↦ h ]

version_free : (key : List ℕ) (c k : ℕ) (vs : List Version) → version_value key c k vs ≡ None → IsFree c k (version_writes key vs)
version_free key c k [] none = tt
version_free key c k (v ∷ vs) none = at (version_free key c k vs) (bytes_eq key v.key) (eqb c v.cursor) refl (eqb k v.number) refl none
  where
    none_some : (x : Value) → Some x ≡ None → ⊥
    none_some x e = cc

    at : (version_value key c k vs ≡ None → IsFree c k (version_writes key vs)) → (t u : Bool) → eqb c v.cursor ≡ u → (w : Bool) → eqb k v.number ≡ w → cond (t && u && w) (Some v.value) (version_value key c k vs) ≡ None
        → IsFree c k (cond t (write_at v.cursor v.number v.value ∷ version_writes key vs) (version_writes key vs))
    at ih true true e true f is = absurd (none_some v.value is)
    at ih true true e false f is = ((λ a z. let h : ⊥ = cc (eq-eqb k v.number z) in h), ih is)
    at ih true false e w f is = ((λ a z. let h : ⊥ = cc (eq-eqb c v.cursor a) in h), ih is)
    at ih false u e w f is = ih is

versions_apart : (key : List ℕ) (vs : List Version) (n : ℕ) (ws us : List Write) → AreUniqueVersions vs → AreLogged n ws → AreInitial us → HaveOwnPositions (ws ++ us) → HaveOwnPositions (version_writes key vs ++ (ws ++ us))
versions_apart key [] n ws us numbered logged initial apart = apart
versions_apart key (v ∷ vs) n ws us numbered logged initial apart = at (versions_apart key vs n ws us numbered.2 logged initial apart) (bytes_eq key v.key) refl
  where
    at : HaveOwnPositions (version_writes key vs ++ (ws ++ us)) → (t : Bool) → bytes_eq key v.key ≡ t → HaveOwnPositions (cond t (write_at v.cursor v.number v.value ∷ version_writes key vs) (version_writes key vs) ++ (ws ++ us))
    at ih true e = (
      free_append v.cursor v.number (version_writes key vs) (ws ++ us)
          (version_free key v.cursor v.number vs (ap (λ q. version_value q v.cursor v.number vs) ((bytes_eq-Decides key v.key).0 e) ∙ numbered.1))
          (free_append v.cursor v.number ws us (free_raised v.cursor v.number n ws numbered.0 logged) (free_initial v.cursor v.number us (inr numbered.0) initial)),
      ih,
    )
    at ih false e = ih

pub positions_unique : (key : List ℕ) (store : Store) (n : ℕ) (view : List (Live Body)) → AreUniqueVersions store.versions → FallBelow n view → HaveOwnPositions (writes_of key store view)
positions_unique key store n view numbered fall =
    subst HaveOwnPositions (sym (append_assoc (version_writes key store.versions) (logged_writes key store.named view) (initial_writes key store.initial)))
    (versions_apart key store.versions n (logged_writes key store.named view) (initial_writes key store.initial) numbered
    (logged_are key store.named n view fall) (initial_is key store.initial)
    (logged_apart key store.named n view (initial_writes key store.initial) fall (initial_is key store.initial)))
