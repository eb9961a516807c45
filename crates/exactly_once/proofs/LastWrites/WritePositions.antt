-- The last write of an object, by the positions of the store's versions and of the live records.
use Rattle.std.proofs.Common.{◌≡◌, ⊎_elim, ℕ, suc, ◌<◌, ◌≤◌, Bool, true, false, cond, eqb, ◌&&◌, List, [], ◌∷◌, ◌++◌, length, Option, Some, None, option_map, refl, sym, ap, ◌∙◌, subst, arith}
use Rattle.std.specs.Prelude.{bytes_eq}
use Rattle.std.specs.List.{AllByRecursion}
use Rattle.std.proofs.lemmas.Bool.{eqb-true, eq-eqb, and_parts, and_from, cases_lt}
use Rattle.std.proofs.lemmas.List.{append_assoc}
use Rattle.lb_base.specs.declared.value.Value.{Value}
use Rattle.boki_types.specs.declared.body.Body.{Body}
use Rattle.boki_types.specs.declared.store.Name.{Name}
use Rattle.boki_model.specs.Live.{Live}
use Rattle.boki_model.specs.Maps.{get}
use Rattle.boki_model.specs.Writes.{Store, Version, NamedValue, Write, write_at, version_value, here_or_named, logged_write_of, logged_write, logged_writes, version_writes, initial_writes, writes_of, prepend_some, is_below, last_write_below, last_value_below}
use Rattle.exactly_once.specs.FurtherLaws.Words.{versions_with_cursor, AreConsecutive}
use Rattle.exactly_once.proofs.Log.HistoryTails.{Tail, here, there, tail_cases}
use Rattle.exactly_once.proofs.Log.ListElements.{each_append, each_weaker, each_both, each_kept, tail_prepend, tail_append}
use Rattle.exactly_once.proofs.Log.MapChanges.{same_itself}
use Rattle.exactly_once.proofs.Log.LiveRecords.{Under}
use Rattle.exactly_once.proofs.LastWrites.LastBelow.{last_same, last_skip, last_none, not_below_zero, is_below_first, IsTop, Agrees, top_of, below_apart, below_over}

-- What holds of every write of an object.

pub record StandsAt (seq : ℕ) (w : Write) : Type 0 where
  pub first_is : w.first ≡ seq
  pub second_is : w.second ≡ 0

pub logged_stands : (key : List ℕ) (seq : ℕ) (named : List NamedValue) (o : Option (List ℕ × (Name × Option Value))) (w : Write) → logged_write_of key seq named o ≡ Some w → StandsAt seq w
logged_stands key seq named None w e = cc
logged_stands key seq named (Some l) w e = at (bytes_eq key l.0) (here_or_named l.1.1 l.1.0 named) e
  where
    at : (b : Bool) (v : Option Value) → cond b (option_map (write_at seq 0) v) None ≡ Some w → StandsAt seq w
    at false v e = cc
    at true None e = cc
    at true (Some v) e = subst (StandsAt seq) (let same : write_at seq 0 v ≡ w = cc in same) (record { first_is = refl; second_is = refl })

each_version : (P : Write → Type 0) (key : List ℕ) (vs : List Version) → AllByRecursion (λ v. bytes_eq key v.key ≡ true → P (write_at v.cursor v.number v.value)) vs → AllByRecursion P (version_writes key vs)
each_version P key [] each = tt
each_version P key (v ∷ vs) each = at (each_version P key vs each.1) (bytes_eq key v.key) refl
  where
    at : AllByRecursion P (version_writes key vs) → (b : Bool) → bytes_eq key v.key ≡ b → AllByRecursion P (cond b (write_at v.cursor v.number v.value ∷ version_writes key vs) (version_writes key vs))
    at rest true e = (each.0 e, rest)
    at rest false e = rest

each_with : (P : Write → Type 0) (o : Option Write) (ws : List Write) → ((w : Write) → o ≡ Some w → P w) → AllByRecursion P ws → AllByRecursion P (prepend_some o ws)
each_with P None ws one rest = rest
each_with P (Some w) ws one rest = (one w refl, rest)

each_logged : (P : Write → Type 0) (key : List ℕ) (named : List NamedValue) (xs : List (Live Body)) → AllByRecursion (λ x. (w : Write) → logged_write_of key x.seq named (logged_write x.holds) ≡ Some w → P w) xs → AllByRecursion P (logged_writes key named xs)
each_logged P key named [] each = tt
each_logged P key named (x ∷ xs) each = each_with P (logged_write_of key x.seq named (logged_write x.holds)) (logged_writes key named xs) each.0 (each_logged P key named xs each.1)

each_initial : (P : Write → Type 0) (o : Option Value) → ((v : Value) → o ≡ Some v → P (write_at 0 0 v)) → AllByRecursion P (prepend_some (option_map (write_at 0 0) o) [])
each_initial P None one = tt
each_initial P (Some v) one = (one v refl, tt)

pub each_write :
    (P : Write → Type 0) (key : List ℕ) (store : Store) (xs : List (Live Body))
    → AllByRecursion (λ v. bytes_eq key v.key ≡ true → P (write_at v.cursor v.number v.value)) store.versions
    → AllByRecursion (λ x. (w : Write) → logged_write_of key x.seq store.named (logged_write x.holds) ≡ Some w → P w) xs
    → ((v : Value) → get key store.initial ≡ Some v → P (write_at 0 0 v)) → AllByRecursion P (writes_of key store xs)
each_write P key store xs versions logged initial =
    each_append P (version_writes key store.versions ++ logged_writes key store.named xs) (initial_writes key store.initial)
    (each_append P (version_writes key store.versions) (logged_writes key store.named xs) (each_version P key store.versions versions) (each_logged P key store.named xs logged))
    (each_initial P (get key store.initial) initial)

-- the records' seqnums are at most n
within : (n : ℕ) (xs : List (Live Body)) → Under n xs → AllByRecursion (λ x. (0 < x.seq) × (x.seq ≤ n)) xs
within n [] under = tt
within n (x ∷ xs) under =
    ((omega (arith, under.1), omega (arith, under.1, under.2)), each_weaker (λ (x : Live Body). (0 < x.seq) × (x.seq ≤ under.0)) (λ (x : Live Body). (0 < x.seq) × (x.seq ≤ n)) (λ x h. (h.0, omega (arith, h.1, under.2))) xs (within under.0 xs under.3))

-- what holds of a write at a seqnum of the records
each_below : (P : Write → Type 0) (key : List ℕ) (named : List NamedValue) (n : ℕ) (xs : List (Live Body)) → Under n xs → ((w : Write) → w.first ≤ n → w.second ≡ 0 → P w) → AllByRecursion (λ x. (w : Write) → logged_write_of key x.seq named (logged_write x.holds) ≡ Some w → P w) xs
each_below P key named n xs under one =
    each_weaker (λ (x : Live Body). (0 < x.seq) × (x.seq ≤ n)) (λ (x : Live Body). (w : Write) → logged_write_of key x.seq named (logged_write x.holds) ≡ Some w → P w)
    (λ x h w e. let stands : StandsAt x.seq w = logged_stands key x.seq named (logged_write x.holds) w e in one w (omega (arith, h.1, stands.first_is)) stands.second_is) xs (within n xs under)

-- The versions at a seqnum.

pub numbered_within : (vs : List Version) → AreConsecutive vs → AllByRecursion (λ v. (0 < v.number) × (v.number ≤ length vs)) vs
numbered_within [] numbered = tt
numbered_within (v ∷ vs) numbered =
    ((omega (arith, numbered.0), omega (arith, numbered.0)), each_weaker (λ (v : Version). (0 < v.number) × (v.number ≤ length vs)) (λ (v : Version). (0 < v.number) × (v.number ≤ suc (length vs))) (λ v h. (h.0, omega (arith, h.1))) vs (numbered_within vs numbered.1))

numbered_tail : (rest vs : List Version) → Tail rest vs → AreConsecutive vs → AreConsecutive rest
numbered_tail rest vs here numbered = numbered
numbered_tail rest (v ∷ vs) (there t) numbered = numbered_tail rest vs t numbered.1

length_tail : (v : Version) (rest vs : List Version) → Tail (v ∷ rest) vs → length rest < length vs
length_tail v rest vs here = omega arith
length_tail v rest (u ∷ vs) (there t) = omega (arith, length_tail v rest vs t)

-- each number stands once
pub numbered_once : (v : Version) (rest vs : List Version) → Tail (v ∷ rest) vs → AreConsecutive vs → AllByRecursion (λ u. u.number ≡ v.number → u ≡ v) vs
numbered_once v rest vs here numbered =
    (λ e. refl, each_weaker (λ (u : Version). (0 < u.number) × (u.number ≤ length rest)) (λ (u : Version). u.number ≡ v.number → u ≡ v) (λ u h e. absurd (let no_way : ⊥ = omega (arith, h.1, e, numbered.0) in no_way)) rest (numbered_within rest numbered.1))
numbered_once v rest (u ∷ vs) (there t) numbered =
    let own : v.number ≡ suc (length rest) = (numbered_tail (v ∷ rest) vs t numbered.1).0 in
    (λ e. absurd (let no_way : ⊥ = omega (arith, e, own, numbered.0, length_tail v rest vs t) in no_way), numbered_once v rest vs t numbered.1)

module _ (seq : ℕ) where
  abbrev pub At : (Version → Type 0) → List Version → Type 0
  At P vs = AllByRecursion (λ v. eqb seq v.cursor ≡ true → P v) vs

  pub at_of : (P : Version → Type 0) (vs : List Version) → AllByRecursion P (versions_with_cursor seq vs) → At P vs
  at_of P vs each = each_kept P (λ v. eqb seq v.cursor) vs each

  no_tail : (v : Version) (rest : List Version) → Tail (v ∷ rest) [] → ⊥
  no_tail v rest t = let h : length rest < 0 = length_tail v rest [] t in omega arith

  -- a version that stands at the seqnum is found there
  pub found_version : (v : Version) (rest vs : List Version) → Tail (v ∷ rest) (versions_with_cursor seq vs) → At (λ u. u.number ≡ v.number → u ≡ v) vs → version_value v.key seq v.number vs ≡ Some v.value
  found_version v rest [] t once = absurd (no_tail v rest t)
  found_version v rest (u ∷ vs) t once = at (λ t. found_version v rest vs t once.1) (bytes_eq v.key u.key && eqb seq u.cursor && eqb v.number u.number) refl (eqb seq u.cursor) refl t
    where
      is_this : (bytes_eq v.key u.key && eqb seq u.cursor && eqb v.number u.number) ≡ true → u ≡ v
      is_this e =
          let parts = and_parts (bytes_eq v.key u.key && eqb seq u.cursor) (eqb v.number u.number) e in
          once.0 (and_parts (bytes_eq v.key u.key) (eqb seq u.cursor) parts.0).1 (sym (eqb-true v.number u.number parts.1))

      is_first : eqb seq u.cursor ≡ true → v ≡ u → (bytes_eq v.key u.key && eqb seq u.cursor && eqb v.number u.number) ≡ true
      is_first stands same =
          and_from (bytes_eq v.key u.key && eqb seq u.cursor) (eqb v.number u.number)
          (and_from (bytes_eq v.key u.key) (eqb seq u.cursor) (subst (λ (u : Version). bytes_eq v.key u.key ≡ true) same (same_itself v.key)) stands)
          (eq-eqb v.number u.number (ap (λ (v : Version). v.number) same))

      at : (Tail (v ∷ rest) (versions_with_cursor seq vs) → version_value v.key seq v.number vs ≡ Some v.value) → (b : Bool) → (bytes_eq v.key u.key && eqb seq u.cursor && eqb v.number u.number) ≡ b → (c : Bool) → eqb seq u.cursor ≡ c → Tail (v ∷ rest) (cond c (u ∷ versions_with_cursor seq vs) (versions_with_cursor seq vs)) → cond b (Some u.value) (version_value v.key seq v.number vs) ≡ Some v.value
      at later true e c f t = ap (λ (u : Version). Some u.value) (is_this e)
      at later false e false f t = later t
      at later false e true f t = ⊎_elim (λ same. absurd (let this : v ≡ u = cc in let h = is_first f this in let no_way : ⊥ = cc in no_way)) later (tail_cases t)

  -- as a write of its object
  found_write : (key : List ℕ) (k : ℕ) (value : Value) (vs : List Version) → version_value key seq k vs ≡ Some value → (rest : List Write) × Tail (write_at seq k value ∷ rest) (version_writes key vs)
  found_write key k value [] found = cc
  found_write key k value (u ∷ vs) found = at (found_write key k value vs) (bytes_eq key u.key) refl (eqb seq u.cursor) refl (eqb k u.number) refl found
    where
      at :
          (version_value key seq k vs ≡ Some value → (rest : List Write) × Tail (write_at seq k value ∷ rest) (version_writes key vs))
          → (a : Bool) → bytes_eq key u.key ≡ a → (b : Bool) → eqb seq u.cursor ≡ b → (c : Bool) → eqb k u.number ≡ c → cond (a && b && c) (Some u.value) (version_value key seq k vs) ≡ Some value
          → (rest : List Write) × Tail (write_at seq k value ∷ rest) (cond a (write_at u.cursor u.number u.value ∷ version_writes key vs) (version_writes key vs))
      at later true e true f true g found =
          let same : write_at u.cursor u.number u.value ≡ write_at seq k value = λ i. write_at (sym (eqb-true seq u.cursor f) i) (sym (eqb-true k u.number g) i) ((let e : u.value ≡ value = cc in e) i) in
          (version_writes key vs, subst (λ (w : Write). Tail (w ∷ version_writes key vs) (write_at u.cursor u.number u.value ∷ version_writes key vs)) same here)
      at later true e true f false g found = let r = later found in (r.0, there r.1)
      at later true e false f c g found = let r = later found in (r.0, there r.1)
      at later false e b f c g found = later found

-- The last write of an object, as records and positions go on.

skip_last : (c k : ℕ) (o : Option Write) (vs ls is : List Write) → ((w : Write) → o ≡ Some w → is_below w.first w.second c k ≡ false) → last_write_below c k (vs ++ prepend_some o ls ++ is) ≡ last_write_below c k (vs ++ ls ++ is)
skip_last c k None vs ls is above = refl
skip_last c k (Some w) vs ls is above =
    ap (last_write_below c k) (append_assoc vs (w ∷ ls) is)
    ∙ last_skip c k vs w (ls ++ is) (above w refl)
    ∙ ap (last_write_below c k) (sym (append_assoc vs ls is))

module _ (store : Store) (key : List ℕ) where
  -- a record at or above the position adds nothing below it
  pub last_behind : (c k : ℕ) (x : Live Body) (xs : List (Live Body)) → is_below x.seq 0 c k ≡ false → last_value_below key c k store (x ∷ xs) ≡ last_value_below key c k store xs
  last_behind c k x xs above =
      ap (option_map (λ (w : Write). w.value))
      (skip_last c k (logged_write_of key x.seq store.named (logged_write x.holds)) (version_writes key store.versions) (logged_writes key store.named xs) (initial_writes key store.initial)
      (λ w e. let stands : StandsAt x.seq w = logged_stands key x.seq store.named (logged_write x.holds) w e in
      ap (λ n. is_below n w.second c k) stands.first_is ∙ ap (λ n. is_below x.seq n c k) stands.second_is ∙ above))

  -- the first live record, and what is behind it
  module _ (x : Live Body) (xs : List (Live Body)) (m : ℕ) (is_seq : x.seq ≡ suc m) (under : Under m xs) where
    each_here :
        (P : Write → Type 0)
        → AllByRecursion (λ v. bytes_eq key v.key ≡ true → P (write_at v.cursor v.number v.value)) store.versions
        → ((w : Write) → logged_write_of key x.seq store.named (logged_write x.holds) ≡ Some w → P w)
        → ((w : Write) → w.first < x.seq → w.second ≡ 0 → P w) → AllByRecursion P (writes_of key store (x ∷ xs))
    each_here P versions own older =
        each_write P key store (x ∷ xs) versions
        (own, each_below P key store.named m xs under (λ w le zero_is. older w (omega (arith, le, is_seq)) zero_is))
        (λ v e. older (write_at 0 0 v) (omega (arith, is_seq)) refl)

    -- where no write of the object is at (seq, k), the next position has the same last one
    pub last_apart :
        (k : ℕ) → At x.seq (λ v. v.number ≡ k → bytes_eq key v.key ≡ false) store.versions
        → (k ≡ 0 → logged_write_of key x.seq store.named (logged_write x.holds) ≡ None)
        → last_value_below key x.seq k store (x ∷ xs) ≡ last_value_below key x.seq (suc k) store (x ∷ xs)
    last_apart k versions own =
        ap (option_map (λ (w : Write). w.value)) (last_same x.seq k x.seq (suc k) (writes_of key store (x ∷ xs))
        (each_here (λ w. is_below w.first w.second x.seq k ≡ is_below w.first w.second x.seq (suc k))
        (each_weaker (λ (v : Version). eqb x.seq v.cursor ≡ true → v.number ≡ k → bytes_eq key v.key ≡ false) (λ (v : Version). bytes_eq key v.key ≡ true → is_below v.cursor v.number x.seq k ≡ is_below v.cursor v.number x.seq (suc k))
        (λ v h same. below_apart v.cursor v.number x.seq k (λ e f. let other = h (eq-eqb x.seq v.cursor (sym e)) f in let no_way : ⊥ = cc in no_way)) store.versions versions)
        (λ w e. let stands : StandsAt x.seq w = logged_stands key x.seq store.named (logged_write x.holds) w e in below_apart w.first w.second x.seq k (λ f g. let none = own (sym g ∙ stands.second_is) in let no_way : ⊥ = cc in no_way))
        (λ w lt zero_is. below_apart w.first w.second x.seq k (λ f g. omega (arith, lt, f)))))

    -- behind the last version at the seqnum, up to the next bound where something may stand
    pub last_over :
        (n c : ℕ) → x.seq < c → At x.seq (λ v. v.number ≤ n) store.versions → AllByRecursion (λ v. v.cursor < c → v.cursor ≤ x.seq) store.versions
        → last_value_below key x.seq (suc n) store (x ∷ xs) ≡ last_value_below key c 0 store (x ∷ xs)
    last_over n c lt versions placed =
        ap (option_map (λ (w : Write). w.value)) (last_same x.seq (suc n) c 0 (writes_of key store (x ∷ xs))
        (each_here (λ w. is_below w.first w.second x.seq (suc n) ≡ is_below w.first w.second c 0)
        (each_weaker (λ (v : Version). (eqb x.seq v.cursor ≡ true → v.number ≤ n) × (v.cursor < c → v.cursor ≤ x.seq)) (λ (v : Version). bytes_eq key v.key ≡ true → is_below v.cursor v.number x.seq (suc n) ≡ is_below v.cursor v.number c 0)
        (λ v h same. below_over v.cursor v.number x.seq n c lt h.1 (λ e. h.0 (eq-eqb x.seq v.cursor (sym e)))) store.versions
        (each_both (λ (v : Version). eqb x.seq v.cursor ≡ true → v.number ≤ n) (λ (v : Version). v.cursor < c → v.cursor ≤ x.seq) store.versions versions placed))
        (λ w e. let stands : StandsAt x.seq w = logged_stands key x.seq store.named (logged_write x.holds) w e in
        below_over w.first w.second x.seq n c lt (λ h. omega (arith, stands.first_is)) (λ h. omega (arith, stands.second_is)))
        (λ w below zero_is. below_over w.first w.second x.seq n c lt (λ h. omega arith) (λ h. absurd (omega (arith, below, h))))))

    is_top : (k : ℕ) (value : Value) → IsTop x.seq k value (writes_of key store (x ∷ xs)) → last_value_below key x.seq (suc k) store (x ∷ xs) ≡ Some value
    is_top k value top = ap (option_map (λ (w : Write). w.value)) top.is_last ∙ ap Some top.value_is

    -- the record is a write of the object
    pub last_logged :
        (w : Write) → logged_write_of key x.seq store.named (logged_write x.holds) ≡ Some w → At x.seq (λ v. 0 < v.number) store.versions
        → last_value_below key x.seq 1 store (x ∷ xs) ≡ Some w.value
    last_logged w is versions =
        let vs = version_writes key store.versions in
        let ls = logged_writes key store.named xs in
        let others = initial_writes key store.initial in
        let stands : StandsAt x.seq w = logged_stands key x.seq store.named (logged_write x.holds) w is in
        let t : Tail (w ∷ (ls ++ others)) (vs ++ prepend_some (logged_write_of key x.seq store.named (logged_write x.holds)) ls ++ others) =
        subst (λ (o : Option Write). Tail (w ∷ (ls ++ others)) (vs ++ prepend_some o ls ++ others)) (sym is) (tail_append others (w ∷ ls) (vs ++ w ∷ ls) (tail_prepend vs (w ∷ ls) (w ∷ ls) here)) in
        is_top 0 w.value
        (top_of x.seq 0 w.value w (ls ++ others) (writes_of key store (x ∷ xs)) stands.first_is stands.second_is refl t
        (each_here (Agrees x.seq 0 w.value)
        (each_weaker (λ (v : Version). eqb x.seq v.cursor ≡ true → 0 < v.number) (λ (v : Version). bytes_eq key v.key ≡ true → Agrees x.seq 0 w.value (write_at v.cursor v.number v.value))
        (λ v h same. record { agrees = λ first second. absurd (let no_way : ⊥ = omega (arith, h (eq-eqb x.seq v.cursor (sym first)), second) in no_way) }) store.versions versions)
        (λ u e. record { agrees = λ first second. let same : u ≡ w = cc in ap (λ (w : Write). w.value) same })
        (λ u below zero_is. record { agrees = λ first second. absurd (let no_way : ⊥ = omega (arith, below, first) in no_way) })))

    -- a version of the object stands there
    pub last_version :
        (k : ℕ) (value : Value) → 0 < k → version_value key x.seq k store.versions ≡ Some value → At x.seq (λ v. v.number ≡ k → v.value ≡ value) store.versions
        → last_value_below key x.seq (suc k) store (x ∷ xs) ≡ Some value
    last_version k value lt found once =
        let ls = prepend_some (logged_write_of key x.seq store.named (logged_write x.holds)) (logged_writes key store.named xs) in
        let others = initial_writes key store.initial in
        let w = found_write x.seq key k value store.versions found in
        is_top k value
        (top_of x.seq k value (write_at x.seq k value) (w.0 ++ ls ++ others) (writes_of key store (x ∷ xs)) refl refl refl
        (tail_append others (write_at x.seq k value ∷ (w.0 ++ ls)) (version_writes key store.versions ++ ls) (tail_append ls (write_at x.seq k value ∷ w.0) (version_writes key store.versions) w.1))
        (each_here (Agrees x.seq k value)
        (each_weaker (λ (v : Version). eqb x.seq v.cursor ≡ true → v.number ≡ k → v.value ≡ value) (λ (v : Version). bytes_eq key v.key ≡ true → Agrees x.seq k value (write_at v.cursor v.number v.value))
        (λ v h same. record { agrees = λ first second. h (eq-eqb x.seq v.cursor (sym first)) second }) store.versions once)
        (λ u e. let stands : StandsAt x.seq u = logged_stands key x.seq store.named (logged_write x.holds) u e in
        record { agrees = λ first second. absurd (let no_way : ⊥ = omega (arith, lt, second, stands.second_is) in no_way) })
        (λ u below zero_is. record { agrees = λ first second. absurd (let no_way : ⊥ = omega (arith, below, first) in no_way) })))

-- before the first record
pub last_first : (store : Store) (key : List ℕ) (c : ℕ) → 0 < c → AllByRecursion (λ v. v.cursor < c → ⊥) store.versions → last_value_below key c 0 store [] ≡ get key store.initial
last_first store key c lt placed =
    ap (option_map (λ (w : Write). w.value)) (ap (last_write_below c 0) (append_assoc (version_writes key store.versions) [] (initial_writes key store.initial)) ∙ last_none c 0 (version_writes key store.versions) (initial_writes key store.initial) above)
    ∙ initial (get key store.initial)
  where
    not_above : (v : Version) → (v.cursor < c → ⊥) → is_below v.cursor v.number c 0 ≡ false
    not_above v h = ⊎_elim (λ lt. absurd (h lt)) (λ le. above_at le) (cases_lt v.cursor c)
      where
        above_at : c ≤ v.cursor → is_below v.cursor v.number c 0 ≡ false
        above_at le = not_below_zero v.cursor v.number c le

    above : AllByRecursion (λ w. is_below w.first w.second c 0 ≡ false) (version_writes key store.versions)
    above = each_version (λ w. is_below w.first w.second c 0 ≡ false) key store.versions
        (each_weaker (λ (v : Version). v.cursor < c → ⊥) (λ (v : Version). bytes_eq key v.key ≡ true → is_below v.cursor v.number c 0 ≡ false) (λ v h same. not_above v h) store.versions placed)

    initial : (o : Option Value) → option_map (λ (w : Write). w.value) (last_write_below c 0 (prepend_some (option_map (write_at 0 0) o) [])) ≡ o
    initial None = refl
    initial (Some v) = rw (is_below_first 0 0 c 0 lt)
