-- The logged writes of a key, and the last of them below a seqnum.
use Rattle.std.proofs.Common.{◌≡◌, ℕ, ◌<◌, ◌≤◌, ltb, Bool, true, false, cond, List, [], ◌∷◌, bytes_eq, Option, Some, None, option_map, refl, sym, ap, ◌∙◌, arith}
use Rattle.std.proofs.lemmas.Bool.Decides.{nat_tests}
use Rattle.lb_base.specs.declared.value.Value.{Value}
use Rattle.boki_types.specs.declared.body.Body.{Body}
use Rattle.boki_types.specs.declared.store.Name.{Name}
use Rattle.boki_model.specs.Live.{Live}
use Rattle.std.specs.Option.{option_or}
use Rattle.boki_model.specs.LogLaws.{FallBelow}
use Rattle.boki_model.specs.Writes.{NamedValue, Write, is_below, later_write, last_write_below, logged_write, logged_writes, write_at, prepend_some, logged_write_of, here_or_named}
use Rattle.obj_store.specs.StandsFor.{logged_of, last_logged}
use Rattle.obj_store.proofs.Lasts.{Each, If, each_has}

-- what a logged write says
abbrev pub Said : Type 0
Said = List ℕ × (Name × Option Value)

abbrev pub IsLogged : ℕ → Write → Type 0
IsLogged n w = (0 < w.first) × (w.first < n) × (w.second ≡ 0)

weaker : (n p : ℕ) → n ≤ p → (ws : List Write) → Each (IsLogged n) ws → Each (IsLogged p) ws
weaker n p le [] h = tt
weaker n p le (w ∷ ws) h = ((h.0.0, (let lt : w.first < p = (let g = h.0.1 in omega arith) in lt), h.0.2), weaker n p le ws h.1)

module _ (key : List ℕ) (named : List NamedValue) where
  each_with : (n seq : ℕ) (w : Option Said) (ws : List Write) → 0 < seq → seq < n → Each (IsLogged n) ws → Each (IsLogged n) (prepend_some (logged_write_of key seq named w) ws)
  each_with n seq None ws pos lt h = h
  each_with n seq (Some w) ws pos lt h = by (bytes_eq key w.0) (here_or_named w.1.1 w.1.0 named)
    where
      by : (b : Bool) (o : Option Value) → Each (IsLogged n) (prepend_some (cond b (option_map (write_at seq 0) o) None) ws)
      by true (Some v) = ((pos, lt, refl), h)
      by true None = h
      by false o = h

  pub each_logged : (n : ℕ) (xs : List (Live Body)) → FallBelow n xs → Each (IsLogged n) (logged_writes key named xs)
  each_logged n [] fall = tt
  each_logged n (x ∷ xs) fall =
      each_with n x.seq (logged_write x.holds) (logged_writes key named xs) fall.0 fall.1
      (weaker x.seq n (let g = fall.1 in omega arith) (logged_writes key named xs) (each_logged x.seq xs fall.2))

  pub skipped : (c seq : ℕ) (w : Option Said) (ws : List Write) → ltb seq c ≡ false → last_write_below c 0 (prepend_some (logged_write_of key seq named w) ws) ≡ last_write_below c 0 ws
  skipped c seq None ws e = refl
  skipped c seq (Some w) ws e = by (bytes_eq key w.0) (here_or_named w.1.1 w.1.0 named)
    where
      by : (b : Bool) (o : Option Value) → last_write_below c 0 (prepend_some (cond b (option_map (write_at seq 0) o) None) ws) ≡ last_write_below c 0 ws
      by true (Some v) = ap (λ b. cond b (later_write (write_at seq 0 v) (last_write_below c 0 ws)) (last_write_below c 0 ws)) (let t : is_below seq 0 c 0 ≡ false = grind (arith, nat_tests) in t)
      by true None = refl
      by false o = refl

  of_other : (seq : ℕ) (w : Said) (ws : List Write) → bytes_eq key w.0 ≡ false → prepend_some (logged_write_of key seq named (Some w)) ws ≡ ws
  of_other seq w ws e = ap (λ b. prepend_some (cond b (option_map (write_at seq 0) (here_or_named w.1.1 w.1.0 named)) None) ws) e

  not_said : (seq : ℕ) (b : Bool) (w : Option Said) → b ≡ false → logged_of key seq b w ≡ None
  not_said seq true w e = absurd (let z : ⊥ = cc in z)
  not_said seq false w e = refl

  -- what the last logged write below c tells of the logged writes
  abbrev pub Tells : ℕ → List Write → Option (ℕ × (Name × Option Value)) → Type 0
  Tells c ws None = last_write_below c 0 ws ≡ None
  Tells c ws (Some l) =
      (0 < l.0) × ((v : Value) → here_or_named l.1.1 l.1.0 named ≡ Some v → last_write_below c 0 ws ≡ Some (write_at l.0 0 v))
      × ((f : ℕ) → f ≤ c → l.0 < f → last_write_below c 0 ws ≡ last_write_below f 0 ws)

  pub all_low : (c f : ℕ) (ws : List Write) → f ≤ c → Each (IsLogged f) ws → last_write_below c 0 ws ≡ last_write_below f 0 ws
  all_low c f [] le h = refl
  all_low c f (w ∷ ws) le h =
      let lt = h.0.1 in
      ap (λ b. cond b (later_write w (last_write_below c 0 ws)) (last_write_below c 0 ws)) (let t : is_below w.first w.second c 0 ≡ true = grind (arith, nat_tests) in t)
      ∙ ap (later_write w) (all_low c f ws le h.1)
      ∙ sym (ap (λ b. cond b (later_write w (last_write_below f 0 ws)) (last_write_below f 0 ws)) (let t : is_below w.first w.second f 0 ≡ true = grind (arith, nat_tests) in t))

  stays_last : (seq : ℕ) (v : Value) (o : Option Write) → If o (IsLogged seq) → later_write (write_at seq 0 v) o ≡ Some (write_at seq 0 v)
  stays_last seq v None h = refl
  stays_last seq v (Some w) h = let lt = h.1 in ap (λ b. cond b (Some w) (Some (write_at seq 0 v))) (let t : is_below seq 0 w.first w.second ≡ false = grind (arith, nat_tests) in t)

  -- a record of another key, or one at or above c, changes nothing below c
  passes : (c : ℕ) (ws vs : List Write) (o : Option (ℕ × (Name × Option Value))) → last_write_below c 0 vs ≡ last_write_below c 0 ws
      → ((f : ℕ) → f ≤ c → last_write_below f 0 vs ≡ last_write_below f 0 ws) → Tells c ws o → Tells c vs o
  passes c ws vs None e low h = e ∙ h
  passes c ws vs (Some l) e low h = (h.0, (λ v is. e ∙ h.1 v is), (λ f le lt. e ∙ h.2 f le lt ∙ sym (low f le)))

  pub tells : (c n : ℕ) (xs : List (Live Body)) → FallBelow n xs → Tells c (logged_writes key named xs) (last_logged key c xs)
  tells c n [] fall = refl
  tells c n (x ∷ xs) fall = by (logged_write x.holds) (ltb x.seq c) refl (tells c x.seq xs fall.2) (each_logged x.seq xs fall.2)
    where
      by : (w : Option Said) (lt : Bool) → ltb x.seq c ≡ lt → Tells c (logged_writes key named xs) (last_logged key c xs) → Each (IsLogged x.seq) (logged_writes key named xs)
          → Tells c (prepend_some (logged_write_of key x.seq named w) (logged_writes key named xs)) (option_or (logged_of key x.seq lt w) (last_logged key c xs))
      by None true e ih each = ih
      by None false e ih each = ih
      by (Some w) false e ih each =
          passes c (logged_writes key named xs) (prepend_some (logged_write_of key x.seq named (Some w)) (logged_writes key named xs)) (last_logged key c xs)
          (skipped c x.seq (Some w) (logged_writes key named xs) e)
          (λ f le. skipped f x.seq (Some w) (logged_writes key named xs) (let t : ltb x.seq f ≡ false = grind (arith, nat_tests) in t)) ih
      by (Some w) true e ih each = at (bytes_eq key w.0) refl (here_or_named w.1.1 w.1.0 named) refl
        where
          at : (b : Bool) → bytes_eq key w.0 ≡ b → (o : Option Value) → here_or_named w.1.1 w.1.0 named ≡ o
              → Tells c (prepend_some (cond b (option_map (write_at x.seq 0) o) None) (logged_writes key named xs)) (option_or (cond b (Some (x.seq, w.1)) None) (last_logged key c xs))
          at false g o is = ih
          at true g (Some u) is = (
            fall.0,
            (λ v eq.
                ap (λ b. cond b (later_write (write_at x.seq 0 u) (last_write_below c 0 (logged_writes key named xs))) (last_write_below c 0 (logged_writes key named xs))) (let t : is_below x.seq 0 c 0 ≡ true = grind (arith, nat_tests) in t)
                ∙ stays_last x.seq u (last_write_below c 0 (logged_writes key named xs)) (each_has (IsLogged x.seq) c 0 (logged_writes key named xs) each)
                ∙ ap (λ (y : Value). Some (write_at x.seq 0 y)) (let s : u ≡ v = cc in s)),
            (λ f le low. all_low c f (write_at x.seq 0 u ∷ logged_writes key named xs) le
                ((fall.0, low, refl), weaker x.seq f (let t : x.seq ≤ f = omega arith in t) (logged_writes key named xs) each)),
          )
          at true g None is = (
            fall.0,
            (λ v eq. absurd (let z : ⊥ = cc in z)),
            (λ f le low. all_low c f (logged_writes key named xs) le (weaker x.seq f (let t : x.seq ≤ f = omega arith in t) (logged_writes key named xs) each)),
          )
