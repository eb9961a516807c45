-- What a read of an object store answers, where it stands for a store.
use Rattle.std.proofs.Common.{◌≡◌, ◌⊎◌, inl, inr, ℕ, suc, ◌<◌, ◌≤◌, ltb, leb, Bool, true, false, cond, List, [], ◌∷◌, ◌++◌, bytes_eq, Option, Some, None, is_some, option_map, refl, sym, ap, ◌∙◌, subst, arith}
use Rattle.std.proofs.lemmas.Bool.Decides.{nat_tests}
use Rattle.std.specs.Option.{IsSomeAnd, MatchOption}
use Rattle.lb_base.specs.declared.value.Value.{Value}
use Rattle.boki_types.specs.declared.body.Body.{Body}
use Rattle.boki_types.specs.declared.store.Name.{Name}
use Rattle.boki_model.specs.Live.{Live}
use Rattle.boki_model.specs.Maps.{get}
use Rattle.std.specs.Option.{option_or}
use Rattle.boki_model.specs.WriteLaws.{AreUniqueVersions}
use Rattle.boki_model.specs.Writes.{Version, Store, Write, is_below, last_write_below, last_value_below, logged_writes, version_writes, initial_writes, write_at, prepend_some, here_or_named, value_under_name, is_settled}
use Rattle.obj_store.specs.Ascending.{not_below}
use Rattle.obj_store.specs.Kept.{StoreState, KeptObject, object_in, last_of_two, value_under}
use Rattle.obj_store.specs.StandsFor.{StandsFor, versions_from, kept_of, base_of, initial_write, last_logged, IsCovered}
use Rattle.obj_store.specs.Steps.{kept_upto, value_upto, value_of_last, value_at_floor}
use Rattle.obj_store.proofs.Lasts.{If, Each, Apart, last_assoc, last_swap, last_past, last_append, last_split, last_in_order, each_has, below_floor, last_has}
use Rattle.obj_store.proofs.Versions.{writes_standing}
use Rattle.obj_store.proofs.LoggedWrites.{IsLogged, each_logged, Tells, tells}

pub each_numbered : (key : List ℕ) (vs : List Version) → AreUniqueVersions vs → Each (λ w. 0 < w.second) (version_writes key vs)
each_numbered key [] h = tt
each_numbered key (v ∷ vs) h = by (bytes_eq key v.key) (each_numbered key vs h.2)
  where
    by : (b : Bool) → Each (λ w. 0 < w.second) (version_writes key vs) → Each (λ w. 0 < w.second) (cond b (write_at v.cursor v.number v.value ∷ version_writes key vs) (version_writes key vs))
    by true ih = (h.0, ih)
    by false ih = ih

pub each_high : (f : ℕ) (P : Write → Type 0) (ws : List Write) → Each P ws → Each (λ w. (f ≤ w.first) × P w) (not_below f ws)
each_high f P [] h = tt
each_high f P (w ∷ ws) h = by (leb f w.first) refl (each_high f P ws h.1)
  where
    by : (b : Bool) → leb f w.first ≡ b → Each (λ v. (f ≤ v.first) × P v) (not_below f ws) → Each (λ v. (f ≤ v.first) × P v) (cond b (w ∷ not_below f ws) (not_below f ws))
    by true e ih = (((let t : f ≤ w.first = grind (arith, nat_tests) in t), h.0), ih)
    by false e ih = ih

initial_is : (key : List ℕ) (n : ℕ) (objects : List (List ℕ × Value)) → last_write_below (suc n) 0 (initial_writes key objects) ≡ initial_write key objects
initial_is key n objects = by (get key objects)
  where
    by : (o : Option Value) → last_write_below (suc n) 0 (prepend_some (option_map (write_at 0 0) o) []) ≡ last_write_below 1 0 (prepend_some (option_map (write_at 0 0) o) [])
    by None = refl
    by (Some v) = ap (λ b. cond b (Some (write_at 0 0 v)) None) (let t : is_below 0 0 (suc n) 0 ≡ is_below 0 0 1 0 = grind (arith, nat_tests) in t)

pub initial_at : (key : List ℕ) (objects : List (List ℕ × Value)) → If (initial_write key objects) (λ w. (w.first ≡ 0) × (w.second ≡ 0))
initial_at key objects = by (get key objects)
  where
    by : (o : Option Value) → If (last_write_below 1 0 (prepend_some (option_map (write_at 0 0) o) [])) (λ w. (w.first ≡ 0) × (w.second ≡ 0))
    by None = tt
    by (Some v) = at (is_below 0 0 1 0)
      where
        at : (b : Bool) → If (cond b (Some (write_at 0 0 v)) None) (λ w. (w.first ≡ 0) × (w.second ≡ 0))
        at true = (refl, refl)
        at false = tt

apart_seconds : (a b : Option Write) → If a (λ w. 0 < w.second) → If b (λ w. w.second ≡ 0) → Apart a b
apart_seconds None b h g = tt
apart_seconds (Some x) None h g = tt
apart_seconds (Some x) (Some y) h g = λ e s. absurd (let z : ⊥ = omega arith in z)

pub if_weaker : (o : Option Write) (P Q : Write → Type 0) → ((w : Write) → P w → Q w) → If o P → If o Q
if_weaker None P Q to h = tt
if_weaker (Some w) P Q to h = to w h

both_none : (a b : Option Write) → last_of_two a b ≡ None → (a ≡ None) × (b ≡ None)
both_none None b e = (refl, e)
both_none (Some x) None e = absurd (let z : ⊥ = cc in z)
both_none (Some x) (Some y) e = absurd (by (is_below x.first x.second y.first y.second) e)
  where
    by : (b : Bool) → cond b (Some y) (Some x) ≡ None → ⊥
    by true e = let z : ⊥ = cc in z
    by false e = let z : ⊥ = cc in z

abbrev pub IsLow : ℕ → Write → Type 0
IsLow f w = (w.first < f) ⊎ ((w.first ≡ 0) × (w.second ≡ 0))

-- a version at or above the floor is later than a base
pub or_last : (f : ℕ) (a b : Option Write) → If a (λ w. (f ≤ w.first) × (0 < w.second)) → If b (IsLow f) → option_or a b ≡ last_of_two a b
or_last f None b h g = refl
or_last f (Some x) None h g = refl
or_last f (Some x) (Some y) h g = sym (ap (λ t. cond t (Some y) (Some x)) (not_under g))
  where
    not_under : IsLow f y → is_below x.first x.second y.first y.second ≡ false
    not_under (inl lt) = let le = h.0 in grind (arith, nat_tests)
    not_under (inr is) = let e = is.0 in let s = is.1 in let p = h.1 in grind (arith, nat_tests)

value_none : (o : Option Write) (seq : ℕ) → value_of_last o seq None ≡ option_map (λ w. w.value) o
value_none None seq = refl
value_none (Some w) seq = refl

value_some : (o : Option Write) (seq : ℕ) (v : Value) → value_of_last o seq (Some v) ≡ option_map (λ w. w.value) (last_of_two o (Some (write_at seq 0 v)))
value_some None seq v = refl
value_some (Some w) seq v = by (is_below w.first w.second seq 0)
  where
    by : (b : Bool) → Some (cond b v w.value) ≡ option_map (λ (x : Write). x.value) (cond b (Some (write_at seq 0 v)) (Some w))
    by true = refl
    by false = refl

absorbs : (f seq : ℕ) (v : Value) (o : Option Write) → If o (λ w. w.first < f) → f ≤ seq → last_of_two o (Some (write_at seq 0 v)) ≡ Some (write_at seq 0 v)
absorbs f seq v None h le = refl
absorbs f seq v (Some w) h le = ap (λ b. cond b (Some (write_at seq 0 v)) (Some w)) (let t : is_below w.first w.second seq 0 ≡ true = grind (arith, nat_tests) in t)

or_some : (here o : Option Value) → is_some (option_or here o) ≡ true → (v : Value) × (option_or here o ≡ Some v)
or_some None None h = absurd (let z : ⊥ = cc in z)
or_some None (Some v) h = (v, refl)
or_some (Some v) o h = (v, refl)

module _ (kept : StoreState) (m : Store) (records : List (Live Body)) (stands : StandsFor kept m records) (key : List ℕ) where
  abbrev V : List Write
  V = version_writes key m.versions

  abbrev L : List Write
  L = logged_writes key m.named records

  abbrev Vf : Option Write
  Vf = last_write_below m.floor 0 (version_writes key m.versions)

  abbrev Lf : Option Write
  Lf = last_write_below m.floor 0 (logged_writes key m.named records)

  abbrev I : Option Write
  I = initial_write key m.initial

  Vf_Lf : Apart (last_write_below m.floor 0 (version_writes key m.versions)) (last_write_below m.floor 0 (logged_writes key m.named records))
  Vf_Lf = apart_seconds _ _ (each_has (λ w. 0 < w.second) m.floor 0 (version_writes key m.versions) (each_numbered key m.versions stands.numbered))
      (if_weaker _ (IsLogged stands.end) (λ w. w.second ≡ 0) (λ w h. h.2) (each_has (IsLogged stands.end) m.floor 0 (logged_writes key m.named records) (each_logged key m.named stands.end records stands.falls)))

  pub base_low : If (base_of key m records) (IsLow m.floor)
  base_low =
      last_has (IsLow m.floor) _ _ (if_weaker _ (λ w. w.first < m.floor) (IsLow m.floor) (λ w h. inl h) (below_floor m.floor (logged_writes key m.named records)))
      (last_has (IsLow m.floor) _ _ (if_weaker _ (λ w. w.first < m.floor) (IsLow m.floor) (λ w h. inl h) (below_floor m.floor (version_writes key m.versions)))
      (if_weaker _ (λ w. (w.first ≡ 0) × (w.second ≡ 0)) (IsLow m.floor) (λ w h. inr h) (initial_at key m.initial)))

  module _ (n : ℕ) (le : m.floor ≤ suc n) where
    abbrev Vh : Option Write
    Vh = last_write_below (suc n) 0 (not_below m.floor (version_writes key m.versions))

    abbrev Ln : Option Write
    Ln = last_write_below (suc n) 0 (logged_writes key m.named records)

    -- what the definition answers
    asked : last_value_below key (suc n) 0 m records ≡ option_map (λ w. w.value) (last_of_two (last_write_below (suc n) 0 (not_below m.floor (version_writes key m.versions)))
        (last_of_two (last_write_below m.floor 0 (version_writes key m.versions)) (last_of_two (last_write_below (suc n) 0 (logged_writes key m.named records)) (initial_write key m.initial))))
    asked = ap (option_map (λ (w : Write). w.value)) (
        last_append (suc n) 0 (V ++ L) (initial_writes key m.initial)
        ∙ ap (λ (o : Option Write). last_of_two (last_write_below (suc n) 0 (V ++ L)) o) (initial_is key n m.initial)
        ∙ ap (λ (o : Option Write). last_of_two o I) (last_append (suc n) 0 V L ∙ ap (λ (o : Option Write). last_of_two o Ln) (last_split m.floor (suc n) 0 V le))
        ∙ last_assoc (last_of_two Vh Vf) Ln I ∙ last_assoc Vh Vf (last_of_two Ln I))

    Vh_high : If (last_write_below (suc n) 0 (not_below m.floor (version_writes key m.versions))) (λ w. (m.floor ≤ w.first) × (0 < w.second))
    Vh_high = each_has (λ w. (m.floor ≤ w.first) × (0 < w.second)) (suc n) 0 (not_below m.floor (version_writes key m.versions))
        (each_high m.floor (λ w. 0 < w.second) (version_writes key m.versions) (each_numbered key m.versions stands.numbered))

    kept_is : kept_upto n (kept_of key m records) ≡ last_of_two (last_write_below (suc n) 0 (not_below m.floor (version_writes key m.versions))) (base_of key m records)
    kept_is =
        ap (λ (o : Option Write). option_or o (base_of key m records)) (last_in_order (suc n) 0 (version_writes key (versions_from m.floor m.versions))
        ∙ ap (last_write_below (suc n) 0) (writes_standing m.floor key m.versions))
        ∙ or_last m.floor Vh (base_of key m records) Vh_high base_low

    -- where no logged write is at or above the floor
    without : Ln ≡ Lf → last_value_below key (suc n) 0 m records ≡ option_map (λ w. w.value) (kept_upto n (kept_of key m records))
    without e =
        asked ∙ ap (option_map (λ (w : Write). w.value)) (
        ap (λ (o : Option Write). last_of_two Vh (last_of_two Vf (last_of_two o I))) e
        ∙ ap (last_of_two Vh) (last_past Vf Lf I Vf_Lf) ∙ sym kept_is)

    -- where one is
    beyond : (seq : ℕ) (v : Value) → 0 < seq → m.floor ≤ seq → Ln ≡ Some (write_at seq 0 v)
        → last_value_below key (suc n) 0 m records ≡ option_map (λ w. w.value) (last_of_two (kept_upto n (kept_of key m records)) (Some (write_at seq 0 v)))
    beyond seq v pos high e =
        asked ∙ ap (option_map (λ (w : Write). w.value)) (
        ap (λ (o : Option Write). last_of_two Vh (last_of_two Vf (last_of_two o I))) e
        ∙ ap (last_of_two Vh) (sym inner) ∙ sym (last_assoc Vh (base_of key m records) W) ∙ ap (λ (o : Option Write). last_of_two o W) (sym kept_is))
      where
        W : Option Write
        W = Some (write_at seq 0 v)

        I_W : Apart I W
        I_W = by I (initial_at key m.initial)
          where
            by : (o : Option Write) → If o (λ w. (w.first ≡ 0) × (w.second ≡ 0)) → Apart o (Some (write_at seq 0 v))
            by None h = tt
            by (Some w) h = λ a s. absurd (let z : ⊥ = (let h0 = h.0 in omega arith) in z)

        inner : last_of_two (base_of key m records) (Some (write_at seq 0 v)) ≡ last_of_two Vf (last_of_two (Some (write_at seq 0 v)) I)
        inner =
            last_assoc Lf (last_of_two Vf I) W
            ∙ ap (last_of_two Lf) (last_assoc Vf I W ∙ ap (last_of_two Vf) (last_swap I W I_W))
            ∙ sym (last_past Vf Lf (last_of_two W I) Vf_Lf)
            ∙ ap (last_of_two Vf) (sym (last_assoc Lf W I) ∙ ap (λ (o : Option Write). last_of_two o I) (absorbs m.floor seq v Lf (below_floor m.floor L) high))

  pub to_model : (here : Option Value) (name : Name) (v : Value) → option_or here (value_under name kept.named) ≡ Some v → here_or_named here name m.named ≡ Some v
  to_model (Some u) name v e = e
  to_model None name v e = by (is_settled name m.floor records) (value_under_name name m.named) (sym (stands.named name) ∙ e)
    where
      by : (b : Bool) (o : Option Value) → cond b None o ≡ Some v → o ≡ Some v
      by true o e = absurd (let z : ⊥ = cc in z)
      by false o e = e

  low_base : (o : Option Write) (seq : ℕ) → If o (IsLow m.floor) → 0 < seq → m.floor ≤ seq → IsSomeAnd o (λ w. seq ≤ w.first) → ⊥
  low_base None seq h pos le g = g
  low_base (Some w) seq (inl lt) pos le g = let z : ⊥ = omega arith in z
  low_base (Some w) seq (inr is) pos le g = let z : ⊥ = (let e = is.0 in omega arith) in z

  pub read_is : (n : ℕ) (l : Option (ℕ × (Name × Option Value))) → m.floor ≤ suc n → l ≡ last_logged key (suc n) records → MatchOption l (Unit {0}) (IsCovered key kept)
      → value_upto kept.floor n (object_in key kept.objects) kept.named l ≡ last_value_below key (suc n) 0 m records
  read_is n None le is covered =
      let t = subst (Tells key m.named (suc n) (logged_writes key m.named records)) (sym is) (tells key m.named (suc n) stands.end records stands.falls) in
      let parts = both_none (last_write_below (suc n) 0 (not_below m.floor (logged_writes key m.named records))) (last_write_below m.floor 0 (logged_writes key m.named records)) (sym (last_split m.floor (suc n) 0 (logged_writes key m.named records) le) ∙ t) in
      ap (λ (o : KeptObject). value_of_last (kept_upto n o) 0 None) (stands.objects key)
      ∙ value_none (kept_upto n (kept_of key m records)) 0
      ∙ sym (without n le (t ∙ sym parts.1))
  read_is n (Some l) le is covered = by (ltb l.0 m.floor) refl covered
    where
      T : Tells key m.named (suc n) (logged_writes key m.named records) (Some l)
      T = subst (Tells key m.named (suc n) (logged_writes key m.named records)) (sym is) (tells key m.named (suc n) stands.end records stands.falls)

      kept_here : value_upto kept.floor n (object_in key kept.objects) kept.named (Some l) ≡ value_of_last (kept_upto n (kept_of key m records)) l.0 (cond (ltb l.0 m.floor) None (option_or l.1.1 (value_under l.1.0 kept.named)))
      kept_here =
          ap (λ (o : KeptObject). value_of_last (kept_upto n o) l.0 (value_at_floor kept.floor kept.named l)) (stands.objects key)
          ∙ ap (λ (x : ℕ). value_of_last (kept_upto n (kept_of key m records)) l.0 (cond (ltb l.0 x) None (option_or l.1.1 (value_under l.1.0 kept.named)))) stands.floor

      by : (b : Bool) → ltb l.0 m.floor ≡ b → IsCovered key kept l → value_upto kept.floor n (object_in key kept.objects) kept.named (Some l) ≡ last_value_below key (suc n) 0 m records
      by true e g =
          kept_here ∙ ap (λ b. value_of_last (kept_upto n (kept_of key m records)) l.0 (cond b None (option_or l.1.1 (value_under l.1.0 kept.named)))) e
          ∙ value_none (kept_upto n (kept_of key m records)) l.0
          ∙ sym (without n le (T.2 m.floor le (let t : l.0 < m.floor = grind (arith, nat_tests) in t)))
      by false e (inl g) =
          let v = or_some l.1.1 (value_under l.1.0 kept.named) g in
          kept_here ∙ ap (λ b. value_of_last (kept_upto n (kept_of key m records)) l.0 (cond b None (option_or l.1.1 (value_under l.1.0 kept.named)))) e
          ∙ ap (value_of_last (kept_upto n (kept_of key m records)) l.0) v.1
          ∙ value_some (kept_upto n (kept_of key m records)) l.0 v.0
          ∙ sym (beyond n le l.0 v.0 T.0 (let t : m.floor ≤ l.0 = grind (arith, nat_tests) in t) (T.1 v.0 (to_model l.1.1 l.1.0 v.0 v.1)))
      by false e (inr g) =
          absurd (low_base (base_of key m records) l.0 base_low T.0 (let t : m.floor ≤ l.0 = grind (arith, nat_tests) in t)
          (subst (λ (o : KeptObject). IsSomeAnd o.base (λ w. l.0 ≤ w.first)) (stands.objects key) g))
