-- What an object store has to be told.
use Rattle.std.proofs.Common.{◌≡◌, inl, inr, ⊎_elim, ℕ, ◌<◌, ◌≤◌, Bool, true, false, cond, leb, ltb, ◌&&◌, List, [], ◌∷◌, ◌++◌, Option, Some, None, option_map, refl, sym, ap, ◌∙◌, subst, arith}
use Rattle.std.specs.Prelude.{bytes_eq, is_some, IsTrue}
use Rattle.std.specs.Option.{MatchOption, IsSomeAnd}
use Rattle.std.proofs.lemmas.Bool.{leb-true, leb-false, le-ltb, and_parts, cases_lt}
use Rattle.std.proofs.lemmas.Bool.Decides.{nat_tests}
use Rattle.lb_base.specs.declared.value.Value.{Value}
use Rattle.boki_types.specs.declared.body.Body.{Body}
use Rattle.boki_types.specs.declared.body.Body.TheVariants as b
use Rattle.boki_types.specs.declared.store.Name.{Name}
use Rattle.boki_model.specs.Live.{Live, upto}
use Rattle.std.specs.Option.{option_or}
use Rattle.boki_model.specs.Writes.{Store, Write, write_at, is_below, last_write_below, logged_write, logged_writes, version_writes, here_or_named, value_under_name}
use Rattle.exactly_once.specs.FurtherLaws.StoreBound.{WritesName}
use Rattle.exactly_once.specs.FurtherLaws.Words.{IsAmong}
use Rattle.machine_laws.specs.Kept.{WritesHaveValues}
use Rattle.obj_store.specs.declared.answers.Logged.{Logged}
use Rattle.obj_store.specs.Ascending.{not_below}
use Rattle.obj_store.specs.Answers.{logged_parts}
use Rattle.obj_store.specs.Kept.{StoreState, KeptObject, object_in, value_under, last_of_two}
use Rattle.obj_store.specs.StandsFor.{StandsFor, initial_write, base_of, logged_of, last_logged, IsCovered}
use Rattle.obj_store.specs.Sweeps.{AllHaveValues, settled_of, logged_between}
use Rattle.obj_store.proofs.Lasts.{last_split}
use Rattle.obj_store.proofs.LoggedWrites.{Tells, tells}
use Rattle.store_laws.specs.Told.{LoggedAreCovered, LastIsTold, ViewsTellLast, SweptHaveValues}

-- The live write that is the last of its key.

record LoggedBy (xs : List (Live Body)) (l : ℕ × (Name × Option Value)) : Type 0 where
  pub x : Live Body
  pub write : WritesName l.1.0 xs x
  pub seq_is : x.seq ≡ l.0
  pub here_is : write.here ≡ l.1.1

logged_later : (x : Live Body) (xs : List (Live Body)) (l : ℕ × (Name × Option Value)) → LoggedBy xs l → LoggedBy (x ∷ xs) l
logged_later x xs l by =
    let w = by.write in
    record { x = by.x; write = record { among = inr w.among; index = w.index; key = w.key; here = w.here; is_write = w.is_write }; seq_is = by.seq_is; here_is = by.here_is }

module _ (key : List ℕ) (n : ℕ) (l : ℕ × (Name × Option Value)) where
  logged_by : (xs : List (Live Body)) → last_logged key n xs ≡ Some l → LoggedBy xs l
  logged_by [] e = cc
  logged_by (x ∷ xs) e = of_body x.holds refl (ltb x.seq n) e (logged_by xs)
    where
      of_body : (body : Body) → x.holds ≡ body → (t : Bool) → option_or (logged_of key x.seq t (logged_write body)) (last_logged key n xs) ≡ Some l → (last_logged key n xs ≡ Some l → LoggedBy xs l) → LoggedBy (x ∷ xs) l
      of_body (b.Write p i place k value) is true e ih = at (bytes_eq key k) e
        where
          found : ℕ × (Name × Option Value)
          found = (x.seq, (record { path = p; place = place }, value))

          at : (t : Bool) → option_or (cond t (Some (x.seq, (record { path = p; place = place }, value))) None) (last_logged key n xs) ≡ Some l → LoggedBy (x ∷ xs) l
          at false e = logged_later x xs l (ih e)
          at true e =
              let name : Name = record { path = p; place = place } in
              let here_it : LoggedBy (x ∷ xs) (x.seq, (name, value)) =
              record { x = x; write = record { among = inl refl; index = i; key = k; here = value; is_write = is }; seq_is = refl; here_is = refl } in
              let same : (x.seq, (name, value)) ≡ l = cc in
              subst (LoggedBy (x ∷ xs)) same here_it
      of_body body is false e ih = logged_later x xs l (ih e)
      of_body _ is true e ih = logged_later x xs l (ih e)

-- The later of two writes is above each of them.

abbrev From : ℕ → Option Write → Type 0
From seq o = IsSomeAnd o (λ w. seq ≤ w.first)

from_left : (seq : ℕ) (a c : Option Write) → From seq a → From seq (last_of_two a c)
from_left seq None c from = absurd from
from_left seq (Some w) None from = from
from_left seq (Some w) (Some v) from = at (is_below w.first w.second v.first v.second) refl
  where
    at : (t : Bool) → is_below w.first w.second v.first v.second ≡ t → From seq (cond t (Some v) (Some w))
    at true e = let le : w.first ≤ v.first = grind (arith, nat_tests) in omega (arith, le, from)
    at false e = from

from_right : (seq : ℕ) (a c : Option Write) → From seq c → From seq (last_of_two a c)
from_right seq None c from = from
from_right seq (Some w) None from = absurd from
from_right seq (Some w) (Some v) from = at (is_below w.first w.second v.first v.second) refl
  where
    at : (t : Bool) → is_below w.first w.second v.first v.second ≡ t → From seq (cond t (Some v) (Some w))
    at true e = from
    at false e = let le : v.first ≤ w.first = grind (arith, nat_tests) in omega (arith, le, from)

-- A store that stands for another, of which logged writes are kept.

module _ (kept : StoreState) (m : Store) (records : List (Live Body)) (stands : StandsFor kept m records) (are : WritesHaveValues m.named records) where
  -- the value of one at or above the floor
  valued_from : (name : Name) (x : Live Body) (write : WritesName name records x) → m.floor ≤ x.seq → IsTrue (is_some (option_or write.here (value_under name kept.named)))
  valued_from name x write le =
      let has = are.valued name x write in
      ap (λ o. is_some (option_or write.here o)) (stands.named name ∙ ap (λ t. cond t None (value_under_name name m.named)) (are.unsettled name x m.floor write le))
      ∙ ap is_some has.kept

  module _ (key : List ℕ) (n : ℕ) (l : ℕ × (Name × Option Value)) (last : last_logged key n records ≡ Some l) where
    by : LoggedBy records l
    by = logged_by key n l records last

    its_value : (v : Value) × (here_or_named l.1.1 l.1.0 m.named ≡ Some v)
    its_value = let has = are.valued l.1.0 by.x by.write in (has.value, ap (λ here_it. here_or_named here_it l.1.0 m.named) (sym by.here_is) ∙ has.kept)

    abbrev logged : List Write
    logged = logged_writes key m.named records

    -- one below the floor: a base of its key is at or above it
    base_from : l.0 < m.floor → From l.0 (base_of key m records)
    base_from lt =
        from_left l.0 (last_write_below m.floor 0 logged) (last_of_two (last_write_below m.floor 0 (version_writes key m.versions)) (initial_write key m.initial))
        (⊎_elim (λ low. at_low low) (λ le. at_high le) (cases_lt n m.floor))
      where
        T : Tells key m.named n logged (Some l)
        T = subst (Tells key m.named n logged) last (tells key m.named n stands.end records stands.falls)

        own : last_write_below n 0 logged ≡ Some (write_at l.0 0 its_value.0)
        own = T.1 its_value.0 its_value.1

        at_high : m.floor ≤ n → From l.0 (last_write_below m.floor 0 logged)
        at_high le = subst (From l.0) (sym own ∙ T.2 m.floor le lt) (let h : l.0 ≤ l.0 = omega arith in h)

        at_low : n < m.floor → From l.0 (last_write_below m.floor 0 logged)
        at_low low =
            subst (From l.0) (sym (last_split n m.floor 0 logged (let le : n ≤ m.floor = omega (arith, low) in le)))
            (from_right l.0 (last_write_below m.floor 0 (not_below n logged)) (last_write_below n 0 logged) (subst (From l.0) (sym own) (let h : l.0 ≤ l.0 = omega arith in h)))

    covered : IsCovered key kept l
    covered = ⊎_elim (λ lt. inr (below_it lt)) (λ le. inl (above_it le)) (cases_lt l.0 m.floor)
      where
        above_it : m.floor ≤ l.0 → IsTrue (is_some (option_or l.1.1 (value_under l.1.0 kept.named)))
        above_it le =
            ap (λ here_it. is_some (option_or here_it (value_under l.1.0 kept.named))) (sym by.here_is)
            ∙ valued_from l.1.0 by.x by.write (let s = by.seq_is in omega (arith, s, le))

        below_it : l.0 < m.floor → From l.0 (object_in key kept.objects).base
        below_it lt = subst (λ (o : KeptObject). From l.0 o.base) (sym (stands.objects key)) (base_from lt)

pub logged_are_covered : LoggedAreCovered
logged_are_covered kept m records key n l stands are last = covered kept m records stands are key n l last

pub last_is_told : LastIsTold
last_is_told kept m records key n logged stands are last = record { last = last; covered = at logged last }
  where
    at : (o : Option Logged) → option_map logged_parts o ≡ last_logged key n records → MatchOption o (Unit {0}) (λ l. IsCovered key kept (logged_parts l))
    at None e = tt
    at (Some l) e = covered kept m records stands are key n (logged_parts l) (sym e)

-- Views.

pub views_tell_last : ViewsTellLast
views_tell_last [] key p n le = refl
views_tell_last (x ∷ xs) key p n le = at (leb x.seq p) refl (views_tell_last xs key p n le)
  where
    none : (t : Bool) (w : Option (List ℕ × (Name × Option Value))) → t ≡ false → logged_of key x.seq t w ≡ None
    none false w e = refl
    none true w e = cc

    at : (t : Bool) → leb x.seq p ≡ t → last_logged key n (upto p xs) ≡ last_logged key n xs → last_logged key n (cond t (x ∷ xs) (upto p xs)) ≡ last_logged key n (x ∷ xs)
    at true e ih = refl
    at false e ih =
        let lt = leb-false x.seq p e in
        ih ∙ sym (ap (λ o. option_or o (last_logged key n xs)) (none (ltb x.seq n) (logged_write x.holds) (le-ltb x.seq n (omega (arith, lt, le)))))

-- Sweeps.

all_append : (named : List ((List ℕ × ℕ) × Value)) (xs ys : _) → AllHaveValues named xs → AllHaveValues named ys → AllHaveValues named (xs ++ ys)
all_append named [] ys one two = two
all_append named (x ∷ xs) ys one two = (one.0, all_append named xs ys one.1 two)

module _ (kept : StoreState) (m : Store) (records : List (Live Body)) (stands : StandsFor kept m records) (are : WritesHaveValues m.named records) (low high : ℕ) (le : m.floor ≤ low) where
  one_swept : (x : Live Body) → IsAmong x records → (body : Body) → x.holds ≡ body → (t : Bool) → (leb low x.seq && ltb x.seq high) ≡ t → AllHaveValues kept.named (settled_of t x.seq (logged_write body))
  one_swept x among (b.Write p i place k value) is true e =
      let name : Name = record { path = p; place = place } in
      let write : WritesName name records x = record { among = among; index = i; key = k; here = value; is_write = is } in
      let above = leb-true low x.seq (and_parts (leb low x.seq) (ltb x.seq high) e).0 in
      (valued_from kept m records stands are name x write (omega (arith, above, le)), tt)
  one_swept x among body is false e = tt
  one_swept x among _ is true e = tt

  all_swept : (xs : List (Live Body)) → ((x : Live Body) → IsAmong x xs → IsAmong x records) → AllHaveValues kept.named (logged_between low high xs)
  all_swept [] part = tt
  all_swept (x ∷ xs) part =
      all_append kept.named (logged_between low high xs) (settled_of (leb low x.seq && ltb x.seq high) x.seq (logged_write x.holds)) (all_swept xs (λ y among. part y (inr among)))
      (one_swept x (part x (inl refl)) x.holds refl (leb low x.seq && ltb x.seq high) refl)

pub swept_have_values : SweptHaveValues
swept_have_values kept m records low high stands are le = all_swept kept m records stands are low high le records (λ x among. among)
