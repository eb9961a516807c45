-- Proofs of what the layers above rely on.
use Rattle.std.proofs.Common.{◌≡◌, ℕ, ◌<◌, ◌≤◌, ltb, leb, Bool, true, false, cond, ◌&&◌, ◌||◌, List, [], ◌∷◌, bytes_eq, Option, Some, None, refl, sym, ap, ◌∙◌, subst, arith}
use Rattle.std.proofs.lemmas.Bool.Decides.{nat_tests}
use Rattle.boki_types.specs.declared.body.Body.{Body}
use Rattle.boki_types.specs.declared.store.Name.{Name}
use Rattle.boki_model.specs.Live.{Live}
use Rattle.boki_model.specs.Writes.{NamedValue, Version, Write, is_below, later_write, last_write_below, logged_write, logged_writes, version_writes, write_at, prepend_some, logged_write_of, is_write_named, value_under_name, is_settled}
use Rattle.obj_store.specs.Kept.{KeptObject, insert_write, sort_writes, last_of_two}
use Rattle.obj_store.specs.Laws.{AllFrom, OneBelow, NoneSettled, RecordsBelow, records_before}
use Rattle.obj_store.specs.StandsFor.{versions_from, initial_write, HasValue, HaveValues}
use Rattle.obj_store.proofs.LoggedWrites.{skipped}
use Rattle.obj_store.proofs.Puts.{object_is}

from_put_in : (f : ℕ) (w : Write) (ws : List Write) → f ≤ w.first → AllFrom f ws → AllFrom f (insert_write w ws)
from_put_in f w [] le h = (le, tt)
from_put_in f w (v ∷ vs) le h = by (is_below v.first v.second w.first w.second) (from_put_in f w vs le h.1)
  where
    by : (b : Bool) → AllFrom f (insert_write w vs) → AllFrom f (cond b (v ∷ insert_write w vs) (w ∷ v ∷ vs))
    by true ih = (h.0, ih)
    by false ih = (le, h)

from_standing : (f : ℕ) (key : List ℕ) (vs : List Version) → AllFrom f (sort_writes (version_writes key (versions_from f vs)))
from_standing f key [] = tt
from_standing f key (v ∷ vs) = by (leb f v.cursor) (bytes_eq key v.key) refl refl (from_standing f key vs)
  where
    by : (p b : Bool) → leb f v.cursor ≡ p → bytes_eq key v.key ≡ b → AllFrom f (sort_writes (version_writes key (versions_from f vs))) → AllFrom f (sort_writes (version_writes key (cond p (v ∷ versions_from f vs) (versions_from f vs))))
    by false b e g ih = ih
    by true true e g ih =
        subst (λ x. AllFrom f (sort_writes (cond x (write_at v.cursor v.number v.value ∷ version_writes key (versions_from f vs)) (version_writes key (versions_from f vs))))) (sym g)
        (from_put_in f (write_at v.cursor v.number v.value) (sort_writes (version_writes key (versions_from f vs))) (let t : f ≤ v.cursor = grind (arith, nat_tests) in t) ih)
    by true false e g ih = subst (λ x. AllFrom f (sort_writes (cond x (write_at v.cursor v.number v.value ∷ version_writes key (versions_from f vs)) (version_writes key (versions_from f vs))))) (sym g) ih

pub one_below : OneBelow
one_below kept m records stands key = subst (λ (o : KeptObject). AllFrom m.floor o.versions) (sym (stands.objects key)) (from_standing m.floor key m.versions)

pub none_settled : NoneSettled
none_settled kept m records stands name is = stands.named name ∙ ap (λ b. cond b None (value_under_name name m.named)) is

-- only the records below the floor matter

last_of_below : (f : ℕ) (key : List ℕ) (named : List NamedValue) (xs : List (Live Body)) → last_write_below f 0 (logged_writes key named xs) ≡ last_write_below f 0 (logged_writes key named (records_before f xs))
last_of_below f key named [] = refl
last_of_below f key named (x ∷ xs) = by (ltb x.seq f) refl (last_of_below f key named xs)
  where
    by : (b : Bool) → ltb x.seq f ≡ b → last_write_below f 0 (logged_writes key named xs) ≡ last_write_below f 0 (logged_writes key named (records_before f xs))
        → last_write_below f 0 (prepend_some (logged_write_of key x.seq named (logged_write x.holds)) (logged_writes key named xs)) ≡ last_write_below f 0 (logged_writes key named (cond b (x ∷ records_before f xs) (records_before f xs)))
    by true e ih = at (logged_write_of key x.seq named (logged_write x.holds))
      where
        at : (o : Option Write) → last_write_below f 0 (prepend_some o (logged_writes key named xs)) ≡ last_write_below f 0 (prepend_some o (logged_writes key named (records_before f xs)))
        at None = ih
        at (Some w) = ap (λ (o : Option Write). cond (is_below w.first w.second f 0) (later_write w o) o) ih
    by false e ih = skipped key named f x.seq (logged_write x.holds) (logged_writes key named xs) e ∙ ih

settled_below : (q : Name) (f : ℕ) (xs : List (Live Body)) → is_settled q f xs ≡ is_settled q f (records_before f xs)
settled_below q f [] = refl
settled_below q f (x ∷ xs) = by (ltb x.seq f) refl (settled_below q f xs)
  where
    by : (b : Bool) → ltb x.seq f ≡ b → is_settled q f xs ≡ is_settled q f (records_before f xs)
        → ((ltb x.seq f && is_write_named q (logged_write x.holds)) || is_settled q f xs) ≡ is_settled q f (cond b (x ∷ records_before f xs) (records_before f xs))
    by true e ih = ap (λ b. (ltb x.seq f && is_write_named q (logged_write x.holds)) || b) ih
    by false e ih = ap (λ b. (b && is_write_named q (logged_write x.holds)) || is_settled q f xs) e ∙ ih

values_below : (f : ℕ) (named : List NamedValue) (xs : List (Live Body)) → HaveValues f named xs → HaveValues f named (records_before f xs)
values_below f named [] h = tt
values_below f named (x ∷ xs) h = by (ltb x.seq f) (values_below f named xs h.1)
  where
    by : (b : Bool) → HaveValues f named (records_before f xs) → HaveValues f named (cond b (x ∷ records_before f xs) (records_before f xs))
    by true ih = (h.0, ih)
    by false ih = ih

values_of_below : (f : ℕ) (named : List NamedValue) (xs : List (Live Body)) → HaveValues f named (records_before f xs) → HaveValues f named xs
values_of_below f named [] h = tt
values_of_below f named (x ∷ xs) h = by (ltb x.seq f) refl h (values_of_below f named xs)
  where
    by : (b : Bool) → ltb x.seq f ≡ b → HaveValues f named (cond b (x ∷ records_before f xs) (records_before f xs)) → (HaveValues f named (records_before f xs) → HaveValues f named xs)
        → (x.seq < f → HasValue named (logged_write x.holds)) × HaveValues f named xs
    by true e h ih = (h.0, ih h.1)
    by false e h ih = ((λ lt. absurd (let z : ⊥ = grind (arith, nat_tests) in z)), ih h)

pub records_below : RecordsBelow
records_below kept m records others end stands fall same = record {
  floor = stands.floor;
  objects = λ k. stands.objects k ∙ object_is _ _ (ap (λ (o : Option Write). last_of_two o (last_of_two (last_write_below m.floor 0 (version_writes k m.versions)) (initial_write k m.initial)))
      (last_of_below m.floor k m.named records ∙ ap (λ (xs : List (Live Body)). last_write_below m.floor 0 (logged_writes k m.named xs)) (sym same) ∙ sym (last_of_below m.floor k m.named others))) refl refl;
  named = λ q. stands.named q ∙ ap (λ b. cond b None (value_under_name q m.named))
      (settled_below q m.floor records ∙ ap (is_settled q m.floor) (sym same) ∙ sym (settled_below q m.floor others));
  sound = stands.sound;
  numbered = stands.numbered;
  differ = stands.differ;
  valued = values_of_below m.floor m.named others (subst (HaveValues m.floor m.named) (sym same) (values_below m.floor m.named records stands.valued));
  end = end;
  falls = fall;
}
