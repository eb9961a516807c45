-- What holds of each element of a list, and of what is there at all.
use Rattle.std.proofs.Common.{◌≡◌, Bool, true, List, [], ◌∷◌, Option, Some, None, Result, Ok, Err, refl, subst}
use Rattle.std.specs.List.{list_all, AllByRecursion}
use Rattle.std.proofs.lemmas.Bool.{and_parts, and_from}
use Rattle.lb_base.specs.declared.value.TrapKind.{TrapKind}
use Rattle.boki_model.specs.Values.{and_then}

-- what a computation gives, where it doesn't trap
abbrev pub OkHas : {X : Type 0} → (X → Type 0) → Result X TrapKind → Type 0
OkHas P (Ok x) = P x
OkHas P (Err t) = Unit {0}

abbrev pub SomeHas : {X : Type 0} → (X → Type 0) → Option X → Type 0
SomeHas P None = Unit {0}
SomeHas P (Some x) = P x

pub some_has : {X : Type 0} (P : X → Type 0) (o : Option X) (x : X) → SomeHas P o → o ≡ Some x → P x
some_has P o x has e = let h = subst (SomeHas P) e has in h

pub then_has : {X Y : Type 0} (P : X → Type 0) (Q : Y → Type 0) (r : Result X TrapKind) (f : X → Result Y TrapKind) → OkHas P r → ((x : X) → P x → OkHas Q (f x)) → OkHas Q (and_then r f)
then_has P Q (Ok x) f has next = next x has
then_has P Q (Err t) f has next = tt

module _ {A : Type 0} (test : A → Bool) where
  pub each_of : (xs : List A) → list_all test xs ≡ true → AllByRecursion (λ x. test x ≡ true) xs
  each_of [] all = tt
  each_of (x ∷ xs) all = let parts = and_parts (test x) (list_all test xs) all in (parts.0, each_of xs parts.1)

  pub all_of_each : (xs : List A) → AllByRecursion (λ x. test x ≡ true) xs → list_all test xs ≡ true
  all_of_each [] each = refl
  all_of_each (x ∷ xs) each = and_from (test x) (list_all test xs) each.0 (all_of_each xs each.1)
