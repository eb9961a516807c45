-- What holds of each element of a list, and what lies behind one.
use Rattle.std.proofs.Common.{◌≡◌, inl, inr, Bool, true, false, cond, List, [], ◌∷◌, ◌++◌, refl, subst}
use Rattle.std.specs.List.{filter, AllByRecursion}
use Rattle.exactly_once.specs.FurtherLaws.Words.{IsAmong}
use Rattle.exactly_once.proofs.Log.HistoryTails.{Tail, here, there}

-- what lies behind an element
pub record Behind {A : Type 0} (x : A) (ys : List A) : Type 0 where
  pub rest : List A
  pub tail : Tail (x ∷ rest) ys

pub behind : {A : Type 0} (x : A) (ys : List A) → IsAmong x ys → Behind x ys
behind x [] among = absurd among
behind x (y ∷ ys) (inl e) = record { rest = ys; tail = subst (λ y. Tail (x ∷ ys) (y ∷ ys)) e here }
behind x (y ∷ ys) (inr among) = let it = behind x ys among in record { rest = it.rest; tail = there it.tail }

-- what is among a part of a list is among the list
pub among_tail : {A : Type 0} (x : A) (xs ys : List A) → Tail xs ys → IsAmong x xs → IsAmong x ys
among_tail x xs ys here among = among
among_tail x xs (y ∷ ys) (there t) among = inr (among_tail x xs ys t among)

module _ {A : Type 0} where
  pub each_append : (P : A → Type 0) (xs ys : List A) → AllByRecursion P xs → AllByRecursion P ys → AllByRecursion P (xs ++ ys)
  each_append P [] ys one two = two
  each_append P (x ∷ xs) ys one two = (one.0, each_append P xs ys one.1 two)

  pub each_weaker : (P Q : A → Type 0) → ((x : A) → P x → Q x) → (xs : List A) → AllByRecursion P xs → AllByRecursion Q xs
  each_weaker P Q step [] each = tt
  each_weaker P Q step (x ∷ xs) each = (step x each.0, each_weaker P Q step xs each.1)

  pub each_both : (P Q : A → Type 0) (xs : List A) → AllByRecursion P xs → AllByRecursion Q xs → AllByRecursion (λ x. P x × Q x) xs
  each_both P Q [] one two = tt
  each_both P Q (x ∷ xs) one two = ((one.0, two.0), each_both P Q xs one.1 two.1)

  -- what holds of each element that a test keeps
  pub each_kept : (P : A → Type 0) (test : A → Bool) (xs : List A) → AllByRecursion P (filter test xs) → AllByRecursion (λ x. test x ≡ true → P x) xs
  each_kept P test [] each = tt
  each_kept P test (x ∷ xs) each = at (each_kept P test xs) (test x) refl each
    where
      at : (AllByRecursion P (filter test xs) → AllByRecursion (λ x. test x ≡ true → P x) xs) → (b : Bool) → test x ≡ b → AllByRecursion P (cond b (x ∷ filter test xs) (filter test xs)) → (test x ≡ true → P x) × AllByRecursion (λ x. test x ≡ true → P x) xs
      at rest true e each = (λ h. each.0, rest each.1)
      at rest false e each = (λ h. absurd (let no_way : ⊥ = cc in no_way), rest each)

  pub each_tail : (P : A → Type 0) (xs ys : List A) → Tail xs ys → AllByRecursion P ys → AllByRecursion P xs
  each_tail P xs ys here each = each
  each_tail P xs (y ∷ ys) (there t) each = each_tail P xs ys t each.1

  pub tail_prepend : (zs xs ys : List A) → Tail xs ys → Tail xs (zs ++ ys)
  tail_prepend [] xs ys t = t
  tail_prepend (z ∷ zs) xs ys t = there (tail_prepend zs xs ys t)

  pub tail_append : (zs xs ys : List A) → Tail xs ys → Tail (xs ++ zs) (ys ++ zs)
  tail_append zs xs ys here = here
  tail_append zs xs (y ∷ ys) (there t) = there (tail_append zs xs ys t)
