-- Parts of a history: what lies behind some record.
use Rattle.std.proofs.Common.{◌≡◌, ◌⊎◌, inl, inr, refl, List, ◌∷◌}

pub data Tail {A : Type 0} (xs : List A) : List A → Type 0 where
  here : Tail xs xs
  there : {y : A} {ys : List A} → Tail xs ys → Tail xs (y ∷ ys)

module _ {A : Type 0} where
  pub shorter : {x : A} {xs ys : List A} → Tail (x ∷ xs) ys → Tail xs ys
  shorter here = there here
  shorter (there t) = there (shorter t)

  pub longer : {xs ys zs : List A} → Tail xs ys → Tail ys zs → Tail xs zs
  longer s here = s
  longer s (there t) = there (longer s t)

  pub tail_cases : {z : A} {zs xs : List A} → Tail xs (z ∷ zs) → (xs ≡ z ∷ zs) ⊎ Tail xs zs
  tail_cases here = inl refl
  tail_cases (there t) = inr t
