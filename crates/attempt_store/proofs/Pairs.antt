-- Pairs of what two lists have, gone over from the front.
use Rattle.std.proofs.Common.{◌≡◌, ◌∙◌, ◌⊎◌, ⊎_elim, List, [], ◌∷◌, ◌++◌, append-nil, refl, sym, ap}
use Rattle.std.specs.Prelude.{zip}

module _ {A B : Type 0} where
  zip_none : (ks : List A) → ◌≡◌ {A = List (A × B)} (zip ks []) []
  zip_none [] = refl
  zip_none (k ∷ ks) = refl

  -- none is left
  pub none_more :
      (ps : List (A × B)) (ks : List A) (vs : List B) (whole : List (A × B))
      → (ks ≡ []) ⊎ (vs ≡ []) → ps ++ zip ks vs ≡ whole → ps ≡ whole
  none_more ps ks vs whole out is =
      sym (append-nil ps)
      ∙ ap (λ l. ps ++ l) (sym (⊎_elim (λ e. ap (λ l. zip l vs) e) (λ e. ap (λ l. zip ks l) e ∙ zip_none ks) out))
      ∙ is
