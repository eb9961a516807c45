-- A spelling that grows piece by piece.
use Rattle.std.proofs.Common.{◌≡◌, ℕ, List, [], ◌∷◌, ◌++◌, refl, sym, ap, ◌∙◌, append_assoc}

pub add1 : (f k : ℕ) (p w t out more : List ℕ) → out ≡ f ∷ k ∷ (p ++ w) → more ≡ out ++ t → more ≡ f ∷ k ∷ (p ++ (w ++ t))
add1 f k p w t out more e g = g ∙ ap (λ (x : List ℕ). x ++ t) e ∙ ap (λ (x : List ℕ). f ∷ k ∷ x) (append_assoc p w t)

pub add2 : (f k : ℕ) (p w t u out more last : List ℕ) → out ≡ f ∷ k ∷ (p ++ w) → more ≡ out ++ t → last ≡ more ++ u → last ≡ f ∷ k ∷ (p ++ (w ++ (t ++ u)))
add2 f k p w t u out more last e g h =
    add1 f k p (w ++ t) u more last (add1 f k p w t out more e g) h ∙ ap (λ (x : List ℕ). f ∷ k ∷ (p ++ x)) (append_assoc w t u)

pub add3 : (f k : ℕ) (p w t u v out more late last : List ℕ) → out ≡ f ∷ k ∷ (p ++ w) → more ≡ out ++ t → late ≡ more ++ u → last ≡ late ++ v → last ≡ f ∷ k ∷ (p ++ (w ++ (t ++ (u ++ v))))
add3 f k p w t u v out more late last e g h i =
    add2 f k p w (t ++ u) v out (out ++ (t ++ u)) last e refl (i ∙ ap (λ (x : List ℕ). x ++ v) (h ∙ ap (λ (x : List ℕ). x ++ u) g ∙ append_assoc out t u)) ∙ ap (λ (x : List ℕ). f ∷ k ∷ (p ++ (w ++ x))) (append_assoc t u v)
