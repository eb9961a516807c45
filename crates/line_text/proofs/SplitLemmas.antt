-- A text, split at a byte.
use Rattle.std.proofs.Common.{◌≡◌, ◌≢◌, ℕ, zero, suc, ◌<◌, cond, eqb, List, [], ◌∷◌, length, take, drop, get_or, Some, None, refl, ap, ◌∙◌, arith}
use Rattle.std.proofs.lemmas.Bool.Decides.{nat_tests}
use Rattle.std.proofs.lemmas.Bool.{eq-eqb}
use Rattle.line_text.specs.Splits.{split_first, prepend}

chosen : {X : Type 0} (c w : ℕ) (x y : X) → c ≡ w → cond (eqb c w) x y ≡ x
chosen c w x y e = rw (eq-eqb c w e) refl

passed : {X : Type 0} (c w : ℕ) (x y : X) → c ≢ w → cond (eqb c w) x y ≡ y
passed c w x y e = grind (arith, nat_tests, e)

pub split_here : (byte : ℕ) (text : List ℕ) (i : ℕ) → ((k : ℕ) → k < i → get_or text k 0 ≢ byte) → i < length text → get_or text i 0 ≡ byte → split_first byte text ≡ Some (take i text, drop 1 (drop i text))
split_here byte [] i before within e = absurd (omega arith)
split_here byte (c ∷ cs) zero before within e = chosen c byte _ _ e
split_here byte (c ∷ cs) (suc i) before within e =
    passed c byte _ _ (before 0 (omega arith))
    ∙ ap (prepend c) (split_here byte cs i (λ k h. before (suc k) (omega arith)) (omega arith) e)

pub split_nowhere : (byte : ℕ) (text : List ℕ) → ((k : ℕ) → k < length text → get_or text k 0 ≢ byte) → split_first byte text ≡ None
split_nowhere byte [] before = refl
split_nowhere byte (c ∷ cs) before =
    passed c byte _ _ (before 0 (omega arith))
    ∙ ap (prepend c) (split_nowhere byte cs (λ k h. before (suc k) (omega arith)))
