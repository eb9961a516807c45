-- A map whose lists were emptied has no seqnum.
use Rattle.std.proofs.Common.{◌≡◌, ℕ, Bool, true, false, cond, eqb, List, [], ◌∷◌, Some, refl, subst}
use Rattle.std.specs.Map.{lookup}
use Rattle.std.specs.Map.Calls.{RetainsPairs}
use Rattle.std.specs.Option.{option_map_or}
use Rattle.std.specs.declared.vec.Vec.{Vec}

module _ {F Z : Type 0} (T : F → ℕ → Vec ℕ Z → Bool → Vec ℕ Z → F → Type 0) (f : F)
    (empties : (k : ℕ) (v : Vec ℕ Z) (b : Bool) (w : Vec ℕ Z) (f' : F) → T f k v b w f' → (b ≡ true) × (w.items ≡ []) × (f' ≡ f)) where
  pub emptied : (tag : ℕ) (es kept : List (ℕ × Vec ℕ Z)) (g : F) → g ≡ f → RetainsPairs T g es kept → option_map_or (λ v. v.items) (lookup (eqb tag) kept) [] ≡ []
  emptied tag [] kept g same r = rw r refl
  emptied tag (e ∷ es) kept g same (b, w, f', rest, called, others, is) =
      let met = empties e.0 e.1 b w f' (subst (λ h. T h e.0 e.1 b w f') same called) in
      let ih = emptied tag es rest f' met.2 others in
      rw (is, met.0) (at (eqb tag e.0) w rest met.1 ih)
    where
      at : (b : Bool) (w : Vec ℕ Z) (rest : List (ℕ × Vec ℕ Z)) → w.items ≡ [] → option_map_or (λ v. v.items) (lookup (eqb tag) rest) [] ≡ []
          → option_map_or (λ v. v.items) (cond b (Some w) (lookup (eqb tag) rest)) [] ≡ []
      at true w rest e ih = e
      at false w rest e ih = ih
