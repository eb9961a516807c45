-- The lists of an index's map are those that clauses see of it.
use Rattle.std.proofs.Common.{◌≡◌, ℕ, Bool, true, false, cond, eqb, List, [], ◌∷◌, map, Some, unwrap_or, refl}
use Rattle.std.specs.Map.{lookup}
use Rattle.std.specs.Option.{option_map_or}
use Rattle.std.specs.declared.vec.Vec.{Vec}

module _ {Z : Type 0} where
  pub list_seen : (tag : ℕ) (es : List (ℕ × Vec ℕ Z)) → unwrap_or (lookup (eqb tag) (map (λ e. (e.0, e.1.items)) es)) [] ≡ option_map_or (λ v. v.items) (lookup (eqb tag) es) []
  list_seen tag [] = refl
  list_seen tag (e ∷ es) = at (list_seen tag es) (eqb tag e.0)
    where
      at : unwrap_or (lookup (eqb tag) (map (λ e. (e.0, e.1.items)) es)) [] ≡ option_map_or (λ v. v.items) (lookup (eqb tag) es) [] → (b : Bool)
          → unwrap_or (cond b (Some e.1.items) (lookup (eqb tag) (map (λ e. (e.0, e.1.items)) es))) [] ≡ option_map_or (λ v. v.items) (cond b (Some e.1) (lookup (eqb tag) es)) []
      at ih true = refl
      at ih false = ih
