-- A function's number is found by its name, where no name stands twice.
use Rattle.std.proofs.Common.{◌≡◌, ℕ, zero, suc, true, false, cond, not, List, [], ◌∷◌, Option, Some, None, option_map, refl, ap, ◌∙◌, subst}
use Rattle.std.specs.Prelude.{bytes_eq}
use Rattle.std.proofs.lemmas.Bool.{and_parts, or_parts, not-true}
use Rattle.boki_types.specs.declared.program.Function.{Function}
use Rattle.boki_types.specs.Finding.{find, function_at}
use Rattle.boki_model.specs.Maps.{has}
use Rattle.boki_model.specs.Plans.{distinct, function_names, has_arity, known_function}
use Rattle.boki_machine.specs.Step.{name_or_empty, function_name}
use Rattle.exactly_once.proofs.Log.MapChanges.{same_itself, other_way}

pub other_name : (f : Function) (n : ℕ) (gs : List Function) (g : Function) → has f.name (function_names gs) ≡ false → function_at n gs ≡ Some g → bytes_eq g.name f.name ≡ false
other_name f n [] g apart is = cc
other_name f zero (h ∷ gs) g apart is =
    let same : h ≡ g = cc in
    subst (λ (g : Function). bytes_eq g.name f.name ≡ false) same (other_way f.name h.name (or_parts (bytes_eq f.name h.name) (has f.name (function_names gs)) apart).0)
other_name f (suc n) (h ∷ gs) g apart is = other_name f n gs g (or_parts (bytes_eq f.name h.name) (has f.name (function_names gs)) apart).1 is

pub found_itself : (gs : List Function) (n : ℕ) (g : Function) → distinct (function_names gs) ≡ true → function_at n gs ≡ Some g → find g.name gs ≡ Some n
found_itself [] n g apart is = cc
found_itself (f ∷ gs) zero g apart is = let same : f ≡ g = cc in subst (λ (g : Function). find g.name (f ∷ gs) ≡ Some 0) same (ap (λ b. cond b (Some 0) (option_map suc (find f.name gs))) (same_itself f.name))
found_itself (f ∷ gs) (suc n) g apart is =
    let parts = and_parts (not (has f.name (function_names gs))) (distinct (function_names gs)) apart in
    let other = other_name f n gs g (not-true (has f.name (function_names gs)) parts.0) is in
    ap (λ b. cond b (Some 0) (option_map suc (find g.name gs))) other ∙ ap (option_map suc) (found_itself gs n g parts.1 is)

pub known_by_name : (fs : List Function) (f n : ℕ) → distinct (function_names fs) ≡ true → has_arity n (function_at f fs) ≡ true → has_arity n (known_function fs (find (function_name f fs) fs)) ≡ true
known_by_name fs f n apart is = at (function_at f fs) refl is
  where
    at : (g : Option Function) → function_at f fs ≡ g → has_arity n g ≡ true → has_arity n (known_function fs (find (name_or_empty g) fs)) ≡ true
    at None e is = let no_way : false ≡ true = is in cc
    at (Some g) e is = ap (λ o. has_arity n (known_function fs o)) (found_itself fs f g apart e) ∙ ap (has_arity n) e ∙ is
