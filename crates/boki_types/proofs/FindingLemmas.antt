-- Finding a function by its name, and counting its parameters, place by place.
use Rattle.std.proofs.Common.{◌≡◌, ℕ, zero, suc, ◌+◌, ◌<◌, Bool, true, false, cond, List, [], ◌∷◌, length, drop, get_or, Option, Some, None, option_map, bytes_eq, refl, ap, sym, ◌∙◌, arith}
use Rattle.std.proofs.Math.Seq.{drop-cons}
use Rattle.boki_types.specs.declared.program.Function.{Function}
use Rattle.boki_types.specs.Finding.{find, arity}

-- a number found behind n others
abbrev pub behind : ℕ → Option ℕ → Option ℕ
behind n found = option_map (λ k. n + k) found

-- what is found behind one more
behind-suc : (n : ℕ) (found : Option ℕ) → behind n (option_map suc found) ≡ behind (n + 1) found
behind-suc n None = refl
behind-suc n (Some k) = ap Some (omega arith)

-- the list from a place on
from_place : (fs : List Function) (i : ℕ) (f : Function) → i < length fs → f ≡ get_or fs i f → drop i fs ≡ f ∷ drop (suc i) fs
from_place fs i f within is = drop-cons fs i f within ∙ ap (λ (g : Function). g ∷ drop (suc i) fs) (sym is)

-- the function at this place has the name
pub found_here : (name : List ℕ) (fs : List Function) (i : ℕ) (f : Function) → i < length fs → f ≡ get_or fs i f → true ≡ bytes_eq name f.name → find name (drop i fs) ≡ Some 0
found_here name fs i f within is same =
    ap (find name) (from_place fs i f within is) ∙ ap (λ (b : Bool). cond b (Some 0) (option_map suc (find name (drop (suc i) fs)))) (sym same)

-- it has another name
pub found_later : (name : List ℕ) (fs : List Function) (i n : ℕ) (f : Function) → i < length fs → f ≡ get_or fs i f → false ≡ bytes_eq name f.name → behind n (find name (drop i fs)) ≡ behind (n + 1) (find name (drop (i + 1) fs))
found_later name fs i n f within is other =
    ap (λ (gs : List Function). behind n (find name gs)) (from_place fs i f within is)
    ∙ ap (λ (b : Bool). behind n (cond b (Some 0) (option_map suc (find name (drop (suc i) fs))))) (sym other)
    ∙ behind-suc n (find name (drop (suc i) fs))
    ∙ ap (λ (k : ℕ). behind (n + 1) (find name (drop k fs))) {x = suc i} {y = i + 1} (omega arith)

-- how many parameters the function at a place has
pub arity_at : (fs : List Function) (i : ℕ) (f : Function) → i < length fs → f ≡ get_or fs i f → length f.params ≡ arity i fs
arity_at [] i f within is = omega arith
arity_at (g ∷ fs) zero f within is = ap (λ (h : Function). length h.params) is
arity_at (g ∷ fs) (suc i) f within is = arity_at fs i f (omega arith) is
