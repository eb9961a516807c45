-- The statement of the central theorem rests on this file.
-- Functions by name and by number.
use Rattle.std.specs.Prelude.{ℕ, zero, suc, List, [], ◌∷◌, length, Option, Some, None, option_map, bytes_eq, if◌then◌else◌}
use Rattle.lb_base.specs.declared.words.Words.{Words}
use Rattle.boki_types.specs.declared.program.Function.{Function}

-- the number of the first function of that name, from 0
abbrev pub find : List ℕ → List Function → Option ℕ
find name [] = None
find name (f ∷ fs) = if bytes_eq name f.name then Some 0 else option_map suc (find name fs)

-- the function of that number
abbrev pub function_at : ℕ → List Function → Option Function
function_at n [] = None
function_at zero (f ∷ fs) = Some f
function_at (suc n) (f ∷ fs) = function_at n fs

-- how many parameters the function of that number has; 0 where there is none
abbrev pub arity : ℕ → List Function → ℕ
arity n [] = 0
arity zero (f ∷ fs) = length f.params
arity (suc n) (f ∷ fs) = arity n fs
