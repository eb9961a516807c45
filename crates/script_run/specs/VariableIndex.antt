-- The index of a name among variables.
use Rattle.std.specs.Prelude.{ℕ, suc, List, [], ◌∷◌, Result, Ok, Err}
use Rattle.std.specs.FinMap.Entries.{by_order}
use Rattle.lb_base.specs.declared.value.Value.{Value}
use Rattle.boki_model.specs.Maps.{key_order}

abbrev pub shifted : Result ℕ ℕ → Result ℕ ℕ
shifted (Ok n) = Ok (suc n)
shifted (Err n) = Err (suc n)

-- its index, from 0, or Err with the index at which it is to be put in
abbrev pub variable_index : List ℕ → List (List ℕ × Value) → Result ℕ ℕ
variable_index x [] = Err 0
variable_index x (e ∷ es) = by_order (key_order x e.0) (Err 0) (Ok 0) (shifted (variable_index x es))
