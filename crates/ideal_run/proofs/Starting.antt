-- The start of an invocation.
use Rattle.std.proofs.Common.{◌≡◌, ℕ, zero, suc, ◌<◌, true, false, cond, List, [], ◌∷◌, length, slice_get, Option, Some, None, option_map, refl, ap, arith}
use Rattle.std.proofs.lemmas.Bool.{eqb-true}
use Rattle.lb_base.specs.declared.value.Value.{Value}
use Rattle.boki_types.specs.declared.program.Function.{Function}
use Rattle.boki_types.specs.Finding.{function_at, arity}
use Rattle.boki_model.specs.Script.{run_script, initial_state, start_function, ask_of, next_ask}
use Rattle.ideal_run.specs.Acts.{takes_args}

pub function_is : (n : ℕ) (fs : List Function) → function_at n fs ≡ slice_get fs n
function_is n [] = refl
function_is zero (f ∷ fs) = refl
function_is (suc n) (f ∷ fs) = function_is n fs

pub takes_known : (n : ℕ) (args : List Value) (fs : List Function) → takes_args args (function_at n fs) ≡ true → n < length fs
takes_known n args [] is = absurd (let z : ⊥ = cc in z)
takes_known zero args (f ∷ fs) is = omega arith
takes_known (suc n) args (f ∷ fs) is = omega (arith, takes_known n args fs is)

pub takes_fits : (n : ℕ) (args : List Value) (fs : List Function) → takes_args args (function_at n fs) ≡ true → arity n fs ≡ length args
takes_fits n args [] is = absurd (let z : ⊥ = cc in z)
takes_fits zero args (f ∷ fs) is = eqb-true (length f.params) (length args) is
takes_fits (suc n) args (f ∷ fs) is = takes_fits n args fs is

-- where it doesn't fit, nothing is asked
pub takes_not : (fs : List Function) (depth n : ℕ) (args : List Value) → takes_args args (function_at n fs) ≡ false → next_ask fs n args depth [] ≡ None
takes_not fs depth n args is = ap (option_map ask_of) (at (function_at n fs) is)
  where
    at : (o : Option Function) → takes_args args o ≡ false → start_function fs depth args o ≡ None
    at None is = refl
    at (Some f) is = ap (λ b. cond b (Some (run_script fs depth f.lines (initial_state f.params args))) None) is
