use Rattle.std.proofs.Common.{◌≡◌, ℕ, zero, suc, List, [], ◌∷◌, refl, ◌∙◌}
use Rattle.std.specs.Prelude.{slice_get}
use Rattle.boki_types.specs.declared.program.Function.{Function}
use Rattle.boki_types.specs.Finding.{function_at}
use Rattle.plan_lang.proofs.printing.function_of.Goals as goal

same_function : (fs : List Function) (n : ℕ) → slice_get fs n ≡ function_at n fs
same_function [] n = refl
same_function (f ∷ fs) zero = refl
same_function (f ∷ fs) (suc n) = same_function fs n

pub returns : goal.returns
returns c = c.function_in.ensures ∙ same_function c.args.functions.now c.args.number
