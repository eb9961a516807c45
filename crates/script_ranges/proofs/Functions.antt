-- The functions of a program.
use Rattle.std.proofs.Common.{◌≡◌, ℕ, zero, suc, ◌≤◌, true, leb, ◌&&◌, List, [], ◌∷◌, ◌++◌, length, Option, Some, None, refl, sym, subst, arith}
use Rattle.std.specs.Prelude.{unwrap_or}
use Rattle.std.specs.List.{list_all, AllByRecursion}
use Rattle.std.proofs.lemmas.Bool.{and_parts, leb-true, eqb-true}
use Rattle.boki_types.specs.declared.program.Stmt.{Stmt}
use Rattle.boki_types.specs.declared.program.Function.{Function}
use Rattle.boki_types.specs.Finding.{find, function_at}
use Rattle.boki_model.specs.Bodies.{is_short_list, is_identifier}
use Rattle.boki_model.specs.Maps.{has}
use Rattle.boki_model.specs.Plans.{distinct, has_arity, known_function, is_stmt, are_stmts, is_balanced, is_function, function_names, variables_set}
use Rattle.boki_machine.specs.Step.{name_or_empty, function_name}
use Rattle.exactly_once.proofs.Asking.FunctionNames.{found_itself}
use Rattle.script_ranges.specs.Asks.{AreFunctions}
use Rattle.script_ranges.proofs.Each.{SomeHas}

-- a line of a function, whatever variables are known there
abbrev pub IsLine : List Function → Stmt → Type 0
IsLine fs l = (known : List (List ℕ)) × (is_stmt fs known l ≡ true)

abbrev pub AreLines : List Function → List Stmt → Type 0
AreLines fs ls = AllByRecursion (IsLine fs) ls

lines_of : (fs : List Function) (known : List (List ℕ)) (ls : List Stmt) → are_stmts fs known ls ≡ true → AreLines fs ls
lines_of fs known [] are = tt
lines_of fs known (l ∷ ls) are = let parts = and_parts (is_stmt fs known l) (are_stmts fs (variables_set l ++ known) ls) are in ((known, parts.0), lines_of fs (variables_set l ++ known) ls parts.1)

-- what is used of a function
pub record IsFunction (fs : List Function) (f : Function) : Type 0 where
  pub name : is_identifier f.name ≡ true
  pub few_params : length f.params ≤ 8
  pub lines : AreLines fs f.lines

function_of : (fs : List Function) (f : Function) → is_function fs f ≡ true → IsFunction fs f
function_of fs f is =
    let lines = and_parts (is_identifier f.name && is_short_list f.params && list_all is_identifier f.params && distinct f.params && is_balanced [] f.lines) (are_stmts fs f.params f.lines) is in
    let balanced = and_parts (is_identifier f.name && is_short_list f.params && list_all is_identifier f.params && distinct f.params) (is_balanced [] f.lines) lines.0 in
    let params = and_parts (is_identifier f.name && is_short_list f.params && list_all is_identifier f.params) (distinct f.params) balanced.0 in
    let identifiers = and_parts (is_identifier f.name && is_short_list f.params) (list_all is_identifier f.params) params.0 in
    let named = and_parts (is_identifier f.name) (is_short_list f.params) identifiers.0 in
    record { name = named.0; few_params = leb-true (length f.params) 8 named.1; lines = lines_of fs f.params f.lines lines.1 }

at_has : (P : Function → Type 0) (n : ℕ) (gs : List Function) → AllByRecursion P gs → SomeHas P (function_at n gs)
at_has P n [] all = tt
at_has P zero (g ∷ gs) all = all.0
at_has P (suc n) (g ∷ gs) all = at_has P n gs all.1

functions_of : (fs gs : List Function) → list_all (is_function fs) gs ≡ true → AllByRecursion (IsFunction fs) gs
functions_of fs [] are = tt
functions_of fs (g ∷ gs) are = let parts = and_parts (is_function fs g) (list_all (is_function fs) gs) are in (function_of fs g parts.0, functions_of fs gs parts.1)

module _ (fs : List Function) (are : AreFunctions fs) where
  parts : ((leb (length fs) 256 && distinct (function_names fs)) ≡ true) × (list_all (is_function fs) fs ≡ true)
  parts = and_parts (leb (length fs) 256 && distinct (function_names fs)) (list_all (is_function fs) fs) are

  pub function_is : (n : ℕ) → SomeHas (IsFunction fs) (function_at n fs)
  function_is n = at_has (IsFunction fs) n fs (functions_of fs fs parts.1)

  pub found_at : (n : ℕ) (g : Function) → function_at n fs ≡ Some g → find g.name fs ≡ Some n
  found_at n g is = found_itself fs n g (and_parts (leb (length fs) 256) (distinct (function_names fs)) parts.0).1 is

  -- a function with so many parameters has a few
  pub few_args : (k n : ℕ) → has_arity k (function_at n fs) ≡ true → k ≤ 8
  few_args k n is = at (function_at n fs) (function_is n) is
    where
      at : (o : Option Function) → SomeHas (IsFunction fs) o → has_arity k o ≡ true → k ≤ 8
      at None has is = cc
      at (Some f) has is = let e = eqb-true k (length f.params) is in let le = has.few_params in omega (arith, e, le)

  -- a call by name is one of the number that the name has
  pub known_at : (k : ℕ) (name : List ℕ) → has_arity k (known_function fs (find name fs)) ≡ true → has_arity k (function_at (unwrap_or (find name fs) 0) fs) ≡ true
  known_at k name is = at (find name fs) is
    where
      at : (o : Option ℕ) → has_arity k (known_function fs o) ≡ true → has_arity k (function_at (unwrap_or o 0) fs) ≡ true
      at None is = cc
      at (Some n) is = is

  -- and a call by number is one of the number's name, which is an identifier
  pub record IsNamed (k n : ℕ) : Type 0 where
    pub name : is_identifier (function_name n fs) ≡ true
    pub known : has_arity k (known_function fs (find (function_name n fs) fs)) ≡ true

  pub named_at : (k n : ℕ) → has_arity k (function_at n fs) ≡ true → IsNamed k n
  named_at k n is = at (function_at n fs) refl (function_is n) is
    where
      at : (o : Option Function) → function_at n fs ≡ o → SomeHas (IsFunction fs) o → has_arity k o ≡ true → IsNamed k n
      at None e has is = cc
      at (Some g) e has is = record {
        name = subst (λ o. is_identifier (name_or_empty o) ≡ true) (sym e) has.name;
        known = subst (λ o. has_arity k (known_function fs (find (name_or_empty o) fs)) ≡ true) (sym e) (subst (λ o. has_arity k (known_function fs o) ≡ true) (sym (found_at n g e)) (subst (λ o. has_arity k o ≡ true) (sym e) is));
      }
