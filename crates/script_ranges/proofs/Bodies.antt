-- The records of what is asked, and calls by name.
use Rattle.std.proofs.Common.{◌≡◌, ℕ, zero, suc, ◌<◌, Bool, true, false, not, eqb, leb, ltb, ◌&&◌, List, [], ◌∷◌, length, Option, Some, None, refl, sym, arith}
use Rattle.std.specs.List.{list_all}
use Rattle.std.proofs.lemmas.Bool.{and_parts, and_from, le-leb, ltb-true, eqb-true, eqb-false}
use Rattle.lb_base.specs.Path.{is_path, is_request, are_ordinals, is_ordinal}
use Rattle.boki_types.specs.declared.program.Function.{Function}
use Rattle.boki_types.specs.declared.operation.Op.TheVariants as o
use Rattle.boki_types.specs.declared.operation.Ask.{Ask}
use Rattle.boki_types.specs.declared.operation.Ask.TheVariants as k
use Rattle.boki_types.specs.Finding.{find, function_at, arity}
use Rattle.boki_model.specs.Bodies.{is_value, is_name, is_u64, is_step_id, is_outcome, is_optional_value, is_identifier, is_short_list, are_names}
use Rattle.boki_model.specs.Plans.{has_arity, known_function}
use Rattle.boki_machine.specs.Attempt.{call_of}
use Rattle.boki_machine.specs.Step.{function_name}
use Rattle.boki_machine.specs.Machine.{log, view}
use Rattle.script_ranges.specs.Asks.{is_store_write, is_ask}
use Rattle.script_ranges.specs.Ranged.{BodyInRange}
use Rattle.script_ranges.specs.Sends.{body_of_ask, AsksMakeRecords, CallFits, CallsFit, EnginesSeeRanged}
use Rattle.script_ranges.proofs.Each.{some_has}
use Rattle.script_ranges.proofs.Functions.{named_at}
use Rattle.script_ranges.proofs.Views.{IsSeen, IsCall, call_of_has, machine_sees}
use Rattle.exactly_once.proofs.Log.ListElements.{each_weaker}

-- a path that isn't of the greatest length has at most three numbers
path_short : (p : List ℕ) → is_path p ≡ true → not (eqb (length p) 4) ≡ true → leb (length p) 3 ≡ true
path_short [] is apart = cc
path_short (n ∷ ns) is apart =
    let short = ltb-true (length ns) 4 (and_parts (is_request n && are_ordinals ns) (ltb (length ns) 4) is).1 in
    at (eqb (suc (length ns)) 4) refl apart short
  where
    at : (t : Bool) → eqb (suc (length ns)) 4 ≡ t → not t ≡ true → length ns < 4 → leb (suc (length ns)) 3 ≡ true
    at true e apart short = cc
    at false e apart short = let other = eqb-false (suc (length ns)) 4 e in le-leb (suc (length ns)) 3 (omega (arith, other, short))

pub asks_make_records : AsksMakeRecords
asks_make_records fs p i place here begin ask are path one word placed optional begun good = at ask good
  where
    step : is_step_id p i ≡ true
    step = and_from (is_path p && leb 1 i) (is_u64 i) (and_from (is_path p) (leb 1 i) path (le-leb 1 i one)) word

    at : (ask : Ask) → is_ask fs (length p) ask ≡ true → BodyInRange fs (body_of_ask fs p i place here begin ask)
    at (k.Op (o.Read key)) good = record { range = and_from (is_step_id p i) (is_name key) step good; known = refl }
    at (k.Op (o.Write key v)) good = record {
      range = and_from (is_step_id p i && is_u64 place && is_name key) (is_optional_value here)
          (and_from (is_step_id p i && is_u64 place) (is_name key) (and_from (is_step_id p i) (is_u64 place) step placed) (and_parts (is_name key) (is_value v) good).0) optional;
      known = refl;
    }
    at (k.Op (o.Spawn ordinal f args)) good =
        let valued = and_parts (not (eqb (length p) 4) && is_ordinal ordinal && has_arity (length args) (function_at f fs) && is_short_list args) (list_all is_value args) good in
        let fewer = and_parts (not (eqb (length p) 4) && is_ordinal ordinal && has_arity (length args) (function_at f fs)) (is_short_list args) valued.0 in
        let known = and_parts (not (eqb (length p) 4) && is_ordinal ordinal) (has_arity (length args) (function_at f fs)) fewer.0 in
        let ordered = and_parts (not (eqb (length p) 4)) (is_ordinal ordinal) known.0 in
        let named = named_at fs are (length args) f known.1 in
        let name = function_name f fs in
        record {
          range = and_from (is_step_id p i && leb (length p) 3 && is_ordinal ordinal && is_identifier name && is_short_list args) (list_all is_value args)
              (and_from (is_step_id p i && leb (length p) 3 && is_ordinal ordinal && is_identifier name) (is_short_list args)
              (and_from (is_step_id p i && leb (length p) 3 && is_ordinal ordinal) (is_identifier name)
              (and_from (is_step_id p i && leb (length p) 3) (is_ordinal ordinal)
              (and_from (is_step_id p i) (leb (length p) 3) step (path_short p path ordered.0)) ordered.1) named.name) fewer.1) valued.1;
          known = named.known;
        }
    at (k.Op (o.Join ordinal)) good = record { range = and_from (is_step_id p i) (is_ordinal ordinal) step good; known = refl }
    at (k.Op (o.Push queue v)) good =
        let parts = and_parts (is_name queue) (is_value v) good in
        record { range = and_from (is_step_id p i && is_name queue) (is_value v) (and_from (is_step_id p i) (is_name queue) step parts.0) parts.1; known = refl }
    at (k.Op (o.Pop queue)) good = record { range = and_from (is_step_id p i) (is_name queue) step good; known = refl }
    at (k.Op (o.Begin names)) good = record { range = and_from (is_step_id p i) (are_names names) step good; known = refl }
    at (k.Op (o.Commit names ws)) good =
        let written = and_parts (are_names names && is_short_list ws) (list_all is_store_write ws) good in
        let named = and_parts (are_names names) (is_short_list ws) written.0 in
        record {
          range = and_from (is_step_id p i && is_u64 begin && are_names names && is_short_list ws) (list_all is_store_write ws)
              (and_from (is_step_id p i && is_u64 begin && are_names names) (is_short_list ws)
              (and_from (is_step_id p i && is_u64 begin) (are_names names) (and_from (is_step_id p i) (is_u64 begin) step begun) named.0) named.1) written.1;
          known = refl;
        }
    at (k.Op (o.ReadGroup keys)) good = record { range = and_from (is_step_id p i) (are_names keys) step good; known = refl }
    at (k.Done outcome) good = record { range = and_from (is_step_id p i) (is_outcome outcome) step good; known = refl }

arity_at : (n k : ℕ) (gs : List Function) → has_arity k (function_at n gs) ≡ true → (n < length gs) × (arity n gs ≡ k)
arity_at n k [] is = cc
arity_at zero k (g ∷ gs) is = (omega arith, sym (eqb-true k (length g.params) is))
arity_at (suc n) k (g ∷ gs) is = let rest = arity_at n k gs is in ((let lt = rest.0 in omega (arith, lt)), rest.1)

pub calls_fit : CallsFit
calls_fit fs name args is = at (find name fs) refl is
  where
    at : (o : Option ℕ) → find name fs ≡ o → has_arity (length args) (known_function fs o) ≡ true → CallFits fs name args
    at None e is = cc
    at (Some n) e is = let has = arity_at n (length args) fs is in record { number = n; found = e; known = has.0; fits = has.1 }

pub engines_see_ranged : EnginesSeeRanged
engines_see_ranged fs m engine is =
    let seen = machine_sees fs m engine is in
    record {
      records = each_weaker (IsSeen fs (length (log m))) (λ x. BodyInRange fs x.holds) (λ x one. one.body) (view m engine) seen;
      known = λ path call e. (some_has (IsCall fs (length (log m))) (call_of path (view m engine)) call (call_of_has fs (length (log m)) path (view m engine) seen) e).known;
      args = λ path call e. (some_has (IsCall fs (length (log m))) (call_of path (view m engine)) call (call_of_has fs (length (log m)) path (view m engine) seen) e).args;
    }
