-- The statement of the central theorem rests on this file.
-- The report of a machine, over its whole ordered list; and that of an ideal state with its turns. Results stand in the order
-- of paths, and objects, queues and store names in that of their bytes.
use Rattle.std.specs.Prelude.{ℕ, suc, List, [], ◌∷◌, length, Option, Some, None}
use Rattle.lb_base.specs.declared.value.Value.{Value}
use Rattle.lb_base.specs.declared.value.Outcome.{Outcome}
use Rattle.boki_types.specs.declared.body.Body.{Body}
use Rattle.boki_types.specs.declared.body.Body.TheVariants as body
use Rattle.boki_types.specs.declared.program.Function.{Function}
use Rattle.boki_types.specs.declared.turn.Turn.{Turn}
use Rattle.boki_types.specs.declared.turn.Report.{Report}
use Rattle.boki_model.specs.Maps.{get, put}
use Rattle.boki_model.specs.Live.{Live}
use Rattle.boki_model.specs.Writes.{Store, keys_below, last_value_below}
use Rattle.boki_model.specs.Folds.{queues, commits, store_values}
use Rattle.boki_machine.specs.Machine.{Machine, log, live_records}
use Rattle.boki_machine.specs.Turns.{turns}
use Rattle.boki_machine.specs.Ideal.{Ideal, Invocation}

abbrev pub add_first_result : List ℕ → Outcome → List (List ℕ × Outcome) → Option Outcome → List (List ℕ × Outcome)
add_first_result p outcome results None = put p outcome results
add_first_result p outcome results (Some first) = results

-- the first Finish of each path has its result
abbrev pub add_result : Body → List (List ℕ × Outcome) → List (List ℕ × Outcome)
add_result (body.Finish p i outcome) results = add_first_result p outcome results (get p results)
add_result _ results = results

abbrev pub results : List (Live Body) → List (List ℕ × Outcome)
results [] = []
results (x ∷ xs) = add_result x.holds (results xs)

abbrev pub add_value : List ℕ → Option Value → List (List ℕ × Value) → List (List ℕ × Value)
add_value key None xs = xs
add_value key (Some v) xs = (key, v) ∷ xs

-- the value of each key at the end: its write with the greatest position
abbrev pub last_values : ℕ → Store → List (Live Body) → List (List ℕ × Value) → List (List ℕ × Value)
last_values n store records [] = []
last_values n store records (x ∷ xs) = add_value x.0 (last_value_below x.0 n 0 store records) (last_values n store records xs)

-- every position is below (n, 0) where n is above the length of the list
abbrev pub objects : ℕ → Store → List (Live Body) → List (List ℕ × Value)
objects n store records = last_values n store records (keys_below n store records)

abbrev pub report : List Function → Machine → Report
report fs m = let records = live_records m in
    record {
      turns = turns fs m.store.versions records;
      results = results records;
      objects = objects (suc (length (log m))) m.store records;
      queues = queues records;
      stores = store_values (commits records);
    }

abbrev pub add_outcome : List ℕ → Option Outcome → List (List ℕ × Outcome) → List (List ℕ × Outcome)
add_outcome p None xs = xs
add_outcome p (Some outcome) xs = (p, outcome) ∷ xs

abbrev pub ideal_results : List (List ℕ × Invocation) → List (List ℕ × Outcome)
ideal_results [] = []
ideal_results (x ∷ xs) = add_outcome x.0 x.1.result (ideal_results xs)

abbrev pub ideal_report : List Turn → Ideal → Report
ideal_report ts s = record {
  turns = ts;
  results = ideal_results s.invocations;
  objects = s.objects;
  queues = s.queues;
  stores = s.names;
}
