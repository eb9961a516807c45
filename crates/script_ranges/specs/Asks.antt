-- What a script asks is in range, where its arguments and its answers so far are.
use Rattle.std.specs.Prelude.{◌≡◌, ℕ, ◌==◌, ◌&&◌, not, Bool, true, List, length, Some, IsTrue}
use Rattle.std.specs.List.{list_all}
use Rattle.lb_base.specs.declared.value.Value.{Value}
use Rattle.lb_base.specs.Path.{is_ordinal}
use Rattle.boki_types.specs.declared.program.Function.{Function}
use Rattle.boki_types.specs.declared.operation.Op.{Op}
use Rattle.boki_types.specs.declared.operation.Op.TheVariants as o
use Rattle.boki_types.specs.declared.operation.Ask.{Ask}
use Rattle.boki_types.specs.declared.operation.Ask.TheVariants as k
use Rattle.boki_types.specs.declared.operation.Answer.{Answer}
use Rattle.boki_types.specs.declared.operation.Answer.TheVariants as a
use Rattle.boki_types.specs.Finding.{function_at}
use Rattle.boki_model.specs.Bodies.{is_value, is_name, is_outcome, is_short_list, are_names}
use Rattle.boki_model.specs.Plans.{is_program, has_arity}
use Rattle.boki_model.specs.Script.{next_ask}

-- the functions are those of a program
abbrev pub AreFunctions : List Function → Type 0
AreFunctions fs = IsTrue (is_program (record { functions = fs }))

-- an answer
abbrev pub is_answer : Answer → Bool
is_answer (a.Value v) = is_value v
is_answer (a.Spawned ordinal) = is_ordinal ordinal
is_answer (a.Joined outcome) = is_outcome outcome
is_answer (a.Values vs) = list_all is_value vs
is_answer _ = true

-- what is written: a name and its value
abbrev pub is_store_write : List ℕ × Value → Bool
is_store_write w = is_name w.0 && is_value w.1

-- an operation that a script asks whose path has `depth` numbers: a child may be one number deeper, and its function is known,
-- with so many parameters
abbrev pub is_op : List Function → ℕ → Op → Bool
is_op fs depth (o.Read key) = is_name key
is_op fs depth (o.Write key value) = is_name key && is_value value
is_op fs depth (o.Spawn ordinal f args) =
    not (depth == 4) && is_ordinal ordinal && has_arity (length args) (function_at f fs) && is_short_list args && list_all is_value args
is_op fs depth (o.Join ordinal) = is_ordinal ordinal
is_op fs depth (o.Push queue value) = is_name queue && is_value value
is_op fs depth (o.Pop queue) = is_name queue
is_op fs depth (o.Begin names) = are_names names
is_op fs depth (o.Commit names writes) = are_names names && is_short_list writes && list_all is_store_write writes
is_op fs depth (o.ReadGroup keys) = are_names keys

abbrev pub is_ask : List Function → ℕ → Ask → Bool
is_ask fs depth (k.Op op) = is_op fs depth op
is_ask fs depth (k.Done outcome) = is_outcome outcome

abbrev pub AsksAreRanged : Type 0
AsksAreRanged =
    (fs : List Function) (f : ℕ) (args : List Value) (depth : ℕ) (answers : List Answer) (ask : Ask)
    → AreFunctions fs → IsTrue (list_all is_value args) → IsTrue (list_all is_answer answers)
    → next_ask fs f args depth answers ≡ Some ask → IsTrue (is_ask fs depth ask)
