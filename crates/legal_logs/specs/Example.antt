-- A log of four records: a request that writes an object and ends. It is legal; and where the last record has another outcome,
-- it is the first that isn't. Without the write's record it is legal in mode W, where writes are free, and no other.
use Rattle.std.specs.Prelude.{◌≡◌, ℕ, pos, List, [], ◌∷◌, ◌++◌, None, Ok, Err, codes}
use Rattle.lb_base.specs.declared.value.Value.TheVariants.{Int, Text}
use Rattle.lb_base.specs.declared.value.Mode.TheVariants.{R, W, T}
use Rattle.lb_base.specs.declared.value.Outcome.{Outcome}
use Rattle.lb_base.specs.declared.value.Outcome.TheVariants.{Good}
use Rattle.boki_types.specs.declared.body.Body.{Body}
use Rattle.boki_types.specs.declared.body.Body.TheVariants as b
use Rattle.boki_types.specs.declared.program.Function.{Function}
use Rattle.boki_types.specs.declared.program.Stmt.TheVariants as stmt
use Rattle.boki_types.specs.declared.expr.Expr.TheVariants as expr
use Rattle.boki_types.specs.declared.turn.Report.{Report}
use Rattle.boki_types.specs.declared.turn.Turn.{Turn}
use Rattle.boki_types.specs.declared.turn.Turn.TheVariants as turn
use Rattle.boki_model.specs.Live.{LogRecord, live}
use Rattle.boki_machine.specs.Machine.{submit_record}
use Rattle.boki_machine.specs.Attempt.{step_record}
use Rattle.legal_logs.specs.Legal.{audit}

-- function set(k, v) .. write k, v .. return v .. end
abbrev pub set_function : Function
set_function = record {
  name = codes "set";
  params = codes "k" ∷ codes "v" ∷ [];
  lines = stmt.Write (expr.Var (codes "k")) (expr.Var (codes "v")) ∷ stmt.Return (expr.Var (codes "v")) ∷ [];
}

abbrev pub request : List ℕ
request = 1 ∷ []

-- the records with this outcome, the newest first
abbrev pub records : Outcome → List (LogRecord Body)
records outcome =
    step_record request 2 (b.Finish request 2 outcome)
    ∷ step_record request 1 (b.Write request 1 1 (codes "x") None)
    ∷ step_record request 0 (b.Init request)
    ∷ submit_record request (codes "set") (Text (codes "x") ∷ Int (pos 1) ∷ [])
    ∷ []

-- the same log without the write's record
abbrev pub without_write : List (LogRecord Body)
without_write =
    step_record request 1 (b.Finish request 2 (Good (Int (pos 1))))
    ∷ step_record request 0 (b.Init request)
    ∷ submit_record request (codes "set") (Text (codes "x") ∷ Int (pos 1) ∷ [])
    ∷ []

-- the report, with the turns between the request and its end
abbrev pub report : List Turn → Report
report between = record {
  turns = turn.Submit 1 0 (Text (codes "x") ∷ Int (pos 1) ∷ []) ∷ between ++ turn.End request ∷ [];
  results = (request, Good (Int (pos 1))) ∷ [];
  objects = (codes "x", Int (pos 1)) ∷ [];
  queues = [];
  stores = [];
}

pub record ExampleAudited : Type 0 where
  pub legal :
      audit (set_function ∷ []) R [] (live (records (Good (Int (pos 1))))) ≡ Ok (report (turn.Go request 0 ∷ turn.Go request 1 ∷ []))
  pub illegal : audit (set_function ∷ []) R [] (live (records (Good (Int (pos 2))))) ≡ Err 4
  pub free : audit (set_function ∷ []) W [] (live without_write) ≡ Ok (report (turn.Go request 1 ∷ []))
  -- where a write isn't free, what the Init's turn does before the next step record is illegal
  pub in_R : audit (set_function ∷ []) R [] (live without_write) ≡ Err 2
  pub in_T : audit (set_function ∷ []) T [] (live without_write) ≡ Err 2
