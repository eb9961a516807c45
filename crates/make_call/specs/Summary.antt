-- The summary of a run.
use Rattle.std.specs.Prelude.{ℕ, ℤ, pos, ◌+ℤ◌, Bool, true, false, List, [], ◌∷◌, ◌++◌, length, codes}
use Rattle.std.specs.Fmt.{decimal, signed_decimal}
use Rattle.lb_base.specs.declared.value.Value.{Value}
use Rattle.lb_base.specs.declared.value.Value.TheVariants.{Int, Text, Nothing}
use Rattle.boki_types.specs.declared.plan.Plan.{Plan}
use Rattle.boki_types.specs.declared.turn.Report.{Report}
use Rattle.boki_model.specs.Plans.{events}
use Rattle.boki_machine.specs.Machine.{log, run_plan}
use Rattle.boki_machine.specs.Reports.{report}
use Rattle.plan_lang.specs.Generated.{transfers}
use Rattle.call_base.specs.declared.status.Status.TheVariants.{Done}
use Rattle.call_base.specs.Due.{Due, due}
use Rattle.check_call.specs.Plans.{make_due}

-- an object's integer; other values count nothing
abbrev pub integer_of : Value → ℤ
integer_of (Int n) = n
integer_of (Text text) = pos 0
integer_of Nothing = pos 0

-- the sum of the integer objects
abbrev pub sum_of : List (List ℕ × Value) → ℤ
sum_of [] = pos 0
sum_of (x ∷ xs) = integer_of x.1 +ℤ sum_of xs

-- the line `events X records L turns Y ended Z objects O sum S`
abbrev pub log_part : ℕ → ℕ → ℕ → List ℕ
log_part count records turns =
    codes "events " ++ (decimal count ++ (codes " records " ++ (decimal records ++ (codes " turns " ++ decimal turns))))

abbrev pub result_part : ℕ → ℕ → ℤ → List ℕ
result_part ended objects sum =
    codes " ended " ++ (decimal ended ++ (codes " objects " ++ (decimal objects ++ (codes " sum " ++ (signed_decimal sum ++ codes "\n")))))

abbrev pub line_of : ℕ → ℕ → ℕ → ℕ → ℕ → ℤ → List ℕ
line_of count records turns ended objects sum = log_part count records turns ++ result_part ended objects sum

-- of so many events and ordered records, and of this report
abbrev pub summary_line : ℕ → ℕ → Report → List ℕ
summary_line count records r =
    line_of count records (length r.turns) (length r.results) (length r.objects) (sum_of r.objects)

-- that of the run of a plan with no nemeses
abbrev pub summary_of : Plan → List ℕ
summary_of plan =
    let m = (run_plan plan).machine in
    summary_line (length (events plan.items)) (length (log m)) (report plan.program.functions m)

-- `make N`: the summary of the run of so many transfers; and `make N --plan`: their plan
abbrev pub summary_due : ℕ → Due
summary_due n = due Done (summary_of (transfers n))

abbrev pub asked_due : ℕ × Bool → Due
asked_due (n, true) = make_due n
asked_due (n, false) = summary_due n
