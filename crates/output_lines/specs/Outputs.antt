-- The text of a run with nemeses, line by line.
use Rattle.std.specs.Prelude.{ℕ, List, codes}
use Rattle.std.specs.Fmt.{decimal}
use Rattle.boki_types.specs.declared.program.Function.{Function}
use Rattle.script_lang.specs.Printed.{◌&◌}
use Rattle.plan_lang.specs.Printed.{event_text}
use Rattle.run_lines.specs.Lines.{answer_text}
use Rattle.run_with.specs.Runs.{Output, Planned, Added, Ignored}

-- what is written of an event that a nemesis gave and the plan can't have
abbrev pub ignored_text : ℕ → ℕ → List ℕ
ignored_text n i = decimal n & codes "+" & decimal i & codes " ignored\n"

-- A line of a run of a program with these functions, with its line feed: `N LINE` of the plan's event with that number,
-- `N+I EVENT: LINE` of an event that the nemesis with the place I gave behind it, and `N+I ignored` where the event that it
-- gave is none that the plan can have.
abbrev pub output_text : List Function → Output → List ℕ
output_text fs (Planned n line) = decimal n & codes " " & answer_text fs line & codes "\n"
output_text fs (Added n i event line) =
    decimal n & codes "+" & decimal i & codes " " & event_text fs event & codes ": " & answer_text fs line & codes "\n"
output_text fs (Ignored n i) = ignored_text n i
