-- The JSON form of a report.
use Rattle.std.specs.Prelude.{ℕ, List, [], ◌∷◌, ◌++◌, map, codes}
use Rattle.std.specs.Cmp.Lexicographic.{slice_cmp}
use Rattle.std.specs.List.Sorted.{IsStrictlySortedBy}
use Rattle.std.specs.Ordering.{nat_cmp}
use Rattle.lb_base.specs.declared.value.Outcome.{Outcome}
use Rattle.lb_base.specs.declared.value.Outcome.TheVariants.{Good, Trap}
use Rattle.lb_base.specs.declared.value.Value.{Value}
use Rattle.lb_base.specs.declared.value.Value.TheVariants.{Int, Text, Nothing}
use Rattle.lb_base.specs.Print.{path_text, trap_text}
use Rattle.boki_types.specs.declared.program.Function.{Function}
use Rattle.boki_types.specs.declared.turn.Report.{Report}
use Rattle.boki_types.specs.declared.turn.Turn.{Turn}
use Rattle.plan_lang.specs.Printed.{bare_turn_text}
use Rattle.serde_json.specs.Data.{Data, null, number, string, array, object, Members, no_members, member}
use Rattle.serde_json.specs.Data.{put as with_member}
use Rattle.serde_json.specs.Find.{of_integer}
use Rattle.serde_json.specs.View.{items_of}
use Rattle.serde_json.specs.Written.{compact_text}

-- An integer is a number, a text a string, and `none` is null.
abbrev pub value_data : Value → Data
value_data (Int n) = number (of_integer n)
value_data (Text text) = string text
value_data Nothing = null

-- Values in their order.
abbrev pub values_data : List Value → Data
values_data values = array (items_of (map value_data values))

-- A result is an object with one member, which says by its name whether it is a value or a trap.
abbrev pub outcome_data : Outcome → Data
outcome_data (Good value) = object (member (codes "value") (value_data value) no_members)
outcome_data (Trap kind) = object (member (codes "trap") (string (trap_text kind)) no_members)

-- A turn, without its first word.
abbrev pub turn_data : List Function → Turn → Data
turn_data fs turn = string (bare_turn_text fs turn)

abbrev pub turns_data : List Function → List Turn → Data
turns_data fs turns = array (items_of (map (turn_data fs) turns))

-- Members with more put in, from the first. Each is put where its name stands in the order of bytes.
abbrev pub with_members : Members → List (List ℕ × Data) → Members
with_members members [] = members
with_members members (p ∷ ps) = with_members (with_member p.0 p.1 members) ps

-- The object of names and data.
abbrev pub object_with : List (List ℕ × Data) → Data
object_with ps = object (with_members no_members ps)

-- The names stand in the order of their bytes, each once.
abbrev pub member_names : Members → List (List ℕ)
member_names no_members = []
member_names (member name d members) = name ∷ member_names members

abbrev pub IsInOrder : Members → Type 0
IsInOrder members = IsStrictlySortedBy (slice_cmp nat_cmp) (member_names members)

-- What stands in the objects of a report: names with a value, names of queues with their values, front first,
-- and the texts of paths with a result.
abbrev pub value_member : List ℕ × Value → List ℕ × Data
value_member p = (p.0, value_data p.1)

abbrev pub queue_member : List ℕ × List Value → List ℕ × Data
queue_member p = (p.0, values_data p.1)

abbrev pub result_member : List ℕ × Outcome → List ℕ × Data
result_member p = (path_text p.0, outcome_data p.1)

abbrev pub report_data : List Function → Report → Data
report_data fs report =
    object
    (member (codes "objects") (object_with (map value_member report.objects))
    (member (codes "queues") (object_with (map queue_member report.queues))
    (member (codes "results") (object_with (map result_member report.results))
    (member (codes "store") (object_with (map value_member report.stores))
    (member (codes "turns") (turns_data fs report.turns) no_members)))))

-- The line of a report of a run of a program with these functions, with its line feed.
abbrev pub json_text : List Function → Report → List ℕ
json_text fs report = compact_text (report_data fs report) ++ codes "\n"
