-- The canonical text of plans and turns.
use Rattle.std.specs.Prelude.{ℕ, List, [], ◌∷◌, Option, Some, None, codes, flat_map}
use Rattle.std.specs.Fmt.{decimal}
use Rattle.lb_base.specs.declared.value.Mode.{Mode}
use Rattle.lb_base.specs.declared.value.Outcome.{Outcome}
use Rattle.lb_base.specs.declared.value.Tag.{Tag}
use Rattle.lb_base.specs.declared.value.Value.{Value}
use Rattle.lb_base.specs.Print.{value_text, mode_text, outcome_text, path_text}
use Rattle.lb_base.specs.Quoted.{quoted}
use Rattle.boki_types.specs.declared.event.Event.{Event}
use Rattle.boki_types.specs.declared.event.Event.TheVariants as v
use Rattle.boki_types.specs.declared.plan.Item.{Item}
use Rattle.boki_types.specs.declared.plan.Item.TheVariants.{One, Repeat}
use Rattle.boki_types.specs.declared.plan.Plan.{Plan}
use Rattle.boki_types.specs.declared.plan.Setup.{Setup}
use Rattle.boki_types.specs.declared.program.Function.{Function}
use Rattle.boki_types.specs.declared.turn.Report.{Report}
use Rattle.boki_types.specs.declared.turn.Turn.{Turn}
use Rattle.boki_types.specs.declared.turn.Turn.TheVariants as u
use Rattle.boki_types.specs.Finding.{function_at}
use Rattle.script_lang.specs.Printed.{◌&◌, comma_joined, function_text}

-- A call. A function that isn't there has no name.
abbrev pub name_or_none : Option Function → List ℕ
name_or_none None = []
name_or_none (Some f) = f.name

abbrev pub function_name_at : List Function → ℕ → List ℕ
function_name_at fs n = name_or_none (function_at n fs)

abbrev pub call_text : List Function → ℕ → List Value → List ℕ
call_text fs f args = function_name_at fs f & codes "(" & comma_joined value_text args & codes ")"

-- tags, with a comma between and no space
abbrev pub tag_text : Tag → List ℕ
tag_text tag = decimal tag.0

abbrev pub behind_tag : Tag → List ℕ
behind_tag tag = codes "," & tag_text tag

abbrev pub tags_text : List Tag → List ℕ
tags_text [] = []
tags_text (tag ∷ tags) = tag_text tag & flat_map behind_tag tags

-- a word with its space, and numbers
abbrev pub one_number_text : List ℕ → ℕ → List ℕ
one_number_text word n = word & decimal n

abbrev pub two_number_text : List ℕ → ℕ → ℕ → List ℕ
two_number_text word n m = word & decimal n & codes " " & decimal m

abbrev pub three_number_text : List ℕ → ℕ → ℕ → ℕ → List ℕ
three_number_text word n m k = word & decimal n & codes " " & decimal m & codes " " & decimal k

-- the events that have more than numbers
abbrev pub submit_text : List Function → ℕ → ℕ → ℕ → List Value → List ℕ
submit_text fs engine request f args =
    codes "submit " & decimal engine & codes " " & decimal request & codes " " & call_text fs f args

abbrev pub start_text : ℕ → List ℕ → ℕ → List ℕ
start_text attempt path engine =
    codes "start " & decimal attempt & codes " " & path_text path & codes " " & decimal engine

abbrev pub switch_text : ℕ → Mode → List ℕ
switch_text engine target = codes "switch " & decimal engine & codes " " & mode_text target

abbrev pub append_text : ℕ → List Tag → List ℕ → List ℕ
append_text engine tags text =
    codes "append " & decimal engine & codes " " & tags_text tags & codes " " & quoted text

abbrev pub cond_text : ℕ → ℕ → List Tag → List ℕ → List ℕ
cond_text engine place tags text =
    codes "cond " & decimal engine & codes " " & decimal place & codes " " & tags_text tags & codes " " & quoted text

abbrev pub settled_text : ℕ → ℕ → ℕ → List ℕ
settled_text engine shard local =
    codes "settled " & decimal engine & codes " " & decimal shard & codes "." & decimal local

abbrev pub set_aux_text : ℕ → ℕ → List ℕ → List ℕ
set_aux_text engine seq text = codes "setaux " & decimal engine & codes " " & decimal seq & codes " " & quoted text

-- an event of a plan with these functions, without what stands before it on its line
abbrev pub event_text : List Function → Event → List ℕ
event_text fs (v.Submit engine request f args) = submit_text fs engine request f args
event_text fs (v.Copy shard replica n) = three_number_text (codes "copy ") shard replica n
event_text fs v.Cut = codes "cut"
event_text fs (v.Catch engine) = one_number_text (codes "catch ") engine
event_text fs v.Sync = codes "sync"
event_text fs (v.Restart engine) = one_number_text (codes "restart ") engine
event_text fs (v.Start attempt path engine) = start_text attempt path engine
event_text fs (v.Step attempt) = one_number_text (codes "step ") attempt
event_text fs (v.Kill attempt) = one_number_text (codes "kill ") attempt
event_text fs (v.Lose attempt) = one_number_text (codes "lose ") attempt
event_text fs (v.Miss attempt) = one_number_text (codes "miss ") attempt
event_text fs (v.Switch engine target) = switch_text engine target
event_text fs (v.EndSwitch engine) = one_number_text (codes "endswitch ") engine
event_text fs (v.Trim engine) = one_number_text (codes "trim ") engine
event_text fs (v.Sweep engine) = one_number_text (codes "sweep ") engine
event_text fs (v.Append engine tags text) = append_text engine tags text
event_text fs (v.Cond engine place tags text) = cond_text engine place tags text
event_text fs (v.Next engine tag from) = three_number_text (codes "next ") engine tag.0 from.0
event_text fs (v.Prev engine tag upto) = three_number_text (codes "prev ") engine tag.0 upto.0
event_text fs (v.Tail engine tag) = two_number_text (codes "tail ") engine tag.0
event_text fs (v.TrimTag engine tag upto) = three_number_text (codes "trimtag ") engine tag.0 upto.0
event_text fs (v.Settled engine shard local) = settled_text engine shard local
event_text fs (v.SetAux engine seq text) = set_aux_text engine seq.0 text
event_text fs (v.GetAux engine seq) = two_number_text (codes "getaux ") engine seq.0
event_text fs (v.Seed n) = one_number_text (codes "seed ") n

-- the events of a repeat stand two spaces in
abbrev pub repeat_line : List Function → Event → List ℕ
repeat_line fs x = codes "  " & event_text fs x & codes "\n"

abbrev pub item_text : List Function → Item → List ℕ
item_text fs (One x) = event_text fs x & codes "\n"
item_text fs (Repeat n xs) = codes "repeat " & decimal n & codes "\n" & flat_map (repeat_line fs) xs & codes "end\n"

-- the fifth number of a setup, where there is one
abbrev pub newer_text : Option ℕ → List ℕ
newer_text None = []
newer_text (Some n) = codes " " & decimal n

abbrev pub setup_text : Setup → List ℕ
setup_text setup =
    codes "setup " & decimal setup.shards & codes " " & decimal setup.replicas & codes " " & decimal setup.engines
    & codes " " & mode_text setup.mode & newer_text setup.newer & codes "\n"

-- a line of a name and a value, behind a word
abbrev pub name_value_line : List ℕ → List ℕ × Value → List ℕ
name_value_line word p = word & quoted p.0 & codes " " & value_text p.1 & codes "\n"

-- all before the line that ends the head
abbrev pub head_text : Plan → List ℕ
head_text plan =
    setup_text plan.setup & flat_map (name_value_line (codes "object ")) plan.objects
    & flat_map function_text plan.program.functions

abbrev pub plan_text : Plan → List ℕ
plan_text plan =
    head_text plan & codes "events\n" & flat_map (item_text plan.program.functions) plan.items

-- A turn, without the word `turn` before it.
abbrev pub bare_turn_text : List Function → Turn → List ℕ
bare_turn_text fs (u.Submit request f args) = codes "submit " & decimal request & codes " " & call_text fs f args
bare_turn_text fs (u.Go path n) = codes "go " & path_text path & codes " " & decimal n
bare_turn_text fs (u.End path) = codes "end " & path_text path

-- A turn's line, without its line feed.
abbrev pub turn_text : List Function → Turn → List ℕ
turn_text fs x = codes "turn " & bare_turn_text fs x

abbrev pub turn_line : List Function → Turn → List ℕ
turn_line fs x = turn_text fs x & codes "\n"

-- The lines of a report.
abbrev pub result_line : List ℕ × Outcome → List ℕ
result_line p = codes "result " & path_text p.0 & codes " " & outcome_text p.1 & codes "\n"

abbrev pub queue_line : List ℕ × List Value → List ℕ
queue_line p = codes "queue " & quoted p.0 & codes " [" & comma_joined value_text p.1 & codes "]\n"

abbrev pub report_text : List Function → Report → List ℕ
report_text fs report =
    codes "report\n" & flat_map (turn_line fs) report.turns & flat_map result_line report.results
    & flat_map (name_value_line (codes "object ")) report.objects & flat_map queue_line report.queues
    & flat_map (name_value_line (codes "store ")) report.stores & codes "end\n"
