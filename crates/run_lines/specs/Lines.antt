-- The lines of a run: what an event answers, and what a step of an attempt did, as they are printed, without a line feed.
use Rattle.std.specs.Prelude.{◌++◌, ◌≡◌, ℕ, Bool, true, false, List, [], ◌∷◌, Option, Some, None, codes}
use Rattle.std.specs.Fmt.{decimal}
use Rattle.std.specs.String.{string_bytes}
use Rattle.std.specs.declared.string.String.{String}
use Rattle.lb_base.specs.declared.value.Outcome.{Outcome}
use Rattle.lb_base.specs.declared.value.Seqnum.{Seqnum}
use Rattle.lb_base.specs.declared.value.Value.{Value}
use Rattle.lb_base.specs.Print.{value_text, mode_text, outcome_text, path_text}
use Rattle.lb_base.specs.Quoted.{quoted}
use Rattle.boki_types.specs.declared.line.Line.{Line}
use Rattle.boki_types.specs.declared.line.Line.TheVariants as l
use Rattle.boki_types.specs.declared.line.Miss.{Miss}
use Rattle.boki_types.specs.declared.line.Miss.TheVariants as m
use Rattle.boki_types.specs.declared.line.StepLine.{StepLine}
use Rattle.boki_types.specs.declared.line.StepLine.TheVariants as s
use Rattle.boki_types.specs.declared.log.Sent.{Sent}
use Rattle.boki_types.specs.declared.program.Function.{Function}
use Rattle.script_lang.specs.Printed.{◌&◌, each_behind_comma}
use Rattle.plan_lang.specs.Printed.{call_text}

-- a buffer holds this text behind what it held
abbrev pub Appends : {A : Type 0} → String A → List ℕ → String A → Type 0
Appends old text new = string_bytes new ≡ string_bytes old ++ text

-- where a sent record stands: its shard, a dot, and its number there
abbrev pub sent_text : Sent → List ℕ
sent_text at = decimal at.shard & codes "." & decimal at.local

-- `adopt S`, and what the record at S is
abbrev pub adopt_text : Seqnum → List ℕ → List ℕ
adopt_text seq what = codes "adopt " & decimal seq.0 & codes " " & what

-- `send S.L`, and what the record is
abbrev pub send_text : Sent → List ℕ → List ℕ
send_text at what = codes "send " & sent_text at & codes " " & what

-- a quoted name, a space, and its value
abbrev pub name_and_value_text : List ℕ → Value → List ℕ
name_and_value_text name value = quoted name & codes " " & value_text value

-- a quoted name and its value, with this text between them
abbrev pub name_value_text : List ℕ → List ℕ × Value → List ℕ
name_value_text between pair = quoted pair.0 & between & value_text pair.1

-- a word, and behind it what it names, with `, ` between; the word alone where it names nothing
abbrev pub word_and_list : {A : Type 0} → List ℕ → (A → List ℕ) → List A → List ℕ
word_and_list word print [] = word
word_and_list word print (x ∷ xs) = word & codes " " & print x & each_behind_comma print xs

-- names, as `begin N, N`
abbrev pub names_text : List ℕ → List (List ℕ) → List ℕ
names_text word names = word_and_list word quoted names

-- names with their values, as `commit N = V, N = V`, and as `read all K V, K V`
abbrev pub assigned_text : List ℕ → List (List ℕ × Value) → List ℕ
assigned_text word pairs = word_and_list word (name_value_text (codes " = ")) pairs

abbrev pub read_all_text : List ℕ → List (List ℕ × Value) → List ℕ
read_all_text word pairs = word_and_list word (name_value_text (codes " ")) pairs

-- the value that stands in the record of a write, where one does
abbrev pub inline_text : Option Value → List ℕ
inline_text None = []
inline_text (Some value) = codes " " & value_text value

-- whether a commit succeeded
abbrev pub success_text : Bool → List ℕ
success_text true = codes "1"
success_text false = codes "0"

-- what a sent spawn calls, and what an adopted join gives
abbrev pub spawn_text : List Function → List ℕ → ℕ → List Value → List ℕ
spawn_text fs child f args = codes "spawn " & path_text child & codes " " & call_text fs f args

abbrev pub join_text : List ℕ → Outcome → List ℕ
join_text child outcome = codes "join " & path_text child & codes " " & outcome_text outcome

-- a version that was put in: its object, value, cursor and number at that cursor
abbrev pub put_text : List ℕ → Value → Seqnum → ℕ → List ℕ
put_text key value cursor number =
    codes "put " & name_and_value_text key value & codes " at " & decimal cursor.0 & codes "." & decimal number

-- What one step of an attempt did, in a run of a program with these functions.
abbrev pub step_text : List Function → StepLine → List ℕ
step_text fs s.Idle = codes "idle"
step_text fs (s.Over outcome) = codes "over " & outcome_text outcome
step_text fs s.WaitsCall = codes "waits call"
step_text fs s.WaitsRecord = codes "waits record"
step_text fs (s.WaitsJoin child) = codes "waits join " & path_text child
step_text fs s.StoppedGone = codes "stopped gone"
step_text fs (s.AdoptInit seq mode) = adopt_text seq (codes "init " & mode_text mode)
step_text fs (s.AdoptRead seq key value) = adopt_text seq (codes "read " & name_and_value_text key value)
step_text fs (s.AdoptWrite seq key) = adopt_text seq (codes "write " & quoted key)
step_text fs (s.AdoptSpawn seq child) = adopt_text seq (codes "spawn " & path_text child)
step_text fs (s.AdoptJoin seq child outcome) = adopt_text seq (join_text child outcome)
step_text fs (s.AdoptPush seq queue) = adopt_text seq (codes "push " & quoted queue)
step_text fs (s.AdoptPop seq queue value) = adopt_text seq (codes "pop " & name_and_value_text queue value)
step_text fs (s.AdoptBegin seq pairs) = adopt_text seq (assigned_text (codes "begin") pairs)
step_text fs (s.AdoptCommit seq done) = adopt_text seq (codes "commit " & success_text done)
step_text fs (s.SendInit at) = send_text at (codes "init")
step_text fs (s.SendFinish at outcome) = send_text at (codes "finish " & outcome_text outcome)
step_text fs (s.SendRead at key) = send_text at (codes "read " & quoted key)
step_text fs (s.SendWrite at key value) = send_text at (codes "write " & quoted key & inline_text value)
step_text fs (s.SendJoin at child) = send_text at (codes "join " & path_text child)
step_text fs (s.SendSpawn at child f args) = send_text at (spawn_text fs child f args)
step_text fs (s.SendPush at queue value) = send_text at (codes "push " & name_and_value_text queue value)
step_text fs (s.SendPop at queue) = send_text at (codes "pop " & quoted queue)
step_text fs (s.SendBegin at names) = send_text at (names_text (codes "begin") names)
step_text fs (s.SendCommit at pairs) = send_text at (assigned_text (codes "commit") pairs)
step_text fs (s.Read key value) = codes "read " & name_and_value_text key value
step_text fs (s.Put key value cursor number) = put_text key value cursor number
step_text fs (s.Late key) = codes "late " & quoted key
step_text fs (s.Store key value) = codes "store " & name_and_value_text key value
step_text fs (s.ReadAll pairs) = read_all_text (codes "read all") pairs
step_text fs (s.SendReadAll at keys) = send_text at (names_text (codes "read all") keys)
step_text fs (s.AdoptReadAll seq pairs) = adopt_text seq (read_all_text (codes "read all") pairs)

-- what a lost store call did
abbrev pub miss_text : Miss → List ℕ
miss_text m.Store = codes "missed store"
miss_text m.Put = codes "missed put"
miss_text m.Fence = codes "missed fence"
miss_text m.Nothing = codes "missed nothing"
miss_text m.Idle = codes "idle"

-- What an event answers, in a run of a program with these functions.
abbrev pub answer_text : List Function → Line → List ℕ
answer_text fs (l.Sent at) = codes "sent " & sent_text at
answer_text fs (l.Copied n) = codes "copied " & decimal n
answer_text fs (l.Cut entry length) = codes "cut " & decimal entry & codes " " & decimal length
answer_text fs l.Same = codes "same"
answer_text fs (l.At position) = codes "at " & decimal position
answer_text fs (l.Sync length) = codes "sync " & decimal length
answer_text fs (l.Restarted n) = codes "restarted " & decimal n
answer_text fs l.Started = codes "started"
answer_text fs l.Ignored = codes "ignored"
answer_text fs (l.Step step) = step_text fs step
answer_text fs l.Killed = codes "killed"
answer_text fs l.Idle = codes "idle"
answer_text fs l.Lost = codes "lost"
answer_text fs l.Nothing = codes "nothing"
answer_text fs (l.Missed miss) = miss_text miss
answer_text fs l.Absent = codes "none"
answer_text fs (l.Unfinished path) = codes "unfinished " & path_text path
answer_text fs (l.Trimmed at floor) = codes "sent " & sent_text at & codes " trim " & decimal floor.0
answer_text fs (l.Floor floor held) = codes "floor " & decimal floor.0 & codes " held " & decimal held
answer_text fs (l.Found seq text) = decimal seq.0 & codes " " & quoted text
answer_text fs (l.Placed seq) = codes "placed " & decimal seq.0
answer_text fs (l.Taken seq) = codes "taken " & decimal seq.0
answer_text fs l.Waits = codes "waits"
answer_text fs l.Set = codes "set"
answer_text fs (l.Aux text) = quoted text
answer_text fs l.Seeded = codes "seeded"
