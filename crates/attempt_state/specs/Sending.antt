-- What is sent for what a script asks, and the line that tells it.
use Rattle.std.specs.Prelude.{ℕ, List, Option}
use Rattle.lb_base.specs.declared.value.Value.{Value}
use Rattle.boki_types.specs.declared.line.StepLine.{StepLine}
use Rattle.boki_types.specs.declared.line.StepLine.TheVariants as line
use Rattle.boki_types.specs.declared.log.Sent.{Sent}
use Rattle.boki_types.specs.declared.operation.Op.TheVariants as o
use Rattle.boki_types.specs.declared.operation.Ask.{Ask}
use Rattle.boki_types.specs.declared.operation.Ask.TheVariants as k
use Rattle.boki_model.specs.Bodies.{child}
use Rattle.machine_laws.specs.Children.{HasPath}

-- a child that is asked for has a path
abbrev pub AskHasPath : List ℕ → Ask → Type 0
AskHasPath path (k.Op op) = HasPath path op
AskHasPath path (k.Done outcome) = Unit {0}

-- the line of a record that is sent for what is asked, at this place; of a write with the value that stands in the record
abbrev pub line_of_ask : List ℕ → Option Value → Sent → Ask → StepLine
line_of_ask path here at (k.Op (o.Read key)) = line.SendRead at key
line_of_ask path here at (k.Op (o.Write key value)) = line.SendWrite at key here
line_of_ask path here at (k.Op (o.Spawn ordinal f args)) = line.SendSpawn at (child path ordinal) f args
line_of_ask path here at (k.Op (o.Join ordinal)) = line.SendJoin at (child path ordinal)
line_of_ask path here at (k.Op (o.Push queue value)) = line.SendPush at queue value
line_of_ask path here at (k.Op (o.Pop queue)) = line.SendPop at queue
line_of_ask path here at (k.Op (o.Begin names)) = line.SendBegin at names
line_of_ask path here at (k.Op (o.Commit names writes)) = line.SendCommit at writes
line_of_ask path here at (k.Op (o.ReadGroup keys)) = line.SendReadAll at keys
line_of_ask path here at (k.Done outcome) = line.SendFinish at outcome

-- a line of a record that is sent, with another place
abbrev pub located_line : Sent → StepLine → StepLine
located_line at (line.SendRead s key) = line.SendRead at key
located_line at (line.SendWrite s key here) = line.SendWrite at key here
located_line at (line.SendSpawn s p f args) = line.SendSpawn at p f args
located_line at (line.SendJoin s p) = line.SendJoin at p
located_line at (line.SendPush s queue value) = line.SendPush at queue value
located_line at (line.SendPop s queue) = line.SendPop at queue
located_line at (line.SendBegin s names) = line.SendBegin at names
located_line at (line.SendCommit s writes) = line.SendCommit at writes
located_line at (line.SendReadAll s keys) = line.SendReadAll at keys
located_line at (line.SendFinish s outcome) = line.SendFinish at outcome
located_line at other = other
