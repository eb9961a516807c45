-- The events, in groups: each group is done by a function of its own.
use Rattle.std.specs.Prelude.{Bool, true, false}
use Rattle.boki_types.specs.declared.event.Event.{Event}
use Rattle.boki_types.specs.declared.event.Event.TheVariants as event

-- those of replicas, the metalog and the engines' positions
abbrev pub is_ordering : Event → Bool
is_ordering (event.Copy shard replica n) = true
is_ordering event.Cut = true
is_ordering (event.Catch engine) = true
is_ordering event.Sync = true
is_ordering _ = false

-- those that send a record of no attempt
abbrev pub is_sending : Event → Bool
is_sending (event.Submit engine request f args) = true
is_sending (event.Switch engine target) = true
is_sending (event.EndSwitch engine) = true
is_sending (event.Trim engine) = true
is_sending (event.Append engine tags text) = true
is_sending (event.Cond engine place tags text) = true
is_sending (event.TrimTag engine tag upto) = true
is_sending _ = false

-- those that read the log, and those of auxiliary data
abbrev pub is_reading : Event → Bool
is_reading (event.Next engine tag from) = true
is_reading (event.Prev engine tag upto) = true
is_reading (event.Tail engine tag) = true
is_reading (event.Settled engine shard local) = true
is_reading (event.SetAux engine seq text) = true
is_reading (event.GetAux engine seq) = true
is_reading _ = false

-- those of the attempts that there are
abbrev pub is_of_attempts : Event → Bool
is_of_attempts (event.Start attempt path engine) = true
is_of_attempts (event.Step attempt) = true
is_of_attempts (event.Kill attempt) = true
is_of_attempts (event.Lose attempt) = true
is_of_attempts (event.Miss attempt) = true
is_of_attempts (event.Restart engine) = true
is_of_attempts _ = false
