-- What the types of an event's fields give: paths, and numbers and integers of 64 bits. Of a text, and of the number of a
-- function, nothing more is asked.
use Rattle.std.specs.Prelude.{◌&&◌, Bool, true}
use Rattle.std.specs.List.{list_all}
use Rattle.lb_base.specs.declared.value.Tag.{Tag}
use Rattle.lb_base.specs.declared.value.Value.{Value}
use Rattle.lb_base.specs.declared.value.Value.TheVariants.{Int, Text, Nothing}
use Rattle.lb_base.specs.Path.{is_path}
use Rattle.boki_types.specs.declared.event.Event.{Event}
use Rattle.boki_types.specs.declared.event.Event.TheVariants as v
use Rattle.boki_model.specs.Bodies.{is_i64}
use Rattle.boki_model.specs.Bodies.{is_u64}

abbrev pub is_typed_value : Value → Bool
is_typed_value (Int n) = is_i64 n
is_typed_value (Text t) = true
is_typed_value Nothing = true

abbrev pub is_typed_tag : Tag → Bool
is_typed_tag tag = is_u64 tag.0

-- an event that is a value of its type, whether a plan can have it or not
abbrev pub is_typed : Event → Bool
is_typed (v.Submit engine request f args) = is_u64 engine && is_u64 request && list_all is_typed_value args
is_typed (v.Copy shard replica n) = is_u64 shard && is_u64 replica && is_u64 n
is_typed v.Cut = true
is_typed (v.Catch engine) = is_u64 engine
is_typed v.Sync = true
is_typed (v.Restart engine) = is_u64 engine
is_typed (v.Start attempt path engine) = is_u64 attempt && is_path path && is_u64 engine
is_typed (v.Step attempt) = is_u64 attempt
is_typed (v.Kill attempt) = is_u64 attempt
is_typed (v.Lose attempt) = is_u64 attempt
is_typed (v.Miss attempt) = is_u64 attempt
is_typed (v.Switch engine target) = is_u64 engine
is_typed (v.EndSwitch engine) = is_u64 engine
is_typed (v.Trim engine) = is_u64 engine
is_typed (v.Sweep engine) = is_u64 engine
is_typed (v.Append engine tags text) = is_u64 engine && list_all is_typed_tag tags
is_typed (v.Cond engine place tags text) = is_u64 engine && is_u64 place && list_all is_typed_tag tags
is_typed (v.Next engine tag from) = is_u64 engine && is_typed_tag tag && is_u64 from.0
is_typed (v.Prev engine tag upto) = is_u64 engine && is_typed_tag tag && is_u64 upto.0
is_typed (v.Tail engine tag) = is_u64 engine && is_typed_tag tag
is_typed (v.TrimTag engine tag upto) = is_u64 engine && is_typed_tag tag && is_u64 upto.0
is_typed (v.Settled engine shard local) = is_u64 engine && is_u64 shard && is_u64 local
is_typed (v.SetAux engine seq text) = is_u64 engine && is_u64 seq.0
is_typed (v.GetAux engine seq) = is_u64 engine && is_u64 seq.0
is_typed (v.Seed n) = is_u64 n
