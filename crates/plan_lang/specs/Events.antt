-- The event of a line.
use Rattle.std.specs.Prelude.{ℕ, List, ◌∷◌, length, Option, Some, None, option_map, unwrap_or, if◌then◌else◌, bytes_eq, codes}
use Rattle.lb_base.specs.declared.value.Tag.{Tag}
use Rattle.lb_base.specs.declared.value.Value.{Value}
use Rattle.boki_types.specs.declared.event.Event.{Event}
use Rattle.boki_types.specs.declared.event.Event.TheVariants as v
use Rattle.boki_types.specs.declared.plan.Setup.{Setup}
use Rattle.boki_types.specs.declared.program.Function.{Function}
use Rattle.boki_types.specs.Finding.{find}
use Rattle.line_text.specs.declared.token.Token.{Token}
use Rattle.line_text.specs.declared.token.Token.TheVariants as t
use Rattle.line_text.specs.declared.checked.Checked.{Checked}
use Rattle.line_text.specs.declared.checked.Checked.TheVariants as r
use Rattle.line_text.specs.Readers.{◌>>=◌, Reader, if_at_end}
use Rattle.line_text.specs.Checks.{both_checked, map_checked}
use Rattle.script_lang.specs.Statements.{call_at}
use Rattle.script_lang.specs.Names.{call_fault}
use Rattle.plan_lang.specs.declared.verb.Verb.{Verb}
use Rattle.plan_lang.specs.declared.verb.Verb.TheVariants as w
use Rattle.plan_lang.specs.declared.events.Entry.{Entry}
use Rattle.plan_lang.specs.declared.events.EngineForm.{EngineForm}
use Rattle.plan_lang.specs.declared.events.EngineForm.TheVariants as e
use Rattle.plan_lang.specs.declared.events.AttemptForm.{AttemptForm}
use Rattle.plan_lang.specs.declared.events.AttemptForm.TheVariants as a
use Rattle.plan_lang.specs.declared.events.TagForm.{TagForm}
use Rattle.plan_lang.specs.declared.events.TagForm.TheVariants as g
use Rattle.line_text.specs.Fields.{number_at, u64_at, mode_at, short_text_at, path_at, sent_position_at, tag_at, tags_at}

-- the word of an event that calls no function
unfoldable pub verb_of : List ℕ → Option Verb
verb_of x =
    if bytes_eq x (codes "copy") then Some w.Copy
    else if bytes_eq x (codes "cut") then Some w.Cut else if bytes_eq x (codes "catch") then Some w.Catch
    else if bytes_eq x (codes "sync") then Some w.Sync else if bytes_eq x (codes "restart") then Some w.Restart
    else if bytes_eq x (codes "start") then Some w.Start else if bytes_eq x (codes "step") then Some w.Step
    else if bytes_eq x (codes "kill") then Some w.Kill else if bytes_eq x (codes "lose") then Some w.Lose
    else if bytes_eq x (codes "miss") then Some w.Miss else if bytes_eq x (codes "switch") then Some w.Switch
    else if bytes_eq x (codes "endswitch") then Some w.EndSwitch else if bytes_eq x (codes "trim") then Some w.Trim
    else if bytes_eq x (codes "sweep") then Some w.Sweep else if bytes_eq x (codes "append") then Some w.Append
    else if bytes_eq x (codes "cond") then Some w.Cond else if bytes_eq x (codes "next") then Some w.Next
    else if bytes_eq x (codes "prev") then Some w.Prev else if bytes_eq x (codes "tail") then Some w.Tail
    else if bytes_eq x (codes "trimtag") then Some w.TrimTag else if bytes_eq x (codes "settled") then Some w.Settled
    else if bytes_eq x (codes "setaux") then Some w.SetAux else if bytes_eq x (codes "getaux") then Some w.GetAux
    else if bytes_eq x (codes "seed") then Some w.Seed else None

abbrev pub make_engine_event : EngineForm → ℕ → Event
make_engine_event e.Catch n = v.Catch n
make_engine_event e.Restart n = v.Restart n
make_engine_event e.EndSwitch n = v.EndSwitch n
make_engine_event e.Trim n = v.Trim n
make_engine_event e.Sweep n = v.Sweep n

abbrev pub make_attempt_event : AttemptForm → ℕ → Event
make_attempt_event a.Step n = v.Step n
make_attempt_event a.Kill n = v.Kill n
make_attempt_event a.Lose n = v.Lose n
make_attempt_event a.Miss n = v.Miss n

abbrev pub make_tag_event : TagForm → ℕ → Tag → ℕ → Event
make_tag_event g.Next n tag m = v.Next n tag (record { 0 = m })
make_tag_event g.Prev n tag m = v.Prev n tag (record { 0 = m })
make_tag_event g.TrimTag n tag m = v.TrimTag n tag (record { 0 = m })

-- What stands behind the word. An engine, and an attempt:
abbrev pub engine_at : Setup → Reader ℕ
engine_at setup ts = number_at 1 setup.engines ts

abbrev pub attempt_at : Reader ℕ
attempt_at ts = number_at 1 4096 ts

abbrev pub request_at : Reader ℕ
request_at ts = number_at 1 1048575 ts

-- `E`
abbrev pub engine_event_of : (ℕ → Event) → Setup → List Token → Option (Checked Event)
engine_event_of make setup ts = do
  engine ← engine_at setup ts
  if_at_end engine.1 (map_checked make engine.0)

-- `A`
abbrev pub attempt_event_of : (ℕ → Event) → List Token → Option (Checked Event)
attempt_event_of make ts = do
  attempt ← attempt_at ts
  if_at_end attempt.1 (map_checked make attempt.0)

-- `E T N`
abbrev pub tag_event_of : (ℕ → Tag → ℕ → Event) → Setup → List Token → Option (Checked Event)
tag_event_of make setup ts = do
  engine ← engine_at setup ts
  tag ← tag_at engine.1
  n ← u64_at tag.1
  if_at_end n.1 (map_checked (λ p. make p.0.0 p.0.1 p.1) (both_checked (both_checked engine.0 tag.0) n.0))

-- `S R N`
abbrev pub copy_of : Setup → List Token → Option (Checked Event)
copy_of setup ts = do
  shard ← number_at 1 setup.shards ts
  replica ← number_at 2 setup.replicas shard.1
  n ← u64_at replica.1
  if_at_end n.1 (map_checked (λ p. v.Copy p.0.0 p.0.1 p.1) (both_checked (both_checked shard.0 replica.0) n.0))

-- `A P E`
abbrev pub start_of : Setup → List Token → Option (Checked Event)
start_of setup ts = do
  attempt ← attempt_at ts
  path ← path_at attempt.1
  engine ← engine_at setup path.1
  if_at_end engine.1 (map_checked (λ p. v.Start p.0.0 p.0.1 p.1) (both_checked (both_checked attempt.0 path.0) engine.0))

-- `E M`
abbrev pub switch_of : Setup → List Token → Option (Checked Event)
switch_of setup ts = do
  engine ← engine_at setup ts
  target ← mode_at engine.1
  if_at_end target.1 (map_checked (λ n. v.Switch n target.0) engine.0)

-- `E TAGS TEXT`
abbrev pub append_of : Setup → List Token → Option (Checked Event)
append_of setup ts = do
  engine ← engine_at setup ts
  tags ← tags_at engine.1
  text ← short_text_at tags.1
  if_at_end text.1 (map_checked (λ p. v.Append p.0.0 p.0.1 p.1) (both_checked (both_checked engine.0 tags.0) text.0))

-- `E N TAGS TEXT`
abbrev pub cond_of : Setup → List Token → Option (Checked Event)
cond_of setup ts = do
  engine ← engine_at setup ts
  place ← u64_at engine.1
  tags ← tags_at place.1
  text ← short_text_at tags.1
  if_at_end text.1 (map_checked (λ p. v.Cond p.0.0 p.0.1 p.1.0 p.1.1) (both_checked (both_checked engine.0 place.0) (both_checked tags.0 text.0)))

-- `E T`
abbrev pub tail_of : Setup → List Token → Option (Checked Event)
tail_of setup ts = do
  engine ← engine_at setup ts
  tag ← tag_at engine.1
  if_at_end tag.1 (map_checked (λ p. v.Tail p.0 p.1) (both_checked engine.0 tag.0))

-- `E S.L`
abbrev pub settled_of : Setup → List Token → Option (Checked Event)
settled_of setup ts = do
  engine ← engine_at setup ts
  sent ← sent_position_at setup.shards engine.1
  if_at_end sent.1 (map_checked (λ p. v.Settled p.0 p.1.0 p.1.1) (both_checked engine.0 sent.0))

-- `E N TEXT`
abbrev pub set_aux_of : Setup → List Token → Option (Checked Event)
set_aux_of setup ts = do
  engine ← engine_at setup ts
  seq ← u64_at engine.1
  text ← short_text_at seq.1
  if_at_end text.1 (map_checked (λ p. v.SetAux p.0.0 (record { 0 = p.0.1 }) p.1) (both_checked (both_checked engine.0 seq.0) text.0))

-- `E N`
abbrev pub get_aux_of : Setup → List Token → Option (Checked Event)
get_aux_of setup ts = do
  engine ← engine_at setup ts
  seq ← u64_at engine.1
  if_at_end seq.1 (map_checked (λ p. v.GetAux p.0 (record { 0 = p.1 })) (both_checked engine.0 seq.0))

-- `N`
abbrev pub seed_of : List Token → Option (Checked Event)
seed_of ts = do
  n ← u64_at ts
  if_at_end n.1 (map_checked (λ k. v.Seed k) n.0)

-- The number of a function, and 0 where there is none.
abbrev pub function_number_of : List Function → List ℕ → ℕ
function_number_of fs name = unwrap_or (find name fs) 0

-- An event with what the second pass finds wrong with its call: all functions stand above the events.
abbrev pub submit_entry : List Function → (ℕ × ℕ) × (List ℕ × List Value) → Entry
submit_entry fs p = record {
  event = v.Submit p.0.0 p.0.1 (function_number_of fs p.1.0) p.1.1;
  fault = call_fault fs p.1.0 (length p.1.1);
}

-- `E Q F(VALUE, ..)`
abbrev pub submit_of : Setup → List Function → List Token → Option (Checked Entry)
submit_of setup fs ts = do
  engine ← engine_at setup ts
  request ← request_at engine.1
  call ← call_at request.1
  if_at_end call.1 (map_checked (submit_entry fs) (both_checked (both_checked engine.0 request.0) call.0))

-- an event that calls no function
abbrev pub entry_without_call : Event → Entry
entry_without_call x = record { event = x; fault = None }

abbrev pub entry_of_event : Option (Checked Event) → Option (Checked Entry)
entry_of_event found = option_map (map_checked entry_without_call) found

-- an event without a call
abbrev pub event_of_verb : Setup → Verb → List Token → Option (Checked Event)
event_of_verb setup w.Copy ts = copy_of setup ts
event_of_verb setup w.Cut ts = if_at_end ts (r.Valid v.Cut)
event_of_verb setup w.Catch ts = engine_event_of (make_engine_event e.Catch) setup ts
event_of_verb setup w.Sync ts = if_at_end ts (r.Valid v.Sync)
event_of_verb setup w.Restart ts = engine_event_of (make_engine_event e.Restart) setup ts
event_of_verb setup w.Start ts = start_of setup ts
event_of_verb setup w.Step ts = attempt_event_of (make_attempt_event a.Step) ts
event_of_verb setup w.Kill ts = attempt_event_of (make_attempt_event a.Kill) ts
event_of_verb setup w.Lose ts = attempt_event_of (make_attempt_event a.Lose) ts
event_of_verb setup w.Miss ts = attempt_event_of (make_attempt_event a.Miss) ts
event_of_verb setup w.Switch ts = switch_of setup ts
event_of_verb setup w.EndSwitch ts = engine_event_of (make_engine_event e.EndSwitch) setup ts
event_of_verb setup w.Trim ts = engine_event_of (make_engine_event e.Trim) setup ts
event_of_verb setup w.Sweep ts = engine_event_of (make_engine_event e.Sweep) setup ts
event_of_verb setup w.Append ts = append_of setup ts
event_of_verb setup w.Cond ts = cond_of setup ts
event_of_verb setup w.Next ts = tag_event_of (make_tag_event g.Next) setup ts
event_of_verb setup w.Prev ts = tag_event_of (make_tag_event g.Prev) setup ts
event_of_verb setup w.Tail ts = tail_of setup ts
event_of_verb setup w.TrimTag ts = tag_event_of (make_tag_event g.TrimTag) setup ts
event_of_verb setup w.Settled ts = settled_of setup ts
event_of_verb setup w.SetAux ts = set_aux_of setup ts
event_of_verb setup w.GetAux ts = get_aux_of setup ts
event_of_verb setup w.Seed ts = seed_of ts

abbrev pub event_of_verb_if : Setup → Option Verb → List Token → Option (Checked Event)
event_of_verb_if setup None ts = None
event_of_verb_if setup (Some verb) ts = event_of_verb setup verb ts

abbrev pub entry_of_word : Setup → List Function → List ℕ → List Token → Option (Checked Entry)
entry_of_word setup fs x ts = if bytes_eq x (codes "submit") then submit_of setup fs ts else entry_of_event (event_of_verb_if setup (verb_of x) ts)

-- the event of a line with a setup and functions above it; None where its tokens are none
abbrev pub entry_of : Setup → List Function → List Token → Option (Checked Entry)
entry_of setup fs (t.Name x ∷ ts) = entry_of_word setup fs x ts
entry_of setup fs _ = None
