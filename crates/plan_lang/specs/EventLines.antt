-- The events of a plan, line by line.
use Rattle.std.specs.Prelude.{ℕ, ◌+◌, ◌*◌, List, [], ◌∷◌, ◌++◌, length, Option, Some, None, Result, Ok, Err, nat_le, if◌then◌else◌, bytes_eq, codes}
use Rattle.boki_types.specs.declared.event.Event.{Event}
use Rattle.boki_types.specs.declared.kind.Kind.{Kind}
use Rattle.boki_types.specs.declared.kind.Kind.TheVariants as kind
use Rattle.boki_types.specs.declared.plan.Item.{Item}
use Rattle.boki_types.specs.declared.plan.Item.TheVariants.{One, Repeat}
use Rattle.boki_types.specs.declared.plan.Setup.{Setup}
use Rattle.boki_types.specs.declared.program.Function.{Function}
use Rattle.line_text.specs.declared.checked.Checked.{Checked}
use Rattle.line_text.specs.declared.checked.Checked.TheVariants as r
use Rattle.line_text.specs.declared.token.Keyword.TheVariants as k
use Rattle.line_text.specs.declared.token.Token.{Token}
use Rattle.line_text.specs.declared.token.Token.TheVariants as t
use Rattle.line_text.specs.Readers.{◌>>=◌, if_at_end}
use Rattle.plan_lang.specs.declared.bodies.RepeatBlock.{RepeatBlock}
use Rattle.plan_lang.specs.declared.bodies.PlanBody.{PlanBody}
use Rattle.plan_lang.specs.declared.events.Entry.{Entry}
use Rattle.line_text.specs.Fields.{number_at}
use Rattle.plan_lang.specs.Events.{entry_of_word}
use Rattle.line_text.specs.Faults.{first_fault}

-- how often, behind the word
abbrev pub times_of : List Token → Option (Checked ℕ)
times_of ts = do
  n ← number_at 1 200000 ts
  if_at_end n.1 n.0

-- A repeat opens, where none is open.
abbrev pub body_with_open_repeat : PlanBody → Option RepeatBlock → Checked ℕ → Result PlanBody Kind
body_with_open_repeat b (Some block) x = Err kind.Syntax
body_with_open_repeat b None r.OutOfRange = Err kind.Range
body_with_open_repeat b None r.TooDeep = Err kind.Deep
body_with_open_repeat b None (r.Valid n) = Ok (record b { block = Some (record { times = n; events = [] }) })

abbrev pub body_with_repeat : PlanBody → Option (Checked ℕ) → Result PlanBody Kind
body_with_repeat b None = Err kind.Syntax
body_with_repeat b (Some x) = body_with_open_repeat b b.block x

-- a body with no repeat open
abbrev pub body_outside_repeat : List Item → ℕ → Option (ℕ × Kind) → PlanBody
body_outside_repeat items count fault = record { items = items; count = count; block = None; fault = fault }

-- a count of events within the limit
abbrev pub within_event_limit : ℕ → Option ℕ
within_event_limit n = if nat_le n 200000 then Some n else None

-- A repeat closes, where one is open that has an event. Its events count as often as they are done.
abbrev pub body_with_counted : PlanBody → RepeatBlock → Option ℕ → Result PlanBody Kind
body_with_counted b block None = Err kind.Events
body_with_counted b block (Some n) =
    Ok (record { items = b.items ++ Repeat block.times block.events ∷ []; count = n; block = None; fault = b.fault })

abbrev pub body_with_closed : PlanBody → RepeatBlock → List Event → Result PlanBody Kind
body_with_closed b block [] = Err kind.Syntax
body_with_closed b block (x ∷ xs) = body_with_counted b block (within_event_limit (b.count + block.times * length block.events))

abbrev pub body_with_end : PlanBody → Option RepeatBlock → List Token → Result PlanBody Kind
body_with_end b (Some block) [] = body_with_closed b block block.events
body_with_end b (Some block) (x ∷ ts) = Err kind.Syntax
body_with_end b None ts = Err kind.Syntax

-- an event in the repeat that is open
abbrev pub repeat_with_event : RepeatBlock → Event → RepeatBlock
repeat_with_event block x = record { times = block.times; events = block.events ++ x ∷ [] }

abbrev pub body_with_event : ℕ → PlanBody → Entry → Option ℕ → Result PlanBody Kind
body_with_event n b x None = Err kind.Events
body_with_event n b x (Some count) =
    Ok (record { items = b.items ++ One x.event ∷ []; count = count; block = None; fault = first_fault b.fault n x.fault })

abbrev pub body_with_entry : ℕ → PlanBody → Option RepeatBlock → Entry → Result PlanBody Kind
body_with_entry n b (Some block) x =
    Ok (record { items = b.items; count = b.count; block = Some (repeat_with_event block x.event); fault = first_fault b.fault n x.fault })
body_with_entry n b None x = body_with_event n b x (within_event_limit (b.count + 1))

abbrev pub body_with_found : ℕ → PlanBody → Option (Checked Entry) → Result PlanBody Kind
body_with_found n b None = Err kind.Syntax
body_with_found n b (Some r.OutOfRange) = Err kind.Range
body_with_found n b (Some r.TooDeep) = Err kind.Deep
body_with_found n b (Some (r.Valid x)) = body_with_entry n b b.block x

-- behind a word: a repeat, or an event
abbrev pub word_line : Setup → List Function → ℕ → List ℕ → List Token → PlanBody → Result PlanBody Kind
word_line setup fs n x ts b = if bytes_eq x (codes "repeat") then body_with_repeat b (times_of ts) else body_with_found n b (entry_of_word setup fs x ts)

-- a line behind the head, of these tokens and with this number
abbrev pub body_line : Setup → List Function → ℕ → List Token → PlanBody → Result PlanBody Kind
body_line setup fs n (t.Name x ∷ ts) b = word_line setup fs n x ts b
body_line setup fs n (t.Keyword k.End ∷ ts) b = body_with_end b b.block ts
body_line setup fs n _ b = Err kind.Syntax

-- no event yet
abbrev pub empty_body : PlanBody
empty_body = record { items = []; count = 0; block = None; fault = None }
