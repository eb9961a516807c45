-- The text of a plan's head with turns.
use Rattle.std.specs.Prelude.{ℕ, Bool, true, false, List, [], ◌∷◌, ◌++◌, length, Option, Some, None, Result, Ok, Err, nat_lt, if◌then◌else◌, bytes_eq, codes}
use Rattle.lb_base.specs.declared.value.Value.{Value}
use Rattle.boki_types.specs.declared.kind.Kind.{Kind}
use Rattle.boki_types.specs.declared.kind.Kind.TheVariants as kind
use Rattle.boki_types.specs.declared.program.Function.{Function}
use Rattle.boki_types.specs.declared.turn.Turn.{Turn}
use Rattle.boki_types.specs.declared.turn.Turn.TheVariants as u
use Rattle.boki_types.specs.declared.turn.TurnText.{TurnText}
use Rattle.line_text.specs.declared.checked.Checked.{Checked}
use Rattle.line_text.specs.declared.checked.Checked.TheVariants as r
use Rattle.line_text.specs.declared.token.Keyword.TheVariants as k
use Rattle.line_text.specs.declared.token.Token.{Token}
use Rattle.line_text.specs.declared.token.Token.TheVariants as t
use Rattle.script_lang.specs.Names.{call_fault}
use Rattle.line_text.specs.Readers.{◌>>=◌, if_at_end}
use Rattle.line_text.specs.Checks.{both_checked, map_checked}
use Rattle.script_lang.specs.Statements.{call_at}
use Rattle.plan_lang.specs.declared.drafts.TurnDraft.{TurnDraft}
use Rattle.line_text.specs.declared.fault.TextFault.{TextFault}
use Rattle.plan_lang.specs.declared.heads.Head.{Head}
use Rattle.plan_lang.specs.declared.turns.TurnEntry.{TurnEntry}
use Rattle.line_text.specs.Faults.{first_fault, refused_at}
use Rattle.plan_lang.specs.Events.{function_number_of, request_at}
use Rattle.line_text.specs.Fields.{number_at, path_at}
use Rattle.plan_lang.specs.Heads.{head_line, empty_head, has_ended}
use Rattle.line_text.specs.Texts.{ReadsLine, scan_lines}
use Rattle.plan_lang.specs.Texts.{head_fault, plan_of_parts}

-- `Q F(VALUE, ..)`, with what the second pass finds wrong with the call
abbrev pub submit_turn_entry : List Function → ℕ × (List ℕ × List Value) → TurnEntry
submit_turn_entry fs p = record {
  turn = u.Submit p.0 (function_number_of fs p.1.0) p.1.1;
  fault = call_fault fs p.1.0 (length p.1.1);
}

abbrev pub submit_turn_of : List Function → List Token → Option (Checked TurnEntry)
submit_turn_of fs ts = do
  request ← request_at ts
  call ← call_at request.1
  if_at_end call.1 (map_checked (submit_turn_entry fs) (both_checked request.0 call.0))

abbrev pub turn_without_call : Turn → TurnEntry
turn_without_call x = record { turn = x; fault = None }

-- `P N`
abbrev pub go_turn_of : List Token → Option (Checked TurnEntry)
go_turn_of ts = do
  path ← path_at ts
  n ← number_at 0 200000 path.1
  if_at_end n.1 (map_checked (λ p. turn_without_call (u.Go p.0 p.1)) (both_checked path.0 n.0))

-- `P`
abbrev pub end_turn_of : List Token → Option (Checked TurnEntry)
end_turn_of ts = do
  path ← path_at ts
  if_at_end path.1 (map_checked (λ p. turn_without_call (u.End p)) path.0)

-- behind the word `turn`
abbrev pub turn_of_word : List Function → List ℕ → List Token → Option (Checked TurnEntry)
turn_of_word fs x ts =
    if bytes_eq x (codes "submit") then submit_turn_of fs ts else if bytes_eq x (codes "go") then go_turn_of ts else None

abbrev pub turn_behind : List Function → List Token → Option (Checked TurnEntry)
turn_behind fs (t.Name x ∷ ts) = turn_of_word fs x ts
turn_behind fs (t.Keyword k.End ∷ ts) = end_turn_of ts
turn_behind fs _ = None

-- the turn of a line with functions above it; None where its tokens are none
abbrev pub turn_of : List Function → List Token → Option (Checked TurnEntry)
turn_of fs (t.Name x ∷ ts) = if bytes_eq x (codes "turn") then turn_behind fs ts else None
turn_of fs _ = None

abbrev pub with_turn : ℕ → TurnDraft → Option (Checked TurnEntry) → Result TurnDraft Kind
with_turn n d None = Err kind.Syntax
with_turn n d (Some r.OutOfRange) = Err kind.Range
with_turn n d (Some r.TooDeep) = Err kind.Deep
with_turn n d (Some (r.Valid x)) =
    Ok (record { head = d.head; turns = d.turns ++ (n, x.turn) ∷ []; fault = first_fault d.fault n x.fault })

abbrev pub with_turn_head : TurnDraft → Result Head Kind → Result TurnDraft Kind
with_turn_head d (Err k) = Err k
with_turn_head d (Ok h) = Ok (record d { head = h })

abbrev pub turn_part_line : ℕ → List Token → TurnDraft → Bool → Result TurnDraft Kind
turn_part_line n ts d false = with_turn_head d (head_line (codes "turns") n ts d.head)
turn_part_line n ts d true = with_turn n d (turn_of d.head.draft.functions ts)

abbrev pub turn_draft_line : ReadsLine TurnDraft
turn_draft_line n ts d = turn_part_line n ts d (has_ended d.head.expected)

abbrev pub empty_turn_draft : TurnDraft
empty_turn_draft = record { head = empty_head; turns = []; fault = None }

abbrev pub turns_or_fault : Head → List (ℕ × Turn) → Option (ℕ × Kind) → Result TurnText TextFault
turns_or_fault h turns None = Ok (record { plan = plan_of_parts h []; turns = turns })
turns_or_fault h turns (Some fault) = Err (refused_at fault.0 fault.1)

abbrev pub turns_if_whole : ℕ → TurnDraft → Bool → Result TurnText TextFault
turns_if_whole n d true = turns_or_fault d.head d.turns (head_fault d.head d.fault)
turns_if_whole n d false = Err (refused_at n kind.End)

abbrev pub turns_at_end : ℕ → TurnDraft → Result TurnText TextFault
turns_at_end n d = turns_if_whole n d (has_ended d.head.expected)

abbrev pub turns_of_scan : Result (ℕ × TurnDraft) TextFault → Result TurnText TextFault
turns_of_scan (Err fault) = Err fault
turns_of_scan (Ok p) = turns_at_end p.0 p.1

abbrev pub turns_of_lines : List ℕ → Result TurnText TextFault
turns_of_lines text = turns_of_scan (scan_lines turn_draft_line 300000 1 text empty_turn_draft)

-- the turns and the plan's head that a text spells; or the first line that is refused, and why
abbrev pub turns_of : List ℕ → Result TurnText TextFault
turns_of text = if nat_lt 16777216 (length text) then Err (refused_at 0 kind.Length) else turns_of_lines text
