-- Texts, line by line: the limits of a text, its lines, and the plan that it spells.
use Rattle.std.specs.Prelude.{◌≡◌, ℕ, ◌+◌, Bool, true, false, List, [], ◌∷◌, length, Option, Some, None, Result, Ok, Err, nat_lt, if◌then◌else◌, codes}
use Rattle.boki_types.specs.declared.kind.Kind.{Kind}
use Rattle.boki_types.specs.declared.kind.Kind.TheVariants as kind
use Rattle.boki_types.specs.declared.plan.Item.{Item}
use Rattle.boki_types.specs.declared.plan.Plan.{Plan}
use Rattle.line_text.specs.declared.token.Token.{Token}
use Rattle.script_lang.specs.Names.{name_fault, fault_or_else}
use Rattle.plan_lang.specs.declared.bodies.RepeatBlock.{RepeatBlock}
use Rattle.plan_lang.specs.declared.bodies.PlanBody.{PlanBody}
use Rattle.line_text.specs.declared.fault.TextFault.{TextFault}
use Rattle.plan_lang.specs.declared.heads.Head.{Head}
use Rattle.plan_lang.specs.declared.drafts.PlanDraft.{PlanDraft}
use Rattle.plan_lang.specs.EventLines.{body_line, empty_body}
use Rattle.plan_lang.specs.Heads.{head_line, empty_head, has_ended, objects_fault}
use Rattle.line_text.specs.Faults.{refused_at}
use Rattle.line_text.specs.Texts.{ReadsLine, scan_lines}

-- A plan: its head, and then its events.
abbrev pub with_head : PlanDraft → Result Head Kind → Result PlanDraft Kind
with_head d (Err k) = Err k
with_head d (Ok h) = Ok (record d { head = h })

abbrev pub with_body : PlanDraft → Result PlanBody Kind → Result PlanDraft Kind
with_body d (Err k) = Err k
with_body d (Ok b) = Ok (record d { body = b })

abbrev pub plan_part_line : ℕ → List Token → PlanDraft → Bool → Result PlanDraft Kind
plan_part_line n ts d false = with_head d (head_line (codes "events") n ts d.head)
plan_part_line n ts d true = with_body d (body_line d.head.setup d.head.draft.functions n ts d.body)

abbrev pub plan_line : ReadsLine PlanDraft
plan_line n ts d = plan_part_line n ts d (has_ended d.head.expected)

abbrev pub empty_plan_draft : PlanDraft
empty_plan_draft = record { head = empty_head; body = empty_body }

-- The second pass, where the first accepts all lines and the text doesn't stop too early: objects, functions, and then the
-- calls of what stands behind them.
abbrev pub head_fault : Head → Option (ℕ × Kind) → Option (ℕ × Kind)
head_fault h rest = fault_or_else (objects_fault [] h.objects h.lines 0) (fault_or_else (name_fault h.draft.functions h.draft.line_numbers) rest)

abbrev pub plan_of_parts : Head → List Item → Plan
plan_of_parts h items = record { setup = h.setup; objects = h.objects; program = record { functions = h.draft.functions }; items = items }

abbrev pub plan_or_fault : Head → List Item → Option (ℕ × Kind) → Result Plan TextFault
plan_or_fault h items None = Ok (plan_of_parts h items)
plan_or_fault h items (Some fault) = Err (refused_at fault.0 fault.1)

-- whether the text may stop: behind its head, and outside of a repeat
abbrev pub plan_if_whole : ℕ → Head → List Item → Option (ℕ × Kind) → Bool → Option RepeatBlock → Result Plan TextFault
plan_if_whole n h items fault true None = plan_or_fault h items (head_fault h fault)
plan_if_whole n h items fault true (Some block) = Err (refused_at n kind.End)
plan_if_whole n h items fault false block = Err (refused_at n kind.End)

abbrev pub plan_at_end : ℕ → PlanDraft → Result Plan TextFault
plan_at_end n d = plan_if_whole n d.head d.body.items d.body.fault (has_ended d.head.expected) d.body.block

abbrev pub plan_of_scan : Result (ℕ × PlanDraft) TextFault → Result Plan TextFault
plan_of_scan (Err fault) = Err fault
plan_of_scan (Ok p) = plan_at_end p.0 p.1

abbrev pub plan_of_lines : List ℕ → Result Plan TextFault
plan_of_lines text = plan_of_scan (scan_lines plan_line 65536 1 text empty_plan_draft)

-- the plan that a text spells; or the first line that is refused, and why
abbrev pub plan_of : List ℕ → Result Plan TextFault
plan_of text = if nat_lt 1048576 (length text) then Err (refused_at 0 kind.Length) else plan_of_lines text
