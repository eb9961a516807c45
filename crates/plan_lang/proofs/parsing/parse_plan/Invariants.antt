use Rattle.std.proofs.Common.{◌≡◌, ◌+◌, ◌≤◌, length}
use Rattle.line_text.specs.Texts.{scan_lines}
use Rattle.plan_lang.specs.Texts.{plan_line, empty_plan_draft}
use Rattle.plan_lang.proofs.FunctionCountLemmas.{PlanFew}
use Rattle.plan_lang.proofs.parsing.parse_plan.Given as goal

abbrev pub invariant-lines : goal.invariant-lines
invariant-lines l =
    (scan_lines plan_line 65536 l.number l.rest l.draft ≡ scan_lines plan_line 65536 1 l.bytes empty_plan_draft)
    × (l.number + length l.rest ≤ 1 + length l.bytes)
    × PlanFew l.draft

abbrev pub decreases-lines : goal.decreases-lines
decreases-lines l = length l.rest
