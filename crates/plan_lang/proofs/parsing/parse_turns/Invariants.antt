use Rattle.std.proofs.Common.{◌≡◌, ◌+◌, ◌≤◌, length}
use Rattle.line_text.specs.Texts.{scan_lines}
use Rattle.plan_lang.specs.Turns.{turn_draft_line, empty_turn_draft}
use Rattle.plan_lang.proofs.FunctionCountLemmas.{TurnsFew}
use Rattle.plan_lang.proofs.parsing.parse_turns.Given as goal

abbrev pub invariant-lines : goal.invariant-lines
invariant-lines l =
    (scan_lines turn_draft_line 300000 l.number l.rest l.draft ≡ scan_lines turn_draft_line 300000 1 l.bytes empty_turn_draft)
    × (l.number + length l.rest ≤ 1 + length l.bytes)
    × TurnsFew l.draft

abbrev pub decreases-lines : goal.decreases-lines
decreases-lines l = length l.rest
