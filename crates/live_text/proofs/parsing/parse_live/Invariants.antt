use Rattle.std.proofs.Common.{◌≡◌, ◌+◌, ◌≤◌, length}
use Rattle.line_text.specs.Texts.{scan_lines}
use Rattle.live_text.specs.Reading.{live_line, empty_draft}
use Rattle.live_text.proofs.WorkerCounts.{IsFew}
use Rattle.live_text.proofs.parsing.parse_live.Given as goal

abbrev pub invariant-lines : goal.invariant-lines
invariant-lines l =
    (scan_lines live_line 65536 l.number l.rest l.draft ≡ scan_lines live_line 65536 1 l.bytes empty_draft)
    × (l.number + length l.rest ≤ 1 + length l.bytes)
    × IsFew l.draft.workers

abbrev pub decreases-lines : goal.decreases-lines
decreases-lines l = length l.rest
