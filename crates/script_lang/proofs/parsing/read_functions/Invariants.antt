use Rattle.std.proofs.Common.{◌≡◌, ◌+◌, ◌≤◌, length}
use Rattle.std.specs.Str.{IsUtf8}
use Rattle.script_lang.specs.Texts.{scan_functions}
use Rattle.script_lang.specs.Functions.{empty_draft}
use Rattle.script_lang.proofs.parsing.read_functions.Given as goal

abbrev pub invariant-lines : goal.invariant-lines
invariant-lines l =
    (scan_functions l.number l.rest l.draft ≡ scan_functions l.first l.text empty_draft)
    × (l.number + length l.rest ≤ l.first + length l.text)
    × IsUtf8 l.rest

abbrev pub decreases-lines : goal.decreases-lines
decreases-lines l = length l.rest
