use Rattle.std.proofs.Common.{◌≡◌, ◌++◌, drop}
use Rattle.std.specs.String.{string_bytes}
use Rattle.live_text.specs.Printed.{answer_lines}
use Rattle.live_text.proofs.output.push_answers.Given as goal

abbrev pub invariant-answers : goal.invariant-answers
invariant-answers l = string_bytes l.out ++ answer_lines (drop l.answer-index l.answers) ≡ string_bytes l.fn.out ++ answer_lines l.answers
