use Rattle.std.proofs.Common.{List, ℕ, Some, sym, ap, ◌∙◌}
use Rattle.line_text.proofs.LineLemmas.{text_is, text_is_not}
use Rattle.line_text.proofs.lines.as_text.Goals as goal

pub returns-in-Ok : goal.returns-in-Ok
returns-in-Ok c = ap (λ (l : List ℕ). Some l) c.in-Ok.ensures.cases.0 ∙ sym (text_is c.args.line.now c.in-Ok.ensures.cases.1)

pub returns-in-Err : goal.returns-in-Err
returns-in-Err c = sym (text_is_not c.args.line.now c.in-Err.ensures.cases.0)
