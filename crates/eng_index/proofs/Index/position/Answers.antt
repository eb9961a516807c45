use Rattle.std.proofs.Common.{length, ap, ◌∙◌}
use Rattle.eng_index.proofs.Added.{marks_count}
use Rattle.eng_index.proofs.Index.position.Goals as goal

pub returns-clause-log : goal.returns-clause-log
returns-clause-log c = λ log shows. c.len.ensures ∙ c.self.inside.marks.ok.0 ∙ ap (λ k. length k.marks) c.self.view_is ∙ marks_count log c.args.self.now shows

pub returns-clause-marks : goal.returns-clause-marks
returns-clause-marks c = c.len.ensures ∙ c.self.inside.marks.ok.0 ∙ ap (λ k. length k.marks) c.self.view_is
