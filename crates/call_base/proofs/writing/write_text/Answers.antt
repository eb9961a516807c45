use Rattle.std.proofs.Common.{arith}
use Rattle.call_base.proofs.DueLemmas.{taken_more, taken_front}
use Rattle.call_base.proofs.writing.write_text.Goals as goal

pub returns-in_err-write_line-clause-err : goal.returns-in_err-write_line-clause-err
returns-in_err-write_line-clause-err g c =
    taken_front c.from_residual.result _ (g.K.Sink.held c.lines.sink) (g.K.Sink.held c.write_line.new.sink) _ _ _ _ c.lines.invariant.0 c.cut_line.ensures.whole c.in_err-write_line.ensures.err

pub lines-preserved : goal.lines-preserved
lines-preserved g c = (
  taken_more _ (g.K.Sink.held c.lines.sink) (g.K.Sink.held c.write_line.new.sink) _ _ _ _ c.lines.invariant.0 c.cut_line.ensures.whole c.in_ok-write_line.ensures.ok,
  omega (arith, c.lines.invariant.1, c.write_line.ensures.later),
)
