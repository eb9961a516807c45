use Rattle.std.proofs.Common.{◌≤◌, drop}
use Rattle.live_text.specs.Outputs.{ops_of}
use Rattle.live_work.proofs.Working.{Going}
use Rattle.live_work.proofs.worker.do_lines.Given as goal

abbrev pub invariant-lines : goal.invariant-lines
invariant-lines g l = record {
  going : Going (ops_of l.number l.lines) (ops_of l.number (drop l.line-index l.lines)) l.answers.items l.fn.engine l.engine;
  counted : g.D.Door.refusals l.fn.door ≤ g.D.Door.refusals l.door;
}
