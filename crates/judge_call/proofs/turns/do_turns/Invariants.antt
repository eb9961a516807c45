use Rattle.std.proofs.Common.{length, reverse}
use Rattle.judge_call.specs.Turns.{HaveRequests}
use Rattle.judge_call.proofs.Doing.{Come}
use Rattle.judge_call.proofs.turns.do_turns.Given as goal

abbrev pub invariant-turns : goal.invariant-turns
invariant-turns l = record {
  come : Come l.program.functions l.fn.turns (reverse l.left.items) l.initial.ideal l.ideal;
  requests : HaveRequests (reverse l.left.items);
}

abbrev pub decreases-turns : goal.decreases-turns
decreases-turns l = length l.left.items
