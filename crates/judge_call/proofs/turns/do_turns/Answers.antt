use Rattle.std.proofs.Common.{◌≡◌, [], ap, subst, reverse, arith}
use Rattle.std.proofs.lemmas.List.{nil_from_length}
use Rattle.judge_call.specs.Turns.{HaveRequests}
use Rattle.judge_call.proofs.Doing.{come_all, come_more, reversed_last, stops_here}
use Rattle.judge_call.proofs.turns.do_turns.Goals as goal

pub returns-in-Err-clause-err : goal.returns-in-Err-clause-err
returns-in-Err-clause-err c =
    let next = reversed_last c.turns.left.items c.pop.new.self.items (c.in-Some.line, c.in-Some.turn) c.in-Some.ensures.items in
    stops_here c.args.program.now.functions c.args.turns _ _ (c.in-Some.line, c.in-Some.turn) c.args.ideal.now c.turns.ideal c.in-Err.fault next c.turns.invariant.come c.in-Err.ensures.err

pub turns-preserved : goal.turns-preserved
turns-preserved c =
    let next = reversed_last c.turns.left.items c.pop.new.self.items (c.in-Some.line, c.in-Some.turn) c.in-Some.ensures.items in
    record {
      come = come_more c.args.program.now.functions c.args.turns _ _ (c.in-Some.line, c.in-Some.turn) c.args.ideal.now c.turns.ideal c.do_turn.new.ideal next c.turns.invariant.come c.in_default-do_turn.ensures.ok;
      requests = (subst HaveRequests next c.turns.invariant.requests).1;
    }

pub returns-clause-ok : goal.returns-clause-ok
returns-clause-ok c =
    let none : c.turns.left.items ≡ [] = nil_from_length c.turns.left.items (omega (arith, c.turns.left.ok, c.in_default.ensures.cases.0)) in
    come_all c.args.program.now.functions c.args.turns _ c.args.ideal.now c.turns.ideal (ap reverse none) c.turns.invariant.come
