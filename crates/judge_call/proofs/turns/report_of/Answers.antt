use Rattle.judge_call.proofs.Doing.{reported}
use Rattle.judge_call.proofs.turns.report_of.Goals as goal

pub returns : goal.returns
returns c =
    reported (record { plan = c.args.plan.now; turns = c.args.turns }) c.in-Ok.ideal c.do_turns.new.ideal c.in_ok-into_report.field-0 c.in-Ok.ensures c.in_ok-do_turns.ensures.ok c.in_ok-into_report.ensures
