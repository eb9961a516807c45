use Rattle.std.proofs.Common.{true, false, ap}
use Rattle.cluster_run.proofs.AttemptEvents.{kill_said, kill_ignored}
use Rattle.cluster_run.proofs.attempts.kill_attempt.Goals as goal

pub returns-then-kill : goal.returns-then-kill
returns-then-kill c setup fs m valid stand =
    kill_said fs m c.args.attempts.now.entries stand c.get_mut.ensures.unique c.args.number setup c.kill.new.self (c.get_mut.follows.lender c.kill.new.self).entries c.in-Some.attempt.now true
    c.in-Some.ensures.value c.if-kill.ensures.answer (c.kill.ensures.after fs) (c.get_mut.follows.holds c.kill.new.self).0

pub returns-else-kill : goal.returns-else-kill
returns-else-kill c setup fs m valid stand =
    kill_said fs m c.args.attempts.now.entries stand c.get_mut.ensures.unique c.args.number setup c.kill.new.self (c.get_mut.follows.lender c.kill.new.self).entries c.in-Some.attempt.now false
    c.in-Some.ensures.value c.if-kill.ensures.answer (c.kill.ensures.after fs) (c.get_mut.follows.holds c.kill.new.self).0

pub returns-in-None : goal.returns-in-None
returns-in-None c setup fs m valid stand =
    kill_ignored fs m c.args.attempts.now.entries stand c.get_mut.ensures.unique c.args.number setup c.get_mut.follows.lender-at-none.entries
    c.in-None.ensures.value (ap (λ m. m.entries) c.get_mut.follows.holds-at-none)
