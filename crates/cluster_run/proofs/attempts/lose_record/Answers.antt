use Rattle.std.proofs.Common.{true, false, ap}
use Rattle.cluster_run.proofs.AttemptEvents.{lose_said, lose_ignored}
use Rattle.cluster_run.proofs.attempts.lose_record.Goals as goal

pub returns-then-lose : goal.returns-then-lose
returns-then-lose c setup fs m valid stand =
    lose_said fs m c.args.attempts.now.entries stand c.get_mut.ensures.unique c.args.number setup c.lose.new.self (c.get_mut.follows.lender c.lose.new.self).entries c.in-Some.attempt.now true
    c.in-Some.ensures.value c.if-lose.ensures.answer (c.lose.ensures.after fs) (c.get_mut.follows.holds c.lose.new.self).0

pub returns-else-lose : goal.returns-else-lose
returns-else-lose c setup fs m valid stand =
    lose_said fs m c.args.attempts.now.entries stand c.get_mut.ensures.unique c.args.number setup c.lose.new.self (c.get_mut.follows.lender c.lose.new.self).entries c.in-Some.attempt.now false
    c.in-Some.ensures.value c.if-lose.ensures.answer (c.lose.ensures.after fs) (c.get_mut.follows.holds c.lose.new.self).0

pub returns-in-None : goal.returns-in-None
returns-in-None c setup fs m valid stand =
    lose_ignored fs m c.args.attempts.now.entries stand c.get_mut.ensures.unique c.args.number setup c.get_mut.follows.lender-at-none.entries
    c.in-None.ensures.value (ap (λ m. m.entries) c.get_mut.follows.holds-at-none)
