use Rattle.cluster_run.proofs.AttemptEvents.{start_ignored, started}
use Rattle.cluster_run.proofs.attempts.start.Goals as goal

pub returns-then-contains_key-clause-done : goal.returns-then-contains_key-clause-done
returns-then-contains_key-clause-done c setup fs m valid stand =
    start_ignored fs m c.args.attempts.now.entries stand c.len-count.ensures.unique c.args.number setup c.args.path c.args.engine c.if-contains_key.ensures

pub returns-clause-done : goal.returns-clause-done
returns-clause-done c setup fs m valid stand =
    started fs m c.args.attempts.now.entries stand c.len-count.ensures.unique c.args.number setup c.args.path c.args.engine c.in_ok-new.field-0 c.insert.new.self.entries
    c.if-contains_key.ensures (c.in_ok-new.ensures.stands fs) c.in_ok-insert.ensures.entries
