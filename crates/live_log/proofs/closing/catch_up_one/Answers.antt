use Rattle.live_log.proofs.ClosedList.{caught_one}
use Rattle.live_log.proofs.closing.catch_up_one.Goals as goal

pub returns-in-Ok-clause-caught : goal.returns-in-Ok-clause-caught
returns-in-Ok-clause-caught g c ok =
    let e = c.in-Ok.ensures in
    caught_one c.args.engine.now c.learn.new.self c.catch_up.new.self c.args.sequencer.now c.learn.ensures.same c.learn.ensures.learned.1 e.same e.grows e.ok.2 e.ok.1 e.ok.3
