use Rattle.ideal_run.proofs.Told.{report_is}
use Rattle.std.proofs.Common.{refl}
use Rattle.ideal_run.proofs.ideal.report_with.Goals as goal

pub returns : goal.returns
returns c = λ fs m ts stands.
    report_is fs m ts _ _ c.in_ok-results.ensures.order stands
    refl c.in_ok-results.ensures.results c.in_ok-all_objects.ensures c.in_ok-all_queues.ensures c.in_ok-all_stored.ensures
