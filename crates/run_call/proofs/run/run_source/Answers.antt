use Rattle.std.proofs.Common.{List, subst}
use Rattle.std.specs.Prelude.{IfSome}
use Rattle.nemesis_types.specs.Kept.{NumberedNemesis}
use Rattle.call_base.specs.Due.{Meets}
use Rattle.run_call.specs.Runs.{run_due}
use Rattle.run_call.proofs.Ended.{exact_run, laws_of, no_run}
use Rattle.run_call.proofs.run.run_source.Goals as goal

pub returns-then-not-is_handed-clause-laws : goal.returns-then-not-is_handed-clause-laws
returns-then-not-is_handed-clause-laws g c = laws_of _ (g.S.Source.left c.args.source.now)

pub returns-in-Ok-clause-exactly_once : goal.returns-in-Ok-clause-exactly_once
returns-in-Ok-clause-exactly_once g c = λ e.
    let old = g.K.Sink.held c.args.sink.now in
    let new = g.K.Sink.held c.run_kept.new.sink in
    let left = g.S.Source.left c.args.source.now in
    exact_run c.run_kept.result c.args.json _ left old new e
    (subst (λ (kept : List NumberedNemesis). IfSome left (λ text. Meets c.run_kept.result (run_due c.args.json kept text) old new)) c.in-Ok.ensures c.run_kept.ensures.run)

pub returns-in-Ok-clause-laws : goal.returns-in-Ok-clause-laws
returns-in-Ok-clause-laws g c = laws_of _ (g.S.Source.left c.args.source.now)

pub returns-in-Err-clause-run : goal.returns-in-Err-clause-run
returns-in-Err-clause-run g c = λ h. (λ e. cc, no_run c.args.json _ (g.S.Source.left c.args.source.now) (g.K.Sink.held c.args.sink.now))

pub returns-in-Err-clause-laws : goal.returns-in-Err-clause-laws
returns-in-Err-clause-laws g c = laws_of _ (g.S.Source.left c.args.source.now)
