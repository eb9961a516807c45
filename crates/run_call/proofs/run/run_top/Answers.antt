use Rattle.run_call.specs.Words.{kept_of}
use Rattle.run_call.proofs.Ended.{laws_asked, no_run_asked}
use Rattle.run_call.proofs.run.run_top.Goals as goal

pub returns-in_default-clause-run : goal.returns-in_default-clause-run
returns-in_default-clause-run g c =
    no_run_asked _ (λ named. kept_of named _) (g.S.Source.left c.args.source.now) (g.K.Sink.held c.args.sink.now)

pub returns-in_default-clause-laws : goal.returns-in_default-clause-laws
returns-in_default-clause-laws g c = laws_asked _ (λ named. kept_of named _) (g.S.Source.left c.args.source.now)
