use Rattle.make_call.proofs.Sums.{no_room}
use Rattle.make_call.proofs.make.make_top.Goals as goal

pub returns-in_default-clause-make : goal.returns-in_default-clause-make
returns-in_default-clause-make g c = no_room _ (g.K.Sink.held c.args.sink.now)
