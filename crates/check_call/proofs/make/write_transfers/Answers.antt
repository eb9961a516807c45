use Rattle.std.proofs.Common.{subst}
use Rattle.boki_types.specs.declared.plan.Plan.{Plan}
use Rattle.call_base.specs.Due.{Meets}
use Rattle.check_call.specs.Plans.{printed}
use Rattle.check_call.proofs.make.write_transfers.Goals as goal

pub returns-in-Ok-clause-meets : goal.returns-in-Ok-clause-meets
returns-in-Ok-clause-meets g c =
    subst
    (λ (plan : Plan). Meets c.write_plan.result (printed plan) (g.K.Sink.held c.args.sink.now) (g.K.Sink.held c.write_plan.new.sink))
    c.in-Ok.ensures
    c.write_plan.ensures.meets
