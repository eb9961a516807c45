use Rattle.std.proofs.Common.{Some, sym, ap, ◌∙◌}
use Rattle.std.proofs.lemmas.Result.{err_from_is_err_and}
use Rattle.boki_types.specs.declared.operation.Ask.{Ask}
use Rattle.boki_machine.specs.Ideal.{perform}
use Rattle.ideal_run.specs.Kept.{maps_of}
use Rattle.ideal_run.proofs.Steps.{one_is, own, acted, refused, still_known}
use Rattle.ideal_run.proofs.state.State.step.Goals as goal

pub returns-in_default-clause-illegal : goal.returns-in_default-clause-illegal
returns-in_default-clause-illegal c = λ _ m stands.
    let fs = c.args.program.now.functions in
    let p = c.args.path in
    one_is fs p c.args.running.now (maps_of c.args.self.now) m stands
    ∙ ap (λ (x : Ask). perform p (own fs p c.args.running.now (maps_of c.args.self.now) m stands).0 m (Some x)) (sym c.ask.ensures.same ∙ c.in_default.is)

pub returns-in_err-acted-clause-illegal : goal.returns-in_err-acted-clause-illegal
returns-in_err-acted-clause-illegal c = let told = err_from_is_err_and c.from_residual.result c.from_residual.ensures.1 in rw (told.1, told.2) (λ is m stands.
    let fs = c.args.program.now.functions in
    let p = c.args.path in
    let asks = sym c.ask.ensures.same ∙ c.in-Op.is in
    one_is fs p c.args.running.now (maps_of c.args.self.now) m stands
    ∙ ap (λ (x : Ask). perform p (own fs p c.args.running.now (maps_of c.args.self.now) m stands).0 m (Some x)) asks
    ∙ refused fs p c.args.running.now (maps_of c.args.self.now) m stands c.in-Op.operation asks (c.in_err-acted.ensures.illegal is))

pub returns-clause-ok : goal.returns-clause-ok
returns-clause-ok c = λ m stands.
    let fs = c.args.program.now.functions in
    let p = c.args.path in
    let r = c.args.running.now in
    let asks = sym c.ask.ensures.same ∙ c.in-Op.is in
    let it = own fs p r (maps_of c.args.self.now) m stands in
    let new = c.in_ok-give.ensures.ok it.0.function it.0.args _ it.0.answers it.2.frame in
    let done = acted fs p r (maps_of c.args.self.now) m stands c.give.new.self c.in_ok-acted.acted.begun c.in-Op.operation c.in_ok-acted.acted.answer _ c.in_ok-acted.ensures.ok new in
    record { state = done.0; is = one_is fs p r (maps_of c.args.self.now) m stands ∙ ap (λ (x : Ask). perform p it.0 m (Some x)) asks ∙ done.1; stands = done.2 }

pub returns-clause-known : goal.returns-clause-known
returns-clause-known c =
    still_known c.args.program.now.functions c.args.path c.in-Op.operation c.args.running.now.begun c.in_ok-acted.acted.begun (maps_of c.args.self.now) (maps_of c.perform.new.self) c.in_ok-acted.acted.answer c.in_ok-acted.ensures.ok
