use Rattle.std.proofs.Common.{subst, [], ◌∷◌}
use Rattle.std.proofs.lemmas.Result.{err_from_is_err_and}
use Rattle.lb_base.specs.Devices.{AppendsPrefix}
use Rattle.lb_base.proofs.DeviceLemmas.{AppendsPrefix-none}
use Rattle.boki_types.specs.declared.line.Line.{Line}
use Rattle.boki_machine.specs.Machine.{apply_event}
use Rattle.run_with.specs.Runs.{Planned}
use Rattle.run_with.specs.Written.{text_of_lines}
use Rattle.run_loops.proofs.one.do_planned.Goals as goal

pub returns-in_err-told-clause-err : goal.returns-in_err-told-clause-err
returns-in_err-told-clause-err g c =
    let p = err_from_is_err_and c.from_residual-in_err-told.result c.from_residual-in_err-told.ensures.1 in
    let P : Line → Type 0 = λ l. AppendsPrefix (g.K.Sink.held c.args.sink.now) (g.K.Sink.held c.write_planned-told.new.sink) (text_of_lines (g.C.Cluster.line_text c.args.plan.now.program.functions) (Planned c.args.n l ∷ [])) in
    rw p.1 (λ m s. record { text = subst P (c.in_ok-line.ensures.line m s).0 c.in_err-told.ensures.err })

pub returns-in_err-line-clause-err : goal.returns-in_err-line-clause-err
returns-in_err-line-clause-err g c =
    let p = err_from_is_err_and c.from_residual.result c.from_residual.ensures.1 in
    rw p.1 (λ m s. record { text = AppendsPrefix-none (g.K.Sink.held c.args.sink.now) (text_of_lines (g.C.Cluster.line_text c.args.plan.now.program.functions) (Planned c.args.n (apply_event c.args.plan.now.setup c.args.plan.now.program.functions m c.args.event.now).line ∷ [])) })
