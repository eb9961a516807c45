use Rattle.std.proofs.Common.{subst, [], ◌∷◌}
use Rattle.std.proofs.lemmas.Result.{err_from_is_err_and, on_err_weaker}
use Rattle.lb_base.specs.Devices.{AppendsPrefix}
use Rattle.lb_base.proofs.DeviceLemmas.{AppendsPrefix-none}
use Rattle.boki_types.specs.declared.line.Line.{Line}
use Rattle.boki_machine.specs.Machine.{apply_event}
use Rattle.run_with.specs.Runs.{Added}
use Rattle.run_with.specs.Written.{text_of_lines}
use Rattle.run_loops.proofs.one.do_valid.Goals as goal

pub returns-in_err-line-clause-err : goal.returns-in_err-line-clause-err
returns-in_err-line-clause-err g c =
    let p = err_from_is_err_and c.from_residual.result c.from_residual.ensures.1 in
    rw p.1 (λ m s. record { text = AppendsPrefix-none (g.K.Sink.held c.args.sink.now) (text_of_lines (g.C.Cluster.line_text c.args.plan.now.program.functions) (Added c.args.n c.args.number c.args.event.now (apply_event c.args.plan.now.setup c.args.plan.now.program.functions m c.args.event.now).line ∷ [])) })

pub returns-clause-err : goal.returns-clause-err
returns-clause-err g c =
    let P : Line → Type 0 = λ l. AppendsPrefix (g.K.Sink.held c.args.sink.now) (g.K.Sink.held c.write_added-told.new.sink) (text_of_lines (g.C.Cluster.line_text c.args.plan.now.program.functions) (Added c.args.n c.args.number c.args.event.now l ∷ [])) in
    on_err_weaker c.write_added-told.result (λ wrote m s. record { text = subst P (c.in_ok-line.ensures.line m s).0 wrote }) c.write_added-told.ensures.err
