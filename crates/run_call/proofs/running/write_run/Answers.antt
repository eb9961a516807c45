use Rattle.std.proofs.Common.{◌∙◌}
use Rattle.std.proofs.lemmas.Result.{err_from_is_err_and}
use Rattle.lb_base.proofs.DeviceLemmas.{AppendsPrefix-none}
use Rattle.output_lines.specs.Outputs.{output_text}
use Rattle.run_call.proofs.Written.{same_lines, both, both_front, lines_alone, lines_front}
use Rattle.run_call.proofs.running.write_run.Goals as goal

pub returns-in_err-cluster-clause-err : goal.returns-in_err-cluster-clause-err
returns-in_err-cluster-clause-err g c =
    let p = err_from_is_err_and c.from_residual.result c.from_residual.ensures.1 in
    rw p.1 (AppendsPrefix-none (g.K.Sink.held c.args.sink.now) _)

pub returns-in_err-run_events-clause-err : goal.returns-in_err-run_events-clause-err
returns-in_err-run_events-clause-err g c =
    let p = err_from_is_err_and c.from_residual-in_err-run_events.result c.from_residual-in_err-run_events.ensures.1 in
    let fs = c.args.plan.now.program.functions in
    rw p.1 (lines_front (g.K.Sink.held c.args.sink.now) (g.K.Sink.held c.run_events.new.sink) _ _ _
    (same_lines (g.C.Cluster.line_text fs) (output_text fs) _ (g.met.C.PlanCluster.has_output_text fs)) (c.in_err-run_events.ensures.err c.in_ok-cluster.ensures.initial).text)

pub returns-in_err-text-clause-err : goal.returns-in_err-text-clause-err
returns-in_err-text-clause-err g c =
    let p = err_from_is_err_and c.from_residual-in_err-text.result c.from_residual-in_err-text.ensures.1 in
    let fs = c.args.plan.now.program.functions in
    rw p.1 (lines_alone (g.K.Sink.held c.args.sink.now) (g.K.Sink.held c.run_events.new.sink) _ _ _
    (same_lines (g.C.Cluster.line_text fs) (output_text fs) _ (g.met.C.PlanCluster.has_output_text fs)) (c.in_ok-run_events.ensures.ok c.in_ok-cluster.ensures.initial))

pub returns-clause-ok : goal.returns-clause-ok
returns-clause-ok g c =
    let fs = c.args.plan.now.program.functions in
    let report = c.in_ok-text.ensures _ (c.in_ok-run_events.ensures.behind c.in_ok-cluster.ensures.initial) in
    both c.write_text.result (g.K.Sink.held c.args.sink.now) (g.K.Sink.held c.run_events.new.sink) (g.K.Sink.held c.write_text.new.sink) _ _ _ _
    (same_lines (g.C.Cluster.line_text fs) (output_text fs) _ (g.met.C.PlanCluster.has_output_text fs)) (c.as_bytes.ensures.value ∙ report)
    (c.in_ok-run_events.ensures.ok c.in_ok-cluster.ensures.initial) c.write_text.ensures.ok

pub returns-clause-err : goal.returns-clause-err
returns-clause-err g c =
    let fs = c.args.plan.now.program.functions in
    let report = c.in_ok-text.ensures _ (c.in_ok-run_events.ensures.behind c.in_ok-cluster.ensures.initial) in
    both_front c.write_text.result (g.K.Sink.held c.args.sink.now) (g.K.Sink.held c.run_events.new.sink) (g.K.Sink.held c.write_text.new.sink) _ _ _ _
    (same_lines (g.C.Cluster.line_text fs) (output_text fs) _ (g.met.C.PlanCluster.has_output_text fs)) (c.as_bytes.ensures.value ∙ report)
    (c.in_ok-run_events.ensures.ok c.in_ok-cluster.ensures.initial) c.write_text.ensures.err
