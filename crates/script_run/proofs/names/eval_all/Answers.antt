use Rattle.std.proofs.lemmas.Result.{err_from_is_err_and}
use Rattle.script_run.specs.Pairs.{try_map, value_of}
use Rattle.script_run.proofs.Each.{behind_none, goes_on_at, stops_at, ends_at}
use Rattle.script_run.proofs.names.eval_all.Goals as goal

pub values-init : goal.values-init
values-init c = let vs = c.args.variables.now in rw c.new-values.ensures (behind_none (try_map (value_of vs) c.args.xs.now))

pub returns-in_err-eval : goal.returns-in_err-eval
returns-in_err-eval c =
    let p = err_from_is_err_and c.from_residual.result c.from_residual.ensures.1 in
    let vs = c.args.variables.now in
    let xs = c.args.xs.now in
    rw (p.1, p.2) (stops_at (value_of vs) c.values.values (try_map (value_of vs) xs) xs c.values.x-index c.x-item.result c.in_err-eval.field-0.0 c.values-test.true c.x-item.is c.in_err-eval.ensures c.values.invariant)

pub values-preserved : goal.values-preserved
values-preserved c =
    let vs = c.args.variables.now in
    let xs = c.args.xs.now in
    rw c.in_ok-push.ensures.ok (goes_on_at (value_of vs) c.values.values (try_map (value_of vs) xs) xs c.values.x-index c.x-item.result c.in_ok-eval.field-0 c.values-test.true c.x-item.is c.in_ok-eval.ensures c.values.invariant)

pub returns : goal.returns
returns c =
    let vs = c.args.variables.now in
    let xs = c.args.xs.now in
    ends_at (value_of vs) c.values.values (try_map (value_of vs) xs) xs c.values.x-index c.values-test.false c.values.invariant
