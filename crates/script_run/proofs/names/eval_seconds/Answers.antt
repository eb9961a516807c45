use Rattle.std.proofs.lemmas.Result.{err_from_is_err_and}
use Rattle.script_run.specs.Pairs.{try_map, second_of}
use Rattle.script_run.proofs.Each.{behind_none, goes_on_at, stops_at, ends_at}
use Rattle.script_run.proofs.names.eval_seconds.Goals as goal

pub pairs-init : goal.pairs-init
pairs-init c = let vs = c.args.variables.now in rw c.new-values.ensures (behind_none (try_map (second_of vs) c.args.pairs.now))

pub returns-in_err-eval : goal.returns-in_err-eval
returns-in_err-eval c =
    let p = err_from_is_err_and c.from_residual.result c.from_residual.ensures.1 in
    let vs = c.args.variables.now in
    let xs = c.args.pairs.now in
    rw (p.1, p.2) (stops_at (second_of vs) c.pairs.values (try_map (second_of vs) xs) xs c.pairs.pair-index c.pair-item.result c.in_err-eval.field-0.0 c.pairs-test.true c.pair-item.is c.in_err-eval.ensures c.pairs.invariant)

pub pairs-preserved : goal.pairs-preserved
pairs-preserved c =
    let vs = c.args.variables.now in
    let xs = c.args.pairs.now in
    rw c.in_ok-push.ensures.ok (goes_on_at (second_of vs) c.pairs.values (try_map (second_of vs) xs) xs c.pairs.pair-index c.pair-item.result c.in_ok-eval.field-0 c.pairs-test.true c.pair-item.is c.in_ok-eval.ensures c.pairs.invariant)

pub returns : goal.returns
returns c =
    let vs = c.args.variables.now in
    let xs = c.args.pairs.now in
    ends_at (second_of vs) c.pairs.values (try_map (second_of vs) xs) xs c.pairs.pair-index c.pairs-test.false c.pairs.invariant
