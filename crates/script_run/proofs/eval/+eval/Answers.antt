use Rattle.std.proofs.Common.{refl, ◌∙◌, ap, Ok}
use Rattle.std.proofs.lemmas.Result.{err_from_is_err_and}
use Rattle.boki_model.specs.Values.{eval as eval_of}
use Rattle.script_run.proofs.Evals.{is_two, left_ends, deciding_ends, decides, right_ends, judges}
use Rattle.script_run.proofs.eval.+eval.Goals as goal

pub returns-in_err-left-in-Two : goal.returns-in_err-left-in-Two
returns-in_err-left-in-Two t c =
    let p = err_from_is_err_and c.from_residual-in_err-left-in-Two.result c.from_residual-in_err-left-in-Two.ensures.1 in
    let vs = c.args.variables.now in
    rw (p.1, p.2) (left_ends c.in-Two.op (eval_of c.get-in-Two.result.now vs) (eval_of c.in-Two.y vs) (eval_of c.args.x.now vs)
    (is_two c.in-Two.op c.args.x.now c.in-Two.x c.in-Two.y c.get-in-Two.result.now c.in-Two.y vs c.in-Two.is c.get-in-Two.ensures refl)
    c.in_err-left-in-Two.field-0.0 c.in_err-left-in-Two.ensures)

pub returns-in_err-value-in-Two : goal.returns-in_err-value-in-Two
returns-in_err-value-in-Two t c =
    let p = err_from_is_err_and c.from_residual-in_err-value-in-Two.result c.from_residual-in_err-value-in-Two.ensures.1 in
    let vs = c.args.variables.now in
    rw (p.1, p.2) (deciding_ends c.in-Two.op (eval_of c.get-in-Two.result.now vs) (eval_of c.in-Two.y vs) (eval_of c.args.x.now vs)
    (is_two c.in-Two.op c.args.x.now c.in-Two.x c.in-Two.y c.get-in-Two.result.now c.in-Two.y vs c.in-Two.is c.get-in-Two.ensures refl)
    c.in_ok-left-in-Two.left c.in_err-value-in-Two.field-0.0 c.in_ok-left-in-Two.ensures c.in_err-value-in-Two.ensures)

pub returns-in-Some : goal.returns-in-Some
returns-in-Some t c =
    let vs = c.args.variables.now in
    decides c.in-Two.op (eval_of c.get-in-Two.result.now vs) (eval_of c.in-Two.y vs) (eval_of c.args.x.now vs)
    (is_two c.in-Two.op c.args.x.now c.in-Two.x c.in-Two.y c.get-in-Two.result.now c.in-Two.y vs c.in-Two.is c.get-in-Two.ensures refl)
    c.in_ok-left-in-Two.left c.in-Some.value c.in_ok-left-in-Two.ensures (c.in_ok-value-in-Two.ensures ∙ ap Ok c.in-Some.is)

pub returns-in_err-right-in-None : goal.returns-in_err-right-in-None
returns-in_err-right-in-None t c =
    let p = err_from_is_err_and c.from_residual-in_err-right-in-None.result c.from_residual-in_err-right-in-None.ensures.1 in
    let vs = c.args.variables.now in
    rw (p.1, p.2) (right_ends c.in-Two.op (eval_of c.get-in-Two.result.now vs) (eval_of c.get-in-None.result.now vs) (eval_of c.args.x.now vs)
    (is_two c.in-Two.op c.args.x.now c.in-Two.x c.in-Two.y c.get-in-Two.result.now c.get-in-None.result.now vs c.in-Two.is c.get-in-Two.ensures c.get-in-None.ensures)
    c.in_ok-left-in-Two.left c.in_err-right-in-None.field-0.0 c.in_ok-left-in-Two.ensures (c.in_ok-value-in-Two.ensures ∙ ap Ok c.in-None.is) c.in_err-right-in-None.ensures)

pub returns-in_ok-right-in-None : goal.returns-in_ok-right-in-None
returns-in_ok-right-in-None t c =
    let vs = c.args.variables.now in
    judges c.in-Two.op (eval_of c.get-in-Two.result.now vs) (eval_of c.get-in-None.result.now vs) (eval_of c.args.x.now vs)
    (is_two c.in-Two.op c.args.x.now c.in-Two.x c.in-Two.y c.get-in-Two.result.now c.get-in-None.result.now vs c.in-Two.is c.get-in-Two.ensures c.get-in-None.ensures)
    c.in_ok-left-in-Two.left c.in_ok-right-in-None.right c.apply.result c.in_ok-left-in-Two.ensures (c.in_ok-value-in-Two.ensures ∙ ap Ok c.in-None.is) c.in_ok-right-in-None.ensures c.apply.ensures
