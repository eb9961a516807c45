use Rattle.std.proofs.Common.{◌∙◌, ap, sym, List}
use Rattle.boki_types.specs.declared.program.Function.{Function}
use Rattle.boki_types.specs.Finding.{function_at}
use Rattle.script_run.specs.Frames.{lines_of}
use Rattle.script_run.proofs.Standings.{function_is, function_none}
use Rattle.script_run.proofs.frame.lines_of.Goals as goal

pub returns-in-Some : goal.returns-in-Some
returns-in-Some c =
    let n = c.args.function in
    let fs = c.as_slice.result.now in
    let found = c.in-Some.ensures.lookup in
    c.as_slice-in-Some.ensures
    ∙ sym (ap (λ (gs : List Function). lines_of (function_at n gs)) (sym c.as_slice.ensures) ∙ ap lines_of (function_is n fs c.in-Some.function.now found.3.0 found.1))

pub returns-in-None : goal.returns-in-None
returns-in-None c =
    let n = c.args.function in
    let fs = c.as_slice.result.now in
    let lacks = c.in-None.ensures.lookup in
    sym (ap (λ (gs : List Function). lines_of (function_at n gs)) (sym c.as_slice.ensures) ∙ ap lines_of (function_none n fs lacks.3))
