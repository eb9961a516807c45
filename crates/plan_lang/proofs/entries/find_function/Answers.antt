use Rattle.std.proofs.Common.{◌≡◌, ◌∙◌, ◌<◌, Some, sym, ap, true, false, bytes_eq, length, arith}
use Rattle.boki_types.proofs.FindingLemmas.{behind, found_here, found_later}
use Rattle.plan_lang.proofs.entries.find_function.Goals as goal

pub returns-then-eq : goal.returns-then-eq
returns-then-eq c =
    let within : c.functions.function-index < length c.args.functions.now = omega arith in
    let named : true ≡ bytes_eq c.args.name.now c.function-item.result.name = c.if-eq.ensures ∙ ap (bytes_eq c.args.name.now) c.as_str.ensures in
    let is = c.function-item.is in
    let found = found_here c.args.name.now c.args.functions.now c.functions.function-index c.function-item.result within is named in
    sym (c.functions.invariant.1 ∙ ap (behind c.functions.number) found ∙ ap Some (omega arith))

pub functions-preserved : goal.functions-preserved
functions-preserved c =
    let within : c.functions.function-index < length c.args.functions.now = omega arith in
    let other : false ≡ bytes_eq c.args.name.now c.function-item.result.name = c.if-eq.ensures ∙ ap (bytes_eq c.args.name.now) c.as_str.ensures in
    let is = c.function-item.is in
    (omega arith, c.functions.invariant.1 ∙ found_later c.args.name.now c.args.functions.now c.functions.function-index c.functions.number c.function-item.result within is other)
