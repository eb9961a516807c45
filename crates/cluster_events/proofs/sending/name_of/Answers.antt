use Rattle.std.proofs.Common.{◌≡◌, ◌∙◌, ℕ, ap, sym, subst, List}
use Rattle.std.specs.Prelude.{IfOk}
use Rattle.boki_types.specs.declared.program.Function.{Function}
use Rattle.boki_types.specs.Finding.{function_at}
use Rattle.boki_machine.specs.Step.{name_or_empty}
use Rattle.script_run.proofs.Standings.{function_is, function_none}
use Rattle.cluster_events.proofs.sending.name_of.Goals as goal

pub returns-in-Some : goal.returns-in-Some
returns-in-Some c =
    let n = c.args.function in
    let fs = c.as_slice.result.now in
    let found = c.in-Some.ensures.lookup in
    let said : List ℕ → Type 0 = λ n. IfOk c.copy_name.result (λ name. name ≡ n) in
    subst said (sym (ap (λ (gs : List Function). name_or_empty (function_at n gs)) (sym c.as_slice.ensures) ∙ ap name_or_empty (function_is n fs c.in-Some.function.now found.3.0 found.1))) c.copy_name.ensures

pub returns-in-None : goal.returns-in-None
returns-in-None c =
    let n = c.args.function in
    let fs = c.as_slice.result.now in
    let lacks = c.in-None.ensures.lookup in
    c.new.ensures ∙ sym (ap (λ (gs : List Function). name_or_empty (function_at n gs)) (sym c.as_slice.ensures) ∙ ap name_or_empty (function_none n fs lacks.3))
