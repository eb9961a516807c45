use Rattle.std.proofs.Common.{◌≡◌, ◌+◌, ◌∙◌, sym, ap, cond, drop, rules}
use Rattle.boki_model.specs.Values.{variable_value}
use Rattle.script_run.proofs.Lookups.{value_at}
use Rattle.script_run.proofs.variables.look_up.Goals as goal

pub returns-then-eq : goal.returns-then-eq
returns-then-eq c =
    let vs = c.args.variables.now in
    let e = c.names-item.result in
    let copied : c.in_ok-clone.field-0 ≡ e.1 = search rules in
    let at = value_at c.args.name.now vs c.names.known-index e c.names-test.true c.names-item.is in
    copied ∙ sym (at ∙ ap (λ b. cond b e.1 (variable_value c.args.name.now (drop (c.names.known-index + 1) vs))) (sym c.eq.ensures ∙ c.if-eq.true)) ∙ c.names.invariant

pub names-preserved : goal.names-preserved
names-preserved c =
    let vs = c.args.variables.now in
    let e = c.names-item.result in
    let at = value_at c.args.name.now vs c.names.known-index e c.names-test.true c.names-item.is in
    sym (at ∙ ap (λ b. cond b e.1 (variable_value c.args.name.now (drop (c.names.known-index + 1) vs))) (sym c.eq.ensures ∙ c.if-eq.false)) ∙ c.names.invariant
