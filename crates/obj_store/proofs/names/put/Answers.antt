use Rattle.std.proofs.Common.{◌≡◌, ◌∙◌, ap, cond, Some, rules}
use Rattle.lb_base.specs.declared.value.Value.{Value}
use Rattle.obj_store.specs.Kept.{same_name_pair, value_under}
use Rattle.obj_store.proofs.names.put.Goals as goal

pub returns-clause-finds : goal.returns-clause-finds
returns-clause-finds c = λ n.
    let same : c.in_ok-value.value ≡ c.args.value.now = search rules in
    c.in_ok-insert.ensures.updates.0 (n.path, n.place)
    ∙ ap (λ (v : Value). cond (same_name_pair (c.args.name.now.path, c.args.name.now.place) (n.path, n.place)) (Some v) (value_under n c.args.names.now.entries)) same
