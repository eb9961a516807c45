use Rattle.std.proofs.Common.{◌≡◌, ◌∙◌, ℕ, List, ap, arith, rules}
use Rattle.lb_base.specs.declared.value.Value.{Value}
use Rattle.obj_store.specs.Steps.{opened}
use Rattle.obj_store.proofs.Opening.{distinct_keys, opens_more}
use Rattle.obj_store.proofs.objects.initial.Goals as goal

pub loop-key-preserved : goal.loop-key-preserved
loop-key-preserved c = λ distinct.
    let item = c.loop-key-item.is in
    let key : c.in_ok-clone.field-0 ≡ c.loop-key-item.result.0 = search rules in
    opens_more c.args.values.now c.loop-key.key-index c.loop-key-item.result c.in_ok-clone.field-0 c.in_ok-initial.field-0 c.loop-key.objects.entries c.insert.new.self.entries (omega arith) (distinct_keys c.args.values.now distinct)
    (key ∙ ap (λ (e : List ℕ × Value). e.0) item) (c.in_ok-initial.ensures ∙ ap (λ (e : List ℕ × Value). opened e.1) item)
    (c.loop-key.invariant distinct) c.in_ok-insert.ensures.entries (λ q. c.in_ok-insert.ensures.updates.0 q) c.in_ok-insert.ensures.unique
