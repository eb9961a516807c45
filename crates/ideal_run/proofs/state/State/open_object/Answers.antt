use Rattle.std.proofs.Common.{◌≡◌, ℕ, List, ap, ◌∙◌, rules}
use Rattle.std.specs.BTreeMap.{insert_entry}
use Rattle.lb_base.specs.declared.value.Value.{Value}
use Rattle.boki_model.specs.Maps.{key_order}
use Rattle.ideal_run.specs.Kept.{Maps, maps_of}
use Rattle.ideal_run.proofs.Entries.{put_is}
use Rattle.ideal_run.proofs.state.State.open_object.Goals as goal

pub returns : goal.returns
returns c =
    let m : Maps = maps_of c.args.self.now in
    let same_key : c.in_ok-clone.field-0 ≡ c.args.key.now = search rules in
    let same : c.in_ok-value.value ≡ c.args.value.now = search rules in
    ap (λ (es : List (List ℕ × Value)). let n : Maps = record m { objects = es } in n)
    (put_is c.args.key.now c.args.value.now c.args.self.now.objects.entries _
    (c.in_ok-insert.ensures.entries ∙ ap (λ (k : List ℕ). insert_entry key_order c.args.self.now.objects.entries k c.in_ok-value.value) same_key ∙ ap (insert_entry key_order c.args.self.now.objects.entries c.args.key.now) same))
