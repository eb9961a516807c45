use Rattle.std.proofs.Common.{◌≡◌, ◌∙◌, Some, None, sym, ap, subst}
use Rattle.std.specs.Option.{option_copied_mut}
use Rattle.indexmap.specs.IndexMap.{set_value_at}
use Rattle.obj_store.specs.Ascending.{Ascend}
use Rattle.obj_store.specs.Kept.{KeptObject}
use Rattle.obj_store.specs.Steps.{swept_object}
use Rattle.obj_store.proofs.Fronts.{keys_set_at, value_at_place}
use Rattle.obj_store.proofs.every.sweep_object_at.Goals as goal

pub returns-in-Some-clause-keys : goal.returns-in-Some-clause-keys
returns-in-Some-clause-keys c = keys_set_at c.args.objects.now.entries c.args.index c.sweep_below.new.self

pub returns-in-Some-clause-settled : goal.returns-in-Some-clause-settled
returns-in-Some-clause-settled c = λ e is up.
    let there : Some c.in-Some.object.now ≡ Some e.1 = sym (ap option_copied_mut c.in-Some.is) ∙ c.get_index_mut.ensures.value ∙ value_at_place c.args.objects.now.entries c.args.index e is in
    let same : c.in-Some.object.now ≡ e.1 = cc in
    ap (set_value_at c.args.objects.now.entries c.args.index)
    (c.sweep_below.ensures (subst (λ (o : KeptObject). Ascend o.versions) (sym same) up) ∙ ap (swept_object c.args.floor.0) same)

pub returns-in_default-clause-settled : goal.returns-in_default-clause-settled
returns-in_default-clause-settled c = λ e is up.
    let there : None ≡ Some e.1 = sym (ap option_copied_mut c.in_default.is) ∙ c.get_index_mut.ensures.value ∙ value_at_place c.args.objects.now.entries c.args.index e is in
    absurd (let h : ⊥ = cc in h)
