use Rattle.std.proofs.Common.{List, ℕ, length, sym, subst}
use Rattle.lb_base.specs.declared.value.Value.{Value}
use Rattle.boki_model.specs.Writes.{initial_store}
use Rattle.obj_store.specs.Kept.{StoreState}
use Rattle.obj_store.specs.StandsFor.{StandsFor}
use Rattle.obj_store.proofs.Opened.{opens}
use Rattle.obj_store.proofs.store.ObjStore.new.Goals as goal

pub returns : goal.returns
returns c = λ end records fall.
    subst (λ (ns : List ((List ℕ × ℕ) × Value)). let k : StoreState = record { objects = c.in_ok-initial.field-0.entries; named = ns; floor = 0; held = length c.args.objects.now } in StandsFor k (initial_store c.args.objects.now) records)
    (sym c.new.ensures.empty) (opens c.args.objects.now c.in_ok-initial.field-0.entries end records fall (c.in_ok-initial.ensures c.requires))
