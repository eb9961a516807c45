use Rattle.std.proofs.Common.{ap, sym, ◌∙◌}
use Rattle.std.specs.Option.{option_copied_mut}
use Rattle.boki_model.specs.Writes.{later_write}
use Rattle.obj_store.specs.Kept.{KeptObject}
use Rattle.obj_store.proofs.Entries.{change_is}
use Rattle.obj_store.proofs.objects.lift.Goals as goal

pub returns-in-Some : goal.returns-in-Some
returns-in-Some c =
    change_is c.args.key.now (λ (o : KeptObject). let p : KeptObject = record o { base = later_write c.args.write o.base } in p) c.args.objects.now.entries _ c.in-Some.object.now c.lift.new.self
    (sym c.get_mut.ensures.value ∙ ap option_copied_mut c.in-Some.is) c.lift.ensures (c.get_mut.follows.holds c.lift.new.self).0
