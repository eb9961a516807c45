use Rattle.std.proofs.Common.{ap, sym, ◌∙◌}
use Rattle.std.specs.Option.{option_copied_mut}
use Rattle.obj_store.specs.Steps.{raised_to}
use Rattle.obj_store.proofs.Entries.{change_is}
use Rattle.obj_store.proofs.objects.raise.Goals as goal

pub returns-in-Some : goal.returns-in-Some
returns-in-Some c =
    change_is c.args.key.now (raised_to c.args.at.0) c.args.objects.now.entries _ c.in-Some.object.now c.raise.new.self
    (sym c.get_mut.ensures.value ∙ ap option_copied_mut c.in-Some.is) c.raise.ensures (c.get_mut.follows.holds c.raise.new.self).0
