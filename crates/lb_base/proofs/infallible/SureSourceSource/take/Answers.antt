use Rattle.std.proofs.Common.{◌∙◌, ◌++◌, ap, sym, take, drop, length, min}
use Rattle.lb_base.proofs.DeviceLemmas.{moved}
use Rattle.lb_base.proofs.infallible.SureSourceSource.take.Goals as goal

pub returns-clause-moves : goal.returns-clause-moves
returns-clause-moves c =
    let at = c.self.inside.at in
    let same = c.deref.ensures.value in
    moved c.self.inside.bytes.items c.args.into.now c.copy_next-n.new.into _ at c.copy_next-n.result (sym c.self.view_is) (c.copy_next-n.ensures.count ∙ ap (λ l. min (length c.args.into.now) (length (drop at l))) same) (c.copy_next-n.ensures.piece ∙ ap (λ l. take c.copy_next-n.result (drop at l) ++ drop c.copy_next-n.result c.args.into.now) same) c.requires
