use Rattle.std.proofs.Common.{◌∙◌, sym, subst}
use Rattle.std.proofs.lemmas.List.{take_all}
use Rattle.hm_write.specs.Marked.{AreMarkedValues}
use Rattle.hm_write.proofs.Marking.{no_values, more_values}
use Rattle.hm_write.proofs.marked.values_before.Goals as goal

pub loop-key-init : goal.loop-key-init
loop-key-init c =
    subst (AreMarkedValues c.args.book.now c.args.store.now c.args.engine c.args.at.0 _) (sym c.new-values.ensures)
    (no_values c.args.book.now c.args.engine c.args.at.0 c.args.store.now)

pub loop-key-preserved : goal.loop-key-preserved
loop-key-preserved c =
    more_values c.args.book.now c.args.engine c.args.at.0 c.args.store.now c.args.keys.now c.loop-key.key-index c.as_str.result.now _ c.in_ok-value.value c.loop-key.values c.push.new.self
    c.loop-key-test.true (c.as_str.ensures ∙ c.key-item.is) c.in_ok-push.ensures.ok c.loop-key.invariant c.in_ok-value.ensures

pub returns : goal.returns
returns c =
    subst (λ keys. AreMarkedValues c.args.book.now c.args.store.now c.args.engine c.args.at.0 keys c.loop-key.values)
    (take_all c.loop-key.key-index c.args.keys.now c.loop-key-test.false) c.loop-key.invariant
