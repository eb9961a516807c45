use Rattle.std.proofs.Common.{◌∙◌, [], ap, sym, arith}
use Rattle.obj_store.specs.Keys.{with_key}
use Rattle.obj_store.proofs.Fronts.{some_entry}
use Rattle.obj_store.proofs.KeyLists.{with_keys_more}
use Rattle.obj_store.proofs.sorted.sorted_keys.Goals as goal

pub loop-index-preserved : goal.loop-index-preserved
loop-index-preserved c =
    let there = some_entry c.args.objects.now.entries c.loop-index.index (omega arith) in
    c.in_ok-add_key.ensures there.0 there.1 ∙ ap (with_key there.0) c.loop-index.invariant
    ∙ sym (with_keys_more c.args.objects.now.entries c.loop-index.index there.0 [] there.1)
