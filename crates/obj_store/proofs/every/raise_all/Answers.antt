use Rattle.std.proofs.Common.{◌∙◌, ℕ, List, ap, arith}
use Rattle.obj_store.specs.Kept.{has_key}
use Rattle.obj_store.proofs.Entries.{has_keys}
use Rattle.obj_store.proofs.Passing.{has_at_place, raises_more}
use Rattle.obj_store.proofs.every.raise_all.Goals as goal

pub raise-requires : goal.raise-requires
raise-requires c =
    let is = c.as_str.ensures ∙ c.key-item.is in
    has_keys c.args.objects.now.entries c.loop-key.objects.entries c.loop-key.invariant.keys c.as_str.result.now
    ∙ ap (λ (q : List ℕ). has_key q c.args.objects.now.entries) is ∙ c.requires _ (has_at_place c.args.keys.now c.loop-key.key-index c.key-item.result (omega arith))

pub loop-key-preserved : goal.loop-key-preserved
loop-key-preserved c =
    raises_more c.args.keys.now c.args.at.0 c.loop-key.key-index c.as_str.result.now c.key-item.result _ _ _ (omega arith) (c.as_str.ensures ∙ c.key-item.is) c.loop-key.invariant c.raise.ensures
