use Rattle.std.proofs.Common.{◌≡◌, ◌∙◌, ℕ, List, true, subst, arith}
use Rattle.obj_store.specs.Kept.{has_key}
use Rattle.obj_store.proofs.Entries.{widens_twice}
use Rattle.obj_store.proofs.Passing.{has_more}
use Rattle.obj_store.proofs.objects.ensure_all.Goals as goal

pub loop-key-preserved : goal.loop-key-preserved
loop-key-preserved c = let e = c.in_ok-ensure.ensures in record {
  same = widens_twice _ _ _ c.loop-key.invariant.same e.same;
  there = has_more c.args.keys.now c.loop-key.key-index c.key-item.result (omega arith) _ _ e.same.keys c.loop-key.invariant.there (subst (λ (q : List ℕ). has_key q c.ensure.new.objects.entries ≡ true) (c.as_str.ensures ∙ c.key-item.is) e.there);
}
