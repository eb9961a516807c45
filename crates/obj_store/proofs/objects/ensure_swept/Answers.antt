use Rattle.std.proofs.Common.{◌≡◌, ◌∙◌, ap, ℕ, List, true, subst, arith}
use Rattle.obj_store.specs.declared.objects.SweptWrite.{SweptWrite}
use Rattle.obj_store.specs.Kept.{has_key}
use Rattle.obj_store.proofs.Entries.{widens_twice}
use Rattle.obj_store.proofs.Passing.{passed_more}
use Rattle.obj_store.proofs.objects.ensure_swept.Goals as goal

pub loop-write-preserved : goal.loop-write-preserved
loop-write-preserved c = let e = c.in_ok-ensure.ensures in record {
  same = widens_twice _ _ _ c.loop-write.invariant.same e.same;
  there = passed_more c.args.passed.now c.loop-write.write-index c.write-item.result (omega arith) _ _ e.same.keys c.loop-write.invariant.there (subst (λ (q : List ℕ). has_key q c.ensure.new.objects.entries ≡ true) (c.as_str.ensures ∙ ap (λ (p : SweptWrite). p.key) c.write-item.is) e.there);
}
