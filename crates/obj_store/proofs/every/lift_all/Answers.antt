use Rattle.std.proofs.Common.{◌≡◌, ◌∙◌, ℕ, List, length, get_or, ap, rules}
use Rattle.std.proofs.lemmas.Iterator.Consumers.{YieldsList-turn}
use Rattle.std.proofs.lemmas.Iterator.Adapters.{YieldsList-from_vec}
use Rattle.obj_store.specs.declared.objects.SweptWrite.{SweptWrite}
use Rattle.obj_store.specs.Kept.{has_key}
use Rattle.obj_store.proofs.Entries.{has_keys}
use Rattle.obj_store.proofs.Passing.{passed_at_place, lifts_more}
use Rattle.obj_store.proofs.every.lift_all.Goals as goal

pub lift-requires : goal.lift-requires
lift-requires c =
    let p = c.in-Some.field-0 in
    let t = YieldsList-turn (YieldsList-from_vec {s = c.into_iter-key-iterator.result} c.args.passed.items (search rules) (search rules)) c.loop-key.yielded c.loop-key.key-iterator c.loop-key.yielded_by c.next.result c.next.new.self p c.in-Some.is c.next.ensures.steps in
    let e : p ≡ get_or c.args.passed.items (length c.loop-key.yielded) p = t.1 in
    has_keys c.args.objects.now.entries c.loop-key.objects.entries c.loop-key.invariant.keys c.as_str.result.now
    ∙ ap (λ (q : List ℕ). has_key q c.args.objects.now.entries) (c.as_str.ensures ∙ ap (λ (x : SweptWrite). x.key) e)
    ∙ c.requires (get_or c.args.passed.items (length c.loop-key.yielded) p).key (passed_at_place c.args.passed.items (length c.loop-key.yielded) p t.0)

pub loop-key-preserved : goal.loop-key-preserved
loop-key-preserved c = lifts_more c.loop-key.yielded c.in-Some.field-0 c.as_str.result.now _ _ _ c.as_str.ensures c.loop-key.invariant c.lift.ensures
