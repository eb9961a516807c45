use Rattle.std.proofs.Common.{◌≡◌, ◌∙◌, ap, sym, subst, rules}
use Rattle.boki_model.specs.Writes.{write_at}
use Rattle.obj_store.specs.Ascending.{Ascend}
use Rattle.obj_store.specs.Kept.{KeptObject}
use Rattle.obj_store.proofs.Passing.{puts_is}
use Rattle.obj_store.proofs.steps.put_in.Goals as goal

pub returns-clause-ok : goal.returns-clause-ok
returns-clause-ok c = λ up.
    let same = c.in_ok-ensure.ensures.same in
    let copy : c.in_ok-value.value ≡ c.args.value.now = search rules in
    let version : c.new.result ≡ write_at c.args.cursor.0 c.args.k c.args.value.now = c.new.ensures ∙ ap (write_at c.args.cursor.0 c.args.k) copy in
    puts_is c.args.key.now (write_at c.args.cursor.0 c.args.k c.args.value.now) c.new.result c.args.objects.now.entries c.ensure.new.objects.entries c.put.new.objects.entries
    version same (c.in_ok-put.ensures.ok (subst (λ (o : KeptObject). Ascend o.versions) (sym (same.objects c.args.key.now)) up))
