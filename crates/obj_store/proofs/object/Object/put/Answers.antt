use Rattle.std.proofs.Common.{◌≡◌, ◌∙◌, List, ap, sym, subst, insert}
use Rattle.boki_model.specs.Writes.{Write}
use Rattle.obj_store.specs.Ascending.{Ascend, before_count}
use Rattle.obj_store.specs.Kept.{KeptObject, insert_write}
use Rattle.obj_store.proofs.InOrder.{insert_is}
use Rattle.obj_store.proofs.object.Object.put.Goals as goal

pub returns-clause-ok : goal.returns-clause-ok
returns-clause-ok c = λ up.
    let items = c.self.inside.versions.items in
    let w = c.args.version in
    let same : c.args.self.now.versions ≡ items = ap (λ (o : KeptObject). o.versions) (sym c.self.view_is) in
    let index = c.index_in-index.ensures.index (subst Ascend (same ∙ sym c.as_slice.ensures.value) up) in
    let put : c.insert.new.self.items ≡ insert_write w items =
    c.in_ok-insert.ensures.items ∙ ap (λ n. insert items n w) (index ∙ ap (before_count w.first w.second) c.as_slice.ensures.value) ∙ insert_is w items in
    ap (λ (l : List Write). let o : KeptObject = record { base = c.self.inside.base; versions = l; fence = c.self.inside.fence } in o) put
    ∙ ap (λ (o : KeptObject). let p : KeptObject = record o { versions = insert_write w o.versions } in p) c.self.view_is
