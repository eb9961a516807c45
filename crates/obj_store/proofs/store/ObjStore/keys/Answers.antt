use Rattle.std.proofs.Common.{◌∙◌, sym, subst}
use Rattle.obj_store.specs.Kept.{StoreState}
use Rattle.obj_store.specs.StandsFor.{StandsFor}
use Rattle.obj_store.proofs.KeyLists.{keys_are}
use Rattle.obj_store.proofs.store.ObjStore.keys.Goals as goal

pub returns : goal.returns
returns c = λ m records stands.
    let S = subst (λ (k : StoreState). StandsFor k m records) (sym c.self.view_is) stands in
    c.from_vec.ensures ∙ c.in_ok-keys.ensures ∙ keys_are _ m records S
