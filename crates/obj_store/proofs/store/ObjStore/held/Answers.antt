use Rattle.std.proofs.Common.{◌∙◌, ap}
use Rattle.obj_store.specs.Kept.{StoreState}
use Rattle.obj_store.proofs.KeyCount.{held_is}
use Rattle.obj_store.proofs.store.ObjStore.held.Goals as goal

pub returns : goal.returns
returns c = λ m records stands. ap (λ (k : StoreState). k.held) c.self.view_is ∙ held_is _ m records stands
