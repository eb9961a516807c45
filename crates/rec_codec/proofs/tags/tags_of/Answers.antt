use Rattle.std.proofs.Common.{◌≡◌, true, subst}
use Rattle.boki_types.specs.declared.body.Body.{Body}
use Rattle.boki_model.specs.Bodies.{in_range}
use Rattle.rec_codec.proofs.Ranges.{SpawnFields, spawn_in}
use Rattle.rec_codec.proofs.tags.tags_of.Goals as goal

pub child-child-requires-clause-depth : goal.child-child-requires-clause-depth
child-child-requires-clause-depth c =
    let h = subst (λ (x : Body). in_range x ≡ true) c.in-Spawn.is c.requires in
    (spawn_in c.in-Spawn.path c.in-Spawn.index c.in-Spawn.ordinal c.in-Spawn.function c.in-Spawn.args h).depth

pub child-child-requires-clause-ordinal : goal.child-child-requires-clause-ordinal
child-child-requires-clause-ordinal c =
    let h = subst (λ (x : Body). in_range x ≡ true) c.in-Spawn.is c.requires in
    (spawn_in c.in-Spawn.path c.in-Spawn.index c.in-Spawn.ordinal c.in-Spawn.function c.in-Spawn.args h).ordinal_ok
