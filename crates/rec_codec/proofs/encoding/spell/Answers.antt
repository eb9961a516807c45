use Rattle.std.proofs.Common.{◌≡◌, true, subst, length, ap, sym, ◌∙◌, arith}
use Rattle.std.specs.List.{list_all}
use Rattle.boki_types.specs.declared.body.Body.{Body}
use Rattle.boki_model.specs.Bodies.{in_range, is_value}
use Rattle.rec_codec.proofs.Ranges.{CallFields, SpawnFields, submit_in, spawn_in}
use Rattle.rec_codec.proofs.encoding.spell.Goals as goal

pub submit-requires-clause-function : goal.submit-requires-clause-function
submit-requires-clause-function c =
    let h = subst (λ (x : Body). in_range x ≡ true) c.in-Submit.is c.requires.range in
    (submit_in c.in-Submit.path c.in-Submit.function c.in-Submit.args h).function

pub submit-requires-clause-args_count : goal.submit-requires-clause-args_count
submit-requires-clause-args_count c =
    let h = subst (λ (x : Body). in_range x ≡ true) c.in-Submit.is c.requires.range in
    omega (arith, ap length c.as_slice.ensures, (submit_in c.in-Submit.path c.in-Submit.function c.in-Submit.args h).count)

pub submit-requires-clause-args_each : goal.submit-requires-clause-args_each
submit-requires-clause-args_each c =
    let h = subst (λ (x : Body). in_range x ≡ true) c.in-Submit.is c.requires.range in
    ap (list_all is_value) c.as_slice.ensures ∙ (submit_in c.in-Submit.path c.in-Submit.function c.in-Submit.args h).each

pub spawn-requires-clause-function : goal.spawn-requires-clause-function
spawn-requires-clause-function c =
    let h = subst (λ (x : Body). in_range x ≡ true) c.in-Spawn.is c.requires.range in
    (spawn_in c.in-Spawn.path c.in-Spawn.index c.in-Spawn.ordinal c.in-Spawn.function c.in-Spawn.args h).call.function

pub spawn-requires-clause-args_count : goal.spawn-requires-clause-args_count
spawn-requires-clause-args_count c =
    let h = subst (λ (x : Body). in_range x ≡ true) c.in-Spawn.is c.requires.range in
    omega (arith, ap length c.as_slice-in-Spawn.ensures, (spawn_in c.in-Spawn.path c.in-Spawn.index c.in-Spawn.ordinal c.in-Spawn.function c.in-Spawn.args h).call.count)

pub spawn-requires-clause-args_each : goal.spawn-requires-clause-args_each
spawn-requires-clause-args_each c =
    let h = subst (λ (x : Body). in_range x ≡ true) c.in-Spawn.is c.requires.range in
    ap (list_all is_value) c.as_slice-in-Spawn.ensures ∙ (spawn_in c.in-Spawn.path c.in-Spawn.index c.in-Spawn.ordinal c.in-Spawn.function c.in-Spawn.args h).call.each
