use Rattle.std.proofs.Common.{◌≡◌, ◌+◌, ltb, is_some, None, false, sym, ap, subst, arith, rules}
use Rattle.std.proofs.lemmas.Bool.Decides.{nat_tests}
use Rattle.obj_store.specs.Kept.{StoreState, value_under}
use Rattle.obj_store.specs.StandsFor.{StandsFor}
use Rattle.obj_store.proofs.Fences.{named_new}
use Rattle.obj_store.proofs.store.ObjStore.put_named.Goals as goal

pub returns-clause-ok : goal.returns-clause-ok
returns-clause-ok c = λ m records stands fresh.
    let S = subst (λ (k : StoreState). StandsFor k m records) (sym c.self.view_is) stands in
    let low : ltb c.args.cursor.0 m.floor ≡ false = (let e = S.floor in grind (arith, nat_tests)) in
    let none : is_some (value_under c.args.name c.self.inside.named.entries) ≡ false = (let e : value_under c.args.name c.self.inside.named.entries ≡ None = search rules in ap is_some e) in
    let more : c.in_ok-held.held ≡ c.self.inside.held + 1 = search rules in
    named_new _ m records S c.args.name c.args.cursor.0 c.args.value.now low fresh c.put.new.names.entries c.in_ok-held.held none
    c.in_ok-put.ensures.finds c.in_ok-put.ensures.len c.in_ok-put.ensures.distinct more
