use Rattle.std.proofs.Common.{◌≡◌, ◌∙◌, ◌≤◌, ltb, false, sym, subst, arith}
use Rattle.std.proofs.lemmas.Bool.Decides.{nat_tests}
use Rattle.std.specs.Option.{option_copied}
use Rattle.obj_store.specs.Answers.{IsLastLogged}
use Rattle.obj_store.specs.Kept.{StoreState}
use Rattle.obj_store.specs.StandsFor.{StandsFor}
use Rattle.obj_store.proofs.Answering.{read_fenced_is}
use Rattle.obj_store.proofs.Fences.{one_raised}
use Rattle.obj_store.proofs.Puts.{up}
use Rattle.obj_store.proofs.store.ObjStore.read_fenced.Goals as goal

pub returns-clause-ok : goal.returns-clause-ok
returns-clause-ok c = λ m records stands told.
    let S = subst (λ (k : StoreState). StandsFor k m records) (sym c.self.view_is) stands in
    let T = subst (λ (k : StoreState). IsLastLogged c.args.key.now c.args.at.0 k records (option_copied c.args.logged)) (sym c.self.view_is) told in
    let le : m.floor ≤ c.args.at.0 = (let e = S.floor in omega arith) in
    let low : ltb c.args.at.0 m.floor ≡ false = grind (arith, nat_tests) in (
      c.in_ok-answer.ensures (up _ m records S c.args.key.now) ∙ read_fenced_is _ m records S c.args.key.now c.args.at.0 (option_copied c.args.logged) le T,
      one_raised _ m records S c.args.key.now c.args.at.0 _ c.raise.new.objects.entries low c.in_ok-ensure.ensures.same c.raise.ensures,
    )
