use Rattle.std.proofs.Common.{◌∙◌, ◌≤◌, sym, ap, subst, arith}
use Rattle.std.specs.Option.{option_copied}
use Rattle.boki_model.specs.Writes.{fenced_answer}
use Rattle.obj_store.specs.Kept.{StoreState}
use Rattle.obj_store.specs.StandsFor.{StandsFor}
use Rattle.obj_store.specs.Answers.{IsLastLogged}
use Rattle.obj_store.proofs.Answering.{read_fenced_is}
use Rattle.obj_store.proofs.Puts.{up}
use Rattle.obj_store.proofs.store.ObjStore.read_before.Goals as goal

pub returns-in-Some-clause-read : goal.returns-in-Some-clause-read
returns-in-Some-clause-read c = λ m records stands told.
    let S = subst (λ (k : StoreState). StandsFor k m records) (sym c.self.view_is) stands in
    let T = subst (λ (k : StoreState). IsLastLogged c.args.key.now c.args.at.0 k records (option_copied c.args.logged)) (sym c.self.view_is) told in
    let le : m.floor ≤ c.args.at.0 = (let e = S.floor in omega arith) in
    ap fenced_answer (sym (ap option_copied c.in-Some.is)) ∙ c.last_before.ensures (up _ m records S c.args.key.now) ∙ read_fenced_is _ m records S c.args.key.now c.args.at.0 (option_copied c.args.logged) le T

pub returns-in-None-clause-read : goal.returns-in-None-clause-read
returns-in-None-clause-read c = λ m records stands told.
    let S = subst (λ (k : StoreState). StandsFor k m records) (sym c.self.view_is) stands in
    let T = subst (λ (k : StoreState). IsLastLogged c.args.key.now c.args.at.0 k records (option_copied c.args.logged)) (sym c.self.view_is) told in
    let le : m.floor ≤ c.args.at.0 = (let e = S.floor in omega arith) in
    ap fenced_answer (sym (ap option_copied c.in-None.is)) ∙ c.last_before.ensures (up _ m records S c.args.key.now) ∙ read_fenced_is _ m records S c.args.key.now c.args.at.0 (option_copied c.args.logged) le T
