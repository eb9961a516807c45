use Rattle.std.proofs.Common.{◌≡◌, ◌∙◌, ltb, not, cond, false, sym, ap, subst, arith}
use Rattle.std.proofs.lemmas.Bool.Decides.{nat_tests}
use Rattle.std.specs.List.{IsDistinct}
use Rattle.std.specs.Str.{bytes_eq}
use Rattle.boki_model.specs.Maps.{has}
use Rattle.obj_store.specs.Kept.{StoreState, KeptObject}
use Rattle.obj_store.specs.StandsFor.{StandsFor}
use Rattle.obj_store.specs.Steps.{raised_to}
use Rattle.obj_store.proofs.Fences.{fences_raised}
use Rattle.obj_store.proofs.store.ObjStore.raise_group.Goals as goal

pub returns-clause-ok : goal.returns-clause-ok
returns-clause-ok c = λ m records stands.
    let S = subst (λ (k : StoreState). StandsFor k m records) (sym c.self.view_is) stands in
    let low : ltb c.args.at.0 m.floor ≡ false = (let e = S.floor in grind (arith, nat_tests)) in
    let wide = c.in_ok-ensure_all.ensures.same in
    let up = c.raise_all.ensures in (
      ap not (sym low),
      fences_raised _ m records S c.args.keys.now c.args.at.0 c.raise_all.new.objects.entries low
          (λ k. up.objects k ∙ ap (λ (o : KeptObject). cond (has k c.args.keys.now) (raised_to c.args.at.0 o) o) (wide.objects k))
          (up.total ∙ wide.total) (λ d. subst (IsDistinct bytes_eq) (sym up.keys) (wide.distinct d)),
    )
