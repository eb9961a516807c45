use Rattle.std.proofs.Common.{◌≡◌, ◌∙◌, ◌≤◌, ◌<◌, ◌+◌, ◌^◌, ℕ, List, length, sym, ap, subst, arith, rules}
use Rattle.obj_store.specs.declared.objects.SweptWrite.{SweptWrite}
use Rattle.obj_store.specs.Kept.{StoreState, KeptObject, total}
use Rattle.obj_store.specs.StandsFor.{StandsFor}
use Rattle.obj_store.specs.Steps.{LiftsBases, swept_objects, has_swept_write}
use Rattle.obj_store.specs.Sweeps.{AllHaveValues}
use Rattle.obj_store.proofs.Entries.{has_keys}
use Rattle.obj_store.proofs.Puts.{all_up}
use Rattle.obj_store.proofs.Swept.{swept_stands}
use Rattle.obj_store.proofs.store.ObjStore.sweep.Goals as goal

pub lift_all-requires : goal.lift_all-requires
lift_all-requires c = λ k h.
    has_keys c.ensure_swept.new.objects.entries c.sweep_objects.new.objects.entries c.sweep_objects.ensures.keys k
    ∙ c.in_ok-ensure_swept.ensures.there k (ap (has_swept_write k) c.as_slice.ensures.value ∙ h)

pub returns-clause-ok : goal.returns-clause-ok
returns-clause-ok c = λ m records stands is valued.
    let S = subst (λ (k : StoreState). StandsFor k m records) (sym c.self.view_is) stands in
    let V = subst (λ (k : StoreState). AllHaveValues k.named c.args.settled.now) (sym c.self.view_is) valued in
    let W = subst (AllHaveValues c.self.inside.named.entries) is V in
    let le : m.floor ≤ c.args.floor.0 = (let e = S.floor in omega arith) in
    let wide = c.in_ok-ensure_swept.ensures.same in
    let settles = c.sweep_objects.ensures.settled (all_up _ m records S c.ensure_swept.new.objects.entries wide) in
    let lifts = subst (λ (ps : List SweptWrite). LiftsBases ps (swept_objects c.args.floor.0 c.ensure_swept.new.objects.entries) c.lift_all.new.objects.entries) c.in_ok-passed.ensures
    (subst (λ (es : List (List ℕ × KeptObject)). LiftsBases c.in_ok-passed.passed.items es c.lift_all.new.objects.entries) settles c.lift_all.ensures) in
    let small : c.self.inside.held + length c.args.settled.now < 2 ^ 64 = (let e : c.in_ok-ok_or.field-0 ≡ c.self.inside.held + length c.args.settled.now = search rules in omega arith) in
    swept_stands _ m records S c.args.floor.0 le W c.args.settled.now c.ensure_swept.new.objects.entries c.lift_all.new.objects.entries c.remove_all.new.names.entries c.saturating_add-self-inside.result
    is wide lifts c.remove_all.ensures.finds c.remove_all.ensures.distinct c.remove_all.ensures.len small
    (λ fits. let e : c.count.result ≡ total c.lift_all.new.objects.entries = c.count.ensures (omega (arith, fits)) in omega arith)
