use Rattle.std.proofs.Common.{◌∙◌, ◌<◌, ◌^◌, sum_by, sym, subst, arith}
use Rattle.std.specs.Map.{values_of}
use Rattle.obj_store.specs.Kept.{StoreState}
use Rattle.obj_store.specs.StandsFor.{StandsFor}
use Rattle.obj_store.specs.Steps.{count_at_cursor}
use Rattle.obj_store.proofs.Entries.{widens_nothing}
use Rattle.obj_store.proofs.Held.{counts_le, versions_at_is}
use Rattle.obj_store.proofs.Puts.{all_up}
use Rattle.obj_store.proofs.store.ObjStore.versions_at.Goals as goal

pub returns : goal.returns
returns c = λ m records stands le.
    let S = subst (λ (k : StoreState). StandsFor k m records) (sym c.self.view_is) stands in
    let es = c.self.inside.objects.entries in
    let small : sum_by (count_at_cursor c.args.cursor.0) (values_of es) < 2 ^ 64 = (let e = S.sound.count in omega (arith, counts_le c.args.cursor.0 es)) in
    let count = c.count_at.ensures (all_up _ m records S es (widens_nothing es)) small in
    (let e = S.sound.count in omega (arith, count, counts_le c.args.cursor.0 es)) ∙ versions_at_is _ m records S c.args.cursor.0 le
