-- An object store that stands for a store does so after a sweep.
use Rattle.std.proofs.Common.{◌≡◌, ℕ, ◌+◌, ◌<◌, ◌≤◌, ◌^◌, max, Bool, true, false, cond, ◌||◌, List, [], length, bytes_eq, Option, None, refl, sym, ap, ◌∙◌, subst, arith}
use Rattle.std.specs.List.{IsDistinct}
use Rattle.std.specs.Map.{keys_of}
use Rattle.lb_base.specs.declared.value.Value.{Value}
use Rattle.boki_types.specs.declared.body.Body.{Body}
use Rattle.boki_types.specs.declared.store.Name.{Name}
use Rattle.boki_types.specs.declared.store.Settled.{Settled}
use Rattle.boki_model.specs.Live.{Live}
use Rattle.std.specs.Option.{option_or}
use Rattle.boki_model.specs.Writes.{Store, Write, last_write_below, logged_writes, version_writes, value_under_name, is_settled, after_sweep}
use Rattle.obj_store.specs.Ascending.{not_below}
use Rattle.obj_store.specs.Kept.{StoreState, KeptObject, object_in, last_of_two, same_name_pair, value_under, total}
use Rattle.obj_store.specs.StandsFor.{StandsFor, versions_from, kept_of, base_of, initial_write}
use Rattle.obj_store.specs.Steps.{AddsEmptyObjects, LiftsBases, swept_object, swept_objects, lifted}
use Rattle.obj_store.specs.Sweeps.{logged_between, AllHaveValues, swept_writes, has_settled}
use Rattle.obj_store.proofs.Lasts.{last_assoc, last_past, last_split, last_in_order, each_has, each_from, below_floor, apart_from}
use Rattle.obj_store.proofs.Versions.{writes_standing}
use Rattle.obj_store.proofs.Puts.{object_is}
use Rattle.obj_store.proofs.Reading.{to_model, base_low, or_last, each_high, each_numbered}
use Rattle.obj_store.proofs.Sweeping.{versions_swept, lifted_versions, lifted_fence, base_lifted, settled_grows, values_swept, total_settled, length_passed, settled_object, settled_keys}

module _ (kept : StoreState) (m : Store) (records : List (Live Body)) (stands : StandsFor kept m records) (g : ℕ) (le : m.floor ≤ g)
    (valued : AllHaveValues kept.named (logged_between m.floor g records)) where
  pub object_swept : (k : List ℕ) → lifted k (swept_writes kept.named (logged_between m.floor g records)) (swept_object g (kept_of k m records)) ≡ kept_of k (record m { floor = g }) records
  object_swept k = object_is _ _ base_is
      (lifted_versions k (swept_writes kept.named (logged_between m.floor g records)) (swept_object g (kept_of k m records)) ∙ versions_swept m.floor g k m.versions le)
      (lifted_fence k (swept_writes kept.named (logged_between m.floor g records)) (swept_object g (kept_of k m records)))
    where
      base_is : (lifted k (swept_writes kept.named (logged_between m.floor g records)) (swept_object g (kept_of k m records))).base ≡ base_of k (record m { floor = g }) records
      base_is =
          let V = version_writes k m.versions in
          let L = logged_writes k m.named records in
          let I = initial_write k m.initial in
          let Lh = last_write_below g 0 (not_below m.floor L) in
          let Vh = last_write_below g 0 (not_below m.floor V) in
          let Lf = last_write_below m.floor 0 L in
          let Vf = last_write_below m.floor 0 V in
          base_lifted kept m (to_model kept m records stands k) m.floor g le k records (swept_object g (kept_of k m records)) valued
          ∙ ap (last_of_two Lh) (
          ap (λ (o : Option Write). option_or o (base_of k m records)) (last_in_order g 0 (version_writes k (versions_from m.floor m.versions)) ∙ ap (last_write_below g 0) (writes_standing m.floor k m.versions))
          ∙ or_last m.floor Vh (base_of k m records)
          (each_has (λ w. (m.floor ≤ w.first) × (0 < w.second)) g 0 (not_below m.floor V) (each_high m.floor (λ w. 0 < w.second) V (each_numbered k m.versions stands.numbered)))
          (base_low kept m records stands k)
          ∙ last_past Vh Lf (last_of_two Vf I) (apart_from m.floor Vh Lf (each_has (λ w. m.floor ≤ w.first) g 0 (not_below m.floor V) (each_from m.floor V)) (below_floor m.floor L)))
          ∙ sym (last_assoc Lh Lf (last_of_two Vh (last_of_two Vf I)))
          ∙ ap (λ (o : Option Write). last_of_two o (last_of_two Vh (last_of_two Vf I))) (sym (last_split m.floor g 0 L le))
          ∙ ap (last_of_two (last_write_below g 0 L)) (sym (last_assoc Vh Vf I) ∙ ap (λ (o : Option Write). last_of_two o I) (sym (last_split m.floor g 0 V le)))

  pub swept_stands : (settled : List Settled) (es fs : List (List ℕ × KeptObject)) (gs : List ((List ℕ × ℕ) × Value)) (held : ℕ)
      → settled ≡ logged_between m.floor g records → AddsEmptyObjects kept.objects es → LiftsBases (swept_writes kept.named settled) (swept_objects g es) fs
      → ((n : Name) → value_under n gs ≡ cond (has_settled n settled) None (value_under n kept.named))
      → (IsDistinct same_name_pair (keys_of kept.named) → IsDistinct same_name_pair (keys_of gs)) → length gs ≤ length kept.named
      → kept.held + length settled < 2 ^ 64 → (total fs + length gs < 2 ^ 64 → held ≡ total fs + length gs)
      → StandsFor (record kept { objects = fs; named = gs; floor = g; held = held }) (after_sweep g m) records
  swept_stands settled es fs gs held is wide lifts finds distinct shorter small count =
      subst (λ (n : ℕ). StandsFor (record kept { objects = fs; named = gs; floor = g; held = held }) (record m { floor = n }) records) (let e : g ≡ max g m.floor = omega arith in e) record {
        floor = refl;
        objects = λ k. lifts.objects k ∙ ap (λ (ss : List Settled). lifted k (swept_writes kept.named ss) (object_in k (swept_objects g es))) is
            ∙ ap (lifted k (swept_writes kept.named (logged_between m.floor g records))) (settled_object g k es ∙ ap (swept_object g) (wide.objects k ∙ stands.objects k))
            ∙ object_swept k;
        named = λ q. finds q ∙ by q (has_settled q settled) (is_settled q m.floor records) (stands.named q)
            ∙ ap (λ b. cond b None (value_under_name q m.named)) (ap (λ (ss : List Settled). has_settled q ss || is_settled q m.floor records) is ∙ sym (settled_grows q m.floor g records le));
        sound = record {
          keys = subst (IsDistinct bytes_eq) (sym (lifts.keys ∙ settled_keys g es)) (wide.distinct stands.sound.keys);
          names = distinct stands.sound.names;
          count = count (omega (arith, lifts.total, total_settled g es, wide.total, length_passed kept.named settled, stands.sound.count, shorter, small));
        };
        numbered = stands.numbered;
        differ = stands.differ;
        valued = values_swept kept m.named m.floor g records (to_model kept m records stands []) stands.valued valued;
        end = stands.end;
        falls = stands.falls;
      }
    where
      by : (q : Name) (a b : Bool) → value_under q kept.named ≡ cond b None (value_under_name q m.named) → cond a None (value_under q kept.named) ≡ cond (a || b) None (value_under_name q m.named)
      by q true b e = refl
      by q false b e = e
