-- Each key, version and name stands once in the store.
use Rattle.std.proofs.Common.{◌≡◌, ⊎_elim, ℕ, suc, Bool, true, false, cond, ltb, ◌&&◌, not, List, [], ◌∷◌, Some, refl, sym, ◌∙◌, subst}
use Rattle.std.specs.Prelude.{is_some}
use Rattle.std.specs.List.{filter, AllByRecursion}
use Rattle.std.specs.Ordering.{is_lt}
use Rattle.std.specs.FinMap.Entries.{is_sorted, below_all}
use Rattle.std.proofs.lemmas.Bool.{and_parts}
use Rattle.std.proofs.lemmas.Map.Text.{is_eq-slice_cmp}
use Rattle.lb_base.specs.declared.value.Value.{Value}
use Rattle.boki_types.specs.declared.body.Body.{Body}
use Rattle.boki_types.specs.declared.event.Event.{Event}
use Rattle.boki_types.specs.declared.line.StepLine.{StepLine}
use Rattle.boki_types.specs.declared.log.Sent.{Sent}
use Rattle.boki_types.specs.declared.plan.Setup.{Setup}
use Rattle.boki_types.specs.declared.program.Function.{Function}
use Rattle.boki_types.specs.declared.store.Name.{Name}
use Rattle.boki_model.specs.Live.{Live}
use Rattle.boki_model.specs.Maps.{key_order}
use Rattle.boki_model.specs.MapLaws.{InOrder}
use Rattle.boki_model.specs.Writes.{Store, NamedValue, Version, fence, value_under_name, version_value, has_version, after_put, add_if_new, keys_below}
use Rattle.boki_machine.specs.Attempt.{Attempt}
use Rattle.boki_machine.specs.Step.{next_write_name, step, miss}
use Rattle.boki_machine.specs.Machine.{Machine, view, apply_event, apply_events}
use Rattle.exactly_once.specs.FurtherLaws.StoreBound.{NoDuplicates, is_same_key, is_same_version, is_same_stored}
use Rattle.exactly_once.proofs.Simulation.ReportsAgree.{less_apart, keys_in_order}
use Rattle.exactly_once.proofs.Machines.StepEffects.{Effect, leaves, stops, stops_there, fences_keys, puts, names_value, step_effect, miss_effect}
use Rattle.exactly_once.proofs.Machines.EventEffects.{store_keeps}

-- Keys.

apart_below : (x : List ℕ × Value) (m : List (List ℕ × Value)) → below_all key_order x.0 m ≡ true → AllByRecursion (λ y. is_same_key x y ≡ false) m
apart_below x [] e = tt
apart_below x (y ∷ m) e =
    let parts = and_parts (is_lt (key_order x.0 y.0)) (below_all key_order x.0 m) e in
    (sym (is_eq-slice_cmp x.0 y.0) ∙ less_apart (key_order x.0 y.0) parts.0, apart_below x m parts.1)

sorted_once : (m : List (List ℕ × Value)) → InOrder m → NoDuplicates is_same_key m
sorted_once [] e = tt
sorted_once (x ∷ m) e = let parts = and_parts (below_all key_order x.0 m) (is_sorted key_order m) e in (apart_below x m parts.0, sorted_once m parts.1)

pub keys_once : (n : ℕ) (store : Store) (records : List (Live Body)) → NoDuplicates is_same_key (keys_below n store records)
keys_once n store records = sorted_once (keys_below n store records) (keys_in_order n store records)

-- Versions and names.

module _ {A : Type 0} (same : A → A → Bool) (test : A → Bool) where
  kept_apart : (x : A) (xs : List A) → AllByRecursion (λ y. same x y ≡ false) xs → AllByRecursion (λ y. same x y ≡ false) (filter test xs)
  kept_apart x [] all = tt
  kept_apart x (y ∷ ys) all = at (test y) (kept_apart x ys all.1)
    where
      at : (t : Bool) → AllByRecursion (λ z. same x z ≡ false) (filter test ys) → AllByRecursion (λ z. same x z ≡ false) (cond t (y ∷ filter test ys) (filter test ys))
      at true ih = (all.0, ih)
      at false ih = ih

  pub kept_once : (xs : List A) → NoDuplicates same xs → NoDuplicates same (filter test xs)
  kept_once [] once = tt
  kept_once (x ∷ xs) once = at (test x) (kept_once xs once.1)
    where
      at : (t : Bool) → NoDuplicates same (filter test xs) → NoDuplicates same (cond t (x ∷ filter test xs) (filter test xs))
      at true ih = (kept_apart x xs once.0, ih)
      at false ih = ih

version_new : (v : Version) (vs : List Version) → is_some (version_value v.key v.cursor v.number vs) ≡ false → AllByRecursion (λ u. is_same_version v u ≡ false) vs
version_new v [] e = tt
version_new v (u ∷ vs) e = at (version_new v vs) (is_same_version v u) refl e
  where
    at : (is_some (version_value v.key v.cursor v.number vs) ≡ false → AllByRecursion (λ u. is_same_version v u ≡ false) vs) → (t : Bool) → is_same_version v u ≡ t → is_some (cond t (Some u.value) (version_value v.key v.cursor v.number vs)) ≡ false → (is_same_version v u ≡ false) × AllByRecursion (λ u. is_same_version v u ≡ false) vs
    at ih true f e = let no_way : true ≡ false = e in cc
    at ih false f e = (f, ih e)

name_new : (s : NamedValue) (ss : List NamedValue) → is_some (value_under_name s.name ss) ≡ false → AllByRecursion (λ t. is_same_stored s t ≡ false) ss
name_new s [] e = tt
name_new s (t ∷ ss) e = at (name_new s ss) (is_same_stored s t) refl e
  where
    at : (is_some (value_under_name s.name ss) ≡ false → AllByRecursion (λ t. is_same_stored s t ≡ false) ss) → (b : Bool) → is_same_stored s t ≡ b → is_some (cond b (Some t.value) (value_under_name s.name ss)) ≡ false → (is_same_stored s t ≡ false) × AllByRecursion (λ t. is_same_stored s t ≡ false) ss
    at ih true f e = let no_way : true ≡ false = e in cc
    at ih false f e = (f, ih e)

pub record StandOnce (store : Store) : Type 0 where
  pub versions : NoDuplicates is_same_version store.versions
  pub named : NoDuplicates is_same_stored store.named

put_once : (key : List ℕ) (c j : ℕ) (value : Value) (store : Store) → StandOnce store → StandOnce (after_put key c j value store)
put_once key c j value store once = at (ltb c store.floor) (has_version key c j store) (ltb c (fence key store.fences)) refl
  where
    v : Version
    v = record { key = key; cursor = c; number = j; value = value }

    at : (below there fenced : Bool) → has_version key c j store ≡ there → StandOnce (cond (not below && not there && not fenced) (record store { versions = v ∷ store.versions }) store)
    at true there fenced e = once
    at false true fenced e = once
    at false false true e = once
    at false false false e = record { versions = (version_new v store.versions e, once.versions); named = once.named }

name_once : (name : Name) (value : Value) (store : Store) → StandOnce store → NoDuplicates is_same_stored (add_if_new name value store.named)
name_once name value store once = at (is_some (value_under_name name store.named)) refl
  where
    s : NamedValue
    s = record { name = name; value = value }

    at : (t : Bool) → is_some (value_under_name name store.named) ≡ t → NoDuplicates is_same_stored (cond t store.named (s ∷ store.named))
    at true e = once.named
    at false e = (name_new s store.named e, once.named)

module _ (setup : Setup) (fs : List Function) where
  effect_once : (t : Attempt) (store : Store) (seen : List (Live Body)) (at : Sent) (new : Store) (line : StepLine) → StandOnce store → Effect setup fs t store seen at new line → StandOnce new
  effect_once t store seen at new line once (leaves e said) = subst StandOnce (sym e) once
  effect_once t store seen at new line once (stops place begun e low) = subst StandOnce (sym e) once
  effect_once t store seen at new line once (stops_there place begun x found e low) = subst StandOnce (sym e) once
  effect_once t store seen at new line once (fences_keys place begun x keys found is e said) = subst StandOnce (sym e) (record { versions = once.versions; named = once.named })
  effect_once t store seen at new line once (puts place begun key value asked mode late e said) = subst StandOnce (sym e) (put_once key t.cursor (suc t.free_writes) value store once)
  effect_once t store seen at new line once (names_value place begun key value asked late e said) =
      subst StandOnce (sym e) (record { versions = once.versions; named = name_once (next_write_name t) value store once })

  step_once : (t : Attempt) (store : Store) (seen : List (Live Body)) (at : Sent) → StandOnce store → StandOnce (step setup fs store seen at t).store
  step_once t store seen at once =
      let move = step setup fs store seen at t in
      effect_once t store seen at move.store move.line once (step_effect setup fs t store seen at).1

  miss_once : (t : Attempt) (store : Store) (seen : List (Live Body)) → StandOnce store → StandOnce (miss setup fs store seen t).store
  miss_once t store seen once =
      let at : Sent = record { shard = 0; local = 0 } in
      ⊎_elim (λ e. subst StandOnce (sym e) once) (λ e. subst StandOnce (sym e) (step_once t store seen at once)) (miss_effect setup fs t store seen at)

  pub run_once : (es : List Event) (m : Machine) → StandOnce m.store → StandOnce (apply_events setup fs es m).machine.store
  run_once [] m once = once
  run_once (e ∷ es) m once =
      run_once es (apply_event setup fs m e).machine
      (store_keeps setup fs m StandOnce once (λ a at. step_once a m.store (view m a.engine) at once) (λ a. miss_once a m.store (view m a.engine) once) (λ n. record { versions = once.versions; named = once.named }) e)
