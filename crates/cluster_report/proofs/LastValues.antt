-- The values of the known keys are the objects of the definition.
use Rattle.std.proofs.Common.{◌≡◌, ◌⊎◌, inl, inr, ℕ, suc, Bool, true, false, cond, ltb, is_lt, ◌||◌, List, [], ◌∷◌, ◌++◌, Option, Some, None, option_map, refl, sym, ap, ◌∙◌, arith}
use Rattle.std.specs.Prelude.{bytes_eq}
use Rattle.std.specs.Option.{option_or}
use Rattle.std.specs.Map.{keys_of}
use Rattle.std.specs.FinMap.Entries.{below_all, is_sorted}
use Rattle.std.proofs.lemmas.Bool.{and_parts, and_from, lt-ltb}
use Rattle.lb_base.specs.declared.value.Value.{Value}
use Rattle.lb_base.specs.declared.value.Value.TheVariants.{Nothing}
use Rattle.boki_types.specs.declared.body.Body.{Body}
use Rattle.boki_types.specs.declared.body.Body.TheVariants as b
use Rattle.boki_types.specs.declared.store.Name.{Name}
use Rattle.boki_model.specs.Live.{Live}
use Rattle.boki_model.specs.LogLaws.{FallBelow}
use Rattle.boki_model.specs.MapLaws.{InOrder}
use Rattle.boki_model.specs.Maps.{key_order, get, put, has}
use Rattle.boki_model.specs.Writes.{Store, NamedValue, Version, Write, write_at, prepend_some, here_or_named, logged_write_of, logged_write, logged_writes, version_writes, initial_writes, initial_keys, logged_key, logged_keys_below, last_write_below, last_value_below}
use Rattle.boki_model.proofs.Logs.{fall_more}
use Rattle.boki_model.proofs.KeyMaps.{put_in_order}
use Rattle.boki_machine.specs.Reports.{objects, add_value}
use Rattle.boki_machine.specs.Step.{seqnum}
use Rattle.exactly_once.proofs.Log.MapChanges.{same_itself, same_key, keys_cases, get-put, get_first}
use Rattle.exactly_once.proofs.Simulation.ReportsAgree.{less_apart, objects_same}
use Rattle.obj_store.specs.Keys.{version_keys, keys_in}
use Rattle.obj_store.specs.StandsFor.{logged_of, last_logged}
use Rattle.hm_read.specs.declared.last.LastWrite.{LastWrite}
use Rattle.hm_read.specs.LastWrites.{write_parts}
use Rattle.cluster_report.specs.Folded.{LastWrites, with_keys, with_write, writes_in}
use Rattle.cluster_report.specs.Told.{IsLast, AreLast, values_upto}

-- a key below all others isn't found among them
not_found : {V : Type 0} (k : List ℕ) (m : List (List ℕ × V)) → below_all key_order k m ≡ true → get k m ≡ None
not_found k [] below = refl
not_found k (x ∷ m) below =
    let parts = and_parts (is_lt (key_order k x.0)) (below_all key_order k m) below in
    ap (λ t. cond t (Some x.1) (get k m)) (less_apart (key_order k x.0) parts.0) ∙ not_found k m parts.1

-- a key that isn't there once another was put
absent_put : {V : Type 0} (q k : List ℕ) (v : V) (m : List (List ℕ × V)) → get q (put k v m) ≡ None → (bytes_eq q k ≡ false) × (get q m ≡ None)
absent_put q k v m none = at (bytes_eq q k) refl (sym (get-put q k v m) ∙ none)
  where
    at : (t : Bool) → bytes_eq q k ≡ t → cond t (Some v) (get q m) ≡ None → (bytes_eq q k ≡ false) × (get q m ≡ None)
    at true e none = absurd (let z : ⊥ = cc in z)
    at false e none = (e, none)

-- The values of keys, as a map.
module _ (last : ℕ) (m : Store) (records : List (Live Body)) where
  abbrev value_of : List ℕ → Option Value
  value_of key = last_value_below key (suc last) 0 m records

  below_values : (k : List ℕ) (es : LastWrites) → below_all key_order k es ≡ true → below_all key_order k (values_upto last m records es) ≡ true
  below_values k [] below = refl
  below_values k (e ∷ es) below =
      let parts = and_parts (is_lt (key_order k e.0)) (below_all key_order k es) below in at (value_of e.0) parts.0 (below_values k es parts.1)
    where
      at :
          (o : Option Value) → is_lt (key_order k e.0) ≡ true → below_all key_order k (values_upto last m records es) ≡ true
          → below_all key_order k (add_value e.0 o (values_upto last m records es)) ≡ true
      at None lt rest = rest
      at (Some v) lt rest = and_from (is_lt (key_order k e.0)) (below_all key_order k (values_upto last m records es)) lt rest

  values_in_order : (es : LastWrites) → InOrder es → InOrder (values_upto last m records es)
  values_in_order [] is = refl
  values_in_order (e ∷ es) is =
      let parts = and_parts (below_all key_order e.0 es) (is_sorted key_order es) is in
      at (value_of e.0) (below_values e.0 es parts.0) (values_in_order es parts.1)
    where
      at :
          (o : Option Value) → below_all key_order e.0 (values_upto last m records es) ≡ true → InOrder (values_upto last m records es)
          → InOrder (add_value e.0 o (values_upto last m records es))
      at None below rest = rest
      at (Some v) below rest = and_from (below_all key_order e.0 (values_upto last m records es)) (is_sorted key_order (values_upto last m records es)) below rest

  -- a key that none of the entries has
  no_value : (q : List ℕ) (es : LastWrites) → get q es ≡ None → get q (values_upto last m records es) ≡ None
  no_value q [] none = refl
  no_value q (e ∷ es) none = at (bytes_eq q e.0) refl (sym (get_first q e es) ∙ none) (no_value q es)
    where
      skip : bytes_eq q e.0 ≡ false → (o : Option Value) → get q (values_upto last m records es) ≡ None → get q (add_value e.0 o (values_upto last m records es)) ≡ None
      skip apart None rest = rest
      skip apart (Some v) rest =
          get_first q (e.0, v) (values_upto last m records es)
          ∙ ap (λ t. cond t (Some v) (get q (values_upto last m records es))) apart ∙ rest

      at :
          (t : Bool) → bytes_eq q e.0 ≡ t → cond t (Some e.1) (get q es) ≡ None
          → (get q es ≡ None → get q (values_upto last m records es) ≡ None) → get q (values_upto last m records (e ∷ es)) ≡ None
      at true t none ih = absurd (let z : ⊥ = cc in z)
      at false t none ih = skip t (value_of e.0) (ih none)

  -- and one that one of them has
  value_there : (q : List ℕ) (w : Option LastWrite) (es : LastWrites) → InOrder es → get q es ≡ Some w → get q (values_upto last m records es) ≡ value_of q
  value_there q w [] is there = absurd (let z : ⊥ = cc in z)
  value_there q w (e ∷ es) is there =
      let parts = and_parts (below_all key_order e.0 es) (is_sorted key_order es) is in
      at (bytes_eq q e.0) refl (sym (get_first q e es) ∙ there) (no_value e.0 es (not_found e.0 es parts.0)) (value_there q w es parts.1)
    where
      here : (o : Option Value) → bytes_eq q e.0 ≡ true → get q (values_upto last m records es) ≡ None → get q (add_value e.0 o (values_upto last m records es)) ≡ o
      here None same none = none
      here (Some v) same none =
          get_first q (e.0, v) (values_upto last m records es) ∙ ap (λ t. cond t (Some v) (get q (values_upto last m records es))) same

      skip :
          (o : Option Value) → bytes_eq q e.0 ≡ false → get q (values_upto last m records es) ≡ value_of q
          → get q (add_value e.0 o (values_upto last m records es)) ≡ value_of q
      skip None apart rest = rest
      skip (Some v) apart rest =
          get_first q (e.0, v) (values_upto last m records es)
          ∙ ap (λ t. cond t (Some v) (get q (values_upto last m records es))) apart ∙ rest

      at :
          (t : Bool) → bytes_eq q e.0 ≡ t → cond t (Some e.1) (get q es) ≡ Some w → get e.0 (values_upto last m records es) ≡ None
          → (get q es ≡ Some w → get q (values_upto last m records es) ≡ value_of q) → get q (values_upto last m records (e ∷ es)) ≡ value_of q
      at true t found none ih =
          let same : q ≡ e.0 = same_key q e.0 t in
          here (value_of e.0) t (ap (λ k. get k (values_upto last m records es)) same ∙ none) ∙ ap value_of (sym same)
      at false t found none ih = skip (value_of e.0) t (ih found)

-- The known keys: no key that isn't among them has a write.
module _ (q : List ℕ) where
  absent_listed : {V : Type 0} (es : List (List ℕ × V)) → has q (keys_of es) ≡ false → get q es ≡ None
  absent_listed [] absent = refl
  absent_listed (e ∷ es) absent = get_first q e es ∙ at (bytes_eq q e.0) absent (absent_listed es)
    where
      at : (t : Bool) → (t || has q (keys_of es)) ≡ false → (has q (keys_of es) ≡ false → get q es ≡ None) → cond t (Some e.1) (get q es) ≡ None
      at true absent ih = absurd (let z : ⊥ = cc in z)
      at false absent ih = ih absent

  absent_keys : (ks : List (List ℕ)) (es : LastWrites) → get q (with_keys ks es) ≡ None → (has q ks ≡ false) × (get q es ≡ None)
  absent_keys [] es none = (refl, none)
  absent_keys (k ∷ ks) es none =
      let rest = absent_keys ks (put k None es) none in
      let here = absent_put q k None es rest.1 in
      (ap (λ t. t || has q ks) here.0 ∙ rest.0, here.1)

  absent_versions : (vs : List Version) (keys : List (List ℕ × Value)) → get q (version_keys vs keys) ≡ None → (version_writes q vs ≡ []) × (get q keys ≡ None)
  absent_versions [] keys none = (refl, none)
  absent_versions (v ∷ vs) keys none =
      let here = absent_put q v.key Nothing (version_keys vs keys) none in
      let rest = absent_versions vs keys here.1 in
      (ap (λ t. cond t (write_at v.cursor v.number v.value ∷ version_writes q vs) (version_writes q vs)) here.0 ∙ rest.0, rest.1)

  absent_logged : (n : ℕ) (xs : List (Live Body)) (keys : List (List ℕ × Value)) → get q (logged_keys_below n xs keys) ≡ None → get q keys ≡ None
  absent_logged n [] keys none = none
  absent_logged n (x ∷ xs) keys none = absent_logged n xs keys (at (ltb x.seq n) (logged_write x.holds) none)
    where
      at : (t : Bool) (o : Option (List ℕ × (Name × Option Value))) → get q (logged_key t o (logged_keys_below n xs keys)) ≡ None → get q (logged_keys_below n xs keys) ≡ None
      at true None none = none
      at true (Some w) none = (absent_put q w.0 Nothing (logged_keys_below n xs keys) none).1
      at false o none = none

  absent_initial : (xs : List (List ℕ × Value)) → get q (initial_keys xs) ≡ None → get q xs ≡ None
  absent_initial [] none = refl
  absent_initial (x ∷ xs) none =
      let here = absent_put q x.0 Nothing (initial_keys xs) none in
      get_first q x xs ∙ ap (λ t. cond t (Some x.1) (get q xs)) here.0 ∙ absent_initial xs here.1

  module _ (keys : List (List ℕ)) (named : List NamedValue) where
    absent_written : (xs : List (Live Body)) → get q (writes_in keys xs) ≡ None → (logged_writes q named xs ≡ []) × (get q (with_keys keys []) ≡ None)
    absent_written [] none = (refl, none)
    absent_written (x ∷ xs) none = at x.holds none (absent_written xs)
      where
        at :
            (body : Body) → get q (with_write x.seq body (writes_in keys xs)) ≡ None
            → (get q (writes_in keys xs) ≡ None → (logged_writes q named xs ≡ []) × (get q (with_keys keys []) ≡ None))
            → (prepend_some (logged_write_of q x.seq named (logged_write body)) (logged_writes q named xs) ≡ []) × (get q (with_keys keys []) ≡ None)
        at (b.Write p i place key here) none ih =
            let put_there = absent_put q key (Some (record { seq = seqnum x.seq; name = record { path = p; place = place }; here = here })) (writes_in keys xs) none in
            let rest = ih put_there.1 in
            (ap (λ t. prepend_some (cond t (option_map (write_at x.seq 0) (here_or_named here (record { path = p; place = place }) named)) None) (logged_writes q named xs)) put_there.0 ∙ rest.0, rest.1)
        at _ none ih = ih none

  unwritten : (n : ℕ) (m : Store) (records : List (Live Body)) → get q (writes_in (keys_in m records) records) ≡ None → last_value_below q n 0 m records ≡ None
  unwritten n m records none =
      let logged = absent_written (keys_in m records) m.named records none in
      let listed = absent_keys (keys_in m records) [] logged.1 in
      let known = absent_listed (version_keys m.versions (logged_keys_below m.floor records (initial_keys m.initial))) listed.0 in
      let versions = absent_versions m.versions (logged_keys_below m.floor records (initial_keys m.initial)) known in
      let initial = absent_initial m.initial (absent_logged m.floor records (initial_keys m.initial) versions.1) in
      ap (λ (ws : List Write). option_map (λ (w : Write). w.value) (last_write_below n 0 ((ws ++ logged_writes q m.named records) ++ initial_writes q m.initial))) versions.0
      ∙ ap (λ (ws : List Write). option_map (λ (w : Write). w.value) (last_write_below n 0 (ws ++ initial_writes q m.initial))) logged.0
      ∙ ap (λ (o : Option Value). option_map (λ (w : Write). w.value) (last_write_below n 0 (prepend_some (option_map (write_at 0 0) o) []))) initial

-- The entries stand in order.
module _ (keys : List (List ℕ)) where
  keys_in_order : (ks : List (List ℕ)) (es : LastWrites) → InOrder es → InOrder (with_keys ks es)
  keys_in_order [] es is = is
  keys_in_order (k ∷ ks) es is = keys_in_order ks (put k None es) (put_in_order k None es is)

  writes_in_order : (xs : List (Live Body)) → InOrder (writes_in keys xs)
  writes_in_order [] = keys_in_order keys [] refl
  writes_in_order (x ∷ xs) = at x.holds (writes_in_order xs)
    where
      at : (body : Body) → InOrder (writes_in keys xs) → InOrder (with_write x.seq body (writes_in keys xs))
      at (b.Write p i place key here) is = put_in_order key (Some (record { seq = seqnum x.seq; name = record { path = p; place = place }; here = here })) (writes_in keys xs) is
      at _ is = is

module _ (last : ℕ) (m : Store) (records : List (Live Body)) where
  abbrev entries : LastWrites
  entries = writes_in (keys_in m records) records

  value_found : (q : List ℕ) (o : Option (Option LastWrite)) → get q entries ≡ o → get q (values_upto last m records entries) ≡ last_value_below q (suc last) 0 m records
  value_found q None none = no_value last m records q entries none ∙ sym (unwritten q (suc last) m records none)
  value_found q (Some w) there = value_there last m records q w entries (writes_in_order (keys_in m records) records) there

  pub objects_are : values_upto last m records entries ≡ objects (suc last) m records
  objects_are =
      objects_same (suc last) m records (values_upto last m records entries)
      (values_in_order last m records entries (writes_in_order (keys_in m records) records)) (λ q. value_found q (get q entries) refl)

-- Each entry has its key's last write.
module _ (q : List ℕ) (keys : List (List ℕ)) (n : ℕ) where
  keys_unwritten : (ks : List (List ℕ)) (es : LastWrites) (w : Option LastWrite) → ((v : Option LastWrite) → get q es ≡ Some v → v ≡ None) → get q (with_keys ks es) ≡ Some w → w ≡ None
  keys_unwritten [] es w none there = none w there
  keys_unwritten (k ∷ ks) es w none there = keys_unwritten ks (put k None es) w (λ v found. at v (bytes_eq q k) (sym (get-put q k None es) ∙ found)) there
    where
      at : (v : Option LastWrite) (t : Bool) → cond t (Some None) (get q es) ≡ Some v → v ≡ None
      at v true found = cc
      at v false found = none v found

  last_there : (xs : List (Live Body)) (w : Option LastWrite) → FallBelow n xs → get q (writes_in keys xs) ≡ Some w → option_map write_parts w ≡ last_logged q n xs
  last_there [] w fall there = ap (option_map write_parts) (keys_unwritten keys [] w (λ v found. absurd (let z : ⊥ = cc in z)) there)
  last_there (x ∷ xs) w fall there =
      at x.holds there (λ there. last_there xs w (fall_more x.seq n xs (omega (arith, fall.1)) fall.2) there)
      ∙ ap (λ t. option_or (logged_of q x.seq t (logged_write x.holds)) (last_logged q n xs)) (sym (lt-ltb x.seq n fall.1))
    where
      at :
          (body : Body) → get q (with_write x.seq body (writes_in keys xs)) ≡ Some w
          → (get q (writes_in keys xs) ≡ Some w → option_map write_parts w ≡ last_logged q n xs)
          → option_map write_parts w ≡ option_or (logged_of q x.seq true (logged_write body)) (last_logged q n xs)
      at (b.Write p i place key here) there ih = by (bytes_eq q key) (sym (get-put q key (Some written) (writes_in keys xs)) ∙ there)
        where
          written : LastWrite
          written = record { seq = seqnum x.seq; name = record { path = p; place = place }; here = here }

          by :
              (t : Bool) → cond t (Some (Some written)) (get q (writes_in keys xs)) ≡ Some w
              → option_map write_parts w ≡ option_or (cond t (Some (x.seq, (written.name, here))) None) (last_logged q n xs)
          by true found = let same : w ≡ Some written = cc in ap (option_map write_parts) same
          by false found = ih found
      at _ there ih = ih there

are_last_of : (last : ℕ) (records : List (Live Body)) (es : LastWrites) → InOrder es → ((q : List ℕ) (w : Option LastWrite) → get q es ≡ Some w → IsLast last records q w) → AreLast last records es
are_last_of last records [] is each = tt
are_last_of last records (e ∷ es) is each =
    let parts = and_parts (below_all key_order e.0 es) (is_sorted key_order es) is in (
      each e.0 e.1 (get_first e.0 e es ∙ ap (λ t. cond t (Some e.1) (get e.0 es)) (same_itself e.0)),
      are_last_of last records es parts.1 (λ q w there. each q w (later q w (not_found e.0 es parts.0) there)),
    )
  where
    later : (q : List ℕ) (w : Option LastWrite) → get e.0 es ≡ None → get q es ≡ Some w → get q (e ∷ es) ≡ Some w
    later q w none there = at (keys_cases q e.0)
      where
        at : (q ≡ e.0) ⊎ (bytes_eq q e.0 ≡ false) → get q (e ∷ es) ≡ Some w
        at (inl same) = let both : None ≡ Some w = sym none ∙ ap (λ k. get k es) (sym same) ∙ there in absurd (let z : ⊥ = cc in z)
        at (inr apart) = get_first q e es ∙ ap (λ t. cond t (Some e.1) (get q es)) apart ∙ there

pub are_last : (last : ℕ) (keys : List (List ℕ)) (records : List (Live Body)) → FallBelow (suc last) records → AreLast last records (writes_in keys records)
are_last last keys records fall =
    are_last_of last records (writes_in keys records) (writes_in_order keys records) (λ q w there. last_there q keys (suc last) records w fall there)
