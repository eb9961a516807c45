-- The keys that a store knows.
use Rattle.std.specs.Prelude.{ℕ, ◌==◌, cond, List, [], ◌∷◌}
use Rattle.std.specs.Map.{keys_of}
use Rattle.std.specs.BTreeMap.{insert_entry}
use Rattle.lb_base.specs.declared.value.Value.{Value}
use Rattle.boki_types.specs.declared.body.Body.{Body}
use Rattle.boki_model.specs.Live.{Live}
use Rattle.boki_model.specs.Maps.{key_order}
use Rattle.boki_model.specs.Writes.{Version, Store, add_key, initial_keys, logged_keys_below}
use Rattle.obj_store.specs.Kept.{KeptObject, count_of}

abbrev pub version_keys : List Version → List (List ℕ × Value) → List (List ℕ × Value)
version_keys [] keys = keys
version_keys (v ∷ vs) keys = add_key v.key (version_keys vs keys)

-- those of initial objects, of versions, and of live logged writes below the floor, each once, in the order of their bytes
abbrev pub keys_in : Store → List (Live Body) → List (List ℕ)
keys_in m records = keys_of (version_keys m.versions (logged_keys_below m.floor records (initial_keys m.initial)))

-- keys in order, with that of one more object, where something is kept of it
abbrev pub with_key : List ℕ × KeptObject → List (List ℕ × Unit {0}) → List (List ℕ × Unit {0})
with_key e keys = cond (count_of e.1 == 0) keys (insert_entry key_order keys e.0 tt)

-- keys in order, with those of objects of which something is kept
abbrev pub with_keys : List (List ℕ × KeptObject) → List (List ℕ × Unit {0}) → List (List ℕ × Unit {0})
with_keys [] keys = keys
with_keys (e ∷ es) keys = with_keys es (with_key e keys)
