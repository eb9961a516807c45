-- What is put into the store leaves it kept.
use Rattle.std.proofs.Common.{◌≡◌, ℕ, ltb, Bool, true, false, cond, List, ◌∷◌, Option, Some, None, is_some, Result, Ok, Err, IfOk, refl}
use Rattle.lb_base.specs.declared.value.Value.{Value}
use Rattle.boki_types.specs.declared.body.Body.{Body}
use Rattle.boki_types.specs.declared.store.Name.{Name}
use Rattle.boki_types.specs.declared.store.Named.{Named}
use Rattle.boki_types.specs.declared.store.Put.{Put}
use Rattle.boki_model.specs.Live.{Live}
use Rattle.boki_model.specs.Writes.{Store, NamedValue, same_name, value_under_name, here_or_named, add_if_new, put_named, after_put_named, puts_version, put_at, after_put, after_read_fenced, raise_fences}
use Rattle.machine_laws.specs.Kept.{WritesHaveValues}
use Rattle.obj_store.specs.Kept.{StoreState}
use Rattle.obj_store.specs.StandsFor.{StandsFor}
use Rattle.hm_write.specs.Stores.{SettledIsOld, StoresNamed, PutsFree}

-- Values under names: one more takes none away.

still_valued :
    (here : Option Value) (name : Name) (s : NamedValue) (named : List NamedValue) (v : Value)
    → here_or_named here name named ≡ Some v → (w : Value) × (here_or_named here name (s ∷ named) ≡ Some w)
still_valued (Some h) name s named v e = (h, refl)
still_valued None name s named v e = at (same_name name s.name)
  where
    at : (b : Bool) → (w : Value) × (cond b (Some s.value) (value_under_name name named) ≡ Some w)
    at true = (s.value, refl)
    at false = (v, e)

added : (s : NamedValue) (named : List NamedValue) (records : List (Live Body)) → WritesHaveValues named records → WritesHaveValues (s ∷ named) records
added s named records are = record {
  valued = λ name x write.
      let has = are.valued name x write in
      let still = still_valued write.here name s named has.value has.kept in
      record { value = still.0; kept = still.1 };
  once = are.once;
  unsettled = are.unsettled;
}

module _ (m : Store) (records : List (Live Body)) (are : WritesHaveValues m.named records) where
  added_if_new : (name : Name) (value : Value) → WritesHaveValues (add_if_new name value m.named) records
  added_if_new name value = at (is_some (value_under_name name m.named))
    where
      at : (b : Bool) → WritesHaveValues (cond b m.named (record { name = name; value = value } ∷ m.named)) records
      at true = are
      at false = added (record { name = name; value = value }) m.named records are

  stored_values : (name : Name) (cursor : ℕ) (value : Value) → WritesHaveValues (after_put_named name cursor value m).named records
  stored_values name cursor value = at (ltb cursor m.floor)
    where
      at : (b : Bool) → WritesHaveValues (cond b m (record m { named = add_if_new name value m.named })).named records
      at true = are
      at false = added_if_new name value

  put_values : (key : List ℕ) (cursor k : ℕ) (value : Value) → WritesHaveValues (after_put key cursor k value m).named records
  put_values key cursor k value = at (puts_version key cursor k m)
    where
      at : (b : Bool) → WritesHaveValues (cond b (record m { versions = record { key = key; cursor = cursor; number = k; value = value } ∷ m.versions }) m).named records
      at true = are
      at false = are

  pub fenced_values : (keys : List (List ℕ)) (seq : ℕ) → WritesHaveValues (after_read_fenced keys seq m).named records
  fenced_values keys seq = at (ltb seq m.floor)
    where
      at : (b : Bool) → WritesHaveValues (cond b m (record m { fences = raise_fences keys seq m.fences })).named records
      at true = are
      at false = are

-- What the calls answer.

pub stores_named :
    {E : Type 0} (name : Name) (cursor : ℕ) (value : Value) (old new : StoreState) (result : Result Named E)
    → IfOk result (λ a. (m : Store) (records : List (Live Body)) → StandsFor old m records → SettledIsOld name cursor m records → (a ≡ put_named name cursor value m) × StandsFor new (after_put_named name cursor value m) records)
    → IfOk result (StoresNamed name cursor value old new)
stores_named name cursor value old new (Err e) h = tt
stores_named name cursor value old new (Ok a) h = record {
  answer = λ m records kept fresh. (h m records kept.stands fresh).0;
  after = λ m records kept fresh. record {
    stands = (h m records kept.stands fresh).1;
    values = stored_values m records kept.values name cursor value;
  };
}

pub puts_free :
    {E : Type 0} (key : List ℕ) (cursor k : ℕ) (value : Value) (old new : StoreState) (result : Result Put E)
    → IfOk result (λ a. (m : Store) (records : List (Live Body)) → StandsFor old m records → (a ≡ put_at key cursor k m) × StandsFor new (after_put key cursor k value m) records)
    → IfOk result (PutsFree key cursor k value old new)
puts_free key cursor k value old new (Err e) h = tt
puts_free key cursor k value old new (Ok a) h = record {
  answer = λ m records kept. (h m records kept.stands).0;
  after = λ m records kept. record {
    stands = (h m records kept.stands).1;
    values = put_values m records kept.values key cursor k value;
  };
}
