-- The last logged write of a key is what the newest write of it says.
use Rattle.std.proofs.Common.{◌≡◌, ℕ, Bool, true, false, cond, ltb, ◌&&◌, List, [], ◌∷◌, Option, Some, None, option_map, refl, sym, ap}
use Rattle.std.specs.Prelude.{bytes_eq, option_and_then}
use Rattle.std.specs.Option.{option_or}
use Rattle.lb_base.specs.declared.value.Value.{Value}
use Rattle.boki_types.specs.declared.body.Body.{Body}
use Rattle.boki_types.specs.declared.store.Name.{Name}
use Rattle.boki_model.specs.Live.{Live}
use Rattle.boki_model.specs.Writes.{logged_write}
use Rattle.log_folds.specs.Own.{is_write_to}
use Rattle.log_folds.specs.Folds.{last_write}
use Rattle.obj_store.specs.StandsFor.{logged_of, last_logged}
use Rattle.store_laws.specs.Newest.{written_in, LastIsNewest}

pub last_is_newest : LastIsNewest
last_is_newest key n [] = refl
last_is_newest key n (x ∷ xs) = at (ltb x.seq n) (logged_write x.holds) refl (last_is_newest key n xs)
  where
    older : Option (ℕ × (Name × Option Value))
    older = last_logged key n xs

    its : Option (Live Body)
    its = last_write key n xs

    -- a write to an object: it is of the key, or it isn't
    of_key :
        (b : Bool) (w : List ℕ × (Name × Option Value)) → logged_write x.holds ≡ Some w → older ≡ option_and_then written_in its
        → option_or (cond b (Some (x.seq, w.1)) None) older ≡ option_and_then written_in (option_or (cond b (Some x) None) its)
    of_key true w is ih = sym (ap (option_map (λ (w : List ℕ × (Name × Option Value)). (x.seq, w.1))) is)
    of_key false w is ih = ih

    at :
        (t : Bool) (o : Option (List ℕ × (Name × Option Value))) → logged_write x.holds ≡ o → older ≡ option_and_then written_in its
        → option_or (logged_of key x.seq t o) older
        ≡ option_and_then written_in (option_or (cond (t && is_write_to key o) (Some x) None) its)
    at true (Some w) is ih = of_key (bytes_eq key w.0) w is ih
    at true None is ih = ih
    at false o is ih = ih
