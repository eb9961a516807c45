-- The logged writes of a key, by its tag.
use Rattle.std.proofs.Common.{◌≡◌, ℕ, Bool, true, false, cond, List, [], ◌∷◌, ◌++◌, option_map, refl, ap, ◌∙◌}
use Rattle.boki_types.specs.declared.body.Body.{Body}
use Rattle.boki_model.specs.Live.{Live, has_tag}
use Rattle.boki_model.specs.Bodies.{key_tag}
use Rattle.boki_model.specs.Writes.{NamedValue, Write, logged_write_of, logged_write, prepend_some, logged_writes, version_writes, initial_writes, last_write_below}
use Rattle.log_folds.specs.ByTag.{with_tag}
use Rattle.log_folds.specs.Own.{HaveOwnTags}
use Rattle.log_folds.specs.Folds.{WritesByTag}
use Rattle.log_folds.proofs.Own.{says}

logged_by_tag :
    (key : List ℕ) (named : List NamedValue) (records : List (Live Body)) → HaveOwnTags records
    → logged_writes key named records ≡ logged_writes key named (with_tag (key_tag 5 key) records)
logged_by_tag key named [] own = refl
logged_by_tag key named (x ∷ xs) own = at (has_tag (key_tag 5 key) x.tags) refl (logged_by_tag key named xs own.1)
  where
    at :
        (b : Bool) → has_tag (key_tag 5 key) x.tags ≡ b
        → logged_writes key named xs ≡ logged_writes key named (with_tag (key_tag 5 key) xs)
        → prepend_some (logged_write_of key x.seq named (logged_write x.holds)) (logged_writes key named xs) ≡ logged_writes key named (cond b (x ∷ with_tag (key_tag 5 key) xs) (with_tag (key_tag 5 key) xs))
    at true e ih = ap (prepend_some (logged_write_of key x.seq named (logged_write x.holds))) ih
    at false e ih = ap (λ o. prepend_some o (logged_writes key named xs)) ((says x own.0).write key e x.seq named) ∙ ih

pub writes_by_tag : (key : List ℕ) (records : List (Live Body)) → HaveOwnTags records → WritesByTag key records
writes_by_tag key records own = record {
  logged = λ named. logged_by_tag key named records own;
  last_value_below = λ c k store.
      ap (λ l. option_map (λ (w : Write). w.value) (last_write_below c k (version_writes key store.versions ++ l ++ initial_writes key store.initial)))
      (logged_by_tag key store.named records own);
}
