-- std's ordered maps as the definitions' maps.
use Rattle.std.proofs.Common.{◌≡◌, List, [], ◌∷◌, refl, ap}
use Rattle.std.specs.declared.cmp.Ordering.{Ordering}
use Rattle.std.specs.declared.cmp.Ordering.TheVariants.{Less, Equal, Greater}
use Rattle.std.specs.Ordering.{match_ordering}
use Rattle.std.specs.BTreeMap.{insert_entry}
use Rattle.std.specs.FinMap.Entries.{by_order, put}

module _ {K V : Type 0} where
  -- std's insert is the definitions' put
  pub insert_is : (cmp : K → K → Ordering) (k : K) (v : V) (es : List (K × V)) → insert_entry cmp es k v ≡ put cmp k v es
  insert_is cmp k v [] = refl
  insert_is cmp k v (e ∷ es) = by (cmp k e.0) (insert_is cmp k v es)
    where
      by : (o : Ordering) → insert_entry cmp es k v ≡ put cmp k v es
          → match_ordering o ((k, v) ∷ e ∷ es) ((e.0, v) ∷ es) (e ∷ insert_entry cmp es k v) ≡ by_order o ((k, v) ∷ e ∷ es) ((e.0, v) ∷ es) (e ∷ put cmp k v es)
      by Less ih = refl
      by Equal ih = refl
      by Greater ih = ap (λ (l : List (K × V)). let m : List (K × V) = e ∷ l in m) ih
