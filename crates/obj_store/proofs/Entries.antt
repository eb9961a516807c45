-- Objects by their keys, as entries in a list: what a change of one of them leaves.
use Rattle.std.proofs.Common.{◌≡◌, ℕ, ◌+◌, Bool, true, false, cond, ◌||◌, if◌then◌else◌, is_some, List, [], ◌∷◌, Option, Some, None, unwrap_or, bytes_eq, refl, sym, ap, ◌∙◌, subst, arith}
use Rattle.std.specs.List.{IsDistinct, list_any}
use Rattle.std.specs.Map.{lookup, set_value, keys_of, values_of}
use Rattle.std.specs.Option.{IsSome}
use Rattle.std.specs.Cmp.Lexicographic.{nat_list_eq_equiv}
use Rattle.std.proofs.lemmas.Map.{lookup-set_value, keys-set_value}
use Rattle.std.proofs.lemmas.Map.Entries.{sum_by-set_value}
use Rattle.std.proofs.lemmas.List.Sums.{sum_by-cons}
use Rattle.std.proofs.lemmas.Slice.Eq.{bytes_eq-Decides}
use Rattle.indexmap.specs.IndexMap.{insert_entry}
use Rattle.obj_store.specs.Kept.{KeptObject, empty_object, object_in, has_key, count_of, total}
use Rattle.obj_store.specs.Steps.{AddsEmptyObjects, ChangesObject}

pub same_key : (k q : List ℕ) → bytes_eq k q ≡ true → k ≡ q
same_key k q e = (bytes_eq-Decides k q).0 e

pub key_itself : (k : List ℕ) → bytes_eq k k ≡ true
key_itself k = (bytes_eq-Decides k k).1 refl

pub object_here : (key : List ℕ) (es : List (List ℕ × KeptObject)) (v : KeptObject) → lookup (bytes_eq key) es ≡ Some v → object_in key es ≡ v
object_here key es v is = ap (λ (o : Option KeptObject). unwrap_or o empty_object) is

some_has : (key : List ℕ) (es : List (List ℕ × KeptObject)) (v : KeptObject) → lookup (bytes_eq key) es ≡ Some v → IsSome (lookup (bytes_eq key) es)
some_has key es v is = subst (λ (o : Option KeptObject). IsSome o) (sym is) refl

module _ (key : List ℕ) (f : KeptObject → KeptObject) (es fs : List (List ℕ × KeptObject)) (v w : KeptObject)
    (is : lookup (bytes_eq key) es ≡ Some v) (to : w ≡ f v) (set : fs ≡ set_value (bytes_eq key) es w) where
  changed_at : (k : List ℕ) → object_in k fs ≡ cond (bytes_eq key k) (f (object_in k es)) (object_in k es)
  changed_at k =
      ap (object_in k) set
      ∙ ap (λ (o : Option KeptObject). unwrap_or o empty_object) (lookup-set_value nat_list_eq_equiv (bytes_eq key) (nat_list_eq_equiv.congr key) k w es (some_has key es v is))
      ∙ by (bytes_eq key k) refl
    where
      by : (b : Bool) → bytes_eq key k ≡ b → unwrap_or (cond b (Some w) (lookup (bytes_eq k) es)) empty_object ≡ cond b (f (object_in k es)) (object_in k es)
      by true e = to ∙ ap f (sym (object_here key es v is) ∙ ap (λ (q : List ℕ). object_in q es) (same_key key k e))
      by false e = refl

  pub change_is : ChangesObject key f es fs
  change_is = record {
    objects = changed_at;
    keys = ap keys_of set ∙ keys-set_value (bytes_eq key) es w;
    total =
        ap (λ (l : List (List ℕ × KeptObject)). total l + count_of (object_in key es)) set
        ∙ ap (λ (o : KeptObject). total (set_value (bytes_eq key) es w) + count_of o) (object_here key es v is)
        ∙ sum_by-set_value count_of (bytes_eq key) es v w is
        ∙ ap (λ (o : KeptObject). total es + count_of o) (to ∙ ap f (sym (object_here key es v is)));
  }

-- whether there is an entry of a key, by the keys
has_key_is : (k : List ℕ) (es : List (List ℕ × KeptObject)) → has_key k es ≡ list_any (bytes_eq k) (keys_of es)
has_key_is k [] = refl
has_key_is k (e ∷ es) = at (bytes_eq k e.0) (has_key_is k es)
  where
    at : (b : Bool) → has_key k es ≡ list_any (bytes_eq k) (keys_of es) → is_some (cond b (Some e.1) (lookup (bytes_eq k) es)) ≡ (b || list_any (bytes_eq k) (keys_of es))
    at true ih = refl
    at false ih = ih

pub has_keys : (es fs : List (List ℕ × KeptObject)) → keys_of fs ≡ keys_of es → (k : List ℕ) → has_key k fs ≡ has_key k es
has_keys es fs e k = has_key_is k fs ∙ ap (list_any (bytes_eq k)) e ∙ sym (has_key_is k es)

-- a change that leaves the object as it was

pub unchanged : (key : List ℕ) (f : KeptObject → KeptObject) (es fs : List (List ℕ × KeptObject)) → ChangesObject key f es fs → f (object_in key es) ≡ object_in key es → AddsEmptyObjects es fs
unchanged key f es fs h e = record {
  objects = λ k. h.objects k ∙ at k (bytes_eq key k) refl;
  keys = λ k has. has_keys es fs h.keys k ∙ has;
  total = omega (arith, h.total, ap count_of e);
  distinct = λ d. subst (IsDistinct bytes_eq) (sym h.keys) d;
}
  where
    at : (k : List ℕ) (b : Bool) → bytes_eq key k ≡ b → cond b (f (object_in k es)) (object_in k es) ≡ object_in k es
    at k true is = ap (λ (q : List ℕ). f (object_in q es)) (sym (same_key key k is)) ∙ e ∙ ap (λ (q : List ℕ). object_in q es) (same_key key k is)
    at k false is = refl

-- a new entry that says nothing

pub absent_adds : (key : List ℕ) (v : KeptObject) (es : List (List ℕ × KeptObject)) → lookup (bytes_eq key) es ≡ None → total (insert_entry bytes_eq es key v) ≡ total es + count_of v
absent_adds key v [] none = omega (arith, sum_by-cons count_of v [])
absent_adds key v (e ∷ es) none = at (bytes_eq key e.0) none (absent_adds key v es)
  where
    at : (b : Bool) → cond b (Some e.1) (lookup (bytes_eq key) es) ≡ None → (lookup (bytes_eq key) es ≡ None → total (insert_entry bytes_eq es key v) ≡ total es + count_of v)
        → total (if b then (e.0, v) ∷ es else e ∷ insert_entry bytes_eq es key v) ≡ total (e ∷ es) + count_of v
    at true none ih = absurd (let h : ⊥ = cc in h)
    at false none ih = omega (arith, ih none, sum_by-cons count_of e.1 (values_of es), sum_by-cons count_of e.1 (values_of (insert_entry bytes_eq es key v)))

module _ (key : List ℕ) (es fs : List (List ℕ × KeptObject)) (none : lookup (bytes_eq key) es ≡ None) (set : fs ≡ insert_entry bytes_eq es key empty_object)
    (finds : (q : List ℕ) → lookup (bytes_eq q) fs ≡ cond (bytes_eq key q) (Some empty_object) (lookup (bytes_eq q) es)) (unique : IsDistinct bytes_eq (keys_of fs)) where
  widened_at : (q : List ℕ) (b : Bool) → bytes_eq key q ≡ b → unwrap_or (cond b (Some empty_object) (lookup (bytes_eq q) es)) empty_object ≡ object_in q es
  widened_at q true e = sym (ap (λ (k : List ℕ). object_in k es) (sym (same_key key q e)) ∙ ap (λ (o : Option KeptObject). unwrap_or o empty_object) none)
  widened_at q false e = refl

  widened_has : (q : List ℕ) (b : Bool) → has_key q es ≡ true → is_some (cond b (Some empty_object) (lookup (bytes_eq q) es)) ≡ true
  widened_has q true h = refl
  widened_has q false h = h

  pub widened : AddsEmptyObjects es fs
  widened = record {
    objects = λ q. ap (λ (o : Option KeptObject). unwrap_or o empty_object) (finds q) ∙ widened_at q (bytes_eq key q) refl;
    keys = λ q h. ap is_some (finds q) ∙ widened_has q (bytes_eq key q) h;
    total = ap total set ∙ absent_adds key empty_object es none ∙ (let e : total es + 0 ≡ total es = omega arith in e);
    distinct = λ d. unique;
  }

pub widens_nothing : (es : List (List ℕ × KeptObject)) → AddsEmptyObjects es es
widens_nothing es = record { objects = λ q. refl; keys = λ q h. h; total = refl; distinct = λ d. d }

pub widens_twice : (es fs gs : List (List ℕ × KeptObject)) → AddsEmptyObjects es fs → AddsEmptyObjects fs gs → AddsEmptyObjects es gs
widens_twice es fs gs h g = record {
  objects = λ q. g.objects q ∙ h.objects q;
  keys = λ q is. g.keys q (h.keys q is);
  total = g.total ∙ h.total;
  distinct = λ d. g.distinct (h.distinct d);
}
