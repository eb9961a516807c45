-- The first Inits as a map by seqnums keeps them, where one comes, and where those of a path go.
use Rattle.std.proofs.Common.{◌≡◌, ◌⊎◌, inl, inr, ℕ, ◌<◌, Bool, true, false, cond, eqb, ltb, ◌||◌, not, List, [], ◌∷◌, ◌++◌, Option, Some, None, refl, sym, ap, subst, ◌∙◌, arith}
use Rattle.std.specs.Prelude.{bytes_eq, is_some}
use Rattle.std.specs.List.{filter}
use Rattle.std.specs.Option.{option_or}
use Rattle.std.specs.Map.{remove_entry}
use Rattle.std.specs.BTreeMap.{insert_entry, is_at}
use Rattle.std.specs.declared.cmp.Ordering.TheVariants.{Less, Equal, Greater}
use Rattle.std.specs.Ordering.{nat_cmp, is_eq, match_ordering}
use Rattle.std.proofs.lemmas.Bool.{le-ltb, ne_eqb, eq-eqb}
use Rattle.exactly_once.proofs.Log.MapChanges.{same_itself, keys_cases, other_way}
use Rattle.log_folds.specs.Opens.{OpenInvocation}
use Rattle.hm_switch.specs.Lives.{has_path, open_since, first_inits, by_seqnum}
use Rattle.hm_switch.proofs.Firsts.{FallInits, lower_inits}

-- those but a path's
abbrev pub others : List ℕ → List OpenInvocation → List OpenInvocation
others p os = filter (λ o. not (bytes_eq p o.path)) os

module _ (p : List ℕ) where
  pub has_since : (os : List OpenInvocation) → has_path p os ≡ is_some (open_since p os)
  has_since [] = refl
  has_since (o ∷ os) = at (open_since p os) (bytes_eq p o.path) (has_since os)
    where
      at : (s : Option ℕ) (t : Bool) → has_path p os ≡ is_some s → (t || has_path p os) ≡ is_some (option_or s (cond t (Some o.seq) None))
      at None true ih = refl
      at None false ih = ih
      at (Some n) true ih = refl
      at (Some n) false ih = ih

  none_since : (s : Option ℕ) → is_some s ≡ false → s ≡ None
  none_since None e = refl
  none_since (Some n) e = cc

  pub no_since : (os : List OpenInvocation) → has_path p os ≡ false → open_since p os ≡ None
  no_since os none = none_since (open_since p os) (sym (has_since os) ∙ none)

  pub since_below : (m k : ℕ) (os : List OpenInvocation) → FallInits m os → open_since p os ≡ Some k → k < m
  since_below m k [] fall e = cc
  since_below m k (o ∷ os) fall e = at (since_below o.seq k os fall.1) (open_since p os) refl (bytes_eq p o.path) e
    where
      at : (open_since p os ≡ Some k → k < o.seq) → (s : Option ℕ) → open_since p os ≡ s → (t : Bool) → option_or s (cond t (Some o.seq) None) ≡ Some k → k < m
      at ih (Some n) is t e = let lt = ih (is ∙ e) in let a = fall.0 in omega arith
      at ih None is true e = let f : o.seq ≡ k = cc in let a = fall.0 in omega arith
      at ih None is false e = cc

  -- where the path's go
  pub others_none : (os : List OpenInvocation) → has_path p os ≡ false → others p (first_inits os) ≡ first_inits os
  others_none [] none = refl
  others_none (o ∷ os) none = at (others_none os) (bytes_eq p o.path) refl (has_path o.path os) none
    where
      at : (has_path p os ≡ false → others p (first_inits os) ≡ first_inits os) → (t : Bool) → bytes_eq p o.path ≡ t → (u : Bool) → (t || has_path p os) ≡ false
          → others p (cond u (first_inits os) (o ∷ first_inits os)) ≡ cond u (first_inits os) (o ∷ first_inits os)
      at ih true e u none = cc
      at ih false e true none = ih none
      at ih false e false none = ap (λ t. cond (not t) (o ∷ others p (first_inits os)) (others p (first_inits os))) e ∙ ap (λ l. o ∷ l) (ih none)

  has_others : (q : List ℕ) → bytes_eq q p ≡ false → (os : List OpenInvocation) → has_path q (others p os) ≡ has_path q os
  has_others q d [] = refl
  has_others q d (o ∷ os) = at (keys_cases p o.path) (has_others q d os)
    where
      at : (p ≡ o.path) ⊎ (bytes_eq p o.path ≡ false) → has_path q (others p os) ≡ has_path q os → has_path q (others p (o ∷ os)) ≡ (bytes_eq q o.path || has_path q os)
      at (inl same) ih =
          ap (λ t. has_path q (cond (not t) (o ∷ others p os) (others p os))) (ap (bytes_eq p) (sym same) ∙ same_itself p)
          ∙ ih
          ∙ sym (ap (λ t. t || has_path q os) (ap (bytes_eq q) (sym same) ∙ d))
      at (inr e) ih = ap (λ t. has_path q (cond (not t) (o ∷ others p os) (others p os))) e ∙ ap (λ t. bytes_eq q o.path || t) ih

  pub since_others : (q : List ℕ) → bytes_eq q p ≡ false → (os : List OpenInvocation) → open_since q (others p os) ≡ open_since q os
  since_others q d [] = refl
  since_others q d (o ∷ os) = at (keys_cases p o.path) (since_others q d os)
    where
      or_none : (s : Option ℕ) → s ≡ option_or s None
      or_none None = refl
      or_none (Some n) = refl

      at : (p ≡ o.path) ⊎ (bytes_eq p o.path ≡ false) → open_since q (others p os) ≡ open_since q os → open_since q (others p (o ∷ os)) ≡ option_or (open_since q os) (cond (bytes_eq q o.path) (Some o.seq) None)
      at (inl same) ih =
          ap (λ t. open_since q (cond (not t) (o ∷ others p os) (others p os))) (ap (bytes_eq p) (sym same) ∙ same_itself p)
          ∙ ih
          ∙ or_none (open_since q os)
          ∙ sym (ap (λ t. option_or (open_since q os) (cond t (Some o.seq) None)) (ap (bytes_eq q) (sym same) ∙ d))
      at (inr e) ih = ap (λ t. open_since q (cond (not t) (o ∷ others p os) (others p os))) e ∙ ap (λ s. option_or s (cond (bytes_eq q o.path) (Some o.seq) None)) ih

  pub first_others : (os : List OpenInvocation) → first_inits (others p os) ≡ others p (first_inits os)
  first_others [] = refl
  first_others (o ∷ os) = at (keys_cases p o.path) (first_others os)
    where
      gone : (u : Bool) → bytes_eq p o.path ≡ true → others p (first_inits os) ≡ others p (cond u (first_inits os) (o ∷ first_inits os))
      gone true e = refl
      gone false e = sym (ap (λ t. cond (not t) (o ∷ others p (first_inits os)) (others p (first_inits os))) e)

      stays : (u : Bool) → bytes_eq p o.path ≡ false → cond u (others p (first_inits os)) (o ∷ others p (first_inits os)) ≡ others p (cond u (first_inits os) (o ∷ first_inits os))
      stays true e = refl
      stays false e = sym (ap (λ t. cond (not t) (o ∷ others p (first_inits os)) (others p (first_inits os))) e)

      at : (p ≡ o.path) ⊎ (bytes_eq p o.path ≡ false) → first_inits (others p os) ≡ others p (first_inits os) → first_inits (others p (o ∷ os)) ≡ others p (first_inits (o ∷ os))
      at (inl same) ih =
          let e = ap (bytes_eq p) (sym same) ∙ same_itself p in
          ap (λ t. first_inits (cond (not t) (o ∷ others p os) (others p os))) e ∙ ih ∙ gone (has_path o.path os) e
      at (inr e) ih =
          ap (λ t. first_inits (cond (not t) (o ∷ others p os) (others p os))) e
          ∙ ap (λ t. cond t (first_inits (others p os)) (o ∷ first_inits (others p os))) (has_others o.path (other_way p o.path e) os)
          ∙ ap (λ l. cond (has_path o.path os) l (o ∷ l)) ih
          ∙ stays (has_path o.path os) e

-- By seqnums.

abbrev KeysBelow : ℕ → List (ℕ × List ℕ) → Type 0
KeysBelow n [] = Unit {0}
KeysBelow n (e ∷ es) = (e.0 < n) × KeysBelow n es

below_push : (n : ℕ) (es : List (ℕ × List ℕ)) (e : ℕ × List ℕ) → KeysBelow n es → e.0 < n → KeysBelow n (es ++ e ∷ [])
below_push n [] e below lt = (lt, tt)
below_push n (f ∷ es) e below lt = (below.0, below_push n es e below.1 lt)

keys_below : (n : ℕ) (os : List OpenInvocation) → FallInits n os → KeysBelow n (by_seqnum os)
keys_below n [] fall = tt
keys_below n (o ∷ os) fall = below_push n (by_seqnum os) (o.seq, o.path) (keys_below n os (lower_inits o.seq n os (let lt = fall.0 in omega arith) fall.1)) fall.0

pub first_fall : (n : ℕ) (os : List OpenInvocation) → FallInits n os → FallInits n (first_inits os)
first_fall n [] fall = tt
first_fall n (o ∷ os) fall = at (first_fall o.seq os fall.1) (has_path o.path os)
  where
    at : FallInits o.seq (first_inits os) → (t : Bool) → FallInits n (cond t (first_inits os) (o ∷ first_inits os))
    at ih true = lower_inits o.seq n (first_inits os) (let lt = fall.0 in omega arith) ih
    at ih false = (fall.0, ih)

above_is : (k n : ℕ) → n < k → nat_cmp k n ≡ Greater
above_is k n lt =
    ap (λ t. cond t Less (cond (eqb k n) Equal Greater)) (le-ltb k n (omega arith))
    ∙ ap (λ t. cond t Equal Greater) (ne_eqb k n (λ e. omega (arith, e)))

inserted_last : (k : ℕ) (v : List ℕ) (es : List (ℕ × List ℕ)) → KeysBelow k es → insert_entry nat_cmp es k v ≡ es ++ (k, v) ∷ []
inserted_last k v [] below = refl
inserted_last k v (e ∷ es) below =
    ap (λ c. match_ordering c ((k, v) ∷ e ∷ es) ((e.0, v) ∷ es) (e ∷ insert_entry nat_cmp es k v)) (above_is k e.0 below.0)
    ∙ ap (λ l. e ∷ l) (inserted_last k v es below.1)

pub inserted : (k : ℕ) (p : List ℕ) (os : List OpenInvocation) → FallInits k os → insert_entry nat_cmp (by_seqnum (first_inits os)) k p ≡ by_seqnum (record { seq = k; path = p } ∷ first_inits os)
inserted k p os fall = inserted_last k p (by_seqnum (first_inits os)) (keys_below k (first_inits os) (first_fall k os fall))

apart_is : (k n : ℕ) → (k ≡ n → ⊥) → is_at (nat_cmp k) n ≡ false
apart_is k n ne = at (ltb k n) ∙ ap (λ t. is_eq (cond t Equal Greater)) (ne_eqb k n ne)
  where
    at : (t : Bool) → is_eq (cond t Less (cond (eqb k n) Equal Greater)) ≡ is_eq (cond (eqb k n) Equal Greater)
    at true = sym (ap (λ t. is_eq (cond t Equal Greater)) (ne_eqb k n ne))
    at false = refl

at_is : (k : ℕ) → is_at (nat_cmp k) k ≡ true
at_is k = ap (λ t. is_eq (cond t Less (cond (eqb k k) Equal Greater))) (le-ltb k k (omega arith)) ∙ ap (λ t. is_eq (cond t Equal Greater)) (eq-eqb k k refl)

removed_last : (k : ℕ) (es : List (ℕ × List ℕ)) (e : ℕ × List ℕ) → KeysBelow k es → e.0 ≡ k → remove_entry (is_at (nat_cmp k)) (es ++ e ∷ []) ≡ es
removed_last k [] e below same = ap (λ t. cond t [] (e ∷ [])) (ap (is_at (nat_cmp k)) same ∙ at_is k)
removed_last k (f ∷ es) e below same =
    ap (λ t. cond t (es ++ e ∷ []) (f ∷ remove_entry (is_at (nat_cmp k)) (es ++ e ∷ []))) (apart_is k f.0 (λ eq. let lt = below.0 in omega arith))
    ∙ ap (λ l. f ∷ l) (removed_last k es e below.1 same)

removed_before : (k : ℕ) (es : List (ℕ × List ℕ)) (e : ℕ × List ℕ) → (k ≡ e.0 → ⊥) → remove_entry (is_at (nat_cmp k)) (es ++ e ∷ []) ≡ remove_entry (is_at (nat_cmp k)) es ++ e ∷ []
removed_before k [] e ne = ap (λ t. cond t [] (e ∷ [])) (apart_is k e.0 ne)
removed_before k (f ∷ es) e ne = at (removed_before k es e ne) (is_at (nat_cmp k) f.0)
  where
    at : remove_entry (is_at (nat_cmp k)) (es ++ e ∷ []) ≡ remove_entry (is_at (nat_cmp k)) es ++ e ∷ [] → (t : Bool) → cond t (es ++ e ∷ []) (f ∷ remove_entry (is_at (nat_cmp k)) (es ++ e ∷ [])) ≡ cond t es (f ∷ remove_entry (is_at (nat_cmp k)) es) ++ e ∷ []
    at ih true = refl
    at ih false = ap (λ l. f ∷ l) ih

pub removed : (p : List ℕ) (k m : ℕ) (os : List OpenInvocation) → FallInits m os → open_since p os ≡ Some k
    → remove_entry (is_at (nat_cmp k)) (by_seqnum (first_inits os)) ≡ by_seqnum (others p (first_inits os))
removed p k m [] fall e = cc
removed p k m (o ∷ os) fall e = at (removed p k o.seq os fall.1) (has_path o.path os) refl (keys_cases p o.path)
  where
    earlier : (s : Option ℕ) → option_or s None ≡ Some k → s ≡ Some k
    earlier None is = is
    earlier (Some n) is = is

    already : (s : Option ℕ) → is_some s ≡ true → (t : Option ℕ) → option_or s t ≡ Some k → s ≡ Some k
    already None has t is = cc
    already (Some n) has t is = is

    apart : bytes_eq p o.path ≡ false → open_since p os ≡ Some k
    apart d = earlier (open_since p os) (ap (λ t. option_or (open_since p os) (cond t (Some o.seq) None)) (sym d) ∙ e)

    at : (open_since p os ≡ Some k → remove_entry (is_at (nat_cmp k)) (by_seqnum (first_inits os)) ≡ by_seqnum (others p (first_inits os)))
        → (u : Bool) → has_path o.path os ≡ u → (p ≡ o.path) ⊎ (bytes_eq p o.path ≡ false)
        → remove_entry (is_at (nat_cmp k)) (by_seqnum (cond u (first_inits os) (o ∷ first_inits os))) ≡ by_seqnum (others p (cond u (first_inits os) (o ∷ first_inits os)))
    at ih true has (inl same) = ih (already (open_since p os) (sym (has_since p os) ∙ ap (λ q. has_path q os) same ∙ has) (cond (bytes_eq p o.path) (Some o.seq) None) e)
    at ih true has (inr d) = ih (apart d)
    at ih false lacks (inl same) =
        let here = ap (bytes_eq p) (sym same) ∙ same_itself p in
        let none = ap (λ q. has_path q os) same ∙ lacks in
        let f : Some o.seq ≡ Some k = sym (ap (λ s. option_or s (cond (bytes_eq p o.path) (Some o.seq) None)) (no_since p os none) ∙ ap (λ t. option_or None (cond t (Some o.seq) None)) here) ∙ e in
        let g : o.seq ≡ k = cc in
        removed_last k (by_seqnum (first_inits os)) (o.seq, o.path) (subst (λ n. KeysBelow n (by_seqnum (first_inits os))) g (keys_below o.seq (first_inits os) (first_fall o.seq os fall.1))) g
        ∙ ap by_seqnum (sym (others_none p os none))
        ∙ sym (ap (λ t. by_seqnum (cond (not t) (o ∷ others p (first_inits os)) (others p (first_inits os)))) here)
    at ih false lacks (inr d) =
        let lt = since_below p o.seq k os fall.1 (apart d) in
        removed_before k (by_seqnum (first_inits os)) (o.seq, o.path) (λ eq. omega (arith, eq, lt))
        ∙ ap (λ l. l ++ (o.seq, o.path) ∷ []) (ih (apart d))
        ∙ sym (ap (λ t. by_seqnum (cond (not t) (o ∷ others p (first_inits os)) (others p (first_inits os)))) d)
