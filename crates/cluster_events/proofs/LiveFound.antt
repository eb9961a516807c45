-- What a read finds is live.
use Rattle.std.proofs.Common.{◌≡◌, ◌∙◌, ℕ, suc, Bool, true, false, cond, eqb, ltb, leb, ◌&&◌, ◌||◌, max, List, [], ◌∷◌, Option, Some, None, refl, sym}
use Rattle.std.specs.Option.{option_or}
use Rattle.std.proofs.lemmas.Bool.{eq-eqb}
use Rattle.boki_model.specs.Live.{Live, has_tag, is_live}
use Rattle.boki_model.specs.Reads.{next, prev, hidden_bound, unless_hidden, read_next, read_prev}

or_right : (t b : Bool) → b ≡ true → (t || b) ≡ true
or_right true b e = refl
or_right false b e = e

or_left : (t b : Bool) → t ≡ true → (t || b) ≡ true
or_left true b e = refl
or_left false b e = cc

the_same : {A : Type 0} {x y : A} → Some x ≡ Some y → x ≡ y
the_same e = cc

module _ {A : Type 0} where
  here : (x : Live A) (xs : List (Live A)) (seq : ℕ) → Some x.seq ≡ Some seq → is_live seq (x ∷ xs) ≡ true
  here x xs seq e = let same : x.seq ≡ seq = cc in or_left (eqb seq x.seq) (is_live seq xs) (eq-eqb seq x.seq (sym same))

  there : (x : Live A) (xs : List (Live A)) (seq : ℕ) → is_live seq xs ≡ true → is_live seq (x ∷ xs) ≡ true
  there x xs seq e = or_right (eqb seq x.seq) (is_live seq xs) e

  next_live : (tag a seq : ℕ) (xs : List (Live A)) → next tag a xs ≡ Some seq → is_live seq xs ≡ true
  next_live tag a seq [] e = cc
  next_live tag a seq (x ∷ xs) e = at (next_live tag a seq xs) (next tag a xs) refl (has_tag tag x.tags && leb a x.seq) e
    where
      at : (next tag a xs ≡ Some seq → is_live seq xs ≡ true) → (o : Option ℕ) → next tag a xs ≡ o → (t : Bool) → option_or o (cond t (Some x.seq) None) ≡ Some seq → is_live seq (x ∷ xs) ≡ true
      at ih (Some s) is t e = there x xs seq (ih (is ∙ e))
      at ih None is true e = here x xs seq e
      at ih None is false e = cc

  prev_live : (tag b seq : ℕ) (xs : List (Live A)) → prev tag b xs ≡ Some seq → is_live seq xs ≡ true
  prev_live tag b seq [] e = cc
  prev_live tag b seq (x ∷ xs) e = at (prev_live tag b seq xs) (has_tag tag x.tags && leb x.seq b) e
    where
      at : (prev tag b xs ≡ Some seq → is_live seq xs ≡ true) → (t : Bool) → cond t (Some x.seq) (prev tag b xs) ≡ Some seq → is_live seq (x ∷ xs) ≡ true
      at ih true e = here x xs seq e
      at ih false e = there x xs seq (ih e)

  module _ (trim : A → Option (ℕ × ℕ)) (tag seq : ℕ) (xs : List (Live A)) where
    pub next_seen : (a : ℕ) → read_next trim tag a xs ≡ Some seq → is_live seq xs ≡ true
    next_seen a e = next_live tag (max a (suc (hidden_bound trim tag xs))) seq xs e

    pub prev_seen : (b : ℕ) → read_prev trim tag b xs ≡ Some seq → is_live seq xs ≡ true
    prev_seen b e = at (prev tag b xs) refl e
      where
        at : (o : Option ℕ) → prev tag b xs ≡ o → unless_hidden (hidden_bound trim tag xs) o ≡ Some seq → is_live seq xs ≡ true
        at None is e = cc
        at (Some s) is e = by (ltb (hidden_bound trim tag xs) s) e
          where
            by : (t : Bool) → cond t (Some s) None ≡ Some seq → is_live seq xs ≡ true
            by true e = prev_live tag b seq xs (is ∙ e)
            by false e = cc
