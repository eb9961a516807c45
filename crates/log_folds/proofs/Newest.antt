-- Hidden records, and the newest answer.
use Rattle.std.proofs.Common.{◌≡◌, ℕ, suc, ◌<◌, ◌≤◌, min, max, Bool, true, false, cond, eqb, ltb, leb, ◌&&◌, List, [], ◌∷◌, Option, Some, None, refl, ap, ◌∙◌, arith}
use Rattle.std.specs.List.{AllByRecursion}
use Rattle.std.proofs.lemmas.Bool.{leb-false, le-ltb}
use Rattle.boki_types.specs.declared.body.Body.{Body}
use Rattle.boki_model.specs.Live.{Live, has_tag, upto}
use Rattle.std.specs.Option.{option_or}
use Rattle.boki_model.specs.Reads.{trim_bound, hidden_bound}
use Rattle.boki_model.specs.Bodies.{tag_number, key_tag}
use Rattle.boki_model.specs.Writes.{logged_write}
use Rattle.log_folds.specs.ByTag.{with_tag}
use Rattle.log_folds.specs.Own.{is_write_to, HaveOwnTags}
use Rattle.log_folds.specs.Folds.{newest_answer, NewestIs, written_below, LastWriteByTag}
use Rattle.log_folds.proofs.Own.{says}
use Rattle.log_folds.proofs.Basics.{none_more}

-- Hidden records.

pub hidden_by_tag :
    {A : Type 0} (trim : A → Option (ℕ × ℕ)) (tag : ℕ) (xs : List (Live A))
    → hidden_bound trim tag xs ≡ hidden_bound trim tag (with_tag (tag_number 8 tag) xs)
hidden_by_tag trim tag [] = refl
hidden_by_tag trim tag (x ∷ xs) = at (has_tag (tag_number 8 tag) x.tags) refl (hidden_by_tag trim tag xs)
  where
    hides_none :
        (o : Option (ℕ × ℕ)) → has_tag (tag_number 8 tag) x.tags ≡ false → trim_bound tag x.seq x.tags o ≡ 0
    hides_none None e = refl
    hides_none (Some t) e = by (eqb tag t.0) (has_tag (tag_number 8 tag) x.tags) e
      where
        by : (a b : Bool) → b ≡ false → cond (a && b) (min t.1 x.seq) 0 ≡ 0
        by true b e = ap (λ b. cond b (min t.1 x.seq) 0) e
        by false b e = refl

    at :
        (b : Bool) → has_tag (tag_number 8 tag) x.tags ≡ b
        → hidden_bound trim tag xs ≡ hidden_bound trim tag (with_tag (tag_number 8 tag) xs)
        → max (trim_bound tag x.seq x.tags (trim x.holds)) (hidden_bound trim tag xs) ≡ hidden_bound trim tag (cond b (x ∷ with_tag (tag_number 8 tag) xs) (with_tag (tag_number 8 tag) xs))
    at true e ih = ap (max (trim_bound tag x.seq x.tags (trim x.holds))) ih
    at false e ih = none_more (trim_bound tag x.seq x.tags (trim x.holds)) (hidden_bound trim tag xs) (hides_none (trim x.holds) e) ∙ ih

-- The newest answer.

module _ {A X : Type 0} (answer : Live A → Option X) where
  newest_of_tag :
      (tag : ℕ) (xs : List (Live A)) → AllByRecursion (λ x. has_tag tag x.tags ≡ false → answer x ≡ None) xs
      → newest_answer answer xs ≡ newest_answer answer (with_tag tag xs)
  newest_of_tag tag [] none = refl
  newest_of_tag tag (x ∷ xs) none = at (has_tag tag x.tags) refl (newest_of_tag tag xs none.1)
    where
      at :
          (b : Bool) → has_tag tag x.tags ≡ b → newest_answer answer xs ≡ newest_answer answer (with_tag tag xs)
          → option_or (answer x) (newest_answer answer xs)
          ≡ newest_answer answer (cond b (x ∷ with_tag tag xs) (with_tag tag xs))
      at true e ih = ap (option_or (answer x)) ih
      at false e ih = ap (λ o. option_or o (newest_answer answer xs)) (none.0 e) ∙ ih

  newest_up_to :
      (p : ℕ) (xs : List (Live A)) → AllByRecursion (λ x. p < x.seq → answer x ≡ None) xs
      → newest_answer answer xs ≡ newest_answer answer (upto p xs)
  newest_up_to p [] none = refl
  newest_up_to p (x ∷ xs) none = at (leb x.seq p) refl (newest_up_to p xs none.1)
    where
      at :
          (b : Bool) → leb x.seq p ≡ b → newest_answer answer xs ≡ newest_answer answer (upto p xs)
          → option_or (answer x) (newest_answer answer xs) ≡ newest_answer answer (cond b (x ∷ xs) (upto p xs))
      at true e ih = refl
      at false e ih = ap (λ o. option_or o (newest_answer answer xs)) (none.0 (leb-false x.seq p e)) ∙ ih

  pub newest_is : (xs : List (Live A)) → NewestIs answer xs
  newest_is xs = record { of_tag = λ tag none. newest_of_tag tag xs none; up_to = λ p none. newest_up_to p xs none }

pub last_write_by_tag :
    (key : List ℕ) (n : ℕ) (records : List (Live Body)) → HaveOwnTags records → LastWriteByTag key n records
last_write_by_tag key n records own = record {
  of_tag = newest_of_tag (written_below key n) (key_tag 5 key) records (others records own);
  up_to = λ p le. newest_up_to (written_below key n) p records (above p le records);
}
  where
    and_false : (t : Bool) → (t && false) ≡ false
    and_false true = refl
    and_false false = refl

    others :
        (xs : List (Live Body)) → HaveOwnTags xs
        → AllByRecursion (λ x. has_tag (key_tag 5 key) x.tags ≡ false → written_below key n x ≡ None) xs
    others [] own = tt
    others (x ∷ xs) own =
        ((λ e. ap (λ t. cond (ltb x.seq n && t) (Some x) None) ((says x own.0).written key e) ∙ ap (λ t. cond t (Some x) None) (and_false (ltb x.seq n))), others xs own.1)

    above :
        (p : ℕ) → n ≤ suc p → (xs : List (Live Body))
        → AllByRecursion (λ x. p < x.seq → written_below key n x ≡ None) xs
    above p le [] = tt
    above p le (x ∷ xs) = ((λ lt. ap (λ t. cond (t && is_write_to key (logged_write x.holds)) (Some x) None) (le-ltb x.seq n (omega arith))), above p le xs)
