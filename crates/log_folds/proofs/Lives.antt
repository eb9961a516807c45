-- Which invocations are open, by the tag of lives; and the records of two tags.
use Rattle.std.proofs.Common.{◌≡◌, ℕ, suc, Bool, true, false, cond, ltb, ◌&&◌, ◌||◌, not, List, [], ◌∷◌, Option, Some, None, refl, sym, ap, ◌∙◌}
use Rattle.std.specs.Prelude.{is_some}
use Rattle.boki_types.specs.declared.body.Body.{Body}
use Rattle.boki_model.specs.Live.{Live, has_tag}
use Rattle.std.specs.Option.{option_or}
use Rattle.boki_model.specs.Bodies.{life_tag}
use Rattle.boki_model.specs.Modes.{init_path, result_of, open_path, lesser_path, least_open_in, least_open, all_ended}
use Rattle.std.specs.Prelude.{unwrap_or}
use Rattle.boki_model.specs.Floor.{open_init, first_open}
use Rattle.log_folds.specs.ByTag.{with_tag, with_either_tag}
use Rattle.log_folds.specs.Own.{HaveOwnTags}
use Rattle.log_folds.specs.Folds.{LivesByTag}
use Rattle.log_folds.proofs.Own.{says, own_stay}
use Rattle.log_folds.proofs.Basics.{or_none}
use Rattle.log_folds.proofs.Results.{results_by_lives}

-- Which invocations are open: by the Inits, and by the results of their paths.

open_alike :
    (b seq : ℕ) (records others : List (Live Body))
    → ((p : List ℕ) → result_of p records ≡ result_of p others) → (o : Option (List ℕ))
    → open_path b records seq o ≡ open_path b others seq o
open_alike b seq records others same None = refl
open_alike b seq records others same (Some p) = ap (λ r. cond (ltb seq b && not (is_some r)) (Some p) None) (same p)

least_alike :
    (b : ℕ) (records others : List (Live Body)) → ((p : List ℕ) → result_of p records ≡ result_of p others)
    → (xs : List (Live Body)) → least_open_in b records xs ≡ least_open_in b others xs
least_alike b records others same [] = refl
least_alike b records others same (x ∷ xs) =
    ap (λ o. lesser_path o (least_open_in b records xs)) (open_alike b x.seq records others same (init_path x.holds))
    ∙ ap (lesser_path (open_path b others x.seq (init_path x.holds))) (least_alike b records others same xs)

least_by_lives :
    (b : ℕ) (records xs : List (Live Body)) → HaveOwnTags xs
    → least_open_in b records xs ≡ least_open_in b records (with_tag life_tag xs)
least_by_lives b records [] own = refl
least_by_lives b records (x ∷ xs) own = at (has_tag life_tag x.tags) refl (least_by_lives b records xs own.1)
  where
    at :
        (t : Bool) → has_tag life_tag x.tags ≡ t
        → least_open_in b records xs ≡ least_open_in b records (with_tag life_tag xs)
        → lesser_path (open_path b records x.seq (init_path x.holds)) (least_open_in b records xs) ≡ least_open_in b records (cond t (x ∷ with_tag life_tag xs) (with_tag life_tag xs))
    at true e ih = ap (lesser_path (open_path b records x.seq (init_path x.holds))) ih
    at false e ih = ap (λ o. lesser_path (open_path b records x.seq o) (least_open_in b records xs)) ((says x own.0).init e) ∙ ih

open_by_lives :
    (b : ℕ) (records : List (Live Body)) → HaveOwnTags records
    → least_open b records ≡ least_open b (with_tag life_tag records)
open_by_lives b records own =
    least_by_lives b records records own
    ∙ least_alike b records (with_tag life_tag records) (λ p. results_by_lives p records own) (with_tag life_tag records)

ended_by_lives :
    (b : ℕ) (records : List (Live Body)) → HaveOwnTags records
    → all_ended b records ≡ all_ended b (with_tag life_tag records)
ended_by_lives b records own = ap (λ o. not (is_some o)) (open_by_lives b records own)

init_alike :
    (seq : ℕ) (records others : List (Live Body))
    → ((p : List ℕ) → result_of p records ≡ result_of p others) → (o : Option (List ℕ))
    → open_init records seq o ≡ open_init others seq o
init_alike seq records others same None = refl
init_alike seq records others same (Some p) = ap (λ r. cond (is_some r) None (Some seq)) (same p)

first_alike :
    (records others : List (Live Body)) → ((p : List ℕ) → result_of p records ≡ result_of p others)
    → (xs : List (Live Body)) → first_open records xs ≡ first_open others xs
first_alike records others same [] = refl
first_alike records others same (x ∷ xs) =
    ap (λ o. option_or o (open_init records x.seq (init_path x.holds))) (first_alike records others same xs)
    ∙ ap (option_or (first_open others xs)) (init_alike x.seq records others same (init_path x.holds))

first_by_lives :
    (records xs : List (Live Body)) → HaveOwnTags xs
    → first_open records xs ≡ first_open records (with_tag life_tag xs)
first_by_lives records [] own = refl
first_by_lives records (x ∷ xs) own = at (has_tag life_tag x.tags) refl (first_by_lives records xs own.1)
  where
    at :
        (t : Bool) → has_tag life_tag x.tags ≡ t
        → first_open records xs ≡ first_open records (with_tag life_tag xs)
        → option_or (first_open records xs) (open_init records x.seq (init_path x.holds)) ≡ first_open records (cond t (x ∷ with_tag life_tag xs) (with_tag life_tag xs))
    at true e ih = ap (λ o. option_or o (open_init records x.seq (init_path x.holds))) ih
    at false e ih = ap (λ o. option_or (first_open records xs) (open_init records x.seq o)) ((says x own.0).init e) ∙ or_none (first_open records xs) ∙ ih

pub lives_by_tag : (records : List (Live Body)) → HaveOwnTags records → LivesByTag records
lives_by_tag records own = record {
  least = λ b. open_by_lives b records own;
  ended = λ b. ended_by_lives b records own;
  trim_limit = λ p. ap (λ o. unwrap_or o (suc p))
      (first_by_lives records records own ∙ first_alike records (with_tag life_tag records) (λ q. results_by_lives q records own) (with_tag life_tag records));
  least_in = λ b. least_by_lives b records records own;
  first_in = first_by_lives records records own;
}

-- Two tags.

of_either :
    (one other : ℕ) (xs : List (Live Body)) → with_tag other (with_either_tag one other xs) ≡ with_tag other xs
of_either one other [] = refl
of_either one other (x ∷ xs) = at (of_either one other xs) (has_tag one x.tags) (has_tag other x.tags) refl
  where
    at : with_tag other (with_either_tag one other xs) ≡ with_tag other xs → (a b : Bool) → has_tag other x.tags ≡ b
        → with_tag other (cond (a || b) (x ∷ with_either_tag one other xs) (with_either_tag one other xs)) ≡ cond b (x ∷ with_tag other xs) (with_tag other xs)
    at ih true true e = ap (λ b. cond b (x ∷ with_tag other (with_either_tag one other xs)) (with_tag other (with_either_tag one other xs))) e ∙ ap (λ l. x ∷ l) ih
    at ih true false e = ap (λ b. cond b (x ∷ with_tag other (with_either_tag one other xs)) (with_tag other (with_either_tag one other xs))) e ∙ ih
    at ih false true e = ap (λ b. cond b (x ∷ with_tag other (with_either_tag one other xs)) (with_tag other (with_either_tag one other xs))) e ∙ ap (λ l. x ∷ l) ih
    at ih false false e = ih

pub ended_by_either :
    (one b : ℕ) (records : List (Live Body)) → HaveOwnTags records
    → all_ended b records ≡ all_ended b (with_either_tag one life_tag records)
ended_by_either one b records own =
    ended_by_lives b records own
    ∙ ap (all_ended b) (sym (of_either one life_tag records))
    ∙ sym (ended_by_lives b (with_either_tag one life_tag records) ((own_stay records own).of_either one life_tag))
