-- Results, by the step tag of a path or by the tag of lives.
use Rattle.std.proofs.Common.{◌≡◌, ◌⊎◌, inl, inr, ℕ, ◌<◌, ◌≤◌, Bool, true, false, cond, List, [], ◌∷◌, length, Option, Some, refl, sym, ap, ◌∙◌, arith}
use Rattle.std.proofs.lemmas.Bool.{cases_lt}
use Rattle.lb_base.specs.declared.value.Tag.{Tag}
use Rattle.lb_base.specs.declared.value.Outcome.{Outcome}
use Rattle.boki_types.specs.declared.body.Body.{Body}
use Rattle.boki_types.specs.declared.body.Body.TheVariants as b
use Rattle.boki_model.specs.Live.{Live, has_tag}
use Rattle.std.specs.Option.{option_or}
use Rattle.boki_model.specs.Bodies.{tag_of, tags_of, path_number, step_tag, life_tag, step_of}
use Rattle.boki_model.specs.Modes.{init_path, finish_of, result_of}
use Rattle.boki_model.specs.Floor.{open_init, first_open}
use Rattle.boki_machine.specs.Attempt.{call_in, call_of}
use Rattle.boki_machine.specs.Reports.{add_result, results}
use Rattle.exactly_once.specs.FurtherLaws.StepRecords.{OwnTags, is_step_of, step_seqnums}
use Rattle.boki_machine.specs.Decided.{oldest}
use Rattle.log_folds.specs.ByTag.{with_tag}
use Rattle.log_folds.specs.Own.{HaveOwnTags}
use Rattle.log_folds.specs.Folds.{ResultsByTags, FirstStay}
use Rattle.log_folds.proofs.ByTag.{oldest_all, oldest_skip}
use Rattle.log_folds.proofs.Own.{never, second_has, says}
use Rattle.log_folds.proofs.Basics.{or_none}

results_by_steps :
    (path : List ℕ) (records : List (Live Body)) → HaveOwnTags records
    → result_of path records ≡ result_of path (with_tag (step_tag path) records)
results_by_steps path [] own = refl
results_by_steps path (x ∷ xs) own = at (has_tag (step_tag path) x.tags) refl (results_by_steps path xs own.1)
  where
    at :
        (b : Bool) → has_tag (step_tag path) x.tags ≡ b
        → result_of path xs ≡ result_of path (with_tag (step_tag path) xs)
        → option_or (result_of path xs) (finish_of path x.holds) ≡ result_of path (cond b (x ∷ with_tag (step_tag path) xs) (with_tag (step_tag path) xs))
    at true e ih = ap (λ o. option_or o (finish_of path x.holds)) ih
    at false e ih = ap (option_or (result_of path xs)) ((says x own.0).finish path e) ∙ or_none (result_of path xs) ∙ ih

pub results_by_lives :
    (path : List ℕ) (records : List (Live Body)) → HaveOwnTags records
    → result_of path records ≡ result_of path (with_tag life_tag records)
results_by_lives path [] own = refl
results_by_lives path (x ∷ xs) own = at (has_tag life_tag x.tags) refl (results_by_lives path xs own.1)
  where
    at : (b : Bool) → has_tag life_tag x.tags ≡ b → result_of path xs ≡ result_of path (with_tag life_tag xs)
        → option_or (result_of path xs) (finish_of path x.holds) ≡ result_of path (cond b (x ∷ with_tag life_tag xs) (with_tag life_tag xs))
    at true e ih = ap (λ o. option_or o (finish_of path x.holds)) ih
    at false e ih = ap (option_or (result_of path xs)) ((says x own.0).end path e) ∙ or_none (result_of path xs) ∙ ih

result_skips :
    (body : Body) (tags : List Tag) → OwnTags body tags → has_tag life_tag tags ≡ false
    → (rs : List (List ℕ × Outcome)) → add_result body rs ≡ rs
result_skips (b.Finish p i outcome) tags own without rs = never life_tag tags (tags_of (b.Finish p i outcome)) own (second_has life_tag (tag_of 2 (path_number p)) []) without
result_skips _ tags own without rs = refl

all_results :
    (records : List (Live Body)) → HaveOwnTags records → results records ≡ results (with_tag life_tag records)
all_results [] own = refl
all_results (x ∷ xs) own = at (has_tag life_tag x.tags) refl (all_results xs own.1)
  where
    at :
        (b : Bool) → has_tag life_tag x.tags ≡ b → results xs ≡ results (with_tag life_tag xs)
        → add_result x.holds (results xs) ≡ results (cond b (x ∷ with_tag life_tag xs) (with_tag life_tag xs))
    at true e ih = ap (add_result x.holds) ih
    at false e ih = result_skips x.holds x.tags own.0 e (results xs) ∙ ih

all_steps :
    (path : List ℕ) (records : List (Live Body)) → HaveOwnTags records
    → step_seqnums path records ≡ step_seqnums path (with_tag (step_tag path) records)
all_steps path [] own = refl
all_steps path (x ∷ xs) own = at (has_tag (step_tag path) x.tags) refl (all_steps path xs own.1)
  where
    at :
        (b : Bool) → has_tag (step_tag path) x.tags ≡ b
        → step_seqnums path xs ≡ step_seqnums path (with_tag (step_tag path) xs)
        → cond (is_step_of path (step_of x.holds)) (x.seq ∷ step_seqnums path xs) (step_seqnums path xs) ≡ step_seqnums path (cond b (x ∷ with_tag (step_tag path) xs) (with_tag (step_tag path) xs))
    at true e ih = ap (λ l. cond (is_step_of path (step_of x.holds)) (x.seq ∷ l) l) ih
    at false e ih = ap (λ b. cond b (x.seq ∷ step_seqnums path xs) (step_seqnums path xs)) ((says x own.0).step path e) ∙ ih

pub results_by_tags : (records : List (Live Body)) → HaveOwnTags records → ResultsByTags records
results_by_tags records own = record {
  of_steps = λ path. results_by_steps path records own;
  of_lives = λ path. results_by_lives path records own;
  all = all_results records own;
  steps = λ path. all_steps path records own;
}

-- What the oldest answer stays.

module _ {V : Type 0} (value : List (Live Body) → Option V) (one : Live Body → Option V) (first : (x : Live Body) (xs : List (Live Body)) → value (x ∷ xs) ≡ option_or (value xs) (one x)) where
  stays :
      (records : List (Live Body)) (n : ℕ) (v : V) → value (oldest n records) ≡ Some v
      → value records ≡ Some v
  stays [] n v is = ap value (sym (oldest_all n [] (omega arith))) ∙ is
  stays (x ∷ xs) n v is = at (stays xs n v) (cases_lt (length xs) n)
    where
      at :
          (value (oldest n xs) ≡ Some v → value xs ≡ Some v) → (length xs < n) ⊎ (n ≤ length xs)
          → value (x ∷ xs) ≡ Some v
      at ih (inl all) = ap value (sym (oldest_all n (x ∷ xs) (omega arith))) ∙ is
      at ih (inr few) = first x xs ∙ ap (λ o. option_or o (one x)) (ih (ap value (sym (oldest_skip n x xs few)) ∙ is))

pub first_answers_stay : (records : List (Live Body)) (n : ℕ) → FirstStay records n
first_answers_stay records n = record {
  call = λ path call is. stays (call_of path) (λ x. call_in path x.holds) (λ x xs. refl) records n call is;
  result = λ path outcome is. stays (result_of path) (λ x. finish_of path x.holds) (λ x xs. refl) records n outcome is;
  init = λ all seq is. stays (first_open all) (λ x. open_init all x.seq (init_path x.holds)) (λ x xs. refl) records n seq is;
}
