-- The result of a path, by a walk over the records of its step tag.
use Rattle.std.proofs.Common.{◌≡◌, ℕ, suc, ◌+◌, ◌<◌, ◌≤◌, Bool, true, false, cond, ◌&&◌, eqb, List, [], ◌∷◌, Option, Some, None, option_map, is_some, refl, sym, ap, ◌∙◌, arith}
use Rattle.std.specs.Option.{option_and_then}
use Rattle.std.proofs.lemmas.Bool.{eqb-false}
use Rattle.lb_base.specs.declared.value.Seqnum.{Seqnum}
use Rattle.lb_base.specs.declared.value.Outcome.{Outcome}
use Rattle.boki_types.specs.declared.body.Body.{Body}
use Rattle.boki_model.specs.Live.{Live, has_tag, count}
use Rattle.std.specs.Option.{option_or}
use Rattle.boki_model.specs.Reads.{nth}
use Rattle.boki_model.specs.Bodies.{step_tag}
use Rattle.boki_model.specs.Modes.{result_of, finish_of}
use Rattle.log_folds.specs.ByTag.{with_tag}
use Rattle.boki_machine.specs.Decided.{oldest}
use Rattle.log_folds.specs.Own.{HaveOwnTags}
use Rattle.log_folds.proofs.ByTag.{of_tag}
use Rattle.log_folds.proofs.Own.{own_paths_stay}
use Rattle.log_folds.proofs.Results.{results_by_tags, first_answers_stay}
use Rattle.log_folds.proofs.Said.{is_seen_said}
use Rattle.book_api.specs.Books.{BookState, position, seen}
use Rattle.step_log.specs.Sound.{body_of, view, seqnum_and_body, Sound}
use Rattle.step_log.proofs.Calls.{own_view}

nth_there : {A : Type 0} (tag place : ℕ) (xs : List (Live A)) → place < count tag xs → (x : Live A) × (nth tag place xs ≡ Some x)
nth_there tag place [] lt = absurd (let f : ⊥ = omega arith in f)
nth_there {A} tag place (y ∷ ys) lt = at (nth_there tag place ys) (has_tag tag y.tags) (eqb place (count tag ys)) refl lt
  where
    at : (place < count tag ys → (x : Live A) × (nth tag place ys ≡ Some x)) → (b c : Bool) → eqb place (count tag ys) ≡ c → place < cond b (suc (count tag ys)) (count tag ys)
        → (x : Live A) × (cond (b && c) (Some y) (nth tag place ys) ≡ Some x)
    at ih true true e lt = (y, refl)
    at ih true false e lt = ih (let ne = eqb-false place (count tag ys) e in omega arith)
    at ih false c e lt = ih lt

some_in : (o : Option Outcome) → is_some o ≡ true → (x : Outcome) × (o ≡ Some x)
some_in None is = cc
some_in (Some x) is = (x, refl)

none_in : (o : Option Outcome) → is_some o ≡ false → o ≡ None
none_in None is = refl
none_in (Some x) is = cc

abbrev pub result_at : List ℕ → Option (Live Body) → Option Outcome
result_at path o = option_and_then (λ (x : Live Body). finish_of path x.holds) o

pub result_told : (path : List ℕ) (o : Option (Live Body)) → option_and_then (λ (f : Seqnum × Body). finish_of path f.1) (option_map seqnum_and_body o) ≡ result_at path o
result_told path None = refl
result_told path (Some x) = refl

module _ (path : List ℕ) (kept : BookState) (engine : ℕ) where
  abbrev seen_now : List (Live Body)
  seen_now = view kept engine

  abbrev pub steps : List (Live Body)
  steps = with_tag (step_tag path) (view kept engine)

  pub counted : count (step_tag path) (seen kept engine) ≡ count (step_tag path) (view kept engine)
  counted = sym ((is_seen_said body_of kept.shards kept.vectors (position kept engine)).counted (step_tag path))

  pub walk_start : result_of path (oldest 0 steps) ≡ None
  walk_start = ap (result_of path) (of_tag (step_tag path) seen_now).none

  step : (place : ℕ) → place < count (step_tag path) seen_now → result_of path (oldest place steps) ≡ None → result_of path (oldest (suc place) steps) ≡ result_at path (nth (step_tag path) place seen_now)
  step place lt before =
      let there = nth_there (step_tag path) place seen_now lt in
      ap (result_of path) ((of_tag (step_tag path) seen_now).one_more place there.0 there.1)
      ∙ ap (λ o. option_or o (finish_of path there.0.holds)) before
      ∙ ap (result_at path) (sym there.1)

  pub walk_more : (place : ℕ) (o : Option Outcome) → place < count (step_tag path) seen_now → result_of path (oldest place steps) ≡ None → o ≡ result_at path (nth (step_tag path) place seen_now) → is_some o ≡ false
      → result_of path (oldest (place + 1) steps) ≡ None
  walk_more place o lt before is none =
      ap (λ n. result_of path (oldest n steps)) (let e : place + 1 ≡ suc place = omega arith in e) ∙ step place lt before ∙ sym is ∙ none_in o none

  module _ (sound : Sound kept) where
    own : HaveOwnTags seen_now
    own = (own_paths_stay seen_now (own_view kept engine sound)).tags

    of_steps : result_of path seen_now ≡ result_of path steps
    of_steps = (results_by_tags seen_now own).of_steps path

    pub walk_found : (place : ℕ) (o : Option Outcome) → place < count (step_tag path) seen_now → result_of path (oldest place steps) ≡ None
        → o ≡ result_at path (nth (step_tag path) place seen_now) → is_some o ≡ true → o ≡ result_of path seen_now
    walk_found place o lt before is there =
        let some = some_in o there in
        some.1
        ∙ sym ((first_answers_stay steps (suc place)).result path some.0 (step place lt before ∙ sym is ∙ some.1))
        ∙ sym of_steps

    pub walk_ended : (place : ℕ) → count (step_tag path) seen_now ≤ place → place ≤ count (step_tag path) seen_now → result_of path (oldest place steps) ≡ None → None ≡ result_of path seen_now
    walk_ended place low high before =
        sym before
        ∙ ap (λ n. result_of path (oldest n steps)) (let e : place ≡ count (step_tag path) seen_now = omega arith in e)
        ∙ ap (result_of path) (of_tag (step_tag path) seen_now).all
        ∙ sym of_steps
