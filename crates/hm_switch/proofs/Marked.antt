-- The next marked record of a view, and what a view's calls answer.
use Rattle.std.proofs.Common.{◌≡◌, ℕ, suc, ◌+◌, ◌||◌, List, ◌++◌, length, Option, Some, Result, Ok, Err, OnOk, sym, ap, subst, ◌∙◌, arith}
use Rattle.boki_types.specs.declared.body.Body.{Body}
use Rattle.boki_model.specs.Live.{LogRecord, has_tag}
use Rattle.boki_model.specs.Bodies.{life_tag}
use Rattle.boki_model.specs.Reads.{next}
use Rattle.boki_model.specs.Order.{order}
use Rattle.boki_model.specs.Modes.{Modes, least_open}
use Rattle.boki_model.specs.Floor.{trim_limit}
use Rattle.log_folds.specs.Own.{switch_tag, trim_tag}
use Rattle.log_folds.proofs.Said.{is_said}
use Rattle.switch_laws.specs.Trims.{TrimCounts}
use Rattle.switch_laws.proofs.Trims.{trimmed_counts}
use Rattle.book_api.specs.Books.{BookState, ordered, position}
use Rattle.step_log.specs.Sound.{body_of, bodies, view}
use Rattle.hm_switch.specs.declared.change.Pending.{Pending}
use Rattle.hm_switch.specs.Modes.{switch_of, pending_in}
use Rattle.hm_switch.specs.Next.{earlier, IsNextMarked}
use Rattle.hm_switch.specs.SwitchStates.{SwitchState, IsCurrent}
use Rattle.hm_switch.specs.Answers.{Pends}
use Rattle.hm_switch.proofs.NextOnes.{IsFirstOf, first_is, first_of_two, next_is}
use Rattle.hm_switch.proofs.Going.{view_falls}

pub on_ok : {T E P Q : Type 0} (r : Result T E) → (P → Q) → OnOk r P → OnOk r Q
on_ok (Ok x) f p = f p
on_ok (Err e) f p = tt

module _ (kept : BookState) (engine behind : ℕ) where
  first_with : (tag : ℕ) (o : Option ℕ) → o ≡ next tag (suc behind) (view kept engine) → IsFirstOf (has_tag tag) (suc behind) o (view kept engine)
  first_with tag o is = first_is tag (suc behind) (suc (position kept engine)) (view kept engine) (view_falls kept engine) o (sym is)

  pub marked_is : (s t l e f : Option ℕ) → s ≡ next switch_tag (suc behind) (view kept engine) → t ≡ next trim_tag (suc behind) (view kept engine) → l ≡ next life_tag (suc behind) (view kept engine)
      → e ≡ earlier s t → f ≡ earlier e l → IsNextMarked (position kept engine) behind f (view kept engine)
  marked_is s t l e f switch trim life one two =
      subst (λ o. IsNextMarked (position kept engine) behind o (view kept engine)) (sym (two ∙ ap (λ o. earlier o l) one))
      (next_is (position kept engine) behind (view kept engine) (earlier (earlier s t) l)
      (first_of_two (λ tags. has_tag switch_tag tags || has_tag trim_tag tags) (has_tag life_tag) (suc behind) (view kept engine) (earlier s t) l
      (first_of_two (has_tag switch_tag) (has_tag trim_tag) (suc behind) (view kept engine) s t (first_with switch_tag s switch) (first_with trim_tag t trim))
      (first_with life_tag l life)))

-- a switch pends
pub pends : (book : BookState) (engine : ℕ) (s : SwitchState) (p : Pending) (least : Option (List ℕ)) → IsCurrent book engine s → s.pending ≡ Some p → least ≡ least_open p.begun (view book engine)
    → Pends s.first engine book least
pends book engine s p least current is least_is = record {
  switch = switch_of p;
  pending = ap (λ (now : Modes). now.pending) current.fold.modes.now ∙ ap pending_in is;
  least_is = sym least_is;
}

-- what a Trim of a view's limit counts
pub trim_counts : (kept : BookState) (engine bound place behind : ℕ) → bound ≡ trim_limit place (view kept engine) → place ≡ position kept engine → behind + position kept engine ≡ length (ordered kept)
    → (since : List (LogRecord Body)) → TrimCounts bound (since ++ order (bodies kept) kept.vectors)
trim_counts kept engine bound place behind is at long since =
    subst (λ w. TrimCounts w (since ++ order (bodies kept) kept.vectors)) (sym (is ∙ ap (λ n. trim_limit n (view kept engine)) at))
    (trimmed_counts (order (bodies kept) kept.vectors) since (position kept engine) (let l = (is_said body_of kept.shards kept.vectors).long in omega arith))
