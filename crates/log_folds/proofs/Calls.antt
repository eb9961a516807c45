-- The call of a path, by its call tag.
use Rattle.std.proofs.Common.{◌≡◌, ℕ, suc, ◌<◌, Bool, true, false, cond, eqb, ◌&&◌, List, [], ◌∷◌, Option, Some, None, option_and_then, refl, sym, ap, ◌∙◌, arith}
use Rattle.std.specs.Prelude.{is_some}
use Rattle.std.specs.List.{AllByRecursion}
use Rattle.std.proofs.lemmas.Bool.{eqb-true, eqb-false}
use Rattle.lb_base.specs.Path.{IsPath}
use Rattle.boki_types.specs.declared.body.Body.{Body}
use Rattle.boki_types.specs.declared.log.Call.{Call}
use Rattle.boki_model.specs.Live.{Live, has_tag, count}
use Rattle.std.specs.Option.{option_or}
use Rattle.boki_model.specs.Reads.{nth}
use Rattle.boki_model.specs.Bodies.{call_tag}
use Rattle.boki_model.proofs.Logs.{nth_past}
use Rattle.boki_machine.specs.Attempt.{call_in, call_of}
use Rattle.log_folds.specs.ByTag.{with_tag}
use Rattle.exactly_once.specs.FurtherLaws.StepRecords.{IsWellFormedLive}
use Rattle.log_folds.specs.Own.{HaveOwnTags}
use Rattle.log_folds.proofs.Own.{says, tell_records}
use Rattle.log_folds.proofs.Basics.{or_none}

pub calls_by_tag :
    (path : List ℕ) (records : List (Live Body)) → HaveOwnTags records
    → call_of path records ≡ call_of path (with_tag (call_tag path) records)
calls_by_tag path [] own = refl
calls_by_tag path (x ∷ xs) own = at (has_tag (call_tag path) x.tags) refl (calls_by_tag path xs own.1)
  where
    at :
        (b : Bool) → has_tag (call_tag path) x.tags ≡ b
        → call_of path xs ≡ call_of path (with_tag (call_tag path) xs)
        → option_or (call_of path xs) (call_in path x.holds) ≡ call_of path (cond b (x ∷ with_tag (call_tag path) xs) (with_tag (call_tag path) xs))
    at true e ih = ap (λ o. option_or o (call_in path x.holds)) ih
    at false e ih = ap (option_or (call_of path xs)) ((says x own.0).call path e) ∙ or_none (call_of path xs) ∙ ih

-- Where each record of the call tag is a call, the first of them is it.

module _ (path : List ℕ) (ok : IsPath path) where
  told : (x : Live Body) → IsWellFormedLive x → has_tag (call_tag path) x.tags ≡ is_some (call_in path x.holds)
  told x own = (tell_records path x.holds x.tags ok own.tags own.paths).call

  some_called :
      (records : List (Live Body)) → AllByRecursion IsWellFormedLive records → 0 < count (call_tag path) records
      → is_some (call_of path records) ≡ true
  some_called [] own lt = absurd (let h : ⊥ = omega arith in h)
  some_called (x ∷ xs) own lt = at (call_of path xs) (some_called xs own.1) (has_tag (call_tag path) x.tags) (call_in path x.holds) (told x own.0) lt
    where
      at :
          (o : Option Call) → (0 < count (call_tag path) xs → is_some o ≡ true)
          → (b : Bool) (c : Option Call) → b ≡ is_some c
          → 0 < cond b (suc (count (call_tag path) xs)) (count (call_tag path) xs)
          → is_some (option_or o c) ≡ true
      at (Some call) ih b c e lt = refl
      at None ih true c e lt = sym e
      at None ih false c e lt = absurd (let no_way = ih lt in let h : ⊥ = cc in h)

  first_call :
      (records : List (Live Body)) → AllByRecursion IsWellFormedLive records
      → call_of path records ≡ option_and_then (λ x. call_in path x.holds) (nth (call_tag path) 0 records)
  first_call [] own = refl
  first_call (x ∷ xs) own = at (first_call xs own.1) (eqb 0 (count (call_tag path) xs)) refl (has_tag (call_tag path) x.tags) (told x own.0)
    where
      Same : Type 0
      Same = call_of path xs ≡ option_and_then (λ x. call_in path x.holds) (nth (call_tag path) 0 xs)

      none : Same → count (call_tag path) xs ≡ 0 → call_of path xs ≡ None
      none ih e = ih ∙ ap (option_and_then (λ (x : Live Body). call_in path x.holds)) (nth_past (call_tag path) 0 xs (omega arith))

      no_call : (c : Option Call) → false ≡ is_some c → c ≡ None
      no_call None e = refl
      no_call (Some c) e = cc

      kept : (o c : Option Call) → is_some o ≡ true → option_or o c ≡ o
      kept None c e = cc
      kept (Some call) c e = refl

      skipped :
          (b : Bool)
          → ◌≡◌ {A = Option Call} (option_and_then (λ x. call_in path x.holds) (cond (b && false) (Some x) (nth (call_tag path) 0 xs))) (option_and_then (λ x. call_in path x.holds) (nth (call_tag path) 0 xs))
      skipped true = refl
      skipped false = refl

      at :
          Same → (t : Bool) → eqb 0 (count (call_tag path) xs) ≡ t → (b : Bool)
          → b ≡ is_some (call_in path x.holds)
          → option_or (call_of path xs) (call_in path x.holds) ≡ option_and_then (λ x. call_in path x.holds) (cond (b && t) (Some x) (nth (call_tag path) 0 xs))
      at ih true e true has = ap (λ o. option_or o (call_in path x.holds)) (none ih (sym (eqb-true 0 (count (call_tag path) xs) e)))
      at ih true e false has = ap (option_or (call_of path xs)) (no_call (call_in path x.holds) has) ∙ or_none (call_of path xs) ∙ ih
      at ih false e b has =
          kept (call_of path xs) (call_in path x.holds) (some_called xs own.1 (let ne = eqb-false 0 (count (call_tag path) xs) e in omega arith))
          ∙ ih
          ∙ sym (skipped b)

pub call_is_first :
    (path : List ℕ) (records : List (Live Body)) → IsPath path → AllByRecursion IsWellFormedLive records
    → call_of path records ≡ option_and_then (λ x. call_in path x.holds) (nth (call_tag path) 0 records)
call_is_first path records ok own = first_call path ok records own
