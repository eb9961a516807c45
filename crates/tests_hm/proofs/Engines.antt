-- What a book is asked to do leaves its engines.
use Rattle.std.proofs.Common.{◌≡◌, ℕ, ◌-◌, ◌<◌, ◌≤◌, Bool, true, false, cond, ◌∷◌, length, Result, Ok, Err, IfOk, sym, ap, ◌∙◌, subst, arith}
use Rattle.std.proofs.lemmas.List.{length-set}
use Rattle.std.specs.Prelude.{Option}
use Rattle.lb_base.specs.declared.value.Cond.{Cond}
use Rattle.boki_types.specs.declared.body.Body.{Body}
use Rattle.boki_types.specs.declared.log.Sent.{Sent}
use Rattle.step_log.specs.Sound.{IsBodySent}
use Rattle.boki_types.specs.declared.log.Cut.{Cut}
use Rattle.book_api.specs.Books.{BookState, HasEngine, new_book, IsCut, cuts_nothing, progress_of, with_position}

same_engines : (engine : ℕ) (old new : BookState) → length new.positions ≡ length old.positions → HasEngine engine old → HasEngine engine new
same_engines engine old new same has = (has.0, (let le = has.1 in omega (arith, same, le)))

pub made : {E : Type 0} (r : Result BookState E) → IfOk r (λ b. b ≡ new_book 1 1 1) → IfOk r (HasEngine 1)
made (Ok b) is = subst (HasEngine 1) (sym is) ((let h : 0 < 1 = omega arith in h), (let h : 1 ≤ 1 = omega arith in h))
made (Err e) is = tt

pub after_a_cut : (engine : ℕ) (old new : BookState) (cut : Cut) → IsCut old new cut → HasEngine engine old → HasEngine engine new
after_a_cut engine old new cut is has = subst (HasEngine engine) (sym is.after) (at (cuts_nothing old))
  where
    at : (b : Bool) → HasEngine engine (cond b old (record old { vectors = progress_of old ∷ old.vectors }))
    at true = has
    at false = has

pub after_moving : (engine p : ℕ) (old new : BookState) → new ≡ with_position engine p old → HasEngine engine old → HasEngine engine new
after_moving engine p old new is has =
    same_engines engine old new (ap (λ (b : BookState). length b.positions) is ∙ length-set old.positions (engine - 1) p) has

pub after_sending : (engine : ℕ) (condition : Option Cond) (body : Body) (old new : BookState) (sent : Sent) → IsBodySent engine condition body old new sent → HasEngine engine old → HasEngine engine new
after_sending engine condition body old new sent is has = subst (HasEngine engine) (sym is.after) has
