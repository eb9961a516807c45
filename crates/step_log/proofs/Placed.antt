-- The record at a place, by its seqnum and its bytes.
use Rattle.std.proofs.Common.{◌≡◌, ℕ, suc, Bool, true, false, cond, eqb, List, [], ◌∷◌, length, Option, Some, None, option_map, option_and_then, IsTrue, sym, ap, subst, ◌∙◌}
use Rattle.std.specs.List.{AllByRecursion}
use Rattle.lb_base.specs.declared.value.Record.{Record}
use Rattle.boki_types.specs.declared.body.Body.{Body}
use Rattle.boki_model.specs.Live.{Live}
use Rattle.boki_model.specs.Order.{at_seq}
use Rattle.boki_model.specs.Reads.{nth, nth_seq}
use Rattle.log_folds.specs.Recorded.{live_at}
use Rattle.log_folds.specs.Decoded.{decoded_record}
use Rattle.log_folds.proofs.Said.{is_seen_said}
use Rattle.book_api.specs.Books.{BookState, ordered, position, seen}
use Rattle.boki_model.specs.Bodies.{in_range}
use Rattle.log_folds.proofs.Each.{each_ordered}
use Rattle.step_log.specs.Sound.{body_of, view, IsSpelled, Sound}

abbrev there : BookState → ℕ → Option (Live Body)
there kept seq = option_map (λ (r : Record). live_at seq (decoded_record body_of r)) (at_seq seq (ordered kept))

module _ (kept : BookState) (engine tag place : ℕ) where
  by_seqnum : nth tag place (view kept engine) ≡ option_and_then (there kept) (nth_seq tag place (seen kept engine))
  by_seqnum = (is_seen_said body_of kept.shards kept.vectors (position kept engine)).placed tag place

  pub none_there : nth_seq tag place (seen kept engine) ≡ None → nth tag place (view kept engine) ≡ None
  none_there none = by_seqnum ∙ ap (option_and_then (there kept)) none

  pub no_record_there : (seq : ℕ) → nth_seq tag place (seen kept engine) ≡ Some seq → at_seq seq (ordered kept) ≡ None → nth tag place (view kept engine) ≡ None
  no_record_there seq some none = by_seqnum ∙ ap (option_and_then (there kept)) some ∙ ap (option_map (λ (r : Record). live_at seq (decoded_record body_of r))) none

  pub record_there : (seq : ℕ) (r : Record) → nth_seq tag place (seen kept engine) ≡ Some seq → at_seq seq (ordered kept) ≡ Some r
      → nth tag place (view kept engine) ≡ Some (live_at seq (decoded_record body_of r))
  record_there seq r some is = by_seqnum ∙ ap (option_and_then (there kept)) some ∙ ap (option_map (λ (r : Record). live_at seq (decoded_record body_of r))) is

-- what a record of a sound book says is in range
each_at : {X : Type 0} (P : X → Type 0) (seq : ℕ) (x : X) (xs : List X) → AllByRecursion P xs → at_seq seq xs ≡ Some x → P x
each_at P seq x [] all is = cc
each_at P seq x (y ∷ ys) all is = at (each_at P seq x ys all.1) (eqb seq (suc (length ys))) is
  where
    at : (at_seq seq ys ≡ Some x → P x) → (b : Bool) → cond b (Some y) (at_seq seq ys) ≡ Some x → P x
    at ih true e = subst P (let same : y ≡ x = cc in same) all.0
    at ih false e = ih e

pub is_spelled_there : (kept : BookState) (seq : ℕ) (r : Record) → Sound kept → at_seq seq (ordered kept) ≡ Some r → IsSpelled r
is_spelled_there kept seq r sound is = each_at IsSpelled seq r (ordered kept) (each_ordered IsSpelled kept.shards kept.vectors sound) is

pub is_ranged : (kept : BookState) (seq : ℕ) (r : Record) (body : Body) → Sound kept → at_seq seq (ordered kept) ≡ Some r → body ≡ body_of r.bytes → IsTrue (in_range body)
is_ranged kept seq r body sound is said =
    let spelled = each_at IsSpelled seq r (ordered kept) (each_ordered IsSpelled kept.shards kept.vectors sound) is in
    subst (λ x. IsTrue (in_range x)) (sym said) spelled.range
