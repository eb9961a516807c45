-- What is live at a seqnum is the log's record there.
use Rattle.std.proofs.Common.{◌≡◌, ℕ, suc, ◌≤◌, Bool, true, false, cond, eqb, ◌&&◌, ◌||◌, List, [], ◌∷◌, length, Some, None, option_map, option_and_then, refl, sym, ap, ◌∙◌, arith}
use Rattle.std.specs.Option.{option_map_or}
use Rattle.std.specs.List.{AllByRecursion}
use Rattle.std.proofs.lemmas.Bool.{ne_eqb, eq-eqb, eqb-true}
use Rattle.boki_model.specs.Live.{LogRecord, Live, has_tag, count, meets_condition, live, upto, is_live}
use Rattle.boki_model.specs.Reads.{nth, nth_seq}
use Rattle.boki_model.specs.Order.{at_seq}
use Rattle.boki_model.specs.LogLaws.{FallBelow}
use Rattle.boki_model.proofs.Logs.{live_falls, upto_all}
use Rattle.boki_machine.specs.Machine.{user_text, user_text_at}
use Rattle.log_folds.specs.Bounds.{record_at}
use Rattle.log_folds.specs.Recorded.{live_at, logged_at, AreOfLog, TextsAreRecorded}
use Rattle.log_folds.proofs.Each.{each_upto}

module _ {A : Type 0} where
  -- each is the log's at its seqnum
  abbrev AreLogged : List (LogRecord A) → List (Live A) → Type 0
  AreLogged log xs = AllByRecursion (λ x. logged_at x.seq log ≡ Some x) xs

  -- a record more changes nothing below it
  logged_more :
      (r : LogRecord A) (log : List (LogRecord A)) (end : ℕ) (xs : List (Live A)) → FallBelow end xs
      → end ≤ suc (length log) → AreLogged log xs → AreLogged (r ∷ log) xs
  logged_more r log end [] fall le all = tt
  logged_more r log end (x ∷ xs) fall le all = (
    ap (λ b. option_map (live_at x.seq) (cond b (Some r) (at_seq x.seq log))) (ne_eqb x.seq (suc (length log)) (λ e. omega (arith, fall.1)))
        ∙ all.0,
    logged_more r log x.seq xs fall.2 (omega (arith, fall.1)) all.1,
  )

  all_logged : (log : List (LogRecord A)) → AreLogged log (live log)
  all_logged [] = tt
  all_logged (r ∷ log) = at (logged_more r log (suc (length log)) (live log) (live_falls log) (omega arith) (all_logged log)) (meets_condition r.condition (live log))
    where
      at :
          AreLogged (r ∷ log) (live log) → (b : Bool)
          → AreLogged (r ∷ log) (cond b (record { seq = suc (length log); tags = r.tags; holds = r.holds } ∷ live log) (live log))
      at rest true = (ap (λ b. option_map (live_at (suc (length log))) (cond b (Some r) (at_seq (suc (length log)) log))) (eq-eqb (suc (length log)) (suc (length log)) refl), rest)
      at rest false = rest

  module _ (log : List (LogRecord A)) where
    nth_logged :
        (tag place : ℕ) (xs : List (Live A)) → AreLogged log xs
        → nth tag place xs ≡ option_and_then (λ seq. logged_at seq log) (nth_seq tag place xs)
    nth_logged tag place [] all = refl
    nth_logged tag place (x ∷ xs) all = at (nth_logged tag place xs all.1) (has_tag tag x.tags && eqb place (count tag xs))
      where
        at :
            nth tag place xs ≡ option_and_then (λ seq. logged_at seq log) (nth_seq tag place xs)
            → (b : Bool)
            → cond b (Some x) (nth tag place xs)
            ≡ option_and_then (λ seq. logged_at seq log) (option_map (λ x. x.seq) (cond b (Some x) (nth tag place xs)))
        at ih true = sym all.0
        at ih false = ih

    stands_logged :
        (seq : ℕ) (xs : List (Live A)) → AreLogged log xs
        → record_at seq xs ≡ cond (is_live seq xs) (logged_at seq log) None
    stands_logged seq [] all = refl
    stands_logged seq (x ∷ xs) all = at (stands_logged seq xs all.1) (eqb seq x.seq) refl
      where
        at :
            record_at seq xs ≡ cond (is_live seq xs) (logged_at seq log) None → (b : Bool)
            → eqb seq x.seq ≡ b
            → cond b (Some x) (record_at seq xs) ≡ cond (b || is_live seq xs) (logged_at seq log) None
        at ih true e = sym (ap (λ n. logged_at n log) (eqb-true seq x.seq e) ∙ all.0)
        at ih false e = ih

    module _ (p : ℕ) where
      seen_logged : AreLogged log (upto p (live log))
      seen_logged = each_upto (λ x. logged_at x.seq log ≡ Some x) p (live log) (all_logged log)

      pub of_log : AreOfLog log p
      of_log = record {
        all = λ le. upto_all (suc (length log)) p (live log) (live_falls log) (omega arith);
        each = seen_logged;
        placed = λ tag place. nth_logged tag place (upto p (live log)) seen_logged;
        stands = λ seq. stands_logged seq (upto p (live log)) seen_logged;
      }

pub texts_recorded : TextsAreRecorded
texts_recorded seq [] = refl
texts_recorded seq (x ∷ xs) = at (texts_recorded seq xs) (eqb seq x.seq)
  where
    at :
        user_text_at seq xs ≡ option_map_or (λ x. user_text x.holds) (record_at seq xs) [] → (b : Bool)
        → cond b (user_text x.holds) (user_text_at seq xs)
        ≡ option_map_or (λ x. user_text x.holds) (cond b (Some x) (record_at seq xs)) []
    at ih true = refl
    at ih false = ih
