-- An index to which the next record is added shows the log with that record.
use Rattle.std.proofs.Common.{◌≡◌, ℕ, zero, suc, ◌-◌, ◌<◌, Bool, true, false, cond, ◌&&◌, eqb, List, [], ◌∷◌, ◌++◌, length, reverse, get_or, slice_get, Option, Some, None, Result, Ok, Err, OnErr, refl, sym, ap, ◌∙◌, arith}
use Rattle.std.specs.Option.{option_map_or}
use Rattle.std.specs.HashMap.{HashMap}
use Rattle.std.specs.declared.vec.Vec.{Vec}
use Rattle.std.proofs.lemmas.Bool.{ne_eqb}
use Rattle.std.proofs.lemmas.List.{length-reverse, get_or-reverse}
use mathlib.Core.List.{reverse-cons}
use Rattle.lb_base.specs.declared.value.Cond.{Cond}
use Rattle.boki_model.specs.Live.{LogRecord, has_tag, meets_condition, live}
use Rattle.boki_model.specs.Reads.{tagged_seqnums}
use Rattle.boki_model.proofs.Logs.{live_falls}
use Rattle.eng_index.specs.Lists.{with_last, seqs, is_met}
use Rattle.eng_index.specs.IndexState.{IndexState, seqnums_of, marks_of, IsIndexOf}
use Rattle.eng_index.proofs.Ascending.{tagged_below}
use Rattle.eng_index.proofs.Marks.{length-marks_of}
use Rattle.eng_index.proofs.TagReads.{count_shown}

got_below : (seq : ℕ) (xs : List ℕ) (i : ℕ) → ((k d : ℕ) → k < length xs → get_or xs k d < seq) → option_map_or (λ last. eqb last seq) (slice_get xs i) false ≡ false
got_below seq [] i below = refl
got_below seq (x ∷ xs) zero below = ne_eqb x seq (λ e. let lt = below 0 0 (omega arith) in omega (arith, e, lt))
got_below seq (x ∷ xs) (suc i) below = got_below seq xs i (λ k d lt. below (suc k) d (omega arith))

module _ (log : List (LogRecord (List ℕ))) (tag : ℕ) where
  abbrev ds : List ℕ
  ds = tagged_seqnums tag (live log)

  reversed_below : (k d : ℕ) → k < length (reverse ds) → get_or (reverse ds) k d < suc (length log)
  reversed_below k d lt =
      let e = get_or-reverse ds k d (omega (arith, length-reverse ds)) in
      omega (arith, e, tagged_below tag (suc (length log)) (live log) (live_falls log) (length ds - 1 - k) d (omega (arith, length-reverse ds)))

  -- the seqnum of the next record isn't in a list yet
  goes_behind : with_last (suc (length log)) (reverse ds) ≡ reverse ds ++ suc (length log) ∷ []
  goes_behind = ap (λ b. cond b (reverse ds) (reverse ds ++ suc (length log) ∷ [])) (got_below (suc (length log)) (reverse ds) (length (reverse ds) - 1) reversed_below)

  one_more : (r : LogRecord (List ℕ)) (b : Bool) → cond (b && has_tag tag r.tags) (reverse ds ++ suc (length log) ∷ []) (reverse ds)
      ≡ reverse (tagged_seqnums tag (cond b (record { seq = suc (length log); tags = r.tags; holds = r.holds } ∷ live log) (live log)))
  one_more r true = at (has_tag tag r.tags)
    where
      at : (h : Bool) → cond h (reverse ds ++ suc (length log) ∷ []) (reverse ds) ≡ reverse (cond h (suc (length log) ∷ ds) ds)
      at true = sym (reverse-cons (suc (length log)) ds)
      at false = refl
  one_more r false = refl

module _ (log : List (LogRecord (List ℕ))) (old : IndexState) (shows : IsIndexOf log old) where
  pub marks_count : length old.marks ≡ length log
  marks_count = ap length shows.marks ∙ length-reverse (marks_of log) ∙ length-marks_of log

  pub met_shown : {S Z : Type 0} (m : HashMap ℕ (Vec ℕ Z) S) → ((tag : ℕ) → seqs tag m ≡ seqnums_of tag old) → (c : Option Cond) → is_met c m ≡ meets_condition c (live log)
  met_shown m same None = refl
  met_shown m same (Some c) = ap (eqb c.place) (count_shown log old shows c.tag.0 (seqs c.tag.0 m) (same c.tag.0))

  pub added_shown : (r : LogRecord (List ℕ)) (new : IndexState) (b : Bool) → b ≡ meets_condition r.condition (live log) → new.marks ≡ old.marks ++ b ∷ []
      → ((tag : ℕ) → seqnums_of tag new ≡ cond (b && has_tag tag r.tags) (with_last (suc (length old.marks)) (seqnums_of tag old)) (seqnums_of tag old)) → IsIndexOf (r ∷ log) new
  added_shown r new b met marks lists = record {
    lists = λ tag.
        lists tag
        ∙ ap (λ n. cond (b && has_tag tag r.tags) (with_last (suc n) (seqnums_of tag old)) (seqnums_of tag old)) marks_count
        ∙ ap (λ l. cond (b && has_tag tag r.tags) (with_last (suc (length log)) l) l) (shows.lists tag)
        ∙ ap (λ l. cond (b && has_tag tag r.tags) l (reverse (tagged_seqnums tag (live log)))) (goes_behind log tag)
        ∙ ap (λ c. cond (c && has_tag tag r.tags) (reverse (tagged_seqnums tag (live log)) ++ suc (length log) ∷ []) (reverse (tagged_seqnums tag (live log)))) met
        ∙ one_more log tag r (meets_condition r.condition (live log));
    marks =
        marks
        ∙ ap (λ l. l ++ b ∷ []) shows.marks
        ∙ ap (λ c. reverse (marks_of log) ++ c ∷ []) met
        ∙ sym (reverse-cons (meets_condition r.condition (live log)) (marks_of log));
  }

pub on_err : {T E P : Type 0} (r : Result T E) → P → OnErr r P
on_err (Ok x) p = tt
on_err (Err e) p = p
