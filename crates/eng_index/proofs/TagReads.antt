-- The reads of a tag, as searches of its seqnums.
use Rattle.std.proofs.Common.{◌≡◌, ℕ, suc, Bool, true, false, cond, ◌&&◌, leb, List, [], ◌∷◌, length, reverse, find, slice_get, Option, Some, None, refl, sym, ap, ◌∙◌, subst}
use Rattle.std.specs.Option.{option_or}
use Rattle.std.specs.List.Sorted.{IsNonDecreasing}
use Rattle.std.proofs.lemmas.List.{reverse-reverse, length-reverse}
use Rattle.std.proofs.lemmas.List.Folds.{find-append}
use mathlib.Core.List.{reverse-cons}
use Rattle.boki_model.specs.Live.{LogRecord, Live, has_tag, count, live}
use Rattle.boki_model.specs.Reads.{tagged_seqnums, next, prev, nth_seq}
use Rattle.boki_model.proofs.Logs.{live_falls, length-tagged, places_ascend}
use Rattle.eng_index.specs.IndexState.{IndexState, seqnums_of, IsIndexOf}
use Rattle.eng_index.proofs.Ascending.{ascends}

same_or : {X : Type 0} (o p : Option X) → option_or o p ≡ option_or o p
same_or None p = refl
same_or (Some x) p = refl

or_none : {X : Type 0} (o : Option X) → option_or o None ≡ o
or_none None = refl
or_none (Some x) = refl

module _ {A : Type 0} where
  pub next_is_find : (tag a : ℕ) (xs : List (Live A)) → next tag a xs ≡ find (leb a) (reverse (tagged_seqnums tag xs))
  next_is_find tag a [] = refl
  next_is_find tag a (x ∷ xs) = at (next_is_find tag a xs) (has_tag tag x.tags)
    where
      at : next tag a xs ≡ find (leb a) (reverse (tagged_seqnums tag xs)) → (b : Bool) → option_or (next tag a xs) (cond (b && leb a x.seq) (Some x.seq) None) ≡ find (leb a) (reverse (cond b (x.seq ∷ tagged_seqnums tag xs) (tagged_seqnums tag xs)))
      at ih true =
          ap (λ o. option_or o (cond (leb a x.seq) (Some x.seq) None)) ih
          ∙ same_or (find (leb a) (reverse (tagged_seqnums tag xs))) (cond (leb a x.seq) (Some x.seq) None)
          ∙ sym (find-append (leb a) (reverse (tagged_seqnums tag xs)) (x.seq ∷ []))
          ∙ ap (find (leb a)) (sym (reverse-cons x.seq (tagged_seqnums tag xs)))
      at ih false = or_none (next tag a xs) ∙ ih

  pub prev_is_find : (tag b : ℕ) (xs : List (Live A)) → prev tag b xs ≡ find (λ seq. leb seq b) (tagged_seqnums tag xs)
  prev_is_find tag b [] = refl
  prev_is_find tag b (x ∷ xs) = at (prev_is_find tag b xs) (has_tag tag x.tags)
    where
      at : prev tag b xs ≡ find (λ seq. leb seq b) (tagged_seqnums tag xs) → (t : Bool) → cond (t && leb x.seq b) (Some x.seq) (prev tag b xs) ≡ find (λ seq. leb seq b) (cond t (x.seq ∷ tagged_seqnums tag xs) (tagged_seqnums tag xs))
      at ih true = ap (cond (leb x.seq b) (Some x.seq)) ih
      at ih false = ih

-- What the list of a tag says, where the index shows the log.

module _ (log : List (LogRecord (List ℕ))) (kept : IndexState) (shows : IsIndexOf log kept) (tag : ℕ) (xs : List ℕ) (is : xs ≡ seqnums_of tag kept) where
  abbrev shown : xs ≡ reverse (tagged_seqnums tag (live log))
  shown = is ∙ shows.lists tag

  pub list_ascends : IsNonDecreasing xs
  list_ascends = subst IsNonDecreasing (sym shown) (ascends tag (suc (length log)) (live log) (live_falls log))

  pub count_shown : length xs ≡ count tag (live log)
  count_shown = ap length shown ∙ length-reverse (tagged_seqnums tag (live log)) ∙ length-tagged tag (live log)

  pub nth_shown : (place : ℕ) → slice_get xs place ≡ nth_seq tag place (live log)
  nth_shown place = ap (λ l. slice_get l place) shown ∙ sym (places_ascend tag place (live log))

  pub next_shown : (a : ℕ) → find (leb a) xs ≡ next tag a (live log)
  next_shown a = ap (find (leb a)) shown ∙ sym (next_is_find tag a (live log))

  pub prev_shown : (b : ℕ) → find (λ seq. leb seq b) (reverse xs) ≡ prev tag b (live log)
  prev_shown b = ap (λ l. find (λ seq. leb seq b) (reverse l)) shown ∙ ap (find (λ seq. leb seq b)) (reverse-reverse (tagged_seqnums tag (live log))) ∙ sym (prev_is_find tag b (live log))
