-- What is seen up to a position, by the reads of all: where the newest record is above it, it is skipped;
-- else all are seen.
use Rattle.std.proofs.Common.{◌≡◌, ◌⊎◌, inl, inr, ℕ, suc, ◌<◌, ◌≤◌, min, Bool, true, false, cond, eqb, leb, ◌&&◌, ◌||◌, List, [], ◌∷◌, Option, Some, None, option_map, option_and_then, refl, sym, ap, ◌∙◌, arith}
use Rattle.std.specs.List.{filter}
use Rattle.std.proofs.lemmas.Bool.{le-leb, lt-leb, leb-true, eqb-true, eq-eqb, ne_eqb, cases_lt, cases_order}
use Rattle.boki_model.specs.Live.{Live, has_tag, count, upto, is_live}
use Rattle.std.specs.Option.{option_or}
use Rattle.boki_model.specs.Reads.{tagged_seqnums, next, prev, nth}
use Rattle.boki_model.specs.Writes.{prepend_some}
use Rattle.boki_model.specs.LogLaws.{FallBelow}
use Rattle.boki_model.proofs.Logs.{upto_here, upto_skip, upto_all, nth_past}
use Rattle.log_folds.specs.Bounds.{if_at_most, seen_at, record_at, IsSeenUpTo}

module _ (A : Type 0) {X : Type 0} (p : ℕ) (all seen : List (Live A) → X) where
  abbrev Whole : Type 0
  Whole = (end : ℕ) (xs : List (Live A)) → FallBelow end xs → end ≤ suc p → all xs ≡ seen xs

  abbrev Skips : Type 0
  Skips = (x : Live A) (xs : List (Live A)) → FallBelow x.seq xs → p < x.seq → seen (x ∷ xs) ≡ seen xs

  pub by_bound : Whole → Skips → (end : ℕ) (xs : List (Live A)) → FallBelow end xs → all (upto p xs) ≡ seen xs
  by_bound whole skips end [] fall = whole 0 [] tt (omega arith)
  by_bound whole skips end (x ∷ xs) fall = at (by_bound whole skips x.seq xs fall.2) (cases_lt p x.seq)
    where
      at : all (upto p xs) ≡ seen xs → (p < x.seq) ⊎ (x.seq ≤ p) → all (upto p (x ∷ xs)) ≡ seen (x ∷ xs)
      at ih (inl above) = ap all (upto_skip p x xs above) ∙ ih ∙ sym (skips x xs fall.2 above)
      at ih (inr within) = ap all (upto_here p x xs within) ∙ whole (suc x.seq) (x ∷ xs) (fall.0, omega arith, fall.2) (omega arith)

-- at most b and at most p
both_within : (p b seq : ℕ) → seq ≤ p → leb seq b ≡ leb seq (min b p)
both_within p b seq le = at (cases_lt b seq)
  where
    at : (b < seq) ⊎ (seq ≤ b) → leb seq b ≡ leb seq (min b p)
    at (inl above) = lt-leb seq b above ∙ sym (lt-leb seq (min b p) (omega arith))
    at (inr within) = le-leb seq b within ∙ sym (le-leb seq (min b p) (omega arith))

module _ {A : Type 0} (p : ℕ) where
  pub upto_falls : (end : ℕ) (xs : List (Live A)) → FallBelow end xs → FallBelow (suc p) (upto p xs)
  upto_falls end [] fall = tt
  upto_falls end (x ∷ xs) fall = at (upto_falls x.seq xs fall.2) (leb x.seq p) refl
    where
      at :
          FallBelow (suc p) (upto p xs) → (b : Bool) → leb x.seq p ≡ b
          → FallBelow (suc p) (cond b (x ∷ xs) (upto p xs))
      at ih true e = (fall.0, (let le = leb-true x.seq p e in omega arith), fall.2)
      at ih false e = ih

  -- A record, as live at a seqnum.

  pub past_is_dead :
      (end seq : ℕ) (xs : List (Live A)) → FallBelow end xs → end ≤ seq → is_live seq xs ≡ false
  past_is_dead end seq [] fall le = refl
  past_is_dead end seq (x ∷ xs) fall le = ap (λ b. b || is_live seq xs) (ne_eqb seq x.seq (λ e. omega (arith, e, fall.1))) ∙ past_is_dead x.seq seq xs fall.2 (omega (arith, fall.1))

  pub past_is_absent :
      (end seq : ℕ) (xs : List (Live A)) → FallBelow end xs → end ≤ seq → record_at seq xs ≡ None
  past_is_absent end seq [] fall le = refl
  past_is_absent end seq (x ∷ xs) fall le = ap (λ b. cond b (Some x) (record_at seq xs)) (ne_eqb seq x.seq (λ e. omega (arith, e, fall.1))) ∙ past_is_absent x.seq seq xs fall.2 (omega (arith, fall.1))

  live_whole : (seq : ℕ) → Whole A p (is_live seq) (λ xs. leb seq p && is_live seq xs)
  live_whole seq end xs fall le = at (cases_lt p seq)
    where
      at : (p < seq) ⊎ (seq ≤ p) → is_live seq xs ≡ (leb seq p && is_live seq xs)
      at (inl above) = past_is_dead end seq xs fall (omega arith) ∙ sym (ap (λ b. b && is_live seq xs) (lt-leb seq p above))
      at (inr within) = sym (ap (λ b. b && is_live seq xs) (le-leb seq p within))

  live_skips : (seq : ℕ) → Skips A p (is_live seq) (λ xs. leb seq p && is_live seq xs)
  live_skips seq x xs fall lt = at (cases_lt p seq)
    where
      at :
          (p < seq) ⊎ (seq ≤ p)
          → (leb seq p && (eqb seq x.seq || is_live seq xs)) ≡ (leb seq p && is_live seq xs)
      at (inl above) = rw (lt-leb seq p above)
      at (inr within) = ap (λ b. leb seq p && (b || is_live seq xs)) (ne_eqb seq x.seq (λ e. omega arith))

  stands_whole : (seq : ℕ) → Whole A p (record_at seq) (λ xs. option_and_then (seen_at p) (record_at seq xs))
  stands_whole seq end [] fall le = refl
  stands_whole seq end (x ∷ xs) fall le = at (stands_whole seq x.seq xs fall.2 (omega (arith, fall.1))) (eqb seq x.seq)
    where
      at :
          record_at seq xs ≡ option_and_then (seen_at p) (record_at seq xs) → (b : Bool)
          → cond b (Some x) (record_at seq xs)
          ≡ option_and_then (seen_at p) (cond b (Some x) (record_at seq xs))
      at ih true = sym (ap (λ b. cond b (Some x) None) (le-leb x.seq p (omega (arith, fall.1))))
      at ih false = ih

  stands_skips : (seq : ℕ) → Skips A p (record_at seq) (λ xs. option_and_then (seen_at p) (record_at seq xs))
  stands_skips seq x xs fall lt = at (eqb seq x.seq) refl
    where
      at :
          (b : Bool) → eqb seq x.seq ≡ b
          → option_and_then (seen_at p) (cond b (Some x) (record_at seq xs))
          ≡ option_and_then (seen_at p) (record_at seq xs)
      at true e =
          ap (λ b. cond b (Some x) None) (lt-leb x.seq p lt)
          ∙ sym (ap (option_and_then (seen_at p)) (past_is_absent x.seq seq xs fall (let same = eqb-true seq x.seq e in omega arith)))
      at false e = refl

  -- The seqnums of a tag.

  tagged_whole : (tag : ℕ) → Whole A p (tagged_seqnums tag) (λ xs. filter (λ seq. leb seq p) (tagged_seqnums tag xs))
  tagged_whole tag end [] fall le = refl
  tagged_whole tag end (x ∷ xs) fall le = at (tagged_whole tag x.seq xs fall.2 (omega (arith, fall.1))) (has_tag tag x.tags)
    where
      at :
          tagged_seqnums tag xs ≡ filter (λ seq. leb seq p) (tagged_seqnums tag xs) → (b : Bool)
          → cond b (x.seq ∷ tagged_seqnums tag xs) (tagged_seqnums tag xs)
          ≡ filter (λ seq. leb seq p) (cond b (x.seq ∷ tagged_seqnums tag xs) (tagged_seqnums tag xs))
      at ih true =
          ap (λ l. x.seq ∷ l) ih
          ∙ sym (ap (λ b. cond b (x.seq ∷ filter (λ seq. leb seq p) (tagged_seqnums tag xs)) (filter (λ seq. leb seq p) (tagged_seqnums tag xs))) (le-leb x.seq p (omega (arith, fall.1))))
      at ih false = ih

  tagged_skips : (tag : ℕ) → Skips A p (tagged_seqnums tag) (λ xs. filter (λ seq. leb seq p) (tagged_seqnums tag xs))
  tagged_skips tag x xs fall lt = at (has_tag tag x.tags)
    where
      at :
          (b : Bool)
          → filter (λ seq. leb seq p) (cond b (x.seq ∷ tagged_seqnums tag xs) (tagged_seqnums tag xs))
          ≡ filter (λ seq. leb seq p) (tagged_seqnums tag xs)
      at true = ap (λ b. cond b (x.seq ∷ filter (λ seq. leb seq p) (tagged_seqnums tag xs)) (filter (λ seq. leb seq p) (tagged_seqnums tag xs))) (lt-leb x.seq p lt)
      at false = refl

  -- The first at or above a seqnum, and the last at or below it.

  next_whole : (tag a : ℕ) → Whole A p (next tag a) (λ xs. if_at_most p (next tag a xs))
  next_whole tag a end [] fall le = refl
  next_whole tag a end (x ∷ xs) fall le = at (next tag a xs) (next_whole tag a x.seq xs fall.2 (omega (arith, fall.1))) (has_tag tag x.tags && leb a x.seq)
    where
      at :
          (o : Option ℕ) → o ≡ if_at_most p o → (b : Bool)
          → option_or o (cond b (Some x.seq) None) ≡ if_at_most p (option_or o (cond b (Some x.seq) None))
      at (Some s) ih b = ih
      at None ih true = sym (ap (λ b. cond b (Some x.seq) None) (le-leb x.seq p (omega (arith, fall.1))))
      at None ih false = refl

  next_skips : (tag a : ℕ) → Skips A p (next tag a) (λ xs. if_at_most p (next tag a xs))
  next_skips tag a x xs fall lt = at (next tag a xs) (has_tag tag x.tags && leb a x.seq)
    where
      at :
          (o : Option ℕ) (b : Bool)
          → if_at_most p (option_or o (cond b (Some x.seq) None)) ≡ if_at_most p o
      at (Some s) b = refl
      at None true = ap (λ b. cond b (Some x.seq) None) (lt-leb x.seq p lt)
      at None false = refl

  prev_whole : (tag b : ℕ) → Whole A p (prev tag b) (prev tag (min b p))
  prev_whole tag b end [] fall le = refl
  prev_whole tag b end (x ∷ xs) fall le =
      ap (λ t. cond (has_tag tag x.tags && t) (Some x.seq) (prev tag b xs)) (both_within p b x.seq (omega (arith, fall.1)))
      ∙ ap (cond (has_tag tag x.tags && leb x.seq (min b p)) (Some x.seq)) (prev_whole tag b x.seq xs fall.2 (omega (arith, fall.1)))

  prev_skips : (tag b : ℕ) → Skips A p (prev tag b) (prev tag (min b p))
  prev_skips tag b x xs fall lt =
      ap (λ t. cond (has_tag tag x.tags && t) (Some x.seq) (prev tag (min b p) xs)) (lt-leb x.seq (min b p) (omega arith))
      ∙ at (has_tag tag x.tags)
    where
      at : (t : Bool) → cond (t && false) (Some x.seq) (prev tag (min b p) xs) ≡ prev tag (min b p) xs
      at true = refl
      at false = refl

  -- The record at a place.

  nth_whole :
      (tag place : ℕ) → Whole A p (nth tag place) (λ xs. option_and_then (seen_at p) (nth tag place xs))
  nth_whole tag place end [] fall le = refl
  nth_whole tag place end (x ∷ xs) fall le = at (nth_whole tag place x.seq xs fall.2 (omega (arith, fall.1))) (has_tag tag x.tags && eqb place (count tag xs))
    where
      at :
          nth tag place xs ≡ option_and_then (seen_at p) (nth tag place xs) → (b : Bool)
          → cond b (Some x) (nth tag place xs)
          ≡ option_and_then (seen_at p) (cond b (Some x) (nth tag place xs))
      at ih true = sym (ap (λ b. cond b (Some x) None) (le-leb x.seq p (omega (arith, fall.1))))
      at ih false = ih

  nth_skips :
      (tag place : ℕ) → Skips A p (nth tag place) (λ xs. option_and_then (seen_at p) (nth tag place xs))
  nth_skips tag place x xs fall lt = at (has_tag tag x.tags) (eqb place (count tag xs)) refl
    where
      at :
          (h b : Bool) → eqb place (count tag xs) ≡ b
          → option_and_then (seen_at p) (cond (h && b) (Some x) (nth tag place xs))
          ≡ option_and_then (seen_at p) (nth tag place xs)
      at true true e =
          ap (λ b. cond b (Some x) None) (lt-leb x.seq p lt)
          ∙ sym (ap (option_and_then (seen_at p)) (nth_past tag place xs (let same = eqb-true place (count tag xs) e in omega arith)))
      at true false e = refl
      at false b e = refl

  seq_seen :
      (o : Option (Live A))
      → option_map (λ x. x.seq) (option_and_then (seen_at p) o) ≡ if_at_most p (option_map (λ x. x.seq) o)
  seq_seen None = refl
  seq_seen (Some x) = at (leb x.seq p)
    where
      at : (b : Bool) → option_map (λ x. x.seq) (cond b (Some x) None) ≡ cond b (Some x.seq) None
      at true = refl
      at false = refl

  -- Seeing less, and one seqnum more.

  upto_whole : (q : ℕ) → Whole A p (upto q) (upto (min q p))
  upto_whole q end [] fall le = refl
  upto_whole q end (x ∷ xs) fall le =
      ap (λ t. cond t (x ∷ xs) (upto q xs)) (both_within p q x.seq (omega (arith, fall.1)))
      ∙ ap (cond (leb x.seq (min q p)) (x ∷ xs)) (upto_whole q x.seq xs fall.2 (omega (arith, fall.1)))

  upto_skips : (q : ℕ) → Skips A p (upto q) (upto (min q p))
  upto_skips q x xs fall lt = upto_skip (min q p) x xs (omega arith)

  pub upto_more :
      (end : ℕ) (xs : List (Live A)) → FallBelow end xs
      → upto (suc p) xs ≡ prepend_some (record_at (suc p) xs) (upto p xs)
  upto_more end [] fall = refl
  upto_more end (x ∷ xs) fall = at (upto_more x.seq xs fall.2) (cases_order x.seq (suc p))
    where
      at :
          upto (suc p) xs ≡ prepend_some (record_at (suc p) xs) (upto p xs)
          → (x.seq ≡ suc p) ⊎ ((x.seq < suc p) ⊎ (suc p < x.seq))
          → upto (suc p) (x ∷ xs) ≡ prepend_some (record_at (suc p) (x ∷ xs)) (upto p (x ∷ xs))
      at ih (inl same) =
          upto_here (suc p) x xs (omega arith)
          ∙ ap (λ l. x ∷ l) (sym (upto_all x.seq p xs fall.2 (omega arith)) ∙ sym (upto_skip p x xs (omega arith)))
          ∙ sym (ap (λ b. prepend_some (cond b (Some x) (record_at (suc p) xs)) (upto p (x ∷ xs))) (eq-eqb (suc p) x.seq (sym same)))
      at ih (inr (inl below)) =
          upto_here (suc p) x xs (omega arith)
          ∙ sym (upto_here p x xs (omega arith))
          ∙ sym (ap (λ o. prepend_some o (upto p (x ∷ xs))) (ap (λ b. cond b (Some x) (record_at (suc p) xs)) (ne_eqb (suc p) x.seq (λ e. omega arith)) ∙ past_is_absent x.seq (suc p) xs fall.2 (omega arith)))
      at ih (inr (inr above)) =
          upto_skip (suc p) x xs above
          ∙ ih
          ∙ ap (prepend_some (record_at (suc p) xs)) (sym (upto_skip p x xs (omega arith)))
          ∙ sym (ap (λ b. prepend_some (cond b (Some x) (record_at (suc p) xs)) (upto p (x ∷ xs))) (ne_eqb (suc p) x.seq (λ e. omega arith)))

  module _ (end : ℕ) (xs : List (Live A)) (fall : FallBelow end xs) where
    placed : (tag place : ℕ) → nth tag place (upto p xs) ≡ option_and_then (seen_at p) (nth tag place xs)
    placed tag place = by_bound A p (nth tag place) (λ xs. option_and_then (seen_at p) (nth tag place xs)) (nth_whole tag place) (nth_skips tag place) end xs fall

    pub seen_up_to : IsSeenUpTo p xs
    seen_up_to = record {
      falls = upto_falls end xs fall;
      liveness = λ seq. by_bound A p (is_live seq) (λ xs. leb seq p && is_live seq xs) (live_whole seq) (live_skips seq) end xs fall;
      seqnums = λ tag. by_bound A p (tagged_seqnums tag) (λ xs. filter (λ seq. leb seq p) (tagged_seqnums tag xs)) (tagged_whole tag) (tagged_skips tag) end xs fall;
      first_from = λ tag a. by_bound A p (next tag a) (λ xs. if_at_most p (next tag a xs)) (next_whole tag a) (next_skips tag a) end xs fall;
      last_to = λ tag b. by_bound A p (prev tag b) (prev tag (min b p)) (prev_whole tag b) (prev_skips tag b) end xs fall;
      placed = placed;
      placed_seq = λ tag place. ap (option_map (λ x. x.seq)) (placed tag place) ∙ seq_seen (nth tag place xs);
      stands = λ seq. by_bound A p (record_at seq) (λ xs. option_and_then (seen_at p) (record_at seq xs)) (stands_whole seq) (stands_skips seq) end xs fall;
      less = λ q. by_bound A p (upto q) (upto (min q p)) (upto_whole q) (upto_skips q) end xs fall;
      one_more = upto_more end xs fall;
    }

pub seen_of_falling : {A : Type 0} (end p : ℕ) (xs : List (Live A)) → FallBelow end xs → IsSeenUpTo p xs
seen_of_falling end p xs fall = seen_up_to p end xs fall
