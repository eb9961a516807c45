-- The last logged write of an object, by the seqnums of the object's tag.
use Rattle.std.proofs.Common.{◌≡◌, ℕ, zero, suc, ◌-◌, ◌+◌, ◌<◌, ◌≤◌, Bool, true, false, cond, ltb, List, [], ◌∷◌, ◌++◌, length, take, reverse, get_or, is_some, Option, Some, None, option_map, option_and_then, refl, sym, ap, ◌∙◌, subst, arith}
use Rattle.std.specs.Option.{option_or}
use Rattle.std.specs.List.{AllByRecursion}
use Rattle.std.specs.List.Sorted.{IsNonDecreasing}
use Rattle.std.proofs.lemmas.Bool.{lt-ltb}
use Rattle.std.proofs.lemmas.List.{take_all}
use mathlib.Core.List.{reverse-cons}
use Rattle.lb_base.specs.declared.value.Record.{Record}
use Rattle.lb_base.specs.declared.value.Value.{Value}
use Rattle.boki_types.specs.declared.body.Body.{Body}
use Rattle.boki_types.specs.declared.store.Name.{Name}
use Rattle.boki_model.specs.Live.{Live, has_tag, live, upto}
use Rattle.boki_model.specs.Order.{at_seq, order}
use Rattle.boki_model.specs.Reads.{tagged_seqnums}
use Rattle.boki_model.specs.Bodies.{key_tag}
use Rattle.boki_model.specs.LogLaws.{FallBelow}
use Rattle.boki_model.specs.Writes.{logged_write}
use Rattle.boki_model.proofs.Logs.{live_falls}
use Rattle.log_folds.specs.Bounds.{IsCountUpTo}
use Rattle.log_folds.specs.Decoded.{decoded_record}
use Rattle.log_folds.specs.Own.{is_write_to, HaveOwnTags}
use Rattle.log_folds.specs.Recorded.{live_at, logged_at}
use Rattle.log_folds.proofs.Ascending.{ascends}
use Rattle.log_folds.proofs.Own.{says, own_paths_stay, own_stay}
use Rattle.log_folds.proofs.Recorded.{of_log}
use Rattle.log_folds.proofs.Said.{is_said, is_seen_said}
use Rattle.log_folds.proofs.Searches.{searched}
use Rattle.log_folds.proofs.UpTo.{upto_falls}
use Rattle.log_folds.proofs.Each.{each_upto}
use Rattle.book_api.specs.Books.{BookState, ordered, log_of, position, seen}
use Rattle.obj_store.specs.StandsFor.{logged_of, last_logged}
use Rattle.store_laws.proofs.Told.{views_tell_last}
use Rattle.step_log.specs.Sound.{Sound, body_of, bodies, live_bodies, view}
use Rattle.step_log.proofs.Calls.{own_view}
use Rattle.hm_read.specs.declared.last.LastWrite.{LastWrite}
use Rattle.hm_read.specs.LastWrites.{write_parts, written_at, last_written}

abbrev Parts : Type 0
Parts = ℕ × (Name × Option Value)

-- Options.

or_none : (o : Option Parts) → option_or o None ≡ o
or_none None = refl
or_none (Some x) = refl

or_or : (a b c : Option Parts) → option_or (option_or a b) c ≡ option_or a (option_or b c)
or_or None b c = refl
or_or (Some x) b c = refl

-- an engine's seqnums of a tag ascend
pub seqs_ascend :
    (book : BookState) (engine tag : ℕ) (seqs : List ℕ) → seqs ≡ reverse (tagged_seqnums tag (seen book engine))
    → IsNonDecreasing seqs
seqs_ascend book engine tag seqs are =
    subst IsNonDecreasing (sym are) (ascends (suc (position book engine)) tag (seen book engine) (upto_falls (position book engine) _ (live (log_of book)) (live_falls (log_of book))))

module _ (book : BookState) (key : List ℕ) where
  -- the last of a list is its last, or else the last of the others
  pub last_pushed :
      (seqs : List ℕ) (seq : ℕ)
      → last_written book key (seqs ++ seq ∷ []) ≡ option_or (written_at book key seq) (last_written book key seqs)
  last_pushed [] seq = sym (or_none (written_at book key seq))
  last_pushed (s ∷ ss) seq =
      ap (λ o. option_or o (written_at book key s)) (last_pushed ss seq)
      ∙ or_or (written_at book key seq) (last_written book key ss) (written_at book key s)

  pub last_taken :
      (seqs : List ℕ) (n d : ℕ) → n < length seqs
      → last_written book key (take (suc n) seqs)
      ≡ option_or (written_at book key (get_or seqs n d)) (last_written book key (take n seqs))
  last_taken [] n d lt = absurd (let f : ⊥ = omega arith in f)
  last_taken (s ∷ ss) zero d lt = sym (or_none (written_at book key s))
  last_taken (s ∷ ss) (suc n) d lt =
      ap (λ o. option_or o (written_at book key s)) (last_taken ss n d (omega arith))
      ∙ or_or (written_at book key (get_or ss n d)) (last_written book key (take n ss)) (written_at book key s)

  -- A walk from the last on: so many are past.

  module _ (seqs : List ℕ) where
    pub walk_start : last_written book key seqs ≡ last_written book key (take (length seqs - 0) seqs)
    walk_start = ap (last_written book key) (sym (take_all (length seqs - 0) seqs (let e : length seqs ≤ length seqs - 0 = omega arith in e)))

    step :
        (past d : ℕ) → past < length seqs
        → last_written book key (take (length seqs - past) seqs)
        ≡ option_or (written_at book key (get_or seqs (length seqs - 1 - past) d)) (last_written book key (take (length seqs - (past + 1)) seqs))
    step past d lt =
        ap (λ n. last_written book key (take n seqs)) (let e : length seqs - past ≡ suc (length seqs - 1 - past) = omega arith in e)
        ∙ last_taken seqs (length seqs - 1 - past) d (omega arith)
        ∙ ap (λ n. option_or (written_at book key (get_or seqs (length seqs - 1 - past) d)) (last_written book key (take n seqs)))
        (let e : length seqs - 1 - past ≡ length seqs - (past + 1) = omega arith in e)

    pub walk_more :
        (past d : ℕ) (w : Option LastWrite) → past < length seqs
        → option_map write_parts w ≡ written_at book key (get_or seqs (length seqs - 1 - past) d) → is_some w ≡ false
        → last_written book key (take (length seqs - past) seqs) ≡ last_written book key (take (length seqs - (past + 1)) seqs)
    walk_more past d (Some w) lt is none = cc
    walk_more past d None lt is none =
        step past d lt ∙ ap (λ o. option_or o (last_written book key (take (length seqs - (past + 1)) seqs))) (sym is)

    pub walk_found :
        (past d : ℕ) (w : Option LastWrite) → past < length seqs
        → option_map write_parts w ≡ written_at book key (get_or seqs (length seqs - 1 - past) d) → is_some w ≡ true
        → option_map write_parts w ≡ last_written book key (take (length seqs - past) seqs)
    walk_found past d None lt is some = cc
    walk_found past d (Some w) lt is some =
        sym (step past d lt ∙ ap (λ o. option_or o (last_written book key (take (length seqs - (past + 1)) seqs))) (sym is))

    pub walk_ended : (past : ℕ) → length seqs ≤ past → None ≡ last_written book key (take (length seqs - past) seqs)
    walk_ended past le = ap (λ n. last_written book key (take n seqs)) (let e : 0 ≡ length seqs - past = omega arith in e)

  -- Records.

  is_written : (x : Live Body) → logged_at x.seq (order (bodies book) book.vectors) ≡ Some x
      → written_at book key x.seq ≡ logged_of key x.seq true (logged_write x.holds)
  is_written x there = at (at_seq x.seq (ordered book)) ((is_said body_of book.shards book.vectors).stands x.seq)
    where
      at :
          (o : Option Record) → at_seq x.seq (order (bodies book) book.vectors) ≡ option_map (decoded_record body_of) o
          → option_and_then (λ (r : Record). logged_of key x.seq true (logged_write (body_of r.bytes))) o
          ≡ logged_of key x.seq true (logged_write x.holds)
      at None is = let no : None ≡ Some x = sym (ap (option_map (live_at x.seq)) is) ∙ there in cc
      at (Some r) is =
          let same : Some (live_at x.seq (decoded_record body_of r)) ≡ Some x = sym (ap (option_map (live_at x.seq)) is) ∙ there in
          let one : live_at x.seq (decoded_record body_of r) ≡ x = cc in
          ap (λ (y : Live Body). logged_of key x.seq true (logged_write y.holds)) one

  -- one without the tag is no write of the key
  not_written :
      (n : ℕ) (x : Live Body) → is_write_to key (logged_write x.holds) ≡ false
      → logged_of key x.seq (ltb x.seq n) (logged_write x.holds) ≡ None
  not_written n x = at (ltb x.seq n) (logged_write x.holds)
    where
      at :
          (t : Bool) (w : Option (List ℕ × (Name × Option Value))) → is_write_to key w ≡ false
          → logged_of key x.seq t w ≡ None
      at false w e = refl
      at true None e = refl
      at true (Some w) e = ap (λ b. cond b (Some (x.seq, w.1)) None) e

  walked :
      (n : ℕ) (xs : List (Live Body)) → FallBelow n xs → HaveOwnTags xs
      → AllByRecursion (λ (x : Live Body). logged_at x.seq (order (bodies book) book.vectors) ≡ Some x) xs
      → (m : ℕ) → n ≤ m
      → last_logged key m xs ≡ last_written book key (reverse (tagged_seqnums (key_tag 5 key) xs))
  walked n [] falls own logged m le = refl
  walked n (x ∷ xs) falls own logged m le =
      at (has_tag (key_tag 5 key) x.tags) refl (walked x.seq xs falls.2 own.1 logged.1 m (let a = falls.1 in omega (arith, a, le)))
    where
      own_is : logged_of key x.seq (ltb x.seq m) (logged_write x.holds) ≡ logged_of key x.seq true (logged_write x.holds)
      own_is = ap (λ t. logged_of key x.seq t (logged_write x.holds)) (lt-ltb x.seq m (let a = falls.1 in omega (arith, a, le)))

      at :
          (b : Bool) → has_tag (key_tag 5 key) x.tags ≡ b
          → last_logged key m xs ≡ last_written book key (reverse (tagged_seqnums (key_tag 5 key) xs))
          → last_logged key m (x ∷ xs)
          ≡ last_written book key (reverse (cond b (x.seq ∷ tagged_seqnums (key_tag 5 key) xs) (tagged_seqnums (key_tag 5 key) xs)))
      at true e ih =
          ap (λ o. option_or o (last_logged key m xs)) (own_is ∙ sym (is_written x logged.0))
          ∙ ap (option_or (written_at book key x.seq)) ih
          ∙ sym (ap (last_written book key) (reverse-cons x.seq (tagged_seqnums (key_tag 5 key) xs)) ∙ last_pushed (reverse (tagged_seqnums (key_tag 5 key) xs)) x.seq)
      at false e ih =
          ap (λ o. option_or o (last_logged key m xs)) (not_written m x ((says x own.0).written key e)) ∙ ih

  -- What an engine sees up to a seqnum: n of the seqnums of the key's tag are at most that.
  pub found_last :
      (engine last n : ℕ) (seqs : List ℕ) → Sound book
      → seqs ≡ reverse (tagged_seqnums (key_tag 5 key) (seen book engine)) → IsCountUpTo last seqs n
      → last_written book key (take n seqs) ≡ last_logged key (suc last) (view book engine)
  found_last engine last n seqs sound are counted =
      ap (last_written book key) (sym fronts) ∙ sym (walked (suc last) below falls own logged (suc last) (omega arith)) ∙ told
    where
      below : List (Live Body)
      below = upto last (view book engine)

      seen_falls : FallBelow (suc (position book engine)) (view book engine)
      seen_falls = upto_falls (position book engine) _ (live_bodies book) (live_falls (order (bodies book) book.vectors))

      falls : FallBelow (suc last) (upto last (view book engine))
      falls = upto_falls last _ (view book engine) seen_falls

      own : HaveOwnTags (upto last (view book engine))
      own = (own_stay (view book engine) (own_paths_stay (view book engine) (own_view book engine sound)).tags).seen last

      logged : AllByRecursion (λ (x : Live Body). logged_at x.seq (order (bodies book) book.vectors) ≡ Some x) (upto last (view book engine))
      logged = each_upto _ last (view book engine) (of_log (order (bodies book) book.vectors) (position book engine)).each

      same : seqs ≡ reverse (tagged_seqnums (key_tag 5 key) (view book engine))
      same = are ∙ ap reverse (sym ((is_seen_said body_of book.shards book.vectors (position book engine)).seqnums (key_tag 5 key)))

      fronts : reverse (tagged_seqnums (key_tag 5 key) (upto last (view book engine))) ≡ take n seqs
      fronts = (searched _ (key_tag 5 key) last n seqs (view book engine) seen_falls same counted).seqnums

      told : last_logged key (suc last) (upto last (view book engine)) ≡ last_logged key (suc last) (view book engine)
      told = views_tell_last (view book engine) key last (suc last) (omega arith)
