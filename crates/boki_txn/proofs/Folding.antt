-- The store names, by a walk over the commits from the oldest on.
use Rattle.std.proofs.Common.{◌≡◌, ℕ, zero, suc, ◌+◌, ◌-◌, ◌<◌, ◌≤◌, min, List, [], ◌∷◌, length, drop, reverse, slice_index, get_or, Some, option_map, sym, ap, ◌∙◌, arith}
use Rattle.std.proofs.lemmas.List.{drop_more, drop_all, length-reverse}
use Rattle.std.proofs.lemmas.Option.{get_or_from_slice_get}
use Rattle.boki_types.specs.declared.body.Body.{Body}
use Rattle.boki_model.specs.Live.{Live, count, upto}
use Rattle.boki_model.specs.Reads.{tagged_seqnums, nth}
use Rattle.boki_model.specs.Order.{order}
use Rattle.boki_model.specs.LogLaws.{FallBelow}
use Rattle.boki_model.specs.Folds.{commits}
use Rattle.boki_model.proofs.Logs.{live_falls, length-tagged, places_ascend}
use Rattle.boki_machine.specs.Decided.{oldest}
use Rattle.exactly_once.specs.FurtherLaws.Words.{IsAmong}
use Rattle.exactly_once.specs.FurtherLaws.StepRecords.{IsWellFormedLive}
use Rattle.log_folds.specs.ByTag.{with_tag}
use Rattle.log_folds.specs.Own.{HaveOwnTags, commit_tag}
use Rattle.log_folds.proofs.ByTag.{of_tag, of_tag_upto, having_falls}
use Rattle.log_folds.proofs.Each.{each_upto}
use Rattle.log_folds.proofs.Own.{own_paths_stay}
use Rattle.log_folds.proofs.QueueFolds.{commits_by_tag}
use Rattle.log_folds.proofs.UpTo.{upto_falls, seen_of_falling}
use Rattle.book_api.specs.Books.{BookState, position}
use Rattle.step_log.specs.Sound.{bodies, live_bodies, view, Sound}
use Rattle.step_log.proofs.Calls.{own_view}
use Rattle.fold_cache.specs.Bodies.{body_at}
use Rattle.fold_cache.specs.Kept.{KeptState, state_at}
use Rattle.fold_cache.proofs.Kept.{of_state_at}
use Rattle.fold_cache.proofs.Found.{nth_there, among_upto, below_among, said_there, view_falls}
use Rattle.boki_txn.specs.Names.{StoredNames, names_behind, changed_by}
use Rattle.boki_txn.specs.TxnStates.{names_at, IsTxnFold, AreTxnFolds}
use Rattle.boki_txn.specs.Walks.{changed_by_all}
use Rattle.boki_txn.proofs.Commits.{commits_fall, changed_one}

fall_up : {A : Type 0} (low end : ℕ) (xs : List (Live A)) → low ≤ end → FallBelow low xs → FallBelow end xs
fall_up low end [] le fall = tt
fall_up low end (x ∷ xs) le fall = (fall.0, omega (arith, fall.1), fall.2)

falls_drop : {A : Type 0} (n end : ℕ) (xs : List (Live A)) → FallBelow end xs → FallBelow end (drop n xs)
falls_drop zero end xs fall = fall
falls_drop (suc n) end [] fall = tt
falls_drop (suc n) end (x ∷ xs) fall = falls_drop n end xs (fall_up x.seq end xs (let low = fall.1 in omega arith) fall.2)

module _ (kept : BookState) (engine p : ℕ) (sound : Sound kept) where
  -- what is seen up to p, its commits, and their seqnums
  abbrev pub seen : List (Live Body)
  seen = upto p (view kept engine)

  abbrev of_commits : List (Live Body)
  of_commits = with_tag commit_tag seen

  abbrev seqs : List ℕ
  seqs = reverse (tagged_seqnums commit_tag seen)

  abbrev behind : ℕ → StoredNames
  behind k = names_behind (commits (oldest k of_commits))

  pub own : (s : ℕ) → HaveOwnTags (upto s seen)
  own s = (own_paths_stay (upto s seen) (each_upto IsWellFormedLive s seen (each_upto IsWellFormedLive p (view kept engine) (own_view kept engine sound)))).tags

  pub own_seen : HaveOwnTags seen
  own_seen = (own_paths_stay seen (each_upto IsWellFormedLive p (view kept engine) (own_view kept engine sound))).tags

  pub falls : FallBelow (suc p) seen
  falls = upto_falls p (suc (position kept engine)) (view kept engine) (view_falls kept engine)

  seqs_long : length seqs ≡ count commit_tag seen
  seqs_long = length-reverse (tagged_seqnums commit_tag seen) ∙ length-tagged commit_tag seen

  among_view : (x : Live Body) → IsAmong x seen → IsAmong x (view kept engine)
  among_view x among = among_upto p x (view kept engine) among

  record StandsAt (k : ℕ) (x : Live Body) : Type 0 where
    found : nth commit_tag k seen ≡ Some x
    seqnum : get_or seqs k 0 ≡ x.seq
    said : body_at kept x.seq ≡ x.holds
    next : behind (suc k) ≡ changed_by x.seq x.holds (behind k)

  stands_at : (k : ℕ) → k < count commit_tag seen → (x : Live Body) × StandsAt k x
  stands_at k lt =
      let there = nth_there commit_tag k seen lt in
      let x = there.0 in
      let before = oldest k of_commits in (
        x,
        record {
          found = there.1;
          seqnum = get_or_from_slice_get seqs k x.seq 0 (sym (places_ascend commit_tag k seen) ∙ ap (option_map (λ (x : Live Body). x.seq)) there.1);
          said = said_there kept (position kept engine) x (among_view x ((of_tag commit_tag seen).among k x there.1));
          next =
              ap (λ l. names_behind (commits l)) ((of_tag commit_tag seen).one_more k x there.1)
              ∙ changed_one x.seq (suc p) x.holds (commits before) (commits_fall (suc p) before (falls_drop (length of_commits - k) (suc p) of_commits (having_falls commit_tag (suc p) seen falls)));
        },
      )

  walk : (n k : ℕ) → n + k ≡ count commit_tag seen → changed_by_all kept (drop k seqs) (behind k) ≡ behind (count commit_tag seen)
  walk zero k all =
      ap (λ l. changed_by_all kept l (behind k)) (drop_all k seqs (let long = seqs_long in omega arith))
      ∙ ap behind (let e : k ≡ count commit_tag seen = omega arith in e)
  walk (suc n) k all =
      let lt : k < count commit_tag seen = omega arith in
      let there = stands_at k lt in
      let x = there.0 in
      let at = there.1 in
      ap (λ l. changed_by_all kept l (behind k)) (drop_more seqs k 0 (let long = seqs_long in omega arith))
      ∙ ap (λ names. changed_by_all kept (drop (k + 1) seqs) names)
      (ap (λ s. changed_by s (body_at kept s) (behind k)) at.seqnum ∙ ap (λ o. changed_by x.seq o (behind k)) at.said ∙ sym at.next)
      ∙ ap (λ m. changed_by_all kept (drop m seqs) (behind (suc k))) (let e : k + 1 ≡ suc k = omega arith in e)
      ∙ walk n (suc k) (omega arith)

  whole : behind (count commit_tag seen) ≡ names_at p (view kept engine)
  whole = ap (λ l. names_behind (commits l)) (of_tag commit_tag seen).all ∙ sym (ap names_behind (commits_by_tag seen own_seen))

  pub from_start : changed_by_all kept seqs [] ≡ names_at p (view kept engine)
  from_start =
      sym (ap (λ l. changed_by_all kept seqs (names_behind (commits l))) (of_tag commit_tag seen).none)
      ∙ walk (count commit_tag seen) 0 (omega arith)
      ∙ whole

  -- what is behind one of them, of the whole list
  pub upto_of_all : (x : Live Body) → IsAmong x seen → upto x.seq (live_bodies kept) ≡ upto x.seq seen
  upto_of_all x among =
      let log = order (bodies kept) kept.vectors in
      let one = below_among (suc p) x seen falls among in
      let two = below_among (suc (position kept engine)) x (view kept engine) (view_falls kept engine) (among_view x among) in
      sym (
      (seen_of_falling (suc (position kept engine)) p (view kept engine) (view_falls kept engine)).less x.seq
      ∙ ap (λ n. upto n (view kept engine)) (let e : min x.seq p ≡ x.seq = let low = one.1 in omega arith in e)
      ∙ (seen_of_falling (suc (length log)) (position kept engine) (live_bodies kept) (live_falls log)).less x.seq
      ∙ ap (λ n. upto n (live_bodies kept)) (let e : min x.seq (position kept engine) ≡ x.seq = let low = two.1 in omega arith in e)
      )

  kept_behind : (k : ℕ) (x : Live Body) → StandsAt k x → names_at x.seq (live_bodies kept) ≡ behind (suc k)
  kept_behind k x at =
      let among = (of_tag commit_tag seen).among k x at.found in
      ap (λ l. names_behind (commits l)) (upto_of_all x among)
      ∙ ap names_behind (commits_by_tag (upto x.seq seen) (own x.seq))
      ∙ ap (λ l. names_behind (commits l)) ((of_tag_upto commit_tag (suc p) seen falls).with_it k x at.found)

  pub from_kept :
      (states : List (KeptState StoredNames)) (k : ℕ) (state : StoredNames) → AreTxnFolds states (live_bodies kept)
      → 0 < k → k ≤ length seqs → state_at (slice_index seqs (k - 1)) states ≡ Some state
      → changed_by_all kept (drop k seqs) state ≡ names_at p (view kept engine)
  from_kept states k state folds some le is =
      let long = seqs_long in
      let there = stands_at (k - 1) (omega arith) in
      let x = there.0 in
      let at = there.1 in
      let one : suc (k - 1) ≡ k = omega arith in
      let fold = of_state_at (IsTxnFold (live_bodies kept)) (slice_index seqs (k - 1)) state states folds is in
      let names : state ≡ behind k =
      fold.names
      ∙ ap (λ s. names_at s (live_bodies kept)) at.seqnum
      ∙ kept_behind (k - 1) x at
      ∙ ap behind one
      in
      ap (changed_by_all kept (drop k seqs)) names
      ∙ walk (count commit_tag seen - k) k (omega arith)
      ∙ whole
