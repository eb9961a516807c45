-- The values of one queue, by a walk over the records of its tag from the oldest on.
use Rattle.std.proofs.Common.{◌≡◌, ◌⊎◌, inl, inr, ℕ, zero, suc, ◌+◌, ◌-◌, ◌<◌, ◌≤◌, min, true, false, cond, List, [], ◌∷◌, ◌++◌, length, drop, reverse, slice_index, get_or, Some, option_map, unwrap_or, bytes_eq, refl, sym, ap, ◌∙◌, arith}
use Rattle.std.proofs.lemmas.List.{drop_more, drop_all, length-reverse}
use Rattle.std.proofs.lemmas.Option.{get_or_from_slice_get}
use Rattle.lb_base.specs.declared.value.Value.{Value}
use Rattle.boki_types.specs.declared.body.Body.{Body}
use Rattle.boki_types.specs.declared.body.Body.TheVariants as b
use Rattle.boki_model.specs.Live.{Live, count, upto}
use Rattle.boki_model.specs.Reads.{tagged_seqnums, nth}
use Rattle.boki_model.specs.Order.{order}
use Rattle.boki_model.specs.LogLaws.{FallBelow}
use Rattle.boki_model.specs.Bodies.{key_tag}
use Rattle.boki_model.specs.Maps.{get, put}
use Rattle.boki_model.specs.Folds.{queue_in, queues, apply_to_queues}
use Rattle.boki_model.proofs.Logs.{live_falls, length-tagged, places_ascend}
use Rattle.boki_machine.specs.Decided.{oldest}
use Rattle.exactly_once.specs.FurtherLaws.Words.{IsAmong}
use Rattle.exactly_once.specs.FurtherLaws.StepRecords.{IsWellFormedLive}
use Rattle.exactly_once.proofs.Log.MapChanges.{keys_cases, get-put, same_itself}
use Rattle.log_folds.specs.ByTag.{with_tag}
use Rattle.log_folds.specs.Own.{HaveOwnTags}
use Rattle.log_folds.proofs.ByTag.{of_tag, of_tag_upto}
use Rattle.log_folds.proofs.Each.{each_upto}
use Rattle.log_folds.proofs.Own.{own_paths_stay}
use Rattle.log_folds.proofs.QueueFolds.{queue_by_tag}
use Rattle.log_folds.proofs.UpTo.{upto_falls, seen_of_falling}
use Rattle.book_api.specs.Books.{BookState, position}
use Rattle.step_log.specs.Sound.{bodies, live_bodies, view, Sound}
use Rattle.step_log.proofs.Calls.{own_view}
use Rattle.fold_cache.specs.Bodies.{body_at}
use Rattle.fold_cache.specs.Kept.{KeptState, state_at}
use Rattle.fold_cache.proofs.Kept.{of_state_at}
use Rattle.fold_cache.proofs.Found.{nth_there, among_upto, below_among, said_there, view_falls}
use Rattle.boki_queue.specs.QueueStates.{QueueState, values_at, IsQueueFold, AreQueueFolds}
use Rattle.boki_queue.specs.Walks.{changed_by, changed_by_all}

abbrev Queues : Type 0
Queues = List (List ℕ × List Value)

-- One record.
module _ (q : List ℕ) where
  put_one : (r : List ℕ) (edit : List Value → List Value) (m : Queues)
      → queue_in q (put r (edit (queue_in r m)) m) ≡ cond (bytes_eq q r) (edit (queue_in q m)) (queue_in q m)
  put_one r edit m = ap (λ o. unwrap_or o []) (get-put q r (edit (queue_in r m)) m) ∙ at (keys_cases q r)
    where
      at : (q ≡ r) ⊎ (bytes_eq q r ≡ false)
          → unwrap_or (cond (bytes_eq q r) (Some (edit (queue_in r m))) (get q m)) [] ≡ cond (bytes_eq q r) (edit (queue_in q m)) (queue_in q m)
      at (inl is) =
          let same : bytes_eq q r ≡ true = ap (bytes_eq q) (sym is) ∙ same_itself q in
          ap (λ t. unwrap_or (cond t (Some (edit (queue_in r m))) (get q m)) []) same
          ∙ ap (λ k. edit (queue_in k m)) (sym is)
          ∙ sym (ap (λ t. cond t (edit (queue_in q m)) (queue_in q m)) same)
      at (inr e) =
          ap (λ t. unwrap_or (cond t (Some (edit (queue_in r m))) (get q m)) []) e
          ∙ sym (ap (λ t. cond t (edit (queue_in q m)) (queue_in q m)) e)

  pub changed_one : (body : Body) (m : Queues) → queue_in q (apply_to_queues body m) ≡ changed_by q body (queue_in q m)
  changed_one (b.Push p i r v) m = put_one r (λ l. l ++ v ∷ []) m
  changed_one (b.Pop p i r) m = put_one r (drop 1) m
  changed_one (b.Submit p f args) m = refl
  changed_one (b.Init p) m = refl
  changed_one (b.Read p i key) m = refl
  changed_one (b.Write p i place key v) m = refl
  changed_one (b.Spawn p i ordinal f args) m = refl
  changed_one (b.Join p i ordinal) m = refl
  changed_one (b.TxnBegin p i ns) m = refl
  changed_one (b.TxnCommit p i began ns ws) m = refl
  changed_one (b.Finish p i o) m = refl
  changed_one (b.SwitchBegin target) m = refl
  changed_one b.SwitchEnd m = refl
  changed_one (b.Trim w) m = refl
  changed_one (b.TrimTag number bound) m = refl
  changed_one (b.User piece) m = refl
  changed_one (b.ReadGroup p i ns) m = refl

module _ (kept : BookState) (engine : ℕ) (q : List ℕ) (p : ℕ) (sound : Sound kept) where
  abbrev tag : ℕ
  tag = key_tag 6 q

  -- what is seen up to p, the records of the tag, and their seqnums
  abbrev seen : List (Live Body)
  seen = upto p (view kept engine)

  abbrev of_queue : List (Live Body)
  of_queue = with_tag tag seen

  abbrev seqs : List ℕ
  seqs = reverse (tagged_seqnums tag seen)

  abbrev behind : ℕ → List Value
  behind k = queue_in q (queues (oldest k of_queue))

  own : (s : ℕ) → HaveOwnTags (upto s seen)
  own s = (own_paths_stay (upto s seen) (each_upto IsWellFormedLive s seen (each_upto IsWellFormedLive p (view kept engine) (own_view kept engine sound)))).tags

  own_seen : HaveOwnTags seen
  own_seen = (own_paths_stay seen (each_upto IsWellFormedLive p (view kept engine) (own_view kept engine sound))).tags

  falls : FallBelow (suc p) seen
  falls = upto_falls p (suc (position kept engine)) (view kept engine) (view_falls kept engine)

  pub seqs_long : length seqs ≡ count tag seen
  seqs_long = length-reverse (tagged_seqnums tag seen) ∙ length-tagged tag seen

  among_view : (x : Live Body) → IsAmong x seen → IsAmong x (view kept engine)
  among_view x among = among_upto p x (view kept engine) among

  said_of : (x : Live Body) → IsAmong x seen → body_at kept x.seq ≡ x.holds
  said_of x among = said_there kept (position kept engine) x (among_view x among)

  record StandsAt (k : ℕ) (x : Live Body) : Type 0 where
    found : nth tag k seen ≡ Some x
    seqnum : get_or seqs k 0 ≡ x.seq
    said : body_at kept x.seq ≡ x.holds
    next : behind (suc k) ≡ changed_by q x.holds (behind k)

  stands_at : (k : ℕ) → k < count tag seen → (x : Live Body) × StandsAt k x
  stands_at k lt =
      let there = nth_there tag k seen lt in
      let x = there.0 in (
        x,
        record {
          found = there.1;
          seqnum = get_or_from_slice_get seqs k x.seq 0 (sym (places_ascend tag k seen) ∙ ap (option_map (λ (x : Live Body). x.seq)) there.1);
          said = said_of x ((of_tag tag seen).among k x there.1);
          next = ap (λ l. queue_in q (queues l)) ((of_tag tag seen).one_more k x there.1) ∙ changed_one q x.holds (queues (oldest k of_queue));
        },
      )

  walk : (n k : ℕ) → n + k ≡ count tag seen → changed_by_all kept q (drop k seqs) (behind k) ≡ behind (count tag seen)
  walk zero k all =
      ap (λ l. changed_by_all kept q l (behind k)) (drop_all k seqs (let long = seqs_long in omega arith))
      ∙ ap behind (let e : k ≡ count tag seen = omega arith in e)
  walk (suc n) k all =
      let lt : k < count tag seen = omega arith in
      let there = stands_at k lt in
      let x = there.0 in
      let at = there.1 in
      ap (λ l. changed_by_all kept q l (behind k)) (drop_more seqs k 0 (let long = seqs_long in omega arith))
      ∙ ap (λ vs. changed_by_all kept q (drop (k + 1) seqs) vs) (ap (λ s. changed_by q (body_at kept s) (behind k)) at.seqnum ∙ ap (λ o. changed_by q o (behind k)) at.said ∙ sym at.next)
      ∙ ap (λ m. changed_by_all kept q (drop m seqs) (behind (suc k))) (let e : k + 1 ≡ suc k = omega arith in e)
      ∙ walk n (suc k) (omega arith)

  whole : behind (count tag seen) ≡ values_at q p (view kept engine)
  whole = ap (λ l. queue_in q (queues l)) (of_tag tag seen).all ∙ sym (queue_by_tag q seen own_seen).values

  pub from_start : changed_by_all kept q seqs [] ≡ values_at q p (view kept engine)
  from_start =
      sym (ap (λ l. changed_by_all kept q seqs (queue_in q (queues l))) (of_tag tag seen).none)
      ∙ walk (count tag seen) 0 (omega arith)
      ∙ whole

  -- what is behind one of them, of the whole list
  upto_of_all : (x : Live Body) → IsAmong x seen → upto x.seq (live_bodies kept) ≡ upto x.seq seen
  upto_of_all x among =
      let log = order (bodies kept) kept.vectors in
      let one = below_among (suc p) x seen falls among in
      let two = below_among (suc (position kept engine)) x (view kept engine) (view_falls kept engine) (among_view x among) in
      sym (
      (seen_of_falling (suc (position kept engine)) p (view kept engine) (view_falls kept engine)).less x.seq
      ∙ ap (λ n. upto n (view kept engine)) (let e : min x.seq p ≡ x.seq = let low = one.1 in omega arith in e)
      ∙ (seen_of_falling (suc (length log)) (position kept engine) (live_bodies kept) (live_falls log)).less x.seq
      ∙ ap (λ n. upto n (live_bodies kept)) (let e : min x.seq (position kept engine) ≡ x.seq = let low = two.1 in omega arith in e)
      )

  kept_behind : (k : ℕ) (x : Live Body) → StandsAt k x → values_at q x.seq (live_bodies kept) ≡ behind (suc k)
  kept_behind k x at =
      let among = (of_tag tag seen).among k x at.found in
      ap (λ l. queue_in q (queues l)) (upto_of_all x among)
      ∙ (queue_by_tag q (upto x.seq seen) (own x.seq)).values
      ∙ ap (λ l. queue_in q (queues l)) ((of_tag_upto tag (suc p) seen falls).with_it k x at.found)

  pub from_kept :
      (states : List (KeptState QueueState)) (k : ℕ) (state : QueueState) → AreQueueFolds states (live_bodies kept)
      → 0 < k → k ≤ length seqs → state_at (slice_index seqs (k - 1)) states ≡ Some state → state.queue ≡ q
      → changed_by_all kept q (drop k seqs) state.values ≡ values_at q p (view kept engine)
  from_kept states k state folds some le is named =
      let long = seqs_long in
      let there = stands_at (k - 1) (omega arith) in
      let x = there.0 in
      let at = there.1 in
      let one : suc (k - 1) ≡ k = omega arith in
      let fold = of_state_at (IsQueueFold (live_bodies kept)) (slice_index seqs (k - 1)) state states folds is in
      let values : state.values ≡ behind k =
      fold.values
      ∙ ap (λ n. values_at n (slice_index seqs (k - 1)) (live_bodies kept)) named
      ∙ ap (λ s. values_at q s (live_bodies kept)) at.seqnum
      ∙ kept_behind (k - 1) x at
      ∙ ap behind one
      in
      ap (changed_by_all kept q (drop k seqs)) values
      ∙ walk (count tag seen - k) k (omega arith)
      ∙ whole
