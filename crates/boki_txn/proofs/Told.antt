-- What is told, and what is kept then.
use Rattle.std.proofs.Common.{◌≡◌, inl, inr, ℕ, suc, ◌-◌, ◌<◌, ◌≤◌, min, Bool, true, false, cond, eqb, leb, ltb, ◌&&◌, ◌||◌, List, [], ◌∷◌, ◌++◌, length, map, Option, Some, None, unwrap_or, Result, Ok, Err, OnErr, IfOk, refl, sym, ap, subst, ◌∙◌, arith}
use Rattle.std.specs.Option.{option_map_or}
use Rattle.std.specs.List.{AllByRecursion, list_any}
use Rattle.std.proofs.lemmas.Bool.{le-leb, eq-eqb, eqb-true, ltb-true, ltb-false}
use Rattle.lru.specs.LruCache.{LruCache}
use Rattle.lb_base.specs.declared.value.Value.{Value}
use Rattle.lb_base.specs.declared.value.Value.TheVariants.{Nothing}
use Rattle.boki_types.specs.declared.body.Body.{Body}
use Rattle.boki_model.specs.Live.{LogRecord, Live, has_tag, live, upto, is_live}
use Rattle.boki_model.specs.Reads.{tagged_seqnums}
use Rattle.boki_model.specs.Order.{order}
use Rattle.boki_model.specs.LogLaws.{FallBelow}
use Rattle.boki_model.specs.Maps.{get}
use Rattle.boki_model.specs.Writes.{prepend_some}
use Rattle.boki_model.specs.Folds.{Commit, add_commit, commits, store_values, values_of_names}
use Rattle.boki_model.proofs.Logs.{live_falls, upto_all, upto_here, upto_skip}
use Rattle.boki_machine.specs.Step.{is_committed}
use Rattle.exactly_once.specs.FurtherLaws.Words.{IsAmong}
use Rattle.log_folds.specs.Bounds.{record_at}
use Rattle.log_folds.specs.ByTag.{with_tag}
use Rattle.log_folds.specs.Own.{commit_tag}
use Rattle.log_folds.proofs.ByTag.{are_oldest, of_tag, of_tag_upto}
use Rattle.log_folds.proofs.QueueFolds.{commits_by_tag}
use Rattle.log_folds.proofs.UpTo.{upto_more, seen_of_falling, past_is_dead}
use Rattle.book_api.specs.Books.{BookState, position}
use Rattle.step_log.specs.Sound.{bodies, live_bodies, view, Sound}
use Rattle.fold_cache.specs.Bodies.{body_at}
use Rattle.fold_cache.specs.Kept.{KeptState, kept_state, with_state}
use Rattle.fold_cache.proofs.Kept.{all_with_state}
use Rattle.fold_cache.proofs.Found.{among_upto, below_among, is_recorded, said_there, view_falls}
use Rattle.boki_txn.specs.Names.{StoredNames, names_behind, value_of, is_good, changed_by}
use Rattle.boki_txn.specs.TxnStates.{is_commit, commits_at, names_at, IsTxnFold, AreTxnFolds, with_names, first_of, commit_below, with_names_below, IsValueTold, AreValuesTold, IsCommitTold}
use Rattle.boki_txn.specs.Walks.{kept_names}
use Rattle.boki_txn.proofs.Commits.{commits_fall, changed_one, value_is, added_here, added_apart}
use Rattle.boki_txn.proofs.Folding.{seen, own, own_seen, falls, upto_of_all}

-- A commit.
one_up : (seq end n : ℕ) (x : Live Body) (xs : List (Live Body)) → FallBelow end xs → suc n ≡ seq → record_at seq xs ≡ Some x → upto seq xs ≡ x ∷ upto n xs
one_up seq end n x xs fall is there =
    ap (λ m. upto m xs) (sym is)
    ∙ upto_more n end xs fall
    ∙ ap (λ o. prepend_some o (upto n xs)) (ap (λ m. record_at m xs) is ∙ there)

committed_is : (seq end : ℕ) (x : Live Body) (xs : List (Live Body)) → FallBelow end xs → record_at seq xs ≡ Some x → is_committed seq xs ≡ is_good x.holds (names_behind (commits (upto (seq - 1) xs)))
committed_is seq end x [] fall is = cc
committed_is seq end x (y ∷ ys) fall is = at (committed_is seq y.seq x ys fall.2) (eqb seq y.seq) refl is
  where
    at :
        (record_at seq ys ≡ Some x → is_committed seq ys ≡ is_good x.holds (names_behind (commits (upto (seq - 1) ys)))) → (t : Bool) → eqb seq y.seq ≡ t
        → cond t (Some y) (record_at seq ys) ≡ Some x
        → is_committed seq (y ∷ ys) ≡ is_good x.holds (names_behind (commits (upto (seq - 1) (y ∷ ys))))
    at ih true t is =
        let here : seq ≡ y.seq = eqb-true seq y.seq t in
        let same : y ≡ x = cc in
        let some = fall.0 in
        let below : upto (seq - 1) (y ∷ ys) ≡ ys = upto_skip (seq - 1) y ys (omega arith) ∙ upto_all y.seq (seq - 1) ys fall.2 (omega arith) in
        ap (λ n. list_any (λ (c : Commit). eqb seq c.seq) (add_commit n y.holds (commits ys))) (sym here)
        ∙ added_here seq y.seq y.holds (commits ys) (omega arith) (commits_fall y.seq ys fall.2)
        ∙ ap (λ (z : Live Body). is_good z.holds (names_behind (commits ys))) same
        ∙ ap (λ l. is_good x.holds (names_behind (commits l))) (sym below)
    at ih false t is =
        let recorded = is_recorded seq x ys is in
        let low = below_among y.seq x ys fall.2 recorded.among in
        let seqnum = recorded.seqnum in
        let lt : seq < y.seq = let less = low.1 in omega arith in
        added_apart seq y.seq y.holds (commits ys) lt
        ∙ ih is
        ∙ ap (λ l. is_good x.holds (names_behind (commits l))) (sym (upto_skip (seq - 1) y ys (omega arith)))

record_of_commit : (seq : ℕ) (xs : List (Live Body)) → commits_at seq xs ≡ true → (x : Live Body) × (record_at seq xs ≡ Some x)
record_of_commit seq xs is = at (record_at seq xs) is
  where
    at : (o : Option (Live Body)) → option_map_or (λ (x : Live Body). is_commit x.holds) o false ≡ true → (x : Live Body) × (o ≡ Some x)
    at None is = cc
    at (Some x) is = (x, refl)

module _ (book : BookState) (engine seq : ℕ) where
  abbrev records : List (Live Body)
  records = view book engine

  said_of : (x : Live Body) → record_at seq records ≡ Some x → body_at book seq ≡ x.holds
  said_of x there =
      let recorded = is_recorded seq x records there in
      ap (body_at book) (sym recorded.seqnum) ∙ said_there book (position book engine) x recorded.among

  pub commit_told : (cache after : LruCache ℕ StoredNames) (before new : StoredNames) (told : Bool) (below : ℕ) → commits_at seq records ≡ true → below ≡ seq - 1
      → before ≡ names_at below records → told ≡ is_good (body_at book seq) before → new ≡ changed_by seq (body_at book seq) before
      → kept_names after ≡ with_names seq new (kept_names cache)
      → IsCommitTold seq records (kept_names cache) (kept_names after) told
  commit_told cache after before new told below commit under is good changed kept =
      let there = record_of_commit seq records commit in
      let x = there.0 in
      let recorded = is_recorded seq x records there.1 in
      let low = below_among (suc (position book engine)) x records (view_falls book engine) recorded.among in
      let seqnum = recorded.seqnum in
      let says = said_of x there.1 in
      let old : before ≡ names_at (seq - 1) records = is ∙ ap (λ n. names_at n records) under in
      let up = one_up seq (suc (position book engine)) (seq - 1) x records (view_falls book engine) (let some = low.0 in omega arith) there.1 in
      let past = upto (seq - 1) records in
      let fall = commits_fall (suc (seq - 1)) past (seen_of_falling (suc (position book engine)) (seq - 1) records (view_falls book engine)).falls in
      let now : new ≡ names_at seq records =
      changed
      ∙ ap (λ o. changed_by seq o before) says
      ∙ ap (changed_by seq x.holds) old
      ∙ sym (changed_one seq (suc (seq - 1)) x.holds (commits past) fall)
      ∙ ap (λ n. names_behind (add_commit n x.holds (commits past))) (sym seqnum)
      ∙ ap (λ l. names_behind (commits l)) (sym up)
      in
      record {
        good =
            good
            ∙ ap (λ o. is_good o before) says
            ∙ ap (is_good x.holds) old
            ∙ sym (committed_is seq (suc (position book engine)) x records (view_falls book engine) there.1);
        kept = kept ∙ ap (λ names. with_names seq names (kept_names cache)) now;
      }

  -- Values.
  kept_below : (cache after : LruCache ℕ StoredNames) (state : StoredNames) (below : ℕ) → below ≡ seq - 1 → state ≡ names_at below records
      → kept_names after ≡ option_map_or (λ s. with_names s state (kept_names cache)) (first_of (tagged_seqnums commit_tag (upto below records))) (kept_names cache)
      → kept_names after ≡ with_names_below seq records (kept_names cache)
  kept_below cache after state below under is kept =
      kept
      ∙ ap (λ names. option_map_or (λ s. with_names s names (kept_names cache)) (first_of (tagged_seqnums commit_tag (upto below records))) (kept_names cache)) (is ∙ ap (λ n. names_at n records) under)
      ∙ ap (λ n. option_map_or (λ s. with_names s (names_at (seq - 1) records) (kept_names cache)) (first_of (tagged_seqnums commit_tag (upto n records))) (kept_names cache)) under

  values_are : (names : List (List ℕ)) (cs : List Commit) → map (λ name. value_of name (names_behind cs)) names ≡ values_of_names names (store_values cs)
  values_are [] cs = refl
  values_are (n ∷ ns) cs =
      ap (λ v. v ∷ map (λ name. value_of name (names_behind cs)) ns) (value_is n cs)
      ∙ ap (λ l. unwrap_or (get n (store_values cs)) Nothing ∷ l) (values_are ns cs)

  pub values_told : (cache after : LruCache ℕ StoredNames) (state : StoredNames) (names : List (List ℕ)) (told : List Value) (below : ℕ) → below ≡ seq - 1 → state ≡ names_at below records
      → told ≡ map (λ name. value_of name state) names
      → kept_names after ≡ option_map_or (λ s. with_names s state (kept_names cache)) (first_of (tagged_seqnums commit_tag (upto below records))) (kept_names cache)
      → AreValuesTold names seq records (kept_names cache) (kept_names after) told
  values_told cache after state names told below under is values kept = record {
    values =
        values
        ∙ ap (λ state. map (λ name. value_of name state) names) (is ∙ ap (λ n. names_at n records) under)
        ∙ values_are names (commits (upto (seq - 1) records));
    kept = kept_below cache after state below under is kept;
  }

  pub value_told : (cache after : LruCache ℕ StoredNames) (state : StoredNames) (name : List ℕ) (told : Value) (below : ℕ) → below ≡ seq - 1 → state ≡ names_at below records
      → told ≡ value_of name state
      → kept_names after ≡ option_map_or (λ s. with_names s state (kept_names cache)) (first_of (tagged_seqnums commit_tag (upto below records))) (kept_names cache)
      → IsValueTold name seq records (kept_names cache) (kept_names after) told
  value_told cache after state name told below under is value kept = record {
    value = value ∙ ap (value_of name) (is ∙ ap (λ n. names_at n records) under) ∙ value_is name (commits (upto (seq - 1) records));
    kept = kept_below cache after state below under is kept;
  }

-- What is kept are folds again.
live_among : (end : ℕ) (x : Live Body) (xs : List (Live Body)) → FallBelow end xs → IsAmong x xs → is_live x.seq xs ≡ true
live_among end x [] fall among = absurd among
live_among end x (y ∷ ys) fall (inl same) = ap (λ t. t || is_live x.seq ys) (eq-eqb x.seq y.seq (ap (λ (z : Live Body). z.seq) same))
live_among end x (y ∷ ys) fall (inr among) = at (eqb x.seq y.seq) (live_among y.seq x ys fall.2 among)
  where
    at : (t : Bool) → is_live x.seq ys ≡ true → (t || is_live x.seq ys) ≡ true
    at true is = refl
    at false is = is

among_tagged : (x : Live Body) (ys : List (Live Body)) → IsAmong x (with_tag commit_tag ys) → IsAmong x ys
among_tagged x [] among = among
among_tagged x (y ∷ ys) among = on (has_tag commit_tag y.tags) (among_tagged x ys) among
  where
    on : (t : Bool) → (IsAmong x (with_tag commit_tag ys) → IsAmong x ys) → IsAmong x (cond t (y ∷ with_tag commit_tag ys) (with_tag commit_tag ys)) → IsAmong x (y ∷ ys)
    on true ih (inl same) = inl same
    on true ih (inr rest) = inr (ih rest)
    on false ih rest = inr (ih rest)

module _ (book : BookState) (engine : ℕ) (sound : Sound book) where
  abbrev all_records : List (Live Body)
  all_records = live_bodies book

  all_falls : FallBelow (suc (length (order (bodies book) book.vectors))) all_records
  all_falls = live_falls (order (bodies book) book.vectors)

  among_all : (x : Live Body) → IsAmong x (view book engine) → IsAmong x all_records
  among_all x among = among_upto (position book engine) x all_records among

  -- behind the newest commit that is seen, the names are what is seen
  below_is_fold : (p : ℕ) (s : ℕ) → first_of (tagged_seqnums commit_tag (upto p (view book engine))) ≡ Some s → IsTxnFold all_records (kept_state s (names_at p (view book engine)))
  below_is_fold p s is = at (with_tag commit_tag (seen book engine p sound)) refl
    where
      at : (xs : List (Live Body)) → with_tag commit_tag (seen book engine p sound) ≡ xs → IsTxnFold all_records (kept_state s (names_at p (view book engine)))
      at [] none = let e = sym is ∙ ap first_of (sym (of_tag commit_tag (seen book engine p sound)).seqnums ∙ ap (map (λ (x : Live Body). x.seq)) none) in cc
      at (x ∷ xs) some =
          let first : x.seq ≡ s = let e = sym (ap first_of (sym (of_tag commit_tag (seen book engine p sound)).seqnums ∙ ap (map (λ (x : Live Body). x.seq)) some)) ∙ is in cc in
          let among : IsAmong x (seen book engine p sound) = among_tagged x (seen book engine p sound) (subst (IsAmong x) (sym some) (inl refl)) in
          let whole : commits (upto x.seq (seen book engine p sound)) ≡ commits (seen book engine p sound) =
          commits_by_tag (upto x.seq (seen book engine p sound)) (own book engine p sound x.seq)
          ∙ ap commits ((of_tag_upto commit_tag (suc p) (seen book engine p sound) (falls book engine p sound)).up_to x.seq
          ∙ ap (upto x.seq) some ∙ upto_here x.seq x xs (omega arith) ∙ sym some)
          ∙ sym (commits_by_tag (seen book engine p sound) (own_seen book engine p sound))
          in
          record {
            there = ap (λ n. is_live n all_records) (sym first) ∙ live_among _ x all_records all_falls (among_all x (among_upto p x (view book engine) among));
            names =
                sym (ap (λ n. names_at n all_records) (sym first)
                ∙ ap (λ l. names_behind (commits l)) (upto_of_all book engine p sound x among)
                ∙ ap names_behind whole);
          }

  commit_is_fold : (seq : ℕ) → commits_at seq (view book engine) ≡ true → IsTxnFold all_records (kept_state seq (names_at seq (view book engine)))
  commit_is_fold seq is =
      let there = record_of_commit seq (view book engine) is in
      let x = there.0 in
      let recorded = is_recorded seq x (view book engine) there.1 in
      let low = below_among (suc (position book engine)) x (view book engine) (view_falls book engine) recorded.among in
      let seqnum = recorded.seqnum in
      record {
        there = ap (λ n. is_live n all_records) (sym seqnum) ∙ live_among _ x all_records all_falls (among_all x recorded.among);
        names =
            ap (λ l. names_behind (commits l)) ((seen_of_falling _ (position book engine) all_records all_falls).less seq
            ∙ ap (λ n. upto n all_records) (let e : min seq (position book engine) ≡ seq = let within = low.1 in omega arith in e));
      }

  with_folds : (s : ℕ) (state : StoredNames) (states : List (KeptState StoredNames)) → IsTxnFold all_records (kept_state s state) → AreTxnFolds states all_records
      → AreTxnFolds (with_names s state states) all_records
  with_folds s state states is folds = at (leb (length state) 4096)
    where
      at : (t : Bool) → AllByRecursion (IsTxnFold all_records) (cond t (with_state s state states) states)
      at true = all_with_state (IsTxnFold all_records) s state states folds is
      at false = folds

  below_folds : (seq : ℕ) (states : List (KeptState StoredNames)) → AreTxnFolds states all_records → AreTxnFolds (with_names_below seq (view book engine) states) all_records
  below_folds seq states folds = at (commit_below seq (view book engine)) refl
    where
      at : (o : Option ℕ) → commit_below seq (view book engine) ≡ o → AreTxnFolds (option_map_or (λ s. with_names s (names_at (seq - 1) (view book engine)) states) o states) all_records
      at None none = folds
      at (Some s) some = with_folds s (names_at (seq - 1) (view book engine)) states (below_is_fold (seq - 1) s some) folds

  pub folds_after_values : {E : Type 0} (result : Result (List Value) E) (names : List (List ℕ)) (seq : ℕ) (old new : List (KeptState StoredNames))
      → AreTxnFolds old all_records → IfOk result (AreValuesTold names seq (view book engine) old new) → OnErr result (new ≡ old) → AreTxnFolds new all_records
  folds_after_values (Ok told) names seq old new folds ok err = subst (λ l. AreTxnFolds l all_records) (sym ok.kept) (below_folds seq old folds)
  folds_after_values (Err e) names seq old new folds ok err = subst (λ l. AreTxnFolds l all_records) (sym err) folds

  pub folds_after_value : {E : Type 0} (result : Result Value E) (name : List ℕ) (seq : ℕ) (old new : List (KeptState StoredNames))
      → AreTxnFolds old all_records → IfOk result (IsValueTold name seq (view book engine) old new) → OnErr result (new ≡ old) → AreTxnFolds new all_records
  folds_after_value (Ok told) name seq old new folds ok err = subst (λ l. AreTxnFolds l all_records) (sym ok.kept) (below_folds seq old folds)
  folds_after_value (Err e) name seq old new folds ok err = subst (λ l. AreTxnFolds l all_records) (sym err) folds

  pub folds_after_commit : {E : Type 0} (result : Result Bool E) (seq : ℕ) (old new : List (KeptState StoredNames)) → commits_at seq (view book engine) ≡ true
      → AreTxnFolds old all_records → IfOk result (IsCommitTold seq (view book engine) old new) → OnErr result (new ≡ old) → AreTxnFolds new all_records
  folds_after_commit (Ok told) seq old new is folds ok err =
      subst (λ l. AreTxnFolds l all_records) (sym ok.kept) (with_folds seq (names_at seq (view book engine)) old (commit_is_fold seq is) folds)
  folds_after_commit (Err e) seq old new is folds ok err = subst (λ l. AreTxnFolds l all_records) (sym err) folds

-- Folds stay.
live_up : (p seq end : ℕ) (xs : List (Live Body)) → FallBelow end xs → is_live seq xs ≡ true → seq < end
live_up p seq end xs fall is = at (ltb seq end) refl
  where
    at : (t : Bool) → ltb seq end ≡ t → seq < end
    at true t = ltb-true seq end t
    at false t = let dead = past_is_dead p end seq xs fall (ltb-false seq end t) in absurd (let e : true ≡ false = sym is ∙ dead in cc)

fold_stays : (news log : List (LogRecord Body)) (x : KeptState StoredNames) → IsTxnFold (live log) x → IsTxnFold (live (news ++ log)) x
fold_stays news log x is =
    let lt = live_up 0 x.seq (suc (length log)) (live log) (live_falls log) is.there in
    let le : x.seq ≤ length log = omega arith in
    let same = (are_oldest log x.seq).still_seen news le in
    let one = (seen_of_falling (suc (length log)) x.seq (live log) (live_falls log)).liveness x.seq in
    let two = (seen_of_falling (suc (length (news ++ log))) x.seq (live (news ++ log)) (live_falls (news ++ log))).liveness x.seq in
    let here = le-leb x.seq x.seq (omega arith) in
    record {
      there = sym (two ∙ ap (λ t. t && is_live x.seq (live (news ++ log))) here) ∙ ap (is_live x.seq) same ∙ one ∙ ap (λ t. t && is_live x.seq (live log)) here ∙ is.there;
      names = is.names ∙ ap (λ l. names_behind (commits l)) (sym same);
    }

pub folds_stay : (states : List (KeptState StoredNames)) (news log : List (LogRecord Body)) → AreTxnFolds states (live log) → AreTxnFolds states (live (news ++ log))
folds_stay [] news log folds = tt
folds_stay (x ∷ xs) news log folds = (fold_stays news log x folds.0, folds_stay xs news log folds.1)
