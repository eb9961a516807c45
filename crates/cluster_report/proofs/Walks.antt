-- The live records, one by one.
use Rattle.std.proofs.Common.{◌≡◌, ℕ, suc, Bool, true, false, cond, eqb, ◌||◌, List, [], ◌∷◌, length, Option, Some, None, is_some, option_map, refl, sym, ap, subst, ◌∙◌, arith}
use Rattle.std.proofs.lemmas.Bool.{lt-leb}
use Rattle.boki_types.specs.declared.body.Body.{Body}
use Rattle.boki_model.specs.Live.{Live, live, upto, is_live, entry_of}
use Rattle.boki_model.specs.Order.{order}
use Rattle.boki_model.specs.LogLaws.{FallBelow}
use Rattle.boki_model.specs.Writes.{prepend_some}
use Rattle.boki_model.proofs.Logs.{live_falls, upto_all}
use Rattle.exactly_once.specs.FurtherLaws.Words.{IsAmong}
use Rattle.log_folds.specs.Bounds.{record_at}
use Rattle.log_folds.proofs.Maps.{length-mapped}
use Rattle.log_folds.proofs.UpTo.{upto_more}
use Rattle.log_folds.proofs.Said.{is_said, is_seen_said}
use Rattle.book_api.specs.Books.{BookState, log_of, ordered}
use Rattle.step_log.specs.Sound.{body_of, bodies, live_bodies}
use Rattle.fold_cache.specs.Bodies.{body_at}
use Rattle.fold_cache.proofs.Found.{is_recorded, said_there}

live_recorded : {A : Type 0} (seq : ℕ) (xs : List (Live A)) → is_live seq xs ≡ is_some (record_at seq xs)
live_recorded seq [] = refl
live_recorded {A} seq (x ∷ xs) = at (eqb seq x.seq) (live_recorded seq xs)
  where
    at : (t : Bool) → is_live seq xs ≡ is_some (record_at seq xs) → (t || is_live seq xs) ≡ is_some (cond t (Some x) (record_at seq xs))
    at true ih = refl
    at false ih = ih

abbrev pub holds_at : BookState → ℕ → Option Body
holds_at book seq = option_map (λ (x : Live Body). x.holds) (record_at seq (live_bodies book))

module _ (book : BookState) where
  pub length_is : length (order (bodies book) book.vectors) ≡ length (ordered book)
  length_is = (is_said body_of book.shards book.vectors).long

  pub falls : FallBelow (suc (length (ordered book))) (live_bodies book)
  falls = subst (λ n. FallBelow (suc n) (live_bodies book)) length_is (live_falls (order (bodies book) book.vectors))

  pub all_seen : upto (length (ordered book)) (live_bodies book) ≡ live_bodies book
  all_seen = upto_all (suc (length (ordered book))) (length (ordered book)) (live_bodies book) falls (omega arith)

  none_seen_from : (end : ℕ) (xs : List (Live Body)) → FallBelow end xs → upto 0 xs ≡ []
  none_seen_from end [] fall = refl
  none_seen_from end (x ∷ xs) fall = ap (λ t. cond t (x ∷ xs) (upto 0 xs)) (lt-leb x.seq 0 fall.0) ∙ none_seen_from x.seq xs fall.2

  pub none_seen : upto 0 (live_bodies book) ≡ []
  none_seen = none_seen_from (suc (length (ordered book))) (live_bodies book) falls

  -- what is live in the bytes is live in what they say
  live_is : (seq : ℕ) → is_live seq (live (log_of book)) ≡ is_live seq (live_bodies book)
  live_is seq =
      let p = length (ordered book) in
      ap (is_live seq) (sym (upto_all (suc (length (log_of book))) p (live (log_of book)) (live_falls (log_of book)) (let e = bytes_long in omega arith)))
      ∙ sym ((is_seen_said body_of book.shards book.vectors p).liveness seq)
      ∙ ap (is_live seq) all_seen
    where
      bytes_long : length (log_of book) ≡ length (ordered book)
      bytes_long = length-mapped entry_of (ordered book)

  found : (seq : ℕ) (o : Option (Live Body)) → record_at seq (live_bodies book) ≡ o → is_some o ≡ true → Some (body_at book seq) ≡ option_map (λ (x : Live Body). x.holds) o
  found seq None is some = cc
  found seq (Some x) is some =
      let there = is_recorded seq x (live_bodies book) is in
      ap Some (ap (body_at book) (sym there.seqnum) ∙ said_there book (length (ordered book)) x (subst (IsAmong x) (sym all_seen) there.among))

  pub is_found : (seq : ℕ) → is_live seq (live (log_of book)) ≡ true → Some (body_at book seq) ≡ holds_at book seq
  is_found seq t = found seq (record_at seq (live_bodies book)) refl (sym (live_recorded seq (live_bodies book)) ∙ sym (live_is seq) ∙ t)

  missed : (o : Option (Live Body)) → is_some o ≡ false → None ≡ option_map (λ (x : Live Body). x.holds) o
  missed None none = refl
  missed (Some x) none = cc

  pub is_missed : (seq : ℕ) → is_live seq (live (log_of book)) ≡ false → None ≡ holds_at book seq
  is_missed seq f = missed (record_at seq (live_bodies book)) (sym (live_recorded seq (live_bodies book)) ∙ sym (live_is seq) ∙ f)

  -- one seqnum more
  pub record OneMore (n : ℕ) (body : Body) : Type 0 where
    pub newest : Live Body
    pub seen : upto (suc n) (live_bodies book) ≡ newest ∷ upto n (live_bodies book)
    pub seqnum : newest.seq ≡ suc n
    pub holds : newest.holds ≡ body
    pub among : IsAmong newest (live_bodies book)

  more : (n : ℕ) → upto (suc n) (live_bodies book) ≡ prepend_some (record_at (suc n) (live_bodies book)) (upto n (live_bodies book))
  more n = upto_more n (suc (length (ordered book))) (live_bodies book) falls

  pub none_more : (n : ℕ) → holds_at book (suc n) ≡ None → upto (suc n) (live_bodies book) ≡ upto n (live_bodies book)
  none_more n none = at (record_at (suc n) (live_bodies book)) refl none
    where
      at : (o : Option (Live Body)) → record_at (suc n) (live_bodies book) ≡ o → option_map (λ (x : Live Body). x.holds) o ≡ None
          → upto (suc n) (live_bodies book) ≡ upto n (live_bodies book)
      at None is none = more n ∙ ap (λ o. prepend_some o (upto n (live_bodies book))) is
      at (Some x) is none = cc

  pub one_more : (n : ℕ) (body : Body) → holds_at book (suc n) ≡ Some body → OneMore n body
  one_more n body some = at (record_at (suc n) (live_bodies book)) refl some
    where
      at : (o : Option (Live Body)) → record_at (suc n) (live_bodies book) ≡ o → option_map (λ (x : Live Body). x.holds) o ≡ Some body → OneMore n body
      at None is some = cc
      at (Some x) is some =
          let there = is_recorded (suc n) x (live_bodies book) is in
          let same : x.holds ≡ body = cc in
          record {
            newest = x;
            seen = more n ∙ ap (λ o. prepend_some o (upto n (live_bodies book))) is;
            seqnum = there.seqnum;
            holds = same;
            among = there.among;
          }
