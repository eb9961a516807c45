-- The turns of the records that were passed, from the newest down.
use Rattle.std.proofs.Common.{◌≡◌, ◌⊎◌, inl, inr, ℕ, suc, ◌<◌, ◌≤◌, Bool, true, false, cond, List, [], ◌∷◌, ◌++◌, length, reverse, Option, Some, None, option_map, refl, sym, ap, subst, ◌∙◌, append_assoc, arith}
use Rattle.std.specs.Prelude.{bytes_eq}
use Rattle.std.specs.Option.{option_or}
use Rattle.std.proofs.lemmas.Bool.{cases_lt}
use Rattle.std.proofs.lemmas.List.{append-nil, reverse-append}
use Rattle.lb_base.specs.declared.value.Outcome.{Outcome}
use Rattle.boki_types.specs.declared.body.Body.{Body}
use Rattle.boki_types.specs.declared.body.Body.TheVariants as b
use Rattle.boki_types.specs.declared.program.Function.{Function}
use Rattle.boki_types.specs.declared.turn.Turn.{Turn}
use Rattle.boki_model.specs.Bodies.{step_of}
use Rattle.boki_model.specs.Live.{Live, upto}
use Rattle.boki_model.specs.LogLaws.{FallBelow}
use Rattle.boki_model.specs.Maps.{get, put}
use Rattle.boki_model.specs.Modes.{finish_of, result_of}
use Rattle.boki_model.specs.Writes.{Store, versions_at}
use Rattle.boki_machine.specs.Turns.{turn_of, turns_to, turns, add_next_index}
use Rattle.exactly_once.specs.FurtherLaws.StoreBound.{Finishes}
use Rattle.exactly_once.specs.FurtherLaws.Words.{IsAmong}
use Rattle.exactly_once.proofs.Log.MapChanges.{same_itself, same_key, get-put}
use Rattle.log_folds.specs.Bounds.{record_at}
use Rattle.book_api.specs.Books.{BookState, ordered}
use Rattle.obj_store.specs.Kept.{StoreState}
use Rattle.step_log.specs.Sound.{live_bodies}
use Rattle.fold_cache.proofs.Found.{below_among, recorded_among}
use Rattle.cluster_report.specs.declared.turning.Walk.{Walk}
use Rattle.cluster_report.specs.declared.turning.TurnKind.TheVariants as kind
use Rattle.cluster_report.specs.Reported.{CanReport}
use Rattle.cluster_report.specs.Turned.{kind_of, HasVersions, AddsTurn, AddsAt}
use Rattle.cluster_report.proofs.OneTurn.{go_step}
use Rattle.cluster_report.proofs.Walks.{holds_at, falls, all_seen, none_seen, OneMore, none_more, one_more}

-- a record gives one turn at most
turn_alone : (fs : List Function) (ahead : List (List ℕ × ℕ)) (free : ℕ) (body : Body) → reverse (turn_of fs ahead free body) ≡ turn_of fs ahead free body
turn_alone fs ahead free (b.Submit p f args) = refl
turn_alone fs ahead free (b.Init p) = refl
turn_alone fs ahead free (b.Finish p i outcome) = refl
turn_alone fs ahead free _ = refl

-- a path that wasn't met before another record was passed wasn't met
not_met : (p : List ℕ) (s : Option (List ℕ × ℕ)) (ahead : List (List ℕ × ℕ)) → get p (add_next_index s ahead) ≡ None → get p ahead ≡ None
not_met p None ahead none = none
not_met p (Some s) ahead none = at (bytes_eq p s.0) (sym (get-put p s.0 s.1 ahead) ∙ none)
  where
    at : (t : Bool) → cond t (Some s.1) (get p ahead) ≡ None → get p ahead ≡ None
    at true e = absurd (let z : ⊥ = cc in z)
    at false e = e

-- and that of the record is met
is_met : (p : List ℕ) (i : ℕ) (s : Option (List ℕ × ℕ)) (ahead : List (List ℕ × ℕ)) → s ≡ Some (p, i) → get p (add_next_index s ahead) ≡ None → ⊥
is_met p i None ahead is none = cc
is_met p i (Some s) ahead is none =
    let same : s ≡ (p, i) = cc in
    at (bytes_eq p p) (same_itself p) (sym (get-put p p s.1 ahead) ∙ ap (λ (q : List ℕ). get p (put q s.1 ahead)) (sym (ap (λ (x : List ℕ × ℕ). x.0) same)) ∙ none)
  where
    at : (t : Bool) → t ≡ true → cond t (Some s.1) (get p ahead) ≡ None → ⊥
    at true t e = cc
    at false t e = cc

-- a result is that of a Finish
module _ (p : List ℕ) (o : Outcome) where
  finish_says : (x : Live Body) (xs : List (Live Body)) (body : Body) → x.holds ≡ body → finish_of p body ≡ Some o → Finishes p (x ∷ xs) x
  finish_says x xs (b.Finish q i outcome) is says = at (bytes_eq p q) refl says
    where
      at : (t : Bool) → bytes_eq p q ≡ t → cond t (Some outcome) None ≡ Some o → Finishes p (x ∷ xs) x
      at false e says = absurd (let z : ⊥ = cc in z)
      at true e says = record {
        among = inl refl;
        index = i;
        outcome = outcome;
        is_finish = is ∙ ap (λ k. b.Finish k i outcome) (sym (same_key p q e));
      }
  finish_says x xs _ is says = absurd (let z : ⊥ = cc in z)

  finish_there : (xs : List (Live Body)) → result_of p xs ≡ Some o → (x : Live Body) × Finishes p xs x
  finish_there [] is = absurd (let z : ⊥ = cc in z)
  finish_there (x ∷ xs) is = at (result_of p xs) refl is (finish_there xs)
    where
      at :
          (r : Option Outcome) → result_of p xs ≡ r → option_or r (finish_of p x.holds) ≡ Some o
          → (result_of p xs ≡ Some o → (y : Live Body) × Finishes p xs y) → (y : Live Body) × Finishes p (x ∷ xs) y
      at None e is ih = (x, finish_says x xs x.holds refl is)
      at (Some r) e is ih =
          let f = ih (e ∙ is) in
          (f.0, record { among = inr f.1.among; index = f.1.index; outcome = f.1.outcome; is_finish = f.1.is_finish })

-- two records with one seqnum are one
same_record :
    (end : ℕ) (x y : Live Body) (xs : List (Live Body)) → FallBelow end xs → IsAmong x xs → IsAmong y xs → x.seq ≡ y.seq → x ≡ y
same_record end x y xs fall in_x in_y same =
    let both : Some x ≡ Some y =
    sym (recorded_among end x xs fall in_x) ∙ ap (λ (seq : ℕ). record_at seq xs) same ∙ recorded_among end y xs fall in_y in
    cc

module _ (fs : List Function) (book : BookState) (kept : StoreState) where
  abbrev end : ℕ
  end = suc (length (ordered book))

  -- The records above a seqnum were passed: the path of each step record among them was met, and the turns are those of the others
  -- and those so far.
  pub record Passed (n : ℕ) (walk : Walk) : Type 0 where
    pub met :
        (y : Live Body) (p : List ℕ) (i : ℕ) → IsAmong y (live_bodies book) → n < y.seq → step_of y.holds ≡ Some (p, i)
        → get p walk.ahead.entries ≡ None → ⊥
    pub told :
        (m : Store) → CanReport book kept m
        → turns fs m.versions (live_bodies book)
        ≡ turns_to fs walk.ahead.entries m.versions (upto n (live_bodies book)) ++ reverse walk.turns.items

  pub none_passed : (n : ℕ) (walk : Walk) → n ≡ length (ordered book) → walk.ahead.entries ≡ [] → walk.turns.items ≡ [] → Passed n walk
  none_passed n walk is ahead so_far = record {
    met = λ y p i among lt step none. let b = below_among end y (live_bodies book) (falls book) among in absurd (let z : ⊥ = omega (arith, b.1) in z);
    told = λ m can.
        sym (append-nil (turns_to fs [] m.versions (live_bodies book)))
        ∙ ap (λ (xs : List (Live Body)). turns_to fs [] m.versions xs ++ []) (sym (ap (λ (k : ℕ). upto k (live_bodies book)) is ∙ all_seen book))
        ∙ ap (λ (a : List (List ℕ × ℕ)). turns_to fs a m.versions (upto n (live_bodies book)) ++ []) (sym ahead)
        ∙ ap (λ (ts : List Turn). turns_to fs walk.ahead.entries m.versions (upto n (live_bodies book)) ++ reverse ts) (sym so_far);
  }

  pub all_passed : (n : ℕ) (walk : Walk) → n ≡ 0 → Passed n walk → (m : Store) → CanReport book kept m → reverse walk.turns.items ≡ turns fs m.versions (live_bodies book)
  all_passed n walk is passed m can =
      sym (passed.told m can
      ∙ ap (λ (xs : List (Live Body)). turns_to fs walk.ahead.entries m.versions xs ++ reverse walk.turns.items)
      (ap (λ (k : ℕ). upto k (live_bodies book)) is ∙ none_seen book))

  -- no record
  module _ (n : ℕ) (walk : Walk) (none : holds_at book (suc n) ≡ None) (passed : Passed (suc n) walk) where
    absent : (y : Live Body) → IsAmong y (live_bodies book) → y.seq ≡ suc n → ⊥
    absent y among is =
        let there : Some y.holds ≡ None =
        sym (ap (λ (o : Option (Live Body)). option_map (λ (x : Live Body). x.holds) o) (sym (ap (λ (k : ℕ). record_at k (live_bodies book)) is) ∙ recorded_among end y (live_bodies book) (falls book) among))
        ∙ none in
        cc

    pass_none : Passed n walk
    pass_none = record {
      met = λ y p i among lt step unmet. at y p i among lt step unmet (cases_lt (suc n) y.seq);
      told = λ m can.
          passed.told m can
          ∙ ap (λ (xs : List (Live Body)). turns_to fs walk.ahead.entries m.versions xs ++ reverse walk.turns.items) (none_more book n none);
    }
      where
        at :
            (y : Live Body) (p : List ℕ) (i : ℕ) → IsAmong y (live_bodies book) → n < y.seq → step_of y.holds ≡ Some (p, i)
            → get p walk.ahead.entries ≡ None → (suc n < y.seq) ⊎ (y.seq ≤ suc n) → ⊥
        at y p i among lt step unmet (inl above) = passed.met y p i among above step unmet
        at y p i among lt step unmet (inr within) = absent y among (omega arith)

  -- a record
  module _ (n : ℕ) (body : Body) (some : holds_at book (suc n) ≡ Some body) (old new : Walk) (passed : Passed (suc n) old) (adds : AddsTurn fs kept (suc n) body old new) where
    here : OneMore book n body
    here = one_more book n body some

    is_here : (y : Live Body) → IsAmong y (live_bodies book) → y.seq ≡ suc n → y.holds ≡ body
    is_here y among is =
        ap (λ (x : Live Body). x.holds) (same_record end y here.newest (live_bodies book) (falls book) among here.among (is ∙ sym here.seqnum)) ∙ here.holds

    one_met :
        (y : Live Body) (p : List ℕ) (i : ℕ) → IsAmong y (live_bodies book) → n < y.seq → step_of y.holds ≡ Some (p, i)
        → get p new.ahead.entries ≡ None → ⊥
    one_met y p i among lt step unmet = at (cases_lt (suc n) y.seq)
      where
        unmet_now : get p (add_next_index (step_of body) old.ahead.entries) ≡ None
        unmet_now = ap (get p) (sym adds.ahead) ∙ unmet

        at : (suc n < y.seq) ⊎ (y.seq ≤ suc n) → ⊥
        at (inl above) = passed.met y p i among above step (not_met p (step_of body) old.ahead.entries unmet_now)
        at (inr within) = is_met p i (step_of body) old.ahead.entries (ap step_of (sym (is_here y among (omega arith))) ∙ step) unmet_now

    module _ (m : Store) (can : CanReport book kept m) where
      ended_is_met :
          (p : List ℕ) (i own : ℕ) (x : Live Body) → kind_of body ≡ kind.Go p i own → get p old.ahead.entries ≡ None
          → Finishes p (live_bodies book) x → ⊥
      ended_is_met p i own x go unmet fin = at (cases_lt (suc n) x.seq)
        where
          le : here.newest.seq ≤ x.seq
          le = (can.ends p).last x here.newest i fin here.among (ap step_of here.holds ∙ go_step body p i own go)

          at : (suc n < x.seq) ⊎ (x.seq ≤ suc n) → ⊥
          at (inl above) = passed.met x p fin.index fin.among above (ap step_of fin.is_finish) unmet
          at (inr within) =
              let same : body ≡ b.Finish p fin.index fin.outcome = sym (is_here x fin.among (omega (arith, le, here.seqnum))) ∙ fin.is_finish in
              let both : kind.Go p i own ≡ kind.End p fin.index = sym go ∙ ap kind_of same in
              cc

      unended : (p : List ℕ) (i own : ℕ) → kind_of body ≡ kind.Go p i own → get p old.ahead.entries ≡ None → result_of p (live_bodies book) ≡ None
      unended p i own go unmet = at (result_of p (live_bodies book)) refl
        where
          at : (r : Option Outcome) → result_of p (live_bodies book) ≡ r → r ≡ None
          at None e = refl
          at (Some o) e =
              let f = finish_there p o (live_bodies book) e in
              absurd (ended_is_met p i own f.0 go unmet f.1)

      has_versions : HasVersions m.floor old.ahead.entries (suc n) body
      has_versions p i own go unmet =
          subst (λ (k : ℕ). m.floor ≤ k) here.seqnum
          (can.running p here.newest i (unended p i own go unmet) here.among (ap step_of here.holds ∙ go_step body p i own go))

      abbrev before : List (Live Body)
      before = upto n (live_bodies book)

      abbrev turn : List Turn
      turn = turn_of fs old.ahead.entries (versions_at (suc n) m.versions) body

      backward : reverse new.turns.items ≡ turn ++ reverse old.turns.items
      backward =
          ap reverse (adds.turns m (live_bodies book) can.kept.store.stands has_versions)
          ∙ reverse-append old.turns.items turn
          ∙ ap (λ (ts : List Turn). ts ++ reverse old.turns.items) (turn_alone fs old.ahead.entries (versions_at (suc n) m.versions) body)

      with_newest : ℕ → Body → List Turn
      with_newest seq says =
          turns_to fs (add_next_index (step_of says) old.ahead.entries) m.versions before
          ++ turn_of fs old.ahead.entries (versions_at seq m.versions) says

      seen : turns_to fs old.ahead.entries m.versions (upto (suc n) (live_bodies book)) ≡ turns_to fs new.ahead.entries m.versions before ++ turn
      unfolding with_newest
      seen =
          ap (turns_to fs old.ahead.entries m.versions) here.seen
          ∙ ap (λ (k : ℕ). with_newest k here.newest.holds) here.seqnum
          ∙ ap (with_newest (suc n)) here.holds
          ∙ ap (λ (a : List (List ℕ × ℕ)). turns_to fs a m.versions before ++ turn) (sym adds.ahead)

      one_told :
          turns fs m.versions (live_bodies book)
          ≡ turns_to fs new.ahead.entries m.versions before ++ reverse new.turns.items
      one_told =
          passed.told m can
          ∙ ap (λ (ts : List Turn). ts ++ reverse old.turns.items) seen
          ∙ append_assoc (turns_to fs new.ahead.entries m.versions before) turn (reverse old.turns.items)
          ∙ ap (λ (ts : List Turn). turns_to fs new.ahead.entries m.versions before ++ ts) (sym backward)

    pass_one : Passed n new
    pass_one = record { met = one_met; told = one_told }

  -- one seqnum more
  pub pass_at : (n seq : ℕ) (old new : Walk) → seq ≡ suc n → AddsAt fs kept seq (holds_at book seq) old new → Passed seq old → Passed n new
  pass_at n seq old new is adds passed =
      at (holds_at book (suc n)) refl (subst (λ (k : ℕ). AddsAt fs kept k (holds_at book k) old new) is adds)
    where
      before : Passed (suc n) old
      before = subst (λ (k : ℕ). Passed k old) is passed

      at : (o : Option Body) → holds_at book (suc n) ≡ o → AddsAt fs kept (suc n) o old new → Passed n new
      at None none same = subst (λ (w : Walk). Passed n w) (sym same) (pass_none n old none before)
      at (Some body) some adds = pass_one n body some old new before adds
