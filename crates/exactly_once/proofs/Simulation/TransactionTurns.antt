-- The turns of transactions: names that are dirty since a begin, and what a commit does.
use Rattle.std.proofs.Common.{◌≡◌, ◌⊎◌, inl, inr, ⊎_elim, ℕ, suc, ◌<◌, ◌≤◌, Bool, true, false, cond, ltb, ◌&&◌, ◌||◌, not, List, [], ◌∷◌, ◌++◌, Option, Some, None, option_map, refl, sym, ap, ◌∙◌, arith}
use Rattle.std.specs.Prelude.{bytes_eq}
use Rattle.std.specs.Ordering.{is_eq}
use Rattle.std.proofs.lemmas.Bool.{lt-ltb, le-ltb}
use Rattle.lb_base.specs.declared.value.Tag.{Tag}
use Rattle.lb_base.specs.declared.value.Value.{Value}
use Rattle.boki_types.specs.declared.body.Body.{Body}
use Rattle.boki_types.specs.declared.body.Body.TheVariants as b
use Rattle.boki_types.specs.declared.log.Call.{Call}
use Rattle.boki_types.specs.declared.operation.Op.TheVariants as o
use Rattle.boki_types.specs.declared.operation.Answer.{Answer}
use Rattle.boki_types.specs.declared.operation.Answer.TheVariants as a
use Rattle.boki_types.specs.declared.plan.Setup.{Setup}
use Rattle.boki_types.specs.declared.program.Function.{Function}
use Rattle.boki_model.specs.Live.{Live}
use Rattle.boki_model.specs.Maps.{key_order, get, put, has}
use Rattle.boki_model.specs.Writes.{Store}
use Rattle.boki_model.specs.Folds.{Commit, queues, commits, add_commit, store_values, succeeds, written_names, intersects, put_all, values_of_names}
use Rattle.boki_machine.specs.Attempt.{call_of}
use Rattle.boki_machine.specs.Decided.{InvocationState, with_free_answers, function_of, transaction_after}
use Rattle.boki_machine.specs.Ideal.{Invocation, Ideal, Dirty, add_dirty, add_dirty_to_all}
use Rattle.boki_machine.specs.Ideal as ideal
use Rattle.boki_model.proofs.KeyMaps.{get-put_same}
use Rattle.exactly_once.specs.Induction.SoundLogs.{MayCommit, AllMayFollow}
use Rattle.exactly_once.proofs.Log.LiveRecords.{Under}
use Rattle.exactly_once.proofs.Invocations.NextRecord.{stands, Does, does, apart, began, operates, ends, cursor_within}
use Rattle.exactly_once.proofs.Simulation.NextOperations.{others_put, IsState}
use Rattle.exactly_once.proofs.Simulation.ExpectedState.{dirty_since, open_since, frees, where_begun, look, expected, Agrees, frame_with}
use Rattle.exactly_once.proofs.Simulation.OperationTurn.{stands_apart, others_kept, before_other, objects_kept, at_operation, operation_goes}
use Rattle.exactly_once.proofs.Simulation.TurnsByKind.{Turns}

-- A commit succeeds where none of its names is dirty.

has_append : (n : List ℕ) (xs ys : List (List ℕ)) → has n (xs ++ ys) ≡ (has n xs || has n ys)
has_append n [] ys = refl
has_append n (x ∷ xs) ys = at (bytes_eq n x) (has_append n xs ys)
  where
    at : (t : Bool) → has n (xs ++ ys) ≡ (has n xs || has n ys) → (t || has n (xs ++ ys)) ≡ ((t || has n xs) || has n ys)
    at true e = refl
    at false e = e

meet_append : (ns xs ys : List (List ℕ)) → intersects ns (xs ++ ys) ≡ (intersects ns xs || intersects ns ys)
meet_append [] xs ys = refl
meet_append (n ∷ ns) xs ys = (λ i. has_append n xs ys i || meet_append ns xs ys i) ∙ at (has n xs) (has n ys) (intersects ns xs) (intersects ns ys)
  where
    at : (p q r s : Bool) → ((p || q) || (r || s)) ≡ ((p || r) || (q || s))
    at true q r s = refl
    at false true true s = refl
    at false true false s = refl
    at false false r s = refl

meet_none : (ns : List (List ℕ)) → intersects ns [] ≡ false
meet_none [] = refl
meet_none (n ∷ ns) = meet_none ns

pub succeeds_same : (begin : ℕ) (names : List (List ℕ)) (writes : List (List ℕ × Value)) (cs : List Commit) → succeeds begin names writes cs ≡ not (intersects (names ++ written_names writes) (dirty_since begin cs))
succeeds_same begin names writes [] = sym (ap not (meet_none (names ++ written_names writes)))
succeeds_same begin names writes (c ∷ cs) = at (ltb begin c.seq) (intersects (names ++ written_names writes) (written_names c.writes)) refl (succeeds_same begin names writes cs)
  where
    at :
        (t d : Bool) → intersects (names ++ written_names writes) (written_names c.writes) ≡ d → succeeds begin names writes cs ≡ not (intersects (names ++ written_names writes) (dirty_since begin cs))
        → (not (t && d) && succeeds begin names writes cs) ≡ not (intersects (names ++ written_names writes) (cond t (written_names c.writes ++ dirty_since begin cs) (dirty_since begin cs)))
    at false d e ih = ih
    at true true e ih = sym (ap not (meet_append (names ++ written_names writes) (written_names c.writes) (dirty_since begin cs)) ∙ ap (λ t. not (t || intersects (names ++ written_names writes) (dirty_since begin cs))) e)
    at true false e ih = ih ∙ sym (ap not (meet_append (names ++ written_names writes) (written_names c.writes) (dirty_since begin cs)) ∙ ap (λ t. not (t || intersects (names ++ written_names writes) (dirty_since begin cs))) e)

-- No commit is behind the newest record.

committed_clean : (begin seq : ℕ) (body : Body) (past : List Commit) → seq ≤ begin → dirty_since begin past ≡ [] → dirty_since begin (add_commit seq body past) ≡ []
committed_clean begin seq (b.TxnCommit p i begun names writes) past le clean = at (succeeds begun names writes past)
  where
    at : (t : Bool) → dirty_since begin (cond t (record { seq = seq; writes = writes } ∷ past) past) ≡ []
    at true = rw (le-ltb begin seq le) clean
    at false = clean
committed_clean begin seq _ past le clean = clean

pub clean_since : (n begin : ℕ) (xs : List (Live Body)) → Under n xs → n ≤ begin → dirty_since begin (commits xs) ≡ []
clean_since n begin [] under le = refl
clean_since n begin (x ∷ xs) under le = committed_clean begin x.seq x.holds (commits xs) (omega (arith, under.1, under.2)) (clean_since under.0 begin xs under.3 (omega (arith, under.2)))

-- An open transaction began at a record.

transaction_cases : (seq : ℕ) (body : Body) (old : Option ℕ) (begin : ℕ) → transaction_after seq body old ≡ Some begin → (begin ≡ seq) ⊎ (old ≡ Some begin)
transaction_cases seq (b.TxnBegin p i names) old begin e = inl (let h : begin ≡ seq = cc in h)
transaction_cases seq (b.TxnCommit p i begun names writes) old begin e = let no_way : None ≡ Some begin = e in cc
transaction_cases seq _ old begin e = inr e

module _ (setup : Setup) (fs : List Function) (store : Store) where
  pub transaction_within : (n : ℕ) (xs : List (Live Body)) (q : List ℕ) (begin : ℕ) → Under n xs → AllMayFollow setup fs store xs → (stands setup fs store q xs).transaction ≡ Some begin → begin ≤ n
  transaction_within n [] q begin under fit is = let no_way : None ≡ Some begin = is in cc
  transaction_within n (x ∷ xs) q begin under fit is = at (transaction_within under.0 xs q begin under.3 fit.2) (stands setup fs store q (x ∷ xs)) is (does setup fs store x xs q fit.0)
    where
      at : ((stands setup fs store q xs).transaction ≡ Some begin → begin ≤ under.0) → (next : InvocationState) → next.transaction ≡ Some begin → Does setup fs store x.seq x.holds xs q next → begin ≤ n
      at ih next is (apart a f e) = omega (arith, ih (ap (λ (p : InvocationState). p.transaction) (sym e) ∙ is), under.2)
      at ih next is (began a may e) = let no_way : None ≡ Some begin = ap (λ (p : InvocationState). p.transaction) (sym e) ∙ is in cc
      at ih next is (operates i s f r e) =
          ⊎_elim (λ same. omega (arith, same, under.1, under.2)) (λ old. omega (arith, ih old, under.2))
          (transaction_cases x.seq x.holds (stands setup fs store q xs).transaction begin (ap (λ (p : InvocationState). p.transaction) (sym e) ∙ is))
      at ih next is (ends i r b a e) = omega (arith, ih (ap (λ (p : InvocationState). p.transaction) (sym e) ∙ is), under.2)

-- A commit makes its names dirty in every open transaction.

abbrev pub dirtied_in : List (List ℕ) → Invocation → Invocation
dirtied_in names i = record i { transaction = add_dirty names i.transaction }

get-dirty_all : (names : List (List ℕ)) (q : List ℕ) (m : List (List ℕ × Invocation)) → get q (add_dirty_to_all names m) ≡ option_map (dirtied_in names) (get q m)
get-dirty_all names q [] = refl
get-dirty_all names q (x ∷ m) = at (is_eq (key_order q x.0)) (get-dirty_all names q m)
  where
    at : (t : Bool) → get q (add_dirty_to_all names m) ≡ option_map (dirtied_in names) (get q m) → cond t (Some (dirtied_in names x.1)) (get q (add_dirty_to_all names m)) ≡ option_map (dirtied_in names) (cond t (Some x.1) (get q m))
    at true ih = refl
    at false ih = ih

dirty_look :
    (fs : List Function) (store : Store) (a : Option ℕ) (xs : List (Live Body)) (q : List ℕ) (c : Commit) (cs : List Commit) (st : InvocationState) (call : Option Call)
    → ((begin : ℕ) → st.transaction ≡ Some begin → begin < c.seq)
    → option_map (dirtied_in (written_names c.writes)) (look fs store a xs q cs st call) ≡ look fs store a xs q (c ∷ cs) st call
dirty_look fs store a xs q c cs st None older = refl
dirty_look fs store a xs q c cs st (Some call) older =
    ap (λ (t : Option Dirty). Some (record { function = function_of fs (Some call); args = call.args; answers = where_begun st.begun (with_free_answers fs store xs q st (frees a store st)); result = st.result; transaction = t }))
    (at st.transaction older)
  where
    at : (t : Option ℕ) → ((begin : ℕ) → t ≡ Some begin → begin < c.seq) → add_dirty (written_names c.writes) (open_since cs t) ≡ open_since (c ∷ cs) t
    at None older = refl
    at (Some begin) older = rw (lt-ltb begin c.seq (older begin refl))

module _ (setup : Setup) (fs : List Function) (store : Store) (seq : ℕ) (tags : List Tag) (xs : List (Live Body)) (m : ℕ) (is_seq : seq ≡ suc m) (under : Under m xs) (ahead : List (List ℕ × ℕ)) (s : Ideal) (p : List ℕ) (i : ℕ) (agrees : Agrees setup fs store (put p i ahead) seq xs s) where
  abbrev with_body : Body → Live Body
  with_body body = record { seq = seq; tags = tags; holds = body }

  module _ (names : List (List ℕ)) (fit : AllMayFollow setup fs store (with_body (b.TxnBegin p i names) ∷ xs)) where
    abbrev own_begun : Invocation
    own_begun = at_operation setup fs store (with_body (b.TxnBegin p i names)) xs p i refl m is_seq under fit ahead s agrees fit.0.reaches

    abbrev begun_answer : Answer
    begun_answer = a.Values (values_of_names names (store_values (commits xs)))

    abbrev after_begin : Invocation
    after_begin = record own_begun { transaction = Some []; answers = begun_answer ∷ own_begun.answers }

    pub begin_turn : Turns setup fs store seq tags xs m is_seq under ahead s p i agrees (b.TxnBegin p i names) fit
    begin_turn valid =
        operation_goes setup fs store (with_body (b.TxnBegin p i names)) xs p i refl m is_seq under fit ahead s agrees fit.0.reaches valid refl begun_answer refl (o.Begin names) fit.0.asked
        (ideal.answers p (record own_begun { transaction = Some [] }) begun_answer s)
        (ap (λ n. Some (ideal.answers p (record own_begun { transaction = Some [] }) (a.Values (values_of_names names n)) s)) agrees.names_are)
        (record {
          here = get-put_same p after_begin s.invocations ∙ ap (λ d. Some (record after_begin { transaction = Some d })) (sym (clean_since m seq xs under (omega (arith, is_seq))));
          others_are = others_put p (λ q. expected setup fs store (get q ahead) (with_body (b.TxnBegin p i names) ∷ xs) q) after_begin s.invocations
              (others_kept setup fs store (with_body (b.TxnBegin p i names)) xs p i refl m is_seq under fit ahead s agrees (λ q e. refl) refl);
          objects = objects_kept setup fs store (with_body (b.TxnBegin p i names)) xs p i refl m is_seq under fit ahead s agrees (λ key. refl);
          queues_are = agrees.queues_are;
          names_are = agrees.names_are;
        })

  module _ (begin : ℕ) (names : List (List ℕ)) (writes : List (List ℕ × Value)) (fit : AllMayFollow setup fs store (with_body (b.TxnCommit p i begin names writes) ∷ xs)) where
    abbrev may_commit : MayCommit fs store xs p (stands setup fs store p xs) i begin names writes
    may_commit = fit.0

    abbrev own_committed : Invocation
    own_committed = at_operation setup fs store (with_body (b.TxnCommit p i begin names writes)) xs p i refl m is_seq under fit ahead s agrees may_commit.asks.reaches

    abbrev good : Bool
    good = succeeds begin names writes (commits xs)

    same_test : ideal.commit_succeeds names writes own_committed.transaction ≡ good
    same_test = ap (λ t. ideal.commit_succeeds names writes (open_since (commits xs) t)) may_commit.begin_is ∙ sym (succeeds_same begin names writes (commits xs))

    abbrev after_commit : Bool → Invocation
    after_commit t = record own_committed { transaction = None; answers = a.Committed t ∷ own_committed.answers }

    abbrev new_commit : Commit
    new_commit = record { seq = seq; writes = writes }

    dirty_other : good ≡ true → (q : List ℕ) → bytes_eq q p ≡ false → get q (add_dirty_to_all (written_names writes) s.invocations) ≡ expected setup fs store (get q ahead) (with_body (b.TxnCommit p i begin names writes) ∷ xs) q
    dirty_other succeeded q e =
        get-dirty_all (written_names writes) q s.invocations
        ∙ ap (option_map (dirtied_in (written_names writes))) (before_other setup fs store (with_body (b.TxnCommit p i begin names writes)) xs p i refl m is_seq under fit ahead s agrees q e)
        ∙ dirty_look fs store (get q ahead) xs q new_commit (commits xs) (stands setup fs store q xs) (call_of q xs) (λ begun is. let h = transaction_within setup fs store m xs q begun under fit.2 is in omega (arith, h, is_seq))
        ∙ sym (frame_with setup fs store (get q ahead) (with_body (b.TxnCommit p i begin names writes)) xs q (new_commit ∷ commits xs) (let h = cursor_within setup fs store m xs q under fit.2 in omega (arith, h, is_seq))
        (stands_apart setup fs store (with_body (b.TxnCommit p i begin names writes)) xs p i refl q e) refl)
        ∙ ap (λ t. look fs store (get q ahead) (with_body (b.TxnCommit p i begin names writes) ∷ xs) q (cond t (new_commit ∷ commits xs) (commits xs)) (stands setup fs store q (with_body (b.TxnCommit p i begin names writes) ∷ xs)) (call_of q (with_body (b.TxnCommit p i begin names writes) ∷ xs))) (sym succeeded)

    commit_state : (t : Bool) → good ≡ t → IsState fs store (with_body (b.TxnCommit p i begin names writes) ∷ xs) p (λ q. expected setup fs store (get q ahead) (with_body (b.TxnCommit p i begin names writes) ∷ xs) q) (queues xs) (store_values (commits (with_body (b.TxnCommit p i begin names writes) ∷ xs))) (after_commit t) seq 1 (ideal.after_commit t p own_committed writes s)
    commit_state true succeeded = record {
      here = get-put_same p (after_commit true) (add_dirty_to_all (written_names writes) s.invocations);
      others_are = others_put p (λ q. expected setup fs store (get q ahead) (with_body (b.TxnCommit p i begin names writes) ∷ xs) q) (after_commit true) (add_dirty_to_all (written_names writes) s.invocations) (dirty_other succeeded);
      objects = objects_kept setup fs store (with_body (b.TxnCommit p i begin names writes)) xs p i refl m is_seq under fit ahead s agrees (λ key. refl);
      queues_are = agrees.queues_are;
      names_are = ap (put_all writes) agrees.names_are ∙ ap (λ t. store_values (cond t (new_commit ∷ commits xs) (commits xs))) (sym succeeded);
    }
    commit_state false no_good = record {
      here = get-put_same p (after_commit false) s.invocations;
      others_are = others_put p (λ q. expected setup fs store (get q ahead) (with_body (b.TxnCommit p i begin names writes) ∷ xs) q) (after_commit false) s.invocations
          (others_kept setup fs store (with_body (b.TxnCommit p i begin names writes)) xs p i refl m is_seq under fit ahead s agrees (λ q e. refl) (ap (λ t. cond t (new_commit ∷ commits xs) (commits xs)) no_good));
      objects = objects_kept setup fs store (with_body (b.TxnCommit p i begin names writes)) xs p i refl m is_seq under fit ahead s agrees (λ key. refl);
      queues_are = agrees.queues_are;
      names_are = agrees.names_are ∙ ap (λ t. store_values (cond t (new_commit ∷ commits xs) (commits xs))) (sym no_good);
    }

    pub commit_turn : Turns setup fs store seq tags xs m is_seq under ahead s p i agrees (b.TxnCommit p i begin names writes) fit
    commit_turn valid =
        operation_goes setup fs store (with_body (b.TxnCommit p i begin names writes)) xs p i refl m is_seq under fit ahead s agrees may_commit.asks.reaches valid refl (a.Committed good) refl (o.Commit names writes) may_commit.asks.asked
        (ideal.after_commit good p own_committed writes s) (ap (λ t. Some (ideal.after_commit t p own_committed writes s)) same_test) (commit_state good refl)
