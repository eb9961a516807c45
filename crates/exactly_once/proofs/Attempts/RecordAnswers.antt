-- What the record at its place answers an attempt, by the record's kind.
use Rattle.std.proofs.Common.{◌≡◌, ℕ, false, cond, ltb, List, [], ◌∷◌, length, Option, Some, None, refl, sym, ap, ◌∙◌, subst}
use Rattle.lb_base.specs.Path.{IsPath}
use Rattle.lb_base.specs.declared.value.Outcome.{Outcome}
use Rattle.boki_types.specs.declared.body.Body.{Body}
use Rattle.boki_types.specs.declared.body.Body.TheVariants as b
use Rattle.boki_types.specs.declared.line.Life.TheVariants.{Running}
use Rattle.boki_types.specs.declared.line.StepLine.TheVariants as l
use Rattle.boki_types.specs.declared.operation.Answer.TheVariants as a
use Rattle.boki_types.specs.declared.plan.Setup.{Setup}
use Rattle.boki_types.specs.declared.program.Function.{Function}
use Rattle.boki_model.specs.Live.{Live, upto}
use Rattle.boki_model.specs.Bodies.{child}
use Rattle.boki_model.specs.Modes.{result_of}
use Rattle.boki_model.specs.Writes.{read_fenced, read_below, last_value_below}
use Rattle.boki_model.specs.Folds.{queues, front, commits, store_values, values_of_names}
use Rattle.boki_machine.specs.Attempt.{Attempt, Move, next_index}
use Rattle.boki_machine.specs.Decided as decided
use Rattle.boki_machine.specs.Decided.{join_answer, values_below}
use Rattle.std.specs.Prelude.{zip}
use Rattle.boki_machine.specs.Step.{seqnum, records_below, fenced_value, read_all, adopts_join, is_committed, adopts_operation}
use Rattle.exactly_once.specs.Induction.SoundLogs.{MayJoin}
use Rattle.exactly_once.specs.Induction.Invariant.{World, records, marked_reads_at, Follows, InvariantHolds}
use Rattle.exactly_once.specs.FurtherLaws.Words.{values_only, IsAmong}
use Rattle.exactly_once.specs.Induction.StepKeeps.{MoveKeeps}
use Rattle.exactly_once.proofs.Log.LiveRecords.{Under, live_under}
use Rattle.exactly_once.proofs.Invocations.NextRecord.{stands}
use Rattle.exactly_once.proofs.Invocations.SamePlace.{under_upto}
use Rattle.boki_model.proofs.Logs.{upto-upto}
use Rattle.exactly_once.proofs.Attempts.EngineViews.{read_value, read_values, committed_is}
use Rattle.exactly_once.proofs.Attempts.ActingAttempt.{result_upto, engine_at, up_to}
use Rattle.exactly_once.proofs.Attempts.AdoptedRecord.{stay_right, Recorded, plain_right, marker_right, own_path, step_as, seen_below, fits_as}

module _ (setup : Setup) (fs : List Function) (w : World) (holds : InvariantHolds setup fs w) (t : Attempt) (among : IsAmong t w.attempts) (running : t.life ≡ Running) (path : IsPath t.path) where
  abbrev view : List (Live Body)
  view = upto (engine_at setup fs w holds t) (records w)

  module _ (f : Follows setup fs (values_only w.store) w.store.fences (up_to setup fs w holds t) t) (x : Live Body) (r : Recorded setup fs w holds t among running path t.place x) (index : next_index t.answers ≡ r.index) where
    -- what is read below its seqnum
    value_below : (key : List ℕ) → ltb x.seq w.store.floor ≡ false → fenced_value (read_fenced key x.seq w.store view) ≡ decided.value_or_none (last_value_below key x.seq 0 (values_only w.store) r.behind)
    value_below key e =
        (λ i. fenced_value (read_below x.seq key (r.seq_is i) 0 w.store view))
        ∙ read_value x.seq key r.m w.store view e
        ∙ (λ i. decided.value_or_none (last_value_below key (sym r.seq_is i) 0 (values_only w.store) (r.seen_below i)))

    values_here : (keys : List (List ℕ)) → ltb x.seq w.store.floor ≡ false → read_all (λ key. read_fenced key x.seq w.store view) keys ≡ values_below x.seq 0 (values_only w.store) r.behind keys
    values_here keys e =
        (λ i. read_all (λ key. read_below x.seq key (r.seq_is i) 0 w.store view) keys)
        ∙ read_values x.seq r.m w.store view keys e
        ∙ (λ i. values_below (sym r.seq_is i) 0 (values_only w.store) (r.seen_below i) keys)

    join_taken : (q : List ℕ) (i ordinal : ℕ) → x.holds ≡ b.Join q i ordinal → (o : Option Outcome) → result_of (child q ordinal) view ≡ o → MoveKeeps setup fs w (adopts_join t w.store x.seq (child q ordinal) o)
    join_taken q i ordinal e None is = stay_right setup fs w holds t among (l.WaitsJoin (child q ordinal))
    join_taken q i ordinal e (Some outcome) is =
        let may : MayJoin fs (values_only w.store) r.behind q (stands setup fs (values_only w.store) q r.behind) i ordinal = fits_as setup fs w holds t among running path f x r index (b.Join q i ordinal) e in
        let there : result_of (child q ordinal) view ≡ Some may.outcome =
        result_upto (child q ordinal) r.m may.outcome view (ap (result_of (child q ordinal)) r.seen_below ∙ may.result) in
        let same : Some may.outcome ≡ Some outcome = sym there ∙ is in
        plain_right setup fs w holds t among running path f x r index (b.Join q i ordinal) e (a.Joined outcome) t.transaction (l.AdoptJoin (seqnum x.seq) (child q ordinal) outcome) refl (ap join_answer (may.result ∙ same)) refl (λ others. refl)

    pub takes_right : (body : Body) → x.holds ≡ body → (other : Move) → MoveKeeps setup fs w other → MoveKeeps setup fs w (adopts_operation t w.store view x.seq body other)
    takes_right (b.Read q i key) e other right =
        marker_right setup fs w holds t among running path f x r index (b.Read q i key) e (key ∷ []) (a.Value (fenced_value (read_fenced key x.seq w.store view))) (l.AdoptRead (seqnum x.seq) key (fenced_value (read_fenced key x.seq w.store view))) refl
        (λ floor. ap (λ v. Some (a.Value v)) (sym (value_below key floor))) refl
        (λ others. ap (λ t. cond t (marked_reads_at x.seq (key ∷ []) others) others) (own_path setup fs w holds t among running path f x r index q i (step_as setup fs w holds t among running path f x r index (b.Read q i key) e)))
    takes_right (b.ReadGroup q i keys) e other right =
        marker_right setup fs w holds t among running path f x r index (b.ReadGroup q i keys) e keys (a.Values (read_all (λ key. read_fenced key x.seq w.store view) keys))
        (l.AdoptReadAll (seqnum x.seq) (zip keys (read_all (λ key. read_fenced key x.seq w.store view) keys))) refl
        (λ floor. ap (λ vs. Some (a.Values vs)) (sym (values_here keys floor))) refl
        (λ others. ap (λ t. cond t (marked_reads_at x.seq keys others) others) (own_path setup fs w holds t among running path f x r index q i (step_as setup fs w holds t among running path f x r index (b.ReadGroup q i keys) e)))
    takes_right (b.Write q i place key here) e other right =
        plain_right setup fs w holds t among running path f x r index (b.Write q i place key here) e a.Done t.transaction (l.AdoptWrite (seqnum x.seq) key) refl refl refl (λ others. refl)
    takes_right (b.Spawn q i ordinal name args) e other right =
        plain_right setup fs w holds t among running path f x r index (b.Spawn q i ordinal name args) e (a.Spawned ordinal) t.transaction (l.AdoptSpawn (seqnum x.seq) (child q ordinal)) refl refl refl (λ others. refl)
    takes_right (b.Join q i ordinal) e other right = join_taken q i ordinal e (result_of (child q ordinal) view) refl
    takes_right (b.Push q i queue value) e other right =
        plain_right setup fs w holds t among running path f x r index (b.Push q i queue value) e a.Done t.transaction (l.AdoptPush (seqnum x.seq) queue) refl refl refl (λ others. refl)
    takes_right (b.Pop q i queue) e other right =
        let v = front queue (queues (records_below x.seq view)) in
        plain_right setup fs w holds t among running path f x r index (b.Pop q i queue) e (a.Value v) t.transaction (l.AdoptPop (seqnum x.seq) queue v) refl
        (ap (λ xs. Some (a.Value (front queue (queues xs)))) (sym (seen_below setup fs w holds t among running path f x r index))) refl (λ others. refl)
    takes_right (b.TxnBegin q i names) e other right =
        let vs = values_of_names names (store_values (commits (records_below x.seq view))) in
        plain_right setup fs w holds t among running path f x r index (b.TxnBegin q i names) e (a.Values vs) (Some x.seq) (l.AdoptBegin (seqnum x.seq) (zip names vs)) refl
        (ap (λ xs. Some (a.Values (values_of_names names (store_values (commits xs))))) (sym (seen_below setup fs w holds t among running path f x r index))) refl (λ others. refl)
    takes_right (b.TxnCommit q i begin names writes) e other right =
        let good = is_committed x.seq view in
        plain_right setup fs w holds t among running path f x r index (b.TxnCommit q i begin names writes) e (a.Committed good) None (l.AdoptCommit (seqnum x.seq) good) refl
        (ap (λ good. Some (a.Committed good))
        (sym (committed_is view x r.behind r.m q i begin names writes r.seq_is
        (subst (Under r.m) r.below (under_upto setup fs (values_only w.store) t.path r.m (length w.log) (records w) (live_under w.log)))
        (upto-upto x.seq (engine_at setup fs w holds t) (records w) r.seen ∙ r.cut) e))) refl (λ others. refl)
    takes_right (b.Init q) e other right = right
    takes_right (b.Finish q i outcome) e other right = right
    takes_right (b.Submit q name args) e other right = right
    takes_right (b.SwitchBegin target) e other right = right
    takes_right b.SwitchEnd e other right = right
    takes_right (b.Trim n) e other right = right
    takes_right (b.TrimTag number bound) e other right = right
    takes_right (b.User bytes) e other right = right
