-- An attempt adopts what it asks.
use Rattle.std.proofs.Common.{◌≡◌, ℕ, suc, Bool, true, false, cond, ltb, List, [], ◌∷◌, length, Option, Some, None, refl, sym, ap, ◌∙◌, subst, arith}
use Rattle.std.specs.List.{AllByRecursion}
use Rattle.std.proofs.lemmas.Bool.{eqb-true}
use Rattle.std.proofs.lemmas.List.{length-map}
use Rattle.lb_base.specs.Path.{IsPath}
use Rattle.lb_base.specs.declared.value.Value.{Value}
use Rattle.lb_base.specs.declared.value.Outcome.{Outcome}
use Rattle.boki_types.specs.declared.body.Body.{Body}
use Rattle.boki_types.specs.declared.body.Body.TheVariants as b
use Rattle.boki_types.specs.declared.line.StepLine.{StepLine}
use Rattle.boki_types.specs.declared.line.StepLine.TheVariants as l
use Rattle.boki_types.specs.declared.operation.Op.{Op}
use Rattle.boki_types.specs.declared.operation.Op.TheVariants as o
use Rattle.boki_types.specs.declared.operation.Ask.{Ask}
use Rattle.boki_types.specs.declared.operation.Ask.TheVariants as k
use Rattle.boki_types.specs.declared.operation.Answer.{Answer}
use Rattle.boki_types.specs.declared.operation.Answer.TheVariants as a
use Rattle.boki_types.specs.declared.plan.Setup.{Setup}
use Rattle.boki_types.specs.declared.program.Function.{Function}
use Rattle.boki_types.specs.declared.store.Name.{Name}
use Rattle.boki_model.specs.Live.{Live, upto}
use Rattle.boki_model.specs.Reads.{nth}
use Rattle.boki_model.specs.Bodies.{step_tag, step_of, child}
use Rattle.boki_model.specs.Modes.{result_of}
use Rattle.boki_model.specs.Writes.{Store, read_fenced, after_read_fenced, here_or_named}
use Rattle.boki_model.specs.Folds.{queues, front, commits, store_values, values_of_names}
use Rattle.boki_machine.specs.Attempt.{Attempt, Move, next_index}
use Rattle.boki_machine.specs.Decided.{InvocationState, with_free_answers, asked_at, join_answer}
use Rattle.std.specs.Prelude.{zip}
use Rattle.boki_machine.specs.Step.{seqnum, records_below, stop_gone, fenced_value, read_all, is_committed, adopts_answer, adopts_marker, adopts_join, adopts_operation, has_index, attempt_ask}
use Rattle.exactly_once.specs.Induction.Invariant.{World, records, Follows, InvariantHolds}
use Rattle.exactly_once.specs.FurtherLaws.Words.{values_only, IsAmong}
use Rattle.exactly_once.specs.Induction.OpeningHolds.{world_of}
use Rattle.exactly_once.specs.Induction.SoundLogs.{free_operations_to, Asks, MayBegin, MayWrite, MaySpawn, MayJoin, MayCommit, MayFollow}
use Rattle.exactly_once.specs.FurtherLaws.StepRecords.{IsWellFormed}
use Rattle.exactly_once.proofs.Log.HistoryTails.{Tail, longer}
use Rattle.exactly_once.proofs.Log.ListElements.{each_tail}
use Rattle.exactly_once.proofs.Log.LiveRecords.{live_under}
use Rattle.exactly_once.proofs.Invocations.NextRecord.{stands}
use Rattle.exactly_once.proofs.Invocations.SamePlace.{fit_upto}
use Rattle.exactly_once.proofs.Invocations.InitAndCursor.{upto_tail, stands_on}
use Rattle.exactly_once.proofs.Asking.OpenTransactions.{same_step}
use Rattle.exactly_once.proofs.OldVersions.StepOrigins.{own_log, step_is_path, entry_of}
use Rattle.exactly_once.proofs.Attempts.ActingAttempt.{engine_at, following, up_to, at_point, asked_is, result_upto}
use Rattle.exactly_once.proofs.Invocations.RecordAtPlace.{IsTagged, all_tagged, IsRecorded, recorded, point_same, more_same}
use Rattle.exactly_once.proofs.AfterEvents.EndedInvocations.{tail_among}
use Rattle.exactly_once.proofs.Attempts.FreeSteps.{not_fresh}
use Rattle.script_run.specs.Answering.{Takes}
use Rattle.machine_laws.specs.Adopts.{IsWriteOf, IsJoinOf, IsCommitOf, RecordsOperation, adopted_answer, AdoptsAsked, AdoptsItsAsk}
use Rattle.machine_laws.proofs.Writes.{write_place}

path_is : (s t : List ℕ × ℕ) → Some s ≡ Some t → s.0 ≡ t.0
path_is s t e = ap (λ (s : List ℕ × ℕ). s.0) (same_step s t e)

-- What a record answers, and what a step makes of it.

record HasAnswer (store : Store) (view : List (Live Body)) (seq : ℕ) (body : Body) (op : Op) : Type 0 where
  pub answer : Answer
  pub answers : adopted_answer store view seq body ≡ Some answer
  pub takes : Takes (k.Op op) answer

length-values_of : (names : List (List ℕ)) (m : List (List ℕ × Value)) → length (values_of_names names m) ≡ length names
length-values_of [] m = refl
length-values_of (n ∷ names) m = ap suc (length-values_of names m)

module _ (fs : List Function) (store : Store) (view : List (Live Body)) (t : Attempt) (seq : ℕ) where
  kind : (body : Body) (op is : Op) (answer : Answer) → op ≡ is → Takes (k.Op is) answer → adopted_answer store view seq body ≡ Some answer → HasAnswer store view seq body op
  kind body op is answer e takes answers = record { answer = answer; answers = answers; takes = subst (λ op. Takes (k.Op op) answer) (sym e) takes }

  has_answer : (body : Body) (op : Op) → RecordsOperation fs store view t body op → HasAnswer store view seq body op
  has_answer (b.Read p i key) op is = kind (b.Read p i key) op (o.Read key) (a.Value (fenced_value (read_fenced key seq store view))) is tt refl
  has_answer (b.ReadGroup p i keys) op is =
      kind (b.ReadGroup p i keys) op (o.ReadGroup keys) (a.Values (read_all (λ key. read_fenced key seq store view) keys)) is (length-map keys (λ key. fenced_value (read_fenced key seq store view))) refl
  has_answer (b.Write p i place key here) op is = kind (b.Write p i place key here) op (o.Write key is.value) a.Done is.asks tt refl
  has_answer (b.Spawn p i ordinal name args) op is = kind (b.Spawn p i ordinal name args) op (o.Spawn ordinal is.function args) (a.Spawned ordinal) is.asks refl refl
  has_answer (b.Join p i ordinal) op is = kind (b.Join p i ordinal) op (o.Join ordinal) (a.Joined is.outcome) is.asks tt (ap join_answer is.result)
  has_answer (b.Push p i queue value) op is = kind (b.Push p i queue value) op (o.Push queue value) a.Done is tt refl
  has_answer (b.Pop p i queue) op is = kind (b.Pop p i queue) op (o.Pop queue) (a.Value (front queue (queues (records_below seq view)))) is tt refl
  has_answer (b.TxnBegin p i names) op is =
      let found = store_values (commits (records_below seq view)) in kind (b.TxnBegin p i names) op (o.Begin names) (a.Values (values_of_names names found)) is (length-values_of names found) refl
  has_answer (b.TxnCommit p i begin names writes) op is = kind (b.TxnCommit p i begin names writes) op (o.Commit names writes) (a.Committed (is_committed seq view)) is.asks tt refl
  has_answer _ op is = absurd is

  no_longer : (given : Answer) → t.answers ≡ given ∷ t.answers → ⊥
  no_longer given e = let n = ap length e in omega (arith, n)

  one_given : (answer own given : Answer) → Some own ≡ Some answer → own ∷ t.answers ≡ given ∷ t.answers → given ≡ answer
  one_given answer own given is e = cc

  marker_given : (keys : List (List ℕ)) (own : Answer) (line : StepLine) (answer given : Answer) → Some own ≡ Some answer → (adopts_marker t store seq keys own line).attempt.answers ≡ given ∷ t.answers → given ≡ answer
  marker_given keys own line answer given is e = at (ltb seq store.floor) e
    where
      at : (records_below : Bool) → (cond records_below (stop_gone t store) (adopts_answer t (after_read_fenced keys seq store) seq own line)).attempt.answers ≡ given ∷ t.answers → given ≡ answer
      at true e = absurd (no_longer given e)
      at false e = one_given answer own given is e

  join_given : (p : List ℕ) (r : Option Outcome) (answer given : Answer) → join_answer r ≡ Some answer → (adopts_join t store seq p r).attempt.answers ≡ given ∷ t.answers → given ≡ answer
  join_given p None answer given is e = absurd (no_longer given e)
  join_given p (Some outcome) answer given is e = one_given answer (a.Joined outcome) given is e

  given_is : (body : Body) (answer : Answer) → adopted_answer store view seq body ≡ Some answer → (other : Move) (given : Answer) → (adopts_operation t store view seq body other).attempt.answers ≡ given ∷ t.answers → given ≡ answer
  given_is (b.Read p i key) answer is other given e =
      let v = fenced_value (read_fenced key seq store view) in marker_given (key ∷ []) (a.Value v) (l.AdoptRead (seqnum seq) key v) answer given is e
  given_is (b.ReadGroup p i keys) answer is other given e =
      let vs = read_all (λ key. read_fenced key seq store view) keys in marker_given keys (a.Values vs) (l.AdoptReadAll (seqnum seq) (zip keys vs)) answer given is e
  given_is (b.Write p i place key here) answer is other given e = one_given answer a.Done given is e
  given_is (b.Spawn p i ordinal name args) answer is other given e = one_given answer (a.Spawned ordinal) given is e
  given_is (b.Join p i ordinal) answer is other given e = join_given (child p ordinal) (result_of (child p ordinal) view) answer given is e
  given_is (b.Push p i queue value) answer is other given e = one_given answer a.Done given is e
  given_is (b.Pop p i queue) answer is other given e = one_given answer (a.Value (front queue (queues (records_below seq view)))) given is e
  given_is (b.TxnBegin p i names) answer is other given e = one_given answer (a.Values (values_of_names names (store_values (commits (records_below seq view))))) given is e
  given_is (b.TxnCommit p i begin names writes) answer is other given e = one_given answer (a.Committed (is_committed seq view)) given is e
  given_is _ answer is other given e = let no_way : None ≡ Some answer = is in cc

-- An attempt that has adopted its Init.

module _ (setup : Setup) (fs : List Function) (w : World) (holds : InvariantHolds setup fs w) (t : Attempt) (among : IsAmong t w.attempts) (place : ℕ) (begun : t.place ≡ suc place) where
  abbrev now : List (Live Body)
  now = records w

  abbrev store : Store
  store = values_only w.store

  abbrev n : ℕ
  n = length w.log

  abbrev pos : ℕ
  pos = engine_at setup fs w holds t

  abbrev view : List (Live Body)
  view = upto pos now

  abbrev here_now : List (Live Body)
  here_now = up_to setup fs w holds t

  f : Follows setup fs store w.store.fences here_now t
  f = not_fresh setup fs store w.store.fences n now w.positions t place begun (following setup fs w holds t among)

  -- its path is that of a record
  path : IsPath t.path
  path =
      let on = stands_on setup fs store t.path here_now (fit_upto setup fs store t.path t.cursor now holds.sound.fit) f.begun in
      let e = entry_of on.on on.behind w.log (longer on.tail (upto_tail t.cursor now)) in
      let own = (each_tail IsWellFormed (e.entry ∷ e.older) w.log e.tail (own_log setup fs w holds)).0 in
      step_is_path t.path on.index e.entry.holds (ap step_of e.holds_is ∙ on.step) own.paths

  tags : AllByRecursion (IsTagged t.path) now
  tags = all_tagged t.path path w.log (own_log setup fs w holds)

  module _ (x : Live Body) (found : nth (step_tag t.path) t.place view ≡ Some x) (index : has_index (next_index t.answers) (step_of x.holds) ≡ true) (op : Op) (asked : attempt_ask fs t ≡ Some (k.Op op)) where
    r : IsRecorded setup fs store n now (live_under w.log) holds.sound.fit t.path tags pos t.place x
    r = recorded setup fs store n now (live_under w.log) holds.sound.fit t.path tags pos t.place x found

    same_index : next_index t.answers ≡ r.index
    same_index = eqb-true (next_index t.answers) r.index (sym (ap (has_index (next_index t.answers)) r.step) ∙ index)

    abbrev st : InvocationState
    st = stands setup fs store t.path r.behind

    same : st ≡ at_point setup fs w holds t
    same = point_same setup fs store n now (live_under w.log) holds.sound.fit t.path tags pos t.place x r t.cursor f.place

    -- what it has answered is what its invocation has, up to this record's operation
    so_far : with_free_answers fs store r.behind t.path st (free_operations_to r.index st) ≡ t.answers
    so_far =
        ap (with_free_answers fs store r.behind t.path st) (let e : free_operations_to r.index st ≡ f.free = (let d = f.decided in let s = ap (λ (st : InvocationState). length st.answers) same in let i = same_index in omega (arith, d, s, i)) in e)
        ∙ more_same setup fs store n now (live_under w.log) holds.sound.fit t.path tags pos t.place x r t.cursor f.place f.free
        ∙ sym f.answers

    -- so what its invocation asks there is what it asks
    one : (ask : Ask) → Asks fs store r.behind t.path st r.index ask → ask ≡ k.Op op
    one ask is =
        let there : asked_at fs t.path (at_point setup fs w holds t) t.answers ≡ Some (k.Op op) = asked_is setup fs w holds t f t.answers (Some (k.Op op)) asked in
        let e : Some ask ≡ Some (k.Op op) = sym is.asked ∙ ap (asked_at fs t.path st) so_far ∙ ap (λ st. asked_at fs t.path st t.answers) same ∙ there in
        let h : ask ≡ k.Op op = cc in h

    step_as : (body : Body) → x.holds ≡ body → ◌≡◌ {A = Option (List ℕ × ℕ)} (step_of body) (Some (t.path, r.index))
    step_as body e = ap step_of (sym e) ∙ r.step

    fits_as : (body : Body) → x.holds ≡ body → MayFollow setup fs store r.behind body
    fits_as body e = subst (MayFollow setup fs store r.behind) e r.fits.0

    -- at the record's own path and index
    asks_op : (q : List ℕ) (i : ℕ) → ◌≡◌ {A = Option (List ℕ × ℕ)} (Some (q, i)) (Some (t.path, r.index)) → (ask : Ask) → Asks fs store r.behind q (stands setup fs store q r.behind) i ask → ask ≡ k.Op op
    asks_op q i e ask is = one ask (subst (λ (s : List ℕ × ℕ). Asks fs store r.behind s.0 (stands setup fs store s.0 r.behind) s.1 ask) (same_step (q, i) (t.path, r.index) e) is)

    is_op : (q : List ℕ) (i : ℕ) → ◌≡◌ {A = Option (List ℕ × ℕ)} (Some (q, i)) (Some (t.path, r.index)) → (asks : Op) → Asks fs store r.behind q (stands setup fs store q r.behind) i (k.Op asks) → op ≡ asks
    is_op q i e asks is = let same : k.Op asks ≡ k.Op op = asks_op q i e (k.Op asks) is in let h : op ≡ asks = cc in h

    tail : Tail (x ∷ r.behind) now
    tail = subst (λ ys. Tail ys now) r.cut (upto_tail x.seq now)

    write_of : (q : List ℕ) (i at : ℕ) (key : List ℕ) (here : Option Value) → x.holds ≡ b.Write q i at key here → IsWriteOf w.store t at key here op
    write_of q i at key here e =
        let may : MayWrite fs store r.behind q (stands setup fs store q r.behind) i at key here = fits_as (b.Write q i at key here) e in
        let step = step_as (b.Write q i at key here) e in
        let own : q ≡ t.path = path_is (q, i) (t.path, r.index) step in
        let name : Name = record { path = t.path; place = at } in
        let is_write : x.holds ≡ b.Write t.path i at key here = e ∙ ap (λ q. b.Write q i at key here) own in
        let place_is : at ≡ t.place =
        write_place setup fs w holds name x r.behind tail (record { among = tail_among x r.behind now tail; index = i; key = key; here = here; is_write = is_write }) ∙ r.place_is in
        record {
          value = may.value;
          asks = is_op q i step (o.Write key may.value) may.asks;
          place_is = place_is;
          kept = (λ u. here_or_named here (record { path = sym own u; place = sym place_is u }) w.store.named) ∙ may.kept;
        }

    join_of : (q : List ℕ) (i ordinal : ℕ) → x.holds ≡ b.Join q i ordinal → IsJoinOf view q ordinal op
    join_of q i ordinal e =
        let may : MayJoin fs store r.behind q (stands setup fs store q r.behind) i ordinal = fits_as (b.Join q i ordinal) e in
        record {
          asks = is_op q i (step_as (b.Join q i ordinal) e) (o.Join ordinal) may.asks;
          outcome = may.outcome;
          result = result_upto (child q ordinal) r.m may.outcome view (ap (result_of (child q ordinal)) r.seen_below ∙ may.result);
        }

    commit_of : (q : List ℕ) (i begin : ℕ) (names : List (List ℕ)) (writes : List (List ℕ × Value)) → x.holds ≡ b.TxnCommit q i begin names writes → IsCommitOf t begin names writes op
    commit_of q i begin names writes e =
        let may : MayCommit fs store r.behind q (stands setup fs store q r.behind) i begin names writes = fits_as (b.TxnCommit q i begin names writes) e in
        let step = step_as (b.TxnCommit q i begin names writes) e in
        let own : q ≡ t.path = path_is (q, i) (t.path, r.index) step in
        record {
          asks = is_op q i step (o.Commit names writes) may.asks;
          begin_is = sym (ap (λ (st : InvocationState). st.transaction) same ∙ f.transaction) ∙ ap (λ q. (stands setup fs store q r.behind).transaction) (sym own) ∙ may.begin_is;
        }

    is_of : (body : Body) → x.holds ≡ body → RecordsOperation fs w.store view t body op
    is_of (b.Read q i key) e = is_op q i (step_as (b.Read q i key) e) (o.Read key) (fits_as (b.Read q i key) e)
    is_of (b.ReadGroup q i keys) e = is_op q i (step_as (b.ReadGroup q i keys) e) (o.ReadGroup keys) (fits_as (b.ReadGroup q i keys) e)
    is_of (b.Write q i at key here) e = write_of q i at key here e
    is_of (b.Spawn q i ordinal name args) e =
        let may : MaySpawn fs store r.behind q (stands setup fs store q r.behind) i ordinal name args = fits_as (b.Spawn q i ordinal name args) e in
        record { function = may.function; asks = is_op q i (step_as (b.Spawn q i ordinal name args) e) (o.Spawn ordinal may.function args) may.asks; found = may.found }
    is_of (b.Join q i ordinal) e = join_of q i ordinal e
    is_of (b.Push q i queue value) e = is_op q i (step_as (b.Push q i queue value) e) (o.Push queue value) (fits_as (b.Push q i queue value) e)
    is_of (b.Pop q i queue) e = is_op q i (step_as (b.Pop q i queue) e) (o.Pop queue) (fits_as (b.Pop q i queue) e)
    is_of (b.TxnBegin q i names) e = is_op q i (step_as (b.TxnBegin q i names) e) (o.Begin names) (fits_as (b.TxnBegin q i names) e)
    is_of (b.TxnCommit q i begin names writes) e = commit_of q i begin names writes e
    is_of (b.Init q) e =
        let may : MayBegin q (stands setup fs store q r.behind) r.behind = fits_as (b.Init q) e in
        let own : q ≡ t.path = path_is (q, 1) (t.path, r.index) (step_as (b.Init q) e) in
        let no_way : true ≡ false = sym (ap (λ (st : InvocationState). st.begun) same ∙ f.begun) ∙ ap (λ q. (stands setup fs store q r.behind).begun) (sym own) ∙ may.new in cc
    is_of (b.Finish q i outcome) e = let no_way : k.Done outcome ≡ k.Op op = asks_op q i (step_as (b.Finish q i outcome) e) (k.Done outcome) (fits_as (b.Finish q i outcome) e) in cc
    is_of (b.Submit q name args) e = let no_way = step_as (b.Submit q name args) e in cc
    is_of (b.SwitchBegin target) e = let no_way = step_as (b.SwitchBegin target) e in cc
    is_of b.SwitchEnd e = let no_way = step_as b.SwitchEnd e in cc
    is_of (b.Trim bound) e = let no_way = step_as (b.Trim bound) e in cc
    is_of (b.TrimTag number bound) e = let no_way = step_as (b.TrimTag number bound) e in cc
    is_of (b.User bytes) e = let no_way = step_as (b.User bytes) e in cc

    its_ask : AdoptsAsked fs w.store view t x op
    its_ask =
        let has = has_answer fs w.store view t x.seq x.holds op (is_of x.holds refl) in
        record {
          step = r.step ∙ ap (λ i. Some (t.path, i)) (sym same_index);
          is_of = is_of x.holds refl;
          answer = has.answer;
          answers = has.answers;
          takes = has.takes;
          given = given_is fs w.store view t x.seq x.holds has.answer has.answers;
        }

pub adopts_its_ask : AdoptsItsAsk
adopts_its_ask setup fs m t place x op good among begun found index asked = its_ask setup fs (world_of m) good.holds t among place begun x found index op asked
