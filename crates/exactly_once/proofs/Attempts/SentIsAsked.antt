-- The record that an attempt sends was asked.
use Rattle.std.proofs.Common.{◌≡◌, ◌⊎◌, inl, inr, ℕ, suc, ◌<◌, ◌≤◌, Bool, true, false, leb, ltb, ◌&&◌, List, [], ◌∷◌, length, Option, Some, None, refl, sym, ap, ◌∙◌, subst, arith}
use Rattle.std.specs.Prelude.{is_some, unwrap_or}
use Rattle.std.proofs.lemmas.Bool.{and_parts, and_from, ltb-true, lt-ltb, le-leb}
use Rattle.lb_base.specs.Path.{IsPath, is_path, is_ordinal, is_request, are_ordinals}
use Rattle.lb_base.specs.declared.value.Value.{Value}
use Rattle.lb_base.specs.declared.value.Mode.{Mode}
use Rattle.lb_base.specs.declared.value.Mode.TheVariants.{R, W, T}
use Rattle.lb_base.specs.declared.value.Outcome.{Outcome}
use Rattle.boki_types.specs.declared.body.Body.{Body}
use Rattle.boki_types.specs.declared.body.Body.TheVariants as b
use Rattle.boki_types.specs.declared.line.StepLine.{StepLine}
use Rattle.boki_types.specs.declared.log.Call.{Call}
use Rattle.boki_types.specs.declared.operation.Op.TheVariants as o
use Rattle.boki_types.specs.declared.operation.Ask.{Ask}
use Rattle.boki_types.specs.declared.operation.Ask.TheVariants as k
use Rattle.boki_types.specs.declared.plan.Setup.{Setup}
use Rattle.boki_types.specs.declared.program.Function.{Function}
use Rattle.boki_model.specs.Live.{Live, upto}
use Rattle.boki_model.specs.Bodies.{child}
use Rattle.boki_model.specs.Modes.{result_of}
use Rattle.boki_model.specs.Writes.{fence, version_value, value_under_name, here_or_named}
use Rattle.boki_machine.specs.Attempt.{Attempt, sends_record, step_record, call_of, next_index}
use Rattle.boki_machine.specs.Decided.{InvocationState, asked_at}
use Rattle.boki_machine.specs.Step.{attempt_ask, function_name}
use Rattle.exactly_once.specs.Induction.SoundLogs.{MayBegin, AllMayFollow}
use Rattle.exactly_once.specs.FurtherLaws.StepRecords.{place_condition, step_seqnums}
use Rattle.exactly_once.specs.Induction.Invariant.{World, records, MayLog, AsksLogged, IsNext, IsStepRecord, Follows, IsSentRecord, KnowsStored, KnowsLate, InvariantHolds}
use Rattle.exactly_once.specs.FurtherLaws.Words.{values_only, IsAmong}
use Rattle.exactly_once.specs.Induction.StepKeeps.{MoveKeeps}
use Rattle.exactly_once.proofs.Invocations.NextRecord.{stands}
use Rattle.exactly_once.proofs.Invocations.SamePlace.{place_is, fit_upto}
use Rattle.exactly_once.proofs.Invocations.RecordAtPlace.{none_begun}
use Rattle.exactly_once.proofs.Invariant.MicroSteps.{steps_keep}
use Rattle.exactly_once.proofs.Invariant.QuietEvents.{following_as}
use Rattle.exactly_once.proofs.Asking.ScriptAsks.{IsAsking, IsSpawn, asking}
use Rattle.exactly_once.proofs.Asking.OpenTransactions.{commit_open}
use Rattle.exactly_once.proofs.Attempts.ActingAttempt.{result_upto, is_plain, plain_logs, no_write, engine_at, within_log, following, up_to, at_point, fit_here, asked_is, logs}

path_length : (p : List ℕ) → IsPath p → length p ≤ 4
path_length [] path = omega arith
path_length (n ∷ p) path = let lt = ltb-true (length p) 4 (and_parts (is_request n && are_ordinals p) (ltb (length p) 4) path).1 in omega (arith, lt)

has_some : (x : Option ℕ) → is_some x ≡ true → x ≡ Some (unwrap_or x 0)
has_some None is = let no_way : false ≡ true = is in cc
has_some (Some n) is = refl

-- what it knows of a write that it asks
stored_value : (fs : List Function) (w : World) (a : Attempt) (st : InvocationState) (key : List ℕ) (value : Value) (known : Bool) → known ≡ true → KnowsStored fs (values_only w.store) a.path st a.answers known → asked_at fs a.path st a.answers ≡ Some (k.Op (o.Write key value)) → value_under_name (record { path = a.path; place = st.place }) w.store.named ≡ Some value
stored_value fs w a st key value false is knows asked = let no_way : false ≡ true = is in cc
stored_value fs w a st key value true is knows asked =
    let same : Some (k.Op (o.Write knows.0 knows.1)) ≡ Some (k.Op (o.Write key value)) = sym knows.2 ∙ asked in
    let e : knows.1 ≡ value = cc in knows.3 ∙ ap Some e

record IsLate (w : World) (st : InvocationState) (free : ℕ) (key : List ℕ) : Type 0 where
  pub absent : version_value key st.cursor (suc free) w.store.versions ≡ None
  pub late : suc st.cursor ≤ fence key w.store.fences

late_write : (fs : List Function) (w : World) (a : Attempt) (st : InvocationState) (free : ℕ) (key : List ℕ) (value : Value) (known : Bool) → known ≡ true → KnowsLate fs (values_only w.store) w.store.fences a.path st a.answers free known → asked_at fs a.path st a.answers ≡ Some (k.Op (o.Write key value)) → IsLate w st free key
late_write fs w a st free key value false is knows asked = let no_way : false ≡ true = is in cc
late_write fs w a st free key value true is knows asked =
    let same : Some (k.Op (o.Write knows.0 knows.1)) ≡ Some (k.Op (o.Write key value)) = sym knows.3 ∙ asked in
    let e : knows.0 ≡ key = cc in
    subst (IsLate w st free) e (record { absent = knows.4; late = knows.5 })

module _ (setup : Setup) (fs : List Function) (w : World) (holds : InvariantHolds setup fs w) (a : Attempt) (among : IsAmong a w.attempts) where
  send_right : (body : Body) (line : StepLine) → IsSentRecord setup fs (values_only w.store) w.store.fences (length w.log) (records w) (step_record a.path a.place body) → MoveKeeps setup fs w (sends_record a w.store body line)
  send_right body line asked = record {
    holds = (steps_keep setup fs w holds).send (step_record a.path a.place body) asked;
    follows =
        let is = following setup fs w holds a among in
        following_as setup fs (values_only w.store) w.store.fences (length w.log) (records w) w.positions a a.life true is.seen is;
  }

  module _ (path : IsPath a.path) (f : Follows setup fs (values_only w.store) w.store.fences (up_to setup fs w holds a) a) where
    abbrev here : List (Live Body)
    here = up_to setup fs w holds a

    abbrev st : InvocationState
    st = at_point setup fs w holds a

    abbrev Next : Body → Type 0
    Next body = IsNext setup fs (values_only w.store) w.store.fences here (records w) body

    step_here : (body : Body) → Next body → IsStepRecord setup fs (values_only w.store) w.store.fences (length w.log) (records w) a.path (place_condition a.path a.place) body
    step_here body next = record { c = a.cursor; within = (following setup fs w holds a among).within; place = ap (place_condition a.path) (sym f.place); next = next }

    -- an operation that it asks
    abbrev LogsIt : Ask → Type 0
    LogsIt ask = AsksLogged fs (values_only w.store) w.store.fences here a.path st (next_index a.answers) ask

    plain : (ask : Ask) → is_plain ask ≡ true → attempt_ask fs a ≡ Some ask → LogsIt ask
    plain ask is asked = logs setup fs w holds a f ask asked (plain_logs w.store.fences a.mode a.cursor ask is) (λ mode key value e. absurd (no_write ask is key value e))

    pub push_right : (queue : List ℕ) (value : Value) (line : StepLine) → attempt_ask fs a ≡ Some (k.Op (o.Push queue value)) → MoveKeeps setup fs w (sends_record a w.store (b.Push a.path (next_index a.answers) queue value) line)
    push_right queue value line asked =
        let body = b.Push a.path (next_index a.answers) queue value in
        send_right body line (record { own = record { tags = refl; paths = path }; kind = step_here body (plain (k.Op (o.Push queue value)) refl asked) })

    pub pop_right : (queue : List ℕ) (line : StepLine) → attempt_ask fs a ≡ Some (k.Op (o.Pop queue)) → MoveKeeps setup fs w (sends_record a w.store (b.Pop a.path (next_index a.answers) queue) line)
    pop_right queue line asked =
        let body = b.Pop a.path (next_index a.answers) queue in
        send_right body line (record { own = record { tags = refl; paths = path }; kind = step_here body (plain (k.Op (o.Pop queue)) refl asked) })

    pub begin_right : (names : List (List ℕ)) (line : StepLine) → attempt_ask fs a ≡ Some (k.Op (o.Begin names)) → MoveKeeps setup fs w (sends_record a w.store (b.TxnBegin a.path (next_index a.answers) names) line)
    begin_right names line asked =
        let body = b.TxnBegin a.path (next_index a.answers) names in
        send_right body line (record { own = record { tags = refl; paths = path }; kind = step_here body (plain (k.Op (o.Begin names)) refl asked) })

    pub finish_right : (outcome : Outcome) (line : StepLine) → attempt_ask fs a ≡ Some (k.Done outcome) → MoveKeeps setup fs w (sends_record a w.store (b.Finish a.path (next_index a.answers) outcome) line)
    finish_right outcome line asked =
        let body = b.Finish a.path (next_index a.answers) outcome in
        send_right body line (record { own = record { tags = refl; paths = path }; kind = step_here body (plain (k.Done outcome) refl asked) })

    pub join_right : (ordinal : ℕ) (outcome : Outcome) (pos : ℕ) (line : StepLine) → attempt_ask fs a ≡ Some (k.Op (o.Join ordinal)) → result_of (child a.path ordinal) (upto pos (records w)) ≡ Some outcome → MoveKeeps setup fs w (sends_record a w.store (b.Join a.path (next_index a.answers) ordinal) line)
    join_right ordinal outcome pos line asked result =
        let body = b.Join a.path (next_index a.answers) ordinal in
        send_right body line (record { own = record { tags = refl; paths = path }; kind = step_here body (plain (k.Op (o.Join ordinal)) refl asked, (outcome, result_upto (child a.path ordinal) pos outcome (records w) result)) })

    pub spawn_right : (ordinal function : ℕ) (args : List Value) (line : StepLine) → attempt_ask fs a ≡ Some (k.Op (o.Spawn ordinal function args)) → MoveKeeps setup fs w (sends_record a w.store (b.Spawn a.path (next_index a.answers) ordinal (function_name function fs) args) line)
    spawn_right ordinal function args line asked =
        let body = b.Spawn a.path (next_index a.answers) ordinal (function_name function fs) args in
        let asks : IsAsking fs (length a.path) a.function a.args a.answers (o.Spawn ordinal function args) = asking (length a.path) a.function a.args fs a.answers (o.Spawn ordinal function args) asked in
        let right : IsSpawn fs (length a.path) asks.n ordinal function = asks.right in
        let few : is_ordinal ordinal ≡ true =
        and_from (ltb 0 ordinal) (ltb ordinal 4096) (lt-ltb 0 ordinal (let e = right.ordinal_is in omega (arith, e))) (lt-ltb ordinal 4096 (let e = right.ordinal_is in let le = asks.below in let no : ordinal ≡ 4096 → ⊥ = right.few in omega (arith, e, le, no))) in
        let shallow : leb (length a.path) 3 ≡ true = le-leb (length a.path) 3 (let le = path_length a.path path in let no : length a.path ≡ 4 → ⊥ = right.shallow in omega (arith, le, no)) in
        send_right body line (record {
          own = record { tags = refl; paths = and_from (is_path a.path && leb (length a.path) 3) (is_ordinal ordinal) (and_from (is_path a.path) (leb (length a.path) 3) path shallow) few };
          kind = step_here body (function, right.found, plain (k.Op (o.Spawn ordinal function args)) refl asked);
        })

    pub commit_right : (names : List (List ℕ)) (writes : List (List ℕ × Value)) (line : StepLine) → attempt_ask fs a ≡ Some (k.Op (o.Commit names writes)) → MoveKeeps setup fs w (sends_record a w.store (b.TxnCommit a.path (next_index a.answers) (unwrap_or a.transaction 0) names writes) line)
    commit_right names writes line asked =
        let body = b.TxnCommit a.path (next_index a.answers) (unwrap_or a.transaction 0) names writes in
        let ask = k.Op (o.Commit names writes) in
        let there : is_some st.transaction ≡ true =
        commit_open setup fs (values_only w.store) a.path here f.free names writes (fit_here setup fs w holds a) (ap (asked_at fs a.path st) (sym f.answers) ∙ asked_is setup fs w holds a f a.answers (Some ask) asked) in
        let begin_is : st.transaction ≡ Some (unwrap_or a.transaction 0) = f.transaction ∙ has_some a.transaction (ap is_some (sym f.transaction) ∙ there) in
        let log_it : LogsIt ask = plain ask refl asked in
        send_right body line (record { own = record { tags = refl; paths = path }; kind = step_here body (record { asks = log_it.asks; begin_is = begin_is }, log_it) })

    -- reads where they aren't free
    abbrev pub IsNotR : Mode → Type 0
    IsNotR mode = (mode ≡ T) ⊎ (mode ≡ W)

    logs_read : (ask : Ask) → MayLog w.store.fences T a.cursor ask → MayLog w.store.fences W a.cursor ask → IsNotR a.mode → MayLog w.store.fences a.mode a.cursor ask
    logs_read ask in_T in_W (inl e) = subst (λ m. MayLog w.store.fences m a.cursor ask) (sym e) in_T
    logs_read ask in_T in_W (inr e) = subst (λ m. MayLog w.store.fences m a.cursor ask) (sym e) in_W

    pub read_right : (key : List ℕ) (line : StepLine) → attempt_ask fs a ≡ Some (k.Op (o.Read key)) → IsNotR a.mode → MoveKeeps setup fs w (sends_record a w.store (b.Read a.path (next_index a.answers) key) line)
    read_right key line asked mode =
        let body = b.Read a.path (next_index a.answers) key in
        let ask = k.Op (o.Read key) in
        send_right body line (record {
          own = record { tags = refl; paths = path };
          kind = step_here body (logs setup fs w holds a f ask asked (logs_read ask tt tt mode) (λ in_W q value e. absurd (let no_way : ⊥ = cc in no_way)));
        })

    pub read_all_right : (keys : List (List ℕ)) (line : StepLine) → attempt_ask fs a ≡ Some (k.Op (o.ReadGroup keys)) → IsNotR a.mode → MoveKeeps setup fs w (sends_record a w.store (b.ReadGroup a.path (next_index a.answers) keys) line)
    read_all_right keys line asked mode =
        let body = b.ReadGroup a.path (next_index a.answers) keys in
        let ask = k.Op (o.ReadGroup keys) in
        send_right body line (record {
          own = record { tags = refl; paths = path };
          kind = step_here body (logs setup fs w holds a f ask asked (logs_read ask tt tt mode) (λ in_W q value e. absurd (let no_way : ⊥ = cc in no_way)));
        })

    -- a write where it isn't free: in the modes R and T, and in mode W where it is late
    module _ (key : List ℕ) (value : Value) (asked : attempt_ask fs a ≡ Some (k.Op (o.Write key value))) (late : a.mode ≡ W → a.late ≡ true) where
      asked_here : asked_at fs a.path st a.answers ≡ Some (k.Op (o.Write key value))
      asked_here = asked_is setup fs w holds a f a.answers (Some (k.Op (o.Write key value))) asked

      is_late : a.mode ≡ W → IsLate w st f.free key
      is_late mode = late_write fs w a st f.free key value a.late (late mode) f.late asked_here

      may_write : (mode : Mode) → a.mode ≡ mode → MayLog w.store.fences mode a.cursor (k.Op (o.Write key value))
      may_write R e = tt
      may_write T e = tt
      may_write W e = let h = (is_late e).late in let c = f.cursor in omega (arith, h, c)

      pub logs_write : LogsIt (k.Op (o.Write key value))
      logs_write =
          logs setup fs w holds a f (k.Op (o.Write key value)) asked (may_write a.mode refl)
          (λ mode q v e. let same : key ≡ q = cc in ap (λ c. version_value q c (suc f.free) w.store.versions) (sym f.cursor) ∙ subst (λ q. version_value q st.cursor (suc f.free) w.store.versions ≡ None) same (is_late mode).absent)

      pub write_right : (inlined : Option Value) (line : StepLine) → here_or_named inlined (record { path = a.path; place = a.place }) w.store.named ≡ Some value → MoveKeeps setup fs w (sends_record a w.store (b.Write a.path (next_index a.answers) a.place key inlined) line)
      write_right inlined line kept =
          let body = b.Write a.path (next_index a.answers) a.place key inlined in
          send_right body line (record {
            own = record { tags = refl; paths = path };
            kind = step_here body (record { value = value; asks = logs_write.asks; kept = kept }, sym f.place, logs_write);
          })

      -- whose value is stored
      pub stored_right : (line : StepLine) → a.stored ≡ true → MoveKeeps setup fs w (sends_record a w.store (b.Write a.path (next_index a.answers) a.place key None) line)
      stored_right line stored = write_right None line (ap (λ place. value_under_name (record { path = a.path; place = place }) w.store.named) (sym f.place) ∙ stored_value fs w a st key value a.stored stored f.stored asked_here)

  -- an Init, where none is seen
  pub init_right : (call : Call) (line : StepLine) → IsPath a.path → a.place ≡ 0 → (view : List (Live Body)) → view ≡ upto (engine_at setup fs w holds a) (records w) → call_of a.path view ≡ Some call → length (step_seqnums a.path view) ≡ 0 → MoveKeeps setup fs w (sends_record a w.store (b.Init a.path) line)
  init_right call line path zero_is view is called none =
      let fit : AllMayFollow setup fs (values_only w.store) view = subst (AllMayFollow setup fs (values_only w.store)) (sym is) (fit_upto setup fs (values_only w.store) a.path (engine_at setup fs w holds a) (records w) holds.sound.fit) in
      let at_zero : (stands setup fs (values_only w.store) a.path view).place ≡ 0 = place_is setup fs (values_only w.store) a.path view fit ∙ none in
      let unbegun : (stands setup fs (values_only w.store) a.path view).begun ≡ false =
      at (stands setup fs (values_only w.store) a.path view).begun refl (λ begun. let some : 0 < length (step_seqnums a.path view) = none_begun setup fs (values_only w.store) a.path view fit begun in let no_way : ⊥ = omega (arith, some, none) in no_way) in
      send_right (b.Init a.path) line (record {
        own = record { tags = refl; paths = path };
        kind = record {
          c = engine_at setup fs w holds a;
          within = within_log setup fs w holds a;
          place = ap (place_condition a.path) (zero_is ∙ sym at_zero ∙ ap (λ view. (stands setup fs (values_only w.store) a.path view).place) is);
          next = subst (λ view. MayBegin a.path (stands setup fs (values_only w.store) a.path view) view) is (record { call = call; called = called; new = unbegun });
        };
      })
    where
      at : (t : Bool) → (stands setup fs (values_only w.store) a.path view).begun ≡ t → ((stands setup fs (values_only w.store) a.path view).begun ≡ true → ⊥) → t ≡ false
      at false e never = refl
      at true e never = absurd (never e)
