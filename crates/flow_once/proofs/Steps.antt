-- A step of live flow keeps the invariant, and leaves its attempt where the records put it.
use Rattle.std.proofs.Common.{◌≡◌, inr, ℕ, zero, suc, Bool, true, false, cond, leb, List, [], ◌∷◌, length, Option, Some, None, refl, sym, ap, ◌∙◌, subst}
use Rattle.std.specs.Prelude.{◌-◌, unwrap_or}
use Rattle.std.specs.List.{AllByRecursion}
use Rattle.std.proofs.lemmas.Bool.{eqb-true}
use Rattle.lb_base.specs.Path.{IsPath}
use Rattle.lb_base.specs.declared.value.Value.{Value}
use Rattle.lb_base.specs.declared.value.Mode.{Mode}
use Rattle.lb_base.specs.declared.value.Mode.TheVariants.{R, W}
use Rattle.lb_base.specs.declared.value.Outcome.{Outcome}
use Rattle.boki_types.specs.declared.body.Body.{Body}
use Rattle.boki_types.specs.declared.body.Body.TheVariants as b
use Rattle.boki_types.specs.declared.line.Life.{Life}
use Rattle.boki_types.specs.declared.line.Life.TheVariants.{Running, Over, Stopped, Killed}
use Rattle.boki_types.specs.declared.line.FlowLine.{FlowLine}
use Rattle.boki_types.specs.declared.line.FlowLine.TheVariants as l
use Rattle.boki_types.specs.declared.line.StepLine.{StepLine}
use Rattle.boki_types.specs.declared.line.StepLine.TheVariants as idle
use Rattle.boki_types.specs.declared.log.Call.{Call}
use Rattle.boki_types.specs.declared.log.Sent.{Sent}
use Rattle.boki_types.specs.declared.operation.Op.{Op}
use Rattle.boki_types.specs.declared.operation.Op.TheVariants as o
use Rattle.boki_types.specs.declared.operation.Ask.{Ask}
use Rattle.boki_types.specs.declared.operation.Ask.TheVariants as k
use Rattle.boki_types.specs.declared.operation.Answer.TheVariants as a
use Rattle.boki_types.specs.declared.program.Function.{Function}
use Rattle.boki_types.specs.Finding.{find}
use Rattle.boki_model.specs.Live.{LogRecord, Live, meets_condition, live, upto}
use Rattle.boki_model.specs.Reads.{nth}
use Rattle.boki_model.specs.Bodies.{step_tag, step_of, child}
use Rattle.boki_model.specs.Modes.{Modes, result_of, effective_mode, mode_after, modes, apply_to_modes}
use Rattle.boki_model.specs.Writes.{Store, initial_store, last_value_below}
use Rattle.boki_model.proofs.Logs.{upto-upto}
use Rattle.boki_machine.specs.Attempt.{Attempt, moves, sends_record, adopts, answered_with, next_index, call_of}
use Rattle.boki_machine.specs.Decided.{value_or_none}
use Rattle.boki_machine.specs.Step as machine
use Rattle.boki_machine.specs.Step.{records_below, has_index, answers_to, attempt_ask}
use Rattle.exactly_once.specs.Induction.Invariant.{World, SeesCursor, Follows, IsFollowing, position_of, InvariantHolds}
use Rattle.exactly_once.specs.FurtherLaws.Words.{IsAmong}
use Rattle.exactly_once.specs.Induction.StepKeeps.{with_sent, MoveKeeps}
use Rattle.exactly_once.proofs.Log.LiveRecords.{live_under}
use Rattle.exactly_once.proofs.Invocations.SamePlace.{called_upto}
use Rattle.exactly_once.proofs.Invocations.RecordAtPlace.{recorded, none_found, count_steps, tagged_upto}
use Rattle.exactly_once.proofs.OldVersions.StepOrigins.{own_log}
use Rattle.exactly_once.proofs.Attempts.EngineViews.{last_upto}
use Rattle.exactly_once.proofs.Attempts.ActingAttempt.{called_path, following, up_to}
use Rattle.exactly_once.proofs.Attempts.SentIsAsked as sends
use Rattle.exactly_once.proofs.Attempts.AdoptedRecord.{stay_right, life_right, tags, Recorded}
use Rattle.exactly_once.proofs.Attempts.RecordAnswers.{takes_right}
use Rattle.exactly_once.proofs.Attempts.FreeSteps.{read_follows, not_fresh}
use Rattle.exactly_once.proofs.OldVersions.VersionKeeps.{versions_keep}
use Rattle.exactly_once.proofs.Attempts.StepKeeps.{moves_keep}
use Rattle.flow_model.specs.Step.{FlowMove, stays, posts, flow_adopts_join, flow_adopts_operation, flow_adopt_or, flow_read_step, flow_join_step, flow_operation_step, flow_script_step, flow_init_step, flow_step_at_place, flow_step_when_called, flow_step_if_running, flow_step}
use Rattle.flow_once.specs.Laws.{flow_setup}

-- No record switches the mode, and each write has its value.

abbrev pub is_quiet : Body → Bool
is_quiet (b.Write p i place key None) = false
is_quiet (b.SwitchBegin target) = false
is_quiet b.SwitchEnd = false
is_quiet _ = true

abbrev pub AreQuiet : List (Live Body) → Type 0
AreQuiet xs = AllByRecursion (λ x. is_quiet x.holds ≡ true) xs

abbrev pub SendsQuiet : Option (LogRecord Body) → Type 0
SendsQuiet None = Unit {0}
SendsQuiet (Some r) = is_quiet r.holds ≡ true

quiet_switched : (body : Body) (seq : ℕ) (past : List (Live Body)) (m : Modes) → is_quiet body ≡ true → apply_to_modes body seq past m ≡ m
quiet_switched (b.SwitchBegin target) seq past m e = let no_way : false ≡ true = e in cc
quiet_switched b.SwitchEnd seq past m e = let no_way : false ≡ true = e in cc
quiet_switched _ seq past m e = refl

quiet_modes : (xs : List (Live Body)) → AreQuiet xs → modes R xs ≡ record { current = R; pending = None }
quiet_modes [] all = refl
quiet_modes (x ∷ xs) all = quiet_switched x.holds x.seq xs (modes R xs) all.0 ∙ quiet_modes xs all.1

quiet_upto : (c : ℕ) (xs : List (Live Body)) → AreQuiet xs → AreQuiet (upto c xs)
quiet_upto c [] all = tt
quiet_upto c (x ∷ xs) all = elim (leb x.seq c) as (λ t. AreQuiet (cond t (x ∷ xs) (upto c xs))) [ true ↦ all | false ↦ quiet_upto c xs all.1 ]

pub quiet_live : (log : List (LogRecord Body)) → AllByRecursion (λ r. is_quiet r.holds ≡ true) log → AreQuiet (live log)
quiet_live [] all = tt
quiet_live (r ∷ log) all =
    elim (meets_condition r.condition (live log)) as (λ t. AreQuiet (cond t (record { seq = suc (length log); tags = r.tags; holds = r.holds } ∷ live log) (live log)))
    [ true ↦ (all.0, quiet_live log all.1) | false ↦ quiet_live log all.1 ]

-- A step, in any state with a store of objects alone.

module _ (fs : List Function) (objects : List (List ℕ × Value)) (log sent : List (LogRecord Body)) (attempts : List Attempt) (positions : List ℕ) where
  abbrev w : World
  w = record { log = log; sent = sent; store = initial_store objects; attempts = attempts; positions = positions }

  module _ (holds : InvariantHolds flow_setup fs w) (quiet : AreQuiet (live log)) (t : Attempt) (among : IsAmong t attempts) (mode : t.mode ≡ R) where
    abbrev pos : ℕ
    pos = position_of positions t.engine

    abbrev view : List (Live Body)
    view = upto pos (live log)

    abbrev store : Store
    store = initial_store objects

    pub record Right (move : FlowMove) : Type 0 where
      pub holds_then : InvariantHolds flow_setup fs (record w { sent = with_sent move.sends sent })
      pub follows_then : IsFollowing flow_setup fs store [] (length log) (live log) positions move.attempt
      pub mode_then : move.attempt.mode ≡ R
      pub engine_then : move.attempt.engine ≡ t.engine
      pub quiet_then : SendsQuiet move.sends

    is : IsFollowing flow_setup fs store [] (length log) (live log) positions t
    is = following flow_setup fs w holds t among

    stays_right : (line : FlowLine) → Right (stays t line)
    stays_right line = record { holds_then = holds; follows_then = is; mode_then = mode; engine_then = refl; quiet_then = tt }

    moves_right : (m : Attempt) (before : StepLine) (line : FlowLine) → m.mode ≡ R → m.engine ≡ t.engine → MoveKeeps flow_setup fs w (moves m store before) → Right (stays m line)
    moves_right m before line mode_is engine_is keeps = record { holds_then = holds; follows_then = keeps.follows; mode_then = mode_is; engine_then = engine_is; quiet_then = tt }

    posts_right : (body : Body) (line : FlowLine) → is_quiet body ≡ true → MoveKeeps flow_setup fs w (sends_record t store body idle.Idle) → Right (posts t body line)
    posts_right body line quiet_is keeps = record { holds_then = keeps.holds; follows_then = is; mode_then = mode; engine_then = refl; quiet_then = quiet_is }

    module _ (running : t.life ≡ Running) (call : Call) (called : call_of t.path view ≡ Some call) where
      path : IsPath t.path
      path = called_path t.path call log (own_log flow_setup fs w holds) (called_upto flow_setup fs store t.path pos call (live log) called)

      -- Its Init.

      nowhere : Sent
      nowhere = record { shard = 0; local = 0 }

      abbrev begun_with : ℕ → Mode → Attempt
      begun_with seq mode = record (adopts t seq) { mode = mode; function = unwrap_or (find call.function fs) 0; args = call.args }

      begins_right : (at : ℕ) → result_of t.path view ≡ None → t.place ≡ 0 → (o : Option (Live Body)) → nth (step_tag t.path) 0 view ≡ o → Right (flow_init_step fs t at call o)
      begins_right at unended zero_is None found =
          posts_right (b.Init t.path) (l.SendInit (machine.seqnum at)) refl
          (sends.init_right flow_setup fs w holds t among call idle.Idle path zero_is view refl called
          (sym (count_steps t.path view (tagged_upto t.path pos (live log) (tags flow_setup fs w holds t among running path))) ∙ none_found (step_tag t.path) view found))
      begins_right at unended zero_is (Some x) found =
          let step_is : machine.step flow_setup fs store view nowhere t ≡ machine.init_step flow_setup fs t store view nowhere call (Some x) =
          ap (machine.step_if_running flow_setup fs t store view nowhere) running
          ∙ ap (λ r. machine.step_when_called flow_setup fs t store view nowhere r (call_of t.path view)) unended
          ∙ ap (machine.step_when_called flow_setup fs t store view nowhere None) called
          ∙ ap (machine.step_at_place flow_setup fs t store view nowhere call) zero_is
          ∙ ap (machine.init_step flow_setup fs t store view nowhere call) found in
          let keeps : MoveKeeps flow_setup fs w (machine.init_step flow_setup fs t store view nowhere call (Some x)) = subst (MoveKeeps flow_setup fs w) step_is (moves_keep versions_keep flow_setup fs w t nowhere holds among) in
          let mode_is : mode_after R (records_below x.seq view) ≡ R = ap (λ (m : Modes). effective_mode m.pending m.current) (quiet_modes (records_below x.seq view) (quiet_upto (x.seq - 1) view (quiet_upto pos (live log) quiet))) in
          moves_right (begun_with x.seq R) (idle.AdoptInit (machine.seqnum x.seq) R) (l.AdoptInit (machine.seqnum x.seq) R) refl refl
          (subst (λ m. MoveKeeps flow_setup fs w (moves (begun_with x.seq m) store (idle.AdoptInit (machine.seqnum x.seq) m))) mode_is keeps)

      -- Behind its Init.

      module _ (place : ℕ) (begun : t.place ≡ suc place) where
        here : List (Live Body)
        here = upto t.cursor (live log)

        f : Follows flow_setup fs store [] (up_to flow_setup fs w holds t) t
        f = not_fresh flow_setup fs store [] (length log) (live log) positions t place begun is

        reads_right : (key : List ℕ) → attempt_ask fs t ≡ Some (k.Op (o.Read key)) → Right (flow_read_step objects t view key)
        reads_right key asked =
            let seen : upto t.cursor view ≡ upto t.cursor (live log) = upto-upto t.cursor pos (live log) (subst (SeesCursor t.cursor pos) running is.seen) in
            let same : value_or_none (last_value_below key (suc t.cursor) 0 store view) ≡ value_or_none (last_value_below key (suc t.cursor) 0 store (upto t.cursor (live log))) =
            ap value_or_none (last_upto store key t.cursor view ∙ ap (last_value_below key (suc t.cursor) 0 store) seen) in
            record {
              holds_then = holds;
              follows_then = record {
                within = is.within;
                seen = is.seen;
                follows = inr (subst (λ v. Follows flow_setup fs store [] (upto t.cursor (live log)) (answered_with t (a.Value v))) (sym same) (read_follows flow_setup fs store [] (upto t.cursor (live log)) t f key asked mode));
              };
              mode_then = mode;
              engine_then = refl;
              quiet_then = tt;
            }

        joins_right : (at ordinal : ℕ) → attempt_ask fs t ≡ Some (k.Op (o.Join ordinal)) → (result : Option Outcome) → result_of (child t.path ordinal) view ≡ result → Right (flow_join_step t at ordinal result)
        joins_right at ordinal asked None e = stays_right (l.WaitsJoin (child t.path ordinal))
        joins_right at ordinal asked (Some outcome) e =
            posts_right (b.Join t.path (next_index t.answers) ordinal) (l.SendJoin (machine.seqnum at) (child t.path ordinal)) refl
            (sends.join_right flow_setup fs w holds t among path f ordinal outcome pos idle.Idle asked e)

        operates_right : (at : ℕ) (op : Op) → attempt_ask fs t ≡ Some (k.Op op) → Right (flow_operation_step fs objects t view at op)
        operates_right at (o.Read key) asked = reads_right key asked
        operates_right at (o.Write key v) asked =
            posts_right (b.Write t.path (next_index t.answers) t.place key (Some v)) (l.SendWrite (machine.seqnum at) key v) refl
            (sends.write_right flow_setup fs w holds t among path f key v asked (λ in_W. absurd (let no_way : R ≡ W = sym mode ∙ in_W in let h : ⊥ = cc in h)) (Some v) idle.Idle refl)
        operates_right at (o.Spawn ordinal function args) asked =
            posts_right (b.Spawn t.path (next_index t.answers) ordinal (machine.function_name function fs) args) (l.SendSpawn (machine.seqnum at) (child t.path ordinal) function args) refl
            (sends.spawn_right flow_setup fs w holds t among path f ordinal function args idle.Idle asked)
        operates_right at (o.Join ordinal) asked = joins_right at ordinal asked (result_of (child t.path ordinal) view) refl
        operates_right at _ asked = stays_right l.WaitsCall

        asks_right : (at : ℕ) (ask : Option Ask) → attempt_ask fs t ≡ ask → Right (flow_script_step fs objects t view at ask)
        asks_right at None asked = stays_right l.WaitsCall
        asks_right at (Some (k.Done outcome)) asked =
            posts_right (b.Finish t.path (next_index t.answers) outcome) (l.SendFinish (machine.seqnum at) outcome) refl
            (sends.finish_right flow_setup fs w holds t among path f outcome idle.Idle asked)
        asks_right at (Some (k.Op op)) asked = operates_right at op asked

        -- The record at its place.

        abbrev IsThere : Live Body → Type 0
        IsThere x = Recorded flow_setup fs w holds t among running path t.place x

        join_taken : (seq : ℕ) (p : List ℕ) (outcome : Option Outcome) → MoveKeeps flow_setup fs w (machine.adopts_join t store seq p outcome) → Right (flow_adopts_join t seq p outcome)
        join_taken seq p None keeps = stays_right (l.WaitsJoin p)
        join_taken seq p (Some outcome) keeps =
            moves_right (answered_with (adopts t seq) (a.Joined outcome)) (idle.AdoptJoin (machine.seqnum seq) p outcome) (l.AdoptJoin (machine.seqnum seq) p outcome) mode refl keeps

        adopts_right : (x : Live Body) (r : IsThere x) → next_index t.answers ≡ r.index → (body : Body) → x.holds ≡ body → (other : FlowMove) → Right other → Right (flow_adopts_operation t view x.seq body other)
        adopts_right x r index (b.Write p i place key here) e other right =
            moves_right (answered_with (adopts t x.seq) a.Done) (idle.AdoptWrite (machine.seqnum x.seq) key) (l.AdoptWrite (machine.seqnum x.seq) key) mode refl
            (takes_right flow_setup fs w holds t among running path f x r index (b.Write p i place key here) e (moves t store idle.Idle) (stay_right flow_setup fs w holds t among idle.Idle))
        adopts_right x r index (b.Spawn p i ordinal name args) e other right =
            moves_right (answered_with (adopts t x.seq) (a.Spawned ordinal)) (idle.AdoptSpawn (machine.seqnum x.seq) (child p ordinal)) (l.AdoptSpawn (machine.seqnum x.seq) (child p ordinal)) mode refl
            (takes_right flow_setup fs w holds t among running path f x r index (b.Spawn p i ordinal name args) e (moves t store idle.Idle) (stay_right flow_setup fs w holds t among idle.Idle))
        adopts_right x r index (b.Join p i ordinal) e other right =
            join_taken x.seq (child p ordinal) (result_of (child p ordinal) view)
            (takes_right flow_setup fs w holds t among running path f x r index (b.Join p i ordinal) e (moves t store idle.Idle) (stay_right flow_setup fs w holds t among idle.Idle))
        adopts_right x r index _ e other right = right

        takes_it : (ask : Option Ask) (o : Option (Live Body)) → nth (step_tag t.path) t.place view ≡ o → (other : FlowMove) → Right other → Right (flow_adopt_or t view (answers_to t ask o) other)
        takes_it (Some (k.Op op)) (Some x) found other right = by_index (has_index (next_index t.answers) (step_of x.holds)) refl
          where
            r : IsThere x
            r = recorded flow_setup fs store (length log) (live log) (live_under log) holds.sound.fit t.path (tags flow_setup fs w holds t among running path) pos t.place x found

            by_index : (u : Bool) → has_index (next_index t.answers) (step_of x.holds) ≡ u → Right (flow_adopt_or t view (cond u (Some x) None) other)
            by_index false e = right
            by_index true e = adopts_right x r (eqb-true (next_index t.answers) r.index (sym (ap (has_index (next_index t.answers)) r.step) ∙ e)) x.holds refl other right
        takes_it (Some (k.Op op)) None found other right = right
        takes_it (Some (k.Done outcome)) o found other right = right
        takes_it None o found other right = right

      placed_right : (at : ℕ) → result_of t.path view ≡ None → (place : ℕ) → t.place ≡ place → Right (flow_step_at_place fs objects t view at call place)
      placed_right at unended zero is_place = begins_right at unended is_place (nth (step_tag t.path) 0 view) refl
      placed_right at unended (suc place) is_place =
          takes_it place is_place (attempt_ask fs t) (nth (step_tag t.path) t.place view) refl (flow_script_step fs objects t view at (attempt_ask fs t)) (asks_right place is_place at (attempt_ask fs t) refl)

    with_call_right : (at : ℕ) → t.life ≡ Running → (result : Option Outcome) (call : Option Call) → result_of t.path view ≡ result → call_of t.path view ≡ call → Right (flow_step_when_called fs objects t view at result call)
    with_call_right at running (Some outcome) call e called =
        moves_right (record t { life = Over }) (idle.Over outcome) (l.Over outcome) mode refl (life_right flow_setup fs w holds t among Over (idle.Over outcome) (λ cursor position. tt))
    with_call_right at running None None e called = stays_right l.WaitsCall
    with_call_right at running None (Some call) e called = placed_right running call called at e t.place refl

    life_is : (at : ℕ) (life : Life) → t.life ≡ life → Right (flow_step_if_running fs objects t view at life)
    life_is at Running e = with_call_right at e (result_of t.path view) (call_of t.path view) refl refl
    life_is at Over e = stays_right l.WaitsCall
    life_is at Stopped e = stays_right l.WaitsCall
    life_is at Killed e = stays_right l.WaitsCall

    pub step_right : (at : ℕ) → Right (flow_step fs objects view at t)
    step_right at = life_is at t.life refl
