-- The cases of a step, in the order of the step table.
use Rattle.std.proofs.Common.{◌≡◌, ◌∙◌, inl, ℕ, suc, ◌-◌, ◌<◌, ◌≤◌, Bool, true, false, cond, List, Option, Some, None, option_map, is_some, refl, sym, ap, subst, arith}
use Rattle.std.specs.Option.{option_and_then}
use Rattle.boki_types.specs.declared.body.Body.{Body}
use Rattle.boki_types.specs.declared.line.Life.{Life}
use Rattle.boki_types.specs.declared.line.Life.TheVariants as l
use Rattle.boki_types.specs.declared.line.StepLine.{StepLine}
use Rattle.boki_types.specs.declared.line.StepLine.TheVariants as line
use Rattle.boki_types.specs.declared.log.Call.{Call}
use Rattle.boki_types.specs.declared.log.Sent.{Sent}
use Rattle.boki_types.specs.declared.operation.Ask.{Ask}
use Rattle.boki_types.specs.declared.operation.Ask.TheVariants as k
use Rattle.boki_types.specs.declared.operation.Op.{Op}
use Rattle.boki_types.specs.declared.plan.Setup.{Setup}
use Rattle.boki_types.specs.declared.program.Function.{Function}
use Rattle.lb_base.specs.declared.value.Outcome.{Outcome}
use Rattle.lb_base.specs.declared.value.Seqnum.{Seqnum}
use Rattle.boki_model.specs.Bodies.{step_tag, step_of}
use Rattle.boki_model.specs.Live.{Live}
use Rattle.boki_model.specs.Modes.{result_of}
use Rattle.boki_model.specs.Reads.{nth}
use Rattle.boki_model.specs.Writes.{Store}
use Rattle.boki_machine.specs.Attempt.{Attempt, Move, moves, call_of, next_index}
use Rattle.boki_machine.specs.Step.{is_running, step_if_running, step_when_called, step_at_place, unless_waiting, attempt_ask, answers_to, adopt_or, has_index}
use Rattle.log_folds.proofs.ByTag.{of_tag}
use Rattle.fold_cache.proofs.Found.{below_among, view_falls}
use Rattle.machine_laws.specs.Ends.{finish_in, last_tagged}
use Rattle.attempt_state.specs.declared.progress.Progress.{Progress}
use Rattle.attempt_state.specs.declared.state.AttemptState.{AttemptState}
use Rattle.attempt_state.specs.Attempts.{AttemptStandsFor, HasScript}
use Rattle.attempt_state.specs.Deciding.{asks_operation, is_operation}
use Rattle.book_api.specs.Books.{position, next_sent}
use Rattle.step_log.specs.Sound.{view, seqnum_and_body}
use Rattle.flow_parts.specs.declared.parts.Parts.{Parts}
use Rattle.boki_flow.specs.Flow.{FlowStandsFor, IsMoved}
use Rattle.boki_flow.specs.Arms.{Always, Runs, HasBegun, FindsAnswer, IsCalled, MovesBy, CutShortBy, step_move, running_move, unended_move, next_move, script_move, init_move}
use Rattle.boki_flow.proofs.Leading.{Leads}
use Rattle.boki_flow.proofs.Standing.{Asks, asking}

-- which life it is
pub runs_by : (life : Life) → is_running life ≡ true → life ≡ l.Running
runs_by l.Running e = refl
runs_by l.Over e = let no_way : false ≡ true = e in cc
runs_by l.Stopped e = let no_way : false ≡ true = e in cc
runs_by l.Killed e = let no_way : false ≡ true = e in cc

idles_by : (setup : Setup) (fs : List Function) (a : Attempt) (store : Store) (seen : List (Live Body)) (at : Sent) (life : Life) → is_running life ≡ false
    → moves a store line.Idle ≡ step_if_running setup fs a store seen at life
idles_by setup fs a store seen at l.Running e = absurd (let no_way : true ≡ false = e in cc)
idles_by setup fs a store seen at l.Over e = refl
idles_by setup fs a store seen at l.Stopped e = refl
idles_by setup fs a store seen at l.Killed e = refl

pub none_by : {X : Type 0} (o : Option X) → is_some o ≡ false → o ≡ None
none_by None e = refl
none_by (Some x) e = let no_way : true ≡ false = e in cc

-- the record at a place answers what is asked where it has the next operation's index
answers_by : (a : Attempt) (ask : Ask) (there : Option (Live Body)) → is_operation ask ≡ true
    → has_index (next_index a.answers) (option_and_then (λ (x : Live Body). step_of x.holds) there) ≡ is_some (answers_to a (Some ask) there)
answers_by a (k.Op op) None is = refl
answers_by a (k.Op op) (Some x) is = at (has_index (next_index a.answers) (step_of x.holds))
  where
    at : (b : Bool) → b ≡ is_some (cond b (Some x) None)
    at true = refl
    at false = refl
answers_by a (k.Done outcome) there is = absurd (let no_way : false ≡ true = is in cc)

ended_by : (a : Attempt) (ask : Ask) (there : Option (Live Body)) → is_operation ask ≡ false → false ≡ is_some (answers_to a (Some ask) there)
ended_by a (k.Op op) there is = let no_way : true ≡ false = is in absurd (cc)
ended_by a (k.Done outcome) there is = refl

-- where a move leaves all as it is
pub stays : (setup : Setup) (fs : List Function) (store : Store) (a : Attempt) (parts : Parts) (kept : AttemptState) (told : StepLine)
    → FlowStandsFor setup fs store a parts kept → IsMoved setup fs a.engine (moves a store told) parts parts kept told
stays setup fs store a parts kept told stands = record { line_is = refl; attempt = stands.attempt; parts = stands.parts; sent = refl }

-- and where memory ran out before anything changed
pub cut_before : (P : Setup → Store → Attempt → Type 0) (move : Setup → Store → Attempt → Move) (fs : List Function) (parts : Parts) (kept : AttemptState)
    → CutShortBy P move fs parts parts kept
cut_before P move fs parts kept setup store a stands p = record { book = refl; parts = inl stands.parts }

module _ (fs : List Function) (parts : Parts) (kept : AttemptState) where
  pub life_is : (a : Attempt) → AttemptStandsFor fs a kept → is_running a.life ≡ is_running kept.progress.life
  life_is a stands = sym (ap (λ (p : Progress). is_running p.life) stands.progress)

  -- It doesn't run.
  pub idles : is_running kept.progress.life ≡ false → MovesBy Always (step_move fs parts) fs parts parts kept kept line.Idle
  idles e setup store a stands p =
      subst (λ (move : Move). IsMoved setup fs a.engine move parts parts kept line.Idle)
      (idles_by setup fs a store (view parts.book a.engine) (next_sent parts.book a.engine) a.life (life_is a stands.attempt ∙ e))
      (stays setup fs store a parts kept line.Idle stands)

  -- It runs.
  pub run : is_running kept.progress.life ≡ true → Leads Always Runs (step_move fs parts) (running_move fs parts) fs parts kept
  run e = record {
    needs = λ setup store a stands p. runs_by a.life (life_is a stands.attempt ∙ e);
    same = λ setup store a stands p.
        sym (ap (step_if_running setup fs a store (view parts.book a.engine) (next_sent parts.book a.engine)) (runs_by a.life (life_is a stands.attempt ∙ e)));
  }

  -- The end of its invocation is in the last record of its step log that its engine sees.
  abbrev Ended : Option Outcome → Type 0
  Ended outcome = outcome ≡ finish_in kept.progress.path (last_tagged (step_tag kept.progress.path) (view parts.book kept.progress.engine))

  pub result_is : (setup : Setup) (store : Store) (a : Attempt) (outcome : Option Outcome) → FlowStandsFor setup fs store a parts kept → Ended outcome
      → result_of a.path (view parts.book a.engine) ≡ outcome
  result_is setup store a outcome stands e =
      (stands.can.sees.ends a.path).result
      ∙ sym (e ∙ ap (λ (p : Progress). finish_in p.path (last_tagged (step_tag p.path) (view parts.book p.engine))) stands.attempt.progress)

  -- It is over.
  pub overs : (outcome : Outcome) (after : AttemptState) → Ended (Some outcome)
      → ((fs : List Function) (a : Attempt) → AttemptStandsFor fs a kept → AttemptStandsFor fs (record a { life = l.Over }) after)
      → MovesBy Runs (running_move fs parts) fs parts parts kept after (line.Over outcome)
  overs outcome after e ends setup store a stands p =
      let at = next_sent parts.book a.engine in
      let seen = view parts.book a.engine in
      subst (λ (move : Move). IsMoved setup fs a.engine move parts parts after (line.Over outcome))
      (sym (ap (λ (found : Option Outcome). step_when_called setup fs a store seen at found (call_of a.path seen)) (result_is setup store a (Some outcome) stands e)))
      (record { line_is = refl; attempt = ends fs a stands.attempt; parts = stands.parts; sent = refl })

  -- It isn't.
  pub unended : Ended None → Leads Runs Runs (running_move fs parts) (unended_move fs parts) fs parts kept
  unended e = record {
    needs = λ setup store a stands p. p;
    same = λ setup store a stands p.
        let at = next_sent parts.book a.engine in
        let seen = view parts.book a.engine in
        sym (ap (λ (found : Option Outcome). step_when_called setup fs a store seen at found (call_of a.path seen)) (result_is setup store a None stands e));
  }

  pub place_is : (a : Attempt) → AttemptStandsFor fs a kept → a.place ≡ kept.progress.place
  place_is a stands = sym (ap (λ (p : Progress). p.place) stands.progress)

  -- It has adopted its Init, and so it sees its call.
  pub begun : (setup : Setup) (store : Store) (a : Attempt) → FlowStandsFor setup fs store a parts kept → 0 < kept.progress.place → a.life ≡ l.Running → HasScript a
  begun setup store a stands lt runs =
      let is = place_is a stands.attempt in
      record { runs = runs; before = a.place - 1; begun = omega arith }

  pub goes_on : 0 < kept.progress.place → Leads Runs HasBegun (unended_move fs parts) (next_move fs parts) fs parts kept
  goes_on lt = record {
    needs = λ setup store a stands runs. begun setup store a stands lt runs;
    same = λ setup store a stands runs.
        let script = begun setup store a stands lt runs in
        let sees = stands.can.sees.called script.before runs script.begun in
        let at = next_sent parts.book a.engine in
        let seen = view parts.book a.engine in
        sym (ap (λ (call : Option Call). step_when_called setup fs a store seen at None call) sees.called
        ∙ ap (step_at_place setup fs a store seen at sees.call) script.begun);
  }

  -- Its call is looked for before.
  abbrev Called : Option Call → Type 0
  Called call = call ≡ call_of kept.progress.path (view parts.book kept.progress.engine)

  call_is : (a : Attempt) (call : Option Call) → AttemptStandsFor fs a kept → Called call → call_of a.path (view parts.book a.engine) ≡ call
  call_is a call stands e = sym (e ∙ ap (λ (p : Progress). call_of p.path (view parts.book p.engine)) stands.progress)

  pub waits_call : Called None → MovesBy Runs (unended_move fs parts) fs parts parts kept kept line.WaitsCall
  waits_call e setup store a stands runs =
      let at = next_sent parts.book a.engine in
      let seen = view parts.book a.engine in
      subst (λ (move : Move). IsMoved setup fs a.engine move parts parts kept line.WaitsCall)
      (sym (ap (λ (call : Option Call). step_when_called setup fs a store seen at None call) (call_is a None stands.attempt e)))
      (stays setup fs store a parts kept line.WaitsCall stands)

  pub begins : (call : Call) → kept.progress.place ≡ 0 → Called (Some call) → Leads Runs (λ setup store a. IsCalled parts call a) (unended_move fs parts) (init_move fs parts call) fs parts kept
  begins call none e = record {
    needs = λ setup store a stands runs.
        record { runs = runs; place = place_is a stands.attempt ∙ none; called = call_is a (Some call) stands.attempt e };
    same = λ setup store a stands runs.
        let at = next_sent parts.book a.engine in
        let seen = view parts.book a.engine in
        sym (ap (λ (found : Option Call). step_when_called setup fs a store seen at None found) (call_is a (Some call) stands.attempt e)
        ∙ ap (step_at_place setup fs a store seen at call) (place_is a stands.attempt ∙ none));
  }

  -- It has adopted its Init. Whether there is an answer is known for each attempt that it stands for.
  abbrev Answers : Bool → Type 0
  Answers good = (fs : List Function) (setup : Setup) (store : Store) (a : Attempt) → FlowStandsFor setup fs store a parts kept → HasScript a
      → good ≡ is_some (answers_to a (attempt_ask fs a) (nth (step_tag a.path) a.place (view parts.book a.engine)))

  pub adopts : (good : Bool) → good ≡ true → Answers good → Leads HasBegun (FindsAnswer fs parts) (next_move fs parts) (next_move fs parts) fs parts kept
  adopts good e answers = record {
    needs = λ setup store a stands script. (script, sym (answers fs setup store a stands script) ∙ e);
    same = λ setup store a stands script. refl;
  }

  module _ (good : Bool) (e : good ≡ false) (answers : Answers good) where
    none_there : (setup : Setup) (store : Store) (a : Attempt) → FlowStandsFor setup fs store a parts kept → HasScript a
        → answers_to a (attempt_ask fs a) (nth (step_tag a.path) a.place (view parts.book a.engine)) ≡ None
    none_there setup store a stands script = none_by _ (sym (answers fs setup store a stands script) ∙ e)

    waiting_is : (a : Attempt) (w : Bool) → AttemptStandsFor fs a kept → kept.progress.waiting ≡ w → a.waiting ≡ w
    waiting_is a w stands is = sym (ap (λ (p : Progress). p.waiting) stands.progress) ∙ is

    by_waiting : (setup : Setup) (store : Store) (a : Attempt) (w : Bool) → FlowStandsFor setup fs store a parts kept → HasScript a → kept.progress.waiting ≡ w
        → unless_waiting w a store (script_move fs parts setup store a) ≡ next_move fs parts setup store a
    by_waiting setup store a w stands script is =
        sym (ap (λ (found : Option (Live Body)). adopt_or a store (view parts.book a.engine) found (unless_waiting a.waiting a store (script_move fs parts setup store a))) (none_there setup store a stands script)
        ∙ ap (λ (v : Bool). unless_waiting v a store (script_move fs parts setup store a)) (waiting_is a w stands.attempt is))

    pub waits_record : kept.progress.waiting ≡ true → MovesBy HasBegun (next_move fs parts) fs parts parts kept kept line.WaitsRecord
    waits_record is setup store a stands script =
        subst (λ (move : Move). IsMoved setup fs a.engine move parts parts kept line.WaitsRecord) (by_waiting setup store a true stands script is)
        (stays setup fs store a parts kept line.WaitsRecord stands)

    pub scripts : kept.progress.waiting ≡ false → Leads HasBegun HasBegun (next_move fs parts) (script_move fs parts) fs parts kept
    scripts is = record {
      needs = λ setup store a stands script. script;
      same = λ setup store a stands script. by_waiting setup store a false stands script is;
    }

-- Whether there is an answer.
module _ (setup : Setup) (fs : List Function) (store : Store) (a : Attempt) (parts : Parts) (kept : AttemptState) (stands : FlowStandsFor setup fs store a parts kept) (script : HasScript a) where
  asked : Asks fs a kept.frame
  asked = asking setup fs store a parts kept stands script

  abbrev is_good : Option Ask → Bool
  is_good ask = is_some (answers_to a ask (nth (step_tag a.path) a.place (view parts.book a.engine)))

  operation_is : asks_operation kept.frame ≡ is_operation asked.frame.ask
  operation_is = ap asks_operation asked.is

  pub unanswered : asks_operation kept.frame ≡ false → false ≡ is_good (attempt_ask fs a)
  unanswered none =
      ended_by a asked.frame.ask (nth (step_tag a.path) a.place (view parts.book a.engine)) (sym operation_is ∙ none) ∙ sym (ap is_good asked.asks)

  pub answered : (found : Option (List ℕ × ℕ)) → asks_operation kept.frame ≡ true
      → found ≡ option_and_then (λ (x : Live Body). step_of x.holds) (nth (step_tag kept.progress.path) kept.progress.place (view parts.book kept.progress.engine))
      → has_index (suc kept.progress.answered) found ≡ is_good (attempt_ask fs a)
  answered found is e =
      ap (has_index (suc kept.progress.answered)) e
      ∙ ap (λ (p : Progress). has_index (suc p.answered) (option_and_then (λ (x : Live Body). step_of x.holds) (nth (step_tag p.path) p.place (view parts.book p.engine)))) stands.attempt.progress
      ∙ answers_by a asked.frame.ask (nth (step_tag a.path) a.place (view parts.book a.engine)) (sym operation_is ∙ is)
      ∙ sym (ap is_good asked.asks)

-- The record that answers what a script asks, which an attempt adopts.
pub record Found (fs : List Function) (store : Store) (parts : Parts) (seq : ℕ) (body : Body) (a : Attempt) : Type 0 where
  pub x : Live Body
  pub found : nth (step_tag a.path) a.place (view parts.book a.engine) ≡ Some x
  pub seq_is : x.seq ≡ seq
  pub says : x.holds ≡ body
  pub op : Op
  pub asks : attempt_ask fs a ≡ Some (k.Op op)
  pub answers : answers_to a (attempt_ask fs a) (nth (step_tag a.path) a.place (view parts.book a.engine)) ≡ Some x
  pub has : has_index (next_index a.answers) (step_of x.holds) ≡ true
  pub within : x.seq ≤ position parts.book a.engine

-- what answers is what is there, and it has the next operation's index
record Answering (a : Attempt) (ask : Option Ask) (there : Option (Live Body)) : Type 0 where
  pub x : Live Body
  pub op : Op
  pub there_is : there ≡ Some x
  pub asks : ask ≡ Some (k.Op op)
  pub answers : answers_to a ask there ≡ Some x
  pub has : has_index (next_index a.answers) (step_of x.holds) ≡ true

answering_by : (a : Attempt) (ask : Option Ask) (there : Option (Live Body)) → is_some (answers_to a ask there) ≡ true → Answering a ask there
answering_by a None there e = let no_way : false ≡ true = e in absurd (cc)
answering_by a (Some (k.Done outcome)) there e = let no_way : false ≡ true = e in absurd (cc)
answering_by a (Some (k.Op op)) None e = let no_way : false ≡ true = e in absurd (cc)
answering_by a (Some (k.Op op)) (Some x) e = at (has_index (next_index a.answers) (step_of x.holds)) refl e
  where
    at : (good : Bool) → has_index (next_index a.answers) (step_of x.holds) ≡ good → is_some (cond good (Some x) None) ≡ true → Answering a (Some (k.Op op)) (Some x)
    at true is e = record { x = x; op = op; there_is = refl; asks = refl; answers = ap (λ (good : Bool). cond good (Some x) None) is; has = is }
    at false is e = let no_way : false ≡ true = e in absurd (cc)

module _ (fs : List Function) (parts : Parts) (kept : AttemptState) where
  pub found_there : (seq : Seqnum) (body : Body)
      → Some (seq, body) ≡ option_map seqnum_and_body (nth (step_tag kept.progress.path) kept.progress.place (view parts.book kept.progress.engine))
      → (setup : Setup) (store : Store) (a : Attempt) → FlowStandsFor setup fs store a parts kept → FindsAnswer fs parts setup store a → Found fs store parts seq.0 body a
  found_there seq body e setup store a stands finds = record {
    x = is.x;
    found = is.there_is;
    seq_is = (ap (λ (s : Seqnum). s.0) (ap (λ (w : Seqnum × Body). w.0) same));
    says = ap (λ (w : Seqnum × Body). w.1) same;
    op = is.op;
    asks = is.asks;
    answers = is.answers;
    has = is.has;
    within = (let below = (below_among (suc (position parts.book a.engine)) is.x seen (view_falls parts.book a.engine) ((of_tag (step_tag a.path) seen).among a.place is.x is.there_is)).1 in omega arith);
  }
    where
      seen : List (Live Body)
      seen = view parts.book a.engine

      is : Answering a (attempt_ask fs a) (nth (step_tag a.path) a.place (view parts.book a.engine))
      is = answering_by a (attempt_ask fs a) (nth (step_tag a.path) a.place (view parts.book a.engine)) finds.1

      some_is : Some (seq, body) ≡ Some (seqnum_and_body is.x)
      some_is =
          e ∙ ap (λ (p : Progress). option_map seqnum_and_body (nth (step_tag p.path) p.place (view parts.book p.engine))) stands.attempt.progress
          ∙ ap (option_map seqnum_and_body) is.there_is

      same : seqnum_and_body is.x ≡ (seq, body)
      same = let some = some_is in cc

  pub found_none : None ≡ option_map seqnum_and_body (nth (step_tag kept.progress.path) kept.progress.place (view parts.book kept.progress.engine))
      → (setup : Setup) (store : Store) (a : Attempt) → FlowStandsFor setup fs store a parts kept → FindsAnswer fs parts setup store a → ⊥
  found_none e setup store a stands finds =
      let is = answering_by a (attempt_ask fs a) (nth (step_tag a.path) a.place (view parts.book a.engine)) finds.1 in
      let no_way : None ≡ Some (seqnum_and_body is.x) =
      e ∙ ap (λ (p : Progress). option_map seqnum_and_body (nth (step_tag p.path) p.place (view parts.book p.engine))) stands.attempt.progress
      ∙ ap (option_map seqnum_and_body) is.there_is in
      cc
