-- What it tells a step that parts and an attempt stand for a machine's: its engine, its index, its program, and what its script asks.
use Rattle.std.proofs.Common.{◌≡◌, ◌∙◌, inl, ℕ, ◌+◌, ◌≤◌, ◌<◌, ◌^◌, List, length, Option, Some, None, option_map, Result, Ok, Err, IfOk, OnErr, refl, sym, ap, subst, arith}
use Rattle.std.proofs.lemmas.Bool.{and_parts, leb-true}
use Rattle.lb_base.specs.declared.value.Value.{Value}
use Rattle.boki_types.specs.declared.line.Life.{Life}
use Rattle.boki_types.specs.declared.line.Life.TheVariants.{Running}
use Rattle.boki_types.specs.declared.line.StepLine.{StepLine}
use Rattle.boki_types.specs.declared.operation.Answer.{Answer}
use Rattle.boki_types.specs.declared.operation.Ask.{Ask}
use Rattle.boki_types.specs.declared.operation.Ask.TheVariants as k
use Rattle.boki_types.specs.declared.plan.Setup.{Setup}
use Rattle.boki_types.specs.declared.program.Function.{Function}
use Rattle.boki_types.specs.declared.program.Stmt.{Stmt}
use Rattle.boki_model.specs.Script.{State, ask_of, next_ask}
use Rattle.boki_model.specs.Writes.{Store}
use Rattle.boki_machine.specs.Attempt.{Attempt, Move}
use Rattle.boki_machine.specs.Step.{attempt_ask}
use Rattle.script_run.specs.Answering.{Takes}
use Rattle.script_run.specs.Frames.{FrameState, FrameStandsFor}
use Rattle.script_run.specs.Standing.{stop_point_at}
use Rattle.book_api.specs.Books.{HasEngine}
use Rattle.step_log.specs.Sound.{Sound}
use Rattle.attempt_state.specs.declared.progress.Progress.{Progress}
use Rattle.attempt_state.specs.declared.state.AttemptState.{AttemptState}
use Rattle.attempt_state.specs.Attempts.{FrameFits, FrameTakes, HasFrame, HasScript}
use Rattle.attempt_store.specs.Moved.{FrameAsks}
use Rattle.flow_parts.specs.declared.parts.Parts.{Parts}
use Rattle.flow_parts.specs.Parts.{HasEngineParts}
use Rattle.boki_flow.specs.Flow.{FlowStandsFor, IsMoved}
use Rattle.boki_flow.specs.Arms.{MovesBy, CutShortBy}

-- What is said of results.

pub weaker_ok : {T E : Type 0} (r : Result T E) (P Q : T → Type 0) → IfOk r P → ((x : T) → P x → Q x) → IfOk r Q
weaker_ok (Ok x) P Q p f = f x p
weaker_ok (Err e) P Q p f = tt

pub on_err : {T E P : Type 0} (r : Result T E) → P → OnErr r P
on_err (Ok x) p = tt
on_err (Err e) p = p

pub weaker_err : {T E P Q : Type 0} (r : Result T E) → OnErr r P → (P → Q) → OnErr r Q
weaker_err (Ok x) p f = tt
weaker_err (Err e) p f = f p

-- where nothing but the attempt was looked at
pub same_cut : (P : Setup → Store → Attempt → Type 0) (move : Setup → Store → Attempt → Move) (fs : List Function) (parts : Parts) (kept : AttemptState) → CutShortBy P move fs parts parts kept
same_cut P move fs parts kept setup store a stands holds = record { book = refl; parts = inl stands.parts }

-- two moves that are the same where this holds
pub moves_as :
    (P Q : Setup → Store → Attempt → Type 0) (move other : Setup → Store → Attempt → Move) (fs : List Function) (old new : Parts) (before after : AttemptState) {E : Type 0} (r : Result StepLine E)
    → ((setup : Setup) (store : Store) (a : Attempt) → FlowStandsFor setup fs store a old before → Q setup store a → P setup store a × (move setup store a ≡ other setup store a))
    → IfOk r (MovesBy P move fs old new before after) → IfOk r (MovesBy Q other fs old new before after)
moves_as P Q move other fs old new before after (Ok line) same is = λ setup store a stands holds.
    let alike = same setup store a stands holds in
    subst (λ (m : Move). IsMoved setup fs a.engine m old new after line) alike.1 (is setup store a stands alike.0)
moves_as P Q move other fs old new before after (Err e) same is = tt

-- what a frame stands at is asked
ask_is : (lines : List Stmt) (ask : Ask) (at : ℕ) (t : State) → ask_of (stop_point_at lines ask at t) ≡ ask
ask_is lines (k.Op op) at t = refl
ask_is lines (k.Done outcome) at t = refl

-- A frame that is there, and what it asks.
pub record Asks (fs : List Function) (a : Attempt) (there : Option FrameState) : Type 0 where
  pub frame : FrameState
  pub is : there ≡ Some frame
  pub asks : attempt_ask fs a ≡ Some frame.ask

asks_by : (fs : List Function) (a : Attempt) (there : Option FrameState) → HasFrame fs a there → Asks fs a there
asks_by fs a None fits = absurd fits
asks_by fs a (Some w) fits = record { frame = w; is = refl; asks = ap (option_map ask_of) fits.stands ∙ ap Some (ask_is _ w.ask w.at _) }

asked_by : (there : Option FrameState) (w : FrameState) (ask : Ask) → there ≡ Some w → w.ask ≡ ask → FrameAsks there ask
asked_by None w ask is same = let no_way : None ≡ Some w = is in cc
asked_by (Some v) w ask is same = let e : v ≡ w = cc in ap (λ (f : FrameState). f.ask) e ∙ same

takes_by : (there : Option FrameState) (w : FrameState) (answer : Answer) → there ≡ Some w → Takes w.ask answer → FrameTakes there answer
takes_by None w answer is takes = let no_way : None ≡ Some w = is in absurd (cc)
takes_by (Some v) w answer is takes = let e : w ≡ v = cc in subst (λ (f : FrameState). Takes f.ask answer) e takes

module _ (setup : Setup) (fs : List Function) (store : Store) (a : Attempt) (parts : Parts) (kept : AttemptState) (stands : FlowStandsFor setup fs store a parts kept) where
  pub engine_is : kept.progress.engine ≡ a.engine
  engine_is = ap (λ (p : Progress). p.engine) stands.attempt.progress

  pub has_engine : HasEngine kept.progress.engine parts.book
  has_engine =
      let is = engine_is in
      let from_one = stands.can.engine.from_one in
      let within = stands.can.engine.within in
      let count = stands.parts.sizes.engines in
      (omega arith, omega arith)

  pub engine_parts : HasEngineParts kept.progress.engine parts
  engine_parts = record { there = has_engine; setup = setup; store = store; stands = stands.parts }

  pub sound : Sound parts.book
  sound = stands.parts.kept.sound

  pub few : length fs < 2 ^ 32
  few =
      let most = (and_parts _ _ (and_parts _ _ stands.can.program).0).0 in
      let le : length fs ≤ 256 = leb-true (length fs) 256 most in
      omega arith

  pub room : kept.progress.answered + 1 < 2 ^ 64
  room =
      let is : kept.progress.answered ≡ length a.answers = ap (λ (p : Progress). p.answered) stands.attempt.progress in
      let bound = stands.attempt.room in
      omega arith

  module _ (script : HasScript a) where
    fits : HasFrame fs a kept.frame
    fits =
        subst (λ (n : ℕ). FrameFits fs a Running n kept.frame) script.begun
        (subst (λ (l : Life). FrameFits fs a l a.place kept.frame) script.runs stands.attempt.frame)

    -- its frame asks what its script asks
    pub asking : Asks fs a kept.frame
    asking = asks_by fs a kept.frame fits

    -- by the frame that is there
    pub asks_is : (w : FrameState) → kept.frame ≡ Some w → attempt_ask fs a ≡ Some w.ask
    asks_is w is = let same : asking.frame ≡ w = (let e = sym asking.is ∙ is in cc) in asking.asks ∙ ap (λ (f : FrameState). Some f.ask) same

    -- by what was told of the frame
    pub asked_is :
        (frame : FrameState) (ask : Ask) → kept.frame ≡ Some frame
        → ((functions : List Function) (function : ℕ) (args : List Value) (depth : ℕ) (answers : List Answer) → FrameStandsFor functions function args depth answers frame → next_ask functions function args depth answers ≡ Some ask)
        → attempt_ask fs a ≡ Some ask
    asked_is frame ask some asked = asked fs a.function a.args (length a.path) a.answers (subst (HasFrame fs a) some fits)

    pub no_frame : kept.frame ≡ None → ⊥
    no_frame none = let no_way : Some asking.frame ≡ None = sym asking.is ∙ none in cc

    module _ (ask : Ask) (asked : attempt_ask fs a ≡ Some ask) where
      same_ask : asking.frame.ask ≡ ask
      same_ask = let e = sym asking.asks ∙ asked in cc

      pub frame_asks : FrameAsks kept.frame ask
      frame_asks = asked_by kept.frame asking.frame ask asking.is same_ask

      pub frame_takes : (answer : Answer) → Takes ask answer → FrameTakes kept.frame answer
      frame_takes answer takes =
          takes_by kept.frame asking.frame answer asking.is (subst (λ (x : Ask). Takes x answer) (sym same_ask) takes)
