-- An attempt that begins: what its engine finds at place 0, and the moves that adopt, wait for and send its Init.
use Rattle.std.proofs.Common.{◌≡◌, ◌∙◌, inl, ℕ, Bool, true, false, List, Option, Some, None, option_map, refl, sym, ap, subst}
use Rattle.std.specs.Prelude.{unwrap_or}
use Rattle.lb_base.specs.declared.value.Mode.{Mode}
use Rattle.boki_types.specs.declared.body.Body.{Body}
use Rattle.boki_types.specs.declared.body.Body.TheVariants as b
use Rattle.boki_types.specs.declared.line.StepLine.{StepLine}
use Rattle.boki_types.specs.declared.line.StepLine.TheVariants as line
use Rattle.boki_types.specs.declared.log.Call.{Call}
use Rattle.boki_types.specs.declared.plan.Setup.{Setup}
use Rattle.boki_types.specs.declared.program.Function.{Function}
use Rattle.boki_types.specs.Finding.{find}
use Rattle.boki_model.specs.Live.{Live}
use Rattle.boki_model.specs.Reads.{nth}
use Rattle.boki_model.specs.Bodies.{step_tag}
use Rattle.boki_model.specs.Modes.{mode_after}
use Rattle.boki_model.specs.Writes.{Store}
use Rattle.boki_machine.specs.Attempt.{Attempt, Move, adopts, step_record}
use Rattle.boki_machine.specs.Step.{records_below, init_step, unless_waiting, seqnum}
use Rattle.book_api.specs.Books.{BookState, next_sent}
use Rattle.step_log.specs.Sound.{Sound, view}
use Rattle.attempt_state.specs.declared.progress.Progress.{Progress}
use Rattle.attempt_state.specs.declared.state.AttemptState.{AttemptState}
use Rattle.attempt_state.specs.Attempts.{AttemptStandsFor, IsBegun}
use Rattle.attempt_log.specs.Sent.{IsInitSent}
use Rattle.attempt_log.specs.Moves as log
use Rattle.attempt_log.specs.Moves.{attempt_state}
use Rattle.attempt_log.proofs.Moves.{inits_are_moves}
use Rattle.flow_parts.specs.declared.parts.Parts.{Parts}
use Rattle.flow_parts.specs.Parts.{KeepsParts}
use Rattle.boki_flow.specs.Flow.{FlowStandsFor, IsMoved}
use Rattle.boki_flow.specs.Arms.{IsCalled, IsCalledBy, CutShortBy, init_move, adopts_init}
use Rattle.boki_flow.proofs.Leading.{Leads}
use Rattle.boki_flow.proofs.Moves.{sent_moves}

module _ (setup : Setup) (fs : List Function) (store : Store) (a : Attempt) (parts : Parts) (kept : AttemptState) (stands : FlowStandsFor setup fs store a parts kept) (call : Call) (called : IsCalled parts call a) where
  -- it has no answers yet
  pub begins : IsBegun a
  begins = record { runs = called.runs; place = called.place; answers = stands.can.begins called.place }

  -- the Init was adopted, with the mode that the switches tell
  pub init_adopted :
      (new : Parts) (state : AttemptState) (seq : ℕ) (mode : Mode) (told : StepLine) → KeepsParts parts new
      → mode ≡ mode_after setup.mode (records_below seq (view parts.book a.engine)) → told ≡ line.AdoptInit (seqnum seq) mode
      → AttemptStandsFor fs (record (adopts a seq) { mode = mode; function = unwrap_or (find call.function fs) 0; args = call.args }) state
      → IsMoved setup fs a.engine (adopts_init fs parts call seq setup store a) parts new state told
  init_adopted new state seq mode told keeps is said begun = record {
    line_is = said ∙ ap (line.AdoptInit (seqnum seq)) is;
    attempt = subst (λ (mode : Mode). AttemptStandsFor fs (record (adopts a seq) { mode = mode; function = unwrap_or (find call.function fs) 0; args = call.args }) state) is begun;
    parts = keeps.stands setup store stands.parts;
    sent = keeps.book;
  }

  -- the attempt waits for the Init that it has sent
  pub init_waits :
      (told : StepLine) → nth (step_tag a.path) 0 (view parts.book a.engine) ≡ None → a.waiting ≡ true → told ≡ line.WaitsRecord
      → IsMoved setup fs a.engine (init_move fs parts call setup store a) parts parts kept told
  init_waits told none waits said =
      subst (λ (o : Option (Live Body)). IsMoved setup fs a.engine (init_step setup fs a store (view parts.book a.engine) (next_sent parts.book a.engine) call o) parts parts kept told) (sym none)
      (subst (λ (w : Bool). IsMoved setup fs a.engine (unless_waiting w a store (log.init_move a store (next_sent parts.book a.engine))) parts parts kept told) (sym waits)
      (record { line_is = said; attempt = stands.attempt; parts = stands.parts; sent = refl }))

  -- the Init is sent
  pub init_sent :
      (book : BookState) (new : Progress) (told : StepLine) → nth (step_tag a.path) 0 (view parts.book a.engine) ≡ None → a.waiting ≡ false → Sound book
      → IsInitSent kept.progress new parts.book book told
      → IsMoved setup fs a.engine (init_move fs parts call setup store a) parts (record parts { book = book }) (attempt_state new kept.frame) told
  init_sent book new told none idle sound is =
      subst (λ (o : Option (Live Body)). IsMoved setup fs a.engine (init_step setup fs a store (view parts.book a.engine) (next_sent parts.book a.engine) call o) parts (record parts { book = book }) (attempt_state new kept.frame) told) (sym none)
      (subst (λ (w : Bool). IsMoved setup fs a.engine (unless_waiting w a store (log.init_move a store (next_sent parts.book a.engine))) parts (record parts { book = book }) (attempt_state new kept.frame) told) (sym idle)
      (sent_moves setup fs a.engine store parts stands.parts (log.init_move a store (next_sent parts.book a.engine)) (attempt_state new kept.frame) told (step_record a.path a.place (b.Init a.path)) book refl refl sound
      (inits_are_moves fs a store kept.frame kept.progress new parts.book book told stands.attempt is)))

-- what was found at place 0 is an Init at this seqnum, or nothing
pub found_at : (seq : ℕ) (o : Option (Live Body)) → Some seq ≡ option_map (λ (x : Live Body). x.seq) o → (x : Live Body) × (o ≡ Some x) × (x.seq ≡ seq)
found_at seq None e = absurd (let no_way : Some seq ≡ None = e in cc)
found_at seq (Some x) e = (x, refl, (let same : Some seq ≡ Some x.seq = e in let it : x.seq ≡ seq = cc in it))

pub found_none : (o : Option (Live Body)) → None ≡ option_map (λ (x : Live Body). x.seq) o → o ≡ None
found_none None e = refl
found_none (Some x) e = absurd (let no_way : None ≡ Some x.seq = e in cc)

-- a call that changed what an engine keeps alone leaves parts that stand
pub keeps_cut : (P : Setup → Store → Attempt → Type 0) (move : Setup → Store → Attempt → Move) (fs : List Function) (old new : Parts) (kept : AttemptState) → KeepsParts old new → CutShortBy P move fs old new kept
keeps_cut P move fs old new kept keeps setup store a stands holds = record { book = keeps.book; parts = inl (keeps.stands setup store stands.parts) }

-- what its engine finds at place 0, by what is kept of it
module _ (fs : List Function) (parts : Parts) (kept : AttemptState) where
  abbrev first_there : Option ℕ
  first_there = option_map (λ (x : Live Body). x.seq) (nth (step_tag kept.progress.path) 0 (view parts.book kept.progress.engine))

  first_same : (a : Attempt) → AttemptStandsFor fs a kept → first_there ≡ option_map (λ (x : Live Body). x.seq) (nth (step_tag a.path) 0 (view parts.book a.engine))
  first_same a stands = ap (λ (p : Progress). option_map (λ (x : Live Body). x.seq) (nth (step_tag p.path) 0 (view parts.book p.engine))) stands.progress

  pub none_there : (a : Attempt) → AttemptStandsFor fs a kept → None ≡ first_there → nth (step_tag a.path) 0 (view parts.book a.engine) ≡ None
  none_there a stands none = found_none (nth (step_tag a.path) 0 (view parts.book a.engine)) (none ∙ first_same a stands)

  pub leads_init : (call : Call) (seq : ℕ) → Some seq ≡ first_there
      → Leads (IsCalledBy parts call) (IsCalledBy parts call) (init_move fs parts call) (adopts_init fs parts call seq) fs parts kept
  leads_init call seq some = record {
    needs = λ setup store a stands called. called;
    same = λ setup store a stands called.
        let there = found_at seq (nth (step_tag a.path) 0 (view parts.book a.engine)) (some ∙ first_same a stands.attempt) in
        sym (ap (λ (o : Option (Live Body)). init_step setup fs a store (view parts.book a.engine) (next_sent parts.book a.engine) call o) there.1
        ∙ ap (λ (n : ℕ). adopts_init fs parts call n setup store a) there.2);
  }
