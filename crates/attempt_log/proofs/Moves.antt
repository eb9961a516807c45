-- What the step table sends for what is asked, where it sends anything.
use Rattle.std.proofs.Common.{◌≡◌, ◌∙◌, ℕ, Bool, true, false, List, Option, Some, None, option_map, refl, ap, subst}
use Rattle.std.specs.Prelude.{unwrap_or}
use Rattle.lb_base.specs.declared.value.Mode.{Mode}
use Rattle.lb_base.specs.declared.value.Mode.TheVariants.{R, W, T}
use Rattle.lb_base.specs.declared.value.Outcome.{Outcome}
use Rattle.lb_base.specs.declared.value.Value.{Value}
use Rattle.boki_types.specs.declared.body.Body.{Body}
use Rattle.boki_types.specs.declared.body.Body.TheVariants as b
use Rattle.boki_types.specs.declared.line.StepLine.TheVariants as line
use Rattle.boki_types.specs.declared.log.Sent.{Sent}
use Rattle.boki_types.specs.declared.operation.Op.TheVariants as o
use Rattle.boki_types.specs.declared.operation.Ask.TheVariants as k
use Rattle.boki_types.specs.declared.plan.Setup.{Setup}
use Rattle.boki_types.specs.declared.program.Function.{Function}
use Rattle.boki_model.specs.Live.{Live}
use Rattle.boki_model.specs.Writes.{Store}
use Rattle.boki_machine.specs.Attempt.{Attempt, next_index, step_record}
use Rattle.boki_machine.specs.Step.{seqnum, reads, reads_group, writes, is_inline, logged_write_step, join_step, operation_step, script_step}
use Rattle.script_ranges.specs.Sends.{body_of_ask}
use Rattle.exactly_once.specs.FurtherLaws.StepRecords.{place_condition}
use Rattle.script_run.specs.Frames.{FrameState}
use Rattle.book_api.specs.Books.{BookState, next_sent}
use Rattle.step_log.specs.Sound.{IsBodySent}
use Rattle.attempt_state.specs.declared.progress.Progress.{Progress}
use Rattle.attempt_state.specs.Progresses.{progress_of, begin_of}
use Rattle.attempt_state.specs.Attempts.{AttemptStandsFor}
use Rattle.attempt_state.specs.Deciding.{writes_freely}
use Rattle.attempt_state.specs.Sending.{line_of_ask}
use Rattle.attempt_log.specs.Sent.{waiting_progress, asked_body}
use Rattle.attempt_log.specs.Moves.{IsAppended, asked_move, attempt_state, AskedAreMoves, InitsAreMoves}

module _ (setup : Setup) (fs : List Function) (t : Attempt) (store : Store) (view : List (Live Body)) (at : Sent) where
  pub end_sent : (outcome : Outcome) → script_step setup fs t store view at (Some (k.Done outcome)) ≡ asked_move fs t store at None (k.Done outcome)
  end_sent outcome = refl

  pub read_sent : (key : List ℕ) (mode : Mode) → (mode ≡ R → ⊥) → reads t store view at key mode ≡ asked_move fs t store at None (k.Op (o.Read key))
  read_sent key R isnt = absurd (isnt refl)
  read_sent key W isnt = refl
  read_sent key T isnt = refl

  pub group_sent : (keys : List (List ℕ)) (mode : Mode) → (mode ≡ R → ⊥) → reads_group t store view at keys mode ≡ asked_move fs t store at None (k.Op (o.ReadGroup keys))
  group_sent keys R isnt = absurd (isnt refl)
  group_sent keys W isnt = refl
  group_sent keys T isnt = refl

  pub write_logged : (key : List ℕ) (v : Value) (mode : Mode) (late : Bool) → writes_freely mode late ≡ false
      → writes setup t store at key v mode late ≡ logged_write_step (is_inline setup t v) t.stored t store at key v
  write_logged key v W true isnt = refl
  write_logged key v W false isnt = absurd (let no_way : true ≡ false = isnt in cc)
  write_logged key v R late isnt = refl
  write_logged key v T late isnt = refl

  pub inline_sent : (key : List ℕ) (v : Value) (inline stored : Bool) → inline ≡ true → logged_write_step inline stored t store at key v ≡ asked_move fs t store at (Some v) (k.Op (o.Write key v))
  inline_sent key v true stored is = refl
  inline_sent key v false stored is = absurd (let no_way : false ≡ true = is in cc)

  pub stored_sent : (key : List ℕ) (v : Value) (inline stored : Bool) → inline ≡ false → stored ≡ true → logged_write_step inline stored t store at key v ≡ asked_move fs t store at None (k.Op (o.Write key v))
  stored_sent key v true stored is there = absurd (let no_way : true ≡ false = is in cc)
  stored_sent key v false true is there = refl
  stored_sent key v false false is there = absurd (let no_way : false ≡ true = there in cc)

  pub join_sent : (ordinal : ℕ) (outcome : Outcome) → join_step t store at ordinal (Some outcome) ≡ asked_move fs t store at None (k.Op (o.Join ordinal))
  join_sent ordinal outcome = refl

  pub spawn_sent : (ordinal f : ℕ) (args : List Value) → operation_step setup fs t store view at (o.Spawn ordinal f args) ≡ asked_move fs t store at None (k.Op (o.Spawn ordinal f args))
  spawn_sent ordinal f args = refl

  pub push_sent : (queue : List ℕ) (v : Value) → operation_step setup fs t store view at (o.Push queue v) ≡ asked_move fs t store at None (k.Op (o.Push queue v))
  push_sent queue v = refl

  pub pop_sent : (queue : List ℕ) → operation_step setup fs t store view at (o.Pop queue) ≡ asked_move fs t store at None (k.Op (o.Pop queue))
  pop_sent queue = refl

  pub begin_sent : (names : List (List ℕ)) → operation_step setup fs t store view at (o.Begin names) ≡ asked_move fs t store at None (k.Op (o.Begin names))
  begin_sent names = refl

  pub commit_sent : (names : List (List ℕ)) (ws : List (List ℕ × Value)) → operation_step setup fs t store view at (o.Commit names ws) ≡ asked_move fs t store at None (k.Op (o.Commit names ws))
  commit_sent names ws = refl

begin_is : (open_at : Option ℕ) → begin_of (option_map seqnum open_at) ≡ unwrap_or open_at 0
begin_is None = refl
begin_is (Some seq) = refl

waits : (fs : List Function) (t : Attempt) (frame : Option FrameState) (old new : Progress) → AttemptStandsFor fs t (attempt_state old frame) → new ≡ waiting_progress old
    → AttemptStandsFor fs (record t { waiting = true }) (attempt_state new frame)
waits fs t frame old new stands is = record { progress = is ∙ ap waiting_progress stands.progress; frame = stands.frame; room = stands.room }

-- a body that was sent under the attempt's place is the record that its move sends
sends : (t : Attempt) (old : Progress) (body asked : Body) (before after : BookState) (sent : Sent) → old ≡ progress_of t → asked ≡ body
    → IsBodySent old.engine (place_condition old.path old.place) asked before after sent → IsAppended t.engine (step_record t.path t.place body) before after
sends t old body asked before after sent is same done =
    let there : IsBodySent t.engine (place_condition t.path t.place) body before after sent =
    subst (λ (body : Body). IsBodySent t.engine (place_condition t.path t.place) body before after sent) same
    (subst (λ (p : Progress). IsBodySent p.engine (place_condition p.path p.place) asked before after sent) is done) in
    record { after = there.after; says = there.says }

pub asked_are_moves : AskedAreMoves
asked_are_moves fs here ask t store frame old new before after told stands is = record {
  line_is = is.line_is ∙ ap (λ (p : Progress). line_of_ask p.path here (next_sent before p.engine) ask) stands.progress;
  attempt = waits fs t frame old new stands is.waits;
  sent =
      sends t old (body_of_ask fs t.path (next_index t.answers) t.place here (unwrap_or t.transaction 0) ask) (asked_body fs old here ask) before after (next_sent before old.engine) stands.progress
      (ap (λ (p : Progress). asked_body fs p here ask) stands.progress ∙ ap (λ (begin : ℕ). body_of_ask fs t.path (next_index t.answers) t.place here begin ask) (begin_is t.transaction)) is.sent;
}

pub inits_are_moves : InitsAreMoves
inits_are_moves fs t store frame old new before after told stands is = record {
  line_is = is.line_is ∙ ap (λ (p : Progress). line.SendInit (next_sent before p.engine)) stands.progress;
  attempt = waits fs t frame old new stands is.waits;
  sent = sends t old (b.Init t.path) (b.Init old.path) before after (next_sent before old.engine) stands.progress (ap (λ (p : Progress). b.Init p.path) stands.progress) is.sent;
}
