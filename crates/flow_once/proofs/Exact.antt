-- A live flow is exactly once.
use Rattle.std.proofs.Common.{◌≡◌, inl, inr, ℕ, suc, ◌<◌, true, false, cond, List, [], ◌∷◌, ◌++◌, length, Option, Some, None, option_map, refl, sym, ap, ◌∙◌, subst, arith}
use Rattle.std.specs.Prelude.{bytes_eq}
use Rattle.lb_base.specs.declared.value.Value.{Value}
use Rattle.lb_base.specs.declared.value.Outcome.{Outcome}
use Rattle.boki_types.specs.declared.body.Body.{Body}
use Rattle.boki_types.specs.declared.body.Body.TheVariants as b
use Rattle.boki_types.specs.declared.program.Function.{Function}
use Rattle.boki_model.specs.Live.{Live, live, upto}
use Rattle.boki_model.specs.Maps.{get}
use Rattle.std.specs.Option.{option_or}
use Rattle.boki_model.specs.Modes.{result_of, finish_of}
use Rattle.boki_model.specs.Writes.{Store, Write, initial_store, logged_write_of, last_value_below, last_write_below, logged_write, logged_writes, initial_writes, prepend_some}
use Rattle.boki_machine.specs.Attempt.{Attempt, new_attempt}
use Rattle.exactly_once.specs.Induction.SoundLogsRun.{RunsFailureFree}
use Rattle.exactly_once.specs.Induction.SoundLogs.{MayFollow, AllMayFollow}
use Rattle.exactly_once.specs.FurtherLaws.Words.{IsAmong}
use Rattle.exactly_once.proofs.Log.LiveRecords.{Under, live_under}
use Rattle.exactly_once.proofs.Log.MapChanges.{same_itself}
use Rattle.exactly_once.proofs.Invocations.NextRecord.{result_is}
use Rattle.exactly_once.proofs.LastWrites.WritePositions.{last_over, last_logged, last_first}
use Rattle.exactly_once.proofs.Attempts.ActingAttempt.{result_upto}
use Rattle.exactly_once.proofs.Simulation.SoundLogsRun.{sound_runs}
use Rattle.flow_model.specs.declared.flow.FlowStep.{FlowStep}
use Rattle.flow_model.specs.Step.{flow_step}
use Rattle.flow_model.specs.Flow.{WorkerRecord, log_of, sent_seqnum, flow_move, IsWorkerStep, seen_behind, AreSteps, runs_of}
use Rattle.flow_once.specs.Laws.{flow_setup, written_by, last_written, FlowsAreExact}
use Rattle.flow_once.proofs.Steps.{is_quiet, AreQuiet, quiet_live}
use Rattle.flow_once.proofs.Written.{HoldsQuietly, all_good}
use Rattle.flow_once.proofs.Lines.{told}
use Rattle.flow_once.proofs.Flows.{in_runs, own_run, flows_are_written}

-- Objects.

module _ (objects : List (List ℕ × Value)) (key : List ℕ) where
  abbrev store : Store
  store = initial_store objects

  written_is : (seq : ℕ) (body : Body) → is_quiet body ≡ true → written_by key body ≡ option_map (λ (w : Write). w.value) (logged_write_of key seq [] (logged_write body))
  written_is seq (b.Write p i place name None) quiet = let no_way : false ≡ true = quiet in cc
  written_is seq (b.Write p i place name (Some v)) quiet =
      elim (bytes_eq key name) as (λ u. cond u (Some v) None ≡ option_map (λ (w : Write). w.value) (cond u (Some (record { first = seq; second = 0; value = v })) None)) [ true ↦ refl | false ↦ refl ]
  written_is seq _ quiet = refl

  -- where every seqnum is below c
  last_is : (n c : ℕ) (xs : List (Live Body)) → Under n xs → n < c → AreQuiet xs → last_value_below key c 0 store xs ≡ option_or (last_written key xs) (get key objects)
  last_is n c [] under lt quiet = last_first store key c (omega (arith, lt)) tt
  last_is n c (x ∷ xs) under lt quiet =
      at (last_is under.0 c xs under.3 (let h = under.2 in omega (arith, h, lt)) quiet.1) (logged_write_of key x.seq [] (logged_write x.holds)) refl (written_is x.seq x.holds quiet.0)
    where
      at :
          last_value_below key c 0 store xs ≡ option_or (last_written key xs) (get key objects)
          → (o : Option Write) → logged_write_of key x.seq [] (logged_write x.holds) ≡ o → written_by key x.holds ≡ option_map (λ (w : Write). w.value) (logged_write_of key x.seq [] (logged_write x.holds))
          → last_value_below key c 0 store (x ∷ xs) ≡ option_or (option_or (written_by key x.holds) (last_written key xs)) (get key objects)
      at ih None e written =
          ap (λ o. option_map (λ (w : Write). w.value) (last_write_below c 0 (prepend_some o (logged_writes key [] xs) ++ initial_writes key objects))) e
          ∙ ih
          ∙ ap (λ v. option_or (option_or v (last_written key xs)) (get key objects)) (sym (written ∙ ap (option_map (λ (w : Write). w.value)) e))
      at ih (Some w) e written =
          let below : x.seq < c = (let s = under.1 in let h = under.2 in omega (arith, s, h, lt)) in
          sym (last_over store key x xs under.0 under.1 under.3 0 c below tt tt)
          ∙ last_logged store key x xs under.0 under.1 under.3 w e tt
          ∙ ap (λ v. option_or (option_or v (last_written key xs)) (get key objects)) (sym (written ∙ ap (option_map (λ (w : Write). w.value)) e))

-- Results.

module _ (fs : List Function) (store : Store) where
  finish_is :
      (xs : List (Live Body)) → AllMayFollow flow_setup fs store xs → (x : Live Body) → IsAmong x xs → (path : List ℕ) (index : ℕ) (outcome : Outcome) → x.holds ≡ b.Finish path index outcome
      → result_of path xs ≡ Some outcome
  finish_is [] fit x among path index outcome is = absurd among
  finish_is (y ∷ ys) fit x (inr rest) path index outcome is = ap (λ o. option_or o (finish_of path y.holds)) (finish_is ys fit.2 x rest path index outcome is)
  finish_is (y ∷ ys) fit x (inl same) path index outcome is =
      let holds : y.holds ≡ b.Finish path index outcome = ap (λ (x : Live Body). x.holds) (sym same) ∙ is in
      let fits : MayFollow flow_setup fs store ys (b.Finish path index outcome) = subst (MayFollow flow_setup fs store ys) holds fit.0 in
      ap (λ o. option_or o (finish_of path y.holds)) (sym (result_is flow_setup fs store ys path fit.2) ∙ fits.reaches.unended)
      ∙ ap (finish_of path) holds
      ∙ ap (λ u. cond u (Some outcome) None) (same_itself path)

-- a step of a run is one of an attempt of its path
record IsStepOf (fs : List Function) (objects : List (List ℕ × Value)) (list : List WorkerRecord) (path : List ℕ) (s : FlowStep) : Type 0 where
  pub attempt : Attempt
  pub path_is : attempt.path ≡ path
  pub line : s.line ≡ (flow_step fs objects (upto s.at (live (log_of list))) (sent_seqnum s.line) attempt).line

step_among :
    (fs : List Function) (objects : List (List ℕ × Value)) (list : List WorkerRecord) (worker least : ℕ) (path : List ℕ) (t : Attempt) (s : FlowStep) (ss : List FlowStep)
    → t.path ≡ path → AreSteps fs objects list (IsWorkerStep fs objects list worker) least t ss → IsAmong s ss → IsStepOf fs objects list path s
step_among fs objects list worker least path t s [] is are among = absurd among
step_among fs objects list worker least path t s (q ∷ ss) is are (inl same) = subst (IsStepOf fs objects list path) (sym same) (record { attempt = t; path_is = is; line = are.0.answer.line })
step_among fs objects list worker least path t s (q ∷ ss) is are (inr rest) =
    step_among fs objects list worker (seen_behind q) path (flow_move fs objects list t q).attempt s ss ((told fs objects (upto q.at (live (log_of list))) (sent_seqnum q.line) t).path ∙ is) are.1 rest

pub flows_are_exact : FlowsAreExact
flows_are_exact text list runs calls flow = record {
  state = runs_to.state;
  defined = runs_to.defined;
  finishes = λ x among path index outcome is. runs_to.results path ∙ finish_is text.program.functions (initial_store text.objects) (live (log_of list)) good.holds.sound.fit x among path index outcome is;
  overs = λ run among s step_is outcome is.
      let r = in_runs text.program.functions text.objects list (IsWorkerStep text.program.functions text.objects list run.worker) run.worker (length text.calls) run (runs_of run.worker runs) (flow.steps run.worker) (own_run run runs among) in
      let i = step_among text.program.functions text.objects list run.worker r.least run.path (new_attempt run.path run.worker) s run.steps refl r.are step_is in
      let seen : result_of i.attempt.path (upto s.at (live (log_of list))) ≡ Some outcome = (told text.program.functions text.objects (upto s.at (live (log_of list))) (sent_seqnum s.line) i.attempt).over outcome (sym i.line ∙ is) in
      runs_to.results run.path ∙ result_upto run.path s.at outcome (live (log_of list)) (ap (λ p. result_of p (upto s.at (live (log_of list)))) (sym i.path_is) ∙ seen);
  objects = λ key. runs_to.objects key ∙ last_is text.objects key (length (log_of list)) (suc (length (log_of list))) (live (log_of list)) (live_under (log_of list)) (omega arith) (quiet_live (log_of list) good.quiet);
}
  where
    good : HoldsQuietly text.program.functions text.objects (log_of list)
    good = all_good text.program.functions text.objects (log_of list) (flows_are_written text list runs calls flow)

    runs_to : RunsFailureFree text.program.functions (initial_store text.objects) (suc (length (log_of list))) (live (log_of list))
    runs_to = sound_runs flow_setup text.program.functions (initial_store text.objects) (log_of list) good.holds.sound
