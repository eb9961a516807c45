-- What a cluster keeps of its machine is kept by every event.
use Rattle.std.proofs.Common.{◌≡◌, ℕ, Bool, true, false, cond, leb, ◌&&◌, List, [], ◌∷◌, Option, Some, None, sym, subst}
use Rattle.std.specs.List.{AllByRecursion}
use Rattle.std.proofs.lemmas.Bool.{and_parts, leb-true}
use Rattle.lb_base.specs.Path.{is_path}
use Rattle.boki_types.specs.declared.event.Event.{Event}
use Rattle.boki_types.specs.declared.event.Event.TheVariants as v
use Rattle.boki_types.specs.declared.line.Life.TheVariants.{Killed}
use Rattle.boki_types.specs.declared.plan.Setup.{Setup}
use Rattle.boki_types.specs.declared.program.Function.{Function}
use Rattle.boki_model.specs.Modes.{Switch, least_open, modes}
use Rattle.boki_model.specs.Plans.{is_event, is_attempt, is_from_one_to}
use Rattle.boki_model.specs.Live.{LogRecord, Live}
use Rattle.boki_model.specs.Order.{progress}
use Rattle.boki_types.specs.declared.body.Body.{Body}
use Rattle.boki_types.specs.declared.line.Line.TheVariants as line
use Rattle.boki_machine.specs.Attempt.{Attempt, Move}
use Rattle.boki_machine.specs.Step.{step, is_running, can_lose, after_lose, after_kill}
use Rattle.boki_machine.specs.Machine.{Machine, view, position, next_sent, cut, cuts_nothing, attempt_at, start_attempt, append_sent, apply_move, step_attempt, kill_attempt, lose_record, miss_attempt, with_attempt, event_result, with_aux, end_if_all_ended, send_switch_end, set_aux, get_aux, aux_at, aux_of, initial_machine, apply_event, apply_events}
use Rattle.exactly_once.specs.Induction.EventKeeps.{EventsKeepInvariant}
use Rattle.exactly_once.proofs.Log.ListElements.{each_weaker}
use Rattle.exactly_once.proofs.OldVersions.VersionKeeps.{versions_keep}
use Rattle.exactly_once.proofs.Attempts.StepKeeps.{moves_keep}
use Rattle.exactly_once.proofs.Attempts.LostAnswerKeeps.{misses_keep}
use Rattle.exactly_once.proofs.Machines.EnginesStay.{step_stays}
use Rattle.exactly_once.proofs.Machines.EventKeeps.{events_keep}
use Rattle.exactly_once.proofs.Machines.ExactlyOnce.{opens, run_holds}
use Rattle.script_ranges.specs.Ranged.{has_bytes}
use Rattle.script_ranges.proofs.Each.{SomeHas}
use Rattle.script_ranges.proofs.Events.{found_has, set_has, kill_has, events_keep_ranges, opening_is_ranged}
use Rattle.script_ranges.proofs.Counts.{runs_are_ranged}
use Rattle.machine_laws.specs.Texts.{HasUtf8Texts}
use Rattle.machine_laws.proofs.Texts.{events_keep_texts, opening_is_text}
use Rattle.step_laws.specs.Kept.{IsEngine, IsTextEvent, InitialMachineIsKept, EventsKeepMachine, ReachedAreKept}

events_hold : EventsKeepInvariant
events_hold = events_keep (moves_keep versions_keep) (misses_keep versions_keep)

-- Attempts stay on their engines.

module _ (setup : Setup) where
  abbrev OnEngine : Attempt → Type 0
  OnEngine a = IsEngine setup a.engine

  abbrev AreOnEngines : Machine → Type 0
  AreOnEngines m = AllByRecursion (λ x. IsEngine setup x.attempt.engine) m.attempts

  killed_on : (a : Attempt) → OnEngine a → OnEngine (after_kill a)
  killed_on a on = at (is_running a.life)
    where
      at : (t : Bool) → OnEngine (cond t (record a { life = Killed }) a)
      at true = on
      at false = on

  lost_on : (a : Attempt) → OnEngine a → OnEngine (after_lose a)
  lost_on a on = at (can_lose a)
    where
      at : (t : Bool) → OnEngine (cond t (record a { waiting = false }) a)
      at true = on
      at false = on

  module _ (fs : List Function) (m : Machine) (on : AreOnEngines m) where
    found_on : (n : ℕ) → SomeHas OnEngine (attempt_at n m.attempts)
    found_on n = found_has OnEngine n m.attempts on

    starts_on : (n : ℕ) (path : List ℕ) (engine : ℕ) (a : Option Attempt) → IsEngine setup engine → AreOnEngines (start_attempt m n path engine a).machine
    starts_on n path engine None is = (is, on)
    starts_on n path engine (Some a) is = on

    moves_on : (n engine : ℕ) (move : Move) → OnEngine move.attempt → AreOnEngines (apply_move setup m n engine move).machine
    moves_on n engine move is = at move.sends
      where
        at : (r : Option (LogRecord Body)) → AreOnEngines (append_sent setup engine r (with_attempt n move.attempt (record m { store = move.store })))
        at None = set_has OnEngine n move.attempt m.attempts is on
        at (Some r) = set_has OnEngine n move.attempt m.attempts is on

    steps_on : (n : ℕ) (a : Option Attempt) → SomeHas OnEngine a → AreOnEngines (step_attempt setup fs m n a).machine
    steps_on n None is = on
    steps_on n (Some a) is =
        moves_on n a.engine (step setup fs m.store (view m a.engine) (next_sent setup m a.engine) a)
        (subst (IsEngine setup) (sym (step_stays setup fs a m.store (view m a.engine) (next_sent setup m a.engine)).0) is)

    kills_on : (n : ℕ) (a : Option Attempt) → SomeHas OnEngine a → AreOnEngines (kill_attempt m n a).machine
    kills_on n None is = on
    kills_on n (Some a) is = set_has OnEngine n (after_kill a) m.attempts (killed_on a is) on

    loses_on : (n : ℕ) (a : Option Attempt) → SomeHas OnEngine a → AreOnEngines (lose_record m n a).machine
    loses_on n None is = on
    loses_on n (Some a) is = set_has OnEngine n (after_lose a) m.attempts (lost_on a is) on

    misses_on : (a : Option Attempt) → AreOnEngines (miss_attempt setup fs m a).machine
    misses_on None = on
    misses_on (Some a) = on

    ends_on : (engine : ℕ) (path : Option (List ℕ)) → AreOnEngines (end_if_all_ended setup m engine path).machine
    ends_on engine None = on
    ends_on engine (Some path) = on

    switch_on : (engine : ℕ) (seen : List (Live Body)) (s : Option Switch) → AreOnEngines (send_switch_end setup m engine seen s).machine
    switch_on engine seen None = on
    switch_on engine seen (Some s) = ends_on engine (least_open s.begun seen)

    cut_on : AreOnEngines (cut m)
    cut_on = at (cuts_nothing m)
      where
        at : (t : Bool) → AreOnEngines (cond t m (record m { vectors = progress m.shards m.counts ∷ m.vectors }))
        at true = on
        at false = on

    sets_on : (engine seq : ℕ) (text : List ℕ) → AreOnEngines (set_aux m engine seq text).machine
    sets_on engine seq text = at (leb 1 seq && leb seq (position m engine))
      where
        at : (t : Bool) → AreOnEngines (cond t (event_result (with_aux m engine seq text) line.Set) (event_result m line.Absent)).machine
        at true = on
        at false = on

    gets_on : (engine seq : ℕ) (text : Option (List ℕ)) → AreOnEngines (get_aux m engine seq text).machine
    gets_on engine seq None = on
    gets_on engine seq (Some text) = on

is_engine : (setup : Setup) (n engine : ℕ) (path : List ℕ) → is_event setup [] (v.Start n path engine) ≡ true → IsEngine setup engine
is_engine setup n engine path ok =
    let range = and_parts (leb 1 engine) (leb engine setup.engines) (and_parts (is_attempt n && is_path path) (is_from_one_to setup.engines engine) ok).1 in
    record { from_one = leb-true 1 engine range.0; within = leb-true engine setup.engines range.1 }

engines_stay : (setup : Setup) (fs : List Function) (m : Machine) (event : Event) → is_event setup fs event ≡ true → AreOnEngines setup m → AreOnEngines setup (apply_event setup fs m event).machine
engines_stay setup fs m v.Cut ok on = cut_on setup fs m on
engines_stay setup fs m v.Sync ok on = cut_on setup fs m on
engines_stay setup fs m (v.Restart engine) ok on = kill_has (OnEngine setup) engine m.attempts (killed_on setup) on
engines_stay setup fs m (v.Start n path engine) ok on = starts_on setup fs m on n path engine (attempt_at n m.attempts) (is_engine setup n engine path ok)
engines_stay setup fs m (v.Step n) ok on = steps_on setup fs m on n (attempt_at n m.attempts) (found_on setup fs m on n)
engines_stay setup fs m (v.Kill n) ok on = kills_on setup fs m on n (attempt_at n m.attempts) (found_on setup fs m on n)
engines_stay setup fs m (v.Lose n) ok on = loses_on setup fs m on n (attempt_at n m.attempts) (found_on setup fs m on n)
engines_stay setup fs m (v.Miss n) ok on = misses_on setup fs m on (attempt_at n m.attempts)
engines_stay setup fs m (v.EndSwitch engine) ok on = switch_on setup fs m on engine (view m engine) (modes setup.mode (view m engine)).pending
engines_stay setup fs m (v.SetAux engine seq text) ok on = sets_on setup fs m on engine seq.0 text
engines_stay setup fs m (v.GetAux engine seq) ok on = gets_on setup fs m on engine seq.0 (aux_at seq.0 (aux_of m engine))
engines_stay setup fs m _ ok on = on

-- What a cluster keeps.

pub initial_machine_is_kept : InitialMachineIsKept
initial_machine_is_kept setup fs objects are ok = record {
  program = are;
  holds = opens setup fs objects;
  ranged = opening_is_ranged setup fs objects ok;
  engines = tt;
  texts = opening_is_text setup objects;
}

pub events_keep_machine : EventsKeepMachine
events_keep_machine setup fs m event e room is = record {
  program = is.program;
  holds = events_hold setup fs m event e.valid is.holds;
  ranged = events_keep_ranges setup fs m event is.program e.valid e.bytes room is.ranged;
  engines = engines_stay setup fs m event e.valid is.engines;
  texts = events_keep_texts setup fs m event e.text is.texts;
}

module _ (setup : Setup) (fs : List Function) where
  engines_after : (events : List Event) (m : Machine) → AllByRecursion (IsTextEvent setup fs) events → AreOnEngines setup m → AreOnEngines setup (apply_events setup fs events m).machine
  engines_after [] m all on = on
  engines_after (e ∷ es) m all on = engines_after es (apply_event setup fs m e).machine all.1 (engines_stay setup fs m e all.0.valid on)

  texts_after : (events : List Event) (m : Machine) → AllByRecursion (IsTextEvent setup fs) events → HasUtf8Texts m → HasUtf8Texts (apply_events setup fs events m).machine
  texts_after [] m all are = are
  texts_after (e ∷ es) m all are = texts_after es (apply_event setup fs m e).machine all.1 (events_keep_texts setup fs m e all.0.text are)

pub reached_are_kept : ReachedAreKept
reached_are_kept setup fs objects events are ok all few =
    let valid : AllByRecursion (λ e. is_event setup fs e ≡ true) events = each_weaker (IsTextEvent setup fs) (λ e. is_event setup fs e ≡ true) (λ e is. is.valid) events all in
    let bytes : AllByRecursion (λ e. has_bytes e ≡ true) events = each_weaker (IsTextEvent setup fs) (λ e. has_bytes e ≡ true) (λ e is. is.bytes) events all in
    let m = initial_machine setup objects in
    record {
      program = are;
      holds = run_holds setup fs events_hold events m valid (opens setup fs objects);
      ranged = runs_are_ranged setup fs objects events are ok valid bytes few;
      engines = engines_after setup fs events m all tt;
      texts = texts_after setup fs events m all (opening_is_text setup objects);
    }
