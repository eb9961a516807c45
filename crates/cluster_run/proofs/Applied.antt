-- An event that is done to the parts alone, or to the attempts alone, is done to both.
use Rattle.std.proofs.Common.{◌≡◌, ℕ, ◌&&◌, Bool, true, false, cond, List, ◌∷◌, Option, Some, None, Result, reverse, refl, sym, subst}
use Rattle.std.specs.Prelude.{nat_le, IsTrue, IfOk}
use Rattle.std.proofs.lemmas.Result.{IfOk-weaker}
use Rattle.boki_types.specs.declared.body.Body.{Body}
use Rattle.boki_types.specs.declared.event.Event.{Event}
use Rattle.boki_types.specs.declared.event.Event.TheVariants as event
use Rattle.boki_types.specs.declared.line.Line.{Line}
use Rattle.boki_types.specs.declared.line.Line.TheVariants as line
use Rattle.boki_types.specs.declared.plan.Setup.{Setup}
use Rattle.boki_types.specs.declared.program.Function.{Function}
use Rattle.boki_model.specs.Live.{Live}
use Rattle.boki_model.specs.Modes.{Switch, modes, least_open}
use Rattle.boki_model.specs.Order.{progress}
use Rattle.boki_model.specs.Plans.{is_event}
use Rattle.boki_machine.specs.Attempt.{Attempt}
use Rattle.boki_machine.specs.Machine.{Machine, NumberedAttempt, view, position, cuts_nothing, attempt_at, start_attempt, kill_attempt, lose_record, event_result, with_aux, end_if_all_ended, send_switch_end, get_aux, aux_at, aux_of, apply_event}
use Rattle.script_ranges.specs.Ranged.{NumbersHaveRoom}
use Rattle.step_laws.specs.Kept.{MachineIsKept, IsTextEvent}
use Rattle.step_laws.proofs.Kept.{events_keep_machine}
use Rattle.attempt_state.specs.declared.state.AttemptState.{AttemptState}
use Rattle.flow_parts.specs.declared.parts.Parts.{Parts}
use Rattle.cluster_events.specs.Machines.{PartsAreOf, IsEventDone, DoesEvent, DoesEventAny}
use Rattle.cluster_run.specs.Clusters.{AttemptsStandFor}
use Rattle.cluster_run.specs.Attempts.{IsDoneToAttempts, DoesAll, DoesToAttempts}
use Rattle.cluster_run.specs.Groups.{is_of_attempts}

-- what is done whatever the functions are is done for these
pub if_done_for :
    {E : Type 0} (r : Result Line E) (fs : List Function) (event : Event) (old new : Parts) → IfOk r (DoesEventAny event old new)
    → IfOk r (DoesEvent fs event old new)
if_done_for r fs event old new does = IfOk-weaker r (DoesEventAny event old new) (DoesEvent fs event old new) (λ line any. any fs) does

-- Attempts stay as they are.

module _ (m : Machine) where
  cut_stays : (t : Bool) (vectors : List (List ℕ)) → (cond t m (record m { vectors = vectors })).attempts ≡ m.attempts
  cut_stays true vectors = refl
  cut_stays false vectors = refl

  set_stays : (engine seq : ℕ) (text : List ℕ) (t : Bool)
      → (cond t (event_result (with_aux m engine seq text) line.Set) (event_result m line.Absent)).machine.attempts ≡ m.attempts
  set_stays engine seq text true = refl
  set_stays engine seq text false = refl

  get_stays : (engine seq : ℕ) (text : Option (List ℕ)) → (get_aux m engine seq text).machine.attempts ≡ m.attempts
  get_stays engine seq None = refl
  get_stays engine seq (Some text) = refl

  module _ (setup : Setup) (engine : ℕ) where
    ended_stays : (path : Option (List ℕ)) → (end_if_all_ended setup m engine path).machine.attempts ≡ m.attempts
    ended_stays None = refl
    ended_stays (Some path) = refl

    end_stays : (seen : List (Live Body)) (s : Option Switch) → (send_switch_end setup m engine seen s).machine.attempts ≡ m.attempts
    end_stays seen None = refl
    end_stays seen (Some s) = ended_stays (least_open s.begun seen)

attempts_stay : (setup : Setup) (fs : List Function) (m : Machine) (e : Event) → is_of_attempts e ≡ false → (apply_event setup fs m e).machine.attempts ≡ m.attempts
attempts_stay setup fs m (event.Submit engine request f args) is = refl
attempts_stay setup fs m (event.Copy shard replica n) is = refl
attempts_stay setup fs m event.Cut is = cut_stays m (cuts_nothing m) (progress m.shards m.counts ∷ m.vectors)
attempts_stay setup fs m (event.Catch engine) is = refl
attempts_stay setup fs m event.Sync is = cut_stays m (cuts_nothing m) (progress m.shards m.counts ∷ m.vectors)
attempts_stay setup fs m (event.Restart engine) is = cc
attempts_stay setup fs m (event.Start n path engine) is = cc
attempts_stay setup fs m (event.Step n) is = cc
attempts_stay setup fs m (event.Kill n) is = cc
attempts_stay setup fs m (event.Lose n) is = cc
attempts_stay setup fs m (event.Miss n) is = cc
attempts_stay setup fs m (event.Switch engine target) is = refl
attempts_stay setup fs m (event.EndSwitch engine) is = end_stays m setup engine (view m engine) (modes setup.mode (view m engine)).pending
attempts_stay setup fs m (event.Trim engine) is = refl
attempts_stay setup fs m (event.Sweep engine) is = refl
attempts_stay setup fs m (event.Append engine tags text) is = refl
attempts_stay setup fs m (event.Cond engine place tags text) is = refl
attempts_stay setup fs m (event.Next engine tag from) is = refl
attempts_stay setup fs m (event.Prev engine tag upto) is = refl
attempts_stay setup fs m (event.Tail engine tag) is = refl
attempts_stay setup fs m (event.TrimTag engine tag upto) is = refl
attempts_stay setup fs m (event.Settled engine shard local) is = refl
attempts_stay setup fs m (event.SetAux engine seq text) is = set_stays m engine seq.0 text (nat_le 1 seq.0 && nat_le seq.0 (position m engine))
attempts_stay setup fs m (event.GetAux engine seq) is = get_stays m engine seq.0 (aux_at seq.0 (aux_of m engine))
attempts_stay setup fs m (event.Seed n) is = refl

module _ (fs : List Function) (event : Event) (old new : Parts) (attempts : List (ℕ × AttemptState)) (apart : is_of_attempts event ≡ false) where
  pub parts_done : (line : Line) → DoesEvent fs event old new line → DoesAll fs event old new attempts attempts line
  parts_done line does setup m valid all =
      let done : IsEventDone setup fs event m new line = does setup m valid all.are in
      record {
        line_is = done.line_is;
        all = record {
          are = done.are;
          stand = subst (λ (xs : List NumberedAttempt). AttemptsStandFor fs (reverse xs) attempts) (sym (attempts_stay setup fs m event apart)) all.stand;
        };
        text = done.text;
      }

  pub if_parts_done : {E : Type 0} (r : Result Line E) → IfOk r (DoesEvent fs event old new) → IfOk r (DoesAll fs event old new attempts attempts)
  if_parts_done r does = IfOk-weaker r (DoesEvent fs event old new) (DoesAll fs event old new attempts attempts) parts_done does

  pub if_any_done : {E : Type 0} (r : Result Line E) → IfOk r (DoesEventAny event old new) → IfOk r (DoesAll fs event old new attempts attempts)
  if_any_done r does = IfOk-weaker r (DoesEventAny event old new) (DoesAll fs event old new attempts attempts) (λ line any. parts_done line (any fs)) does

-- The parts stay as they are.

parts_stay :
    (setup : Setup) (fs : List Function) (m : Machine) (parts : Parts) (xs : List NumberedAttempt) → MachineIsKept setup fs (record m { attempts = xs }) → PartsAreOf setup fs m parts
    → PartsAreOf setup fs (record m { attempts = xs }) parts
parts_stay setup fs m parts xs kept are = record {
  book = record { shards = are.book.shards; counts = are.book.counts; vectors = are.book.vectors; positions = are.book.positions; aux = are.book.aux };
  replicas = are.replicas;
  stand = are.stand;
  kept = kept;
}

-- an event that changes nothing but attempts
record IsAlone (event : Event) : Type 0 where
  text : (setup : Setup) (fs : List Function) → IsTrue (is_event setup fs event) → IsTextEvent setup fs event
  room : (m : Machine) → NumbersHaveRoom m event
  same : (setup : Setup) (fs : List Function) (m : Machine)
      → (apply_event setup fs m event).machine ≡ record m { attempts = (apply_event setup fs m event).machine.attempts }

alone_done :
    (fs : List Function) (event : Event) (parts : Parts) (before after : List (ℕ × AttemptState)) (line : Line) → IsAlone event → DoesToAttempts event before after line
    → DoesAll fs event parts parts before after line
alone_done fs event parts before after line alone does setup m valid all =
    let same = alone.same setup fs m in
    let text = alone.text setup fs valid in
    let kept = events_keep_machine setup fs m event text (alone.room m) all.are.kept in
    let done : IsDoneToAttempts setup fs event m after line = does setup fs m valid all.stand in
    record {
      line_is = done.line_is;
      all = record {
        are = subst (λ (n : Machine). PartsAreOf setup fs n parts) (sym same)
            (parts_stay setup fs m parts (apply_event setup fs m event).machine.attempts (subst (MachineIsKept setup fs) same kept) all.are);
        stand = done.stand;
      };
      text = text;
    }

start_same : (m : Machine) (n : ℕ) (path : List ℕ) (engine : ℕ) (a : Option Attempt)
    → (start_attempt m n path engine a).machine ≡ record m { attempts = (start_attempt m n path engine a).machine.attempts }
start_same m n path engine None = refl
start_same m n path engine (Some a) = refl

kill_same : (m : Machine) (n : ℕ) (a : Option Attempt) → (kill_attempt m n a).machine ≡ record m { attempts = (kill_attempt m n a).machine.attempts }
kill_same m n None = refl
kill_same m n (Some a) = refl

lose_same : (m : Machine) (n : ℕ) (a : Option Attempt) → (lose_record m n a).machine ≡ record m { attempts = (lose_record m n a).machine.attempts }
lose_same m n None = refl
lose_same m n (Some a) = refl

module _ (fs : List Function) (parts : Parts) (before after : List (ℕ × AttemptState)) where
  pub start_done : (n : ℕ) (path : List ℕ) (engine : ℕ) (line : Line) → DoesToAttempts (event.Start n path engine) before after line
      → DoesAll fs (event.Start n path engine) parts parts before after line
  start_done n path engine line does = alone_done fs (event.Start n path engine) parts before after line (record {
    text = λ setup fs valid. record { valid = valid; bytes = refl; text = tt };
    room = λ m. tt;
    same = λ setup fs m. start_same m n path engine (attempt_at n m.attempts);
  }) does

  pub if_start_done : {E : Type 0} (r : Result Line E) (n : ℕ) (path : List ℕ) (engine : ℕ) → IfOk r (DoesToAttempts (event.Start n path engine) before after)
      → IfOk r (DoesAll fs (event.Start n path engine) parts parts before after)
  if_start_done r n path engine does =
      IfOk-weaker r (DoesToAttempts (event.Start n path engine) before after) (DoesAll fs (event.Start n path engine) parts parts before after) (start_done n path engine) does

  pub kill_done : (n : ℕ) (line : Line) → DoesToAttempts (event.Kill n) before after line → DoesAll fs (event.Kill n) parts parts before after line
  kill_done n line does = alone_done fs (event.Kill n) parts before after line (record {
    text = λ setup fs valid. record { valid = valid; bytes = refl; text = tt };
    room = λ m. tt;
    same = λ setup fs m. kill_same m n (attempt_at n m.attempts);
  }) does

  pub lose_done : (n : ℕ) (line : Line) → DoesToAttempts (event.Lose n) before after line → DoesAll fs (event.Lose n) parts parts before after line
  lose_done n line does = alone_done fs (event.Lose n) parts before after line (record {
    text = λ setup fs valid. record { valid = valid; bytes = refl; text = tt };
    room = λ m. tt;
    same = λ setup fs m. lose_same m n (attempt_at n m.attempts);
  }) does
