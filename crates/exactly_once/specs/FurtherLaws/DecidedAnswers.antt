-- Decided answers stay: an event that puts in a version changes no answer that an invocation has decided, but for the value of
-- a marker that no attempt has adopted.
use Rattle.std.specs.Prelude.{◌≡◌, ℕ, ◌<◌, Bool, true, false, List, ◌∷◌, length, Some}
use Rattle.boki_types.specs.declared.body.Body.{Body}
use Rattle.boki_types.specs.declared.body.Body.TheVariants as b
use Rattle.boki_types.specs.declared.event.Event.{Event}
use Rattle.boki_types.specs.declared.operation.Answer.{Answer}
use Rattle.boki_types.specs.declared.plan.Setup.{Setup}
use Rattle.boki_types.specs.declared.program.Function.{Function}
use Rattle.boki_model.specs.Live.{Live}
use Rattle.boki_model.specs.Bodies.{step_of}
use Rattle.boki_model.specs.Writes.{Store, Version}
use Rattle.boki_machine.specs.Attempt.{Attempt}
use Rattle.boki_machine.specs.Machine.{Machine, log, live_records, apply_event}
use Rattle.boki_machine.specs.Decided.{invocation_state, oldest, first_decided_answers}
use Rattle.exactly_once.specs.FurtherLaws.Words.{values_only, IsAmong, attempts_of}

-- a logged read, of one object or a group
abbrev pub is_marker : Body → Bool
is_marker (b.Read p i key) = true
is_marker (b.ReadGroup p i keys) = true
is_marker _ = false

-- The last live step record of the invocation is a marker that no attempt has adopted.
pub record IsUnadoptedMarker (setup : Setup) (fs : List Function) (store : Store) (records : List (Live Body)) (attempts : List Attempt) (path : List ℕ) : Type 0 where
  pub x : Live Body
  pub among : IsAmong x records
  pub index : ℕ
  pub step : step_of x.holds ≡ Some (path, index)
  pub marker : is_marker x.holds ≡ true
  pub last : (invocation_state setup fs store path records).cursor ≡ x.seq
  pub unadopted : (a : Attempt) → IsAmong a attempts → a.path ≡ path → a.cursor < x.seq

-- What an invocation has decided, with the old store and with the new one: as many answers as were decided are the same; or all
-- but the last one are, which such a marker answers.
pub data AnswersStay (setup : Setup) (fs : List Function) (old new : Store) (records : List (Live Body)) (attempts : List Attempt) (path : List ℕ) : Type 0 where
  all_stay : ((n : ℕ) → length (first_decided_answers setup fs old records path n) ≡ n → first_decided_answers setup fs new records path n ≡ first_decided_answers setup fs old records path n) → AnswersStay setup fs old new records attempts path
  all_but_one :
      IsUnadoptedMarker setup fs old records attempts path → (earlier : List Answer) (was becomes : Answer)
      → ((n : ℕ) → first_decided_answers setup fs old records path n ≡ oldest n (was ∷ earlier)) → ((n : ℕ) → first_decided_answers setup fs new records path n ≡ oldest n (becomes ∷ earlier)) → AnswersStay setup fs old new records attempts path

-- where one version more is there behind an event
pub record VersionIsPut (setup : Setup) (fs : List Function) (m n : Machine) : Type 0 where
  -- nothing is ordered
  pub log_stays : log n ≡ log m
  pub answers_stay : (path : List ℕ) → AnswersStay setup fs (values_only m.store) (values_only n.store) (live_records m) (attempts_of m) path

abbrev pub DecidedAnswersStay : Setup → List Function → Machine → Type 0
DecidedAnswersStay setup fs m =
    (event : Event) (v : Version) → (apply_event setup fs m event).machine.store.versions ≡ v ∷ m.store.versions
    → VersionIsPut setup fs m (apply_event setup fs m event).machine
