-- What a machine holds is in range: the records that were ever sent, the store's values, and the attempts.
use Rattle.std.specs.Prelude.{ℕ, zero, suc, ◌≤◌, ◌<◌, ◌^◌, nat_lt, Bool, true, List, length, Option, Some, None, unwrap_or, IsTrue}
use Rattle.std.specs.List.{list_all, AllByRecursion}
use Rattle.lb_base.specs.declared.value.Value.{Value}
use Rattle.lb_base.specs.Path.{IsPath}
use Rattle.boki_types.specs.declared.body.Body.{Body}
use Rattle.boki_types.specs.declared.body.Body.TheVariants as b
use Rattle.boki_types.specs.declared.event.Event.{Event}
use Rattle.boki_types.specs.declared.event.Event.TheVariants as v
use Rattle.boki_types.specs.declared.plan.Setup.{Setup}
use Rattle.boki_types.specs.declared.program.Function.{Function}
use Rattle.boki_types.specs.Finding.{find, function_at}
use Rattle.boki_model.specs.Bodies.{is_value, is_u64, in_range}
use Rattle.boki_model.specs.Plans.{has_arity, known_function, are_objects, is_event}
use Rattle.boki_model.specs.Writes.{Store}
use Rattle.boki_machine.specs.Attempt.{Attempt, next_index}
use Rattle.boki_machine.specs.Machine.{Machine, log, position, attempt_at, initial_machine, apply_event, apply_events}
use Rattle.exactly_once.specs.FurtherLaws.Words.{all_records}
use Rattle.script_ranges.specs.Asks.{AreFunctions, is_answer}

-- a function of that name has so many parameters
abbrev pub is_known_call : List Function → List ℕ → List Value → Bool
is_known_call fs name args = has_arity (length args) (known_function fs (find name fs))

-- what a record calls, if anything
abbrev pub body_call_is_known : List Function → Body → Bool
body_call_is_known fs (b.Submit p name args) = is_known_call fs name args
body_call_is_known fs (b.Spawn p i ordinal name args) = is_known_call fs name args
body_call_is_known fs _ = true

pub record BodyInRange (fs : List Function) (body : Body) : Type 0 where
  pub range : IsTrue (in_range body)
  pub known : IsTrue (body_call_is_known fs body)

pub record StoreInRange (store : Store) : Type 0 where
  pub initial : AllByRecursion (λ x. IsTrue (is_value x.1)) store.initial
  pub named : AllByRecursion (λ x. IsTrue (is_value x.value)) store.named
  pub versions : AllByRecursion (λ x. IsTrue (is_value x.value)) store.versions

-- an attempt that has adopted its Init runs a function with so many parameters
abbrev pub HasFunction : List Function → ℕ → List Value → ℕ → Type 0
HasFunction fs function args zero = Unit {0}
HasFunction fs function args (suc place) = IsTrue (has_arity (length args) (function_at function fs))

pub record AttemptInRange (fs : List Function) (a : Attempt) : Type 0 where
  pub path : IsPath a.path
  pub args : IsTrue (list_all is_value a.args)
  pub answers : IsTrue (list_all is_answer a.answers)
  pub function : HasFunction fs a.function a.args a.place
  -- each record that it adopts but its Init gives an answer
  pub place : a.place ≤ next_index a.answers
  -- and so does each of its free writes
  pub free_writes : a.free_writes ≤ length a.answers
  pub begun : IsTrue (is_u64 (unwrap_or a.transaction 0))

pub record IsRanged (fs : List Function) (m : Machine) : Type 0 where
  pub records : AllByRecursion (λ r. BodyInRange fs r.holds) (all_records m.shards)
  pub store : StoreInRange m.store
  pub attempts : AllByRecursion (λ x. AttemptInRange fs x.attempt) m.attempts

-- A user's text is bytes.
abbrev pub are_bytes : List ℕ → Bool
are_bytes text = list_all (λ c. nat_lt c 256) text

abbrev pub has_bytes : Event → Bool
has_bytes (v.Append engine tags text) = are_bytes text
has_bytes (v.Cond engine place tags text) = are_bytes text
has_bytes _ = true

-- And the numbers that an event's record takes have 64 bits: nothing in the definitions bounds how many answers an attempt has,
-- or how many records there are.
abbrev pub HasIndex : Option Attempt → Type 0
HasIndex None = Unit {0}
HasIndex (Some a) = IsTrue (is_u64 (next_index a.answers))

abbrev pub NumbersHaveRoom : Machine → Event → Type 0
NumbersHaveRoom m (v.Step n) = IsTrue (is_u64 (length (log m))) × HasIndex (attempt_at n m.attempts)
NumbersHaveRoom m (v.Trim engine) = IsTrue (is_u64 (length (log m))) × IsTrue (is_u64 (suc (position m engine)))
NumbersHaveRoom m _ = Unit {0}

-- it holds at the opening
abbrev pub OpeningIsRanged : Type 0
OpeningIsRanged = (setup : Setup) (fs : List Function) (objects : List (List ℕ × Value)) → IsTrue (are_objects objects) → IsRanged fs (initial_machine setup objects)

-- and every event that a plan can have keeps it
abbrev pub EventsKeepRanges : Type 0
EventsKeepRanges =
    (setup : Setup) (fs : List Function) (m : Machine) (event : Event) → AreFunctions fs → IsTrue (is_event setup fs event) → IsTrue (has_bytes event) → NumbersHaveRoom m event
    → IsRanged fs m → IsRanged fs (apply_event setup fs m event).machine

-- So all is in range behind any events, of which there are fewer than 2^64.
abbrev pub RunsAreRanged : Type 0
RunsAreRanged =
    (setup : Setup) (fs : List Function) (objects : List (List ℕ × Value)) (events : List Event)
    → AreFunctions fs → IsTrue (are_objects objects) → AllByRecursion (λ e. IsTrue (is_event setup fs e)) events
    → AllByRecursion (λ e. IsTrue (has_bytes e)) events → length events < 2 ^ 64 → IsRanged fs (apply_events setup fs events (initial_machine setup objects)).machine
