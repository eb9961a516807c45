-- Requests that were sent: each comes from an event that a plan can have, and its texts are UTF-8 where the event's are.
use Rattle.std.specs.Prelude.{ℕ, IsTrue, List, length, slice_index}
use Rattle.std.specs.List.{list_all, AllByRecursion}
use Rattle.std.specs.Str.{IsUtf8}
use Rattle.lb_base.specs.declared.value.Value.{Value}
use Rattle.lb_base.specs.declared.value.Value.TheVariants.{Text}
use Rattle.lb_base.specs.Path.{is_request}
use Rattle.boki_types.specs.declared.body.Body.{Body}
use Rattle.boki_types.specs.declared.body.Body.TheVariants as b
use Rattle.boki_types.specs.declared.event.Event.{Event}
use Rattle.boki_types.specs.declared.event.Event.TheVariants as v
use Rattle.boki_types.specs.declared.plan.Setup.{Setup}
use Rattle.boki_types.specs.declared.program.Function.{Function}
use Rattle.boki_types.specs.Finding.{find}
use Rattle.boki_model.specs.Bodies.{is_value}
use Rattle.boki_model.specs.Plans.{distinct, function_names, has_arity, known_function, is_event}
use Rattle.boki_machine.specs.Machine.{Machine, initial_machine, apply_event}
use Rattle.exactly_once.specs.FurtherLaws.Words.{all_records}

-- the text of a value
abbrev pub IsUtf8Value : Value → Type 0
IsUtf8Value (Text bytes) = IsUtf8 bytes
IsUtf8Value _ = Unit {0}

abbrev pub AreUtf8Values : List Value → Type 0
AreUtf8Values values = AllByRecursion IsUtf8Value values

-- the texts of an event that a turn can have: those among the arguments of a request
abbrev pub SubmitsUtf8 : Event → Type 0
SubmitsUtf8 (v.Submit engine request f args) = AreUtf8Values args
SubmitsUtf8 _ = Unit {0}

-- a request calls a function of the program, with as many arguments as that has parameters
pub record IsRequest (fs : List Function) (path : List ℕ) (name : List ℕ) (args : List Value) : Type 0 where
  pub number : IsTrue (is_request (slice_index path 0))
  pub values : IsTrue (list_all is_value args)
  pub known : IsTrue (has_arity (length args) (known_function fs (find name fs)))
  pub texts : AreUtf8Values args

abbrev pub IsValidSubmit : List Function → Body → Type 0
IsValidSubmit fs (b.Submit path name args) = IsRequest fs path name args
IsValidSubmit fs _ = Unit {0}

-- all that were ever sent
abbrev pub AllSubmitsValid : List Function → Machine → Type 0
AllSubmitsValid fs m = AllByRecursion (λ r. IsValidSubmit fs r.holds) (all_records m.shards)

-- Every event that a plan can have keeps this, where its texts are UTF-8 and no two functions share a name.
abbrev pub RequestsStay : Type 0
RequestsStay =
    (setup : Setup) (fs : List Function) (m : Machine) (event : Event)
    → IsTrue (distinct (function_names fs)) → IsTrue (is_event setup fs event) → SubmitsUtf8 event
    → AllSubmitsValid fs m → AllSubmitsValid fs (apply_event setup fs m event).machine

abbrev pub NoneAtFirst : Type 0
NoneAtFirst =
    (setup : Setup) (fs : List Function) (objects : List (List ℕ × Value)) → AllSubmitsValid fs (initial_machine setup objects)
