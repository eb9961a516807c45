-- What users wrote is text: their records and their auxiliary data are UTF-8, where the texts of events are.
use Rattle.std.specs.Prelude.{◌≡◌, ℕ, List, Some}
use Rattle.std.specs.List.{AllByRecursion}
use Rattle.std.specs.Str.{IsUtf8}
use Rattle.lb_base.specs.declared.value.Value.{Value}
use Rattle.boki_types.specs.declared.body.Body.{Body}
use Rattle.boki_types.specs.declared.body.Body.TheVariants as b
use Rattle.boki_types.specs.declared.event.Event.{Event}
use Rattle.boki_types.specs.declared.event.Event.TheVariants as v
use Rattle.boki_types.specs.declared.plan.Setup.{Setup}
use Rattle.boki_types.specs.declared.program.Function.{Function}
use Rattle.boki_machine.specs.Machine.{Machine, view, user_text_at, aux_at, aux_of, initial_machine, apply_event}
use Rattle.exactly_once.specs.FurtherLaws.Words.{all_records}

-- what a user's record holds
abbrev pub HoldsUtf8 : Body → Type 0
HoldsUtf8 (b.User bytes) = IsUtf8 bytes
HoldsUtf8 _ = Unit {0}

pub record HasUtf8Texts (m : Machine) : Type 0 where
  -- of the records that were ever sent
  pub records : AllByRecursion (λ r. HoldsUtf8 r.holds) (all_records m.shards)
  -- and of each engine's auxiliary data
  pub aux : AllByRecursion (AllByRecursion (λ x. IsUtf8 x.text)) m.aux

-- an event's text
abbrev pub EventIsUtf8 : Event → Type 0
EventIsUtf8 (v.Append engine tags text) = IsUtf8 text
EventIsUtf8 (v.Cond engine place tags text) = IsUtf8 text
EventIsUtf8 (v.SetAux engine seq text) = IsUtf8 text
EventIsUtf8 _ = Unit {0}

abbrev pub OpeningIsText : Type 0
OpeningIsText = (setup : Setup) (objects : List (List ℕ × Value)) → HasUtf8Texts (initial_machine setup objects)

-- any event keeps it whose own text is one
abbrev pub EventsKeepTexts : Type 0
EventsKeepTexts =
    (setup : Setup) (fs : List Function) (m : Machine) (event : Event)
    → EventIsUtf8 event → HasUtf8Texts m → HasUtf8Texts (apply_event setup fs m event).machine

-- What lines say: the text of the record at a seqnum, and auxiliary data, as an engine has them.
pub record SeesTexts (m : Machine) (engine : ℕ) : Type 0 where
  pub found : (seq : ℕ) → IsUtf8 (user_text_at seq (view m engine))
  pub aux : (seq : ℕ) (text : List ℕ) → aux_at seq (aux_of m engine) ≡ Some text → IsUtf8 text

abbrev pub EnginesSeeTexts : Type 0
EnginesSeeTexts = (m : Machine) (engine : ℕ) → HasUtf8Texts m → SeesTexts m engine
