-- What is due of `live` on a text. The order of the appends of several workers is free, so that a text has many outputs.
use Rattle.std.specs.Prelude.{◌≡◌, ℕ, List, [], Option, Result, Ok, Err}
use Rattle.line_text.specs.declared.fault.TextFault.{TextFault}
use Rattle.line_text.specs.declared.fault.TextFault.TheVariants as faults
use Rattle.call_base.specs.declared.status.Status.{Status}
use Rattle.call_base.specs.declared.status.Status.TheVariants.{Done, Memory}
use Rattle.call_base.specs.Due.{Due, due, refusal, Meets}
use Rattle.live_text.specs.declared.text.LiveText.{LiveText}
use Rattle.live_text.specs.Printed.{IsOutputOf}
use Rattle.live_text.specs.Reading.{live_text_of}

-- an output that is right for the live text, with the status Done
abbrev pub IsOutputDue : LiveText → Due → Type 0
IsOutputDue text d = (output : List ℕ) × IsOutputOf text output × (d ≡ due Done output)

-- what is due by what a text spells: such an output, or the refusal
abbrev pub IsDueBy : Result LiveText TextFault → Due → Type 0
IsDueBy (Ok text) d = IsOutputDue text d
IsDueBy (Err (faults.Refused n k)) d = d ≡ refusal n k
IsDueBy (Err faults.Memory) d = d ≡ due Memory []

-- The status and what is written are those of something that is due on the text.
abbrev pub MeetsLive : Status → List ℕ → Option (List ℕ) → Option (List ℕ) → Type 0
MeetsLive s text old new = (d : Due) × IsDueBy (live_text_of text) d × Meets s d old new

-- the same of a live text
abbrev pub MeetsOutput : Status → LiveText → Option (List ℕ) → Option (List ℕ) → Type 0
MeetsOutput s text old new = (d : Due) × IsOutputDue text d × Meets s d old new
