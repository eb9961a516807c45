-- What a function that reads has answered.
use Rattle.std.specs.Prelude.{◌≡◌, ℕ, List, [], ◌∷◌, ◌++◌, Result, Ok, Err}
use Rattle.rec_codec.specs.declared.fault.Stop.{Stop}
use Rattle.rec_codec.specs.declared.fault.Stop.TheVariants as stop
use Rattle.rec_codec.specs.declared.fault.DecodeFault.{DecodeFault}
use Rattle.rec_codec.specs.declared.fault.DecodeFault.TheVariants as fault
use Rattle.rec_codec.specs.Reading.{◌>>=◌}

-- It is what reading gives, unless memory ran out.
abbrev pub StopsAs : {Y : Type 0} → Stop → Result Y ℕ → Type 0
StopsAs stop.Memory reading = Unit {0}
StopsAs (stop.Left left) reading = reading ≡ Err left

abbrev pub ReadsAs : {X Y : Type 0} → (X → Y) → Result X Stop → Result Y ℕ → Type 0
ReadsAs view (Ok x) reading = reading ≡ Ok (view x)
ReadsAs view (Err e) reading = StopsAs e reading

-- It never wants for memory.
abbrev pub IsLeft : Stop → Type 0
IsLeft stop.Memory = ⊥
IsLeft (stop.Left left) = Unit {0}

abbrev pub NeedsNoMemory : {X : Type 0} → Result X Stop → Type 0
NeedsNoMemory (Ok x) = Unit {0}
NeedsNoMemory (Err e) = IsLeft e

-- The same of a whole record, whose fault tells the offset.
abbrev pub IsFault : {Y : Type 0} → DecodeFault → Result Y ℕ → Type 0
IsFault fault.Memory reading = Unit {0}
IsFault (fault.Bad offset) reading = reading ≡ Err offset

abbrev pub Decodes : {Y : Type 0} → Result Y DecodeFault → Result Y ℕ → Type 0
Decodes (Ok body) reading = reading ≡ Ok body
Decodes (Err e) reading = IsFault e reading

-- what was read before, and what is still read
abbrev pub with_front : {A : Type 0} → List A → Result (List A × List ℕ) ℕ → Result (List A × List ℕ) ℕ
with_front front reading = reading >>= λ x. Ok (front ++ x.0, x.1)

-- what was read before, and one more
abbrev pub with_one : {A : Type 0} → List A → Result (A × List ℕ) ℕ → Result (List A × List ℕ) ℕ
with_one front reading = reading >>= λ x. Ok (front ++ x.0 ∷ [], x.1)
