-- The faults of a text.
use Rattle.std.specs.Prelude.{◌≡◌, ℕ, Option, Some, None, Result, Ok, Err}
use Rattle.boki_types.specs.declared.kind.Kind.{Kind}
use Rattle.line_text.specs.declared.fault.TextFault.{TextFault}
use Rattle.line_text.specs.declared.fault.TextFault.TheVariants as faults
use Rattle.line_text.specs.declared.fault.LineFault.{LineFault}
use Rattle.line_text.specs.declared.fault.LineFault.TheVariants as line_faults

-- What a call gave is what reading gives, unless memory ran out.
abbrev pub LineFails : {Y : Type 0} → LineFault → Result Y Kind → Type 0
LineFails line_faults.Memory read = Unit {0}
LineFails (line_faults.Refused k) read = read ≡ Err k

abbrev pub LineGives : {X : Type 0} → Result X LineFault → Result X Kind → Type 0
LineGives (Ok x) read = read ≡ Ok x
LineGives (Err e) read = LineFails e read

abbrev pub refused_at : ℕ → Kind → TextFault
refused_at n k = faults.Refused n k

-- What a call gave is what the text says, unless memory ran out.
abbrev pub Fails : {Y : Type 0} → TextFault → Result Y TextFault → Type 0
Fails faults.Memory read = Unit {0}
Fails (faults.Refused n k) read = read ≡ Err (faults.Refused n k)

abbrev pub Gives : {X : Type 0} → Result X TextFault → Result X TextFault → Type 0
Gives (Ok x) read = read ≡ Ok x
Gives (Err e) read = Fails e read

-- what a call gave is what a line with this number says
abbrev pub AddFails : {D : Type 0} → TextFault → ℕ → Result D Kind → Type 0
AddFails faults.Memory n read = Unit {0}
AddFails (faults.Refused m k) n read = (m ≡ n) × (read ≡ Err k)

abbrev pub AddGives : {D : Type 0} → Result D TextFault → ℕ → Result D Kind → Type 0
AddGives (Ok d) n read = read ≡ Ok d
AddGives (Err e) n read = AddFails e n read

-- the fault of a line with this number
abbrev pub fault_at_line : ℕ → LineFault → TextFault
fault_at_line n (line_faults.Refused k) = faults.Refused n k
fault_at_line n line_faults.Memory = faults.Memory

-- what the second pass finds first
abbrev pub first_fault : Option (ℕ × Kind) → ℕ → Option Kind → Option (ℕ × Kind)
first_fault (Some fault) n found = Some fault
first_fault None n None = None
first_fault None n (Some found) = Some (n, found)
