-- What a call of the program answers, and what it writes.
use Rattle.std.specs.Prelude.{◌≡◌, ℕ, List, [], ◌++◌, length, nat_lt, Option, Result, Ok, Err, if◌then◌else◌, codes}
use Rattle.std.specs.Fmt.{decimal}
use Rattle.lb_base.specs.Devices.{Appends, AppendsPrefix}
use Rattle.boki_types.specs.declared.kind.Kind.{Kind}
use Rattle.boki_types.specs.declared.kind.Kind.TheVariants as kind
use Rattle.boki_types.specs.Kinds.{kind_text}
use Rattle.line_text.specs.declared.fault.TextFault.{TextFault}
use Rattle.line_text.specs.declared.fault.TextFault.TheVariants as faults
use Rattle.call_base.specs.declared.status.Status.{Status}
use Rattle.call_base.specs.declared.status.Status.TheVariants.{Done, Refused, Usage, ReadFault, WriteFault, Memory}

-- the exit status of the process
abbrev pub status_code : Status → ℕ
status_code Done = 0
status_code (Refused line kind) = 1
status_code Usage = 2
status_code ReadFault = 3
status_code WriteFault = 4
status_code Memory = 5

-- a status that is due, and the text that comes with it
pub record Due : Type 0 where
  pub status : Status
  pub text : List ℕ

abbrev pub due : Status → List ℕ → Due
due s bytes = record { status = s; text = bytes }

abbrev pub usage : Due
usage = due Usage (codes "usage: boki run [--with I] [--json] | judge | check | make N [--plan] | live | flow | log | audit | mux\n")

-- the line `refused LINE KIND`
abbrev pub refusal : ℕ → Kind → Due
refusal n k = due (Refused n k) (codes "refused " ++ (decimal n ++ (codes " " ++ (kind_text k ++ codes "\n"))))

-- what is due on a text, by what it spells
abbrev pub due_by : {T : Type 0} → (T → Due) → Result T TextFault → Due
due_by f (Ok x) = f x
due_by f (Err (faults.Refused n k)) = refusal n k
due_by f (Err faults.Memory) = due Memory []

-- what is due on a text of at most so many bytes; a longer one is refused
abbrev pub within : ℕ → (List ℕ → Due) → List ℕ → Due
within limit f text = if nat_lt limit (length text) then refusal 0 kind.Length else f text

-- The status is the one that is due, with its whole text; but a fault or want of memory may come before: a fault of the source with nothing written, the others with a front of the text.
abbrev pub Meets : Status → Due → Option (List ℕ) → Option (List ℕ) → Type 0
Meets Done d old new = (d.status ≡ Done) × Appends old new d.text
Meets (Refused n k) d old new = (d.status ≡ Refused n k) × Appends old new d.text
Meets Usage d old new = (d.status ≡ Usage) × Appends old new d.text
Meets ReadFault d old new = Appends old new []
Meets WriteFault d old new = AppendsPrefix old new d.text
Meets Memory d old new = AppendsPrefix old new d.text

-- The sink keeps what it held and takes some bytes behind it, where it tells.
abbrev pub Grows : Option (List ℕ) → Option (List ℕ) → Type 0
Grows old new = (more : List ℕ) × Appends old new more

-- What is written under each status of a call that reads a text, whatever the text is: nothing under a fault of the source, and under a refusal its line.
abbrev pub Wrote : Status → Option (List ℕ) → Option (List ℕ) → Type 0
Wrote Done old new = Grows old new
Wrote (Refused n k) old new = Appends old new (refusal n k).text
Wrote Usage old new = Appends old new usage.text
Wrote ReadFault old new = Appends old new []
Wrote WriteFault old new = Grows old new
Wrote Memory old new = Grows old new
