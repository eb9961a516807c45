-- What a source gives and a sink takes, and how often they failed.
use Rattle.std.specs.Prelude.{◌≡◌, ℕ, ◌+◌, ◌-◌, ◌^◌, ◌≤◌, min, List, [], ◌++◌, length, take, Option, Some, IfSome, IsSomeAnd}
use Rattle.lb_base.specs.declared.devices.Taken.{Taken}
use Rattle.lb_base.specs.declared.devices.Taken.TheVariants as taken
use Rattle.lb_base.specs.declared.devices.Given.{Given}
use Rattle.lb_base.specs.declared.devices.Given.TheVariants as given

-- A count rose, or stands at its greatest value.
abbrev pub CountRose : ℕ → ℕ → Type 0
CountRose before now = min (before + 1) (2 ^ 64 - 1) ≤ now

-- From old to new the source gave these bytes, where it tells.
abbrev pub Gave : Option (List ℕ) → Option (List ℕ) → List ℕ → Type 0
Gave old new bytes = IfSome old (λ left. IsSomeAnd new (λ rest. left ≡ bytes ++ rest))

-- Nothing is left, where the source tells.
abbrev pub IsAtEnd : Option (List ℕ) → Type 0
IsAtEnd old = IfSome old (λ left. left ≡ [])

-- What a call of take says of the bytes: the next n are at the start of the piece, and 0 comes only at the end.
abbrev pub Moves : Option (List ℕ) → Option (List ℕ) → Taken → List ℕ → Type 0
Moves old new taken.Failed piece = Unit {0}
Moves old new (taken.Bytes n) piece = (n ≤ length piece) × Gave old new (take n piece) × (n ≡ 0 → IsAtEnd old)

-- From old to new the sink took these bytes, where it tells.
abbrev pub Appends : Option (List ℕ) → Option (List ℕ) → List ℕ → Type 0
Appends old new more = IfSome old (λ held. new ≡ Some (held ++ more))

-- It took a prefix of these bytes, where it tells.
abbrev pub AppendsPrefix : Option (List ℕ) → Option (List ℕ) → List ℕ → Type 0
AppendsPrefix old new more = (taken_bytes rest : List ℕ) × (more ≡ taken_bytes ++ rest) × Appends old new taken_bytes

-- What a call of put says of the bytes: a prefix of the piece is taken, or nothing.
abbrev pub Puts : Option (List ℕ) → Option (List ℕ) → Given → List ℕ → Type 0
Puts old new given.Failed piece = Appends old new []
Puts old new (given.Bytes n) piece = (1 ≤ n) × (n ≤ length piece) × Appends old new (take n piece)

-- What fits without memory falls by at most what was taken.
abbrev pub KeepsRoom : ℕ → ℕ → Given → Type 0
KeepsRoom before now given.Failed = before ≤ now
KeepsRoom before now (given.Bytes n) = before ≤ now + n
