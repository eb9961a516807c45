-- What a closed log says of its engines.
use Rattle.std.specs.Prelude.{◌≡◌, ℕ, ◌+◌, ◌<◌, ◌≤◌, ◌==◌, cond, List, [], ◌∷◌, length, All, Any}
use mathlib.Core.List.{IsPrefix}
use Rattle.logbook.specs.Pages.{Book}
use Rattle.live_log.specs.Appended.{Appended}
use Rattle.live_log.specs.Engines.{records_in, Engine, AscendingBy, EachAtIndex}

-- the records of one engine in a list that begins at this index, with their indexes
abbrev pub appends_in : ℕ → ℕ → List Appended → List (ℕ × Appended)
appends_in who from [] = []
appends_in who from (x ∷ xs) = cond (x.0 == who) ((from, x) ∷ appends_in who (from + 1) xs) (appends_in who (from + 1) xs)

-- these are engines in the order of their numbers, from this one on
abbrev pub NumberedFrom : ℕ → List Engine → Type 0
NumberedFrom from [] = Unit {0}
NumberedFrom from (e ∷ es) = (e.number ≡ from) × NumberedFrom (from + 1) es

-- the list, cut down to each engine, is its own appends, and it begins with what that engine had seen
abbrev pub HasAllAppends : List Appended → List Engine → Type 0
HasAllAppends list [] = Unit {0}
HasAllAppends list (e ∷ es) = (appends_in e.number 0 list ≡ e.appends) × IsPrefix e.seen list × HasAllAppends list es

-- of an engine before and after: what it has seen and its position may have grown
abbrev pub IsLater : Engine → Engine → Type 0
IsLater e f = (f.number ≡ e.number) × (f.appends ≡ e.appends) × IsPrefix e.seen f.seen × (e.position ≤ f.position)

-- it has seen this list too, and copied all that it has seen
abbrev pub IsCaughtUp : List Appended → Engine → Engine → Type 0
IsCaughtUp list e f = IsLater e f × IsPrefix list f.seen × (f.position ≡ length f.seen) × (f.known ≡ f.seen)

-- two lists as long as each other, and the relation holds of each two that stand at one index
abbrev pub Pointwise : (Engine → Engine → Type 0) → List Engine → List Engine → Type 0
Pointwise R [] [] = Unit {0}
Pointwise R [] (f ∷ fs) = ⊥
Pointwise R (e ∷ es) [] = ⊥
Pointwise R (e ∷ es) (f ∷ fs) = R e f × Pointwise R es fs

-- a new engine
abbrev pub new_engine : ℕ → Engine
new_engine n = record { number = n; seen = []; known = []; position = 0; appends = [] }

-- new engines with the numbers from this one on
abbrev pub NewEngines : ℕ → List Engine → Type 0
NewEngines from [] = Unit {0}
NewEngines from (e ∷ es) = (e ≡ new_engine from) × NewEngines (from + 1) es

-- what was opened: the history of its list, the names of the ledgers, and how many engines there are
pub record LogNames : Type 0 where
  pub book : Book
  pub names : List ℕ
  pub engines : ℕ

-- each engine's appends rise, and stand in what it has seen or learned of
abbrev pub EachSound : List Engine → Type 0
EachSound [] = Unit {0}
EachSound (e ∷ es) = AscendingBy e.number 0 e.appends × EachAtIndex e.known e.appends × EachSound es

-- the list, cut down to each engine, is its own appends
abbrev pub EachHasAppends : List Appended → List Engine → Type 0
EachHasAppends list [] = Unit {0}
EachHasAppends list (e ∷ es) = (appends_in e.number 0 list ≡ e.appends) × EachHasAppends list es

-- each engine has seen just this list, and looked after it last learned
abbrev pub EachHasSeen : List Appended → List Engine → Type 0
EachHasSeen list [] = Unit {0}
EachHasSeen list (e ∷ es) = (e.seen ≡ list) × (e.known ≡ list) × EachHasSeen list es

-- of the engines whose position is above this number, the one with the least number has this number and position
abbrev pub IsLeastAhead : ℕ → List Engine → ℕ → ℕ → Type 0
IsLeastAhead most engines who seen =
    Any (λ e. (most < e.position) × (who ≡ e.number) × (seen ≡ e.position)) engines
    × All (λ e. most < e.position → who ≤ e.number) engines

-- each record is by an engine with a number up to this one
abbrev pub EachByEngine : ℕ → List Appended → Type 0
EachByEngine engines [] = Unit {0}
EachByEngine engines (x ∷ xs) = (1 ≤ x.0) × (x.0 ≤ engines) × EachByEngine engines xs

-- each engine appended as many records as the list has of it
abbrev pub EachCounted : List Appended → List Engine → Type 0
EachCounted list [] = Unit {0}
EachCounted list (e ∷ es) = (length e.appends ≡ records_in e.number list) × EachCounted list es
