-- The rule over the published list.
use Rattle.std.specs.Prelude.{◌≡◌, ℕ, List, [], ◌∷◌, ◌++◌, Option, Some, None}
use mathlib.Core.Option.{some}
use mathlib.Core.List.{IsPrefix}
use lib.ListN.{get_elem?}
use Rattle.live_log.specs.History.{HistoryPrefix}
use Rattle.live_log.specs.declared.published_list.ListState.{ListState}
use Rattle.live_log.specs.declared.published_list.Step.{Step}

-- this prefix begins with what was seen, and is of the same history
abbrev pub CoversSeen : HistoryPrefix → Option HistoryPrefix → Type 0
CoversSeen x None = Unit {0}
CoversSeen x (Some k) = (k.book ≡ x.book) × IsPrefix k.log x.log

-- the list is the prefix of the history that it comes with, and begins with what each has seen
abbrev pub ListRuleHolds : ListState → List (Option HistoryPrefix) → Type 0
ListRuleHolds x views = (x.list ≡ x.prefix.log) × ((seat : ℕ) (v : Option HistoryPrefix) → get_elem? views seat ≡ some v → CoversSeen x.prefix v)

-- after the access the list y is seen
abbrev pub SeesState : Option HistoryPrefix → ListState → ListState → Option HistoryPrefix → Type 0
SeesState v x y w = (w ≡ Some y.prefix) × (y.list ≡ y.prefix.log) × CoversSeen y.prefix v

-- a new reader has seen nothing, and takes in what the writer knows
abbrev pub joined_view : Option HistoryPrefix → Option HistoryPrefix → Option HistoryPrefix
joined_view v w = w

-- one record more is published
abbrev pub applied : ListState → Step → ListState
applied r s = record { list = r.list ++ s.item ∷ []; prefix = s.prefix }

-- the list at a prefix of the history
abbrev pub state_of : HistoryPrefix → ListState
state_of k = record { list = k.log; prefix = k }
