-- Every Trim of a machine counts: its bound was chosen by an engine's view, and so it counts wherever it is ordered.
use Rattle.std.specs.Prelude.{◌≡◌, ℕ, ◌≤◌, max, List, [], ◌∷◌, length}
use Rattle.std.specs.List.{AllByRecursion}
use Rattle.lb_base.specs.declared.value.Value.{Value}
use Rattle.boki_types.specs.declared.body.Body.{Body}
use Rattle.boki_types.specs.declared.body.Body.TheVariants as b
use Rattle.boki_types.specs.declared.event.Event.{Event}
use Rattle.boki_types.specs.declared.plan.Setup.{Setup}
use Rattle.boki_types.specs.declared.program.Function.{Function}
use Rattle.boki_model.specs.Live.{LogRecord, Live, live, upto}
use Rattle.boki_model.specs.Floor.{counted_trim, floor, trim_limit}
use Rattle.boki_machine.specs.Machine.{Machine, log, live_records, view, initial_machine, apply_event}
use Rattle.exactly_once.specs.Induction.EventKeeps.{MachineHolds}
use Rattle.exactly_once.specs.FurtherLaws.Words.{all_records}

-- what a record trims up to
abbrev pub bound_of : Body → ℕ
bound_of (b.Trim w) = w
bound_of _ = 0

abbrev pub greatest_bound : List (Live Body) → ℕ
greatest_bound [] = 0
greatest_bound (x ∷ xs) = max (bound_of x.holds) (greatest_bound xs)

-- each Trim counts where it stands
abbrev pub AllCount : List (Live Body) → Type 0
AllCount [] = Unit {0}
AllCount (x ∷ xs) = (counted_trim x.holds x.seq xs ≡ bound_of x.holds) × AllCount xs

-- At some position of the list an engine was allowed this bound.
pub record IsChosen (log : List (LogRecord Body)) (w : ℕ) : Type 0 where
  pub position : ℕ
  pub within : position ≤ length log
  pub chosen : w ≡ trim_limit position (upto position (live log))

abbrev pub ChoseBound : List (LogRecord Body) → Body → Type 0
ChoseBound log (b.Trim w) = IsChosen log w
ChoseBound log _ = Unit {0}

-- Of a machine:
pub record TrimsAreChosen (m : Machine) : Type 0 where
  -- each Trim that was ever sent was chosen so
  pub sent : AllByRecursion (λ r. ChoseBound (log m) r.holds) (all_records m.shards)
  -- and those that are ordered count
  pub ordered : AllCount (live_records m)

abbrev pub OpeningIsChosen : Type 0
OpeningIsChosen = (setup : Setup) (objects : List (List ℕ × Value)) → TrimsAreChosen (initial_machine setup objects)

abbrev pub EventsKeepChosen : Type 0
EventsKeepChosen =
    (setup : Setup) (fs : List Function) (m : Machine) (event : Event) → MachineHolds setup fs m
    → TrimsAreChosen m → TrimsAreChosen (apply_event setup fs m event).machine

-- Of live records: each Trim counts, and the floor is the greatest bound.
pub record FloorIsGreatest (records : List (Live Body)) : Type 0 where
  pub count : AllCount records
  pub floor_is : floor records ≡ greatest_bound records

pub record AllTrimsCount (m : Machine) : Type 0 where
  pub whole : FloorIsGreatest (live_records m)
  pub seen : (engine : ℕ) → FloorIsGreatest (view m engine)

abbrev pub ChosenCount : Type 0
ChosenCount = (m : Machine) → TrimsAreChosen m → AllTrimsCount m

abbrev pub EveryTrimCounts : Setup → List Function → Machine → Type 0
EveryTrimCounts setup fs m = AllTrimsCount m
