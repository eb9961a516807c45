-- A SwitchEnd is sent where an engine sees a switch pend and no invocation open below its begin. Then the switch ends
-- with the first SwitchEnd that is ordered since, be it this one or another.
use Rattle.std.specs.Prelude.{◌≡◌, ℕ, ◌≤◌, ◌||◌, nat_le, Bool, true, false, cond, List, [], ◌∷◌, ◌++◌, length, Some, None}
use Rattle.lb_base.specs.declared.value.Mode.{Mode}
use Rattle.boki_types.specs.declared.body.Body.{Body}
use Rattle.boki_types.specs.declared.body.Body.TheVariants as b
use Rattle.boki_model.specs.Live.{LogRecord, Live, live, upto}
use Rattle.boki_model.specs.Modes.{Switch, modes, least_open, all_ended}

abbrev pub is_switch_end : Body → Bool
is_switch_end b.SwitchEnd = true
is_switch_end _ = false

-- a live SwitchEnd stands above the position
abbrev pub ended_since : ℕ → List (Live Body) → Bool
ended_since position [] = false
ended_since position (x ∷ xs) =
    cond (nat_le x.seq position) false (is_switch_end x.holds || ended_since position xs)

-- a record that ends a switch; like any SwitchEnd, without a condition
pub record IsEnd (r : LogRecord Body) : Type 0 where
  pub holds_is : r.holds ≡ b.SwitchEnd
  pub free : r.condition ≡ None

-- A SwitchEnd that is ordered next behind this list, where this switch pended at the position:
pub record SwitchEnds (first : Mode) (switch : Switch) (position : ℕ) (log : List (LogRecord Body)) : Type 0 where
  -- each invocation with its Init below the switch's begin has its Finish in the list
  pub ended : all_ended switch.begun (live log) ≡ true
  -- where no SwitchEnd was ordered since, the switch pends still, whatever else came, and this SwitchEnd counts
  pub pends : ended_since position (live log) ≡ false → (modes first (live log)).pending ≡ Some switch
  pub counts :
      (r : LogRecord Body) → IsEnd r → ended_since position (live log) ≡ false
      → modes first (live (r ∷ log)) ≡ record { current = switch.target; pending = None }
  -- in any case the switch pends no more, whatever is ordered behind it
  pub over :
      (r : LogRecord Body) (newer : List (LogRecord Body)) → IsEnd r
      → (modes first (live (newer ++ r ∷ log))).pending ≡ Some switch → ⊥

-- The engine looks at a position of an ordered list, and then further records are ordered before the SwitchEnd.
abbrev pub EndedSwitchesEnd : Type 0
EndedSwitchesEnd =
    (first : Mode) (log since : List (LogRecord Body)) (position : ℕ) (switch : Switch) → position ≤ length log
    → (modes first (upto position (live log))).pending ≡ Some switch
    → least_open switch.begun (upto position (live log)) ≡ None
    → SwitchEnds first switch position (since ++ log)
