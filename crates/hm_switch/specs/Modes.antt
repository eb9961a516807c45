-- What is kept of the modes of some live records: the current one, the pending switch, and each change of the mode that
-- invocations begin in, the oldest first.
use Rattle.std.specs.Prelude.{◌≡◌, ℕ, ◌<◌, nat_lt, cond, List, [], ◌∷◌, Option, option_map}
use Rattle.std.specs.List.{AllByRecursion}
use Rattle.std.specs.List.Sorted.{IsNonDecreasingBy}
use Rattle.lb_base.specs.declared.value.Mode.{Mode}
use Rattle.boki_types.specs.declared.body.Body.{Body}
use Rattle.boki_model.specs.Live.{Live}
use Rattle.boki_model.specs.LogLaws.{FallBelow}
use Rattle.boki_model.specs.Modes.{Switch, modes, mode_after}
use Rattle.boki_machine.specs.Step.{records_below}
use Rattle.hm_switch.specs.declared.marks.Mark.{Mark}
use Rattle.hm_switch.specs.declared.marks.Mark.TheVariants as m
use Rattle.hm_switch.specs.declared.change.Pending.{Pending}
use Rattle.hm_switch.specs.declared.change.Change.{Change}
use Rattle.hm_switch.specs.declared.phase.Phase.{Phase}
use Rattle.hm_switch.specs.Marks.{Comes}
use Rattle.hm_switch.specs.Lives.{AreLives}

abbrev pub switch_of : Pending → Switch
switch_of p = record { target = p.target; begun = p.begun }

abbrev pub pending_in : Option Pending → Option Switch
pending_in p = option_map switch_of p

-- the mode of the last change below a seqnum
abbrev pub mode_below : ℕ → Mode → List Change → Mode
mode_below seq mode [] = mode
mode_below seq mode (c ∷ cs) = mode_below seq (cond (nat_lt c.seq seq) c.mode mode) cs

pub record AreModes
    (first : Mode) (records : List (Live Body)) (current : Mode) (pending : Option Pending) (changes : List Change)
    : Type 0 where
  pub now : modes first records ≡ record { current = current; pending = pending_in pending }
  pub earlier : (seq : ℕ) → mode_below seq first changes ≡ mode_after first (records_below seq records)
  pub ascend : IsNonDecreasingBy (λ (c : Change). c.seq) changes
  pub within : (n : ℕ) → FallBelow n records → AllByRecursion (λ (c : Change). c.seq < n) changes

-- They go on by a record that says this at a seqnum.
abbrev pub ModesGoOn : ℕ → Mark → Mode → Option Pending → List Change → Mode → Option Pending → List Change → Type 0
ModesGoOn seq mark current pending changes new_current new_pending new_changes =
    (first : Mode) (x : Live Body) (records : List (Live Body)) → Comes seq mark x records
    → AreModes first records current pending changes
    → AreModes first (x ∷ records) new_current new_pending new_changes

-- And by a SwitchEnd, behind records of these invocations.
abbrev pub ModesEnd :
    ℕ → List (List ℕ × Phase) → List (ℕ × List ℕ) → Mode → Option Pending → List Change → Mode → Option Pending
    → List Change → Type 0
ModesEnd seq phases opened current pending changes new_current new_pending new_changes =
    (first : Mode) (x : Live Body) (records : List (Live Body)) → Comes seq m.SwitchEnd x records
    → AreLives records phases opened → AreModes first records current pending changes
    → AreModes first (x ∷ records) new_current new_pending new_changes
