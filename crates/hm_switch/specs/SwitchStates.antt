-- What a view of switches keeps, and the live records whose fold it is.
use Rattle.std.specs.Prelude.{◌≡◌, ℕ, ◌<◌, ◌≤◌, List, [], ◌∷◌, Option}
use Rattle.lb_base.specs.declared.value.Mode.{Mode}
use Rattle.boki_types.specs.declared.body.Body.{Body}
use Rattle.boki_model.specs.Live.{Live, upto}
use Rattle.boki_model.specs.Floor.{floor}
use Rattle.book_api.specs.Books.{BookState, position}
use Rattle.step_log.specs.Sound.{live_bodies, view}
use Rattle.hm_switch.specs.declared.change.Pending.{Pending}
use Rattle.hm_switch.specs.declared.change.Change.{Change}
use Rattle.hm_switch.specs.declared.marks.Mark.{Mark}
use Rattle.hm_switch.specs.declared.phase.Phase.{Phase}
use Rattle.hm_switch.specs.Marks.{Comes}
use Rattle.hm_switch.specs.Lives.{AreLives}
use Rattle.hm_switch.specs.Modes.{AreModes}

-- the first mode of the book, and how many ordered records were gone over; where each invocation stands, and the open
-- ones by the seqnums of their first Inits; the current mode, the pending switch, and the changes, the oldest first; and
-- the floor
pub record SwitchState : Type 0 where
  pub first : Mode
  pub position : ℕ
  pub phases : List (List ℕ × Phase)
  pub opened : List (ℕ × List ℕ)
  pub current : Mode
  pub pending : Option Pending
  pub changes : List Change
  pub bound : ℕ

-- It is the fold of these live records, the newest first.
pub record IsFoldOf (records : List (Live Body)) (s : SwitchState) : Type 0 where
  pub lives : AreLives records s.phases s.opened
  pub modes : AreModes s.first records s.current s.pending s.changes
  pub bound_is : s.bound ≡ floor records

-- It has gone over nothing.
pub record IsNew (first : Mode) (s : SwitchState) : Type 0 where
  pub first_is : s.first ≡ first
  pub position_is : s.position ≡ 0
  pub fold : IsFoldOf [] s

-- It has gone some way over what an engine sees, or all of it.
pub record Follows (book : BookState) (engine : ℕ) (s : SwitchState) : Type 0 where
  pub within : s.position ≤ position book engine
  pub fold : IsFoldOf (upto s.position (live_bodies book)) s

pub record IsCurrent (book : BookState) (engine : ℕ) (s : SwitchState) : Type 0 where
  pub follows : Follows book engine s
  pub fold : IsFoldOf (view book engine) s

-- It goes on by a record that says this at a seqnum.
pub record Takes (seq : ℕ) (mark : Mark) (old new : SwitchState) : Type 0 where
  pub first_stays : new.first ≡ old.first
  pub position_is : new.position ≡ seq
  pub folds :
      (x : Live Body) (records : List (Live Body)) → Comes seq mark x records → IsFoldOf records old
      → IsFoldOf (x ∷ records) new

-- It has gone on by one marked record at least, or over all.
pub record GoesOn (book : BookState) (engine : ℕ) (old new : SwitchState) : Type 0 where
  pub first_stays : new.first ≡ old.first
  pub follows : Follows book engine new
  pub rises : old.position < new.position

-- It has gone on over all.
pub record ComesTo (book : BookState) (engine : ℕ) (old new : SwitchState) : Type 0 where
  pub first_stays : new.first ≡ old.first
  pub current : IsCurrent book engine new
