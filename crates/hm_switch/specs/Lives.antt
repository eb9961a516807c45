-- What is kept of the invocations of some live records: where each stands, and the open ones by the seqnums of their
-- first Inits.
use Rattle.std.specs.Prelude.{◌≡◌, ℕ, ◌||◌, Bool, true, false, cond, List, [], ◌∷◌, ◌++◌, Option, Some, None, is_some, bytes_eq}
use Rattle.std.specs.Map.{lookup}
use Rattle.std.specs.Option.{option_or}
use Rattle.boki_types.specs.declared.body.Body.{Body}
use Rattle.boki_model.specs.Live.{Live}
use Rattle.boki_model.specs.LogLaws.{FallBelow}
use Rattle.boki_model.specs.Modes.{result_of}
use Rattle.log_folds.specs.Opens.{OpenInvocation, open_invocations}
use Rattle.hm_switch.specs.declared.marks.Mark.{Mark}
use Rattle.hm_switch.specs.declared.phase.Phase.{Phase}
use Rattle.hm_switch.specs.declared.phase.Phase.TheVariants.{Open, Ended}
use Rattle.hm_switch.specs.Marks.{Comes}

-- what is kept of a path
abbrev pub phase_in : List ℕ → List (List ℕ × Phase) → Option Phase
phase_in path phases = lookup (bytes_eq path) phases

-- since which seqnum an invocation is open: that of the first of its Inits
abbrev pub open_since : List ℕ → List OpenInvocation → Option ℕ
open_since path [] = None
open_since path (o ∷ os) = option_or (open_since path os) (cond (bytes_eq path o.path) (Some o.seq) None)

abbrev pub phase_of : Bool → Option ℕ → Option Phase
phase_of true since = Some Ended
phase_of false None = None
phase_of false (Some seq) = Some (Open seq)

abbrev pub phase_at : List ℕ → List (Live Body) → Option Phase
phase_at path records = phase_of (is_some (result_of path records)) (open_since path (open_invocations records))

abbrev pub since_in : Option Phase → Option ℕ
since_in (Some (Open seq)) = Some seq
since_in _ = None

-- Several Inits of one path may be live where they were sent without a condition. The first one tells since when it is
-- open.
abbrev pub has_path : List ℕ → List OpenInvocation → Bool
has_path path [] = false
has_path path (o ∷ os) = bytes_eq path o.path || has_path path os

abbrev pub first_inits : List OpenInvocation → List OpenInvocation
first_inits [] = []
first_inits (o ∷ os) = cond (has_path o.path os) (first_inits os) (o ∷ first_inits os)

-- by their seqnums, the oldest first
abbrev pub by_seqnum : List OpenInvocation → List (ℕ × List ℕ)
by_seqnum [] = []
by_seqnum (o ∷ os) = by_seqnum os ++ (o.seq, o.path) ∷ []

-- What is kept is that of these records.
pub record AreLives (records : List (Live Body)) (phases : List (List ℕ × Phase)) (opened : List (ℕ × List ℕ)) : Type 0 where
  pub phase : (path : List ℕ) → phase_in path phases ≡ phase_at path records
  pub opened_are : opened ≡ by_seqnum (first_inits (open_invocations records))
  -- their seqnums fall from the newest on
  pub end : ℕ
  pub falls : FallBelow end records

-- It goes on by a record that says this at a seqnum.
abbrev pub GoOn : ℕ → Mark → List (List ℕ × Phase) → List (ℕ × List ℕ) → List (List ℕ × Phase) → List (ℕ × List ℕ) → Type 0
GoOn seq mark phases opened new_phases new_opened =
    (x : Live Body) (records : List (Live Body)) → Comes seq mark x records → AreLives records phases opened
    → AreLives (x ∷ records) new_phases new_opened
