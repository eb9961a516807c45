-- The invocations that are open behind some records: those with an Init and no Finish among them, each with
-- the seqnum of its Init, the newest first. They are kept record by record, and the modes and the floor
-- with them.
use Rattle.std.specs.Prelude.{◌≡◌, ℕ, ◌&&◌, not, nat_le, nat_lt, max, Bool, cond, List, [], ◌∷◌, Option, Some, None, is_some, bytes_eq}
use Rattle.std.specs.List.{filter, list_all}
use Rattle.lb_base.specs.declared.value.Mode.{Mode}
use Rattle.boki_types.specs.declared.body.Body.{Body}
use Rattle.boki_types.specs.declared.body.Body.TheVariants as b
use Rattle.boki_model.specs.Live.{Live}
use Rattle.std.specs.Option.{option_or}
use Rattle.boki_model.specs.Writes.{prepend_some}
use Rattle.boki_model.specs.Modes.{Switch, Modes, init_path, result_of, lesser_path, least_open, all_ended, begin_switch, modes}
use Rattle.boki_model.specs.Floor.{floor, first_open}

-- an open invocation: the seqnum of its Init, and its path
pub record OpenInvocation : Type 0 where
  pub seq : ℕ
  pub path : List ℕ

abbrev pub if_open : List (Live Body) → ℕ → Option (List ℕ) → Option OpenInvocation
if_open records seq None = None
if_open records seq (Some p) =
    cond (is_some (result_of p records)) None (Some (record { seq = seq; path = p }))

-- those of the Inits that have no Finish among the records
abbrev pub open_in : List (Live Body) → List (Live Body) → List OpenInvocation
open_in records [] = []
open_in records (x ∷ xs) = prepend_some (if_open records x.seq (init_path x.holds)) (open_in records xs)

abbrev pub open_invocations : List (Live Body) → List OpenInvocation
open_invocations records = open_in records records

-- One record more: an Init opens its invocation, where that has no Finish yet, and a Finish closes its own.
abbrev pub open_after : ℕ → List (Live Body) → Body → List OpenInvocation → List OpenInvocation
open_after seq past (b.Init p) os = cond (is_some (result_of p past)) os (record { seq = seq; path = p } ∷ os)
open_after seq past (b.Finish p i outcome) os = filter (λ o. not (bytes_eq p o.path)) os
open_after seq past _ os = os

-- none began below a seqnum
abbrev pub none_open_below : ℕ → List OpenInvocation → Bool
none_open_below n os = list_all (λ o. not (nat_lt o.seq n)) os

-- the least path of those that began below a seqnum
abbrev pub least_open_below : ℕ → List OpenInvocation → Option (List ℕ)
least_open_below n [] = None
least_open_below n (o ∷ os) = lesser_path (cond (nat_lt o.seq n) (Some o.path) None) (least_open_below n os)

-- the seqnum of the one that began first
abbrev pub first_open_seqnum : List OpenInvocation → Option ℕ
first_open_seqnum [] = None
first_open_seqnum (o ∷ os) = option_or (first_open_seqnum os) (Some o.seq)

-- a switch or a trim behind records with these open
abbrev pub ends_switch_by : List OpenInvocation → Modes → Option Switch → Modes
ends_switch_by os m None = m
ends_switch_by os m (Some s) = cond (none_open_below s.begun os) (record { current = s.target; pending = None }) m

abbrev pub modes_by_open : Body → ℕ → List OpenInvocation → Modes → Modes
modes_by_open (b.SwitchBegin target) seq os m = begin_switch target seq m m.pending
modes_by_open b.SwitchEnd seq os m = ends_switch_by os m m.pending
modes_by_open _ seq os m = m

abbrev pub counted_by_open : Body → ℕ → List OpenInvocation → ℕ
counted_by_open (b.Trim w) seq os = cond (nat_le w seq && none_open_below w os) w 0
counted_by_open _ seq os = 0

pub record AreKept (records : List (Live Body)) : Type 0 where
  -- what they say
  pub ended : (n : ℕ) → all_ended n records ≡ none_open_below n (open_invocations records)
  pub least : (n : ℕ) → least_open n records ≡ least_open_below n (open_invocations records)
  pub first : first_open records records ≡ first_open_seqnum (open_invocations records)
  -- one record more
  pub more_open : (x : Live Body) → open_invocations (x ∷ records) ≡ open_after x.seq records x.holds (open_invocations records)
  pub more_modes :
      (first : Mode) (x : Live Body)
      → modes first (x ∷ records) ≡ modes_by_open x.holds x.seq (open_invocations records) (modes first records)
  pub more_floor :
      (x : Live Body) → floor (x ∷ records) ≡ max (counted_by_open x.holds x.seq (open_invocations records)) (floor records)

abbrev pub OpensAreKept : Type 0
OpensAreKept = (records : List (Live Body)) → AreKept records
