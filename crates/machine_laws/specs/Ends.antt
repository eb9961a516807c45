-- An invocation's Finish is its last live step record, so that one look at the newest record of its step tag
-- tells its result.
use Rattle.std.specs.Prelude.{◌≡◌, ℕ, ◌-◌, ◌≤◌, cond, List, [], ◌∷◌, Option, Some, None, option_map, slice_get}
use Rattle.lb_base.specs.declared.value.Outcome.{Outcome}
use Rattle.boki_types.specs.declared.body.Body.{Body}
use Rattle.boki_types.specs.declared.plan.Setup.{Setup}
use Rattle.boki_types.specs.declared.program.Function.{Function}
use Rattle.boki_model.specs.Live.{Live, has_tag, count}
use Rattle.boki_model.specs.Reads.{tagged_seqnums, nth}
use Rattle.boki_model.specs.Bodies.{step_tag, step_of}
use Rattle.boki_model.specs.Modes.{finish_of, result_of}
use Rattle.boki_machine.specs.Machine.{Machine, live_records, view}
use Rattle.exactly_once.specs.Induction.EventKeeps.{MachineHolds}
use Rattle.exactly_once.specs.FurtherLaws.EndedInvocations.{EndIsLast}
use Rattle.exactly_once.specs.FurtherLaws.StoreBound.{Finishes}
use Rattle.exactly_once.specs.FurtherLaws.Words.{IsAmong}

-- the newest record that carries the tag
abbrev pub last_tagged : {A : Type 0} → ℕ → List (Live A) → Option (Live A)
last_tagged tag [] = None
last_tagged tag (x ∷ xs) = cond (has_tag tag x.tags) (Some x) (last_tagged tag xs)

-- its two other forms: the record at the last place of the tag, and the first of the tag's seqnums, of which the
-- newest stands first
pub record IsLastTagged {A : Type 0} (tag : ℕ) (xs : List (Live A)) : Type 0 where
  pub at_place : nth tag (count tag xs - 1) xs ≡ last_tagged tag xs
  pub seqnum : slice_get (tagged_seqnums tag xs) 0 ≡ option_map (λ x. x.seq) (last_tagged tag xs)

abbrev pub LastIsTagged : Type 0 → Type 0
LastIsTagged A = (tag : ℕ) (xs : List (Live A)) → IsLastTagged tag xs

-- the result of the path in a record that is there, where it is the path's Finish
abbrev pub finish_in : List ℕ → Option (Live Body) → Option Outcome
finish_in path None = None
finish_in path (Some x) = finish_of path x.holds

-- Of live records:
pub record EndsLast (path : List ℕ) (records : List (Live Body)) : Type 0 where
  -- no step record of the path comes behind its Finish
  pub last :
      (x y : Live Body) (index : ℕ) → Finishes path records x → IsAmong y records
      → step_of y.holds ≡ Some (path, index) → y.seq ≤ x.seq
  -- so the result of the path is that in the last record of its step tag
  pub result : result_of path records ≡ finish_in path (last_tagged (step_tag path) records)

-- The live records of a machine that holds the invariant, and those that an engine sees; of any path. Behind a Finish
-- each step record of the ordered list is dead, also within one cut.
pub record FinishesAreLast (m : Machine) (path : List ℕ) : Type 0 where
  pub whole : EndsLast path (live_records m)
  pub seen : (engine : ℕ) → EndsLast path (view m engine)
  pub ordered : EndIsLast m path

abbrev pub HoldingEndsLast : Type 0
HoldingEndsLast =
    (setup : Setup) (fs : List Function) (m : Machine) (path : List ℕ) → MachineHolds setup fs m
    → FinishesAreLast m path
