-- What the calls that send records answer.
use Rattle.std.specs.Prelude.{◌≡◌, ℕ, List, Option, Some, None}
use Rattle.lb_base.specs.declared.value.Mode.{Mode}
use Rattle.lb_base.specs.declared.value.Seqnum.{Seqnum}
use Rattle.boki_types.specs.declared.body.Body.TheVariants as b
use Rattle.boki_types.specs.declared.log.Ending.{Ending}
use Rattle.boki_types.specs.declared.log.Ending.TheVariants as e
use Rattle.boki_types.specs.declared.log.Sent.{Sent}
use Rattle.boki_model.specs.Modes.{Switch, modes, least_open}
use Rattle.boki_model.specs.Floor.{trim_limit}
use Rattle.book_api.specs.Books.{BookState, position}
use Rattle.step_log.specs.Sound.{view, IsBodySent}

-- A switch pends in the view, and this is the least path with its Init below the switch's begin and no Finish.
pub record Pends (first : Mode) (engine : ℕ) (book : BookState) (least : Option (List ℕ)) : Type 0 where
  pub switch : Switch
  pub pending : (modes first (view book engine)).pending ≡ Some switch
  pub least_is : least_open switch.begun (view book engine) ≡ least

-- The end of a switch was sent where one pends and no invocation is open below its begin; else nothing was sent.
abbrev pub IsEnding : Mode → ℕ → BookState → BookState → Ending → Type 0
IsEnding first engine old new (e.Sent sent) = Pends first engine old None × IsBodySent engine None b.SwitchEnd old new sent
IsEnding first engine old new e.Idle = ((modes first (view old engine)).pending ≡ None) × (new ≡ old)
IsEnding first engine old new (e.Unfinished path) = Pends first engine old (Some path) × (new ≡ old)

-- A Trim of this bound was sent, and this is where it stands.
pub record IsTrimSent (engine : ℕ) (old new : BookState) (r : Sent × Seqnum) : Type 0 where
  pub bound : r.1.0 ≡ trim_limit (position old engine) (view old engine)
  pub sent : IsBodySent engine None (b.Trim r.1.0) old new r.0
