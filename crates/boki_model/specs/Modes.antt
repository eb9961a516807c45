-- The statement of the central theorem rests on this file.
-- The mode of the book. A SwitchBegin(target) at b counts where no switch is pending and the target differs from the current
-- mode; then a switch is pending. A SwitchEnd at e counts where a switch is pending and every invocation with its Init below
-- the switch's begin has its Finish below e; then the target is current. The mode of an invocation is fixed at its Init: T
-- where a switch is pending there, else the current mode.
-- All of these go over live records, the newest first.
use Rattle.std.specs.Prelude.{ℕ, ◌&&◌, not, nat_lt, Bool, true, false, if◌then◌else◌, List, [], ◌∷◌, Option, Some, None, is_some, bytes_eq}
use Rattle.lb_base.specs.declared.value.Mode.{Mode}
use Rattle.lb_base.specs.declared.value.Mode.TheVariants.{R, W, T}
use Rattle.lb_base.specs.declared.value.Outcome.{Outcome}
use Rattle.boki_types.specs.declared.body.Body.{Body}
use Rattle.boki_types.specs.declared.body.Body.TheVariants as body
use Rattle.boki_model.specs.Live.{Live}
use Rattle.std.specs.Option.{option_or}
use Rattle.boki_model.specs.Maps.{before}

abbrev pub same_mode : Mode → Mode → Bool
same_mode R R = true
same_mode W W = true
same_mode T T = true
same_mode _ _ = false

-- the path of an Init, and that of a Finish with its result
abbrev pub init_path : Body → Option (List ℕ)
init_path (body.Init p) = Some p
init_path _ = None

abbrev pub finish_of : List ℕ → Body → Option Outcome
finish_of path (body.Finish p i outcome) = if bytes_eq path p then Some outcome else None
finish_of path _ = None

-- the result of the path's first Finish
abbrev pub result_of : List ℕ → List (Live Body) → Option Outcome
result_of path [] = None
result_of path (x ∷ xs) = option_or (result_of path xs) (finish_of path x.holds)

-- the path of an Init below b that has no Finish among the records
abbrev pub open_path : ℕ → List (Live Body) → ℕ → Option (List ℕ) → Option (List ℕ)
open_path begin records seq None = None
open_path begin records seq (Some p) = if nat_lt seq begin && not (is_some (result_of p records)) then Some p else None

-- the lesser of two paths, where they are there
abbrev pub lesser_path : Option (List ℕ) → Option (List ℕ) → Option (List ℕ)
lesser_path None other = other
lesser_path (Some p) None = Some p
lesser_path (Some p) (Some q) = if before q p then Some q else Some p

-- the least path with an Init below b and no Finish among the records
abbrev pub least_open_in : ℕ → List (Live Body) → List (Live Body) → Option (List ℕ)
least_open_in begin records [] = None
least_open_in begin records (x ∷ xs) = lesser_path (open_path begin records x.seq (init_path x.holds)) (least_open_in begin records xs)

abbrev pub least_open : ℕ → List (Live Body) → Option (List ℕ)
least_open begin records = least_open_in begin records records

-- every invocation with its Init below b has its Finish among the records
abbrev pub all_ended : ℕ → List (Live Body) → Bool
all_ended begin records = not (is_some (least_open begin records))

-- a switch that has begun and not ended
pub record Switch : Type 0 where
  pub target : Mode
  pub begun : ℕ

pub record Modes : Type 0 where
  pub current : Mode
  pub pending : Option Switch

abbrev pub begin_switch : Mode → ℕ → Modes → Option Switch → Modes
begin_switch target seq m None =
    if same_mode target m.current then m else record m { pending = Some (record { target = target; begun = seq }) }
begin_switch target seq m (Some s) = m

abbrev pub end_switch : List (Live Body) → Modes → Option Switch → Modes
end_switch past m None = m
end_switch past m (Some s) = if all_ended s.begun past then record { current = s.target; pending = None } else m

abbrev pub apply_to_modes : Body → ℕ → List (Live Body) → Modes → Modes
apply_to_modes (body.SwitchBegin target) seq past m = begin_switch target seq m m.pending
apply_to_modes body.SwitchEnd seq past m = end_switch past m m.pending
apply_to_modes _ seq past m = m

-- the current mode and the pending switch, behind the records
abbrev pub modes : Mode → List (Live Body) → Modes
modes first [] = record { current = first; pending = None }
modes first (x ∷ xs) = apply_to_modes x.holds x.seq xs (modes first xs)

abbrev pub effective_mode : Option Switch → Mode → Mode
effective_mode None current = current
effective_mode (Some s) current = T

-- the mode of an invocation whose Init comes behind the records
abbrev pub mode_after : Mode → List (Live Body) → Mode
mode_after first xs = let m = modes first xs in effective_mode m.pending m.current
