-- The statement of the central theorem rests on this file.
-- Trims and the floor. A Trim(w) at t counts where w is at most t and every invocation with its Init below w has its Finish
-- below t. The floor is the greatest counted w, or 0: no invocation that may still run needs a value below it.
use Rattle.std.specs.Prelude.{ℕ, suc, ◌&&◌, nat_le, max, if◌then◌else◌, List, [], ◌∷◌, Option, Some, None, is_some, unwrap_or}
use Rattle.boki_types.specs.declared.body.Body.{Body}
use Rattle.boki_types.specs.declared.body.Body.TheVariants as body
use Rattle.boki_model.specs.Live.{Live}
use Rattle.std.specs.Option.{option_or}
use Rattle.boki_model.specs.Modes.{init_path, result_of, all_ended}

abbrev pub counted_trim : Body → ℕ → List (Live Body) → ℕ
counted_trim (body.Trim bound) seq past = if nat_le bound seq && all_ended bound past then bound else 0
counted_trim _ seq past = 0

abbrev pub floor : List (Live Body) → ℕ
floor [] = 0
floor (x ∷ xs) = max (counted_trim x.holds x.seq xs) (floor xs)

-- What an engine at position p may trim: the least Init of an invocation without Finish in its view, else p + 1.
abbrev pub open_init : List (Live Body) → ℕ → Option (List ℕ) → Option ℕ
open_init records seq None = None
open_init records seq (Some path) = if is_some (result_of path records) then None else Some seq

abbrev pub first_open : List (Live Body) → List (Live Body) → Option ℕ
first_open records [] = None
first_open records (x ∷ xs) = option_or (first_open records xs) (open_init records x.seq (init_path x.holds))

abbrev pub trim_limit : ℕ → List (Live Body) → ℕ
trim_limit position view = unwrap_or (first_open view view) (suc position)
