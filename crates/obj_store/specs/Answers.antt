-- What the reads are told of logged writes, and what they answer.
use Rattle.std.specs.Prelude.{◌≡◌, ℕ, List, Option, option_map}
use Rattle.std.specs.Option.{MatchOption, option_copied}
use Rattle.lb_base.specs.declared.value.Value.{Value}
use Rattle.boki_types.specs.declared.body.Body.{Body}
use Rattle.boki_types.specs.declared.store.Name.{Name}
use Rattle.boki_types.specs.declared.store.Fenced.{Fenced}
use Rattle.boki_types.specs.declared.store.Fenced.TheVariants as f
use Rattle.boki_model.specs.Live.{Live}
use Rattle.obj_store.specs.declared.answers.Logged.{Logged}
use Rattle.obj_store.specs.declared.answers.Read.{Read}
use Rattle.obj_store.specs.declared.answers.Read.TheVariants as r
use Rattle.obj_store.specs.Kept.{StoreState}
use Rattle.obj_store.specs.StandsFor.{last_logged, IsCovered}

-- a free read's answer, with the value that it lends
abbrev pub fenced_of : Read → Fenced
fenced_of (r.Found v) = f.Found v.now
fenced_of r.Missing = f.Missing
fenced_of r.Gone = f.Gone

abbrev pub logged_parts : Logged → ℕ × (Name × Option Value)
logged_parts l = (l.seq.0, (l.name, option_copied l.here))

-- What a read is told: the last live logged write of the key below n, or None where there is none. Its value is in its record, or
-- is kept under its name, or a base of the key at or above it is kept.
pub record IsLastLogged (key : List ℕ) (n : ℕ) (kept : StoreState) (records : List (Live Body)) (logged : Option Logged) : Type 0 where
  pub last : option_map logged_parts logged ≡ last_logged key n records
  pub covered : MatchOption logged (Unit {0}) (λ l. IsCovered key kept (logged_parts l))
