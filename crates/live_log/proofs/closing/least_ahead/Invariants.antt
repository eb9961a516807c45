use Rattle.std.proofs.Common.{Any, ℕ, ◌≡◌, ◌<◌, ◌≤◌, get_or, List, Option, Some, None}
use Rattle.live_log.specs.Engines.{Engine}
use Rattle.live_log.proofs.closing.least_ahead.Given as goal

-- it is the least of the first engines, so many; None where none of them is ahead
abbrev pub IsLeastOf : ℕ → List Engine → ℕ → Option (ℕ × ℕ) → Type 0
IsLeastOf most es n None = (k : ℕ) (d : Engine) → k < n → (get_or es k d).position ≤ most
IsLeastOf most es n (Some p) =
    Any (λ (e : Engine). (most < e.position) × (p.0 ≡ e.number) × (p.1 ≡ e.position)) es
    × ((k : ℕ) (d : Engine) → k < n → most < (get_or es k d).position → p.0 ≤ (get_or es k d).number)

abbrev pub invariant-loop-engine : goal.invariant-loop-engine
invariant-loop-engine g l = IsLeastOf l.length l.engines.items l.engine-index l.least
