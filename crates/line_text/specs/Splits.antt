-- Splitting a text at a byte.
use Rattle.std.specs.Prelude.{ℕ, List, [], ◌∷◌, Option, Some, None, ◌==◌, if◌then◌else◌}

abbrev pub prepend : ℕ → Option (List ℕ × List ℕ) → Option (List ℕ × List ℕ)
prepend c None = None
prepend c (Some p) = Some (c ∷ p.0, p.1)

-- what stands before the first byte of a value, and what follows that
abbrev pub split_first : ℕ → List ℕ → Option (List ℕ × List ℕ)
split_first byte [] = None
split_first byte (c ∷ cs) = if c == byte then Some ([], cs) else prepend c (split_first byte cs)
