-- Which words ask for a check. They stand without the program's name.
use Rattle.std.specs.Prelude.{ℕ, Bool, true, false, List, Option, Some}
use Rattle.command_line.specs.Words.{request}
use Rattle.command_line.specs.declared.request.Request.{Request}
use Rattle.command_line.specs.declared.request.Request.TheVariants.{Check}

-- words that are accepted and ask for a check
abbrev pub asks_check : Option Request → Bool
asks_check (Some Check) = true
asks_check _ = false

abbrev pub is_check : List (List ℕ) → Bool
is_check words = asks_check (request words)
