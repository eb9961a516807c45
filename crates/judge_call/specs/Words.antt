-- Which words ask to judge turns. They stand without the program's name.
use Rattle.std.specs.Prelude.{ℕ, Bool, true, false, List, Option, Some, None}
use Rattle.command_line.specs.Words.{request}
use Rattle.command_line.specs.declared.request.Request.{Request}
use Rattle.command_line.specs.declared.request.Request.TheVariants.{Judge}

-- words that are accepted and ask to judge
abbrev pub asks_judge : Option Request → Bool
asks_judge (Some Judge) = true
asks_judge _ = false

abbrev pub is_judge : List (List ℕ) → Bool
is_judge words = asks_judge (request words)
