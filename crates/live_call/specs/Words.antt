-- Which words ask to run a live text. They stand without the program's name.
use Rattle.std.specs.Prelude.{ℕ, Bool, true, false, List, Option, Some, None}
use Rattle.command_line.specs.Words.{request}
use Rattle.command_line.specs.declared.request.Request.{Request}
use Rattle.command_line.specs.declared.request.Request.TheVariants.{Live}

-- words that are accepted and ask for `live`
abbrev pub asks_live : Option Request → Bool
asks_live (Some Live) = true
asks_live _ = false

abbrev pub is_live : List (List ℕ) → Bool
is_live words = asks_live (request words)
