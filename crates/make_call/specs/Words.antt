-- Which words ask for the generator's plan or for its run. They stand without the program's name.
use Rattle.std.specs.Prelude.{ℕ, Bool, List, Option, Some, None}
use Rattle.command_line.specs.Words.{request}
use Rattle.command_line.specs.declared.request.Request.{Request}
use Rattle.command_line.specs.declared.request.Request.TheVariants.{Make}

-- so many transfers, and whether their plan is asked for, or else the summary of its run
abbrev pub make_asked : Option Request → Option (ℕ × Bool)
make_asked (Some (Make n plan)) = Some (n, plan)
make_asked _ = None

abbrev pub asked : List (List ℕ) → Option (ℕ × Bool)
asked words = make_asked (request words)
