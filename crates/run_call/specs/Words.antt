-- Which words ask for a run, and which of the nemeses that are handed in disturb it. The words stand without the program's name.
use Rattle.std.specs.Prelude.{ℕ, Bool, true, if◌then◌else◌, nat_le, List, [], Option, Some, None}
use Rattle.command_line.specs.Words.{request}
use Rattle.command_line.specs.declared.request.Request.{Request}
use Rattle.command_line.specs.declared.request.Request.TheVariants.{Run}
use Rattle.command_line.specs.declared.request.With.{With}
use Rattle.command_line.specs.declared.request.With.TheVariants.{All, One}
use Rattle.nemesis_types.specs.Automaton.{Automaton}
use Rattle.nemesis_types.specs.Kept.{NumberedNemesis, all_kept, one_kept}

-- the nemeses that are named are among so many that are handed in
abbrev pub is_handed : ℕ → Option With → Bool
is_handed count (Some (One i)) = nat_le i count
is_handed count _ = true

-- what is asked of a run: the nemeses that are named, and whether the report is JSON
abbrev pub run_asked : Option Request → Option (Option With × Bool)
run_asked (Some (Run named json)) = Some (named, json)
run_asked _ = None

abbrev pub if_handed : ℕ → Option (Option With × Bool) → Option (Option With × Bool)
if_handed count None = None
if_handed count (Some a) = if is_handed count a.0 then Some a else None

-- what words ask of a run, where so many nemeses are handed in; None where they aren't accepted, or ask for something else
abbrev pub asked : ℕ → List (List ℕ) → Option (Option With × Bool)
asked count words = if_handed count (run_asked (request words))

-- The nemeses that disturb the run, with their numbers in the list that is handed in: none where none is named.
abbrev pub kept_of : Option With → List Automaton → List NumberedNemesis
kept_of None handed = []
kept_of (Some All) handed = all_kept handed
kept_of (Some (One i)) handed = one_kept i handed
