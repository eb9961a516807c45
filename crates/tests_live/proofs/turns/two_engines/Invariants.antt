use Rattle.std.proofs.Common.{◌-◌}
use Rattle.std.specs.Prelude.{slice_index}
use Rattle.tests_live.proofs.turns.two_engines.Given as goal

-- the log that was just opened
abbrev pub ghosts-two_in_turn : goal.ghosts-two_in_turn
ghosts-two_in_turn g a = record { book = a.opened.book; names = λ n. slice_index a.opened.names (n - 1); engines = a.opened.engines }
