use Rattle.std.proofs.Common.{◌-◌}
use Rattle.std.specs.Prelude.{slice_index}
use Rattle.tests_live.proofs.rounds.three_in_rounds.Given as goal

-- the log that was just opened
abbrev pub ghosts-in_rounds : goal.ghosts-in_rounds
ghosts-in_rounds g a = record { book = a.opened.book; names = λ n. slice_index a.opened.names (n - 1); engines = a.opened.engines }
