use Rattle.std.proofs.Common.{◌-◌}
use Rattle.std.specs.Prelude.{slice_index}
use Rattle.tests_live.proofs.turns.first_look_refused.Given as goal

-- the log that was just opened
abbrev pub ghosts-look_refused : goal.ghosts-look_refused
ghosts-look_refused g a = record { book = a.opened.book; names = λ n. slice_index a.opened.names (n - 1); engines = a.opened.engines }
