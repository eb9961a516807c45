use Rattle.std.proofs.Common.{◌-◌}
use Rattle.std.specs.Prelude.{slice_index}
use Rattle.tests_live.proofs.threads.two_threads.Given as goal

-- the log that was just opened
abbrev pub ghosts-in_threads : goal.ghosts-in_threads
ghosts-in_threads g a = record { book = a.opened.book; names = λ n. slice_index a.opened.names (n - 1); engines = a.opened.engines }
