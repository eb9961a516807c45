use Rattle.std.proofs.Common.{◌-◌}
use Rattle.std.specs.Prelude.{slice_index}
use Rattle.live_work.proofs.run.run_through.Given as goal

-- the log that was just opened
abbrev pub ghosts-run_on : goal.ghosts-run_on
ghosts-run_on g a = record { book = a.opened.book; names = λ n. slice_index a.opened.names (n - 1); engines = a.opened.engines }
