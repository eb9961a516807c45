use Rattle.std.proofs.Common.{◌-◌}
use Rattle.std.specs.Prelude.{slice_index}
use Rattle.tests_live_work.proofs.single.each_look_refused.Given as goal

-- the log that was just opened
abbrev pub ghosts-on_a_log : goal.ghosts-on_a_log
ghosts-on_a_log g a = record { book = a.opened.book; names = λ n. slice_index a.opened.names (n - 1); engines = a.opened.engines }
