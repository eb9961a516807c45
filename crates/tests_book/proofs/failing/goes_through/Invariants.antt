use Rattle.tests_book.specs.Engines.{EnginesStay}
use Rattle.tests_book.proofs.failing.goes_through.Given as goal

abbrev pub invariant-loop-step : goal.invariant-loop-step
invariant-loop-step g l = EnginesStay l.fn.book l.book
