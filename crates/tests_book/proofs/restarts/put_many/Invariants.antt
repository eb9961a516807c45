use Rattle.tests_book.specs.Engines.{EnginesStay}
use Rattle.tests_book.proofs.restarts.put_many.Given as goal

abbrev pub invariant-loop : goal.invariant-loop
invariant-loop l = EnginesStay l.fn.book l.book
