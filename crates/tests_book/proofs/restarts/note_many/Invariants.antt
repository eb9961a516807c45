use Rattle.tests_book.specs.Engines.{EnginesStay}
use Rattle.tests_book.proofs.restarts.note_many.Given as goal

abbrev pub invariant-loop-index : goal.invariant-loop-index
invariant-loop-index l = EnginesStay l.fn.book l.book
