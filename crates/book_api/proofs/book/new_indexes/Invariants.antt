use Rattle.std.proofs.Common.{◌≡◌, [], length, All}
use Rattle.eng_index.specs.IndexState.{IsIndexOf}
use Rattle.book_api.proofs.book.new_indexes.Given as goal

abbrev pub invariant-loop : goal.invariant-loop
invariant-loop l = (length l.indexes.items ≡ l.counter) × All (IsIndexOf []) l.indexes.items
