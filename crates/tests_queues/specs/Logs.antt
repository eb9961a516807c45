-- Books with an engine 1 whose records all say something.
use Rattle.book_api.specs.Books.{BookState, HasEngine}
use Rattle.step_log.specs.Sound.{Sound}

pub record IsLog (book : BookState) : Type 0 where
  pub sound : Sound book
  pub engine : HasEngine 1 book
