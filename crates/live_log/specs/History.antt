-- The rule of the history, and what its steps tell.
use Rattle.std.specs.Prelude.{ℕ, ◌≡◌, ◌==◌, true, List, [], ◌∷◌, ◌++◌, length, MatchBool}
use Rattle.logbook.specs.Pages.{Cell, Step, View, Book, Named}
use Rattle.live_log.specs.Appended.{Appended}

-- the first word is the length of the history. A book has two words, of which this one leaves the second at 0
pub record HeadIsLength (cells : List Cell) (log : List Appended) : Type 0 where
  pub words : cells ≡ (length log, true) ∷ (0, true) ∷ []

-- the word that counts the history
abbrev pub head_of : Book → Named
head_of b = record { tracked = true; key = 0; book = b }

-- the entry was added, and all that there was had been seen
abbrev pub Adds : Step Appended → View Appended ℕ → ℕ → View Appended ℕ → Type 0
Adds s v found w = MatchBool (found == s.old) ((length v.0 ≡ s.old) × (w.0 ≡ v.0 ++ s.ask ∷ [])) (Unit {0})

-- a prefix of the history of a book
pub record HistoryPrefix : Type 0 where
  pub book : Book
  pub log : List Appended

-- with one record more
abbrev pub with_record : HistoryPrefix → Appended → HistoryPrefix
with_record k e = record { book = k.book; log = k.log ++ e ∷ [] }

-- a book for no history
abbrev pub no_book : Book
no_book = record { number = 0; log_name = 0; cells_name = 0 }
