-- What a clause reads of the writer and of a reader of a published list, while no call has taken them out.
use Rattle.std.specs.Prelude.{ℕ, List, [], drop, Option, Some, None}
use Rattle.logbook.specs.Pages.{Book}
use Rattle.left_right.specs.declared.Absorb.{Ghosts}
use Rattle.left_right.specs.declared.writer.Writer.{Writer}
use Rattle.left_right.specs.declared.reader.Reader.{Reader}
use Rattle.left_right.specs.Sides.{view}
use Rattle.live_log.specs.Appended.{Appended}
use Rattle.live_log.specs.History.{HistoryPrefix, no_book}
use Rattle.live_log.specs.declared.published_list.ListState.{ListState}
use Rattle.live_log.specs.declared.published_list.Step.{Step}
use Rattle.live_log.specs.ListRule.{state_of}

-- the prefix where there is no history
abbrev pub empty_prefix : HistoryPrefix
empty_prefix = record { book = no_book; log = [] }

module _ {P A S : Type 0} {g : Ghosts ListState Step S} where
  -- what readers take
  abbrev pub published_of : Option (Writer ListState Step (Option HistoryPrefix) P A S g) → ListState
  published_of (Some w) = w.desk.shown.value
  published_of None = state_of empty_prefix

  -- the steps that they do not see yet
  abbrev pub pending_of : Option (Writer ListState Step (Option HistoryPrefix) P A S g) → List Step
  pending_of (Some w) = drop w.behind w.log.items
  pending_of None = []

module _ {P A : Type 0} where
  -- what the reader knows
  abbrev pub reader_view : Option (Reader ListState (Option HistoryPrefix) P A) → Option HistoryPrefix
  reader_view (Some r) = view r.place
  reader_view None = None

-- the published list as contracts see it, with its history, and how many records of the history were not published
pub record HallView : Type 0 where
  pub book : Book
  pub log : List Appended
  pub pending : ℕ

-- a reader as contracts see it: of which history it is, what it has seen, and the longest list that it has seen or learned of
pub record PlaceView : Type 0 where
  pub book : Book
  pub seen : List Appended
  pub known : List Appended

-- the history of what a reader knows
abbrev pub book_seen : Option HistoryPrefix → Book
book_seen (Some k) = k.book
book_seen None = no_book
