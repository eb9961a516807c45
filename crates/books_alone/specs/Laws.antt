-- Laws of several books on one physical log.
use Rattle.std.specs.Prelude.{◌≡◌, ℕ, suc, ◌+◌, ◌-◌, ◌*◌, ◌/◌, ◌^◌, ◌≤◌, ◌<◌, IsTrue, Bool, true, false, cond, List, [], ◌∷◌, ◌++◌, length, map, take, drop, reverse, Option, Some, None, option_map, option_and_then, slice_get, slice_index_or}
use Rattle.std.specs.List.{AllByRecursion}
use Rattle.lb_base.specs.declared.value.Tag.{Tag}
use Rattle.lb_base.specs.declared.value.Cond.{Cond}
use Rattle.boki_model.specs.Order.{last_vector, order, seq_of, at_seq}
use Rattle.boki_model.specs.OrderLaws.{AreAtMost, CountsGrow}
use Rattle.boki_model.specs.Live.{LogRecord, Live, live, upto, is_live}
use Rattle.boki_model.specs.Reads.{read_next, read_prev, hidden_bound}
use Rattle.boki_model.specs.Plans.{is_from_one_to}
use Rattle.boki_machine.specs.Machine.{initial_machine, log, position, view}
use Rattle.books_alone.specs.Books.{book_of, is_of, holding, live_holding, own_entries, own_vectors, own_seq, physical_seq, own_lives, selected, count_selected, seqnums, count_upto, locals, physical_local}
use Rattle.books_alone.specs.Mux.{BookEvent, Mux, MuxRan, mux_setup, are_sizes, is_shared, is_book_event, mux_opening, mux_run, do_book_event, do_alone, concerns, concerning, run_alone, answers_of_book, onto_log, log_alone, own_position, own}

-- The order of a book's records is the book's part of the order: a test picks the records, and the picked
-- ones may look anew.
abbrev pub OrderOfBook : Type 0 → Type 0 → Type 0
OrderOfBook X Y =
    (keep : X → Bool) (look : X → Y) (shards : List (List X)) (vectors : List (List ℕ)) → CountsGrow vectors
    → order (map (selected keep look) shards) (own_vectors keep shards vectors)
    ≡ selected keep look (order shards vectors)

-- Each record is of one book: all its tags are, and the tag of its condition.
abbrev pub AreTagsOf : ℕ → List Tag → Type 0
AreTagsOf b tags = AllByRecursion (λ t. t.0 / 2 ^ 48 ≡ b) tags

abbrev pub IsConditionOf : ℕ → Option Cond → Type 0
IsConditionOf b None = Unit {0}
IsConditionOf b (Some c) = c.tag.0 / 2 ^ 48 ≡ b

-- tags of one book, whose number is below 256, so that they are user tags
pub record AreOwned (ts : List Tag) : Type 0 where
  pub all : AreTagsOf (book_of ts) ts
  pub book : book_of ts < 256

pub record IsOwned {A : Type 0} (r : LogRecord A) : Type 0 where
  pub tags : AreOwned r.tags
  pub condition : IsConditionOf (book_of r.tags) r.condition

-- The live records of a book's part are the book's live records: each is live by the book's own records
-- alone.
abbrev pub LiveOfBook : Type 0 → Type 0
LiveOfBook A =
    (b : ℕ) (log : List (LogRecord A)) → AllByRecursion IsOwned log
    → live (own_entries b log) ≡ own_lives b (own_seq b log) (live log)

-- What an engine sees of a book is what it sees up to the book's own position.
abbrev pub ViewOfBook : Type 0 → Type 0
ViewOfBook A =
    (b p : ℕ) (log : List (LogRecord A)) → AllByRecursion IsOwned log
    → upto (own_seq b log p) (live (own_entries b log)) ≡ own_lives b (own_seq b log) (upto p (live log))

-- Reads of a book by its own tag and bound find what the physical ones find, in the book's numbers. `seen`
-- is what an engine at the position p sees of the physical log.
pub record ReadsAgree {A : Type 0} (trim : A → Option (ℕ × ℕ)) (b p : ℕ) (log : List (LogRecord A))
    (seen : List (Live A)) (t a : ℕ) : Type 0 where
  pub next :
      read_next trim t a (own_lives b (own_seq b log) seen)
      ≡ option_map (own_seq b log) (read_next trim (b * 2 ^ 48 + t) (physical_seq b log a) seen)
  pub prev :
      read_prev trim t a (own_lives b (own_seq b log) seen)
      ≡ option_map (own_seq b log) (read_prev trim (b * 2 ^ 48 + t) (physical_seq b log a) seen)
  -- at the position
  pub tail :
      read_prev trim t (own_seq b log p) (own_lives b (own_seq b log) seen)
      ≡ option_map (own_seq b log) (read_prev trim (b * 2 ^ 48 + t) p seen)

abbrev pub ReadsOfBook : Type 0 → Type 0
ReadsOfBook A =
    (trim : A → Option (ℕ × ℕ)) (b p : ℕ) (log : List (LogRecord A)) (t a : ℕ)
    → AllByRecursion IsOwned log → t < 2 ^ 48 → ReadsAgree trim b p log (upto p (live log)) t a

-- no record hides another from a read by a user tag, whatever the records hold
abbrev pub NothingIsHidden : Type 0 → Type 0
NothingIsHidden A =
    (trim : A → Option (ℕ × ℕ)) (tag p : ℕ) (log : List (LogRecord A))
    → AllByRecursion IsOwned log → hidden_bound trim tag (upto p (live log)) ≡ 0

-- The seqnum of a book's place is that of the physical place that stands for it.
abbrev pub LocationOfBook : Type 0 → Type 0 → Type 0
LocationOfBook X Y =
    (keep : X → Bool) (look : X → Y) (shard local : ℕ) (shards : List (List X)) (vectors : List (List ℕ))
    → CountsGrow vectors
    → seq_of shard local (map (selected keep look) shards) (own_vectors keep shards vectors)
    ≡ option_map (λ s. count_upto s (seqnums keep (order shards vectors)))
    (seq_of shard (physical_local keep (slice_index_or shards (shard - 1) []) local) shards vectors)

-- What stands at the book's number n is the record at the physical seqnum that the list of its seqnums has
-- there.
abbrev pub RecordOfBook : Type 0 → Type 0 → Type 0
RecordOfBook X Y =
    (keep : X → Bool) (look : X → Y) (n : ℕ) (log : List X)
    → at_seq n (selected keep look log)
    ≡ option_map look (option_and_then (λ s. at_seq s log) (at_seq n (seqnums keep log)))

-- The lists of a book's numbers, the least first: its physical seqnums, and for each shard its local
-- numbers there.
abbrev pub rising_seqnums : {X : Type 0} → (X → Bool) → List X → List ℕ
rising_seqnums keep log = reverse (seqnums keep log)

-- what a further record adds to them
pub record NumbersGrow {X : Type 0} (keep : X → Bool) (r : X) (log shard : List X) : Type 0 where
  pub seqs :
      rising_seqnums keep (r ∷ log) ≡ rising_seqnums keep log ++ cond (keep r) (suc (length log) ∷ []) []
  pub places :
      locals keep 0 (shard ++ r ∷ []) ≡ locals keep 0 shard ++ cond (keep r) (suc (length shard) ∷ []) []

-- strictly, below n and from 1
abbrev pub AreFalling : ℕ → List ℕ → Type 0
AreFalling n [] = Unit {0}
AreFalling n (q ∷ qs) = (0 < q) × (q < n) × AreFalling q qs

-- and how they are read
pub record NumbersAreFound {X : Type 0} (keep : X → Bool) (log shard : List X) : Type 0 where
  pub falling : AreFalling (suc (length log)) (seqnums keep log)
  pub size : length (seqnums keep log) ≡ count_selected keep log
  pub locals_size : length (locals keep 0 shard) ≡ count_selected keep shard
  -- the book's number n is at the place n - 1
  pub at : (i : ℕ) → at_seq (suc i) (seqnums keep log) ≡ slice_get (rising_seqnums keep log) i
  -- so many are at most s, where those before the place p are, and the others aren't
  pub splits :
      (s p : ℕ) → p ≤ length (seqnums keep log)
      → AllByRecursion (λ q. q ≤ s) (take p (rising_seqnums keep log))
      → AllByRecursion (λ q. s < q) (drop p (rising_seqnums keep log))
      → count_upto s (seqnums keep log) ≡ p

pub record ListsOfBook {X : Type 0} (keep : X → Bool) (log shard : List X) : Type 0 where
  pub grow : (r : X) → NumbersGrow keep r log shard
  pub found : NumbersAreFound keep log shard

abbrev pub NumbersOfBook : Type 0 → Type 0
NumbersOfBook X = (keep : X → Bool) (log shard : List X) → ListsOfBook keep log shard

-- What records hold plays no part: the order, what an engine sees, reads and numbers are of tags and conditions.
pub record ContentsApart {A B : Type 0} (g : A → B) (log : List (LogRecord A)) (p : ℕ) : Type 0 where
  pub seen : upto p (live (map (holding g) log)) ≡ map (live_holding g) (upto p (live log))
  pub numbers : (b : ℕ) → seqnums (is_of b) (map (holding g) log) ≡ seqnums (is_of b) log
  pub owned : AllByRecursion IsOwned log → AllByRecursion IsOwned (map (holding g) log)
  pub next :
      (trim : A → Option (ℕ × ℕ)) (other : B → Option (ℕ × ℕ)) (tag a : ℕ) → AllByRecursion IsOwned log
      → read_next other tag a (upto p (live (map (holding g) log))) ≡ read_next trim tag a (upto p (live log))
  pub prev :
      (trim : A → Option (ℕ × ℕ)) (other : B → Option (ℕ × ℕ)) (tag a : ℕ) → AllByRecursion IsOwned log
      → read_prev other tag a (upto p (live (map (holding g) log))) ≡ read_prev trim tag a (upto p (live log))
  pub lives : (s : ℕ) → is_live s (upto p (live (map (holding g) log))) ≡ is_live s (upto p (live log))

pub record ContentsPlayNoPart {A B : Type 0} (g : A → B) : Type 0 where
  pub orders :
      (shards : List (List (LogRecord A))) (vectors : List (List ℕ))
      → order (map (map (holding g)) shards) vectors ≡ map (holding g) (order shards vectors)
  pub logs : (log : List (LogRecord A)) (p : ℕ) → ContentsApart g log p

abbrev pub ContentsOfBooks : Type 0 → Type 0 → Type 0
ContentsOfBooks A B = (g : A → B) → ContentsPlayNoPart g

-- What holds of a mux: its vectors grow, and count no more than there is; there is one replica; each
-- record is of one book; and positions are within the log.
pub record IsMux (shards books : ℕ) (m : Mux) : Type 0 where
  pub grow : CountsGrow m.physical.vectors
  pub most : AreAtMost (last_vector m.physical.vectors) (map length m.physical.shards)
  pub whole : AllByRecursion (λ c. c ≡ []) m.physical.counts
  pub records : AllByRecursion (λ s. AllByRecursion IsOwned s) m.physical.shards
  pub positions : AllByRecursion (λ p. p ≤ length (log m.physical)) m.physical.positions
  pub sized : length m.physical.shards ≡ shards
  pub booked : length m.aux ≡ books

-- What a book sees of it: its part of the log, its positions, and what its engines see.
pub record BookSees (b : ℕ) (m : Mux) : Type 0 where
  pub log_is : log (own b m) ≡ own_entries b (log m.physical)
  pub position_is : (engine : ℕ) → position (own b m) engine ≡ own_position b m.physical engine
  pub view_is :
      (engine : ℕ)
      → view (own b m) engine ≡ own_lives b (own_seq b (log m.physical)) (view m.physical engine)

abbrev pub BooksSee : Type 0
BooksSee = (shards books : ℕ) (m : Mux) (b : ℕ) → IsMux shards books m → BookSees b m

-- it holds at the opening, which is that of each book alone
pub record OpensAlone (shards engines books : ℕ) : Type 0 where
  pub is : IsMux shards books (mux_opening shards engines books)
  pub each_book :
      (b : ℕ) → IsTrue (is_from_one_to books b)
      → own b (mux_opening shards engines books) ≡ initial_machine (mux_setup shards engines) []

abbrev pub OpeningIsAlone : Type 0
OpeningIsAlone =
    (shards engines books : ℕ) → IsTrue (are_sizes shards engines books) → OpensAlone shards engines books

-- One event: to its book, and a cut, catch or restart to every book, it is what it would be alone; and it
-- is nothing to others.
pub record IsAsAlone (shards engines books : ℕ) (m : Mux) (x : BookEvent) : Type 0 where
  pub is : IsMux shards books (do_book_event shards engines m x).mux
  pub answered :
      is_shared x.1 ≡ false → (do_book_event shards engines m x).line ≡ (do_alone shards engines m x.0 x.1).line
  pub concerned :
      (b : ℕ) → IsTrue (is_from_one_to books b) → concerns b x ≡ true
      → own b (do_book_event shards engines m x).mux ≡ (do_alone shards engines m b x.1).machine
  pub others :
      (b : ℕ) → IsTrue (is_from_one_to books b) → concerns b x ≡ false
      → own b (do_book_event shards engines m x).mux ≡ own b m

abbrev pub EventsAreAlone : Type 0
EventsAreAlone =
    (shards engines books : ℕ) (m : Mux) (x : BookEvent)
    → IsTrue (are_sizes shards engines books) → IsTrue (is_book_event books x) → IsMux shards books m
    → IsAsAlone shards engines books m x

-- Any events.
abbrev pub AreBookEvents : ℕ → List BookEvent → Type 0
AreBookEvents books xs = AllByRecursion (λ x. IsTrue (is_book_event books x)) xs

abbrev pub run_mux : ℕ → ℕ → ℕ → List BookEvent → MuxRan
run_mux shards engines books xs = mux_run (mux_setup shards engines) xs (mux_opening shards engines books)

-- Each event of a book is answered as the book alone answers it, and what it sees in the end is its
-- machine.
pub record BookIsAlone (shards engines books : ℕ) (xs : List BookEvent) (b : ℕ) : Type 0 where
  pub lines :
      answers_of_book b xs (run_mux shards engines books xs).lines
      ≡ answers_of_book b (concerning b xs) (run_alone (mux_setup shards engines) b xs).lines
  pub machine : own b (run_mux shards engines books xs).mux ≡ (run_alone (mux_setup shards engines) b xs).machine

abbrev pub BooksAreAlone : Type 0
BooksAreAlone =
    (shards engines books : ℕ) (xs : List BookEvent) (b : ℕ)
    → IsTrue (are_sizes shards engines books) → AreBookEvents books xs → IsTrue (is_from_one_to books b)
    → BookIsAlone shards engines books xs b

-- Cuts, catches and restarts are answered as by the log with the appends of all books.
pub record LogIsAlone (shards engines books : ℕ) (xs : List BookEvent) : Type 0 where
  pub lines :
      answers_of_book 0 xs (run_mux shards engines books xs).lines
      ≡ answers_of_book 0 (onto_log xs) (log_alone (mux_setup shards engines) xs).lines
  pub machine : (run_mux shards engines books xs).mux.physical ≡ (log_alone (mux_setup shards engines) xs).machine

abbrev pub SharedAreOfLog : Type 0
SharedAreOfLog =
    (shards engines books : ℕ) (xs : List BookEvent)
    → IsTrue (are_sizes shards engines books) → AreBookEvents books xs → LogIsAlone shards engines books xs

-- So what a book is answered depends on no other book's events, nor on how many books there are.
abbrev pub BooksAreApart : Type 0
BooksAreApart =
    (shards engines few many : ℕ) (xs ys : List BookEvent) (b : ℕ)
    → IsTrue (are_sizes shards engines few) → IsTrue (are_sizes shards engines many)
    → AreBookEvents few xs → AreBookEvents many ys → IsTrue (is_from_one_to few b) → IsTrue (is_from_one_to many b)
    → concerning b xs ≡ concerning b ys
    → answers_of_book b xs (run_mux shards engines few xs).lines ≡ answers_of_book b ys (run_mux shards engines many ys).lines
