-- The mux: one physical log, which is the machine over the appends of all books with their physical tags;
-- and for each book and engine auxiliary data of its own. An event of a book is put to the physical log
-- with physical tags and numbers, and the answer is told in the book's numbers.
use Rattle.std.specs.Prelude.{ℕ, ◌-◌, ◌^◌, ◌==◌, ◌&&◌, ◌||◌, nat_le, nat_lt, Bool, true, false, cond, List, [], ◌∷◌, length, map, Option, Some, None, replicate, slice_index_or, slice_set}
use Rattle.std.specs.List.{filter, filter_map, list_all}
use Rattle.lb_base.specs.declared.value.Tag.{Tag}
use Rattle.lb_base.specs.declared.value.Mode.TheVariants.{R}
use Rattle.boki_types.specs.declared.event.Event.{Event}
use Rattle.boki_types.specs.declared.event.Event.TheVariants as v
use Rattle.boki_types.specs.declared.line.Line.{Line}
use Rattle.boki_types.specs.declared.line.Line.TheVariants as l
use Rattle.boki_types.specs.declared.plan.Setup.{Setup}
use Rattle.boki_model.specs.Plans.{in_bounds, is_from_one_to}
use Rattle.boki_machine.specs.Step.{seqnum}
use Rattle.boki_machine.specs.Machine.{Aux, Machine, EventResult, RunResult, initial_machine, log, position, shard_records, aux_at, move_to_front, apply_event, apply_events}
use Rattle.books_alone.specs.Books.{book_tag, is_of, own_entries, own_vectors, own_seq, physical_seq, own_local, physical_local}

-- An event with the number of its book; cuts, catches and restarts are of all books, and have 0.
abbrev pub BookEvent : Type 0
BookEvent = ℕ × Event

-- one replica; the first mode plays no part
abbrev pub mux_setup : ℕ → ℕ → Setup
mux_setup shards engines = record { shards = shards; replicas = 1; engines = engines; mode = R; newer = None }

abbrev pub are_sizes : ℕ → ℕ → ℕ → Bool
are_sizes shards engines books = in_bounds 1 16 shards && in_bounds 1 16 engines && in_bounds 1 255 books

abbrev pub is_shared : Event → Bool
is_shared v.Cut = true
is_shared (v.Catch engine) = true
is_shared (v.Restart engine) = true
is_shared _ = false

abbrev pub is_own_tag : Tag → Bool
is_own_tag t = nat_lt t.0 (2 ^ 48)

abbrev pub are_own_tags : List Tag → Bool
are_own_tags tags = nat_le 1 (length tags) && list_all is_own_tag tags

-- what a book may ask, by its tags; how long a text is, and which engines there are, play no part here
abbrev pub is_owned : Event → Bool
is_owned (v.Append engine tags text) = are_own_tags tags
is_owned (v.Cond engine place tags text) = are_own_tags tags
is_owned (v.Next engine tag from) = is_own_tag tag
is_owned (v.Prev engine tag upto) = is_own_tag tag
is_owned (v.Tail engine tag) = is_own_tag tag
is_owned (v.Settled engine shard local) = true
is_owned (v.SetAux engine seq text) = true
is_owned (v.GetAux engine seq) = true
is_owned _ = false

abbrev pub is_book_event : ℕ → BookEvent → Bool
is_book_event books x = cond (is_shared x.1) (x.0 == 0) (is_from_one_to books x.0 && is_owned x.1)

-- The state: the physical log, and for each book and engine its auxiliary data, the most recently used
-- first. The machine's own auxiliary data stay empty.
pub record Mux : Type 0 where
  pub physical : Machine
  pub aux : List (List (List Aux))

pub record MuxDone : Type 0 where
  pub mux : Mux
  pub line : Line

abbrev pub mux_done : Mux → Line → MuxDone
mux_done m line = record { mux = m; line = line }

abbrev pub mux_opening : ℕ → ℕ → ℕ → Mux
mux_opening shards engines books = record {
  physical = initial_machine (mux_setup shards engines) [];
  aux = replicate books (replicate engines []);
}

-- a book's position on an engine
abbrev pub own_position : ℕ → Machine → ℕ → ℕ
own_position b m engine = own_seq b (log m) (position m engine)

-- an event of a book with physical tags and numbers
abbrev pub to_physical : ℕ → Machine → Event → Event
to_physical b m (v.Append engine tags text) = v.Append engine (map (book_tag b) tags) text
to_physical b m (v.Cond engine place tags text) = v.Cond engine place (map (book_tag b) tags) text
to_physical b m (v.Next engine tag from) = v.Next engine (book_tag b tag) (seqnum (physical_seq b (log m) from.0))
to_physical b m (v.Prev engine tag upto) = v.Prev engine (book_tag b tag) (seqnum (physical_seq b (log m) upto.0))
to_physical b m (v.Tail engine tag) = v.Tail engine (book_tag b tag)
to_physical b m (v.Settled engine shard local) =
    v.Settled engine shard (physical_local (is_of b) (shard_records m shard) local)
to_physical b m e = e

-- an answer of the physical log in the book's numbers
abbrev pub to_book : ℕ → Machine → Line → Line
to_book b m (l.Sent sent) =
    l.Sent (record { shard = sent.shard; local = own_local b (shard_records m sent.shard) sent.local })
to_book b m (l.Found seq text) = l.Found (seqnum (own_seq b (log m) seq.0)) text
to_book b m (l.Placed seq) = l.Placed (seqnum (own_seq b (log m) seq.0))
to_book b m (l.Taken seq) = l.Taken (seqnum (own_seq b (log m) seq.0))
to_book b m line = line

abbrev pub mux_asks : Setup → ℕ → Event → Mux → MuxDone
mux_asks t b e m =
    let d = apply_event t [] m.physical (to_physical b m.physical e) in
    mux_done (record m { physical = d.machine }) (to_book b d.machine d.line)

-- Auxiliary data: of a book and an engine, at most 64 entries.

abbrev pub book_aux : Mux → ℕ → List (List Aux)
book_aux m b = slice_index_or m.aux (b - 1) []

abbrev pub engine_aux : Mux → ℕ → ℕ → List Aux
engine_aux m b engine = slice_index_or (book_aux m b) (engine - 1) []

abbrev pub mux_uses : ℕ → ℕ → ℕ → List ℕ → Mux → Mux
mux_uses b engine seq text m =
    let new = move_to_front seq text (engine_aux m b engine) in
    record m { aux = slice_set m.aux (b - 1) (slice_set (book_aux m b) (engine - 1) new) }

abbrev pub mux_sets : ℕ → ℕ → ℕ → List ℕ → Mux → MuxDone
mux_sets b engine seq text m =
    cond (nat_le 1 seq && nat_le seq (own_position b m.physical engine))
    (mux_done (mux_uses b engine seq text m) l.Set) (mux_done m l.Absent)

abbrev pub mux_gets : ℕ → ℕ → ℕ → Option (List ℕ) → Mux → MuxDone
mux_gets b engine seq None m = mux_done m l.Absent
mux_gets b engine seq (Some text) m = mux_done (mux_uses b engine seq text m) (l.Aux text)

abbrev pub mux_restarts : ℕ → Mux → Mux
mux_restarts engine m = record m { aux = map (λ lists. slice_set lists (engine - 1) []) m.aux }

abbrev pub mux_shares : Setup → Event → Mux → MuxDone
mux_shares t e m = let d = apply_event t [] m.physical e in mux_done (record m { physical = d.machine }) d.line

-- One event of a book, or of all of them.
abbrev pub mux_happens : Setup → Mux → ℕ → Event → MuxDone
mux_happens t m b v.Cut = mux_shares t v.Cut m
mux_happens t m b (v.Catch engine) = mux_shares t (v.Catch engine) m
mux_happens t m b (v.Restart engine) = mux_shares t (v.Restart engine) (mux_restarts engine m)
mux_happens t m b (v.SetAux engine seq text) = mux_sets b engine seq.0 text m
mux_happens t m b (v.GetAux engine seq) = mux_gets b engine seq.0 (aux_at seq.0 (engine_aux m b engine)) m
mux_happens t m b e = mux_asks t b e m

-- What the book sees: the machine that it would be alone.
abbrev pub own : ℕ → Mux → Machine
own b m =
    let p = m.physical in
    record {
      shards = map (own_entries b) p.shards;
      counts = p.counts;
      vectors = own_vectors (is_of b) p.shards p.vectors;
      positions = map (own_seq b (log p)) p.positions;
      aux = book_aux m b;
      store = p.store;
      attempts = p.attempts;
    }

-- One event, of its book or of all; and the same event of the machine that a book sees.
abbrev pub do_book_event : ℕ → ℕ → Mux → BookEvent → MuxDone
do_book_event shards engines m x = mux_happens (mux_setup shards engines) m x.0 x.1

abbrev pub do_alone : ℕ → ℕ → Mux → ℕ → Event → EventResult
do_alone shards engines m b e = apply_event (mux_setup shards engines) [] (own b m) e

pub record MuxRan : Type 0 where
  pub mux : Mux
  pub lines : List Line

abbrev pub mux_and_line : Line → MuxRan → MuxRan
mux_and_line line r = record r { lines = line ∷ r.lines }

abbrev pub mux_run : Setup → List BookEvent → Mux → MuxRan
mux_run t [] m = record { mux = m; lines = [] }
mux_run t (x ∷ xs) m = let d = mux_happens t m x.0 x.1 in mux_and_line d.line (mux_run t xs d.mux)

-- One book alone: the machine over the book's events and every cut, catch and restart.

abbrev pub concerns : ℕ → BookEvent → Bool
concerns b x = is_shared x.1 || (b == x.0)

abbrev pub concerning : ℕ → List BookEvent → List BookEvent
concerning b xs = filter (concerns b) xs

abbrev pub events_of : List BookEvent → List Event
events_of xs = map (λ x. x.1) xs

abbrev pub run_alone : Setup → ℕ → List BookEvent → RunResult
run_alone t b xs = apply_events t [] (events_of (concerning b xs)) (initial_machine t [])

-- the answers to the events of a book; to cuts, catches and restarts for 0
abbrev pub answers_of_book : ℕ → List BookEvent → List Line → List Line
answers_of_book b [] lines = []
answers_of_book b (x ∷ xs) [] = []
answers_of_book b (x ∷ xs) (line ∷ lines) = cond (b == x.0) (line ∷ answers_of_book b xs lines) (answers_of_book b xs lines)

-- The physical log alone: all books' appends with their physical tags, and every cut, catch and restart.

abbrev pub on_log : ℕ → Event → Option BookEvent
on_log b (v.Append engine tags text) = Some (b, v.Append engine (map (book_tag b) tags) text)
on_log b (v.Cond engine place tags text) = Some (b, v.Cond engine place (map (book_tag b) tags) text)
on_log b v.Cut = Some (b, v.Cut)
on_log b (v.Catch engine) = Some (b, v.Catch engine)
on_log b (v.Restart engine) = Some (b, v.Restart engine)
on_log b _ = None

abbrev pub onto_log : List BookEvent → List BookEvent
onto_log xs = filter_map (λ x. on_log x.0 x.1) xs

abbrev pub log_alone : Setup → List BookEvent → RunResult
log_alone t xs = apply_events t [] (events_of (onto_log xs)) (initial_machine t [])
