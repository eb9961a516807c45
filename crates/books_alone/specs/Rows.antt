-- Two examples, computed: two books beside each other; and that one book pushes out no auxiliary data of
-- another.
use Rattle.std.specs.Prelude.{◌≡◌, ℕ, true, zero, suc, List, [], ◌∷◌, ◌++◌, codes}
use Rattle.std.specs.List.{list_all}
use Rattle.lb_base.specs.declared.value.Tag.{Tag}
use Rattle.boki_types.specs.declared.event.Event.TheVariants as v
use Rattle.boki_types.specs.declared.line.Line.{Line}
use Rattle.boki_types.specs.declared.line.Line.TheVariants as l
use Rattle.boki_types.specs.declared.log.Sent.{Sent}
use Rattle.boki_machine.specs.Step.{seqnum}
use Rattle.books_alone.specs.Mux.{BookEvent, mux_setup, are_sizes, is_book_event, mux_opening, mux_run}

abbrev pub sent : ℕ → ℕ → Sent
sent shard local = record { shard = shard; local = local }

abbrev pub seven : Tag
seven = record { 0 = 7 }

abbrev pub two_books : List BookEvent
two_books =
    (1, v.Append 1 (seven ∷ []) (codes "a")) ∷ (2, v.Append 2 (seven ∷ []) (codes "b"))
    ∷ (1, v.Append 1 (seven ∷ []) (codes "c"))
    ∷ (0, v.Cut) ∷ (0, v.Catch 1) ∷ (2, v.Next 1 seven (seqnum 1)) ∷ (1, v.Next 1 seven (seqnum 2))
    ∷ (1, v.Tail 2 seven) ∷ (2, v.Settled 1 1 1) ∷ (2, v.Cond 1 1 (seven ∷ []) (codes "d"))
    ∷ (0, v.Cut) ∷ (0, v.Catch 1) ∷ (2, v.Settled 1 1 2) ∷ (0, v.Cut) ∷ []

abbrev pub two_books_lines : List Line
two_books_lines =
    l.Sent (sent 1 1) ∷ l.Sent (sent 1 1) ∷ l.Sent (sent 1 2)
    ∷ l.Cut 1 3 ∷ l.At 3 ∷ l.Found (seqnum 1) (codes "b") ∷ l.Found (seqnum 2) (codes "c")
    ∷ l.Absent ∷ l.Placed (seqnum 1) ∷ l.Sent (sent 1 2)
    ∷ l.Cut 2 4 ∷ l.At 4 ∷ l.Placed (seqnum 2) ∷ l.Same ∷ []

-- the events of a mux of these sizes, which are such as the laws speak of, are answered with these lines
pub record IsRow (shards engines books : ℕ) (xs : List BookEvent) (lines : List Line) : Type 0 where
  pub sizes : are_sizes shards engines books ≡ true
  pub valid : list_all (is_book_event books) xs ≡ true
  pub answered : (mux_run (mux_setup shards engines) xs (mux_opening shards engines books)).lines ≡ lines

abbrev pub TwoBooksRun : Type 0
TwoBooksRun = IsRow 1 2 2 two_books two_books_lines

-- Book 2 keeps one entry while book 1 makes one more than an engine keeps for it.

-- so many appends of book 1, and settings for its records from n on
abbrev pub appends : ℕ → List BookEvent
appends zero = []
appends (suc k) = (1, v.Append 1 (seven ∷ []) []) ∷ appends k

abbrev pub settings : ℕ → ℕ → List BookEvent
settings zero n = []
settings (suc k) n = (1, v.SetAux 1 (seqnum n) (codes "z")) ∷ settings k (suc n)

abbrev pub sents : ℕ → ℕ → List Line
sents zero n = []
sents (suc k) n = l.Sent (sent 1 n) ∷ sents k (suc n)

abbrev pub sets : ℕ → List Line
sets zero = []
sets (suc k) = l.Set ∷ sets k

abbrev pub own_caches : List BookEvent
own_caches =
    (2, v.Append 1 (seven ∷ []) []) ∷ appends 65
    ++ (0, v.Cut) ∷ (0, v.Catch 1) ∷ (2, v.SetAux 1 (seqnum 1) (codes "keep")) ∷ settings 65 1
    ++ (2, v.GetAux 1 (seqnum 1)) ∷ (1, v.GetAux 1 (seqnum 1)) ∷ []

abbrev pub own_caches_lines : List Line
own_caches_lines =
    l.Sent (sent 1 1) ∷ sents 65 1
    ++ l.Cut 1 66 ∷ l.At 66 ∷ l.Set ∷ sets 65
    ++ l.Aux (codes "keep") ∷ l.Absent ∷ []

abbrev pub OwnCachesRun : Type 0
OwnCachesRun = IsRow 1 1 2 own_caches own_caches_lines
