-- The records of the published list, and the log of which an index is made.
use Rattle.std.specs.Prelude.{ℕ, zero, suc, List, map, reverse, slice_get, Option, None, option_map}
use Rattle.lb_base.specs.declared.value.Record.{Record}
use Rattle.boki_model.specs.Live.{LogRecord, entry_of}

-- a record, with the number of the engine that appended it
abbrev pub Appended : Type 0
Appended = ℕ × Record

-- what a published list is to the definitions of reads: the newest record first, without its engine
abbrev pub log_of : List Appended → List (LogRecord (List ℕ))
log_of list = reverse (map (λ x. entry_of x.1) list)

-- the record at a seqnum, counted from 1
abbrev pub record_at : ℕ → List Appended → Option Record
record_at zero list = None
record_at (suc index) list = option_map (λ x. x.1) (slice_get list index)
