-- The last logged write of an object, as it is found in a book.
use Rattle.std.specs.Prelude.{ℕ, true, List, [], ◌∷◌, Option, None}
use Rattle.std.specs.Option.{option_or, option_and_then}
use Rattle.lb_base.specs.declared.value.Value.{Value}
use Rattle.boki_types.specs.declared.store.Name.{Name}
use Rattle.boki_model.specs.Order.{at_seq}
use Rattle.boki_model.specs.Writes.{logged_write}
use Rattle.book_api.specs.Books.{BookState, ordered}
use Rattle.obj_store.specs.StandsFor.{logged_of}
use Rattle.step_log.specs.Sound.{body_of}
use Rattle.hm_read.specs.declared.last.LastWrite.{LastWrite}

-- its seqnum, its name, and its value where its record holds it
abbrev pub write_parts : LastWrite → ℕ × (Name × Option Value)
write_parts write = (write.seq.0, (write.name, write.here))

-- the write of a key that the ordered record at a seqnum says
abbrev pub written_at : BookState → List ℕ → ℕ → Option (ℕ × (Name × Option Value))
written_at book key seq =
    option_and_then (λ r. logged_of key seq true (logged_write (body_of r.bytes))) (at_seq seq (ordered book))

-- the write of a key at the last of some seqnums at which there is one
abbrev pub last_written : BookState → List ℕ → List ℕ → Option (ℕ × (Name × Option Value))
last_written book key [] = None
last_written book key (seq ∷ seqs) = option_or (last_written book key seqs) (written_at book key seq)
