-- A read at a position that the engine's covers answers what it would over all live records of the book.
use Rattle.std.proofs.Common.{◌≡◌, ℕ, suc, ◌≤◌, List, []}
use Rattle.boki_model.specs.Writes.{Store, read_free, read_fenced}
use Rattle.boki_machine.specs.Machine.{Machine}
use Rattle.book_api.specs.Books.{BookState, position}
use Rattle.machine_laws.proofs.Views.{views_read_the_whole}
use Rattle.step_log.specs.Sound.{bodies, live_bodies, view}

-- a machine with the records of the book
abbrev machine_of : BookState → Store → Machine
machine_of book m = record {
  shards = bodies book;
  counts = book.counts;
  vectors = book.vectors;
  positions = book.positions;
  aux = book.aux;
  store = m;
  attempts = [];
}

module _ (book : BookState) (m : Store) (engine : ℕ) (key : List ℕ) where
  pub free_whole :
      (cursor : ℕ) → cursor ≤ position book engine
      → read_free key cursor m (view book engine) ≡ read_free key cursor m (live_bodies book)
  free_whole cursor le = (views_read_the_whole (machine_of book m) engine).free m key cursor le

  pub fenced_whole :
      (at : ℕ) → at ≤ suc (position book engine)
      → read_fenced key at m (view book engine) ≡ read_fenced key at m (live_bodies book)
  fenced_whole at le = (views_read_the_whole (machine_of book m) engine).fenced m key at le
