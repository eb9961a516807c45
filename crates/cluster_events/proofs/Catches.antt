-- Engines are caught up.
use Rattle.std.proofs.Common.{◌≡◌, ◌∙◌, ℕ, ◌-◌, ◌≤◌, true, List, [], length, map, refl, sym, ap, ap₂, subst, le_trans, length-append, length-set, arith}
use Rattle.std.specs.Prelude.{slice_set}
use Rattle.std.proofs.Math.Nat.{le_refl}
use Rattle.std.proofs.lemmas.List.{length-map}
use Rattle.boki_types.specs.declared.event.Event.TheVariants as event
use Rattle.boki_types.specs.declared.line.Line.TheVariants as line
use Rattle.boki_types.specs.declared.plan.Setup.{Setup}
use Rattle.boki_types.specs.declared.program.Function.{Function}
use Rattle.boki_model.specs.Plans.{is_event}
use Rattle.boki_machine.specs.Machine as machine
use Rattle.boki_machine.specs.Machine.{Machine, NumberedAttempt, log, cut_line, catch_up_all, apply_event}
use Rattle.exactly_once.proofs.Machines.EnginesStay.{seen_set, seen_all}
use Rattle.book_api.specs.Books.{BookState, ordered, position, after_cut, caught_up, all_caught_up}
use Rattle.flow_parts.specs.declared.parts.Parts.{Parts}
use Rattle.flow_parts.proofs.Grown.{log_bodies, GrowsTo}
use Rattle.cluster_events.specs.Machines.{IsBookOf, PartsAreOf, IsEventDone}
use Rattle.cluster_events.proofs.Machines.{length_is}
use Rattle.cluster_events.proofs.Done.{IsBookMoved, positions_within, book_done, not_moved}
use Rattle.cluster_events.proofs.Cuts.{log_length, cut_moved}

-- One engine.
module _ (setup : Setup) (fs : List Function) (m : Machine) (old : Parts) (are : PartsAreOf setup fs m old) (engine : ℕ) (valid : is_event setup fs (event.Catch engine) ≡ true) where
  same_length : length (log m) ≡ length (ordered old.book)
  same_length = log_length m old.book are.book

  position_set : (e : ℕ) → position old.book e ≤ position (caught_up engine old.book) e
  position_set e =
      seen_set (position old.book e) (length (ordered old.book)) (engine - 1) (e - 1) old.book.positions
      (subst (λ n. position old.book e ≤ n) (length_is old.book) (positions_within setup fs m old are e)) (le_refl (position old.book e))

  pub catch_done : IsEventDone setup fs (event.Catch engine) m (record old { book = caught_up engine old.book }) (line.At (length (ordered old.book)))
  catch_done =
      book_done setup fs m old are (event.Catch engine) (record { valid = valid; bytes = refl; text = tt }) tt (caught_up engine old.book) (line.At (length (ordered old.book)))
      (ap line.At (sym same_length))
      (record {
        book = record {
          shards = are.book.shards;
          counts = are.book.counts;
          vectors = are.book.vectors;
          positions = ap₂ (λ (ps : List ℕ) (n : ℕ). slice_set ps (engine - 1) n) are.book.positions same_length;
          aux = are.book.aux;
        };
        store = refl;
        replicas = are.replicas;
        sound = are.stand.kept.sound;
        shards = refl;
        engines = length-set old.book.positions (engine - 1) (length (ordered old.book));
        grows = record { news = []; log_is = refl; within = positions_within setup fs m old are; rise = position_set };
      })

-- All of them.
pub caught_grow : (old b : BookState) → GrowsTo old b → GrowsTo old (all_caught_up b)
caught_grow old b grows = record {
  news = grows.news;
  log_is = grows.log_is;
  within = grows.within;
  rise = λ e. seen_all (position old e) (length (ordered b)) (e - 1) b.positions (long e) (grows.rise e);
}
  where
    long : (e : ℕ) → position old e ≤ length (ordered b)
    long e =
        subst (λ n. position old e ≤ n) (sym (length-append grows.news (log_bodies old)) ∙ ap length (sym grows.log_is) ∙ length_is b)
        (le_trans (grows.within e) (omega arith))

pub caught_book : (m : Machine) (b : BookState) → IsBookOf m b → IsBookOf (catch_up_all m) (all_caught_up b)
caught_book m b is = record {
  shards = is.shards;
  counts = is.counts;
  vectors = is.vectors;
  positions = ap₂ (λ (ps : List ℕ) (n : ℕ). map (λ p. n) ps) is.positions (log_length m b is);
  aux = is.aux;
}

pub caught_moved : (setup : Setup) (m after : Machine) (old b : BookState) → IsBookMoved setup m after old b → IsBookMoved setup m (catch_up_all after) old (all_caught_up b)
caught_moved setup m after old b moved = record {
  book = caught_book after b moved.book;
  store = moved.store;
  replicas = moved.replicas;
  sound = moved.sound;
  shards = moved.shards;
  engines = length-map b.positions (λ p. length (ordered b)) ∙ moved.engines;
  grows = caught_grow old b moved.grows;
}

module _ (setup : Setup) (fs : List Function) (m : Machine) (old : Parts) (are : PartsAreOf setup fs m old) where
  here : IsBookMoved setup m m old.book old.book
  here = not_moved setup fs m old are

  pub sync_done : IsEventDone setup fs event.Sync m (record old { book = all_caught_up (after_cut old.book) }) (line.Sync (length (ordered (after_cut old.book))))
  sync_done =
      let cut = cut_moved setup m old.book are.book here in
      book_done setup fs m old are event.Sync (record { valid = refl; bytes = refl; text = tt }) tt (all_caught_up (after_cut old.book)) (line.Sync (length (ordered (after_cut old.book))))
      (ap line.Sync (sym (log_length (machine.cut m) (after_cut old.book) cut.book)))
      (caught_moved setup m (machine.cut m) old.book (after_cut old.book) cut)
