-- A cut.
use Rattle.std.proofs.Common.{◌≡◌, ◌∙◌, ℕ, suc, Bool, true, false, cond, List, ◌∷◌, length, refl, sym, ap, ap₂, subst}
use Rattle.std.proofs.Math.Nat.{le_refl}
use Rattle.boki_types.specs.declared.body.Body.{Body}
use Rattle.boki_types.specs.declared.event.Event.TheVariants as event
use Rattle.boki_types.specs.declared.line.Line.TheVariants as line
use Rattle.boki_types.specs.declared.log.Cut.TheVariants as c
use Rattle.boki_types.specs.declared.plan.Setup.{Setup}
use Rattle.boki_types.specs.declared.program.Function.{Function}
use Rattle.boki_model.specs.Order.{order, progress, last_vector, entry_records}
use Rattle.boki_model.specs.Entries.{same_counts}
use Rattle.boki_model.specs.Live.{LogRecord}
use Rattle.boki_machine.specs.Machine as machine
use Rattle.boki_machine.specs.Machine.{Machine, NumberedAttempt, log, cut_line, catch_up_all, apply_event}
use Rattle.book_api.specs.Books as book
use Rattle.book_api.specs.Books.{BookState, ordered, position, after_copy, after_cut, cut_of, caught_up, all_caught_up}
use Rattle.step_log.specs.Sound.{bodies}
use Rattle.flow_parts.specs.declared.parts.Parts.{Parts}
use Rattle.cluster_events.specs.Machines.{IsBookOf, PartsAreOf, IsEventDone}
use Rattle.cluster_events.specs.Lines.{line_of_cut}
use Rattle.cluster_events.proofs.Machines.{length_is, progress_is}
use Rattle.cluster_events.proofs.Done.{IsBookMoved, book_done, not_moved}

module _ (setup : Setup) (m : Machine) (b : BookState) (is : IsBookOf m b) (here : IsBookMoved setup m m b b) where
  -- the vectors of the machine and of the book, which are the same
  moved : (t : Bool) (q p : List ℕ) → q ≡ p → IsBookMoved setup m (cond t m (record m { vectors = q ∷ m.vectors })) b (cond t b (record b { vectors = p ∷ b.vectors }))
  moved true q p e = here
  moved false q p e = record {
    book = record { shards = is.shards; counts = is.counts; vectors = ap₂ (λ (v : List ℕ) (vs : List (List ℕ)). v ∷ vs) e is.vectors; positions = is.positions; aux = is.aux };
    store = refl;
    replicas = here.replicas;
    sound = here.sound;
    shards = refl;
    engines = refl;
    grows = record { news = entry_records (bodies b) (last_vector b.vectors) p; log_is = refl; within = here.grows.within; rise = λ e. le_refl (position b e) };
  }

  progress_same : progress m.shards m.counts ≡ progress b.shards b.counts
  progress_same = ap₂ (λ (shards : List (List (LogRecord Body))) (counts : List (List ℕ)). progress shards counts) is.shards is.counts ∙ progress_is b

  pub nothing_same : machine.cuts_nothing m ≡ book.cuts_nothing b
  nothing_same = ap₂ (λ (p : List ℕ) (vs : List (List ℕ)). same_counts p (last_vector vs)) progress_same is.vectors

  pub cut_moved : IsBookMoved setup m (machine.cut m) b (after_cut b)
  cut_moved =
      subst (λ (t : Bool). IsBookMoved setup m (cond t m (record m { vectors = progress m.shards m.counts ∷ m.vectors })) b (after_cut b)) (sym nothing_same)
      (moved (book.cuts_nothing b) (progress m.shards m.counts) (progress b.shards b.counts) progress_same)

-- the log of the machine is as long as the book's
pub log_length : (m : Machine) (b : BookState) → IsBookOf m b → length (log m) ≡ length (ordered b)
log_length m b is = ap₂ (λ (shards : List (List (LogRecord Body))) (vectors : List (List ℕ)). length (order shards vectors)) is.shards is.vectors ∙ length_is b

module _ (m : Machine) (b : BookState) (is : IsBookOf m b) where
  line_at : (t : Bool) (q p : List ℕ) → q ≡ p
      → line_of_cut (length (ordered (cond t b (record b { vectors = p ∷ b.vectors })))) (cond t c.Same (c.Entry (suc (length b.vectors))))
      ≡ cut_line t (cond t m (record m { vectors = q ∷ m.vectors }))
  line_at true q p e = refl
  line_at false q p e =
      ap₂ line.Cut (ap (λ (vs : List (List ℕ)). suc (length vs)) (sym is.vectors))
      (sym (log_length (record m { vectors = q ∷ m.vectors }) (record b { vectors = p ∷ b.vectors })
      (record { shards = is.shards; counts = is.counts; vectors = ap₂ (λ (v : List ℕ) (vs : List (List ℕ)). v ∷ vs) e is.vectors; positions = is.positions; aux = is.aux })))

  pub cut_line_is : (setup : Setup) → IsBookMoved setup m m b b → line_of_cut (length (ordered (after_cut b))) (cut_of b) ≡ cut_line (machine.cuts_nothing m) (machine.cut m)
  cut_line_is setup here =
      line_at (book.cuts_nothing b) (progress m.shards m.counts) (progress b.shards b.counts) (progress_same setup m b is here)
      ∙ ap (λ (t : Bool). cut_line t (cond t m (record m { vectors = progress m.shards m.counts ∷ m.vectors }))) (sym (nothing_same setup m b is here))

module _ (setup : Setup) (fs : List Function) (m : Machine) (old : Parts) (are : PartsAreOf setup fs m old) where
  pub cut_done : IsEventDone setup fs event.Cut m (record old { book = after_cut old.book }) (line_of_cut (length (ordered (after_cut old.book))) (cut_of old.book))
  cut_done =
      book_done setup fs m old are event.Cut (record { valid = refl; bytes = refl; text = tt }) tt (after_cut old.book) (line_of_cut (length (ordered (after_cut old.book))) (cut_of old.book))
      (cut_line_is m old.book are.book setup (not_moved setup fs m old are)) (cut_moved setup m old.book are.book (not_moved setup fs m old are))
