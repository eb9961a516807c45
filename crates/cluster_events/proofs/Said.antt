-- The events by what the calls of the book say.
use Rattle.std.proofs.Common.{◌≡◌, ◌∙◌, ℕ, Bool, true, List, Option, length, option_map, sym, ap, subst}
use Rattle.std.specs.Str.{IsUtf8}
use Rattle.lb_base.specs.declared.value.Seqnum.{Seqnum}
use Rattle.lb_base.specs.declared.value.Tag.{Tag}
use Rattle.boki_types.specs.declared.event.Event.{Event}
use Rattle.boki_types.specs.declared.event.Event.TheVariants as event
use Rattle.boki_types.specs.declared.line.Line.{Line}
use Rattle.boki_types.specs.declared.line.Line.TheVariants as line
use Rattle.boki_types.specs.declared.log.Cut.{Cut}
use Rattle.boki_types.specs.declared.log.Settle.{Settle}
use Rattle.boki_types.specs.declared.plan.Setup.{Setup}
use Rattle.boki_types.specs.declared.program.Function.{Function}
use Rattle.boki_model.specs.Plans.{is_event}
use Rattle.boki_model.specs.Reads.{read_next, read_prev}
use Rattle.boki_machine.specs.Machine.{Machine, aux_at}
use Rattle.book_api.specs.Books.{BookState, ordered, position, seen, settled, trim_of_bytes, copied_count, after_copy, cut_of, after_cut, caught_up, all_caught_up, is_covered, after_set, after_get, aux_of, IsCut, IsCaughtUp, AreCaughtUp, IsSet}
use Rattle.flow_parts.specs.declared.parts.Parts.{Parts}
use Rattle.cluster_events.specs.Lines.{line_of_cut, line_of_settle, line_of_set, line_of_aux, line_found, HasText}
use Rattle.cluster_events.specs.Machines.{PartsAreOf, IsEventDone}
use Rattle.cluster_events.proofs.Copies.{copy_done}
use Rattle.cluster_events.proofs.Cuts.{cut_done}
use Rattle.cluster_events.proofs.Catches.{catch_done, sync_done}
use Rattle.cluster_events.proofs.AuxData.{set_done, get_done}
use Rattle.cluster_events.proofs.ReadLines.{next_done, prev_done, tail_done, next_text, prev_text, settled_done}

module _ (setup : Setup) (fs : List Function) (m : Machine) (old : Parts) (are : PartsAreOf setup fs m old) where
  -- with the book and the line that were answered
  by_answer : (event : Event) (b c : BookState) (l k : Line) → c ≡ b → k ≡ l → IsEventDone setup fs event m (record old { book = b }) l → IsEventDone setup fs event m (record old { book = c }) k
  by_answer event b c l k book is done =
      subst (λ (b : BookState). IsEventDone setup fs event m (record old { book = b }) k) (sym book)
      (subst (λ (l : Line). IsEventDone setup fs event m (record old { book = b }) l) (sym is) done)

  by_line : (event : Event) (l k : Line) → k ≡ l → IsEventDone setup fs event m old l → IsEventDone setup fs event m old k
  by_line event l k is done = subst (λ (l : Line). IsEventDone setup fs event m old l) (sym is) done

  pub copy_said : (shard replica n count : ℕ) (b : BookState) → is_event setup fs (event.Copy shard replica n) ≡ true → count ≡ copied_count shard replica n old.book → b ≡ after_copy shard replica n old.book
      → IsEventDone setup fs (event.Copy shard replica n) m (record old { book = b }) (line.Copied count)
  copy_said shard replica n count b valid is after =
      by_answer (event.Copy shard replica n) (after_copy shard replica n old.book) b (line.Copied (copied_count shard replica n old.book)) (line.Copied count) after (ap line.Copied is)
      (copy_done setup fs m old are shard replica n valid)

  pub cut_said : (b : BookState) (cut : Cut) (n : ℕ) (l : Line) → IsCut old.book b cut → n ≡ length (ordered b) → l ≡ line_of_cut n cut → IsEventDone setup fs event.Cut m (record old { book = b }) l
  cut_said b cut n l is long line_is =
      by_answer event.Cut (after_cut old.book) b (line_of_cut (length (ordered (after_cut old.book))) (cut_of old.book)) l is.after
      (line_is ∙ ap (λ n. line_of_cut n cut) (long ∙ ap (λ (b : BookState). length (ordered b)) is.after) ∙ ap (line_of_cut (length (ordered (after_cut old.book)))) is.answer)
      (cut_done setup fs m old are)

  pub catch_said : (engine n : ℕ) (b : BookState) → is_event setup fs (event.Catch engine) ≡ true → IsCaughtUp engine old.book b n → IsEventDone setup fs (event.Catch engine) m (record old { book = b }) (line.At n)
  catch_said engine n b valid is =
      by_answer (event.Catch engine) (caught_up engine old.book) b (line.At (length (ordered old.book))) (line.At n) is.after (ap line.At is.answer) (catch_done setup fs m old are engine valid)

  pub sync_said : (b c : BookState) (cut : Cut) (n : ℕ) → IsCut old.book b cut → AreCaughtUp b c n → IsEventDone setup fs event.Sync m (record old { book = c }) (line.Sync n)
  sync_said b c cut n is caught =
      by_answer event.Sync (all_caught_up (after_cut old.book)) c (line.Sync (length (ordered (after_cut old.book)))) (line.Sync n) (caught.after ∙ ap all_caught_up is.after)
      (ap line.Sync (caught.answer ∙ ap (λ (b : BookState). length (ordered b)) is.after)) (sync_done setup fs m old are)

  module _ (engine : ℕ) where
    pub set_said : (seq : Seqnum) (text bytes : List ℕ) (set : Bool) (b : BookState) (l : Line) → is_event setup fs (event.SetAux engine seq text) ≡ true → bytes ≡ text → IsUtf8 text → IsSet engine seq.0 bytes old.book b set
        → l ≡ line_of_set set → IsEventDone setup fs (event.SetAux engine seq text) m (record old { book = b }) l
    set_said seq text bytes set b l valid same utf8 is line_is =
        by_answer (event.SetAux engine seq text) (after_set engine seq.0 text old.book) b (line_of_set (is_covered old.book engine seq.0)) l
        (is.after ∙ ap (λ (bytes : List ℕ). after_set engine seq.0 bytes old.book) same) (line_is ∙ ap line_of_set is.answer) (set_done setup fs m old are engine seq text valid utf8)

    pub get_said : (seq : Seqnum) (b : BookState) (l : Line) → is_event setup fs (event.GetAux engine seq) ≡ true → b ≡ after_get engine seq.0 old.book → l ≡ line_of_aux (aux_at seq.0 (aux_of old.book engine))
        → IsEventDone setup fs (event.GetAux engine seq) m (record old { book = b }) l
    get_said seq b l valid after line_is =
        by_answer (event.GetAux engine seq) (after_get engine seq.0 old.book) b (line_of_aux (aux_at seq.0 (aux_of old.book engine))) l after line_is (get_done setup fs m old are engine seq valid)

    module _ (tag : Tag) (found : Option Seqnum) (l : Line) (line_is : HasText old.book found → l ≡ line_found old.book found) where
      pub next_said : (from : Seqnum) → is_event setup fs (event.Next engine tag from) ≡ true → option_map (λ (seq : Seqnum). seq.0) found ≡ read_next trim_of_bytes tag.0 from.0 (seen old.book engine)
          → IsEventDone setup fs (event.Next engine tag from) m old l
      next_said from valid is =
          by_line (event.Next engine tag from) (line_found old.book found) l (line_is (next_text setup fs m old are engine tag found from.0 is)) (next_done setup fs m old are engine tag found from valid is)

      pub prev_said : (most : Seqnum) → is_event setup fs (event.Prev engine tag most) ≡ true → option_map (λ (seq : Seqnum). seq.0) found ≡ read_prev trim_of_bytes tag.0 most.0 (seen old.book engine)
          → IsEventDone setup fs (event.Prev engine tag most) m old l
      prev_said most valid is =
          by_line (event.Prev engine tag most) (line_found old.book found) l (line_is (prev_text setup fs m old are engine tag found most.0 is)) (prev_done setup fs m old are engine tag found most valid is)

      pub tail_said : is_event setup fs (event.Tail engine tag) ≡ true → option_map (λ (seq : Seqnum). seq.0) found ≡ read_prev trim_of_bytes tag.0 (position old.book engine) (seen old.book engine)
          → IsEventDone setup fs (event.Tail engine tag) m old l
      tail_said valid is =
          by_line (event.Tail engine tag) (line_found old.book found) l (line_is (prev_text setup fs m old are engine tag found (position old.book engine) is)) (tail_done setup fs m old are engine tag found valid is)

    pub settled_said : (shard local : ℕ) (o : Option Settle) (l : Line) → is_event setup fs (event.Settled engine shard local) ≡ true → o ≡ settled old.book engine (record { shard = shard; local = local })
        → l ≡ line_of_settle o → IsEventDone setup fs (event.Settled engine shard local) m old l
    settled_said shard local o l valid is line_is =
        by_line (event.Settled engine shard local) (line_of_settle (settled old.book engine (record { shard = shard; local = local }))) l (line_is ∙ ap line_of_settle is) (settled_done setup fs m old are engine shard local valid)
