-- Reads by user tags, and what became of records.
use Rattle.std.proofs.Common.{◌≡◌, ◌∙◌, ℕ, ◌-◌, Bool, true, false, cond, leb, List, [], Option, Some, None, Result, Ok, Err, option_map, refl, sym, ap, ap₂, subst}
use Rattle.std.specs.Prelude.{slice_index}
use Rattle.std.specs.Option.{option_map_or}
use Rattle.std.specs.Str.{IsUtf8}
use Rattle.lb_base.specs.declared.value.Record.{Record}
use Rattle.lb_base.specs.declared.value.Seqnum.{Seqnum}
use Rattle.lb_base.specs.declared.value.Tag.{Tag}
use Rattle.boki_types.specs.declared.body.Body.{Body}
use Rattle.boki_types.specs.declared.event.Event.TheVariants as event
use Rattle.boki_types.specs.declared.line.Line.TheVariants as line
use Rattle.boki_types.specs.declared.log.Settle.TheVariants.{Placed, Taken}
use Rattle.boki_types.specs.declared.plan.Setup.{Setup}
use Rattle.boki_types.specs.declared.program.Function.{Function}
use Rattle.boki_model.specs.Bodies.{trim_of}
use Rattle.boki_model.specs.Live.{LogRecord, Live, upto, is_live}
use Rattle.boki_model.specs.Order.{order, at_seq, seq_of}
use Rattle.boki_model.specs.Reads.{read_next, read_prev}
use Rattle.boki_model.specs.Plans.{is_event}
use Rattle.boki_machine.specs.Machine as machine
use Rattle.boki_machine.specs.Machine.{Machine, user_text, user_text_at, found_line, settle_line, apply_event}
use Rattle.boki_machine.specs.Step.{seqnum}
use Rattle.machine_laws.proofs.Texts.{engines_see_texts}
use Rattle.log_folds.specs.Decoded.{decoded_record}
use Rattle.log_folds.specs.Recorded.{live_at, logged_at}
use Rattle.log_folds.proofs.MappedOrders.{ordered_alike}
use Rattle.log_folds.proofs.Recorded.{of_log, texts_recorded}
use Rattle.log_folds.proofs.Said.{is_said, is_seen_said}
use Rattle.rec_codec.specs.Reading.{read}
use Rattle.book_api.specs.Books.{BookState, ordered, position, seen, settle_of, settled, trim_of_read, trim_of_bytes}
use Rattle.step_log.specs.Sound.{body_or_end, body_of, bodies, view}
use Rattle.flow_parts.specs.declared.parts.Parts.{Parts}
use Rattle.cluster_events.specs.Lines.{text_in, line_found, line_of_settle, HasText}
use Rattle.cluster_events.specs.Machines.{PartsAreOf, IsEventDone}
use Rattle.cluster_events.proofs.LiveFound.{next_seen, prev_seen}
use Rattle.cluster_events.proofs.Done.{same_done, live_is}

-- A tag's trims are said by the bytes.
trim_said : (r : Result Body ℕ) → trim_of (body_or_end r) ≡ trim_of_read r
trim_said (Ok body) = refl
trim_said (Err left) = refl

trims_said : (λ bytes. trim_of (body_of bytes)) ≡ trim_of_bytes
trims_said = (λ i bytes. trim_said (read bytes) i)

module _ (b : BookState) (engine : ℕ) where
  pub next_said : (tag a : ℕ) → read_next trim_of tag a (view b engine) ≡ read_next trim_of_bytes tag a (seen b engine)
  next_said tag a =
      (is_seen_said body_of b.shards b.vectors (position b engine)).shown_from trim_of tag a
      ∙ ap (λ trim. read_next trim tag a (seen b engine)) trims_said

  pub prev_said : (tag a : ℕ) → read_prev trim_of tag a (view b engine) ≡ read_prev trim_of_bytes tag a (seen b engine)
  prev_said tag a =
      (is_seen_said body_of b.shards b.vectors (position b engine)).shown_to trim_of tag a
      ∙ ap (λ trim. read_prev trim tag a (seen b engine)) trims_said

  pub live_said : (seq : ℕ) → is_live seq (view b engine) ≡ is_live seq (seen b engine)
  live_said seq = (is_seen_said body_of b.shards b.vectors (position b engine)).liveness seq

  -- The text at a live record's seqnum is what the ordered record says.
  at_record : (seq : ℕ) (o : Option Record) → option_map_or (λ (x : Live Body). user_text x.holds) (option_map (live_at seq) (option_map (decoded_record body_of) o)) [] ≡ option_map_or (λ (r : Record). user_text (body_of r.bytes)) o []
  at_record seq None = refl
  at_record seq (Some r) = refl

  pub text_same : (seq : Seqnum) → is_live seq.0 (view b engine) ≡ true → user_text_at seq.0 (view b engine) ≡ text_in b seq
  text_same seq there =
      let log = order (bodies b) b.vectors in
      texts_recorded seq.0 (view b engine)
      ∙ ap (λ (o : Option (Live Body)). option_map_or (λ (x : Live Body). user_text x.holds) o [])
      ((of_log log (position b engine)).stands seq.0
      ∙ ap (λ (t : Bool). cond t (logged_at seq.0 log) None) there
      ∙ ap (option_map (live_at seq.0)) ((is_said body_of b.shards b.vectors).stands seq.0))
      ∙ at_record seq.0 (at_seq seq.0 (ordered b))

module _ (setup : Setup) (fs : List Function) (m : Machine) (old : Parts) (are : PartsAreOf setup fs m old) (engine : ℕ) where
  -- The engine sees of the machine what it sees of the book.
  pub position_same : machine.position m engine ≡ position old.book engine
  position_same = ap (λ (ps : List ℕ). slice_index ps (engine - 1)) are.book.positions

  pub view_same : machine.view m engine ≡ view old.book engine
  view_same = ap₂ (λ (p : ℕ) (records : List (Live Body)). upto p records) position_same (live_is m old.book are.book)

  -- What is found is told with its text, which is one.
  module _ (found : Option Seqnum) (o : Option ℕ) (same : option_map (λ (seq : Seqnum). seq.0) found ≡ o) (sees : (seq : ℕ) → o ≡ Some seq → is_live seq (view old.book engine) ≡ true) where
    text_there : (seq : Seqnum) → found ≡ Some seq → user_text_at seq.0 (machine.view m engine) ≡ text_in old.book seq
    text_there seq e =
        ap (user_text_at seq.0) view_same
        ∙ text_same old.book engine seq (sees seq.0 (sym same ∙ ap (option_map (λ (seq : Seqnum). seq.0)) e))

    pub has_text : HasText old.book found
    has_text = at found refl
      where
        at : (f : Option Seqnum) → found ≡ f → HasText old.book f
        at None e = tt
        at (Some seq) e = subst IsUtf8 (text_there seq e) ((engines_see_texts m engine are.kept.texts).found seq.0)

    pub line_there : line_found old.book found ≡ found_line (machine.view m engine) o
    line_there = at found refl ∙ ap (found_line (machine.view m engine)) same
      where
        at : (f : Option Seqnum) → found ≡ f → line_found old.book f ≡ found_line (machine.view m engine) (option_map (λ (seq : Seqnum). seq.0) f)
        at None e = refl
        at (Some seq) e = ap (line.Found seq) (sym (text_there seq e))

  module _ (tag : Tag) (found : Option Seqnum) where
    -- the reads of the machine find it too
    next_found : (a : ℕ) → option_map (λ (seq : Seqnum). seq.0) found ≡ read_next trim_of_bytes tag.0 a (seen old.book engine) → option_map (λ (seq : Seqnum). seq.0) found ≡ read_next trim_of tag.0 a (machine.view m engine)
    next_found a is = is ∙ sym (next_said old.book engine tag.0 a) ∙ ap (read_next trim_of tag.0 a) (sym view_same)

    prev_found : (a : ℕ) → option_map (λ (seq : Seqnum). seq.0) found ≡ read_prev trim_of_bytes tag.0 a (seen old.book engine) → option_map (λ (seq : Seqnum). seq.0) found ≡ read_prev trim_of tag.0 a (machine.view m engine)
    prev_found a is = is ∙ sym (prev_said old.book engine tag.0 a) ∙ ap (read_prev trim_of tag.0 a) (sym view_same)

    next_sees : (a seq : ℕ) → read_next trim_of tag.0 a (machine.view m engine) ≡ Some seq → is_live seq (view old.book engine) ≡ true
    next_sees a seq e = next_seen trim_of tag.0 seq (view old.book engine) a (ap (read_next trim_of tag.0 a) (sym view_same) ∙ e)

    prev_sees : (a seq : ℕ) → read_prev trim_of tag.0 a (machine.view m engine) ≡ Some seq → is_live seq (view old.book engine) ≡ true
    prev_sees a seq e = prev_seen trim_of tag.0 seq (view old.book engine) a (ap (read_prev trim_of tag.0 a) (sym view_same) ∙ e)

    pub next_text : (a : ℕ) → option_map (λ (seq : Seqnum). seq.0) found ≡ read_next trim_of_bytes tag.0 a (seen old.book engine) → HasText old.book found
    next_text a is = has_text found (read_next trim_of tag.0 a (machine.view m engine)) (next_found a is) (next_sees a)

    pub prev_text : (a : ℕ) → option_map (λ (seq : Seqnum). seq.0) found ≡ read_prev trim_of_bytes tag.0 a (seen old.book engine) → HasText old.book found
    prev_text a is = has_text found (read_prev trim_of tag.0 a (machine.view m engine)) (prev_found a is) (prev_sees a)

    pub next_done :
        (from : Seqnum) → is_event setup fs (event.Next engine tag from) ≡ true
        → option_map (λ (seq : Seqnum). seq.0) found ≡ read_next trim_of_bytes tag.0 from.0 (seen old.book engine)
        → IsEventDone setup fs (event.Next engine tag from) m old (line_found old.book found)
    next_done from valid is =
        same_done setup fs m old are (event.Next engine tag from) (line_found old.book found) (record { valid = valid; bytes = refl; text = tt })
        (line_there found (read_next trim_of tag.0 from.0 (machine.view m engine)) (next_found from.0 is) (next_sees from.0)) refl

    pub prev_done :
        (most : Seqnum) → is_event setup fs (event.Prev engine tag most) ≡ true
        → option_map (λ (seq : Seqnum). seq.0) found ≡ read_prev trim_of_bytes tag.0 most.0 (seen old.book engine)
        → IsEventDone setup fs (event.Prev engine tag most) m old (line_found old.book found)
    prev_done most valid is =
        same_done setup fs m old are (event.Prev engine tag most) (line_found old.book found) (record { valid = valid; bytes = refl; text = tt })
        (line_there found (read_prev trim_of tag.0 most.0 (machine.view m engine)) (prev_found most.0 is) (prev_sees most.0)) refl

    pub tail_done :
        is_event setup fs (event.Tail engine tag) ≡ true
        → option_map (λ (seq : Seqnum). seq.0) found ≡ read_prev trim_of_bytes tag.0 (position old.book engine) (seen old.book engine)
        → IsEventDone setup fs (event.Tail engine tag) m old (line_found old.book found)
    tail_done valid is =
        let p = position old.book engine in
        same_done setup fs m old are (event.Tail engine tag) (line_found old.book found) (record { valid = valid; bytes = refl; text = tt })
        (line_there found (read_prev trim_of tag.0 p (machine.view m engine)) (prev_found p is) (prev_sees p)
        ∙ ap (λ n. found_line (machine.view m engine) (read_prev trim_of tag.0 n (machine.view m engine))) (sym position_same)) refl

  -- What became of a record.
  settle_at : (o : Option ℕ) → line_of_settle (settle_of (position old.book engine) (seen old.book engine) o) ≡ settle_line (position old.book engine) (view old.book engine) o
  settle_at None = refl
  settle_at (Some seq) = covered (leb seq (position old.book engine)) (is_live seq (view old.book engine)) (is_live seq (seen old.book engine)) (live_said old.book engine seq)
    where
      covered : (t l k : Bool) → l ≡ k → line_of_settle (cond t (Some (cond k (Placed (seqnum seq)) (Taken (seqnum seq)))) None) ≡ cond t (cond l (line.Placed (seqnum seq)) (line.Taken (seqnum seq))) line.Waits
      covered false l k e = refl
      covered true true true e = refl
      covered true false false e = refl
      covered true true false e = cc
      covered true false true e = cc

  pub settled_done : (shard local : ℕ) → is_event setup fs (event.Settled engine shard local) ≡ true
      → IsEventDone setup fs (event.Settled engine shard local) m old (line_of_settle (settled old.book engine (record { shard = shard; local = local })))
  settled_done shard local valid =
      same_done setup fs m old are (event.Settled engine shard local) (line_of_settle (settled old.book engine (record { shard = shard; local = local }))) (record { valid = valid; bytes = refl; text = tt })
      (settle_at (seq_of shard local old.book.shards old.book.vectors)
      ∙ ap₂ (λ (p : ℕ) (records : List (Live Body)). settle_line p records (seq_of shard local old.book.shards old.book.vectors)) (sym position_same) (sym view_same)
      ∙ ap (settle_line (machine.position m engine) (machine.view m engine)) (sym seq_same)) refl
    where
      seq_same : seq_of shard local m.shards m.vectors ≡ seq_of shard local old.book.shards old.book.vectors
      seq_same =
          ap₂ (λ (shards : List (List (LogRecord Body))) (vectors : List (List ℕ)). seq_of shard local shards vectors) are.book.shards are.book.vectors
          ∙ (ordered_alike (decoded_record body_of) old.book.shards).seqnum shard local old.book.vectors
