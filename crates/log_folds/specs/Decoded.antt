-- Shards keep records of bytes. The log of what the bytes say is that of the bytes, mapped; and so is what
-- an engine sees of it.
use Rattle.std.specs.Prelude.{◌≡◌, ℕ, List, length, map, Option, option_map, option_and_then}
use Rattle.lb_base.specs.declared.value.Record.{Record}
use Rattle.boki_model.specs.Live.{LogRecord, Live, entry_of, count, live, upto, is_live}
use Rattle.boki_model.specs.Reads.{tagged_seqnums, next, prev, nth, nth_seq, read_next, read_prev}
use Rattle.boki_model.specs.Order.{order, at_seq}
use Rattle.log_folds.specs.Contents.{map_record, map_live}
use Rattle.log_folds.specs.Recorded.{live_at}

-- a record as the shards keep it, with what its bytes say
abbrev pub decoded_record : {B : Type 0} → (List ℕ → B) → Record → LogRecord B
decoded_record f r = map_record f (entry_of r)

-- the shards' records, each with what it says
abbrev pub decoded_shards : {B : Type 0} → (List ℕ → B) → List (List Record) → List (List (LogRecord B))
decoded_shards f shards = map (map (decoded_record f)) shards

-- the log of the bytes, and what is seen of it up to p
abbrev pub byte_log : List (List Record) → List (List ℕ) → List (LogRecord (List ℕ))
byte_log shards vectors = map entry_of (order shards vectors)

abbrev pub byte_view : ℕ → List (List Record) → List (List ℕ) → List (Live (List ℕ))
byte_view p shards vectors = upto p (live (byte_log shards vectors))

-- and those of what they say
abbrev pub decoded_log : {B : Type 0} → (List ℕ → B) → List (List Record) → List (List ℕ) → List (LogRecord B)
decoded_log f shards vectors = order (decoded_shards f shards) vectors

abbrev pub decoded_view : {B : Type 0} → (List ℕ → B) → ℕ → List (List Record) → List (List ℕ) → List (Live B)
decoded_view f p shards vectors = upto p (live (decoded_log f shards vectors))

-- the ordered record at a seqnum, live or not, with what it says
abbrev pub decoded_at : {B : Type 0} → (List ℕ → B) → ℕ → List (List Record) → List (List ℕ) → Option (Live B)
decoded_at f seq shards vectors = option_map (λ r. live_at seq (decoded_record f r)) (at_seq seq (order shards vectors))

-- What the bytes say, by the bytes.
pub record IsDecodedLog
    {B : Type 0} (f : List ℕ → B) (shards : List (List Record)) (vectors : List (List ℕ)) : Type 0 where
  pub log : decoded_log f shards vectors ≡ map (map_record f) (byte_log shards vectors)
  pub long : length (decoded_log f shards vectors) ≡ length (order shards vectors)
  pub stands :
      (seq : ℕ)
      → at_seq seq (decoded_log f shards vectors) ≡ option_map (decoded_record f) (at_seq seq (order shards vectors))
  pub records : live (decoded_log f shards vectors) ≡ map (map_live f) (live (byte_log shards vectors))

-- And the reads at a position.
pub record IsDecodedView
    {B : Type 0} (f : List ℕ → B) (shards : List (List Record)) (vectors : List (List ℕ)) (p : ℕ) : Type 0 where
  pub view : decoded_view f p shards vectors ≡ map (map_live f) (byte_view p shards vectors)
  pub liveness :
      (seq : ℕ) → is_live seq (decoded_view f p shards vectors) ≡ is_live seq (byte_view p shards vectors)
  pub counted : (tag : ℕ) → count tag (decoded_view f p shards vectors) ≡ count tag (byte_view p shards vectors)
  pub seqnums :
      (tag : ℕ) → tagged_seqnums tag (decoded_view f p shards vectors) ≡ tagged_seqnums tag (byte_view p shards vectors)
  pub first_from :
      (tag a : ℕ) → next tag a (decoded_view f p shards vectors) ≡ next tag a (byte_view p shards vectors)
  pub last_to :
      (tag b : ℕ) → prev tag b (decoded_view f p shards vectors) ≡ prev tag b (byte_view p shards vectors)
  pub placed_seq :
      (tag place : ℕ)
      → nth_seq tag place (decoded_view f p shards vectors) ≡ nth_seq tag place (byte_view p shards vectors)
  -- the record at a place: its seqnum is found, and the ordered record there says the rest
  pub placed :
      (tag place : ℕ) → nth tag place (decoded_view f p shards vectors)
      ≡ option_and_then (λ seq. decoded_at f seq shards vectors) (nth_seq tag place (byte_view p shards vectors))
  pub shown_from :
      (trim : B → Option (ℕ × ℕ)) (tag a : ℕ)
      → read_next trim tag a (decoded_view f p shards vectors)
      ≡ read_next (λ bytes. trim (f bytes)) tag a (byte_view p shards vectors)
  pub shown_to :
      (trim : B → Option (ℕ × ℕ)) (tag b : ℕ)
      → read_prev trim tag b (decoded_view f p shards vectors)
      ≡ read_prev (λ bytes. trim (f bytes)) tag b (byte_view p shards vectors)

abbrev pub LogsAreDecoded : Type 0 → Type 0
LogsAreDecoded B =
    (f : List ℕ → B) (shards : List (List Record)) (vectors : List (List ℕ)) → IsDecodedLog f shards vectors

abbrev pub ViewsAreDecoded : Type 0 → Type 0
ViewsAreDecoded B =
    (f : List ℕ → B) (shards : List (List Record)) (vectors : List (List ℕ)) (p : ℕ)
    → IsDecodedView f shards vectors p
