-- The log of what the shards' bytes say.
use Rattle.std.proofs.Common.{◌≡◌, ℕ, List, [], ◌∷◌, length, map, Option, Some, None, option_map, option_and_then, refl, ap, ◌∙◌}
use Rattle.lb_base.specs.declared.value.Record.{Record}
use Rattle.boki_model.specs.Live.{entry_of, count, live, upto, is_live}
use Rattle.boki_model.specs.Reads.{tagged_seqnums, next, prev, nth, nth_seq, read_next, read_prev}
use Rattle.boki_model.specs.Order.{order, at_seq}
use Rattle.log_folds.specs.Contents.{map_record, map_live, IsReadAlike}
use Rattle.log_folds.specs.Recorded.{live_at, logged_at}
use Rattle.log_folds.specs.Decoded.{decoded_record, byte_log, byte_view, decoded_log, decoded_view, IsDecodedLog, IsDecodedView}
use Rattle.log_folds.proofs.Maps.{length-mapped}
use Rattle.log_folds.proofs.MappedOrders.{order_mapped, at_seq_mapped}
use Rattle.log_folds.proofs.MappedReads.{read_alike}
use Rattle.log_folds.proofs.Recorded.{of_log}

map_twice : {X Y Z : Type 0} (g : Y → Z) (h : X → Y) (xs : List X) → map (λ x. g (h x)) xs ≡ map g (map h xs)
map_twice g h [] = refl
map_twice g h (x ∷ xs) = ap (λ l. g (h x) ∷ l) (map_twice g h xs)

module _ {B : Type 0} (f : List ℕ → B) (shards : List (List Record)) (vectors : List (List ℕ)) where
  alike : IsReadAlike f
  alike = read_alike f

  log_said : decoded_log f shards vectors ≡ map (map_record f) (byte_log shards vectors)
  log_said = order_mapped (decoded_record f) shards vectors ∙ map_twice (map_record f) entry_of (order shards vectors)

  live_said : live (decoded_log f shards vectors) ≡ map (map_live f) (live (byte_log shards vectors))
  live_said = ap live log_said ∙ alike.live (byte_log shards vectors)

  pub is_said : IsDecodedLog f shards vectors
  is_said = record {
    log = log_said;
    long = ap length (order_mapped (decoded_record f) shards vectors) ∙ length-mapped (decoded_record f) (order shards vectors);
    stands = λ seq. ap (at_seq seq) (order_mapped (decoded_record f) shards vectors) ∙ at_seq_mapped (decoded_record f) seq (order shards vectors);
    records = live_said;
  }

  module _ (p : ℕ) where
    view_said : decoded_view f p shards vectors ≡ map (map_live f) (byte_view p shards vectors)
    view_said = ap (upto p) live_said ∙ alike.upto p (live (byte_log shards vectors))

    -- the record at a seqnum, mapped
    found_said : (o : Option ℕ)
        → option_map (map_live f) (option_and_then (λ seq. logged_at seq (byte_log shards vectors)) o)
        ≡ option_and_then (λ seq. option_map (λ r. live_at seq (decoded_record f r)) (at_seq seq (order shards vectors))) o
    found_said None = refl
    found_said (Some seq) = ap (λ o. option_map (map_live f) (option_map (live_at seq) o)) (at_seq_mapped entry_of seq (order shards vectors)) ∙ at (at_seq seq (order shards vectors))
      where
        at :
            (o : Option Record)
            → option_map (map_live f) (option_map (live_at seq) (option_map entry_of o))
            ≡ option_map (λ r. live_at seq (decoded_record f r)) o
        at None = refl
        at (Some r) = refl

    pub is_seen_said : IsDecodedView f shards vectors p
    is_seen_said = record {
      view = view_said;
      liveness = λ seq. ap (is_live seq) view_said ∙ alike.is_live seq (byte_view p shards vectors);
      counted = λ tag. ap (count tag) view_said ∙ alike.count tag (byte_view p shards vectors);
      seqnums = λ tag. ap (tagged_seqnums tag) view_said ∙ alike.tagged_seqnums tag (byte_view p shards vectors);
      first_from = λ tag a. ap (next tag a) view_said ∙ alike.next tag a (byte_view p shards vectors);
      last_to = λ tag b. ap (prev tag b) view_said ∙ alike.prev tag b (byte_view p shards vectors);
      placed_seq = λ tag place. ap (nth_seq tag place) view_said ∙ alike.nth_seq tag place (byte_view p shards vectors);
      placed = λ tag place.
          ap (nth tag place) view_said
          ∙ alike.nth tag place (byte_view p shards vectors)
          ∙ ap (option_map (map_live f)) ((of_log (byte_log shards vectors) p).placed tag place)
          ∙ found_said (nth_seq tag place (byte_view p shards vectors));
      shown_from = λ trim tag a. ap (read_next trim tag a) view_said ∙ alike.read_next trim tag a (byte_view p shards vectors);
      shown_to = λ trim tag b. ap (read_prev trim tag b) view_said ∙ alike.read_prev trim tag b (byte_view p shards vectors);
    }
