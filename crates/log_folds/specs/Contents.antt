-- What records hold doesn't matter to their order, to which of them are live, or to a read: all of these go
-- by tags, conditions and seqnums. So the log of the bytes that the shards keep, and the log of what the
-- bytes say, are read alike.
use Rattle.std.specs.Prelude.{◌≡◌, ℕ, List, [], ◌∷◌, map, Option, option_map, slice_index_or}
use Rattle.lb_base.specs.declared.value.Cond.{Cond}
use Rattle.boki_model.specs.Live.{LogRecord, Live, count, meets_condition, live, upto, is_live}
use Rattle.boki_model.specs.Reads.{tagged_seqnums, next, prev, nth, nth_seq, hidden_bound, read_next, read_prev}
use Rattle.boki_model.specs.Order.{order, order_from_oldest, progress, ordered_locations, seq_of, at_seq, locate}
use Rattle.boki_model.specs.OrderLaws.{ShardsHave, add_to}

-- a record with what is made of what it holds, as what its bytes say
abbrev pub map_record : {A B : Type 0} → (A → B) → LogRecord A → LogRecord B
map_record f r = record { tags = r.tags; condition = r.condition; holds = f r.holds }

abbrev pub map_live : {A B : Type 0} → (A → B) → Live A → Live B
map_live f x = record { seq = x.seq; tags = x.tags; holds = f x.holds }

-- The order, where each record of each shard is mapped.
pub record IsOrderedAlike {X Y : Type 0} (g : X → Y) (shards : List (List X)) : Type 0 where
  pub newest_first :
      (vectors : List (List ℕ)) → order (map (map g) shards) vectors ≡ map g (order shards vectors)
  pub oldest_first :
      (last : List ℕ) (vectors : List (List ℕ))
      → order_from_oldest (map (map g) shards) last vectors ≡ map g (order_from_oldest shards last vectors)
  pub cut : (counts : List (List ℕ)) → progress (map (map g) shards) counts ≡ progress shards counts
  pub have : (v : List ℕ) → ShardsHave shards v → ShardsHave (map (map g) shards) v
  pub had : (v : List ℕ) → ShardsHave (map (map g) shards) v → ShardsHave shards v
  pub places :
      (vectors : List (List ℕ))
      → ordered_locations (map (map g) shards) vectors ≡ ordered_locations shards vectors
  pub seqnum :
      (shard local : ℕ) (vectors : List (List ℕ))
      → seq_of shard local (map (map g) shards) vectors ≡ seq_of shard local shards vectors
  pub place :
      (seq : ℕ) (vectors : List (List ℕ))
      → locate seq (map (map g) shards) vectors ≡ locate seq shards vectors
  -- what stands at a seqnum
  pub stands :
      (seq : ℕ) (vectors : List (List ℕ))
      → at_seq seq (order (map (map g) shards) vectors) ≡ option_map g (at_seq seq (order shards vectors))
  -- one shard, by its number from 0; and a record is added to it
  pub one_shard : (k : ℕ) → slice_index_or (map (map g) shards) k [] ≡ map g (slice_index_or shards k [])
  pub one_more : (k : ℕ) (r : X) → add_to k (g r) (map (map g) shards) ≡ map (map g) (add_to k r shards)

abbrev pub OrdersAreAlike : Type 0 → Type 0 → Type 0
OrdersAreAlike X Y = (g : X → Y) (shards : List (List X)) → IsOrderedAlike g shards

-- The live records and the reads, where what each record holds is mapped.
pub record IsReadAlike {A B : Type 0} (f : A → B) : Type 0 where
  pub live : (log : List (LogRecord A)) → live (map (map_record f) log) ≡ map (map_live f) (live log)
  pub meets_condition :
      (condition : Option Cond) (xs : List (Live A))
      → meets_condition condition (map (map_live f) xs) ≡ meets_condition condition xs
  pub upto : (p : ℕ) (xs : List (Live A)) → upto p (map (map_live f) xs) ≡ map (map_live f) (upto p xs)
  pub is_live : (seq : ℕ) (xs : List (Live A)) → is_live seq (map (map_live f) xs) ≡ is_live seq xs
  pub count : (tag : ℕ) (xs : List (Live A)) → count tag (map (map_live f) xs) ≡ count tag xs
  pub tagged_seqnums : (tag : ℕ) (xs : List (Live A)) → tagged_seqnums tag (map (map_live f) xs) ≡ tagged_seqnums tag xs
  pub next : (tag a : ℕ) (xs : List (Live A)) → next tag a (map (map_live f) xs) ≡ next tag a xs
  pub prev : (tag b : ℕ) (xs : List (Live A)) → prev tag b (map (map_live f) xs) ≡ prev tag b xs
  pub nth :
      (tag place : ℕ) (xs : List (Live A))
      → nth tag place (map (map_live f) xs) ≡ option_map (map_live f) (nth tag place xs)
  pub nth_seq :
      (tag place : ℕ) (xs : List (Live A)) → nth_seq tag place (map (map_live f) xs) ≡ nth_seq tag place xs
  -- the reads by user tags, where trims are told of what is made of the records
  pub hidden_bound :
      (trim : B → Option (ℕ × ℕ)) (tag : ℕ) (xs : List (Live A))
      → hidden_bound trim tag (map (map_live f) xs) ≡ hidden_bound (λ held. trim (f held)) tag xs
  pub read_next :
      (trim : B → Option (ℕ × ℕ)) (tag a : ℕ) (xs : List (Live A))
      → read_next trim tag a (map (map_live f) xs) ≡ read_next (λ held. trim (f held)) tag a xs
  pub read_prev :
      (trim : B → Option (ℕ × ℕ)) (tag b : ℕ) (xs : List (Live A))
      → read_prev trim tag b (map (map_live f) xs) ≡ read_prev (λ held. trim (f held)) tag b xs

abbrev pub ReadsAreAlike : Type 0 → Type 0 → Type 0
ReadsAreAlike A B = (f : A → B) → IsReadAlike f

-- Where the records of two logs agree one by one, the second is the first with each record mapped.
pub record Agree {A B : Type 0} (f : A → B) (r : LogRecord A) (s : LogRecord B) : Type 0 where
  pub tags : s.tags ≡ r.tags
  pub condition : s.condition ≡ r.condition
  pub holds : s.holds ≡ f r.holds

abbrev pub AllAgree : {A B : Type 0} → (A → B) → List (LogRecord A) → List (LogRecord B) → Type 0
AllAgree f [] [] = Unit {0}
AllAgree f [] (s ∷ ss) = ⊥
AllAgree f (r ∷ rs) [] = ⊥
AllAgree f (r ∷ rs) (s ∷ ss) = Agree f r s × AllAgree f rs ss

abbrev pub AgreeingIsMapped : Type 0 → Type 0 → Type 0
AgreeingIsMapped A B =
    (f : A → B) (log : List (LogRecord A)) (others : List (LogRecord B)) → AllAgree f log others
    → others ≡ map (map_record f) log
