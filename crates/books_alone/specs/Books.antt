-- Several LogBooks on one physical log. The tag t of the book b is the user tag b * 2^48 + t of the
-- physical log, and a record is of the book whose tags it has. To its book a record looks as if the others
-- weren't there: this says which records of the shards, of the metalog's entries and of the ordered list a
-- book has, and how its numbers and the physical ones tell each other.
use Rattle.std.specs.Prelude.{ℕ, zero, suc, ◌+◌, ◌*◌, ◌/◌, ◌%◌, ◌^◌, ◌==◌, nat_le, Bool, cond, List, [], ◌∷◌, length, map, take, option_map, unwrap_or, slice_index}
use Rattle.lb_base.specs.declared.value.Tag.{Tag}
use Rattle.lb_base.specs.declared.value.Cond.{Cond}
use Rattle.boki_model.specs.Order.{first_count, other_counts, last_vector, at_seq}
use Rattle.boki_model.specs.Live.{LogRecord, Live}
use Rattle.boki_model.specs.Entries.{same_counts}
use Rattle.boki_machine.specs.Machine.{first_tag}

-- Tags.

-- a book's tag on the physical log, and as the book knows it
abbrev pub book_tag : ℕ → Tag → Tag
book_tag b t = record { 0 = b * 2 ^ 48 + t.0 }

abbrev pub own_tag : Tag → Tag
own_tag t = record { 0 = t.0 % 2 ^ 48 }

-- the book whose tags these are, by the first of them
abbrev pub book_of : List Tag → ℕ
book_of tags = (first_tag tags).0 / 2 ^ 48

abbrev pub are_of : ℕ → List Tag → Bool
are_of b tags = b == book_of tags

-- Records.

-- those that pass a test, each as it looks then
abbrev pub selected : {X Y : Type 0} → (X → Bool) → (X → Y) → List X → List Y
selected keep look [] = []
selected keep look (x ∷ xs) = cond (keep x) (look x ∷ selected keep look xs) (selected keep look xs)

abbrev pub count_selected : {X : Type 0} → (X → Bool) → List X → ℕ
count_selected keep [] = 0
count_selected keep (x ∷ xs) = cond (keep x) (suc (count_selected keep xs)) (count_selected keep xs)

abbrev pub is_of : {A : Type 0} → ℕ → LogRecord A → Bool
is_of b r = are_of b r.tags

abbrev pub own_condition : Cond → Cond
own_condition c = record { tag = own_tag c.tag; place = c.place }

-- how a record looks to its book: its tags and its condition's tag are the book's
abbrev pub own_entry : {A : Type 0} → LogRecord A → LogRecord A
own_entry r = record {
  tags = map own_tag r.tags;
  condition = option_map own_condition r.condition;
  holds = r.holds;
}

-- the book's records, of a shard or of the ordered list
abbrev pub own_entries : {A : Type 0} → ℕ → List (LogRecord A) → List (LogRecord A)
own_entries b rs = selected (is_of b) own_entry rs

-- The book's metalog. A vector counts the book's records among those that the physical one counts; an
-- entry that adds none of them isn't there.
abbrev pub own_vector : {X : Type 0} → (X → Bool) → List (List X) → List ℕ → List ℕ
own_vector keep [] v = []
own_vector keep (s ∷ ss) v = count_selected keep (take (first_count v) s) ∷ own_vector keep ss (other_counts v)

abbrev pub own_vectors : {X : Type 0} → (X → Bool) → List (List X) → List (List ℕ) → List (List ℕ)
own_vectors keep shards [] = []
own_vectors keep shards (v ∷ vs) =
    cond (same_counts (own_vector keep shards v) (last_vector (own_vectors keep shards vs)))
    (own_vectors keep shards vs) (own_vector keep shards v ∷ own_vectors keep shards vs)

-- Numbers. In a book's events a seqnum is the place among its ordered records, dead ones counted; and a
-- position is the number of its records in the engine's view.

-- the physical seqnums of the book's records, the newest first
abbrev pub seqnums : {X : Type 0} → (X → Bool) → List X → List ℕ
seqnums keep [] = []
seqnums keep (r ∷ log) = cond (keep r) (suc (length log) ∷ seqnums keep log) (seqnums keep log)

-- how many of them are at most n
abbrev pub count_upto : ℕ → List ℕ → ℕ
count_upto n [] = 0
count_upto n (q ∷ qs) = cond (nat_le q n) (suc (count_upto n qs)) (count_upto n qs)

-- a physical seqnum or position as the book's number
abbrev pub own_seq : {A : Type 0} → ℕ → List (LogRecord A) → ℕ → ℕ
own_seq b log s = count_upto s (seqnums (is_of b) log)

-- the book's seqnum n on the physical log: that of its n-th record, and behind its last one the seqnum
-- behind the log's end
abbrev pub physical_seq : {A : Type 0} → ℕ → List (LogRecord A) → ℕ → ℕ
physical_seq b log n = unwrap_or (at_seq n (seqnums (is_of b) log)) (cond (n == 0) 0 (suc (length log)))

-- the local numbers of the book's records in a shard, where k others are before it
abbrev pub locals : {X : Type 0} → (X → Bool) → ℕ → List X → List ℕ
locals keep k [] = []
locals keep k (r ∷ rs) = cond (keep r) (suc k ∷ locals keep (suc k) rs) (locals keep (suc k) rs)

-- a physical local number as the book's: how many of the shard's first records are the book's
abbrev pub own_local : {A : Type 0} → ℕ → List (LogRecord A) → ℕ → ℕ
own_local b shard l = count_selected (is_of b) (take l shard)

-- the book's local number n on the physical log, and 0 where it has no such record
abbrev pub physical_local : {X : Type 0} → (X → Bool) → List X → ℕ → ℕ
physical_local keep shard zero = 0
physical_local keep shard (suc n) = slice_index (locals keep 0 shard) n

-- Live records.

abbrev pub own_live : {A : Type 0} → (ℕ → ℕ) → Live A → Live A
own_live own x = record { seq = own x.seq; tags = map own_tag x.tags; holds = x.holds }

-- the book's of some live records, in the book's numbers
abbrev pub own_lives : {A : Type 0} → ℕ → (ℕ → ℕ) → List (Live A) → List (Live A)
own_lives b own xs = selected (λ x. are_of b x.tags) (own_live own) xs

-- Contents: a record and a live record that hold what a function gives of it, as the text of which bytes are kept.

abbrev pub holding : {A B : Type 0} → (A → B) → LogRecord A → LogRecord B
holding g r = record { tags = r.tags; condition = r.condition; holds = g r.holds }

abbrev pub live_holding : {A B : Type 0} → (A → B) → Live A → Live B
live_holding g x = record { seq = x.seq; tags = x.tags; holds = g x.holds }
