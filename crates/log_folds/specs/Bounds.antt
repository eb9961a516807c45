-- Reads of what an engine sees up to a position, by the ascending seqnums of a tag's live records: the
-- first ones up to the position are those that it sees.
use Rattle.std.specs.Prelude.{◌≡◌, ℕ, suc, ◌-◌, ◌==◌, ◌&&◌, ◌≤◌, nat_le, nat_lt, min, true, false, cond, List, length, take, reverse, find, Option, Some, None, option_and_then, slice_get}
use Rattle.std.specs.List.{filter}
use Rattle.std.specs.List.Sorted.{IsPartitionPoint, IsNonDecreasing}
use Rattle.boki_model.specs.Live.{Live, count, upto, is_live}
use Rattle.boki_model.specs.Reads.{tagged_seqnums, next, prev, nth, nth_seq}
use Rattle.boki_model.specs.Writes.{prepend_some}
use Rattle.boki_model.specs.LogLaws.{FallBelow}

-- the seqnums of a tag's live records, ascending
abbrev pub ascending : {A : Type 0} → ℕ → List (Live A) → List ℕ
ascending tag xs = reverse (tagged_seqnums tag xs)

-- a seqnum that is found, where it is at most p
abbrev pub if_at_most : ℕ → Option ℕ → Option ℕ
if_at_most p None = None
if_at_most p (Some seq) = cond (nat_le seq p) (Some seq) None

abbrev pub seen_at : {A : Type 0} → ℕ → Live A → Option (Live A)
seen_at p x = cond (nat_le x.seq p) (Some x) None

-- the live record at a seqnum
abbrev pub record_at : {A : Type 0} → ℕ → List (Live A) → Option (Live A)
record_at seq xs = find (λ x. seq == x.seq) xs

-- What is seen up to p, by the reads of all.
pub record IsSeenUpTo {A : Type 0} (p : ℕ) (xs : List (Live A)) : Type 0 where
  pub falls : FallBelow (suc p) (upto p xs)
  pub liveness : (seq : ℕ) → is_live seq (upto p xs) ≡ (nat_le seq p && is_live seq xs)
  pub seqnums : (tag : ℕ) → tagged_seqnums tag (upto p xs) ≡ filter (λ seq. nat_le seq p) (tagged_seqnums tag xs)
  pub first_from : (tag a : ℕ) → next tag a (upto p xs) ≡ if_at_most p (next tag a xs)
  pub last_to : (tag b : ℕ) → prev tag b (upto p xs) ≡ prev tag (min b p) xs
  pub placed : (tag place : ℕ) → nth tag place (upto p xs) ≡ option_and_then (seen_at p) (nth tag place xs)
  pub placed_seq : (tag place : ℕ) → nth_seq tag place (upto p xs) ≡ if_at_most p (nth_seq tag place xs)
  pub stands : (seq : ℕ) → record_at seq (upto p xs) ≡ option_and_then (seen_at p) (record_at seq xs)
  pub less : (q : ℕ) → upto q (upto p xs) ≡ upto (min q p) xs
  -- one seqnum more
  pub one_more : upto (suc p) xs ≡ prepend_some (record_at (suc p) xs) (upto p xs)

-- of any records whose seqnums fall from the newest on, as the live ones of a log
abbrev pub SeenUpTo : Type 0 → Type 0
SeenUpTo A = (end p : ℕ) (xs : List (Live A)) → FallBelow end xs → IsSeenUpTo p xs

-- n is how many of the seqnums are at most p, or below a
abbrev pub IsCountUpTo : ℕ → List ℕ → ℕ → Type 0
IsCountUpTo p seqs n =
    (n ≤ length seqs) × IsPartitionPoint (λ seq. nat_le seq p ≡ true) (λ seq. nat_le seq p ≡ false) seqs n

abbrev pub IsCountBelow : ℕ → List ℕ → ℕ → Type 0
IsCountBelow a seqs n =
    (n ≤ length seqs) × IsPartitionPoint (λ seq. nat_lt seq a ≡ true) (λ seq. nat_lt seq a ≡ false) seqs n

-- what stands before a place
abbrev pub element_before : ℕ → List ℕ → Option ℕ
element_before n seqs = cond (n == 0) None (slice_get seqs (n - 1))

-- The reads of a tag in what is seen up to p, by the tag's ascending seqnums, of which n are at most p.
pub record IsSearched {A : Type 0} (tag p n : ℕ) (seqs : List ℕ) (seen : List (Live A)) : Type 0 where
  pub seqnums : ascending tag seen ≡ take n seqs
  pub counted : count tag seen ≡ n
  pub placed : (place : ℕ) → nth_seq tag place seen ≡ cond (nat_lt place n) (slice_get seqs place) None
  -- by a search: k seqnums are below a, or at most b
  pub first_from : (a k : ℕ) → IsCountBelow a seqs k → next tag a seen ≡ cond (nat_lt k n) (slice_get seqs k) None
  pub last_to : (b k : ℕ) → IsCountUpTo (min b p) seqs k → prev tag b seen ≡ element_before k seqs
  -- and by the first that passes in the front
  pub found_from : (a : ℕ) → next tag a seen ≡ find (nat_le a) (take n seqs)
  pub found_to : (b : ℕ) → prev tag b seen ≡ find (λ seq. nat_le seq b) (reverse (take n seqs))

abbrev pub ReadsAreSearches : Type 0 → Type 0
ReadsAreSearches A =
    (end tag p n : ℕ) (seqs : List ℕ) (xs : List (Live A)) → FallBelow end xs → seqs ≡ ascending tag xs
    → IsCountUpTo p seqs n
    → IsSearched tag p n seqs (upto p xs)

-- so the seqnums ascend, as a search of them wants it
abbrev pub SeqnumsAscend : Type 0 → Type 0
SeqnumsAscend A = (end tag : ℕ) (xs : List (Live A)) → FallBelow end xs → IsNonDecreasing (ascending tag xs)
