-- Laws of live records and of their reads: what an append leaves as it was.
use Rattle.std.specs.Prelude.{◌≡◌, ℕ, suc, ◌-◌, ◌<◌, ◌≤◌, true, List, [], ◌∷◌, length, drop, reverse, Some, slice_get}
use Rattle.boki_model.specs.Live.{LogRecord, Live, has_tag, count, meets_condition, live, upto}
use Rattle.boki_model.specs.Reads.{tagged_seqnums, nth, nth_seq}

-- seqnums are from 1, below n, and fall from the newest on
abbrev pub FallBelow : {A : Type 0} → ℕ → List (Live A) → Type 0
FallBelow n [] = Unit {0}
FallBelow n (x ∷ xs) = (0 < x.seq) × (x.seq < n) × FallBelow x.seq xs

abbrev pub SeqnumsFall : Type 0 → Type 0
SeqnumsFall A = (log : List (LogRecord A)) → FallBelow (suc (length log)) (live log)

-- What an engine sees up to a seqnum stays when records are appended, and with it each read at that position.
abbrev pub EarlierReadsStay : Type 0 → Type 0
EarlierReadsStay A = (r : LogRecord A) (log : List (LogRecord A)) (p : ℕ) → p ≤ length log → upto p (live (r ∷ log)) ≡ upto p (live log)

-- The live records of a prefix are what an engine sees that has the prefix. A prefix is the log without its newest records.
abbrev pub PrefixIsSeen : Type 0 → Type 0
PrefixIsSeen A = (n : ℕ) (log : List (LogRecord A)) → live (drop n log) ≡ upto (length log - n) (live log)

-- what stands at a place of a tag stays there
abbrev pub PlacesStay : Type 0 → Type 0
PlacesStay A =
    (r : LogRecord A) (log : List (LogRecord A)) (tag place : ℕ) (x : Live A)
    → nth tag place (live log) ≡ Some x → nth tag place (live (r ∷ log)) ≡ Some x

-- a new live record of the tag has the place behind those that it had
abbrev pub NewPlaceIsCount : Type 0 → Type 0
NewPlaceIsCount A =
    (r : LogRecord A) (log : List (LogRecord A)) (tag : ℕ) → meets_condition r.condition (live log) ≡ true → has_tag tag r.tags ≡ true
    → nth tag (count tag (live log)) (live (r ∷ log)) ≡ Some (record { seq = suc (length log); tags = r.tags; holds = r.holds })

-- places count the tag's records from the oldest on
abbrev pub PlacesAreAscending : Type 0 → Type 0
PlacesAreAscending A = (tag place : ℕ) (xs : List (Live A)) → nth_seq tag place xs ≡ slice_get (reverse (tagged_seqnums tag xs)) place
