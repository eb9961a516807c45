-- The statement of the central theorem rests on this file.
-- Live and dead records. A record without a condition is live. A record with a condition, a tag and a place, is live exactly
-- where the number of live records with that tag before it equals the place. So whether a record is live depends only on
-- what is before it. Dead records keep their seqnums, and no read shows them.
use Rattle.std.specs.Prelude.{ℕ, suc, ◌==◌, ◌||◌, nat_le, Bool, true, false, if◌then◌else◌, List, [], ◌∷◌, length, Option, Some, None}
use Rattle.lb_base.specs.declared.value.Tag.{Tag}
use Rattle.lb_base.specs.declared.value.Cond.{Cond}
use Rattle.lb_base.specs.declared.value.Record.{Record}

-- a record of the log, with what it holds: bytes, or what they say
pub record LogRecord (A : Type 0) : Type 0 where
  pub tags : List Tag
  pub condition : Option Cond
  pub holds : A

-- a live record, with its seqnum
pub record Live (A : Type 0) : Type 0 where
  pub seq : ℕ
  pub tags : List Tag
  pub holds : A

-- a record as the shards keep it
abbrev pub entry_of : Record → LogRecord (List ℕ)
entry_of r = record { tags = r.tags; condition = r.cond; holds = r.bytes }

-- whether it carries the tag; a tag given twice is one
abbrev pub has_tag : ℕ → List Tag → Bool
has_tag tag [] = false
has_tag tag (t ∷ ts) = (tag == t.0) || has_tag tag ts

-- how many have the tag
abbrev pub count : {A : Type 0} → ℕ → List (Live A) → ℕ
count tag [] = 0
count tag (x ∷ xs) = if has_tag tag x.tags then suc (count tag xs) else count tag xs

abbrev pub meets_condition : {A : Type 0} → Option Cond → List (Live A) → Bool
meets_condition None past = true
meets_condition (Some c) past = c.place == count c.tag.0 past

-- the live records with one more record behind them, at this seqnum
abbrev pub append_if_live : {A : Type 0} → ℕ → LogRecord A → List (Live A) → List (Live A)
append_if_live seq r past = if meets_condition r.condition past then record { seq = seq; tags = r.tags; holds = r.holds } ∷ past else past

-- the live records of the ordered list; in both the newest stands first
abbrev pub live : {A : Type 0} → List (LogRecord A) → List (Live A)
live [] = []
live (r ∷ log) = append_if_live (suc (length log)) r (live log)

-- those up to a seqnum: what an engine at that position sees
abbrev pub upto : {A : Type 0} → ℕ → List (Live A) → List (Live A)
upto p [] = []
upto p (x ∷ xs) = if nat_le x.seq p then x ∷ xs else upto p xs

-- whether the record at the seqnum is live
abbrev pub is_live : {A : Type 0} → ℕ → List (Live A) → Bool
is_live seq [] = false
is_live seq (x ∷ xs) = (seq == x.seq) || is_live seq xs
