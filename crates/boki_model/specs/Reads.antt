-- The statement of the central theorem rests on this file.
-- Reads by tag, of the live records that an engine sees; the newest stands first. Seqnums are counted from 1, and the places
-- of a tag's records from 0.
use Rattle.std.specs.Prelude.{ℕ, suc, ◌==◌, ◌&&◌, nat_le, nat_lt, min, max, if◌then◌else◌, List, [], ◌∷◌, Option, Some, None, option_map}
use Rattle.std.specs.Option.{option_or}
use Rattle.lb_base.specs.declared.value.Tag.{Tag}
use Rattle.boki_model.specs.Live.{Live, has_tag, count}
use Rattle.boki_model.specs.Bodies.{tag_number}
use Rattle.boki_model.specs.declared.tag_classes.TheConstants.{TRIMMED_TAG_CLASS}

-- the seqnums of the records with the tag, the newest first
abbrev pub tagged_seqnums : {A : Type 0} → ℕ → List (Live A) → List ℕ
tagged_seqnums tag [] = []
tagged_seqnums tag (x ∷ xs) = if has_tag tag x.tags then x.seq ∷ tagged_seqnums tag xs else tagged_seqnums tag xs

-- the least seqnum at or above a
abbrev pub next : {A : Type 0} → ℕ → ℕ → List (Live A) → Option ℕ
next tag a [] = None
next tag a (x ∷ xs) = option_or (next tag a xs) (if has_tag tag x.tags && nat_le a x.seq then Some x.seq else None)

-- the greatest seqnum at or below b
abbrev pub prev : {A : Type 0} → ℕ → ℕ → List (Live A) → Option ℕ
prev tag b [] = None
prev tag b (x ∷ xs) = if has_tag tag x.tags && nat_le x.seq b then Some x.seq else prev tag b xs

-- the record at a place
abbrev pub nth : {A : Type 0} → ℕ → ℕ → List (Live A) → Option (Live A)
nth tag place [] = None
nth tag place (x ∷ xs) = if has_tag tag x.tags && (place == count tag xs) then Some x else nth tag place xs

abbrev pub nth_seq : {A : Type 0} → ℕ → ℕ → List (Live A) → Option ℕ
nth_seq tag place xs = option_map (λ x. x.seq) (nth tag place xs)

-- Trimmed tags. A TrimTag(u) of a user tag, at s, hides the tag's records at or below the lesser of u and s; the greatest such
-- bound holds. Such a record carries the tag of the trimmed class with the user tag's number. Conditions, places and counts still go over
-- hidden records. `trim` tells of what a record holds the tag and u.

abbrev pub trim_bound : ℕ → ℕ → List Tag → Option (ℕ × ℕ) → ℕ
trim_bound tag seq tags None = 0
trim_bound tag seq tags (Some t) = if (tag == t.0) && has_tag (tag_number TRIMMED_TAG_CLASS tag) tags then min t.1 seq else 0

abbrev pub hidden_bound : {A : Type 0} → (A → Option (ℕ × ℕ)) → ℕ → List (Live A) → ℕ
hidden_bound trim tag [] = 0
hidden_bound trim tag (x ∷ xs) = max (trim_bound tag x.seq x.tags (trim x.holds)) (hidden_bound trim tag xs)

-- the LogBook's reads by a user tag see what isn't hidden
abbrev pub read_next : {A : Type 0} → (A → Option (ℕ × ℕ)) → ℕ → ℕ → List (Live A) → Option ℕ
read_next trim tag a xs = next tag (max a (suc (hidden_bound trim tag xs))) xs

abbrev pub unless_hidden : ℕ → Option ℕ → Option ℕ
unless_hidden bound None = None
unless_hidden bound (Some s) = if nat_lt bound s then Some s else None

abbrev pub read_prev : {A : Type 0} → (A → Option (ℕ × ℕ)) → ℕ → ℕ → List (Live A) → Option ℕ
read_prev trim tag b xs = unless_hidden (hidden_bound trim tag xs) (prev tag b xs)
