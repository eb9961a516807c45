-- What stands behind the word of a line: numbers in a range, modes, paths, tags and texts, from tokens.
use Rattle.std.specs.Prelude.{ℕ, ◌-◌, ◌^◌, ◌&&◌, List, [], ◌∷◌, length, Option, Some, None, option_and_then, option_map, ◌==◌, nat_le, nat_lt, if◌then◌else◌, bytes_eq, codes}
use Rattle.lb_base.specs.declared.value.Mode.{Mode}
use Rattle.lb_base.specs.declared.value.Mode.TheVariants as mode
use Rattle.lb_base.specs.declared.value.Tag.{Tag}
use Rattle.lb_base.specs.Numeral.{is_numeral, num_of}
use Rattle.lb_base.specs.Path.{path_of}
use Rattle.line_text.specs.declared.token.Token.{Token}
use Rattle.line_text.specs.declared.token.Token.TheVariants as t
use Rattle.line_text.specs.declared.checked.Checked.{Checked}
use Rattle.line_text.specs.declared.checked.Checked.TheVariants as r
use Rattle.line_text.specs.Stream.{found_before}
use Rattle.line_text.specs.Readers.{◌>>=◌, Reader, numeral_at, text_at}
use Rattle.line_text.specs.Checks.{both_checked, checked_if}
use Rattle.line_text.specs.Lists.{up_to_eight, comma_list}
use Rattle.line_text.specs.Splits.{split_first}

-- a numeral in a range
abbrev pub number_in_range : ℕ → ℕ → Option ℕ → Checked ℕ
number_in_range low high None = r.OutOfRange
number_in_range low high (Some n) = checked_if (nat_le low n && nat_le n high) n

abbrev pub number_at : ℕ → ℕ → Reader ℕ
number_at low high ts = do
  n ← numeral_at ts
  Some (number_in_range low high n.0, n.1)

-- a numeral of 64 bits
abbrev pub u64_at : Reader ℕ
u64_at ts = number_at 0 (2 ^ 64 - 1) ts

-- `R` or `W`
abbrev pub mode_of : List ℕ → Option Mode
mode_of x = if bytes_eq x (codes "R") then Some mode.R else if bytes_eq x (codes "W") then Some mode.W else None

abbrev pub mode_at : List Token → Option (Mode × List Token)
mode_at (t.Name x ∷ ts) = found_before ts (mode_of x)
mode_at _ = None

-- a quoted text of at most 256 bytes
abbrev pub short_text_at : Reader (List ℕ)
short_text_at ts = do
  x ← text_at ts
  Some (checked_if (nat_le (length x.0) 256) x.0, x.1)

-- Numbers with dots between them. Each is a numeral, of any size.

-- the text up to the first dot, and what follows it
abbrev pub first_piece : List ℕ → Option (List ℕ × List ℕ)
first_piece text = split_first 46 text

-- the texts between dots
abbrev pub prepend_to_first : ℕ → List (List ℕ) → List (List ℕ)
prepend_to_first c [] = (c ∷ []) ∷ []
prepend_to_first c (p ∷ ps) = (c ∷ p) ∷ ps

abbrev pub pieces : List ℕ → List (List ℕ)
pieces [] = [] ∷ []
pieces (c ∷ cs) = if c == 46 then [] ∷ pieces cs else prepend_to_first c (pieces cs)

abbrev pub with_number : Option ℕ → Option (List (Option ℕ)) → Option (List (Option ℕ))
with_number n None = None
with_number n (Some ns) = Some (n ∷ ns)

abbrev pub numbers_of : List (List ℕ) → Option (List (Option ℕ))
numbers_of [] = Some []
numbers_of (p ∷ ps) = if is_numeral p then with_number (num_of p) (numbers_of ps) else None

abbrev pub numbers_in : List ℕ → Option (List (Option ℕ))
numbers_in text = numbers_of (pieces text)

-- A path: no number of one is 2^20 or more.
abbrev pub path_number_of : Option ℕ → Option ℕ
path_number_of None = None
path_number_of (Some n) = if nat_lt n 1048576 then Some n else None

abbrev pub with_path_number : Option ℕ → Option (List ℕ) → Option (List ℕ)
with_path_number None ns = None
with_path_number (Some n) None = None
with_path_number (Some n) (Some ns) = Some (n ∷ ns)

abbrev pub path_numbers_of : List (Option ℕ) → Option (List ℕ)
path_numbers_of [] = Some []
path_numbers_of (n ∷ ns) = with_path_number (path_number_of n) (path_numbers_of ns)

abbrev pub checked_option : {A : Type 0} → Option A → Checked A
checked_option None = r.OutOfRange
checked_option (Some x) = r.Valid x

abbrev pub path_by : Option (List ℕ) → Checked (List ℕ)
path_by None = r.OutOfRange
path_by (Some ns) = checked_option (path_of ns)

abbrev pub path_in : List (Option ℕ) → Checked (List ℕ)
path_in ns = path_by (path_numbers_of ns)

abbrev pub path_at : Reader (List ℕ)
path_at (t.Numeral n ∷ ts) = Some (path_in (n ∷ []), ts)
path_at (t.Dotted x ∷ ts) = found_before ts (option_map path_in (numbers_in x))
path_at _ = None

-- `S.L`: a shard, and a number from 1
abbrev pub sent_position_of : ℕ → List (Option ℕ) → Option (Checked (ℕ × ℕ))
sent_position_of shards (s ∷ l ∷ []) = Some (both_checked (number_in_range 1 shards s) (number_in_range 1 (2 ^ 64 - 1) l))
sent_position_of shards _ = None

abbrev pub sent_position_at : ℕ → Reader (ℕ × ℕ)
sent_position_at shards (t.Dotted x ∷ ts) = found_before ts (option_and_then (sent_position_of shards) (numbers_in x))
sent_position_at shards _ = None

-- A user's tag is below 2^56. One to eight of them, with commas between.
abbrev pub user_tag_of : Option ℕ → Checked Tag
user_tag_of None = r.OutOfRange
user_tag_of (Some n) = checked_if (nat_lt n (2 ^ 56)) (record { 0 = n })

abbrev pub tag_at : Reader Tag
tag_at ts = do
  n ← numeral_at ts
  Some (user_tag_of n.0, n.1)

abbrev pub tags_at : Reader (List Tag)
tags_at ts = do
  tags ← comma_list tag_at ts
  Some (up_to_eight tags.0, tags.1)
