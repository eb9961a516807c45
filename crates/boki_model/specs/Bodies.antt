-- The statement of the central theorem rests on this file.
-- What records say: their tags, and which of them have their fields in range.
use Rattle.std.specs.Prelude.{ℕ, ℤ, pos, negsuc, int_lt, int_le, ◌+◌, ◌-◌, ◌*◌, ◌%◌, ◌^◌, ◌&&◌, ◌||◌, not, nat_le, nat_lt, ◌==◌, Bool, true, false, List, [], ◌∷◌, ◌++◌, length, Option, Some, None, bit_xor, bytes_eq, codes, get_or}
use Rattle.std.specs.List.{list_all, list_any}
use Rattle.lb_base.specs.declared.value.Tag.{Tag}
use Rattle.lb_base.specs.declared.value.Value.{Value}
use Rattle.lb_base.specs.declared.value.Value.TheVariants.{Int, Text, Nothing}
use Rattle.lb_base.specs.declared.value.Mode.{Mode}
use Rattle.lb_base.specs.declared.value.Mode.TheVariants.{R, W, T}
use Rattle.lb_base.specs.declared.value.Outcome.{Outcome}
use Rattle.lb_base.specs.declared.value.Outcome.TheVariants.{Good, Trap}
use Rattle.lb_base.specs.Path.{is_path, is_ordinal}
use Rattle.boki_types.specs.declared.body.Body.{Body}
use Rattle.boki_model.specs.declared.limits.TheConstants.{MAX_TEXT_BYTES, MAX_NAME_BYTES, MAX_IDENTIFIER_BYTES, MAX_LIST_ITEMS}
use Rattle.boki_types.specs.declared.body.Body.TheVariants as body
use Rattle.boki_model.specs.declared.tag_classes.TheConstants.{CALL_CLASS, STEP_CLASS, MODE_CLASS, TRIM_CLASS, OBJECT_CLASS, QUEUE_CLASS, TRANSACTION_CLASS, TRIMMED_TAG_CLASS, LIFE_CLASS}

-- Tags. A tag is its class times 2^56 plus a number below 2^56.
abbrev pub tag_number : ℕ → ℕ → ℕ
tag_number class n = class * 2 ^ 56 + n

abbrev pub tag_of : ℕ → ℕ → Tag
tag_of class n = record { 0 = tag_number class n }

-- a path as a number: the request times 2^36, and the ordinals times 2^24, 2^12 and 1, 0 where they are absent
abbrev pub path_number : List ℕ → ℕ
path_number p = get_or p 0 0 * 2 ^ 36 + get_or p 1 0 * 2 ^ 24 + get_or p 2 0 * 2 ^ 12 + get_or p 3 0

abbrev pub call_tag : List ℕ → ℕ
call_tag p = tag_number CALL_CLASS (path_number p)

abbrev pub step_tag : List ℕ → ℕ
step_tag p = tag_number STEP_CLASS (path_number p)

abbrev pub life_tag : ℕ
life_tag = tag_number LIFE_CLASS 0

-- a name is hashed to a number: for each byte, exclusive or with it, and then a multiplication (FNV-1a of 64 bits). Names may
-- share a number, and a reader skips records of another name
abbrev pub hash_from : ℕ → List ℕ → ℕ
hash_from h [] = h
hash_from h (c ∷ cs) = hash_from (bit_xor h c * 1099511628211 % 2 ^ 64) cs

abbrev pub name_hash : List ℕ → ℕ
name_hash name = hash_from 14695981039346656037 name % 2 ^ 56

abbrev pub key_tag : ℕ → List ℕ → ℕ
key_tag class name = tag_number class (name_hash name)

abbrev pub child : List ℕ → ℕ → List ℕ
child path ordinal = path ++ ordinal ∷ []

-- the tags of a record that isn't a user's; the first is the tag of its condition, where it has one
abbrev pub tags_of : Body → List Tag
tags_of (body.Submit p f args) = tag_of CALL_CLASS (path_number p) ∷ []
tags_of (body.Init p) = tag_of STEP_CLASS (path_number p) ∷ tag_of LIFE_CLASS 0 ∷ []
tags_of (body.Read p i key) = tag_of STEP_CLASS (path_number p) ∷ []
tags_of (body.Write p i place key value) = tag_of STEP_CLASS (path_number p) ∷ tag_of OBJECT_CLASS (name_hash key) ∷ []
tags_of (body.Spawn p i ordinal f args) =
    tag_of STEP_CLASS (path_number p) ∷ tag_of CALL_CLASS (path_number (child p ordinal)) ∷ []
tags_of (body.Join p i ordinal) = tag_of STEP_CLASS (path_number p) ∷ []
tags_of (body.Push p i queue value) = tag_of STEP_CLASS (path_number p) ∷ tag_of QUEUE_CLASS (name_hash queue) ∷ []
tags_of (body.Pop p i queue) = tag_of STEP_CLASS (path_number p) ∷ tag_of QUEUE_CLASS (name_hash queue) ∷ []
tags_of (body.TxnBegin p i names) = tag_of STEP_CLASS (path_number p) ∷ []
tags_of (body.TxnCommit p i begin names writes) = tag_of STEP_CLASS (path_number p) ∷ tag_of TRANSACTION_CLASS 0 ∷ []
tags_of (body.Finish p i outcome) = tag_of STEP_CLASS (path_number p) ∷ tag_of LIFE_CLASS 0 ∷ []
tags_of (body.SwitchBegin target) = tag_of MODE_CLASS 0 ∷ []
tags_of body.SwitchEnd = tag_of MODE_CLASS 0 ∷ []
tags_of (body.Trim w) = tag_of TRIM_CLASS 0 ∷ []
tags_of (body.TrimTag number upto) = tag_of TRIMMED_TAG_CLASS number ∷ []
tags_of (body.User bytes) = []
tags_of (body.ReadGroup p i keys) = tag_of STEP_CLASS (path_number p) ∷ []

-- the tag and the bound of a trimmed tag
abbrev pub trim_of : Body → Option (ℕ × ℕ)
trim_of (body.TrimTag number upto) = Some (number, upto)
trim_of _ = None

-- A step record is one of an invocation's own: its path, and its index. An Init has index 1.
abbrev pub step_of : Body → Option (List ℕ × ℕ)
step_of (body.Init p) = Some (p, 1)
step_of (body.Read p i key) = Some (p, i)
step_of (body.Write p i place key value) = Some (p, i)
step_of (body.Spawn p i ordinal f args) = Some (p, i)
step_of (body.Join p i ordinal) = Some (p, i)
step_of (body.Push p i queue value) = Some (p, i)
step_of (body.Pop p i queue) = Some (p, i)
step_of (body.TxnBegin p i names) = Some (p, i)
step_of (body.TxnCommit p i begin names writes) = Some (p, i)
step_of (body.Finish p i outcome) = Some (p, i)
step_of (body.ReadGroup p i keys) = Some (p, i)
step_of _ = None

-- Ranges. A number of a record has 64 bits.
abbrev pub is_u64 : ℕ → Bool
is_u64 n = nat_lt n (2 ^ 64)

-- an integer has 64 bits
abbrev pub is_i64 : ℤ → Bool
is_i64 n = int_le (negsuc (2 ^ 63 - 1)) n && int_lt n (pos (2 ^ 63))

-- a text value has at most 256 bytes, and a name, of an object, a queue or a store entry, 1 to 64
abbrev pub is_value : Value → Bool
is_value (Int n) = is_i64 n
is_value (Text text) = nat_le (length text) MAX_TEXT_BYTES
is_value Nothing = true

abbrev pub is_name : List ℕ → Bool
is_name text = nat_le 1 (length text) && nat_le (length text) MAX_NAME_BYTES

-- an identifier: 1 to 32 letters, digits and `_`, no digit first, and no reserved word
abbrev pub is_letter : ℕ → Bool
is_letter c = (nat_le 65 c && nat_le c 90) || (nat_le 97 c && nat_le c 122) || (c == 95)

abbrev pub is_digit : ℕ → Bool
is_digit c = nat_le 48 c && nat_le c 57

abbrev pub reserved_words : List (List ℕ)
reserved_words =
    codes "function" ∷ codes "end" ∷ codes "let" ∷ codes "read" ∷ codes "write" ∷ codes "spawn" ∷ codes "join" ∷ codes "push"
    ∷ codes "pop" ∷ codes "begin" ∷ codes "commit" ∷ codes "if" ∷ codes "else" ∷ codes "while" ∷ codes "return" ∷ codes "and"
    ∷ codes "or" ∷ codes "not" ∷ codes "none" ∷ codes "text" ∷ codes "len" ∷ []

abbrev pub has_identifier_characters : List ℕ → Bool
has_identifier_characters [] = false
has_identifier_characters (c ∷ cs) = is_letter c && list_all (λ d. is_letter d || is_digit d) cs

abbrev pub is_identifier : List ℕ → Bool
is_identifier text = has_identifier_characters text && nat_le (length text) MAX_IDENTIFIER_BYTES && not (list_any (bytes_eq text) reserved_words)

abbrev pub is_outcome : Outcome → Bool
is_outcome (Good v) = is_value v
is_outcome (Trap t) = true

-- at most eight of them
abbrev pub is_short_list : {X : Type 0} → List X → Bool
is_short_list xs = nat_le (length xs) MAX_LIST_ITEMS

abbrev pub are_names : List (List ℕ) → Bool
are_names xs = nat_le 1 (length xs) && is_short_list xs && list_all is_name xs

abbrev pub is_step_id : List ℕ → ℕ → Bool
is_step_id p i = is_path p && nat_le 1 i && is_u64 i

abbrev pub is_optional_value : Option Value → Bool
is_optional_value None = true
is_optional_value (Some v) = is_value v

abbrev pub is_target : Mode → Bool
is_target R = true
is_target W = true
is_target T = false

-- the body's fields are in range; the length of a user's bytes is left to the spelling
abbrev pub in_range : Body → Bool
in_range (body.Submit p f args) = is_path p && (length p == 1) && is_identifier f && is_short_list args && list_all is_value args
in_range (body.Init p) = is_path p
in_range (body.Read p i key) = is_step_id p i && is_name key
in_range (body.Write p i place key value) = is_step_id p i && is_u64 place && is_name key && is_optional_value value
in_range (body.Spawn p i ordinal f args) =
    is_step_id p i && nat_le (length p) 3 && is_ordinal ordinal && is_identifier f && is_short_list args && list_all is_value args
in_range (body.Join p i ordinal) = is_step_id p i && is_ordinal ordinal
in_range (body.Push p i queue value) = is_step_id p i && is_name queue && is_value value
in_range (body.Pop p i queue) = is_step_id p i && is_name queue
in_range (body.TxnBegin p i names) = is_step_id p i && are_names names
in_range (body.TxnCommit p i begin names writes) =
    is_step_id p i && is_u64 begin && are_names names && is_short_list writes && list_all (λ w. is_name w.0 && is_value w.1) writes
in_range (body.Finish p i outcome) = is_step_id p i && is_outcome outcome
in_range (body.SwitchBegin target) = is_target target
in_range body.SwitchEnd = true
in_range (body.Trim w) = is_u64 w
in_range (body.TrimTag number upto) = nat_lt number (2 ^ 56) && is_u64 upto
in_range (body.User bytes) = list_all (λ c. nat_lt c 256) bytes
in_range (body.ReadGroup p i keys) = is_step_id p i && are_names keys
