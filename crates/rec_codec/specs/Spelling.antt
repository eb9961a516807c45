-- The spelling of a record: what bytes stand in the log for a body. There is one spelling for each body.
-- The first byte is the format, 1 or 2, and the second the kind. Then the body's fields follow in their order.
use Rattle.std.specs.Prelude.{ℕ, ℤ, Bool, true, ◌&&◌, nat_le, List, [], ◌∷◌, ◌++◌, length, Option, Some, None}
use Rattle.std.specs.List.{flat_map, list_all}
use Rattle.std.specs.Int.{w16, w32, w64, to_be_bytes, cast_unsigned}
use Rattle.std.specs.Str.{is_utf8}
use Rattle.lb_base.specs.declared.value.Value.{Value}
use Rattle.lb_base.specs.declared.value.Value.TheVariants.{Int, Text, Nothing}
use Rattle.lb_base.specs.declared.value.Mode.{Mode}
use Rattle.lb_base.specs.declared.value.Mode.TheVariants.{R, W, T}
use Rattle.lb_base.specs.declared.value.TrapKind.{TrapKind}
use Rattle.lb_base.specs.declared.value.TrapKind.TheVariants as trap
use Rattle.lb_base.specs.declared.value.Outcome.{Outcome}
use Rattle.lb_base.specs.declared.value.Outcome.TheVariants.{Good, Trap}
use Rattle.boki_types.specs.declared.body.Body.{Body}
use Rattle.boki_types.specs.declared.body.Body.TheVariants as b

-- a number: eight bytes, the greatest first
abbrev pub word : ℕ → List ℕ
word n = to_be_bytes w64 n

-- bytes behind their number, of two bytes
abbrev pub text : List ℕ → List ℕ
text t = to_be_bytes w16 (length t) ++ t

-- how many numbers the path has, and four bytes for each
abbrev pub path : List ℕ → List ℕ
path p = length p ∷ flat_map (to_be_bytes w32) p

-- a value: 0 for none; 1 and eight bytes of two's complement for an integer; 2 and a text
abbrev pub value : Value → List ℕ
value Nothing = 0 ∷ []
value (Int n) = 1 ∷ word (cast_unsigned w64 n)
value (Text t) = 2 ∷ text t

abbrev pub trap_number : TrapKind → ℕ
trap_number trap.Overflow = 1
trap_number trap.Divide = 2
trap_number trap.Loop = 3
trap_number trap.Key = 4
trap_number trap.Join = 5
trap_number trap.Txn = 6
trap_number trap.Text = 7
trap_number trap.Kind = 8
trap_number trap.Spawn = 9

-- an outcome: 0 and a value, or 1 and the number of a trap
abbrev pub outcome : Outcome → List ℕ
outcome (Good v) = 0 ∷ value v
outcome (Trap kind) = 1 ∷ trap_number kind ∷ []

-- a list: how many there are, and each of them
abbrev pub values : List Value → List ℕ
values vs = length vs ∷ flat_map value vs

abbrev pub names : List (List ℕ) → List ℕ
names ns = length ns ∷ flat_map text ns

abbrev pub write : List ℕ × Value → List ℕ
write w = text w.0 ++ value w.1

abbrev pub writes : List (List ℕ × Value) → List ℕ
writes ws = length ws ∷ flat_map write ws

abbrev pub mode_number : Mode → ℕ
mode_number R = 1
mode_number W = 2
mode_number T = 0

-- a write whose value stands in the record is of format 2, as is a read of several objects; all else is of format 1
abbrev pub spelled_write : List ℕ → ℕ → ℕ → List ℕ → Option Value → List ℕ
spelled_write p i place key None = 1 ∷ 4 ∷ (path p ++ (word i ++ (word place ++ text key)))
spelled_write p i place key (Some v) = 2 ∷ 4 ∷ (path p ++ (word i ++ (word place ++ (text key ++ value v))))

abbrev pub spelled : Body → List ℕ
spelled (b.Submit p f args) = 1 ∷ 1 ∷ (path p ++ (text f ++ values args))
spelled (b.Init p) = 1 ∷ 2 ∷ path p
spelled (b.Read p i key) = 1 ∷ 3 ∷ (path p ++ (word i ++ text key))
spelled (b.Write p i place key v) = spelled_write p i place key v
spelled (b.Spawn p i ordinal f args) = 1 ∷ 5 ∷ (path p ++ (word i ++ (word ordinal ++ (text f ++ values args))))
spelled (b.Join p i ordinal) = 1 ∷ 6 ∷ (path p ++ (word i ++ word ordinal))
spelled (b.Push p i queue v) = 1 ∷ 7 ∷ (path p ++ (word i ++ (text queue ++ value v)))
spelled (b.Pop p i queue) = 1 ∷ 8 ∷ (path p ++ (word i ++ text queue))
spelled (b.TxnBegin p i ns) = 1 ∷ 9 ∷ (path p ++ (word i ++ names ns))
spelled (b.TxnCommit p i begin ns ws) = 1 ∷ 10 ∷ (path p ++ (word i ++ (word begin ++ (names ns ++ writes ws))))
spelled (b.Finish p i o) = 1 ∷ 11 ∷ (path p ++ (word i ++ outcome o))
spelled (b.SwitchBegin target) = 1 ∷ 12 ∷ mode_number target ∷ []
spelled b.SwitchEnd = 1 ∷ 13 ∷ []
spelled (b.Trim w) = 1 ∷ 14 ∷ word w
spelled (b.TrimTag number upto) = 1 ∷ 15 ∷ (word number ++ word upto)
spelled (b.User bytes) = 1 ∷ 16 ∷ text bytes
spelled (b.ReadGroup p i keys) = 2 ∷ 17 ∷ (path p ++ (word i ++ names keys))

-- The texts of a body are UTF-8, as every text of a program is.
abbrev pub is_text_value : Value → Bool
is_text_value (Text t) = is_utf8 t
is_text_value (Int n) = true
is_text_value Nothing = true

abbrev pub is_text_outcome : Outcome → Bool
is_text_outcome (Good v) = is_text_value v
is_text_outcome (Trap t) = true

abbrev pub is_text_optional : Option Value → Bool
is_text_optional None = true
is_text_optional (Some v) = is_text_value v

abbrev pub is_text_write : List ℕ × Value → Bool
is_text_write w = is_utf8 w.0 && is_text_value w.1

abbrev pub has_texts : Body → Bool
has_texts (b.Submit p f args) = is_utf8 f && list_all is_text_value args
has_texts (b.Init p) = true
has_texts (b.Read p i key) = is_utf8 key
has_texts (b.Write p i place key v) = is_utf8 key && is_text_optional v
has_texts (b.Spawn p i ordinal f args) = is_utf8 f && list_all is_text_value args
has_texts (b.Join p i ordinal) = true
has_texts (b.Push p i queue v) = is_utf8 queue && is_text_value v
has_texts (b.Pop p i queue) = is_utf8 queue
has_texts (b.TxnBegin p i ns) = list_all is_utf8 ns
has_texts (b.TxnCommit p i begin ns ws) = list_all is_utf8 ns && list_all is_text_write ws
has_texts (b.Finish p i o) = is_text_outcome o
has_texts (b.SwitchBegin target) = true
has_texts b.SwitchEnd = true
has_texts (b.Trim w) = true
has_texts (b.TrimTag number upto) = true
has_texts (b.User bytes) = true
has_texts (b.ReadGroup p i keys) = list_all is_utf8 keys

-- A body whose spelling has at most 4,096 bytes: of a user's bytes, at most 4,092; every other body in range.
abbrev pub is_short : Body → Bool
is_short (b.User bytes) = nat_le (length bytes) 4092
is_short _ = true
