-- Reading a record from the left. A reader takes a front of the bytes: it answers what the front spells and the bytes behind
-- it, or, at the first element that isn't spelled, how many bytes were left there.
use Rattle.std.specs.Prelude.{◌≡◌, ℕ, zero, suc, ◌-◌, ◌^◌, ◌&&◌, nat_le, nat_lt, ◌==◌, Bool, true, false, if◌then◌else◌, List, [], ◌∷◌, ◌++◌, length, take, drop, Option, Some, None, Result, Ok, Err}
use Rattle.std.specs.Int.{Width, w16, w32, w64, byte_len, from_be_bytes, cast_signed}
use Rattle.std.specs.Str.{is_utf8}
use Rattle.lb_base.specs.declared.value.Value.{Value}
use Rattle.lb_base.specs.declared.value.Value.TheVariants.{Int, Text, Nothing}
use Rattle.lb_base.specs.declared.value.Mode.{Mode}
use Rattle.lb_base.specs.declared.value.Mode.TheVariants.{R, W}
use Rattle.lb_base.specs.declared.value.TrapKind.{TrapKind}
use Rattle.lb_base.specs.declared.value.TrapKind.TheVariants as trap
use Rattle.lb_base.specs.declared.value.Outcome.{Outcome}
use Rattle.lb_base.specs.declared.value.Outcome.TheVariants.{Good, Trap}
use Rattle.lb_base.specs.declared.value.Seqnum.{Seqnum}
use Rattle.lb_base.specs.Path.{is_request, is_ordinal}
use Rattle.boki_types.specs.declared.body.Body.{Body}
use Rattle.boki_types.specs.declared.body.Body.TheVariants as b
use Rattle.boki_model.specs.Bodies.{is_name, is_identifier}

abbrev pub Reader : Type 0 → Type 0
Reader A = List ℕ → Result (A × List ℕ) ℕ

infixl 10 ◌>>=◌
abbrev pub ◌>>=◌ : {A B : Type 0} → Result A ℕ → (A → Result B ℕ) → Result B ℕ
(Ok x) >>= f = f x
(Err left) >>= f = Err left

-- what was read, where it passes the test; else the element that begins these bytes isn't spelled
abbrev pub validated : {A : Type 0} → (A → Bool) → List ℕ → Result (A × List ℕ) ℕ → Result (A × List ℕ) ℕ
validated passes bytes (Ok x) = if passes x.0 then Ok x else Err (length bytes)
validated passes bytes (Err left) = Err left

-- a byte
abbrev pub byte_at : Reader ℕ
byte_at [] = Err 0
byte_at (c ∷ rest) = Ok (c, rest)

-- a number, the greatest byte first
abbrev pub number_at : Width → Reader ℕ
number_at w bytes = if nat_lt (length bytes) (byte_len w) then Err (length bytes) else Ok (from_be_bytes w (take (byte_len w) bytes), drop (byte_len w) bytes)

abbrev pub word_at : Reader ℕ
word_at bytes = number_at w64 bytes

-- the number of an operation, from 1
unfoldable pub index_at : Reader ℕ
index_at bytes = validated (λ n. nat_le 1 n) bytes (word_at bytes)

unfoldable pub ordinal_at : Reader ℕ
ordinal_at bytes = validated is_ordinal bytes (word_at bytes)

-- a user's tag
unfoldable pub tag_at : Reader ℕ
tag_at bytes = validated (λ n. nat_lt n (2 ^ 56)) bytes (word_at bytes)

-- bytes behind their number
abbrev pub take_counted : List ℕ → ℕ × List ℕ → Result (List ℕ × List ℕ) ℕ
take_counted bytes n = if nat_lt (length n.1) n.0 then Err (length bytes) else Ok (take n.0 n.1, drop n.0 n.1)

unfoldable pub piece_at : Reader (List ℕ)
piece_at bytes = number_at w16 bytes >>= take_counted bytes

-- a text of at most 256 bytes, a name, the name of a function, a user's bytes
abbrev pub is_text : List ℕ → Bool
is_text t = is_utf8 t && nat_le (length t) 256

abbrev pub is_key : List ℕ → Bool
is_key t = is_utf8 t && is_name t

abbrev pub is_function : List ℕ → Bool
is_function t = is_utf8 t && is_identifier t

unfoldable pub text_at : (List ℕ → Bool) → Reader (List ℕ)
text_at passes bytes = validated passes bytes (piece_at bytes)

-- how many there are
unfoldable pub count_at : ℕ → ℕ → Reader ℕ
count_at least most bytes = validated (λ n. nat_le least n && nat_le n most) bytes (byte_at bytes)

-- so many, one behind the other
unfoldable pub many_at : {A : Type 0} → Reader A → ℕ → Reader (List A)
many_at read zero bytes = Ok ([], bytes)
many_at read (suc n) bytes = do
  first ← read bytes
  others ← many_at read n first.1
  Ok (first.0 ∷ others.0, others.1)

-- a list of at most eight
unfoldable pub list_at : {A : Type 0} → ℕ → Reader A → Reader (List A)
list_at least read bytes = do
  n ← count_at least 8 bytes
  many_at read n.0 n.1

-- the number of a request, and the ordinals of spawns; at most so many in all
unfoldable pub request_at : Reader ℕ
request_at bytes = validated is_request bytes (number_at w32 bytes)

unfoldable pub spawn_at : Reader ℕ
spawn_at bytes = validated is_ordinal bytes (number_at w32 bytes)

unfoldable pub path_at : ℕ → Reader (List ℕ)
path_at most bytes = do
  n ← count_at 1 most bytes
  request ← request_at n.1
  spawns ← many_at spawn_at (n.0 - 1) request.1
  Ok (request.0 ∷ spawns.0, spawns.1)

unfoldable pub value_at : Reader Value
value_at [] = Err 0
value_at (zero ∷ rest) = Ok (Nothing, rest)
value_at (suc zero ∷ rest) = do
  n ← word_at rest
  Ok (Int (cast_signed w64 n.0), n.1)
value_at (suc (suc zero) ∷ rest) = do
  t ← text_at is_text rest
  Ok (Text t.0, t.1)
value_at (suc (suc (suc c)) ∷ rest) = Err (suc (length rest))

-- what a number stands for, where it stands for something
abbrev pub found_or_left : {A : Type 0} → ℕ → Option A → List ℕ → Result (A × List ℕ) ℕ
found_or_left left None rest = Err left
found_or_left left (Some x) rest = Ok (x, rest)

abbrev pub trap_of : ℕ → Option TrapKind
trap_of n =
    if n == 1 then Some trap.Overflow else if n == 2 then Some trap.Divide else if n == 3 then Some trap.Loop
    else if n == 4 then Some trap.Key else if n == 5 then Some trap.Join else if n == 6 then Some trap.Txn
    else if n == 7 then Some trap.Text else if n == 8 then Some trap.Kind else if n == 9 then Some trap.Spawn else None

unfoldable pub trap_at : Reader TrapKind
trap_at [] = Err 0
trap_at (c ∷ rest) = found_or_left (suc (length rest)) (trap_of c) rest

unfoldable pub outcome_at : Reader Outcome
outcome_at [] = Err 0
outcome_at (zero ∷ rest) = do
  v ← value_at rest
  Ok (Good v.0, v.1)
outcome_at (suc zero ∷ rest) = do
  kind ← trap_at rest
  Ok (Trap kind.0, kind.1)
outcome_at (suc (suc c) ∷ rest) = Err (suc (length rest))

abbrev pub target_of : ℕ → Option Mode
target_of n = if n == 1 then Some R else if n == 2 then Some W else None

unfoldable pub target_at : Reader Mode
target_at [] = Err 0
target_at (c ∷ rest) = found_or_left (suc (length rest)) (target_of c) rest

unfoldable pub write_at : Reader (List ℕ × Value)
write_at bytes = do
  key ← text_at is_key bytes
  v ← value_at key.1
  Ok ((key.0, v.0), v.1)

-- The fields of each kind.
unfoldable pub submit_at : Reader Body
submit_at bytes = do
  path ← path_at 1 bytes
  function ← text_at is_function path.1
  args ← list_at 0 value_at function.1
  Ok (b.Submit path.0 function.0 args.0, args.1)

unfoldable pub init_at : Reader Body
init_at bytes = do
  path ← path_at 4 bytes
  Ok (b.Init path.0, path.1)

unfoldable pub read_at : Reader Body
read_at bytes = do
  path ← path_at 4 bytes
  index ← index_at path.1
  key ← text_at is_key index.1
  Ok (b.Read path.0 index.0 key.0, key.1)

unfoldable pub named_write_at : Reader Body
named_write_at bytes = do
  path ← path_at 4 bytes
  index ← index_at path.1
  place ← word_at index.1
  key ← text_at is_key place.1
  Ok (b.Write path.0 index.0 place.0 key.0 None, key.1)

unfoldable pub inline_write_at : Reader Body
inline_write_at bytes = do
  path ← path_at 4 bytes
  index ← index_at path.1
  place ← word_at index.1
  key ← text_at is_key place.1
  v ← value_at key.1
  Ok (b.Write path.0 index.0 place.0 key.0 (Some v.0), v.1)

unfoldable pub spawned_at : Reader Body
spawned_at bytes = do
  path ← path_at 3 bytes
  index ← index_at path.1
  ordinal ← ordinal_at index.1
  function ← text_at is_function ordinal.1
  args ← list_at 0 value_at function.1
  Ok (b.Spawn path.0 index.0 ordinal.0 function.0 args.0, args.1)

unfoldable pub join_at : Reader Body
join_at bytes = do
  path ← path_at 4 bytes
  index ← index_at path.1
  ordinal ← ordinal_at index.1
  Ok (b.Join path.0 index.0 ordinal.0, ordinal.1)

unfoldable pub push_at : Reader Body
push_at bytes = do
  path ← path_at 4 bytes
  index ← index_at path.1
  queue ← text_at is_key index.1
  v ← value_at queue.1
  Ok (b.Push path.0 index.0 queue.0 v.0, v.1)

unfoldable pub pop_at : Reader Body
pop_at bytes = do
  path ← path_at 4 bytes
  index ← index_at path.1
  queue ← text_at is_key index.1
  Ok (b.Pop path.0 index.0 queue.0, queue.1)

unfoldable pub begin_at : Reader Body
begin_at bytes = do
  path ← path_at 4 bytes
  index ← index_at path.1
  names ← list_at 1 (text_at is_key) index.1
  Ok (b.TxnBegin path.0 index.0 names.0, names.1)

unfoldable pub commit_at : Reader Body
commit_at bytes = do
  path ← path_at 4 bytes
  index ← index_at path.1
  begin ← word_at index.1
  names ← list_at 1 (text_at is_key) begin.1
  writes ← list_at 0 write_at names.1
  Ok (b.TxnCommit path.0 index.0 begin.0 names.0 writes.0, writes.1)

unfoldable pub finish_at : Reader Body
finish_at bytes = do
  path ← path_at 4 bytes
  index ← index_at path.1
  outcome ← outcome_at index.1
  Ok (b.Finish path.0 index.0 outcome.0, outcome.1)

unfoldable pub switch_at : Reader Body
switch_at bytes = do
  target ← target_at bytes
  Ok (b.SwitchBegin target.0, target.1)

unfoldable pub trim_at : Reader Body
trim_at bytes = do
  w ← word_at bytes
  Ok (b.Trim w.0, w.1)

unfoldable pub trim_tag_at : Reader Body
trim_tag_at bytes = do
  number ← tag_at bytes
  upto ← word_at number.1
  Ok (b.TrimTag number.0 upto.0, upto.1)

unfoldable pub user_at : Reader Body
user_at bytes = do
  piece ← text_at (λ t. nat_le (length t) 4092) bytes
  Ok (b.User piece.0, piece.1)

unfoldable pub group_at : Reader Body
group_at bytes = do
  path ← path_at 4 bytes
  index ← index_at path.1
  keys ← list_at 1 (text_at is_key) index.1
  Ok (b.ReadGroup path.0 index.0 keys.0, keys.1)

-- the kinds of format 1, and those of format 2
unfoldable pub format1_at : Reader Body
format1_at [] = Err 0
format1_at (kind ∷ rest) =
    if kind == 1 then submit_at rest else if kind == 2 then init_at rest else if kind == 3 then read_at rest
    else if kind == 4 then named_write_at rest else if kind == 5 then spawned_at rest else if kind == 6 then join_at rest
    else if kind == 7 then push_at rest else if kind == 8 then pop_at rest else if kind == 9 then begin_at rest
    else if kind == 10 then commit_at rest else if kind == 11 then finish_at rest else if kind == 12 then switch_at rest
    else if kind == 13 then Ok (b.SwitchEnd, rest) else if kind == 14 then trim_at rest
    else if kind == 15 then trim_tag_at rest else if kind == 16 then user_at rest else Err (suc (length rest))

unfoldable pub format2_at : Reader Body
format2_at [] = Err 0
format2_at (kind ∷ rest) = if kind == 4 then inline_write_at rest else if kind == 17 then group_at rest else Err (suc (length rest))

-- a body at the front of the bytes
unfoldable pub body_at : Reader Body
body_at [] = Err 0
body_at (format ∷ rest) = if format == 1 then format1_at rest else if format == 2 then format2_at rest else Err (suc (length rest))

-- All of the bytes are one body's spelling; else the offset of the first element that isn't spelled, or of the first byte
-- behind a whole body.
abbrev pub whole : ℕ → Result (Body × List ℕ) ℕ → Result Body ℕ
whole total (Ok (body, [])) = Ok body
whole total (Ok (body, c ∷ rest)) = Err (total - suc (length rest))
whole total (Err left) = Err (total - left)

abbrev pub read : List ℕ → Result Body ℕ
read bytes = whole (length bytes) (body_at bytes)

-- the tag and the bound, where the bytes are the spelling of a trimmed tag
abbrev pub trim_in : Result Body ℕ → Option (ℕ × Seqnum)
trim_in (Ok (b.TrimTag number upto)) = Some (number, record { 0 = upto })
trim_in _ = None
