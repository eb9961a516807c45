-- How long spellings are.
use Rattle.std.proofs.Common.{◌≡◌, ℕ, zero, suc, ◌+◌, ◌*◌, ◌<◌, ◌≤◌, Bool, true, false, ◌&&◌, not, eqb, ltb, leb, List, [], ◌∷◌, ◌++◌, length, Option, Some, None, refl, sym, ap, ◌∙◌, arith}
use Rattle.std.specs.Prelude.{pos, negsuc, bytes_eq}
use Rattle.std.specs.List.{flat_map, list_all, list_any}
use Rattle.std.specs.Int.{w16, w32, w64, to_be_bytes, cast_unsigned}
use Rattle.std.proofs.lemmas.Bool.{and_parts, ltb-true, leb-true, leb-false}
use Rattle.std.proofs.lemmas.List.{length-append}
use Rattle.std.proofs.Math.Nat.{mul-le-mul_left}
use Rattle.std.proofs.lemmas.List.Concat.{flat_map-cons}
use Rattle.lb_base.specs.declared.value.Value.{Value}
use Rattle.lb_base.specs.declared.value.Value.TheVariants.{Int, Text, Nothing}
use Rattle.lb_base.specs.declared.value.Outcome.{Outcome}
use Rattle.lb_base.specs.declared.value.Outcome.TheVariants.{Good, Trap}
use Rattle.lb_base.specs.Path.{is_request, is_path, are_ordinals, is_ordinal}
use Rattle.boki_types.specs.declared.body.Body.{Body}
use Rattle.boki_types.specs.declared.body.Body.TheVariants as b
use Rattle.boki_model.specs.Bodies.{is_u64, is_value, is_name, is_identifier, has_identifier_characters, reserved_words, is_outcome, is_short_list, are_names, is_step_id, in_range}
use Rattle.rec_codec.specs.Spelling.{word, text, path, value, outcome, values, names, write, writes, spelled, is_short}
use Rattle.rec_codec.proofs.Bodies.{plain_write}

app : (x y : List ℕ) (m n : ℕ) → length x ≤ m → length y ≤ n → length (x ++ y) ≤ m + n
app x y m n h k = omega (arith, length-append x y)

all_true : {X : Type 0} (xs : List X) → list_all (λ x. true) xs ≡ true
all_true [] = refl
all_true (x ∷ xs) = all_true xs

-- each piece has at most m bytes
pieces : {X : Type 0} (f : X → List ℕ) (ok : X → Bool) (m : ℕ) → ((x : X) → ok x ≡ true → length (f x) ≤ m) → (xs : List X) → list_all ok xs ≡ true → length (flat_map f xs) ≤ m * length xs
pieces f ok m each [] h = omega arith
pieces f ok m each (x ∷ xs) h =
    let parts = and_parts (ok x) (list_all ok xs) h in
    let here = each x parts.0 in
    let rest = pieces f ok m each xs parts.1 in
    let sum : length (f x ++ flat_map f xs) ≤ m + m * length xs = app (f x) (flat_map f xs) m (m * length xs) here rest in
    let e : m * suc (length xs) ≡ m + m * length xs = omega arith in
    rw (flat_map-cons f x xs, e) sum

counted_pieces : {X : Type 0} (f : X → List ℕ) (ok : X → Bool) (m : ℕ) → ((x : X) → ok x ≡ true → length (f x) ≤ m) → (xs : List X) → leb (length xs) 8 ≡ true → list_all ok xs ≡ true → length (length xs ∷ flat_map f xs) ≤ 1 + m * 8
counted_pieces f ok m each xs is_short_list h =
    let le : length xs ≤ 8 = leb-true (length xs) 8 is_short_list in
    let sum = pieces f ok m each xs h in
    let more : m * length xs ≤ m * 8 = mul-le-mul_left m le in
    omega arith

text_len : (t : List ℕ) (m : ℕ) → length t ≤ m → length (text t) ≤ 2 + m
text_len t m h = app (to_be_bytes w16 (length t)) t 2 m (omega arith) h

key_len : (t : List ℕ) → is_name t ≡ true → length (text t) ≤ 66
key_len t h = text_len t 64 (leb-true (length t) 64 (and_parts (leb 1 (length t)) (leb (length t) 64) h).1)

function_len : (t : List ℕ) → is_identifier t ≡ true → length (text t) ≤ 34
function_len t h = text_len t 32 (leb-true (length t) 32 (and_parts (has_identifier_characters t) (leb (length t) 32) (and_parts (has_identifier_characters t && leb (length t) 32) (not (list_any (bytes_eq t) reserved_words)) h).0).1)

value_len : (v : Value) → is_value v ≡ true → length (value v) ≤ 259
value_len Nothing h = omega arith
value_len (Int n) h = omega arith
value_len (Text t) h = let le = text_len t 256 (leb-true (length t) 256 h) in omega arith

write_len : (w : List ℕ × Value) → plain_write w ≡ true → length (write w) ≤ 325
write_len w h = let p = and_parts (is_name w.0) (is_value w.1) h in app (text w.0) (value w.1) 66 259 (key_len w.0 p.0) (value_len w.1 p.1)

outcome_len : (o : Outcome) → is_outcome o ≡ true → length (outcome o) ≤ 260
outcome_len (Good v) h = let le = value_len v h in omega arith
outcome_len (Trap t) h = omega arith

path_len : (p : List ℕ) → is_path p ≡ true → length (path p) ≤ 17
path_len [] h = absurd cc
path_len (n ∷ ns) h =
    let all = pieces (to_be_bytes w32) (λ k. true) 4 (λ k e. omega arith) (n ∷ ns) (all_true (n ∷ ns)) in
    let lt : length ns < 4 = ltb-true (length ns) 4 (and_parts (is_request n && are_ordinals ns) (ltb (length ns) 4) h).1 in
    omega arith

word_len : (n : ℕ) → length (word n) ≤ 8
word_len n = omega arith

args_len : (vs : List Value) → is_short_list vs ≡ true → list_all is_value vs ≡ true → length (values vs) ≤ 2073
args_len vs n h = counted_pieces value is_value 259 value_len vs n h

names_len : (ns : List (List ℕ)) → are_names ns ≡ true → length (names ns) ≤ 529
names_len ns h =
    let p = and_parts (leb 1 (length ns) && is_short_list ns) (list_all is_name ns) h in
    counted_pieces text is_name 66 key_len ns (and_parts (leb 1 (length ns)) (is_short_list ns) p.0).1 p.1

writes_len : (ws : List (List ℕ × Value)) → is_short_list ws ≡ true → list_all plain_write ws ≡ true → length (writes ws) ≤ 2601
writes_len ws n h = counted_pieces write plain_write 325 write_len ws n h

step_len : (p : List ℕ) (i : ℕ) (tail : List ℕ) (m : ℕ) → is_step_id p i ≡ true → length tail ≤ m → length (path p ++ (word i ++ tail)) ≤ 25 + m
step_len p i tail m h le =
    let is = (and_parts (is_path p) (leb 1 i) (and_parts (is_path p && leb 1 i) (is_u64 i) h).0).0 in
    let whole = app (path p) (word i ++ tail) 17 (8 + m) (path_len p is) (app (word i) tail 8 m (word_len i) le) in
    omega arith

-- a body in range that is no user's has at most 4,096 bytes, and so has a user's of at most 4,092
pub spelled_len : (body : Body) → in_range body ≡ true → is_short body ≡ true → length (spelled body) ≤ 4096
spelled_len (b.Submit p f args) h k =
    let r3 = and_parts ((is_path p && eqb (length p) 1) && is_identifier f && is_short_list args) (list_all is_value args) h in
    let r2 = and_parts ((is_path p && eqb (length p) 1) && is_identifier f) (is_short_list args) r3.0 in
    let r1 = and_parts ((is_path p && eqb (length p) 1)) (is_identifier f) r2.0 in
    let le = app (path p) (text f ++ values args) 17 2107 (path_len p (and_parts (is_path p) (eqb (length p) 1) r1.0).0) (app (text f) (values args) 34 2073 (function_len f r1.1) (args_len args r2.1 r3.1)) in omega arith
spelled_len (b.Init p) h k =
    let le = path_len p h in omega arith
spelled_len (b.Read p i key) h k =
    let r1 = and_parts (is_step_id p i) (is_name key) h in
    let le = step_len p i (text key) 66 r1.0 (key_len key r1.1) in omega arith
spelled_len (b.Write p i place key None) h k =
    let r3 = and_parts (is_step_id p i && is_u64 place && is_name key) (true) h in
    let r2 = and_parts (is_step_id p i && is_u64 place) (is_name key) r3.0 in
    let r1 = and_parts (is_step_id p i) (is_u64 place) r2.0 in
    let le = step_len p i (word place ++ text key) 74 r1.0 (app (word place) (text key) 8 66 (word_len place) (key_len key r2.1)) in omega arith
spelled_len (b.Write p i place key (Some v)) h k =
    let r3 = and_parts (is_step_id p i && is_u64 place && is_name key) (is_value v) h in
    let r2 = and_parts (is_step_id p i && is_u64 place) (is_name key) r3.0 in
    let r1 = and_parts (is_step_id p i) (is_u64 place) r2.0 in
    let le = step_len p i (word place ++ (text key ++ value v)) 333 r1.0 (app (word place) (text key ++ value v) 8 325 (word_len place) (app (text key) (value v) 66 259 (key_len key r2.1) (value_len v r3.1))) in omega arith
spelled_len (b.Spawn p i ordinal f args) h k =
    let r5 = and_parts (is_step_id p i && leb (length p) 3 && is_ordinal ordinal && is_identifier f && is_short_list args) (list_all is_value args) h in
    let r4 = and_parts (is_step_id p i && leb (length p) 3 && is_ordinal ordinal && is_identifier f) (is_short_list args) r5.0 in
    let r3 = and_parts (is_step_id p i && leb (length p) 3 && is_ordinal ordinal) (is_identifier f) r4.0 in
    let r2 = and_parts (is_step_id p i && leb (length p) 3) (is_ordinal ordinal) r3.0 in
    let r1 = and_parts (is_step_id p i) (leb (length p) 3) r2.0 in
    let le = step_len p i (word ordinal ++ (text f ++ values args)) 2115 r1.0 (app (word ordinal) (text f ++ values args) 8 2107 (word_len ordinal) (app (text f) (values args) 34 2073 (function_len f r3.1) (args_len args r4.1 r5.1))) in omega arith
spelled_len (b.Join p i ordinal) h k =
    let r1 = and_parts (is_step_id p i) (is_ordinal ordinal) h in
    let le = step_len p i (word ordinal) 8 r1.0 (word_len ordinal) in omega arith
spelled_len (b.Push p i queue v) h k =
    let r2 = and_parts (is_step_id p i && is_name queue) (is_value v) h in
    let r1 = and_parts (is_step_id p i) (is_name queue) r2.0 in
    let le = step_len p i (text queue ++ value v) 325 r1.0 (app (text queue) (value v) 66 259 (key_len queue r1.1) (value_len v r2.1)) in omega arith
spelled_len (b.Pop p i queue) h k =
    let r1 = and_parts (is_step_id p i) (is_name queue) h in
    let le = step_len p i (text queue) 66 r1.0 (key_len queue r1.1) in omega arith
spelled_len (b.TxnBegin p i ns) h k =
    let r1 = and_parts (is_step_id p i) (are_names ns) h in
    let le = step_len p i (names ns) 529 r1.0 (names_len ns r1.1) in omega arith
spelled_len (b.TxnCommit p i began ns ws) h k =
    let r4 = and_parts (is_step_id p i && is_u64 began && are_names ns && is_short_list ws) (list_all plain_write ws) h in
    let r3 = and_parts (is_step_id p i && is_u64 began && are_names ns) (is_short_list ws) r4.0 in
    let r2 = and_parts (is_step_id p i && is_u64 began) (are_names ns) r3.0 in
    let r1 = and_parts (is_step_id p i) (is_u64 began) r2.0 in
    let le = step_len p i (word began ++ (names ns ++ writes ws)) 3138 r1.0 (app (word began) (names ns ++ writes ws) 8 3130 (word_len began) (app (names ns) (writes ws) 529 2601 (names_len ns r2.1) (writes_len ws r3.1 r4.1))) in omega arith
spelled_len (b.Finish p i o) h k =
    let r1 = and_parts (is_step_id p i) (is_outcome o) h in
    let le = step_len p i (outcome o) 260 r1.0 (outcome_len o r1.1) in omega arith
spelled_len (b.SwitchBegin target) h k = omega arith
spelled_len b.SwitchEnd h k = omega arith
spelled_len (b.Trim w) h k = let le = word_len w in omega arith
spelled_len (b.TrimTag number upto) h k = let le = app (word number) (word upto) 8 8 (word_len number) (word_len upto) in omega arith
spelled_len (b.User bytes) h k = let le = text_len bytes 4092 (leb-true (length bytes) 4092 k) in omega arith
spelled_len (b.ReadGroup p i ns) h k =
    let r1 = and_parts (is_step_id p i) (are_names ns) h in
    let le = step_len p i (names ns) 529 r1.0 (names_len ns r1.1) in omega arith

-- what is too long has more
pub long_len : (body : Body) → is_short body ≡ false → 4096 < length (spelled body)
long_len (b.User bytes) k = let gt : 4092 < length bytes = leb-false (length bytes) 4092 k in let e : length (to_be_bytes w16 (length bytes) ++ bytes) ≡ 2 + length bytes = length-append (to_be_bytes w16 (length bytes)) bytes in omega arith
long_len (b.Submit p f args) k = absurd cc
long_len (b.Init p) k = absurd cc
long_len (b.Read p i key) k = absurd cc
long_len (b.Write p i place key v) k = absurd cc
long_len (b.Spawn p i ordinal f args) k = absurd cc
long_len (b.Join p i ordinal) k = absurd cc
long_len (b.Push p i queue v) k = absurd cc
long_len (b.Pop p i queue) k = absurd cc
long_len (b.TxnBegin p i ns) k = absurd cc
long_len (b.TxnCommit p i began ns ws) k = absurd cc
long_len (b.Finish p i o) k = absurd cc
long_len (b.SwitchBegin target) k = absurd cc
long_len (b.Trim w) k = absurd cc
long_len (b.TrimTag number upto) k = absurd cc
long_len (b.ReadGroup p i ns) k = absurd cc
long_len b.SwitchEnd k = absurd cc

-- by the test
pub long_is : (body : Body) (t : Bool) → is_short body ≡ t → not t ≡ true → 4096 < length (spelled body)
long_is body true e h = absurd cc
long_is body false e h = long_len body e

pub short_is : (body : Body) (t : Bool) → is_short body ≡ t → not t ≡ false → is_short body ≡ true
short_is body true e h = e
short_is body false e h = absurd cc
