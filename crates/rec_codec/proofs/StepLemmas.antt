-- The path and the step index of a body stand behind its second byte.
use Rattle.std.proofs.Common.{◌≡◌, ℕ, suc, ◌≤◌, ◌<◌, Bool, true, false, ◌&&◌, leb, ltb, List, [], ◌∷◌, ◌++◌, length, drop, get_or, Option, Some, None, Result, Ok, Err, refl, sym, ap, ◌∙◌, arith}
use Rattle.std.specs.List.{list_all}
use Rattle.std.proofs.lemmas.List.{append-nil}
use Rattle.std.proofs.lemmas.Bool.{ltb-true, le-leb, and_from}
use Rattle.lb_base.specs.declared.value.Value.{Value}
use Rattle.lb_base.specs.Path.{is_request, is_ordinal, are_ordinals, is_path}
use Rattle.boki_types.specs.declared.body.Body.{Body}
use Rattle.boki_types.specs.declared.body.Body.TheVariants as b
use Rattle.boki_model.specs.Bodies.{is_u64, is_name, is_value, is_optional_value, is_outcome, is_identifier, is_short_list, are_names, is_step_id, in_range, step_of}
use Rattle.rec_codec.specs.Spelling.{path, word, text, value, values, names, writes, outcome, spelled}
use Rattle.rec_codec.specs.Reading.{path_at, word_at, read}
use Rattle.rec_codec.specs.Looking.{kind_by_number, if_read, first_step, indexed_step, step_by_kind}
use Rattle.rec_codec.proofs.Fields.{IsBytes}
use Rattle.rec_codec.proofs.ElementsLemmas.{path_of, word_reads}
use Rattle.rec_codec.proofs.Bodies.{path4, plain_write, first, second, read_takes_all}

-- a path has at most four numbers
short_path : (p : List ℕ) → is_path p ≡ true → path_of 4 p ≡ true
short_path [] h = absurd cc
short_path (n ∷ ns) h =
    let lt : length ns < 4 = ltb-true (length ns) 4 (second (is_request n && are_ordinals ns) (ltb (length ns) 4) h) in
    and_from (is_path (n ∷ ns)) (leb (suc (length ns)) 4) h (le-leb (suc (length ns)) 4 (omega arith))

first_is : (p : List ℕ) → is_path p ≡ true → first_step (path p) ≡ Some (p, 1)
first_is p h =
    ap first_step (sym (append-nil (path p)))
    ∙ ap (if_read (λ (x : List ℕ × List ℕ). Some (x.0, 1))) (path4.again p [] (short_path p h))

indexed_is : (p : List ℕ) (i : ℕ) (more : List ℕ) → is_step_id p i ≡ true → indexed_step (path p ++ (word i ++ more)) ≡ Some (p, i)
indexed_is p i more h =
    let ranged = second (is_path p && leb 1 i) (is_u64 i) h in
    let is = first (is_path p) (leb 1 i) (first (is_path p && leb 1 i) (is_u64 i) h) in
    ap (if_read (λ (x : List ℕ × List ℕ). if_read (λ (n : ℕ × List ℕ). Some (x.0, n.0)) (word_at x.1))) (path4.again p (word i ++ more) (short_path p is))
    ∙ ap (if_read (λ (n : ℕ × List ℕ). Some (p, n.0))) (word_reads.again i more ranged)

abbrev told : List ℕ → Option (List ℕ × ℕ)
told bytes = step_by_kind (kind_by_number (get_or bytes 1 0)) (drop 2 bytes)

step_spelled : (body : Body) → in_range body ≡ true → told (spelled body) ≡ step_of body
step_spelled (b.Submit p f args) h = refl
step_spelled (b.Init p) h = first_is p h
step_spelled (b.Read p i key) h = indexed_is p i (text key) (first (is_step_id p i) (is_name key) h)
step_spelled (b.Write p i place key None) h =
    indexed_is p i (word place ++ text key)
    (first (is_step_id p i) (is_u64 place) (first (is_step_id p i && is_u64 place) (is_name key) (first (is_step_id p i && is_u64 place && is_name key) true h)))
step_spelled (b.Write p i place key (Some v)) h =
    indexed_is p i (word place ++ (text key ++ value v))
    (first (is_step_id p i) (is_u64 place) (first (is_step_id p i && is_u64 place) (is_name key) (first (is_step_id p i && is_u64 place && is_name key) (is_value v) h)))
step_spelled (b.Spawn p i ordinal f args) h =
    indexed_is p i (word ordinal ++ (text f ++ values args))
    (first (is_step_id p i) (leb (length p) 3) (first (is_step_id p i && leb (length p) 3) (is_ordinal ordinal) (first (is_step_id p i && leb (length p) 3 && is_ordinal ordinal) (is_identifier f)
    (first (is_step_id p i && leb (length p) 3 && is_ordinal ordinal && is_identifier f) (is_short_list args) (first (is_step_id p i && leb (length p) 3 && is_ordinal ordinal && is_identifier f && is_short_list args) (list_all is_value args) h)))))
step_spelled (b.Join p i ordinal) h = indexed_is p i (word ordinal) (first (is_step_id p i) (is_ordinal ordinal) h)
step_spelled (b.Push p i queue v) h =
    indexed_is p i (text queue ++ value v) (first (is_step_id p i) (is_name queue) (first (is_step_id p i && is_name queue) (is_value v) h))
step_spelled (b.Pop p i queue) h = indexed_is p i (text queue) (first (is_step_id p i) (is_name queue) h)
step_spelled (b.TxnBegin p i ns) h = indexed_is p i (names ns) (first (is_step_id p i) (are_names ns) h)
step_spelled (b.TxnCommit p i began ns ws) h =
    indexed_is p i (word began ++ (names ns ++ writes ws))
    (first (is_step_id p i) (is_u64 began) (first (is_step_id p i && is_u64 began) (are_names ns) (first (is_step_id p i && is_u64 began && are_names ns) (is_short_list ws)
    (first (is_step_id p i && is_u64 began && are_names ns && is_short_list ws) (list_all plain_write ws) h))))
step_spelled (b.Finish p i o) h = indexed_is p i (outcome o) (first (is_step_id p i) (is_outcome o) h)
step_spelled (b.SwitchBegin target) h = refl
step_spelled b.SwitchEnd h = refl
step_spelled (b.Trim w) h = refl
step_spelled (b.TrimTag number upto) h = refl
step_spelled (b.User piece) h = refl
step_spelled (b.ReadGroup p i ns) h = indexed_is p i (names ns) (first (is_step_id p i) (are_names ns) h)

-- the step by the second byte and what is behind it
pub step_read : (bytes : List ℕ) (body : Body) → IsBytes bytes → read bytes ≡ Ok body → step_by_kind (kind_by_number (get_or bytes 1 0)) (drop 2 bytes) ≡ step_of body
step_read bytes body fits e =
    let is = read_takes_all bytes body fits e in
    ap told is.2 ∙ step_spelled body is.0

-- a body has at least two bytes
spelled_two : (body : Body) → 2 ≤ length (spelled body)
spelled_two (b.Submit p f args) = omega arith
spelled_two (b.Init p) = omega arith
spelled_two (b.Read p i key) = omega arith
spelled_two (b.Write p i place key None) = omega arith
spelled_two (b.Write p i place key (Some v)) = omega arith
spelled_two (b.Spawn p i ordinal f args) = omega arith
spelled_two (b.Join p i ordinal) = omega arith
spelled_two (b.Push p i queue v) = omega arith
spelled_two (b.Pop p i queue) = omega arith
spelled_two (b.TxnBegin p i ns) = omega arith
spelled_two (b.TxnCommit p i began ns ws) = omega arith
spelled_two (b.Finish p i o) = omega arith
spelled_two (b.SwitchBegin target) = omega arith
spelled_two b.SwitchEnd = omega arith
spelled_two (b.Trim w) = omega arith
spelled_two (b.TrimTag number upto) = omega arith
spelled_two (b.User piece) = omega arith
spelled_two (b.ReadGroup p i ns) = omega arith

pub read_two : (bytes : List ℕ) (body : Body) → IsBytes bytes → read bytes ≡ Ok body → 2 ≤ length bytes
read_two bytes body fits e = omega (arith, spelled_two body, ap length (read_takes_all bytes body fits e).2)
