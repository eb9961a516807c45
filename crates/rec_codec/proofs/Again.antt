-- What is spelled is read again.
use Rattle.std.proofs.Common.{◌≡◌, ℕ, zero, suc, ◌+◌, ◌-◌, ◌^◌, ◌<◌, ◌≤◌, Bool, true, false, ◌&&◌, cond, eqb, ltb, leb, List, [], ◌∷◌, ◌++◌, length, get_or, Option, Some, None, Result, Ok, Err, refl, sym, ap, subst, ◌∙◌, append_assoc, arith, inl, inr}
use Rattle.std.specs.List.{list_all}
use Rattle.std.specs.Str.{is_utf8}
use Rattle.std.specs.Int.{w16, to_be_bytes}
use Rattle.std.proofs.lemmas.List.{take_at, drop_at, append-nil}
use Rattle.std.proofs.lemmas.Bool.{lt-ltb, ltb-true, leb-true, le-leb, and_parts, and_from, eqb-true, eq-eqb}
use Rattle.lb_base.specs.declared.value.Value.{Value}
use Rattle.lb_base.specs.Path.{is_path, is_ordinal}
use Rattle.boki_types.specs.declared.body.Body.{Body}
use Rattle.boki_types.specs.declared.body.Body.TheVariants as b
use Rattle.boki_model.specs.Bodies.{is_u64, is_value, is_name, is_identifier, is_outcome, is_short_list, are_names, is_step_id, in_range}
use Rattle.rec_codec.specs.Spelling.{path, text, value, values, names, write, writes, spelled, is_text_value, is_text_outcome, is_text_write, has_texts, is_short}
use Rattle.rec_codec.specs.Reading.{Reader, ◌>>=◌, is_key, is_function, path_at, text_at, value_at, write_at, list_at, submit_at, init_at, read_at, named_write_at, inline_write_at, spawned_at, join_at, push_at, pop_at, begin_at, commit_at, finish_at, switch_at, trim_at, trim_tag_at, user_at, group_at, format1_at, format2_at, body_at, whole, read}
use Rattle.rec_codec.proofs.Fields.{IsBytes, IsBytes-rest, IsBytes-drop, IsBytes-take, all_bytes, done, text_reads, bind_ok, ok_is, Takes, ReadsLine-behind, Reads, list_reads, passes_list, counted_list}
use Rattle.rec_codec.proofs.ElementsLemmas.{chosen, word_reads, is_index, index_reads, ordinal_reads, tag_reads, key_reads, function_reads, path_of, path_reads, value_ok, value_reads, target_reads, outcome_reads, write_ok, write_reads}
use Rattle.rec_codec.proofs.Arities.{one_again, two_again, three_again, four_again, five_again}
use Rattle.rec_codec.proofs.Bodies.{first, second, args_reads, names_reads, writes_reads, plain_write, path4, path3, path1, is_piece, piece_reads}

-- both tests, of each
both_all : {X : Type 0} (p q : X → Bool) (xs : List X) → list_all p xs ≡ true → list_all q xs ≡ true → list_all (λ x. p x && q x) xs ≡ true
both_all p q [] h k = refl
both_all p q (x ∷ xs) h k =
    let a = and_parts (p x) (list_all p xs) h in
    let c = and_parts (q x) (list_all q xs) k in
    and_from (p x && q x) (list_all (λ y. p y && q y) xs) (and_from (p x) (q x) a.0 c.0) (both_all p q xs a.1 c.1)

both_writes : (ws : List (List ℕ × Value)) → list_all plain_write ws ≡ true → list_all is_text_write ws ≡ true → list_all write_ok ws ≡ true
both_writes [] h k = refl
both_writes (w ∷ ws) h k =
    let a = and_parts (plain_write w) (list_all plain_write ws) h in
    let c = and_parts (is_text_write w) (list_all is_text_write ws) k in
    let p = and_parts (is_name w.0) (is_value w.1) a.0 in
    let q = and_parts (is_utf8 w.0) (is_text_value w.1) c.0 in
    and_from (write_ok w) (list_all write_ok ws) (and_from (is_key w.0) (value_ok w.1) (and_from (is_utf8 w.0) (is_name w.0) q.0 p.0) (and_from (is_value w.1) (is_text_value w.1) p.1 q.1)) (both_writes ws a.1 c.1)

args_back : (vs : List Value) → is_short_list vs ≡ true → list_all is_value vs ≡ true → list_all is_text_value vs ≡ true → passes_list 0 value_ok vs ≡ true
args_back vs n h k = and_from (leb 0 (length vs) && leb (length vs) 8) (list_all value_ok vs) (and_from (leb 0 (length vs)) (leb (length vs) 8) (le-leb 0 (length vs) (omega arith)) n) (both_all is_value is_text_value vs h k)

names_back : (ns : List (List ℕ)) → are_names ns ≡ true → list_all is_utf8 ns ≡ true → passes_list 1 is_key ns ≡ true
names_back ns h k = let p = and_parts (leb 1 (length ns) && is_short_list ns) (list_all is_name ns) h in and_from (leb 1 (length ns) && leb (length ns) 8) (list_all is_key ns) p.0 (both_all is_utf8 is_name ns k p.1)

writes_back : (ws : List (List ℕ × Value)) → is_short_list ws ≡ true → list_all plain_write ws ≡ true → list_all is_text_write ws ≡ true → passes_list 0 write_ok ws ≡ true
writes_back ws n h k = and_from (leb 0 (length ws) && leb (length ws) 8) (list_all write_ok ws) (and_from (leb 0 (length ws)) (leb (length ws) 8) (le-leb 0 (length ws) (omega arith)) n) (both_writes ws h k)

both : {x y : Bool} → x ≡ true → y ≡ true → (x && y) ≡ true
both {x} {y} h k = and_from x y h k

path_back : (p : List ℕ) → is_path p ≡ true → path_of 4 p ≡ true
path_back [] h = absurd cc
path_back (n ∷ ns) h = and_from (is_path (n ∷ ns)) (leb (suc (length ns)) 4) h (le-leb (suc (length ns)) 4 (let last : ltb (length ns) 4 ≡ true = second _ _ h in let lt : length ns < 4 = ltb-true (length ns) 4 last in omega arith))

step_path : (p : List ℕ) (i : ℕ) → is_step_id p i ≡ true → path_of 4 p ≡ true
step_path p i h = path_back p (and_parts (is_path p) (leb 1 i) (and_parts (is_path p && leb 1 i) (is_u64 i) h).0).0

step_index : (p : List ℕ) (i : ℕ) → is_step_id p i ≡ true → is_index i ≡ true
step_index p i h =
    let parts = and_parts (is_path p && leb 1 i) (is_u64 i) h in
    and_from (leb 1 i) (is_u64 i) (and_parts (is_path p) (leb 1 i) parts.0).1 parts.1

one_path : (p : List ℕ) → (is_path p && eqb (length p) 1) ≡ true → path_of 1 p ≡ true
one_path p h = both (first _ _ h) (le-leb (length p) 1 (let last : eqb (length p) 1 ≡ true = second _ _ h in let e : length p ≡ 1 = eqb-true (length p) 1 last in omega arith))

pub body_again : (body : Body) (rest : List ℕ) → in_range body ≡ true → has_texts body ≡ true → is_short body ≡ true → body_at (spelled body ++ rest) ≡ Ok (body, rest)
unfolding body_at format1_at format2_at submit_at init_at read_at named_write_at inline_write_at spawned_at join_at push_at pop_at begin_at commit_at finish_at switch_at trim_at trim_tag_at user_at group_at
body_again (b.Submit p f args) rest h k s =
    let r3 = and_parts ((is_path p && eqb (length p) 1) && is_identifier f && is_short_list args) (list_all is_value args) h in
    let r2 = and_parts ((is_path p && eqb (length p) 1) && is_identifier f) (is_short_list args) r3.0 in
    let r1 = and_parts ((is_path p && eqb (length p) 1)) (is_identifier f) r2.0 in
    let t1 = and_parts (is_utf8 f) (list_all is_text_value args) k in
    three_again path1 function_reads args_reads b.Submit p f args rest (one_path p r1.0) (and_from (is_utf8 f) (is_identifier f) t1.0 r1.1) (args_back args r2.1 r3.1 t1.1)
body_again (b.Init p) rest h k s =
    one_again path4 b.Init p rest (path_back p h)
body_again (b.Read p i key) rest h k s =
    let r1 = and_parts (is_step_id p i) (is_name key) h in
    three_again path4 index_reads key_reads b.Read p i key rest (step_path p i r1.0) (step_index p i r1.0) (and_from (is_utf8 key) (is_name key) k r1.1)
body_again (b.Write p i place key None) rest h k s =
    let r3 = and_parts (is_step_id p i && is_u64 place && is_name key) (true) h in
    let r2 = and_parts (is_step_id p i && is_u64 place) (is_name key) r3.0 in
    let r1 = and_parts (is_step_id p i) (is_u64 place) r2.0 in
    let t1 = and_parts (is_utf8 key) (true) k in
    four_again path4 index_reads word_reads key_reads (λ p i place key. b.Write p i place key None) p i place key rest (step_path p i r1.0) (step_index p i r1.0) r1.1 (and_from (is_utf8 key) (is_name key) t1.0 r2.1)
body_again (b.Write p i place key (Some v)) rest h k s =
    let r3 = and_parts (is_step_id p i && is_u64 place && is_name key) (is_value v) h in
    let r2 = and_parts (is_step_id p i && is_u64 place) (is_name key) r3.0 in
    let r1 = and_parts (is_step_id p i) (is_u64 place) r2.0 in
    let t1 = and_parts (is_utf8 key) (is_text_value v) k in
    five_again path4 index_reads word_reads key_reads value_reads (λ p i place key v. b.Write p i place key (Some v)) p i place key v rest (step_path p i r1.0) (step_index p i r1.0) r1.1 (and_from (is_utf8 key) (is_name key) t1.0 r2.1) (and_from (is_value v) (is_text_value v) r3.1 t1.1)
body_again (b.Spawn p i ordinal f args) rest h k s =
    let r5 = and_parts (is_step_id p i && leb (length p) 3 && is_ordinal ordinal && is_identifier f && is_short_list args) (list_all is_value args) h in
    let r4 = and_parts (is_step_id p i && leb (length p) 3 && is_ordinal ordinal && is_identifier f) (is_short_list args) r5.0 in
    let r3 = and_parts (is_step_id p i && leb (length p) 3 && is_ordinal ordinal) (is_identifier f) r4.0 in
    let r2 = and_parts (is_step_id p i && leb (length p) 3) (is_ordinal ordinal) r3.0 in
    let r1 = and_parts (is_step_id p i) (leb (length p) 3) r2.0 in
    let t1 = and_parts (is_utf8 f) (list_all is_text_value args) k in
    five_again path3 index_reads ordinal_reads function_reads args_reads b.Spawn p i ordinal f args rest (and_from (is_path p) (leb (length p) 3) (and_parts (is_path p) (leb 1 i) (and_parts (is_path p && leb 1 i) (is_u64 i) r1.0).0).0 r1.1) (step_index p i r1.0) r2.1 (and_from (is_utf8 f) (is_identifier f) t1.0 r3.1) (args_back args r4.1 r5.1 t1.1)
body_again (b.Join p i ordinal) rest h k s =
    let r1 = and_parts (is_step_id p i) (is_ordinal ordinal) h in
    three_again path4 index_reads ordinal_reads b.Join p i ordinal rest (step_path p i r1.0) (step_index p i r1.0) r1.1
body_again (b.Push p i queue v) rest h k s =
    let r2 = and_parts (is_step_id p i && is_name queue) (is_value v) h in
    let r1 = and_parts (is_step_id p i) (is_name queue) r2.0 in
    let t1 = and_parts (is_utf8 queue) (is_text_value v) k in
    four_again path4 index_reads key_reads value_reads b.Push p i queue v rest (step_path p i r1.0) (step_index p i r1.0) (and_from (is_utf8 queue) (is_name queue) t1.0 r1.1) (and_from (is_value v) (is_text_value v) r2.1 t1.1)
body_again (b.Pop p i queue) rest h k s =
    let r1 = and_parts (is_step_id p i) (is_name queue) h in
    three_again path4 index_reads key_reads b.Pop p i queue rest (step_path p i r1.0) (step_index p i r1.0) (and_from (is_utf8 queue) (is_name queue) k r1.1)
body_again (b.TxnBegin p i ns) rest h k s =
    let r1 = and_parts (is_step_id p i) (are_names ns) h in
    three_again path4 index_reads names_reads b.TxnBegin p i ns rest (step_path p i r1.0) (step_index p i r1.0) (names_back ns r1.1 k)
body_again (b.TxnCommit p i began ns ws) rest h k s =
    let r4 = and_parts (is_step_id p i && is_u64 began && are_names ns && is_short_list ws) (list_all plain_write ws) h in
    let r3 = and_parts (is_step_id p i && is_u64 began && are_names ns) (is_short_list ws) r4.0 in
    let r2 = and_parts (is_step_id p i && is_u64 began) (are_names ns) r3.0 in
    let r1 = and_parts (is_step_id p i) (is_u64 began) r2.0 in
    let t1 = and_parts (list_all is_utf8 ns) (list_all is_text_write ws) k in
    five_again path4 index_reads word_reads names_reads writes_reads b.TxnCommit p i began ns ws rest (step_path p i r1.0) (step_index p i r1.0) r1.1 (names_back ns r2.1 t1.0) (writes_back ws r3.1 r4.1 t1.1)
body_again (b.Finish p i o) rest h k s =
    let r1 = and_parts (is_step_id p i) (is_outcome o) h in
    three_again path4 index_reads outcome_reads b.Finish p i o rest (step_path p i r1.0) (step_index p i r1.0) (and_from (is_outcome o) (is_text_outcome o) r1.1 k)
body_again (b.SwitchBegin target) rest h k s = one_again target_reads b.SwitchBegin target rest h
body_again b.SwitchEnd rest h k s = refl
body_again (b.Trim w) rest h k s = one_again word_reads b.Trim w rest h
body_again (b.TrimTag number upto) rest h k s =
    let r1 = and_parts (ltb number (2 ^ 56)) (is_u64 upto) h in
    two_again tag_reads word_reads b.TrimTag number upto rest r1.0 r1.1
body_again (b.User bytes) rest h k s = one_again piece_reads b.User bytes rest s
body_again (b.ReadGroup p i ns) rest h k s =
    let r1 = and_parts (is_step_id p i) (are_names ns) h in
    three_again path4 index_reads names_reads b.ReadGroup p i ns rest (step_path p i r1.0) (step_index p i r1.0) (names_back ns r1.1 k)

pub read_again : (body : Body) → in_range body ≡ true → has_texts body ≡ true → is_short body ≡ true → read (spelled body) ≡ Ok body
read_again body h k s =
    let e : body_at (spelled body) ≡ Ok (body, []) = ap body_at (sym (append-nil (spelled body))) ∙ body_again body [] h k s in
    ap (whole (length (spelled body))) e
