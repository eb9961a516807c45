-- The laws of bodies: what is read is in range and spelled so.
use Rattle.std.proofs.Common.{◌≡◌, ℕ, zero, suc, ◌+◌, ◌-◌, ◌^◌, ◌<◌, ◌≤◌, Bool, true, false, ◌&&◌, cond, eqb, ltb, leb, List, [], ◌∷◌, ◌++◌, length, get_or, Option, Some, None, Result, Ok, Err, refl, sym, ap, subst, ◌∙◌, append_assoc, arith, inl, inr}
use Rattle.std.specs.List.{list_all}
use Rattle.std.specs.Str.{is_utf8}
use Rattle.std.specs.Int.{w16, to_be_bytes}
use Rattle.std.proofs.lemmas.List.{take_at, drop_at, append-nil}
use Rattle.std.proofs.lemmas.Bool.{lt-ltb, ltb-true, leb-true, le-leb, and_parts, and_from, eqb-true, eq-eqb}
use Rattle.lb_base.specs.declared.value.Value.{Value}
use Rattle.lb_base.specs.Path.{is_path, is_ordinal}
use Rattle.boki_types.specs.declared.body.Body.{Body}
use Rattle.boki_types.specs.declared.body.Body.TheVariants as b
use Rattle.boki_model.specs.Bodies.{is_u64, is_value, is_name, is_identifier, is_outcome, is_short_list, are_names, is_step_id, in_range}
use Rattle.rec_codec.specs.Spelling.{path, text, value, values, names, write, writes, spelled, is_text_value, is_text_outcome, is_text_write, has_texts}
use Rattle.rec_codec.specs.Reading.{Reader, ◌>>=◌, is_key, is_function, path_at, text_at, value_at, write_at, list_at, submit_at, init_at, read_at, named_write_at, inline_write_at, spawned_at, join_at, push_at, pop_at, begin_at, commit_at, finish_at, switch_at, trim_at, trim_tag_at, user_at, group_at, format1_at, format2_at, body_at, whole, read}
use Rattle.rec_codec.proofs.Fields.{IsBytes, IsBytes-rest, IsBytes-drop, IsBytes-take, all_bytes, done, text_reads, bind_ok, ok_is, Takes, ReadsLine-behind, Reads, list_reads, passes_list, counted_list}
use Rattle.rec_codec.proofs.ElementsLemmas.{chosen, word_reads, is_index, index_reads, ordinal_reads, tag_reads, key_reads, function_reads, path_of, path_reads, value_ok, value_reads, target_reads, outcome_reads, write_ok, write_reads}
use Rattle.rec_codec.proofs.Arities.{one, two, three, four, five}

-- ---- tests in parts

pub first : (x y : Bool) → (x && y) ≡ true → x ≡ true
first x y h = (and_parts x y h).0

pub second : (x y : Bool) → (x && y) ≡ true → y ≡ true
second x y h = (and_parts x y h).1

pub step_in : (p : List ℕ) (i : ℕ) → path_of 4 p ≡ true → is_index i ≡ true → is_step_id p i ≡ true
step_in p i hp hi = and_from (is_path p && leb 1 i) (is_u64 i) (and_from (is_path p) (leb 1 i) (and_parts (is_path p) (leb (length p) 4) hp).0 (and_parts (leb 1 i) (is_u64 i) hi).0) (and_parts (leb 1 i) (is_u64 i) hi).1

pub step_in3 : (p : List ℕ) (i : ℕ) → path_of 3 p ≡ true → is_index i ≡ true → is_step_id p i ≡ true
step_in3 p i hp hi = and_from (is_path p && leb 1 i) (is_u64 i) (and_from (is_path p) (leb 1 i) (and_parts (is_path p) (leb (length p) 3) hp).0 (and_parts (leb 1 i) (is_u64 i) hi).0) (and_parts (leb 1 i) (is_u64 i) hi).1

-- a path of at most one number has one
pub one_number : (p : List ℕ) → path_of 1 p ≡ true → (is_path p && eqb (length p) 1) ≡ true
one_number [] h = absurd cc
one_number (n ∷ ns) h =
    let parts = and_parts (is_path (n ∷ ns)) (leb (suc (length ns)) 1) h in
    let le : suc (length ns) ≤ 1 = leb-true (suc (length ns)) 1 parts.1 in
    and_from (is_path (n ∷ ns)) (eqb (suc (length ns)) 1) parts.0 (eq-eqb (suc (length ns)) 1 (omega arith))

-- of each, both tests
pub split_all : {X : Type 0} (p q : X → Bool) (xs : List X) → list_all (λ x. p x && q x) xs ≡ true → (list_all p xs ≡ true) × (list_all q xs ≡ true)
split_all p q [] h = (refl, refl)
split_all p q (x ∷ xs) h =
    let parts = and_parts (p x && q x) (list_all (λ y. p y && q y) xs) h in
    let here = and_parts (p x) (q x) parts.0 in
    let rest = split_all p q xs parts.1 in
    (and_from (p x) (list_all p xs) here.0 rest.0, and_from (q x) (list_all q xs) here.1 rest.1)

abbrev pub args_reads : Reads (List Value) values (passes_list 0 value_ok) (list_at 0 value_at)
args_reads = list_reads 0 value_reads

abbrev pub names_reads : Reads (List (List ℕ)) names (passes_list 1 is_key) (list_at 1 (text_at is_key))
names_reads = list_reads 1 key_reads

abbrev pub writes_reads : Reads (List (List ℕ × Value)) writes (passes_list 0 write_ok) (list_at 0 write_at)
writes_reads = list_reads 0 write_reads

pub args_in : (vs : List Value) → passes_list 0 value_ok vs ≡ true → (is_short_list vs ≡ true) × (list_all is_value vs ≡ true) × (list_all is_text_value vs ≡ true)
args_in vs h =
    let parts = and_parts (leb 0 (length vs) && leb (length vs) 8) (list_all value_ok vs) h in
    let each = split_all is_value is_text_value vs parts.1 in
    ((and_parts (leb 0 (length vs)) (leb (length vs) 8) parts.0).1, each.0, each.1)

pub names_in : (ns : List (List ℕ)) → passes_list 1 is_key ns ≡ true → (are_names ns ≡ true) × (list_all is_utf8 ns ≡ true)
names_in ns h =
    let parts = and_parts (leb 1 (length ns) && leb (length ns) 8) (list_all is_key ns) h in
    let each = split_all is_utf8 is_name ns parts.1 in
    (and_from (leb 1 (length ns) && is_short_list ns) (list_all is_name ns) parts.0 each.1, each.0)

abbrev pub plain_write : List ℕ × Value → Bool
plain_write w = is_name w.0 && is_value w.1

split_writes : (ws : List (List ℕ × Value)) → list_all write_ok ws ≡ true → (list_all plain_write ws ≡ true) × (list_all is_text_write ws ≡ true)
split_writes [] h = (refl, refl)
split_writes (w ∷ ws) h =
    let parts = and_parts (write_ok w) (list_all write_ok ws) h in
    let here = and_parts (is_key w.0) (value_ok w.1) parts.0 in
    let key = and_parts (is_utf8 w.0) (is_name w.0) here.0 in
    let val = and_parts (is_value w.1) (is_text_value w.1) here.1 in
    let rest = split_writes ws parts.1 in (
      and_from (plain_write w) (list_all plain_write ws) (and_from (is_name w.0) (is_value w.1) key.1 val.0) rest.0,
      and_from (is_text_write w) (list_all is_text_write ws) (and_from (is_utf8 w.0) (is_text_value w.1) key.0 val.1) rest.1,
    )

pub writes_in : (ws : List (List ℕ × Value)) → passes_list 0 write_ok ws ≡ true → (is_short_list ws ≡ true) × (list_all plain_write ws ≡ true) × (list_all is_text_write ws ≡ true)
writes_in ws h =
    let parts = and_parts (leb 0 (length ws) && leb (length ws) 8) (list_all write_ok ws) h in
    let each = split_writes ws parts.1 in
    ((and_parts (leb 0 (length ws)) (leb (length ws) 8) parts.0).1, each.0, each.1)

-- ---- each kind

pub path4 : Reads (List ℕ) path (path_of 4) (path_at 4)
path4 = path_reads 4 (omega arith)

pub path3 : Reads (List ℕ) path (path_of 3) (path_at 3)
path3 = path_reads 3 (omega arith)

pub path1 : Reads (List ℕ) path (path_of 1) (path_at 1)
path1 = path_reads 1 (omega arith)

-- a body that was read: it is in range, its texts are texts, and it is spelled so
pub record Sound (bytes : List ℕ) (body : Body) (rest : List ℕ) : Type 0 where
  pub taken : Takes bytes (spelled body) rest
  pub range : in_range body ≡ true
  pub texts : has_texts body ≡ true

submit_takes : (bytes : List ℕ) (body : Body) (rest : List ℕ) → IsBytes bytes → submit_at bytes ≡ Ok (body, rest) → Sound (1 ∷ 1 ∷ bytes) body rest
unfolding submit_at
submit_takes bytes body rest fits e =
    let t = three path1 function_reads args_reads b.Submit bytes body rest fits e in
    subst (λ (made : Body). Sound (1 ∷ 1 ∷ bytes) made rest) t.made
    record { taken = ReadsLine-behind 1 _ _ rest (ReadsLine-behind 1 _ _ rest t.taken); range = and_from (is_path t.x && eqb (length t.x) 1 && is_identifier t.y && is_short_list t.z) (list_all is_value t.z) (and_from (is_path t.x && eqb (length t.x) 1 && is_identifier t.y) (is_short_list t.z) (and_from (is_path t.x && eqb (length t.x) 1) (is_identifier t.y) (one_number t.x t.x_ok) (second _ _ t.y_ok)) (args_in t.z t.z_ok).0) (args_in t.z t.z_ok).1; texts = and_from (is_utf8 t.y) (list_all is_text_value t.z) (first _ _ t.y_ok) (args_in t.z t.z_ok).2 }

init_takes : (bytes : List ℕ) (body : Body) (rest : List ℕ) → IsBytes bytes → init_at bytes ≡ Ok (body, rest) → Sound (1 ∷ 2 ∷ bytes) body rest
unfolding init_at
init_takes bytes body rest fits e =
    let t = one path4 b.Init bytes body rest fits e in
    subst (λ (made : Body). Sound (1 ∷ 2 ∷ bytes) made rest) t.made
    record { taken = ReadsLine-behind 1 _ _ rest (ReadsLine-behind 2 _ _ rest t.taken); range = first _ _ t.x_ok; texts = refl }

read_takes : (bytes : List ℕ) (body : Body) (rest : List ℕ) → IsBytes bytes → read_at bytes ≡ Ok (body, rest) → Sound (1 ∷ 3 ∷ bytes) body rest
unfolding read_at
read_takes bytes body rest fits e =
    let t = three path4 index_reads key_reads b.Read bytes body rest fits e in
    subst (λ (made : Body). Sound (1 ∷ 3 ∷ bytes) made rest) t.made
    record { taken = ReadsLine-behind 1 _ _ rest (ReadsLine-behind 3 _ _ rest t.taken); range = and_from (is_step_id t.x t.y) (is_name t.z) (step_in t.x t.y t.x_ok t.y_ok) (second _ _ t.z_ok); texts = first _ _ t.z_ok }

named_write_takes : (bytes : List ℕ) (body : Body) (rest : List ℕ) → IsBytes bytes → named_write_at bytes ≡ Ok (body, rest) → Sound (1 ∷ 4 ∷ bytes) body rest
unfolding named_write_at
named_write_takes bytes body rest fits e =
    let t = four path4 index_reads word_reads key_reads (λ p i place key. b.Write p i place key None) bytes body rest fits e in
    subst (λ (made : Body). Sound (1 ∷ 4 ∷ bytes) made rest) t.made
    record { taken = ReadsLine-behind 1 _ _ rest (ReadsLine-behind 4 _ _ rest t.taken); range = and_from (is_step_id t.x t.y && is_u64 t.z && is_name t.u) true (and_from (is_step_id t.x t.y && is_u64 t.z) (is_name t.u) (and_from (is_step_id t.x t.y) (is_u64 t.z) (step_in t.x t.y t.x_ok t.y_ok) t.z_ok) (second _ _ t.u_ok)) refl; texts = and_from (is_utf8 t.u) true (first _ _ t.u_ok) refl }

inline_write_takes : (bytes : List ℕ) (body : Body) (rest : List ℕ) → IsBytes bytes → inline_write_at bytes ≡ Ok (body, rest) → Sound (2 ∷ 4 ∷ bytes) body rest
unfolding inline_write_at
inline_write_takes bytes body rest fits e =
    let t = five path4 index_reads word_reads key_reads value_reads (λ p i place key v. b.Write p i place key (Some v)) bytes body rest fits e in
    subst (λ (made : Body). Sound (2 ∷ 4 ∷ bytes) made rest) t.made
    record { taken = ReadsLine-behind 2 _ _ rest (ReadsLine-behind 4 _ _ rest t.taken); range = and_from (is_step_id t.x t.y && is_u64 t.z && is_name t.u) (is_value t.v) (and_from (is_step_id t.x t.y && is_u64 t.z) (is_name t.u) (and_from (is_step_id t.x t.y) (is_u64 t.z) (step_in t.x t.y t.x_ok t.y_ok) t.z_ok) (second _ _ t.u_ok)) (first _ _ t.v_ok); texts = and_from (is_utf8 t.u) (is_text_value t.v) (first _ _ t.u_ok) (second _ _ t.v_ok) }

spawn_takes : (bytes : List ℕ) (body : Body) (rest : List ℕ) → IsBytes bytes → spawned_at bytes ≡ Ok (body, rest) → Sound (1 ∷ 5 ∷ bytes) body rest
unfolding spawned_at
spawn_takes bytes body rest fits e =
    let t = five path3 index_reads ordinal_reads function_reads args_reads b.Spawn bytes body rest fits e in
    subst (λ (made : Body). Sound (1 ∷ 5 ∷ bytes) made rest) t.made
    record { taken = ReadsLine-behind 1 _ _ rest (ReadsLine-behind 5 _ _ rest t.taken); range = and_from (is_step_id t.x t.y && leb (length t.x) 3 && is_ordinal t.z && is_identifier t.u && is_short_list t.v) (list_all is_value t.v) (and_from (is_step_id t.x t.y && leb (length t.x) 3 && is_ordinal t.z && is_identifier t.u) (is_short_list t.v) (and_from (is_step_id t.x t.y && leb (length t.x) 3 && is_ordinal t.z) (is_identifier t.u) (and_from (is_step_id t.x t.y && leb (length t.x) 3) (is_ordinal t.z) (and_from (is_step_id t.x t.y) (leb (length t.x) 3) (step_in3 t.x t.y t.x_ok t.y_ok) (second _ _ t.x_ok)) t.z_ok) (second _ _ t.u_ok)) (args_in t.v t.v_ok).0) (args_in t.v t.v_ok).1; texts = and_from (is_utf8 t.u) (list_all is_text_value t.v) (first _ _ t.u_ok) (args_in t.v t.v_ok).2 }

join_takes : (bytes : List ℕ) (body : Body) (rest : List ℕ) → IsBytes bytes → join_at bytes ≡ Ok (body, rest) → Sound (1 ∷ 6 ∷ bytes) body rest
unfolding join_at
join_takes bytes body rest fits e =
    let t = three path4 index_reads ordinal_reads b.Join bytes body rest fits e in
    subst (λ (made : Body). Sound (1 ∷ 6 ∷ bytes) made rest) t.made
    record { taken = ReadsLine-behind 1 _ _ rest (ReadsLine-behind 6 _ _ rest t.taken); range = and_from (is_step_id t.x t.y) (is_ordinal t.z) (step_in t.x t.y t.x_ok t.y_ok) t.z_ok; texts = refl }

push_takes : (bytes : List ℕ) (body : Body) (rest : List ℕ) → IsBytes bytes → push_at bytes ≡ Ok (body, rest) → Sound (1 ∷ 7 ∷ bytes) body rest
unfolding push_at
push_takes bytes body rest fits e =
    let t = four path4 index_reads key_reads value_reads b.Push bytes body rest fits e in
    subst (λ (made : Body). Sound (1 ∷ 7 ∷ bytes) made rest) t.made
    record { taken = ReadsLine-behind 1 _ _ rest (ReadsLine-behind 7 _ _ rest t.taken); range = and_from (is_step_id t.x t.y && is_name t.z) (is_value t.u) (and_from (is_step_id t.x t.y) (is_name t.z) (step_in t.x t.y t.x_ok t.y_ok) (second _ _ t.z_ok)) (first _ _ t.u_ok); texts = and_from (is_utf8 t.z) (is_text_value t.u) (first _ _ t.z_ok) (second _ _ t.u_ok) }

pop_takes : (bytes : List ℕ) (body : Body) (rest : List ℕ) → IsBytes bytes → pop_at bytes ≡ Ok (body, rest) → Sound (1 ∷ 8 ∷ bytes) body rest
unfolding pop_at
pop_takes bytes body rest fits e =
    let t = three path4 index_reads key_reads b.Pop bytes body rest fits e in
    subst (λ (made : Body). Sound (1 ∷ 8 ∷ bytes) made rest) t.made
    record { taken = ReadsLine-behind 1 _ _ rest (ReadsLine-behind 8 _ _ rest t.taken); range = and_from (is_step_id t.x t.y) (is_name t.z) (step_in t.x t.y t.x_ok t.y_ok) (second _ _ t.z_ok); texts = first _ _ t.z_ok }

begin_takes : (bytes : List ℕ) (body : Body) (rest : List ℕ) → IsBytes bytes → begin_at bytes ≡ Ok (body, rest) → Sound (1 ∷ 9 ∷ bytes) body rest
unfolding begin_at
begin_takes bytes body rest fits e =
    let t = three path4 index_reads names_reads b.TxnBegin bytes body rest fits e in
    subst (λ (made : Body). Sound (1 ∷ 9 ∷ bytes) made rest) t.made
    record { taken = ReadsLine-behind 1 _ _ rest (ReadsLine-behind 9 _ _ rest t.taken); range = and_from (is_step_id t.x t.y) (are_names t.z) (step_in t.x t.y t.x_ok t.y_ok) (names_in t.z t.z_ok).0; texts = (names_in t.z t.z_ok).1 }

commit_takes : (bytes : List ℕ) (body : Body) (rest : List ℕ) → IsBytes bytes → commit_at bytes ≡ Ok (body, rest) → Sound (1 ∷ 10 ∷ bytes) body rest
unfolding commit_at
commit_takes bytes body rest fits e =
    let t = five path4 index_reads word_reads names_reads writes_reads b.TxnCommit bytes body rest fits e in
    subst (λ (made : Body). Sound (1 ∷ 10 ∷ bytes) made rest) t.made
    record { taken = ReadsLine-behind 1 _ _ rest (ReadsLine-behind 10 _ _ rest t.taken); range = and_from (is_step_id t.x t.y && is_u64 t.z && are_names t.u && is_short_list t.v) (list_all plain_write t.v) (and_from (is_step_id t.x t.y && is_u64 t.z && are_names t.u) (is_short_list t.v) (and_from (is_step_id t.x t.y && is_u64 t.z) (are_names t.u) (and_from (is_step_id t.x t.y) (is_u64 t.z) (step_in t.x t.y t.x_ok t.y_ok) t.z_ok) (names_in t.u t.u_ok).0) (writes_in t.v t.v_ok).0) (writes_in t.v t.v_ok).1; texts = and_from (list_all is_utf8 t.u) (list_all is_text_write t.v) (names_in t.u t.u_ok).1 (writes_in t.v t.v_ok).2 }

finish_takes : (bytes : List ℕ) (body : Body) (rest : List ℕ) → IsBytes bytes → finish_at bytes ≡ Ok (body, rest) → Sound (1 ∷ 11 ∷ bytes) body rest
unfolding finish_at
finish_takes bytes body rest fits e =
    let t = three path4 index_reads outcome_reads b.Finish bytes body rest fits e in
    subst (λ (made : Body). Sound (1 ∷ 11 ∷ bytes) made rest) t.made
    record { taken = ReadsLine-behind 1 _ _ rest (ReadsLine-behind 11 _ _ rest t.taken); range = and_from (is_step_id t.x t.y) (is_outcome t.z) (step_in t.x t.y t.x_ok t.y_ok) (first _ _ t.z_ok); texts = second _ _ t.z_ok }

switch_takes : (bytes : List ℕ) (body : Body) (rest : List ℕ) → IsBytes bytes → switch_at bytes ≡ Ok (body, rest) → Sound (1 ∷ 12 ∷ bytes) body rest
unfolding switch_at
switch_takes bytes body rest fits e =
    let t = one target_reads b.SwitchBegin bytes body rest fits e in
    subst (λ (made : Body). Sound (1 ∷ 12 ∷ bytes) made rest) t.made
    record { taken = ReadsLine-behind 1 _ _ rest (ReadsLine-behind 12 _ _ rest t.taken); range = t.x_ok; texts = refl }

trim_takes : (bytes : List ℕ) (body : Body) (rest : List ℕ) → IsBytes bytes → trim_at bytes ≡ Ok (body, rest) → Sound (1 ∷ 14 ∷ bytes) body rest
unfolding trim_at
trim_takes bytes body rest fits e =
    let t = one word_reads b.Trim bytes body rest fits e in
    subst (λ (made : Body). Sound (1 ∷ 14 ∷ bytes) made rest) t.made
    record { taken = ReadsLine-behind 1 _ _ rest (ReadsLine-behind 14 _ _ rest t.taken); range = t.x_ok; texts = refl }

trim_tag_takes : (bytes : List ℕ) (body : Body) (rest : List ℕ) → IsBytes bytes → trim_tag_at bytes ≡ Ok (body, rest) → Sound (1 ∷ 15 ∷ bytes) body rest
unfolding trim_tag_at
trim_tag_takes bytes body rest fits e =
    let t = two tag_reads word_reads b.TrimTag bytes body rest fits e in
    subst (λ (made : Body). Sound (1 ∷ 15 ∷ bytes) made rest) t.made
    record { taken = ReadsLine-behind 1 _ _ rest (ReadsLine-behind 15 _ _ rest t.taken); range = and_from (ltb t.x (2 ^ 56)) (is_u64 t.y) t.x_ok t.y_ok; texts = refl }

group_takes : (bytes : List ℕ) (body : Body) (rest : List ℕ) → IsBytes bytes → group_at bytes ≡ Ok (body, rest) → Sound (2 ∷ 17 ∷ bytes) body rest
unfolding group_at
group_takes bytes body rest fits e =
    let t = three path4 index_reads names_reads b.ReadGroup bytes body rest fits e in
    subst (λ (made : Body). Sound (2 ∷ 17 ∷ bytes) made rest) t.made
    record { taken = ReadsLine-behind 2 _ _ rest (ReadsLine-behind 17 _ _ rest t.taken); range = and_from (is_step_id t.x t.y) (are_names t.z) (step_in t.x t.y t.x_ok t.y_ok) (names_in t.z t.z_ok).0; texts = (names_in t.z t.z_ok).1 }

-- a part of bytes is of bytes
IsBytes-part : (front t rest : List ℕ) → IsBytes ((front ++ t) ++ rest) → IsBytes t
IsBytes-part front t rest h =
    let whole : IsBytes (front ++ (t ++ rest)) = subst IsBytes (append_assoc front t rest) h in
    let behind : IsBytes (t ++ rest) = subst IsBytes (drop_at front (t ++ rest) (length front) refl) (IsBytes-drop (length front) (front ++ (t ++ rest)) whole) in
    subst IsBytes (take_at t rest (length t) refl) (IsBytes-take (length t) (t ++ rest) behind)

abbrev pub is_piece : List ℕ → Bool
is_piece t = leb (length t) 4092

pub piece_reads : Reads (List ℕ) text is_piece (text_at is_piece)
piece_reads = text_reads is_piece (λ t h. let le : length t ≤ 4092 = leb-true (length t) 4092 h in omega arith)

user_takes : (bytes : List ℕ) (body : Body) (rest : List ℕ) → IsBytes bytes → user_at bytes ≡ Ok (body, rest) → Sound (1 ∷ 16 ∷ bytes) body rest
unfolding user_at
user_takes bytes body rest fits e =
    let t = one piece_reads b.User bytes body rest fits e in
    let each : list_all (λ c. ltb c 256) t.x ≡ true = all_bytes t.x (IsBytes-part (to_be_bytes w16 (length t.x)) t.x rest (subst IsBytes t.taken.parts fits)) in
    subst (λ (made : Body). Sound (1 ∷ 16 ∷ bytes) made rest) t.made
    record { taken = ReadsLine-behind 1 _ _ rest (ReadsLine-behind 16 _ _ rest t.taken); range = each; texts = refl }

switch_end_takes : (bytes : List ℕ) (body : Body) (rest : List ℕ) → IsBytes bytes → done {A = Body × List ℕ} (b.SwitchEnd, bytes) ≡ Ok (body, rest) → Sound (1 ∷ 13 ∷ bytes) body rest
switch_end_takes bytes body rest fits e =
    let made : Body × List ℕ = (b.SwitchEnd, bytes) in
    subst (λ (x : Body × List ℕ). Sound (1 ∷ 13 ∷ bytes) x.0 x.1) (ok_is made (body, rest) e) (record { taken = record { parts = refl; rest_fits = fits }; range = refl; texts = refl })

plain_takes : (bytes : List ℕ) (body : Body) (rest : List ℕ) → IsBytes bytes → format1_at bytes ≡ Ok (body, rest) → Sound (1 ∷ bytes) body rest
unfolding format1_at
plain_takes [] body rest fits e = absurd cc
plain_takes (k ∷ bytes) body rest fits e =
    let fit = IsBytes-rest k bytes fits in
    let is : (n : ℕ) → eqb k n ≡ true → Sound (1 ∷ n ∷ bytes) body rest → Sound (1 ∷ k ∷ bytes) body rest = λ n same sound. subst (λ (m : ℕ). Sound (1 ∷ m ∷ bytes) body rest) (sym (eqb-true k n same)) sound in
    elim (chosen (eqb k 1) (submit_at bytes) _ (Ok (body, rest)) e) [
      | inl h ↦ is 1 h.0 (submit_takes bytes body rest fit h.1)
      | inr h1 ↦
          elim (chosen (eqb k 2) (init_at bytes) _ (Ok (body, rest)) h1.1) [
            | inl h ↦ is 2 h.0 (init_takes bytes body rest fit h.1)
            | inr h2 ↦
                elim (chosen (eqb k 3) (read_at bytes) _ (Ok (body, rest)) h2.1) [
                  | inl h ↦ is 3 h.0 (read_takes bytes body rest fit h.1)
                  | inr h3 ↦
                      elim (chosen (eqb k 4) (named_write_at bytes) _ (Ok (body, rest)) h3.1) [
                        | inl h ↦ is 4 h.0 (named_write_takes bytes body rest fit h.1)
                        | inr h4 ↦
                            elim (chosen (eqb k 5) (spawned_at bytes) _ (Ok (body, rest)) h4.1) [
                              | inl h ↦ is 5 h.0 (spawn_takes bytes body rest fit h.1)
                              | inr h5 ↦
                                  elim (chosen (eqb k 6) (join_at bytes) _ (Ok (body, rest)) h5.1) [
                                    | inl h ↦ is 6 h.0 (join_takes bytes body rest fit h.1)
                                    | inr h6 ↦
                                        elim (chosen (eqb k 7) (push_at bytes) _ (Ok (body, rest)) h6.1) [
                                          | inl h ↦ is 7 h.0 (push_takes bytes body rest fit h.1)
                                          | inr h7 ↦
                                              elim (chosen (eqb k 8) (pop_at bytes) _ (Ok (body, rest)) h7.1) [
                                                | inl h ↦ is 8 h.0 (pop_takes bytes body rest fit h.1)
                                                | inr h8 ↦
                                                    elim (chosen (eqb k 9) (begin_at bytes) _ (Ok (body, rest)) h8.1) [
                                                      | inl h ↦ is 9 h.0 (begin_takes bytes body rest fit h.1)
                                                      | inr h9 ↦
                                                          elim (chosen (eqb k 10) (commit_at bytes) _ (Ok (body, rest)) h9.1) [
                                                            | inl h ↦ is 10 h.0 (commit_takes bytes body rest fit h.1)
                                                            | inr h10 ↦
                                                                elim (chosen (eqb k 11) (finish_at bytes) _ (Ok (body, rest)) h10.1) [
                                                                  | inl h ↦ is 11 h.0 (finish_takes bytes body rest fit h.1)
                                                                  | inr h11 ↦
                                                                      elim (chosen (eqb k 12) (switch_at bytes) _ (Ok (body, rest)) h11.1) [
                                                                        | inl h ↦ is 12 h.0 (switch_takes bytes body rest fit h.1)
                                                                        | inr h12 ↦
                                                                            elim (chosen (eqb k 13) (Ok (b.SwitchEnd, bytes)) _ (Ok (body, rest)) h12.1) [
                                                                              | inl h ↦ is 13 h.0 (switch_end_takes bytes body rest fit h.1)
                                                                              | inr h13 ↦
                                                                                  elim (chosen (eqb k 14) (trim_at bytes) _ (Ok (body, rest)) h13.1) [
                                                                                    | inl h ↦ is 14 h.0 (trim_takes bytes body rest fit h.1)
                                                                                    | inr h14 ↦
                                                                                        elim (chosen (eqb k 15) (trim_tag_at bytes) _ (Ok (body, rest)) h14.1) [
                                                                                          | inl h ↦ is 15 h.0 (trim_tag_takes bytes body rest fit h.1)
                                                                                          | inr h15 ↦
                                                                                              elim (chosen (eqb k 16) (user_at bytes) _ (Ok (body, rest)) h15.1) [
                                                                                                | inl h ↦ is 16 h.0 (user_takes bytes body rest fit h.1)
                                                                                                | inr h16 ↦
                                                                                                    absurd cc
                                                                                              ]
                                                                                        ]
                                                                                  ]
                                                                            ]
                                                                      ]
                                                                ]
                                                          ]
                                                    ]
                                              ]
                                        ]
                                  ]
                            ]
                      ]
                ]
          ]
    ]

later_takes : (bytes : List ℕ) (body : Body) (rest : List ℕ) → IsBytes bytes → format2_at bytes ≡ Ok (body, rest) → Sound (2 ∷ bytes) body rest
unfolding format2_at
later_takes [] body rest fits e = absurd cc
later_takes (k ∷ bytes) body rest fits e =
    let fit = IsBytes-rest k bytes fits in
    let is : (n : ℕ) → eqb k n ≡ true → Sound (2 ∷ n ∷ bytes) body rest → Sound (2 ∷ k ∷ bytes) body rest = λ n same sound. subst (λ (m : ℕ). Sound (2 ∷ m ∷ bytes) body rest) (sym (eqb-true k n same)) sound in
    elim (chosen (eqb k 4) (inline_write_at bytes) _ (Ok (body, rest)) e) [
      | inl h ↦ is 4 h.0 (inline_write_takes bytes body rest fit h.1)
      | inr h4 ↦
          elim (chosen (eqb k 17) (group_at bytes) _ (Ok (body, rest)) h4.1) [ inl h ↦ is 17 h.0 (group_takes bytes body rest fit h.1) | inr h17 ↦ absurd cc ]
    ]

-- what is read is sound
pub body_takes : (bytes : List ℕ) (body : Body) (rest : List ℕ) → IsBytes bytes → body_at bytes ≡ Ok (body, rest) → Sound bytes body rest
unfolding body_at
body_takes [] body rest fits e = absurd cc
body_takes (f ∷ bytes) body rest fits e =
    let fit = IsBytes-rest f bytes fits in
    let is : (n : ℕ) → eqb f n ≡ true → Sound (n ∷ bytes) body rest → Sound (f ∷ bytes) body rest = λ n same sound. subst (λ (m : ℕ). Sound (m ∷ bytes) body rest) (sym (eqb-true f n same)) sound in
    elim (chosen (eqb f 1) (format1_at bytes) _ (Ok (body, rest)) e) [
      | inl h ↦ is 1 h.0 (plain_takes bytes body rest fit h.1)
      | inr h1 ↦
          elim (chosen (eqb f 2) (format2_at bytes) _ (Ok (body, rest)) h1.1) [ inl h ↦ is 2 h.0 (later_takes bytes body rest fit h.1) | inr h2 ↦ absurd cc ]
    ]

-- the whole is one body
whole_ok : (total : ℕ) (r : Result (Body × List ℕ) ℕ) (body : Body) → whole total r ≡ Ok body → r ≡ Ok (body, [])
whole_ok total (Ok (found, [])) body e = cc
whole_ok total (Ok (found, c ∷ rest)) body e = absurd cc
whole_ok total (Err left) body e = absurd cc

pub read_takes_all : (bytes : List ℕ) (body : Body) → IsBytes bytes → read bytes ≡ Ok body → (in_range body ≡ true) × (has_texts body ≡ true) × (bytes ≡ spelled body)
read_takes_all bytes body fits e =
    let sound = body_takes bytes body [] fits (whole_ok (length bytes) (body_at bytes) body e) in
    (sound.range, sound.texts, sound.taken.parts ∙ append-nil (spelled body))
