-- The laws of the elements of records: numbers in range, names, paths, values.
use Rattle.std.proofs.Common.{◌≡◌, ℕ, zero, suc, ◌+◌, ◌-◌, ◌^◌, ◌<◌, ◌≤◌, Bool, true, false, ◌&&◌, ◌⊎◌, not, cond, eqb, ltb, leb, List, [], ◌∷◌, ◌++◌, length, get_or, Option, Some, None, Result, Ok, Err, refl, sym, ap, subst, ◌∙◌, append_assoc, arith, inl, inr}
use Rattle.std.specs.Prelude.{ℤ, pos, negsuc, bytes_eq}
use Rattle.std.specs.Int.{Width, w32, w64, to_be_bytes, cast_signed, cast_unsigned}
use Rattle.std.specs.List.{flat_map, list_all, list_any}
use Rattle.std.specs.Str.{is_utf8}
use Rattle.std.proofs.lemmas.Bool.{ltb-true, ltb-false, lt-ltb, leb-true, le-leb, and_parts, and_from, eqb-true}
use Rattle.std.proofs.lemmas.Int.{of_z-to_z, to_z-of_z}
use Rattle.std.proofs.lemmas.List.Concat.{flat_map-cons}
use mir.Val.{SFits, sel}
use Rattle.lb_base.specs.declared.value.Value.{Value}
use Rattle.lb_base.specs.declared.value.Value.TheVariants.{Int, Text, Nothing}
use Rattle.lb_base.specs.declared.value.Mode.{Mode}
use Rattle.lb_base.specs.declared.value.Mode.TheVariants.{R, W, T}
use Rattle.lb_base.specs.declared.value.TrapKind.{TrapKind}
use Rattle.lb_base.specs.declared.value.TrapKind.TheVariants as trap
use Rattle.lb_base.specs.declared.value.Outcome.{Outcome}
use Rattle.lb_base.specs.declared.value.Outcome.TheVariants.{Good, Trap}
use Rattle.lb_base.specs.Path.{is_request, is_ordinal, are_ordinals, is_path}
use Rattle.boki_model.specs.Bodies.{is_u64, is_i64, is_value, is_name, is_identifier, has_identifier_characters, reserved_words, is_outcome, is_target}
use Rattle.rec_codec.specs.Spelling.{word, text, path, value, outcome, trap_number, mode_number, write, is_text_value, is_text_outcome, is_text_write}
use Rattle.rec_codec.specs.Reading.{Reader, ◌>>=◌, word_at, number_at, index_at, ordinal_at, tag_at, text_at, is_text, is_key, is_function, count_at, many_at, request_at, spawn_at, path_at, value_at, found_or_left, trap_of, trap_at, outcome_at, target_of, target_at, write_at}
use Rattle.rec_codec.proofs.Fields.{IsBytes, IsBytes-rest, bind_ok, ok_is, Takes, ReadsLine-then, ReadsLine-behind, Reads, ReadsOn-by, ReadsOn-kept, wide32, wide64, number_reads, count_reads, text_reads, many_takes, many_again}

-- ---- numbers in range

pub word_reads : Reads ℕ word is_u64 word_at
word_reads = number_reads w64 (2 ^ 64) wide64

abbrev pub is_index : ℕ → Bool
is_index n = leb 1 n && is_u64 n

pub index_reads : Reads ℕ word is_index index_at
unfolding index_at
index_reads =
    ReadsOn-by is_index (ReadsOn-kept (λ n. leb 1 n) word_reads)
    (λ n h. let p = and_parts (is_u64 n) (leb 1 n) h in and_from (leb 1 n) (is_u64 n) p.1 p.0)
    (λ n h. let p = and_parts (leb 1 n) (is_u64 n) h in and_from (is_u64 n) (leb 1 n) p.1 p.0)

-- a number below a limit that is a word
kept_below : (p : ℕ → Bool) → ((n : ℕ) → p n ≡ true → n < 2 ^ 64) → (n : ℕ) → p n ≡ true → (is_u64 n && p n) ≡ true
kept_below p small n h = and_from (is_u64 n) (p n) (lt-ltb n (2 ^ 64) (small n h)) h

small_ordinal : (n : ℕ) → is_ordinal n ≡ true → n < 2 ^ 64
small_ordinal n h = let p = and_parts (ltb 0 n) (ltb n 4096) h in let lt : n < 4096 = ltb-true n 4096 p.1 in omega arith

pub ordinal_reads : Reads ℕ word is_ordinal ordinal_at
unfolding ordinal_at
ordinal_reads = ReadsOn-by is_ordinal (ReadsOn-kept is_ordinal word_reads) (λ n h. (and_parts (is_u64 n) (is_ordinal n) h).1) (kept_below is_ordinal small_ordinal)

abbrev pub is_user_tag : ℕ → Bool
is_user_tag n = ltb n (2 ^ 56)

small_tag : (n : ℕ) → is_user_tag n ≡ true → n < 2 ^ 64
small_tag n h = let lt : n < 2 ^ 56 = ltb-true n (2 ^ 56) h in omega arith

pub tag_reads : Reads ℕ word is_user_tag tag_at
unfolding tag_at
tag_reads = ReadsOn-by is_user_tag (ReadsOn-kept is_user_tag word_reads) (λ n h. (and_parts (is_u64 n) (is_user_tag n) h).1) (kept_below is_user_tag small_tag)

-- ---- texts

pub plain_text_reads : Reads (List ℕ) text is_text (text_at is_text)
plain_text_reads = text_reads is_text (λ t h. let le : length t ≤ 256 = leb-true (length t) 256 (and_parts (is_utf8 t) (leb (length t) 256) h).1 in omega arith)

pub key_reads : Reads (List ℕ) text is_key (text_at is_key)
key_reads = text_reads is_key (λ t h. let le : length t ≤ 64 = leb-true (length t) 64 (and_parts (leb 1 (length t)) (leb (length t) 64) (and_parts (is_utf8 t) (is_name t) h).1).1 in omega arith)

pub function_reads : Reads (List ℕ) text is_function (text_at is_function)
function_reads = text_reads is_function (λ t h.
    let named = (and_parts (is_utf8 t) (is_identifier t) h).1 in
    let front = (and_parts (has_identifier_characters t && leb (length t) 32) (not (list_any (bytes_eq t) reserved_words)) named).0 in
    let le : length t ≤ 32 = leb-true (length t) 32 (and_parts (has_identifier_characters t) (leb (length t) 32) front).1 in omega arith)

-- ---- paths

small_part : (p : ℕ → Bool) → ((n : ℕ) → p n ≡ true → n < 2 ^ 32) → (n : ℕ) → p n ≡ true → (ltb n (2 ^ 32) && p n) ≡ true
small_part p small n h = and_from (ltb n (2 ^ 32)) (p n) (lt-ltb n (2 ^ 32) (small n h)) h

request_reads : Reads ℕ (to_be_bytes w32) is_request request_at
unfolding request_at
request_reads = ReadsOn-by is_request (ReadsOn-kept is_request (number_reads w32 (2 ^ 32) wide32)) (λ n h. (and_parts (ltb n (2 ^ 32)) (is_request n) h).1)
    (small_part is_request (λ n h. let lt : n < 1048576 = ltb-true n 1048576 (and_parts (ltb 0 n) (ltb n 1048576) h).1 in omega arith))

spawn_reads : Reads ℕ (to_be_bytes w32) is_ordinal spawn_at
unfolding spawn_at
spawn_reads = ReadsOn-by is_ordinal (ReadsOn-kept is_ordinal (number_reads w32 (2 ^ 32) wide32)) (λ n h. (and_parts (ltb n (2 ^ 32)) (is_ordinal n) h).1)
    (small_part is_ordinal (λ n h. let lt : n < 4096 = ltb-true n 4096 (and_parts (ltb 0 n) (ltb n 4096) h).1 in omega arith))

ordinals_are : (ns : List ℕ) → are_ordinals ns ≡ list_all is_ordinal ns
ordinals_are [] = refl
ordinals_are (n ∷ ns) = ap (λ (b : Bool). is_ordinal n && b) (ordinals_are ns)

abbrev pub path_of : ℕ → List ℕ → Bool
path_of most p = is_path p && leb (length p) most

path_takes : (most : ℕ) → most ≤ 4 → (bytes p rest : List ℕ) → IsBytes bytes → path_at most bytes ≡ Ok (p, rest) → Takes bytes (path p) rest × (path_of most p ≡ true)
unfolding path_at
path_takes most le bytes p rest is_i64 e =
    let a = bind_ok (count_at 1 most bytes) (λ n. request_at n.1 >>= λ request. many_at spawn_at (n.0 - 1) request.1 >>= λ spawns. Ok (request.0 ∷ spawns.0, spawns.1)) (p, rest) e in
    let b = bind_ok (request_at a.0.1) (λ request. many_at spawn_at (a.0.0 - 1) request.1 >>= λ spawns. Ok (request.0 ∷ spawns.0, spawns.1)) (p, rest) a.2 in
    let c = bind_ok (many_at spawn_at (a.0.0 - 1) b.0.1) (λ spawns. Ok (b.0.0 ∷ spawns.0, spawns.1)) (p, rest) b.2 in
    let t0 = (count_reads 1 most).takes bytes a.0.0 a.0.1 is_i64 a.1 in
    let t1 = request_reads.takes a.0.1 b.0.0 b.0.1 t0.0.rest_fits b.1 in
    let t2 = many_takes spawn_reads (a.0.0 - 1) b.0.1 c.0.0 c.0.1 t1.0.rest_fits c.1 in
    let bounds = and_parts (leb 1 a.0.0) (leb a.0.0 most) t0.1 in
    let low : 1 ≤ a.0.0 = leb-true 1 a.0.0 bounds.0 in
    let high : a.0.0 ≤ most = leb-true a.0.0 most bounds.1 in
    let len : suc (length c.0.0) ≡ a.0.0 = omega (arith, t2.1) in
    let e12 = ReadsLine-then a.0.1 (to_be_bytes w32 b.0.0) b.0.1 (flat_map (to_be_bytes w32) c.0.0) c.0.1 t1.0 t2.0 in
    let e02 = ReadsLine-then bytes (a.0.0 ∷ []) a.0.1 (to_be_bytes w32 b.0.0 ++ flat_map (to_be_bytes w32) c.0.0) c.0.1 t0.0 e12 in
    let spelled_numbers : to_be_bytes w32 b.0.0 ++ flat_map (to_be_bytes w32) c.0.0 ≡ flat_map (to_be_bytes w32) (b.0.0 ∷ c.0.0) = sym (flat_map-cons (to_be_bytes w32) b.0.0 c.0.0) in
    let named = subst (λ (t : List ℕ). Takes bytes (a.0.0 ∷ t) c.0.1) spelled_numbers e02 in
    let whole = subst (λ (k : ℕ). Takes bytes (k ∷ flat_map (to_be_bytes w32) (b.0.0 ∷ c.0.0)) c.0.1) (sym len) named in
    let ordinals : are_ordinals c.0.0 ≡ true = ordinals_are c.0.0 ∙ t2.2 in
    let short : ltb (length c.0.0) 4 ≡ true = lt-ltb (length c.0.0) 4 (omega (arith, len)) in
    let is : is_path (b.0.0 ∷ c.0.0) ≡ true = and_from (is_request b.0.0 && are_ordinals c.0.0) (ltb (length c.0.0) 4) (and_from (is_request b.0.0) (are_ordinals c.0.0) t1.1 ordinals) short in
    let within : leb (suc (length c.0.0)) most ≡ true = le-leb (suc (length c.0.0)) most (omega (arith, len)) in
    let made : List ℕ × List ℕ = (b.0.0 ∷ c.0.0, c.0.1) in
    subst (λ (y : List ℕ × List ℕ). Takes bytes (path y.0) y.1 × (path_of most y.0 ≡ true)) (ok_is made (p, rest) c.2) (whole, and_from (is_path (b.0.0 ∷ c.0.0)) (leb (suc (length c.0.0)) most) is within)

path_again : (most : ℕ) (p rest : List ℕ) → path_of most p ≡ true → path_at most (path p ++ rest) ≡ Ok (p, rest)
unfolding path_at
path_again most [] rest h = absurd cc
path_again most (n ∷ ns) rest h =
    let both = and_parts (is_path (n ∷ ns)) (leb (suc (length ns)) most) h in
    let front = and_parts (is_request n && are_ordinals ns) (ltb (length ns) 4) both.0 in
    let parts = and_parts (is_request n) (are_ordinals ns) front.0 in
    let counted : (leb 1 (suc (length ns)) && leb (suc (length ns)) most) ≡ true = and_from (leb 1 (suc (length ns))) (leb (suc (length ns)) most) (le-leb 1 (suc (length ns)) (omega arith)) both.1 in
    let regrouped : flat_map (to_be_bytes w32) (n ∷ ns) ++ rest ≡ to_be_bytes w32 n ++ (flat_map (to_be_bytes w32) ns ++ rest) = ap (λ (t : List ℕ). t ++ rest) (flat_map-cons (to_be_bytes w32) n ns) ∙ append_assoc (to_be_bytes w32 n) (flat_map (to_be_bytes w32) ns) rest in
    let less : suc (length ns) - 1 ≡ length ns = omega arith in
    let ordinals : list_all is_ordinal ns ≡ true = sym (ordinals_are ns) ∙ parts.1 in
    let first = request_reads.again n (flat_map (to_be_bytes w32) ns ++ rest) parts.0 in
    let others = many_again spawn_reads ns rest ordinals in
    ap (λ (t : List ℕ). path_at most (suc (length ns) ∷ t)) regrouped
    ∙ ap (λ (r : Result (ℕ × List ℕ) ℕ). r >>= λ k. request_at k.1 >>= λ request. many_at spawn_at (k.0 - 1) request.1 >>= λ spawns. Ok (request.0 ∷ spawns.0, spawns.1)) ((count_reads 1 most).again (suc (length ns)) (to_be_bytes w32 n ++ (flat_map (to_be_bytes w32) ns ++ rest)) counted)
    ∙ ap (λ (r : Result (ℕ × List ℕ) ℕ). r >>= λ request. many_at spawn_at (suc (length ns) - 1) request.1 >>= λ spawns. Ok (request.0 ∷ spawns.0, spawns.1)) first
    ∙ ap (λ (k : ℕ). many_at spawn_at k (flat_map (to_be_bytes w32) ns ++ rest) >>= λ spawns. Ok (n ∷ spawns.0, spawns.1)) less
    ∙ ap (λ (r : Result (List ℕ × List ℕ) ℕ). r >>= λ spawns. Ok (n ∷ spawns.0, spawns.1)) others

pub path_reads : (most : ℕ) → most ≤ 4 → Reads (List ℕ) path (path_of most) (path_at most)
path_reads most le = record { takes = path_takes most le; again = path_again most }

-- ---- values

-- the bits of an integer, both ways
signed_fits : (z : ℤ) → is_i64 z ≡ true → SFits w64 z
signed_fits (pos n) h = record { sfits = ltb-true n (2 ^ 63) h }
signed_fits (negsuc n) h = let le : n ≤ 2 ^ 63 - 1 = leb-true n (2 ^ 63 - 1) (and_parts (leb n (2 ^ 63 - 1)) true h).0 in record { sfits = omega arith }

bits_below : (z : ℤ) → is_i64 z ≡ true → cast_unsigned w64 z < 2 ^ 64
bits_below (pos n) h = let lt : n < 2 ^ 63 = ltb-true n (2 ^ 63) h in omega arith
bits_below (negsuc n) h = omega arith

fits_from : (n : ℕ) (b : Bool) → ltb n (2 ^ 63) ≡ b → n < 2 ^ 64 → is_i64 (sel b (pos n) (negsuc (2 ^ 64 - suc n))) ≡ true
fits_from n true e lt = e
fits_from n false e lt = and_from (leb (2 ^ 64 - suc n) (2 ^ 63 - 1)) true (le-leb (2 ^ 64 - suc n) (2 ^ 63 - 1) (let le : 2 ^ 63 ≤ n = ltb-false n (2 ^ 63) e in omega arith)) refl

abbrev pub value_ok : Value → Bool
value_ok v = is_value v && is_text_value v

value_takes : (bytes : List ℕ) (v : Value) (rest : List ℕ) → IsBytes bytes → value_at bytes ≡ Ok (v, rest) → Takes bytes (value v) rest × (value_ok v ≡ true)
unfolding value_at
value_takes [] v rest fit e = absurd cc
value_takes (zero ∷ bytes) v rest fit e =
    subst (λ (x : Value × List ℕ). Takes (0 ∷ bytes) (value x.0) x.1 × (value_ok x.0 ≡ true)) (ok_is (Nothing, bytes) (v, rest) e) (record { parts = refl; rest_fits = IsBytes-rest 0 bytes fit }, refl)
value_takes (suc zero ∷ bytes) v rest fit e =
    let b = bind_ok (word_at bytes) (λ n. Ok (Int (cast_signed w64 n.0), n.1)) (v, rest) e in
    let t = word_reads.takes bytes b.0.0 b.0.1 (IsBytes-rest 1 bytes fit) b.1 in
    let lt : b.0.0 < 2 ^ 64 = ltb-true b.0.0 (2 ^ 64) t.1 in
    let back : cast_unsigned w64 (cast_signed w64 b.0.0) ≡ b.0.0 = of_z-to_z w64 b.0.0 lt in
    let named = subst (λ (k : ℕ). Takes bytes (word k) b.0.1) (sym back) t.0 in
    let made : Value × List ℕ = (Int (cast_signed w64 b.0.0), b.0.1) in
    subst (λ (x : Value × List ℕ). Takes (1 ∷ bytes) (value x.0) x.1 × (value_ok x.0 ≡ true)) (ok_is made (v, rest) b.2)
    (ReadsLine-behind 1 bytes (word (cast_unsigned w64 (cast_signed w64 b.0.0))) b.0.1 named, and_from (is_i64 (cast_signed w64 b.0.0)) true (fits_from b.0.0 (ltb b.0.0 (2 ^ 63)) refl lt) refl)
value_takes (suc (suc zero) ∷ bytes) v rest fit e =
    let b = bind_ok (text_at is_text bytes) (λ t. Ok (Text t.0, t.1)) (v, rest) e in
    let t = plain_text_reads.takes bytes b.0.0 b.0.1 (IsBytes-rest 2 bytes fit) b.1 in
    let p = and_parts (is_utf8 b.0.0) (leb (length b.0.0) 256) t.1 in
    let made : Value × List ℕ = (Text b.0.0, b.0.1) in
    subst (λ (x : Value × List ℕ). Takes (2 ∷ bytes) (value x.0) x.1 × (value_ok x.0 ≡ true)) (ok_is made (v, rest) b.2)
    (ReadsLine-behind 2 bytes (text b.0.0) b.0.1 t.0, and_from (leb (length b.0.0) 256) (is_utf8 b.0.0) p.1 p.0)
value_takes (suc (suc (suc c)) ∷ bytes) v rest fit e = absurd cc

value_again : (v : Value) (rest : List ℕ) → value_ok v ≡ true → value_at (value v ++ rest) ≡ Ok (v, rest)
unfolding value_at
value_again Nothing rest h = refl
value_again (Int z) rest h =
    let fit = (and_parts (is_i64 z) true h).0 in
    let again : word_at (word (cast_unsigned w64 z) ++ rest) ≡ Ok (cast_unsigned w64 z, rest) = word_reads.again (cast_unsigned w64 z) rest (lt-ltb (cast_unsigned w64 z) (2 ^ 64) (bits_below z fit)) in
    ap (λ (r : Result (ℕ × List ℕ) ℕ). r >>= λ n. Ok (Int (cast_signed w64 n.0), n.1)) again
    ∙ ap (λ (x : ℤ). Ok (Int x, rest)) (to_z-of_z w64 z (signed_fits z fit))
value_again (Text t) rest h =
    let p = and_parts (leb (length t) 256) (is_utf8 t) h in
    ap (λ (r : Result (List ℕ × List ℕ) ℕ). r >>= λ x. Ok (Text x.0, x.1)) (plain_text_reads.again t rest (and_from (is_utf8 t) (leb (length t) 256) p.1 p.0))

pub value_reads : Reads Value value value_ok value_at
value_reads = record { takes = value_takes; again = value_again }

-- ---- numbers that stand for something

-- the cases of a test
pub chosen : {A : Type 0} (b : Bool) (x y z : A) → cond b x y ≡ z → ((b ≡ true) × (x ≡ z)) ⊎ ((b ≡ false) × (y ≡ z))
chosen true x y z e = inl (refl, e)
chosen false x y z e = inr (refl, e)

known_ok : {A : Type 0} (left : ℕ) (o : Option A) (bytes : List ℕ) (x : A) (rest : List ℕ) → found_or_left left o bytes ≡ Ok (x, rest) → (o ≡ Some x) × (bytes ≡ rest)
known_ok left None bytes x rest e = absurd cc
known_ok {A} left (Some y) bytes x rest e =
    let g = ok_is (y, bytes) (x, rest) e in
    (ap (λ (p : A × List ℕ). Some p.0) g, ap (λ (p : A × List ℕ). p.1) g)

-- a byte that stands for a variant is that variant's
target_number : (n : ℕ) (mode : Mode) → target_of n ≡ Some mode → (mode_number mode ≡ n) × (is_target mode ≡ true)
target_number n mode e =
    elim (chosen (eqb n 1) (Some R) (cond (eqb n 2) (Some W) None) (Some mode) e) [
      | inl h ↦ let is : R ≡ mode = cc in subst (λ (m : Mode). (mode_number m ≡ n) × (is_target m ≡ true)) is (sym (eqb-true n 1 h.0), refl)
      | inr h ↦ elim (chosen (eqb n 2) (Some W) None (Some mode) h.1) [
        | inl k ↦ let is : W ≡ mode = cc in subst (λ (m : Mode). (mode_number m ≡ n) × (is_target m ≡ true)) is (sym (eqb-true n 2 k.0), refl)
        | inr k ↦ absurd cc
      ]
    ]

target_takes : (bytes : List ℕ) (mode : Mode) (rest : List ℕ) → IsBytes bytes → target_at bytes ≡ Ok (mode, rest) → Takes bytes (mode_number mode ∷ []) rest × (is_target mode ≡ true)
unfolding target_at
target_takes [] mode rest fit e = absurd cc
target_takes (c ∷ bytes) mode rest fit e =
    let k = known_ok (suc (length bytes)) (target_of c) bytes mode rest e in
    let n = target_number c mode k.0 in
    (record { parts = ap (λ (t : List ℕ). c ∷ t) k.1 ∙ ap (λ (m : ℕ). m ∷ rest) (sym n.0); rest_fits = subst IsBytes k.1 (IsBytes-rest c bytes fit) }, n.1)

target_again : (mode : Mode) (rest : List ℕ) → is_target mode ≡ true → target_at (mode_number mode ∷ rest) ≡ Ok (mode, rest)
unfolding target_at
target_again R rest h = refl
target_again W rest h = refl
target_again T rest h = absurd cc

pub target_reads : Reads Mode (λ mode. mode_number mode ∷ []) is_target target_at
target_reads = record { takes = target_takes; again = target_again }

-- a number that stands for a trap is that trap's
trap_number_of : (n : ℕ) (kind : TrapKind) → trap_of n ≡ Some kind → trap_number kind ≡ n
trap_number_of n kind e =
    let at : (k : ℕ) (t : TrapKind) → trap_number t ≡ k → eqb n k ≡ true → Some t ≡ Some kind → trap_number kind ≡ n =
    λ k t is here same. let one : t ≡ kind = cc in ap trap_number (sym one) ∙ is ∙ sym (eqb-true n k here) in
    elim (chosen (eqb n 1) (Some trap.Overflow) _ (Some kind) e) [
      | inl h ↦ at 1 trap.Overflow refl h.0 h.1
      | inr h1 ↦
          elim (chosen (eqb n 2) (Some trap.Divide) _ (Some kind) h1.1) [
            | inl h ↦ at 2 trap.Divide refl h.0 h.1
            | inr h2 ↦
                elim (chosen (eqb n 3) (Some trap.Loop) _ (Some kind) h2.1) [
                  | inl h ↦ at 3 trap.Loop refl h.0 h.1
                  | inr h3 ↦
                      elim (chosen (eqb n 4) (Some trap.Key) _ (Some kind) h3.1) [
                        | inl h ↦ at 4 trap.Key refl h.0 h.1
                        | inr h4 ↦
                            elim (chosen (eqb n 5) (Some trap.Join) _ (Some kind) h4.1) [
                              | inl h ↦ at 5 trap.Join refl h.0 h.1
                              | inr h5 ↦
                                  elim (chosen (eqb n 6) (Some trap.Txn) _ (Some kind) h5.1) [
                                    | inl h ↦ at 6 trap.Txn refl h.0 h.1
                                    | inr h6 ↦
                                        elim (chosen (eqb n 7) (Some trap.Text) _ (Some kind) h6.1) [
                                          | inl h ↦ at 7 trap.Text refl h.0 h.1
                                          | inr h7 ↦
                                              elim (chosen (eqb n 8) (Some trap.Kind) _ (Some kind) h7.1) [
                                                | inl h ↦ at 8 trap.Kind refl h.0 h.1
                                                | inr h8 ↦
                                                    elim (chosen (eqb n 9) (Some trap.Spawn) None (Some kind) h8.1) [ inl h ↦ at 9 trap.Spawn refl h.0 h.1 | inr h9 ↦ absurd cc ]
                                              ]
                                        ]
                                  ]
                            ]
                      ]
                ]
          ]
    ]

trap_takes : (bytes : List ℕ) (kind : TrapKind) (rest : List ℕ) → IsBytes bytes → trap_at bytes ≡ Ok (kind, rest) → Takes bytes (trap_number kind ∷ []) rest × (true ≡ true)
unfolding trap_at
trap_takes [] which rest fit e = absurd cc
trap_takes (c ∷ bytes) which rest fit e =
    let k = known_ok (suc (length bytes)) (trap_of c) bytes which rest e in
    (record { parts = ap (λ (t : List ℕ). c ∷ t) k.1 ∙ ap (λ (m : ℕ). m ∷ rest) (sym (trap_number_of c which k.0)); rest_fits = subst IsBytes k.1 (IsBytes-rest c bytes fit) }, refl)

trap_again : (kind : TrapKind) (rest : List ℕ) → true ≡ true → trap_at (trap_number kind ∷ rest) ≡ Ok (kind, rest)
unfolding trap_at
trap_again trap.Overflow rest h = refl
trap_again trap.Divide rest h = refl
trap_again trap.Loop rest h = refl
trap_again trap.Key rest h = refl
trap_again trap.Join rest h = refl
trap_again trap.Txn rest h = refl
trap_again trap.Text rest h = refl
trap_again trap.Kind rest h = refl
trap_again trap.Spawn rest h = refl

trap_reads : Reads TrapKind (λ kind. trap_number kind ∷ []) (λ kind. true) trap_at
trap_reads = record { takes = trap_takes; again = trap_again }

-- ---- outcomes and writes

abbrev pub outcome_ok : Outcome → Bool
outcome_ok o = is_outcome o && is_text_outcome o

outcome_takes : (bytes : List ℕ) (o : Outcome) (rest : List ℕ) → IsBytes bytes → outcome_at bytes ≡ Ok (o, rest) → Takes bytes (outcome o) rest × (outcome_ok o ≡ true)
unfolding outcome_at
outcome_takes [] o rest fit e = absurd cc
outcome_takes (zero ∷ bytes) o rest fit e =
    let b = bind_ok (value_at bytes) (λ v. Ok (Good v.0, v.1)) (o, rest) e in
    let t = value_reads.takes bytes b.0.0 b.0.1 (IsBytes-rest 0 bytes fit) b.1 in
    let made : Outcome × List ℕ = (Good b.0.0, b.0.1) in
    subst (λ (x : Outcome × List ℕ). Takes (0 ∷ bytes) (outcome x.0) x.1 × (outcome_ok x.0 ≡ true)) (ok_is made (o, rest) b.2) (ReadsLine-behind 0 bytes (value b.0.0) b.0.1 t.0, t.1)
outcome_takes (suc zero ∷ bytes) o rest fit e =
    let b = bind_ok (trap_at bytes) (λ kind. Ok (Trap kind.0, kind.1)) (o, rest) e in
    let t = trap_reads.takes bytes b.0.0 b.0.1 (IsBytes-rest 1 bytes fit) b.1 in
    let made : Outcome × List ℕ = (Trap b.0.0, b.0.1) in
    subst (λ (x : Outcome × List ℕ). Takes (1 ∷ bytes) (outcome x.0) x.1 × (outcome_ok x.0 ≡ true)) (ok_is made (o, rest) b.2) (ReadsLine-behind 1 bytes (trap_number b.0.0 ∷ []) b.0.1 t.0, refl)
outcome_takes (suc (suc c) ∷ bytes) o rest fit e = absurd cc

outcome_again : (o : Outcome) (rest : List ℕ) → outcome_ok o ≡ true → outcome_at (outcome o ++ rest) ≡ Ok (o, rest)
unfolding outcome_at
outcome_again (Good v) rest h = ap (λ (r : Result (Value × List ℕ) ℕ). r >>= λ x. Ok (Good x.0, x.1)) (value_reads.again v rest h)
outcome_again (Trap kind) rest h = ap (λ (r : Result (TrapKind × List ℕ) ℕ). r >>= λ x. Ok (Trap x.0, x.1)) (trap_again kind rest refl)

pub outcome_reads : Reads Outcome outcome outcome_ok outcome_at
outcome_reads = record { takes = outcome_takes; again = outcome_again }

abbrev pub write_ok : List ℕ × Value → Bool
write_ok w = is_key w.0 && value_ok w.1

write_takes : (bytes : List ℕ) (w : List ℕ × Value) (rest : List ℕ) → IsBytes bytes → write_at bytes ≡ Ok (w, rest) → Takes bytes (write w) rest × (write_ok w ≡ true)
unfolding write_at
write_takes bytes w rest fit e =
    let a = bind_ok (text_at is_key bytes) (λ key. value_at key.1 >>= λ v. Ok ((key.0, v.0), v.1)) (w, rest) e in
    let b = bind_ok (value_at a.0.1) (λ v. Ok ((a.0.0, v.0), v.1)) (w, rest) a.2 in
    let t0 = key_reads.takes bytes a.0.0 a.0.1 fit a.1 in
    let t1 = value_reads.takes a.0.1 b.0.0 b.0.1 t0.0.rest_fits b.1 in
    let made : (List ℕ × Value) × List ℕ = ((a.0.0, b.0.0), b.0.1) in
    subst (λ (x : (List ℕ × Value) × List ℕ). Takes bytes (write x.0) x.1 × (write_ok x.0 ≡ true)) (ok_is made (w, rest) b.2)
    (ReadsLine-then bytes (text a.0.0) a.0.1 (value b.0.0) b.0.1 t0.0 t1.0, and_from (is_key a.0.0) (value_ok b.0.0) t0.1 t1.1)

write_again : (w : List ℕ × Value) (rest : List ℕ) → write_ok w ≡ true → write_at (write w ++ rest) ≡ Ok (w, rest)
unfolding write_at
write_again w rest h =
    let p = and_parts (is_key w.0) (value_ok w.1) h in
    ap write_at (append_assoc (text w.0) (value w.1) rest)
    ∙ ap (λ (r : Result (List ℕ × List ℕ) ℕ). r >>= λ key. value_at key.1 >>= λ v. Ok ((key.0, v.0), v.1)) (key_reads.again w.0 (value w.1 ++ rest) p.0)
    ∙ ap (λ (r : Result (Value × List ℕ) ℕ). r >>= λ v. Ok ((w.0, v.0), v.1)) (value_reads.again w.1 rest p.1)

pub write_reads : Reads (List ℕ × Value) write write_ok write_at
write_reads = record { takes = write_takes; again = write_again }
