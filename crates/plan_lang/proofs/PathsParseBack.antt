-- Printed numbers with dots between are read again.
use Rattle.std.proofs.Common.{◌≡◌, ℕ, ◌<◌, ◌≤◌, ◌^◌, Bool, true, false, cond, eqb, ltb, List, [], ◌∷◌, ◌++◌, length, map, Option, Some, None, option_map, refl, sym, ap, ◌∙◌, subst, length-append, arith}
use Rattle.std.specs.Prelude.{◌&&◌, ◌||◌, slice_index, nat_lt}
use Rattle.std.specs.List.{list_all, list_any}
use Rattle.std.specs.Char.{is_ascii_digit}
use Rattle.std.specs.Fmt.{decimal}
use Rattle.std.specs.Str.{all_ascii_digits}
use Rattle.std.specs.Str.Parse.{digits_value}
use Rattle.std.proofs.lemmas.Bool.Decides.{nat_tests}
use Rattle.std.proofs.lemmas.List.{append-nil}
use Rattle.lb_base.specs.Numeral.{is_numeral, num_of}
use Rattle.lb_base.specs.Path.{is_path, are_ordinals, is_request, is_ordinal, path_of}
use Rattle.lb_base.specs.Print.{path_text, dotted}
use Rattle.lb_base.proofs.NumeralLaws.{numeral-reads_back}
use Rattle.line_text.specs.declared.checked.Checked.TheVariants as r
use Rattle.line_text.specs.declared.spans.CharClass.TheVariants.{Numeric}
use Rattle.line_text.specs.declared.token.Token.{Token}
use Rattle.line_text.specs.declared.token.Token.TheVariants as t
use Rattle.line_text.specs.Stream.{found_before}
use Rattle.line_text.specs.Tokens.{in_class, span, span_step, number_token, with_rest, number_and_rest, token_at}
use Rattle.script_lang.proofs.ExprTextLexes.{Lexed, first, is_safe, Lexes, number_lexed}
use Rattle.line_text.specs.Fields.{prepend_to_first, pieces, with_number, numbers_of, numbers_in, with_path_number, path_numbers_of, checked_option, path_by, path_in, path_at}
use Rattle.line_text.proofs.FieldsInRange.{both_true, split_true}

-- Text of digits and dots is one token.
not_figure : (c : ℕ) → (eqb c 32 || (eqb c 40 || (eqb c 41 || eqb c 44))) ≡ true → in_class Numeric c ≡ false
not_figure c h = grind (arith, nat_tests, h)

stops : (rest : List ℕ) → is_safe rest ≡ true → span Numeric rest ≡ ([], rest)
stops [] h = refl
stops (c ∷ cs) h = ap (λ b. span_step b c cs (span Numeric cs)) (not_figure c h)

abbrev all_figures : List ℕ → Bool
all_figures w = list_all (in_class Numeric) w

goes_by : (c : ℕ) (cs front rest : List ℕ) (p : List ℕ × List ℕ) → in_class Numeric c ≡ true → p ≡ (front, rest) → span_step (in_class Numeric c) c cs p ≡ (c ∷ front, rest)
goes_by c cs front rest p e h = ap (λ b. span_step b c cs p) e ∙ ap (λ (q : List ℕ × List ℕ). (c ∷ q.0, q.1)) h

span_figures : (w rest : List ℕ) → all_figures w ≡ true → is_safe rest ≡ true → span Numeric (w ++ rest) ≡ (w, rest)
span_figures [] rest h s = stops rest s
span_figures (c ∷ cs) rest h s =
    let k = split_true (in_class Numeric c) (all_figures cs) h in
    goes_by c (cs ++ rest) cs rest (span Numeric (cs ++ rest)) k.0 (span_figures cs rest k.1 s)

abbrev pub has_dot : List ℕ → Bool
has_dot w = list_any (λ c. eqb c 46) w

digit_no_dot : (c : ℕ) → is_ascii_digit c ≡ true → eqb c 46 ≡ false
digit_no_dot c h = grind (arith, nat_tests, h)

or_false : (a b : Bool) → a ≡ false → b ≡ false → (a || b) ≡ false
or_false a b h k = rw h k

digits_no_dot : (w : List ℕ) → all_ascii_digits w ≡ true → has_dot w ≡ false
digits_no_dot [] h = refl
digits_no_dot (c ∷ cs) h =
    let k = split_true (is_ascii_digit c) (all_ascii_digits cs) h in
    or_false (eqb c 46) (has_dot cs) (digit_no_dot c k.0) (digits_no_dot cs k.1)

no_digits_by : (w : List ℕ) (b : Bool) → all_ascii_digits w ≡ b → has_dot w ≡ true → b ≡ false
no_digits_by w true e h = absurd (let k = digits_no_dot w e in cc)
no_digits_by w false e h = refl

and_middle : (a b c : Bool) → b ≡ false → ((a && b) && c) ≡ false
and_middle true b c h = rw h refl
and_middle false b c h = refl

not_numeral : (w : List ℕ) → has_dot w ≡ true → is_numeral w ≡ false
not_numeral w h = and_middle (ltb 0 (length w)) (all_ascii_digits w) _ (no_digits_by w (all_ascii_digits w) refl h)

number_dotted : (w : List ℕ) → has_dot w ≡ true → number_token w ≡ Some (t.Dotted w)
number_dotted w h =
    ap (λ b. cond b (Some (t.Numeral (num_of w))) (cond (has_dot w) (Some (t.Dotted w)) None)) (not_numeral w h)
    ∙ ap (λ b. cond b (Some (t.Dotted w)) None) h

of_digit : (c : ℕ) → is_ascii_digit c ≡ true → (eqb c 34 ≡ false) × (eqb c 32 ≡ false)
of_digit c h = (grind (arith, nat_tests, h), grind (arith, nat_tests, h))

at_digit : (c : ℕ) (cs : List ℕ) → is_ascii_digit c ≡ true → token_at (c ∷ cs) ≡ number_and_rest (span Numeric (c ∷ cs))
at_digit c cs h = let o = of_digit c h in rw (o.0, h) refl

dotted_lexed : (w : List ℕ) → is_ascii_digit (slice_index w 0) ≡ true → all_figures w ≡ true → has_dot w ≡ true → Lexes w (t.Dotted w ∷ [])
dotted_lexed [] d f h rest ts s l = absurd (cc)
dotted_lexed (c ∷ cs) d f h rest ts s l =
    first ((of_digit c d).1)
    (at_digit c (cs ++ rest) d ∙ ap number_and_rest (span_figures (c ∷ cs) rest f s) ∙ ap (with_rest rest) (number_dotted (c ∷ cs) h))
    (omega (arith, length-append cs rest)) l

-- Numerals.
from_num : (w : List ℕ) (n : ℕ) (b : Bool) → (is_numeral w && ltb (digits_value 10 w) (2 ^ 64)) ≡ b → cond b (Some (digits_value 10 w)) None ≡ Some n → is_numeral w ≡ true
from_num w n true e h = (split_true _ _ e).0
from_num w n false e h = absurd (cc)

numeral_is : (n : ℕ) → n < 2 ^ 64 → is_numeral (decimal n) ≡ true
numeral_is n l = from_num (decimal n) n (is_numeral (decimal n) && ltb (digits_value 10 (decimal n)) (2 ^ 64)) refl (numeral-reads_back n l)

digits_of : (w : List ℕ) → is_numeral w ≡ true → all_ascii_digits w ≡ true
digits_of w h = (split_true (ltb 0 (length w)) (all_ascii_digits w) ((split_true (ltb 0 (length w) && all_ascii_digits w) _ h).0)).1

digit_figure : (c : ℕ) → is_ascii_digit c ≡ true → in_class Numeric c ≡ true
digit_figure c h = rw h refl

digits_figures : (w rest : List ℕ) → all_ascii_digits w ≡ true → all_figures rest ≡ true → all_figures (w ++ rest) ≡ true
digits_figures [] rest h k = k
digits_figures (c ∷ cs) rest h k =
    let s = split_true (is_ascii_digit c) (all_ascii_digits cs) h in
    both_true (in_class Numeric c) (all_figures (cs ++ rest)) (digit_figure c s.0) (digits_figures cs rest s.1 k)

first_digit : (w rest : List ℕ) → is_numeral w ≡ true → is_ascii_digit (slice_index (w ++ rest) 0) ≡ true
first_digit [] rest h = absurd (cc)
first_digit (c ∷ cs) rest h = (split_true (is_ascii_digit c) (all_ascii_digits cs) (digits_of (c ∷ cs) h)).0

or_right : (a b : Bool) → b ≡ true → (a || b) ≡ true
or_right true b h = refl
or_right false b h = h

dot_behind : (w rest : List ℕ) → has_dot (w ++ (46 ∷ rest)) ≡ true
dot_behind [] rest = refl
dot_behind (c ∷ cs) rest = or_right (eqb c 46) (has_dot (cs ++ (46 ∷ rest))) (dot_behind cs rest)

abbrev pub small : List ℕ → Bool
small ns = list_all (λ n. nat_lt n (2 ^ 64)) ns

low : (n : ℕ) → nat_lt n (2 ^ 64) ≡ true → n < 2 ^ 64
low n h = grind (arith, nat_tests, h)

dotted_figures : (ns : List ℕ) → small ns ≡ true → all_figures (dotted ns) ≡ true
dotted_figures [] h = refl
dotted_figures (n ∷ ns) h =
    let s = split_true (nat_lt n (2 ^ 64)) (small ns) h in
    digits_figures (decimal n) (dotted ns) (digits_of (decimal n) (numeral_is n (low n s.0))) (dotted_figures ns s.1)

-- the token of a path
abbrev pub path_token : List ℕ → Token
path_token [] = t.Dotted []
path_token (n ∷ []) = t.Numeral (Some n)
path_token (n ∷ m ∷ ns) = t.Dotted (path_text (n ∷ m ∷ ns))

pub path_lexed : (p : List ℕ) → 1 ≤ length p → small p ≡ true → Lexes (path_text p) (path_token p ∷ [])
path_lexed [] some h rest ts e d = absurd (omega arith)
path_lexed (n ∷ []) some h rest ts s d =
    let l = low n ((split_true (nat_lt n (2 ^ 64)) true h).0) in
    let P : List ℕ → Type 0 = λ x. Lexed (x ++ rest) (t.Numeral (Some n) ∷ ts) in
    subst P (sym (append-nil (decimal n))) (number_lexed n rest ts l s d)
path_lexed (n ∷ m ∷ ns) some h rest ts e d =
    let s = split_true (nat_lt n (2 ^ 64)) (small (m ∷ ns)) h in
    let i = numeral_is n (low n s.0) in
    dotted_lexed (path_text (n ∷ m ∷ ns)) (first_digit (decimal n) (dotted (m ∷ ns)) i) (digits_figures (decimal n) (dotted (m ∷ ns)) (digits_of (decimal n) i) (dotted_figures (m ∷ ns) s.1)) (dot_behind (decimal n) (decimal m ++ dotted ns)) rest ts e d

-- The numbers in it.
chosen : (c : ℕ) (x y : List (List ℕ)) → eqb c 46 ≡ false → cond (eqb c 46) x y ≡ y
chosen c x y e = rw e refl

or_false_split : (a b : Bool) → (a || b) ≡ false → (a ≡ false) × (b ≡ false)
or_false_split true b h = absurd (cc)
or_false_split false b h = (refl, h)

piece_then : (w rest : List ℕ) → has_dot w ≡ false → pieces (w ++ (46 ∷ rest)) ≡ w ∷ pieces rest
piece_then [] rest h = refl
piece_then (c ∷ cs) rest h =
    let s = or_false_split (eqb c 46) (has_dot cs) h in
    chosen c _ _ s.0 ∙ ap (prepend_to_first c) (piece_then cs rest s.1)

piece_last : (w : List ℕ) → has_dot w ≡ false → pieces w ≡ w ∷ []
piece_last [] h = refl
piece_last (c ∷ cs) h =
    let s = or_false_split (eqb c 46) (has_dot cs) h in
    chosen c _ _ s.0 ∙ ap (prepend_to_first c) (piece_last cs s.1)

numbered_one : (n : ℕ) (ps : List (List ℕ)) → n < 2 ^ 64 → numbers_of (decimal n ∷ ps) ≡ with_number (Some n) (numbers_of ps)
numbered_one n ps l =
    ap (λ b. cond b (with_number (num_of (decimal n)) (numbers_of ps)) None) (numeral_is n l)
    ∙ ap (λ o. with_number o (numbers_of ps)) (numeral-reads_back n l)

abbrev pub somes : List ℕ → List (Option ℕ)
somes ns = map (λ n. Some n) ns

no_dot_of : (n : ℕ) → n < 2 ^ 64 → has_dot (decimal n) ≡ false
no_dot_of n l = digits_no_dot (decimal n) (digits_of (decimal n) (numeral_is n l))

pub numbers_parse_back : (n : ℕ) (ns : List ℕ) → small (n ∷ ns) ≡ true → numbers_in (path_text (n ∷ ns)) ≡ Some (somes (n ∷ ns))
numbers_parse_back n [] h =
    let l = low n ((split_true (nat_lt n (2 ^ 64)) true h).0) in
    ap (λ w. numbers_of (pieces w)) (append-nil (decimal n))
    ∙ ap numbers_of (piece_last (decimal n) (no_dot_of n l))
    ∙ numbered_one n [] l
numbers_parse_back n (m ∷ ns) h =
    let s = split_true (nat_lt n (2 ^ 64)) (small (m ∷ ns)) h in
    let l = low n s.0 in
    ap numbers_of (piece_then (decimal n) (path_text (m ∷ ns)) (no_dot_of n l))
    ∙ numbered_one n (pieces (path_text (m ∷ ns))) l
    ∙ ap (with_number (Some n)) (numbers_parse_back m ns s.1)

-- Paths.
part_by : (n : ℕ) (b : Bool) → b ≡ true → cond b (Some n) None ≡ Some n
part_by n b e = rw e refl

request_part : (n : ℕ) → is_request n ≡ true → nat_lt n 1048576 ≡ true
request_part n h = (split_true (nat_lt 0 n) (nat_lt n 1048576) h).1

ordinal_part : (n : ℕ) → is_ordinal n ≡ true → nat_lt n 1048576 ≡ true
ordinal_part n h = grind (arith, nat_tests, h)

ordinals_parts : (ns : List ℕ) → are_ordinals ns ≡ true → path_numbers_of (somes ns) ≡ Some ns
ordinals_parts [] h = refl
ordinals_parts (n ∷ ns) h =
    let s = split_true (is_ordinal n) (are_ordinals ns) h in
    ap (λ o. with_path_number o (path_numbers_of (somes ns))) (part_by n (nat_lt n 1048576) (ordinal_part n s.0)) ∙ ap (with_path_number (Some n)) (ordinals_parts ns s.1)

path_parts : (n : ℕ) (ns : List ℕ) → is_path (n ∷ ns) ≡ true → path_numbers_of (somes (n ∷ ns)) ≡ Some (n ∷ ns)
path_parts n ns h =
    let s = split_true (is_request n) (are_ordinals ns) ((split_true (is_request n && are_ordinals ns) (nat_lt (length ns) 4) h).0) in
    ap (λ o. with_path_number o (path_numbers_of (somes ns))) (part_by n (nat_lt n 1048576) (request_part n s.0)) ∙ ap (with_path_number (Some n)) (ordinals_parts ns s.1)

path_is : (p : List ℕ) → is_path p ≡ true → path_of p ≡ Some p
path_is p h = ap (λ b. cond b (Some p) None) h

path_in_again : (n : ℕ) (ns : List ℕ) → is_path (n ∷ ns) ≡ true → path_in (somes (n ∷ ns)) ≡ r.Valid (n ∷ ns)
path_in_again n ns h = ap path_by (path_parts n ns h) ∙ ap checked_option (path_is (n ∷ ns) h)

request_small : (n : ℕ) → is_request n ≡ true → nat_lt n (2 ^ 64) ≡ true
request_small n h = grind (arith, nat_tests, h)

ordinal_small : (n : ℕ) → is_ordinal n ≡ true → nat_lt n (2 ^ 64) ≡ true
ordinal_small n h = grind (arith, nat_tests, h)

ordinals_small : (ns : List ℕ) → are_ordinals ns ≡ true → small ns ≡ true
ordinals_small [] h = refl
ordinals_small (n ∷ ns) h =
    let s = split_true (is_ordinal n) (are_ordinals ns) h in both_true (nat_lt n (2 ^ 64)) (small ns) (ordinal_small n s.0) (ordinals_small ns s.1)

pub path_small : (p : List ℕ) → is_path p ≡ true → (1 ≤ length p) × (small p ≡ true)
path_small [] h = absurd (cc)
path_small (n ∷ ns) h =
    let s = split_true (is_request n) (are_ordinals ns) ((split_true (is_request n && are_ordinals ns) (nat_lt (length ns) 4) h).0) in
    (omega arith, both_true (nat_lt n (2 ^ 64)) (small ns) (request_small n s.0) (ordinals_small ns s.1))

pub path_parses_back : (p : List ℕ) (rest : List Token) → is_path p ≡ true → path_at (path_token p ∷ rest) ≡ Some (r.Valid p, rest)
path_parses_back [] rest h = absurd (cc)
path_parses_back (n ∷ []) rest h = ap (λ x. Some (x, rest)) (path_in_again n [] h)
path_parses_back (n ∷ m ∷ ns) rest h =
    ap (λ o. found_before rest (option_map path_in o)) (numbers_parse_back n (m ∷ ns) ((path_small (n ∷ m ∷ ns) h).1)) ∙ ap (λ x. Some (x, rest)) (path_in_again n (m ∷ ns) h)
