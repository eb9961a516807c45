-- The tokens of printed fields are read again.
use Rattle.std.proofs.Common.{◌≡◌, ℕ, zero, suc, ◌+◌, ◌-◌, ◌<◌, ◌≤◌, ◌^◌, Bool, true, false, cond, eqb, ltb, leb, List, [], ◌∷◌, ◌++◌, length, Option, Some, None, option_map, refl, sym, ap, ◌∙◌, subst, append_assoc, length-append, arith, pos, negsuc, neg_ℤ}
use Rattle.std.specs.Prelude.{◌&&◌, not, option_and_then, bytes_eq, codes, nat_lt, nat_le}
use Rattle.std.specs.List.{list_all, list_any}
use Rattle.std.proofs.lemmas.Bool.Decides.{nat_tests}
use Rattle.std.proofs.lemmas.Int.{ints}
use Rattle.std.proofs.lemmas.List.{append-nil}
use Rattle.lb_base.specs.declared.value.Tag.{Tag}
use Rattle.lb_base.specs.declared.value.Value.{Value}
use Rattle.lb_base.specs.declared.value.Value.TheVariants as v
use Rattle.boki_model.specs.Bodies.{has_identifier_characters, is_identifier, is_value, reserved_words, is_i64}
use Rattle.boki_model.specs.Bodies.{is_u64}
use Rattle.boki_model.specs.Plans.{in_bounds, is_user_tag, are_user_tags}
use Rattle.line_text.specs.declared.token.Punctuation.TheVariants as m
use Rattle.line_text.specs.declared.token.Token.{Token}
use Rattle.line_text.specs.declared.token.Token.TheVariants as t
use Rattle.line_text.specs.declared.checked.Checked.{Checked}
use Rattle.line_text.specs.declared.checked.Checked.TheVariants as r
use Rattle.line_text.specs.declared.lists.CommaList.{CommaList}
use Rattle.line_text.specs.Stream.{take_punctuation}
use Rattle.line_text.specs.Readers.{Reader, expect, positive_value, negative_value, value_at, name_at}
use Rattle.line_text.specs.Checks.{both_checked, checked_if}
use Rattle.line_text.specs.Lists.{comma_list, at_most, many_behind, more_if_comma, with_one_more, up_to_eight, closed_list, paren_list_by, paren_list}
use Rattle.script_lang.specs.Statements.{name_and_list, call_at}
use Rattle.script_lang.proofs.StmtTokensParseBack.{more_tokens, list_tokens}
use Rattle.line_text.specs.Fields.{tag_at, tags_at}
use Rattle.line_text.proofs.FieldsInRange.{both_true, split_true}
use Rattle.plan_lang.proofs.FieldTextLexes.{tag_token, value_tokens, call_tokens}

-- Lists with commas between.
abbrev ReadsBack : {A : Type 0} → (A → Bool) → Reader A → (A → List Token) → Type 0
ReadsBack {A} p read print = (x : A) (rest : List Token) → p x ≡ true → read (print x ++ rest) ≡ Some (r.Valid x, rest)

abbrev found : {A : Type 0} → ℕ → List A → List Token → Option (CommaList A × List Token)
found n xs rest = Some (record { count = n; items = r.Valid xs }, rest)

many_back : {A : Type 0} (p : A → Bool) (read : Reader A) (print : A → List Token) (x : A) (xs : List A) (rest : List Token) (n : ℕ) → ReadsBack p read print → list_all p (x ∷ xs) ≡ true → take_punctuation m.Comma rest ≡ (false, rest) → length xs < n → at_most read n ((print x ++ more_tokens print xs) ++ rest) ≡ found (length xs + 1) (x ∷ xs) rest
many_back p read print x xs rest zero h g c l = absurd (omega arith)
many_back p read print x [] rest (suc n) h g c l =
    ap (λ ts. many_behind (at_most read n) (read ts)) (ap (λ l. l ++ rest) (append-nil (print x)))
    ∙ ap (many_behind (at_most read n)) (h x rest ((split_true (p x) true g).0))
    ∙ ap (more_if_comma (at_most read n) (r.Valid x)) c
many_back {A} p read print x (y ∷ ys) rest (suc n) h g c l =
    let q = split_true (p x) (list_all p (y ∷ ys)) g in
    let behind = (print y ++ more_tokens print ys) ++ rest in
    let same : suc (length ys) + 1 ≡ (length ys + 1) + 1 = omega arith in
    ap (λ ts. many_behind (at_most read n) (read ts)) (append_assoc (print x) (t.Punctuation m.Comma ∷ (print y ++ more_tokens print ys)) rest)
    ∙ ap (many_behind (at_most read n)) (h x (t.Punctuation m.Comma ∷ behind) q.0)
    ∙ ap (λ o. with_one_more (r.Valid x) o) (many_back p read print y ys rest n h q.1 c (omega arith))
    ∙ ap (λ (k : ℕ). found k (x ∷ y ∷ ys) rest) (sym same)

commas : {A : Type 0} (print : A → List Token) (xs : List A) → length xs ≤ length (more_tokens print xs)
commas print [] = omega arith
commas print (x ∷ xs) = omega (arith, commas print xs, length-append (print x) (more_tokens print xs))

several_back : {A : Type 0} (p : A → Bool) (read : Reader A) (print : A → List Token) (x : A) (xs : List A) (rest : List Token) → 1 ≤ length (print x) → ReadsBack p read print → list_all p (x ∷ xs) ≡ true → take_punctuation m.Comma rest ≡ (false, rest) → comma_list read (list_tokens print (x ∷ xs) ++ rest) ≡ found (length xs + 1) (x ∷ xs) rest
several_back p read print x xs rest some h g c =
    many_back p read print x xs rest (length ((print x ++ more_tokens print xs) ++ rest)) h g c
    (omega (arith, commas print xs, length-append (print x) (more_tokens print xs), length-append (print x ++ more_tokens print xs) rest))

-- Tags.
tag_back : (tag : Tag) (rest : List Token) → is_user_tag tag ≡ true → tag_at (tag_token tag ++ rest) ≡ Some (r.Valid tag, rest)
tag_back tag rest h = ap (λ b. Some (checked_if b tag, rest)) h

abbrev tags_of : Option (CommaList Tag × List Token) → Option (Checked (List Tag) × List Token)
tags_of o = option_and_then (λ (xs : CommaList Tag × List Token). Some (up_to_eight xs.0, xs.1)) o

few_back : (n : ℕ) (tags : List Tag) (rest : List Token) → nat_le n 8 ≡ true → tags_of (found n tags rest) ≡ Some (r.Valid tags, rest)
few_back n tags rest h = ap (λ b. Some (cond b (r.Valid tags) r.OutOfRange, rest)) h

few_of : (n : ℕ) → in_bounds 1 8 (suc n) ≡ true → nat_le (n + 1) 8 ≡ true
few_of n h = grind (arith, nat_tests, h)

pub tags_parse_back : (tags : List Tag) (rest : List Token) → are_user_tags tags ≡ true → take_punctuation m.Comma rest ≡ (false, rest) → tags_at (list_tokens tag_token tags ++ rest) ≡ Some (r.Valid tags, rest)
tags_parse_back [] rest h c = absurd (cc)
tags_parse_back (tag ∷ tags) rest h c =
    let q = split_true (in_bounds 1 8 (length (tag ∷ tags))) (list_all is_user_tag (tag ∷ tags)) h in
    ap tags_of (several_back is_user_tag tag_at tag_token tag tags rest (omega arith) tag_back q.1 c)
    ∙ few_back (length tags + 1) (tag ∷ tags) rest (few_of (length tags) q.0)

-- Values.
negative_fits : (n : ℕ) → is_i64 (negsuc n) ≡ true → nat_le (suc n) (2 ^ 63) ≡ true
negative_fits n h = grind (arith, nat_tests, ints, h)

not_zero : (n : ℕ) → eqb (suc n) 0 ≡ false
not_zero n = grind (arith, nat_tests)

pub value_reads_back : (x : Value) (rest : List Token) → is_value x ≡ true → value_at (value_tokens x ++ rest) ≡ Some (r.Valid x, rest)
value_reads_back (v.Int (pos n)) rest h = let g : nat_lt n (2 ^ 63) ≡ true = h in ap (λ b. Some (cond b (r.Valid (v.Int (pos n))) r.OutOfRange, rest)) g
value_reads_back (v.Int (negsuc n)) rest h =
    ap (λ b. cond b None (Some (negative_value (Some (suc n)), rest))) (not_zero n)
    ∙ ap (λ b. Some (cond b (r.Valid (v.Int (negsuc n))) r.OutOfRange, rest)) (negative_fits n h)
value_reads_back (v.Text x) rest h = ap (λ b. Some (checked_if b (v.Text x), rest)) h
value_reads_back v.Nothing rest h = refl

value_some : (x : Value) → 1 ≤ length (value_tokens x)
value_some (v.Int (pos n)) = omega arith
value_some (v.Int (negsuc n)) = omega arith
value_some (v.Text x) = omega arith
value_some v.Nothing = omega arith

not_close : (x : Value) (rest : List Token) → take_punctuation m.Close (value_tokens x ++ rest) ≡ (false, value_tokens x ++ rest)
not_close (v.Int (pos n)) rest = refl
not_close (v.Int (negsuc n)) rest = refl
not_close (v.Text x) rest = refl
not_close v.Nothing rest = refl

abbrev Listed : ℕ → List Value → CommaList Value
Listed n xs = record { count = n; items = r.Valid xs }

record ListedBack (xs : List Value) : Type 0 where
  count : ℕ
  is : paren_list value_at (list_tokens value_tokens xs ++ t.Punctuation m.Close ∷ []) ≡ Some (Listed count xs, [])

values_back : (xs : List Value) → list_all is_value xs ≡ true → ListedBack xs
values_back [] h = record { count = 0; is = refl }
values_back (x ∷ xs) h =
    let close = t.Punctuation m.Close ∷ [] in
    let c : take_punctuation m.Close (list_tokens value_tokens (x ∷ xs) ++ close) ≡ (false, list_tokens value_tokens (x ∷ xs) ++ close) =
    ap (take_punctuation m.Close) (append_assoc (value_tokens x) (more_tokens value_tokens xs) close)
    ∙ not_close x (more_tokens value_tokens xs ++ close)
    ∙ ap (λ (l : List Token). (false, l)) (sym (append_assoc (value_tokens x) (more_tokens value_tokens xs) close)) in record {
      count = length xs + 1;
      is = ap (paren_list_by value_at) c ∙ ap closed_list (several_back is_value value_at value_tokens x xs close (value_some x) value_reads_back h refl);
    }

short_name : (w : List ℕ) → is_identifier w ≡ true → leb (length w) 32 ≡ true
short_name w h = (split_true (has_identifier_characters w) (leb (length w) 32) ((split_true (has_identifier_characters w && leb (length w) 32) (not (list_any (bytes_eq w) reserved_words)) h).0)).1

abbrev call_of : Option ((Checked (List ℕ) × CommaList Value) × List Token) → Option (Checked (List ℕ × List Value) × List Token)
call_of o = option_and_then (λ (call : (Checked (List ℕ) × CommaList Value) × List Token). Some (both_checked call.0.0 call.0.1.items, call.1)) o

abbrev listed_of : Checked (List ℕ) → Option (CommaList Value × List Token) → Option ((Checked (List ℕ) × CommaList Value) × List Token)
listed_of name o = option_and_then (λ (xs : CommaList Value × List Token). Some ((name, xs.0), xs.1)) o

pub call_parses_back : (f : List ℕ) (xs : List Value) → is_identifier f ≡ true → list_all is_value xs ≡ true → call_at (call_tokens f xs) ≡ Some (r.Valid (f, xs), [])
call_parses_back f xs n h =
    let q = values_back xs h in
    ap (λ b. call_of (listed_of (checked_if b f) (paren_list value_at (list_tokens value_tokens xs ++ t.Punctuation m.Close ∷ [])))) (short_name f n)
    ∙ ap (λ o. call_of (listed_of (r.Valid f) o)) q.is

-- Numbers.
pub word_flag : (n : ℕ) → is_u64 n ≡ true → in_bounds 0 (2 ^ 64 - 1) n ≡ true
word_flag n h = grind (arith, nat_tests, h)
