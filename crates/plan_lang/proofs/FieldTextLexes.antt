-- Printed pieces of an event's line are cut into their tokens.
use Rattle.std.proofs.Common.{◌≡◌, ℕ, zero, suc, ◌+◌, ◌<◌, ◌≤◌, ◌^◌, Bool, true, false, List, [], ◌∷◌, ◌++◌, length, Option, Some, None, refl, sym, ap, ◌∙◌, subst, append_assoc, length-append, arith, pos, negsuc}
use Rattle.std.specs.Prelude.{◌&&◌, codes, flat_map, nat_lt, nat_le}
use Rattle.std.specs.List.{list_all}
use Rattle.std.specs.Fmt.{decimal}
use Rattle.std.proofs.lemmas.Bool.Decides.{nat_tests}
use Rattle.std.proofs.lemmas.List.{append-nil}
use Rattle.lb_base.specs.declared.value.Tag.{Tag}
use Rattle.lb_base.specs.declared.value.Value.{Value}
use Rattle.lb_base.specs.declared.value.Value.TheVariants as v
use Rattle.lb_base.specs.Print.{value_text}
use Rattle.lb_base.specs.Quoted.{quoted}
use Rattle.boki_types.specs.declared.expr.Expr.TheVariants as e
use Rattle.boki_model.specs.Bodies.{has_identifier_characters, is_identifier, is_value}
use Rattle.boki_model.specs.Plans.{is_user_tag}
use Rattle.line_text.specs.declared.token.Keyword.TheVariants as k
use Rattle.line_text.specs.declared.token.Punctuation.TheVariants as m
use Rattle.line_text.specs.declared.token.Token.{Token}
use Rattle.line_text.specs.declared.token.Token.TheVariants as t
use Rattle.script_lang.specs.Canonical.{int_tokens}
use Rattle.script_lang.specs.Printed.{comma_joined, each_behind_comma}
use Rattle.line_text.specs.Tokens.{word_token, double_symbol, single_symbol, tokens_in}
use Rattle.script_lang.proofs.ExprTextLexes.{Lexed, none, space, first, is_safe, Lexes, word_lexed, name_lexed, number_lexed, expr_lexed, lexed_in, open_lexed, close_lexed}
use Rattle.script_lang.proofs.StmtTokensParseBack.{more_tokens, list_tokens}
use Rattle.plan_lang.specs.Printed.{behind_tag, tags_text}
use Rattle.line_text.proofs.FieldsInRange.{split_true}

-- A text is cut into these tokens, whatever stands behind it that may follow a word.
pub record Cuts (text : List ℕ) (us : List Token) : Type 0 where
  pub cut : Lexes text us

pub whole : (text : List ℕ) (us : List Token) → Cuts text us → tokens_in text ≡ Some us
whole text us h =
    let d = h.cut [] [] refl none in
    let P : List ℕ → Type 0 = λ l. Lexed l (us ++ []) in
    let Q : List Token → Type 0 = λ l. Lexed text l in
    lexed_in text us (subst Q (append-nil us) (subst P (append-nil text) d))

pub number_piece : (n : ℕ) → n < 2 ^ 64 → Cuts (decimal n) (t.Numeral (Some n) ∷ [])
number_piece n l = record { cut = λ rest ts s d. number_lexed n rest ts l s d }

pub text_piece : (x : List ℕ) → nat_le (length x) 256 ≡ true → Cuts (quoted x) (t.Text x ∷ [])
text_piece x h = record { cut = expr_lexed (e.Text x) 0 h }

-- two with a space between
pub spaced : (a b : List ℕ) (us vs : List Token) → Cuts a us → Cuts b vs → Cuts (a ++ (32 ∷ b)) (us ++ vs)
spaced a b us vs h g = record {
  cut = λ rest ts s d.
      let P : List ℕ → Type 0 = λ l. Lexed l ((us ++ vs) ++ ts) in
      let Q : List Token → Type 0 = λ l. Lexed (a ++ (32 ∷ (b ++ rest))) l in
      subst P (sym (append_assoc a (32 ∷ b) rest))
      (subst Q (sym (append_assoc us vs ts)) (h.cut (32 ∷ (b ++ rest)) (vs ++ ts) refl (space (g.cut rest ts s d))));
}

-- a word before others
pub behind_word : (w : List ℕ) (b : List ℕ) (vs : List Token) → word_token w ≡ t.Name w → has_identifier_characters w ≡ true → Cuts b vs → Cuts (w ++ (32 ∷ b)) (t.Name w ∷ vs)
behind_word w b vs e i g = record {
  cut = λ rest ts s d.
      let P : List ℕ → Type 0 = λ l. Lexed l (t.Name w ∷ (vs ++ ts)) in
      subst P (sym (append_assoc w (32 ∷ b) rest)) (word_lexed w (t.Name w) (32 ∷ (b ++ rest)) (vs ++ ts) e i refl (space (g.cut rest ts s d)));
}

-- a word alone
pub word_piece : (w : List ℕ) → word_token w ≡ t.Name w → has_identifier_characters w ≡ true → Cuts w (t.Name w ∷ [])
word_piece w e i = record { cut = λ rest ts s d. word_lexed w (t.Name w) rest ts e i s d }

-- Tags.
abbrev pub tag_token : Tag → List Token
tag_token tag = t.Numeral (Some tag.0) ∷ []

comma : (rest : List ℕ) (ts : List Token) → Lexed rest ts → Lexed (44 ∷ rest) (t.Punctuation m.Comma ∷ ts)
unfolding double_symbol single_symbol
comma rest ts d = first refl refl (omega arith) d

tag_low : (tag : Tag) → is_user_tag tag ≡ true → tag.0 < 2 ^ 64
tag_low tag h = grind (arith, nat_tests, h)

safe_tags : (tags : List Tag) (rest : List ℕ) → is_safe rest ≡ true → is_safe (flat_map behind_tag tags ++ rest) ≡ true
safe_tags [] rest s = s
safe_tags (tag ∷ tags) rest s = refl

tags_more : (tags : List Tag) → list_all is_user_tag tags ≡ true → Lexes (flat_map behind_tag tags) (more_tokens tag_token tags)
tags_more [] h rest ts s d = d
tags_more (tag ∷ tags) h rest ts s d =
    let q = split_true (is_user_tag tag) (list_all is_user_tag tags) h in
    let P : List ℕ → Type 0 = λ l. Lexed (44 ∷ l) (t.Punctuation m.Comma ∷ t.Numeral (Some tag.0) ∷ (more_tokens tag_token tags ++ ts)) in
    subst P (sym (append_assoc (decimal tag.0) (flat_map behind_tag tags) rest))
    (comma _ _ (number_lexed tag.0 (flat_map behind_tag tags ++ rest) (more_tokens tag_token tags ++ ts) (tag_low tag q.0) (safe_tags tags rest s) (tags_more tags q.1 rest ts s d)))

tags_lexed : (tags : List Tag) → list_all is_user_tag tags ≡ true → Lexes (tags_text tags) (list_tokens tag_token tags)
tags_lexed [] h rest ts s d = d
tags_lexed (tag ∷ tags) h rest ts s d =
    let q = split_true (is_user_tag tag) (list_all is_user_tag tags) h in
    let P : List ℕ → Type 0 = λ l. Lexed l (t.Numeral (Some tag.0) ∷ (more_tokens tag_token tags ++ ts)) in
    subst P (sym (append_assoc (decimal tag.0) (flat_map behind_tag tags) rest))
    (number_lexed tag.0 (flat_map behind_tag tags ++ rest) (more_tokens tag_token tags ++ ts) (tag_low tag q.0) (safe_tags tags rest s) (tags_more tags q.1 rest ts s d))

pub tags_piece : (tags : List Tag) → list_all is_user_tag tags ≡ true → Cuts (tags_text tags) (list_tokens tag_token tags)
tags_piece tags h = record { cut = tags_lexed tags h }

-- Values and calls.
abbrev pub value_tokens : Value → List Token
value_tokens (v.Int n) = int_tokens n
value_tokens (v.Text x) = t.Text x ∷ []
value_tokens v.Nothing = t.Keyword k.Nothing ∷ []

pub value_piece : (x : Value) → is_value x ≡ true → Lexes (value_text x) (value_tokens x)
value_piece (v.Int n) h = expr_lexed (e.Int n) 0 h
value_piece (v.Text x) h = expr_lexed (e.Text x) 0 h
value_piece v.Nothing h = expr_lexed e.Nothing 0 refl

comma_space : (rest : List ℕ) (ts : List Token) → Lexed rest ts → Lexed (44 ∷ 32 ∷ rest) (t.Punctuation m.Comma ∷ ts)
unfolding double_symbol single_symbol
comma_space rest ts d = first refl refl (omega arith) (space d)

safe_values : (xs : List Value) (rest : List ℕ) → is_safe rest ≡ true → is_safe (each_behind_comma value_text xs ++ rest) ≡ true
safe_values [] rest s = s
safe_values (x ∷ xs) rest s = refl

value_more : (x : Value) (xs : List Value) → is_value x ≡ true → Lexes (each_behind_comma value_text xs) (more_tokens value_tokens xs) → Lexes (value_text x ++ each_behind_comma value_text xs) (value_tokens x ++ more_tokens value_tokens xs)
value_more x xs h g rest ts s d =
    let P : List ℕ → Type 0 = λ l. Lexed l ((value_tokens x ++ more_tokens value_tokens xs) ++ ts) in
    let Q : List Token → Type 0 = λ l. Lexed (value_text x ++ (each_behind_comma value_text xs ++ rest)) l in
    subst P (sym (append_assoc (value_text x) (each_behind_comma value_text xs) rest))
    (subst Q (sym (append_assoc (value_tokens x) (more_tokens value_tokens xs) ts))
    (value_piece x h (each_behind_comma value_text xs ++ rest) (more_tokens value_tokens xs ++ ts) (safe_values xs rest s) (g rest ts s d)))

values_more : (xs : List Value) → list_all is_value xs ≡ true → Lexes (each_behind_comma value_text xs) (more_tokens value_tokens xs)
values_more [] h rest ts s d = d
values_more (x ∷ xs) h rest ts s d =
    let q = split_true (is_value x) (list_all is_value xs) h in
    comma_space ((value_text x ++ each_behind_comma value_text xs) ++ rest) ((value_tokens x ++ more_tokens value_tokens xs) ++ ts) (value_more x xs q.0 (values_more xs q.1) rest ts s d)

values_piece : (xs : List Value) → list_all is_value xs ≡ true → Lexes (comma_joined value_text xs) (list_tokens value_tokens xs)
values_piece [] h rest ts s d = d
values_piece (x ∷ xs) h rest ts s d =
    let q = split_true (is_value x) (list_all is_value xs) h in value_more x xs q.0 (values_more xs q.1) rest ts s d

abbrev pub call_tokens : List ℕ → List Value → List Token
call_tokens f xs = t.Name f ∷ t.Punctuation m.Open ∷ (list_tokens value_tokens xs ++ t.Punctuation m.Close ∷ [])

call_lexed : (f : List ℕ) (xs : List Value) → is_identifier f ≡ true → list_all is_value xs ≡ true → Lexes (f ++ (codes "(" ++ (comma_joined value_text xs ++ codes ")"))) (call_tokens f xs)
call_lexed f xs n h rest ts s d =
    let text = comma_joined value_text xs in
    let us = list_tokens value_tokens xs in
    let P : List Token → Type 0 = λ l. Lexed ((f ++ (40 ∷ (text ++ codes ")"))) ++ rest) (t.Name f ∷ t.Punctuation m.Open ∷ l) in
    let Q : List ℕ → Type 0 = λ l. Lexed l (t.Name f ∷ t.Punctuation m.Open ∷ (us ++ t.Punctuation m.Close ∷ ts)) in
    let same : (f ++ (40 ∷ (text ++ codes ")"))) ++ rest ≡ f ++ (40 ∷ (text ++ (41 ∷ rest))) =
    append_assoc f (40 ∷ (text ++ codes ")")) rest ∙ ap (λ l. f ++ (40 ∷ l)) (append_assoc text (codes ")") rest) in
    subst P (sym (append_assoc us (t.Punctuation m.Close ∷ []) ts))
    (subst Q (sym same)
    (name_lexed f (40 ∷ (text ++ (41 ∷ rest))) _ n refl (open_lexed _ _ (values_piece xs h (41 ∷ rest) (t.Punctuation m.Close ∷ ts) refl (close_lexed rest ts d)))))

pub call_piece : (f : List ℕ) (xs : List Value) → is_identifier f ≡ true → list_all is_value xs ≡ true → Cuts (f ++ (codes "(" ++ (comma_joined value_text xs ++ codes ")"))) (call_tokens f xs)
call_piece f xs n h = record { cut = call_lexed f xs n h }
