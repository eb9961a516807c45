-- What is printed is cut into the tokens that were printed.
use Rattle.std.proofs.Common.{◌≡◌, ℕ, zero, suc, ◌+◌, ◌<◌, ◌≤◌, ◌^◌, Bool, true, false, cond, eqb, ltb, leb, List, [], ◌∷◌, ◌++◌, length, Option, Some, None, refl, sym, ap, ◌∙◌, subst, append_assoc, length-append, arith, pos, negsuc, ℤ}
use Rattle.std.specs.Prelude.{◌&&◌, ◌||◌, not, bytes_eq, codes, slice_index}
use Rattle.std.specs.List.{list_all, list_any}
use Rattle.std.specs.Char.{is_ascii_digit}
use Rattle.std.specs.Str.{all_ascii_digits}
use Rattle.std.specs.Str.Parse.{digits_value}
use Rattle.std.specs.Fmt.{decimal, signed_decimal}
use Rattle.std.proofs.lemmas.Bool.Decides.{nat_tests}
use Rattle.std.proofs.lemmas.Int.{ints}
use Rattle.std.proofs.lemmas.List.{append-nil}
use denote.Hole.Carrier.{hidden}
use Rattle.lb_base.specs.Numeral.{is_numeral, num_of}
use Rattle.lb_base.specs.Quoted.{quoted}
use Rattle.lb_base.proofs.NumeralLaws.{numeral-reads_back}
use Rattle.lb_base.proofs.QuotedLaws.{quoted-reads_back}
use Rattle.boki_types.specs.declared.expr.BinOp.{BinOp}
use Rattle.boki_types.specs.declared.expr.BinOp.TheVariants as ops
use Rattle.boki_types.specs.declared.expr.Expr.{Expr, more_of-Expr, end_of-Expr}
use Rattle.boki_types.specs.declared.expr.Expr.TheVariants as exprs
use Rattle.boki_types.specs.declared.expr.Expr.TheBlock.{shape-the_row-Expr-0, hidden-the_row-Expr-0}
use Rattle.boki_model.specs.Bodies.{is_letter as letter, is_digit as digit, has_identifier_characters, is_identifier, reserved_words, is_i64}
use Rattle.line_text.specs.declared.token.Keyword.{Keyword}
use Rattle.line_text.specs.declared.token.Keyword.TheVariants as keys
use Rattle.line_text.specs.declared.token.Punctuation.TheVariants as marks
use Rattle.line_text.specs.declared.token.Token.{Token}
use Rattle.line_text.specs.declared.token.Token.TheVariants as tokens
use Rattle.line_text.specs.declared.spans.CharClass.{CharClass}
use Rattle.line_text.specs.declared.spans.CharClass.TheVariants.{Numeric, Word, Space}
use Rattle.line_text.specs.Tokens.{in_class, span, span_step, number_token, with_rest, number_and_rest, quoted_and_rest, keyword_of, keyword_or_name, word_token, word_and_rest, double_symbol, single_symbol, token_at, with_token, lex_fewer_than, lex_rest, lex_behind_spaces, tokens_in}
use Rattle.script_lang.specs.Expressions.{precedence, left_precedence}
use Rattle.script_lang.specs.Printed.{◌&◌, op_text, paren_text, expr_text}
use Rattle.script_lang.specs.Canonical.{op_token, int_tokens, in_parens, tokens_of}
use Rattle.script_lang.proofs.ExprsInLimits.{is_expr_in_limits}

-- A text is these tokens, with spaces between them.
pub data Lexed : List ℕ → List Token → Type 0 where
  none : Lexed [] []
  space : {cs : List ℕ} {ts : List Token} → Lexed cs ts → Lexed (32 ∷ cs) ts
  first : {c : ℕ} {cs rest : List ℕ} {t : Token} {ts : List Token} → eqb c 32 ≡ false → token_at (c ∷ cs) ≡ Some (t, rest) → length rest ≤ length cs → Lexed rest ts → Lexed (c ∷ cs) (t ∷ ts)

skip_none : (c : ℕ) (cs : List ℕ) (p : List ℕ × List ℕ) → eqb c 32 ≡ false → (span_step (eqb c 32) c cs p).1 ≡ c ∷ cs
skip_none c cs p e = ap (λ b. (span_step b c cs p).1) e

lexes : {text : List ℕ} {ts : List Token} → Lexed text ts → (n : ℕ) → length text < n → lex_fewer_than n text ≡ Some ts
lexes none zero h = absurd (omega arith)
lexes none (suc n) h = refl
lexes (space d) zero h = absurd (omega arith)
lexes (space d) (suc n) h = lexes d (suc n) (omega arith)
lexes (first e f l d) zero h = absurd (omega arith)
lexes (first {c = c} {cs = cs} {rest = rest} {t = t} {ts = ts} e f l d) (suc n) h =
    ap (lex_behind_spaces (lex_fewer_than n)) (skip_none c cs (span Space cs) e)
    ∙ ap (lex_rest (lex_fewer_than n)) f
    ∙ ap (with_token t) (lexes d n (omega arith))

pub lexed_in : (text : List ℕ) (ts : List Token) → Lexed text ts → tokens_in text ≡ Some ts
lexed_in text ts d = lexes d (length text + 1) (omega arith)

-- what may follow a word or a number
abbrev pub is_safe : List ℕ → Bool
is_safe [] = true
is_safe (c ∷ cs) = eqb c 32 || (eqb c 40 || (eqb c 41 || eqb c 44))

stops_by : (k : CharClass) (c : ℕ) (cs : List ℕ) (p : List ℕ × List ℕ) → in_class k c ≡ false → span_step (in_class k c) c cs p ≡ ([], c ∷ cs)
stops_by k c cs p e = ap (λ b. span_step b c cs p) e

not_word : (c : ℕ) → (eqb c 32 || (eqb c 40 || (eqb c 41 || eqb c 44))) ≡ true → in_class Word c ≡ false
not_word c h = grind (arith, nat_tests, h)

not_figure : (c : ℕ) → (eqb c 32 || (eqb c 40 || (eqb c 41 || eqb c 44))) ≡ true → in_class Numeric c ≡ false
not_figure c h = grind (arith, nat_tests, h)

stops_word : (rest : List ℕ) → is_safe rest ≡ true → span Word rest ≡ ([], rest)
stops_word [] h = refl
stops_word (c ∷ cs) h = stops_by Word c cs (span Word cs) (not_word c h)

stops_figure : (rest : List ℕ) → is_safe rest ≡ true → span Numeric rest ≡ ([], rest)
stops_figure [] h = refl
stops_figure (c ∷ cs) h = stops_by Numeric c cs (span Numeric cs) (not_figure c h)

goes_by : (k : CharClass) (c : ℕ) (cs front rest : List ℕ) (p : List ℕ × List ℕ) → in_class k c ≡ true → p ≡ (front, rest) → span_step (in_class k c) c cs p ≡ (c ∷ front, rest)
goes_by k c cs front rest p e h = ap (λ b. span_step b c cs p) e ∙ ap (λ (q : List ℕ × List ℕ). (c ∷ q.0, q.1)) h

split_and : (a b : Bool) → (a && b) ≡ true → (a ≡ true) × (b ≡ true)
split_and true b h = (refl, h)
split_and false b h = absurd (cc)

split_or : (a b : Bool) → (a || b) ≡ false → (a ≡ false) × (b ≡ false)
split_or true b h = absurd (cc)
split_or false b h = (refl, h)

span_word : (w rest : List ℕ) → list_all (λ d. letter d || digit d) w ≡ true → is_safe rest ≡ true → span Word (w ++ rest) ≡ (w, rest)
span_word [] rest h s = stops_word rest s
span_word (c ∷ cs) rest h s =
    let k = split_and (letter c || digit c) (list_all (λ d. letter d || digit d) cs) h in
    goes_by Word c (cs ++ rest) cs rest (span Word (cs ++ rest)) k.0 (span_word cs rest k.1 s)

digit_figure : (c : ℕ) → is_ascii_digit c ≡ true → in_class Numeric c ≡ true
digit_figure c h = rw h refl

span_figure : (w rest : List ℕ) → all_ascii_digits w ≡ true → is_safe rest ≡ true → span Numeric (w ++ rest) ≡ (w, rest)
span_figure [] rest h s = stops_figure rest s
span_figure (c ∷ cs) rest h s =
    let k = split_and (is_ascii_digit c) (all_ascii_digits cs) h in
    goes_by Numeric c (cs ++ rest) cs rest (span Numeric (cs ++ rest)) (digit_figure c k.0) (span_figure cs rest k.1 s)

of_letter : (c : ℕ) → letter c ≡ true → (eqb c 34 ≡ false) × (is_ascii_digit c ≡ false) × (eqb c 32 ≡ false)
of_letter c h = (grind (arith, nat_tests, h), grind (arith, nat_tests, h), grind (arith, nat_tests, h))

of_digit : (c : ℕ) → is_ascii_digit c ≡ true → (eqb c 34 ≡ false) × (eqb c 32 ≡ false)
of_digit c h = (grind (arith, nat_tests, h), grind (arith, nat_tests, h))

at_letter : (c : ℕ) (cs : List ℕ) → letter c ≡ true → token_at (c ∷ cs) ≡ Some (word_and_rest (span Word (c ∷ cs)))
at_letter c cs h = let o = of_letter c h in rw (o.0, o.1, h) refl

at_digit : (c : ℕ) (cs : List ℕ) → is_ascii_digit c ≡ true → token_at (c ∷ cs) ≡ number_and_rest (span Numeric (c ∷ cs))
at_digit c cs h = let o = of_digit c h in rw (o.0, h) refl

behind : (c : ℕ) (cs rest : List ℕ) → length rest ≤ length (cs ++ rest)
behind c cs rest = omega (arith, length-append cs rest)

letters : (c : ℕ) (cs : List ℕ) → letter c ≡ true → list_all (λ d. letter d || digit d) cs ≡ true → list_all (λ d. letter d || digit d) (c ∷ cs) ≡ true
letters c cs h k = rw h k

pub word_lexed : (w : List ℕ) (t : Token) (rest : List ℕ) (ts : List Token) → word_token w ≡ t → has_identifier_characters w ≡ true → is_safe rest ≡ true → Lexed rest ts → Lexed (w ++ rest) (t ∷ ts)
word_lexed [] t rest ts e h s d = absurd (cc)
word_lexed (c ∷ cs) t rest ts e h s d =
    let k = split_and (letter c) (list_all (λ d. letter d || digit d) cs) h in
    let all : list_all (λ d. letter d || digit d) (c ∷ cs) ≡ true = letters c cs k.0 k.1 in
    first ((of_letter c k.0).2)
    (at_letter c (cs ++ rest) k.0 ∙ ap (λ p. Some (word_and_rest p)) (span_word (c ∷ cs) rest all s) ∙ ap (λ z. Some (z, rest)) e)
    (behind c cs rest) d

no_key : (b : Bool) (k : Keyword) (rest : Option Keyword) → b ≡ false → rest ≡ None → cond b (Some k) rest ≡ None
no_key b k rest h e = rw h e

not_true : (b : Bool) → not b ≡ true → b ≡ false
not_true true e = absurd (cc)
not_true false e = refl

name_by : (w : List ℕ) → list_any (bytes_eq w) reserved_words ≡ false → (bytes_eq w (codes "and") ≡ false) × (bytes_eq w (codes "or") ≡ false) × (keyword_of w ≡ None)
unfolding keyword_of
name_by w e =
    let function_ = split_or (bytes_eq w (codes "function")) _ e in
    let end_ = split_or (bytes_eq w (codes "end")) _ function_.1 in
    let let_ = split_or (bytes_eq w (codes "let")) _ end_.1 in
    let read_ = split_or (bytes_eq w (codes "read")) _ let_.1 in
    let write_ = split_or (bytes_eq w (codes "write")) _ read_.1 in
    let spawn_ = split_or (bytes_eq w (codes "spawn")) _ write_.1 in
    let join_ = split_or (bytes_eq w (codes "join")) _ spawn_.1 in
    let push_ = split_or (bytes_eq w (codes "push")) _ join_.1 in
    let pop_ = split_or (bytes_eq w (codes "pop")) _ push_.1 in
    let begin_ = split_or (bytes_eq w (codes "begin")) _ pop_.1 in
    let commit_ = split_or (bytes_eq w (codes "commit")) _ begin_.1 in
    let if_ = split_or (bytes_eq w (codes "if")) _ commit_.1 in
    let else_ = split_or (bytes_eq w (codes "else")) _ if_.1 in
    let while_ = split_or (bytes_eq w (codes "while")) _ else_.1 in
    let return_ = split_or (bytes_eq w (codes "return")) _ while_.1 in
    let and_ = split_or (bytes_eq w (codes "and")) _ return_.1 in
    let or_ = split_or (bytes_eq w (codes "or")) _ and_.1 in
    let not_ = split_or (bytes_eq w (codes "not")) _ or_.1 in
    let none_ = split_or (bytes_eq w (codes "none")) _ not_.1 in
    let text_ = split_or (bytes_eq w (codes "text")) _ none_.1 in
    let len_ = split_or (bytes_eq w (codes "len")) _ text_.1 in (
      and_.0,
      or_.0,
      no_key (bytes_eq w (codes "let")) keys.Let _ let_.0 (
          no_key (bytes_eq w (codes "read")) keys.Read _ read_.0 (
          no_key (bytes_eq w (codes "write")) keys.Write _ write_.0 (
          no_key (bytes_eq w (codes "return")) keys.Return _ return_.0 (
          no_key (bytes_eq w (codes "end")) keys.End _ end_.0 (
          no_key (bytes_eq w (codes "if")) keys.If _ if_.0 (
          no_key (bytes_eq w (codes "else")) keys.Else _ else_.0 (
          no_key (bytes_eq w (codes "while")) keys.While _ while_.0 (
          no_key (bytes_eq w (codes "not")) keys.Not _ not_.0 (
          no_key (bytes_eq w (codes "none")) keys.Nothing _ none_.0 (
          no_key (bytes_eq w (codes "text")) keys.TextOf _ text_.0 (
          no_key (bytes_eq w (codes "len")) keys.Len _ len_.0 (
          no_key (bytes_eq w (codes "function")) keys.Function _ function_.0 (
          no_key (bytes_eq w (codes "spawn")) keys.Spawn _ spawn_.0 (
          no_key (bytes_eq w (codes "join")) keys.Join _ join_.0 (
          no_key (bytes_eq w (codes "push")) keys.Push _ push_.0 (
          no_key (bytes_eq w (codes "pop")) keys.Pop _ pop_.0 (
          no_key (bytes_eq w (codes "begin")) keys.Begin _ begin_.0 (
          no_key (bytes_eq w (codes "commit")) keys.Commit _ commit_.0 (
          refl))))))))))))))))))),
    )

name_token : (w : List ℕ) → list_any (bytes_eq w) reserved_words ≡ false → word_token w ≡ tokens.Name w
unfolding word_token
name_token w e =
    let h = name_by w e in
    ap (λ b. cond b (tokens.Op ops.And) (cond (bytes_eq w (codes "or")) (tokens.Op ops.Or) (keyword_or_name w (keyword_of w)))) h.0
    ∙ ap (λ b. cond b (tokens.Op ops.Or) (keyword_or_name w (keyword_of w))) h.1
    ∙ ap (keyword_or_name w) h.2

pub name_lexed : (w rest : List ℕ) (ts : List Token) → is_identifier w ≡ true → is_safe rest ≡ true → Lexed rest ts → Lexed (w ++ rest) (tokens.Name w ∷ ts)
name_lexed w rest ts h s d =
    let k = split_and (has_identifier_characters w && leb (length w) 32) (not (list_any (bytes_eq w) reserved_words)) h in
    let i = split_and (has_identifier_characters w) (leb (length w) 32) k.0 in
    word_lexed w (tokens.Name w) rest ts (name_token w (not_true _ k.1)) i.0 s d

from_num : (w : List ℕ) (n : ℕ) (b : Bool) → (is_numeral w && ltb (digits_value 10 w) (2 ^ 64)) ≡ b → cond b (Some (digits_value 10 w)) None ≡ Some n → is_numeral w ≡ true
from_num w n true e h = (split_and _ _ e).0
from_num w n false e h = absurd (cc)

numeral_of : (w : List ℕ) (n : ℕ) → num_of w ≡ Some n → is_numeral w ≡ true
numeral_of w n e = from_num w n (is_numeral w && ltb (digits_value 10 w) (2 ^ 64)) refl e

number_is : (w : List ℕ) (n : ℕ) → is_numeral w ≡ true → num_of w ≡ Some n → number_token w ≡ Some (tokens.Numeral (Some n))
number_is w n h e = ap (λ b. cond b (Some (tokens.Numeral (num_of w))) (cond (list_any (λ c. eqb c 46) w) (Some (tokens.Dotted w)) None)) h ∙ ap (λ o. Some (tokens.Numeral o)) e

figures : (w rest : List ℕ) (n : ℕ) (ts : List Token) → is_numeral w ≡ true → num_of w ≡ Some n → is_safe rest ≡ true → Lexed rest ts → Lexed (w ++ rest) (tokens.Numeral (Some n) ∷ ts)
figures [] rest n ts h e s d = absurd (cc)
figures (c ∷ cs) rest n ts h e s d =
    let k = split_and (ltb 0 (length (c ∷ cs)) && all_ascii_digits (c ∷ cs)) _ h in
    let all = split_and (ltb 0 (length (c ∷ cs))) (all_ascii_digits (c ∷ cs)) k.0 in
    let one = split_and (is_ascii_digit c) (all_ascii_digits cs) all.1 in
    first ((of_digit c one.0).1)
    (at_digit c (cs ++ rest) one.0 ∙ ap number_and_rest (span_figure (c ∷ cs) rest all.1 s) ∙ ap (with_rest rest) (number_is (c ∷ cs) n h e))
    (behind c cs rest) d

pub number_lexed : (n : ℕ) (rest : List ℕ) (ts : List Token) → n < 2 ^ 64 → is_safe rest ≡ true → Lexed rest ts → Lexed (decimal n ++ rest) (tokens.Numeral (Some n) ∷ ts)
number_lexed n rest ts l s d =
    let e = numeral-reads_back n l in figures (decimal n) rest n ts (numeral_of (decimal n) n e) e s d

first_digit : (w rest : List ℕ) → is_numeral w ≡ true → is_ascii_digit (slice_index (w ++ rest) 0) ≡ true
first_digit [] rest h = absurd (cc)
first_digit (c ∷ cs) rest h =
    let k = split_and (ltb 0 (length (c ∷ cs)) && all_ascii_digits (c ∷ cs)) _ h in
    let all = split_and (ltb 0 (length (c ∷ cs))) (all_ascii_digits (c ∷ cs)) k.0 in
    (split_and (is_ascii_digit c) (all_ascii_digits cs) all.1).0

at_minus : (cs : List ℕ) (b : Bool) → is_ascii_digit (slice_index cs 0) ≡ b → token_at (45 ∷ cs) ≡ Some (tokens.Minus b, cs)
unfolding double_symbol single_symbol
at_minus cs b e = ap (λ t. Some (tokens.Minus t, cs)) e

small : (n : ℕ) → is_i64 (pos n) ≡ true → n < 2 ^ 64
small n e = let h : ltb n (2 ^ 63) ≡ true = e in grind (arith, nat_tests, h)

below : (n : ℕ) → is_i64 (negsuc n) ≡ true → suc n < 2 ^ 64
below n e = grind (arith, nat_tests, ints, e)

int_by : (z : ℤ) (rest : List ℕ) (ts : List Token) → is_i64 z ≡ true → is_safe rest ≡ true → Lexed rest ts → Lexed (signed_decimal z ++ rest) (int_tokens z ++ ts)
int_by (pos n) rest ts f s d = number_lexed n rest ts (small n f) s d
int_by (negsuc n) rest ts f s d =
    let l : suc n < 2 ^ 64 = below n f in
    let e = numeral-reads_back (suc n) l in
    let h = numeral_of (decimal (suc n)) (suc n) e in
    first refl (at_minus (decimal (suc n) ++ rest) true (first_digit (decimal (suc n)) rest h)) (omega arith) (number_lexed (suc n) rest ts l s d)

text_lexed : (w rest : List ℕ) (ts : List Token) → Lexed rest ts → Lexed (quoted w ++ rest) (tokens.Text w ∷ ts)
text_lexed w rest ts d = first refl (ap quoted_and_rest (quoted-reads_back w rest)) (behind 34 _ rest) d

pub open_lexed : (rest : List ℕ) (ts : List Token) → Lexed rest ts → Lexed (40 ∷ rest) (tokens.Punctuation marks.Open ∷ ts)
unfolding double_symbol single_symbol
open_lexed rest ts d = first refl refl (omega arith) d

pub close_lexed : (rest : List ℕ) (ts : List Token) → Lexed rest ts → Lexed (41 ∷ rest) (tokens.Punctuation marks.Close ∷ ts)
unfolding double_symbol single_symbol
close_lexed rest ts d = first refl refl (omega arith) d

op_lexed : (o : BinOp) (rest : List ℕ) (ts : List Token) → Lexed rest ts → Lexed (op_text o ++ 32 ∷ rest) (op_token o ∷ ts)
unfolding double_symbol single_symbol word_token keyword_of
op_lexed ops.Or rest ts d = word_lexed (codes "or") (tokens.Op ops.Or) (32 ∷ rest) ts refl refl refl (space d)
op_lexed ops.And rest ts d = word_lexed (codes "and") (tokens.Op ops.And) (32 ∷ rest) ts refl refl refl (space d)
op_lexed ops.Eq rest ts d = first refl refl (omega arith) (space d)
op_lexed ops.Ne rest ts d = first refl refl (omega arith) (space d)
op_lexed ops.Lt rest ts d = first refl refl (omega arith) (space d)
op_lexed ops.Le rest ts d = first refl refl (omega arith) (space d)
op_lexed ops.Gt rest ts d = first refl refl (omega arith) (space d)
op_lexed ops.Ge rest ts d = first refl refl (omega arith) (space d)
op_lexed ops.Add rest ts d = first refl refl (omega arith) (space d)
op_lexed ops.Sub rest ts d = first refl refl (omega arith) (space d)
op_lexed ops.Glue rest ts d = first refl refl (omega arith) (space d)
op_lexed ops.Mul rest ts d = first refl refl (omega arith) (space d)
op_lexed ops.Div rest ts d = first refl refl (omega arith) (space d)
op_lexed ops.Rem rest ts d = first refl refl (omega arith) (space d)

wrapped_lexed : (b : Bool) (text rest : List ℕ) (us ts : List Token) → is_safe rest ≡ true → Lexed rest ts → ((r : List ℕ) (vs : List Token) → is_safe r ≡ true → Lexed r vs → Lexed (text ++ r) (us ++ vs)) → Lexed (paren_text b text ++ rest) (in_parens b us ++ ts)
wrapped_lexed false text rest us ts s d h = h rest ts s d
wrapped_lexed true text rest us ts s d h =
    let P : List Token → Type 0 = λ l. Lexed ((40 ∷ (text ++ codes ")")) ++ rest) (tokens.Punctuation marks.Open ∷ l) in
    let Q : List ℕ → Type 0 = λ l. Lexed (40 ∷ l) (tokens.Punctuation marks.Open ∷ (us ++ tokens.Punctuation marks.Close ∷ ts)) in
    subst P (sym (append_assoc us (tokens.Punctuation marks.Close ∷ []) ts))
    (subst Q (sym (append_assoc text (codes ")") rest))
    (open_lexed _ _ (h (41 ∷ rest) (tokens.Punctuation marks.Close ∷ ts) refl (close_lexed rest ts d))))

called_lexed : (w : List ℕ) (t : Token) (text rest : List ℕ) (us ts : List Token) → word_token w ≡ t → has_identifier_characters w ≡ true → Lexed rest ts → ((r : List ℕ) (vs : List Token) → is_safe r ≡ true → Lexed r vs → Lexed (text ++ r) (us ++ vs)) → Lexed ((w ++ (40 ∷ (text ++ codes ")"))) ++ rest) (t ∷ tokens.Punctuation marks.Open ∷ ((us ++ tokens.Punctuation marks.Close ∷ []) ++ ts))
called_lexed w t text rest us ts e i d h =
    let P : List Token → Type 0 = λ l. Lexed ((w ++ (40 ∷ (text ++ codes ")"))) ++ rest) (t ∷ tokens.Punctuation marks.Open ∷ l) in
    let Q : List ℕ → Type 0 = λ l. Lexed l (t ∷ tokens.Punctuation marks.Open ∷ (us ++ tokens.Punctuation marks.Close ∷ ts)) in
    let same : (w ++ (40 ∷ (text ++ codes ")"))) ++ rest ≡ w ++ (40 ∷ (text ++ (41 ∷ rest))) =
    append_assoc w (40 ∷ (text ++ codes ")")) rest ∙ ap (λ l. w ++ (40 ∷ l)) (append_assoc text (codes ")") rest) in
    subst P (sym (append_assoc us (tokens.Punctuation marks.Close ∷ []) ts))
    (subst Q (sym same)
    (word_lexed w t (40 ∷ (text ++ (41 ∷ rest))) _ e i refl (open_lexed _ _ (h (41 ∷ rest) (tokens.Punctuation marks.Close ∷ ts) refl (close_lexed rest ts d)))))

abbrev pub Lexes : List ℕ → List Token → Type 0
Lexes text us = (rest : List ℕ) (ts : List Token) → is_safe rest ≡ true → Lexed rest ts → Lexed (text ++ rest) (us ++ ts)

not_lexed : (text : List ℕ) (us : List Token) → Lexes text us → Lexes (codes "not " ++ text) (tokens.Keyword keys.Not ∷ us)
unfolding word_token keyword_of
not_lexed text us h rest ts s d = word_lexed (codes "not") (tokens.Keyword keys.Not) (32 ∷ (text ++ rest)) (us ++ ts) refl refl refl (space (h rest ts s d))

two_lexed : (o : BinOp) (left right : List ℕ) (us vs : List Token) → Lexes left us → Lexes right vs → Lexes (left & codes " " & op_text o & codes " " & right) (us ++ op_token o ∷ vs)
two_lexed o left right us vs h k rest ts s d =
    let same : (left ++ (32 ∷ (op_text o ++ (32 ∷ right)))) ++ rest ≡ left ++ (32 ∷ (op_text o ++ (32 ∷ (right ++ rest)))) =
    append_assoc left (32 ∷ (op_text o ++ (32 ∷ right))) rest ∙ ap (λ l. left ++ (32 ∷ l)) (append_assoc (op_text o) (32 ∷ right) rest) in
    let P : List ℕ → Type 0 = λ l. Lexed l ((us ++ op_token o ∷ vs) ++ ts) in
    let Q : List Token → Type 0 = λ l. Lexed (left ++ (32 ∷ (op_text o ++ (32 ∷ (right ++ rest))))) l in
    subst P (sym same)
    (subst Q (sym (append_assoc us (op_token o ∷ vs) ts))
    (h (32 ∷ (op_text o ++ (32 ∷ (right ++ rest)))) (op_token o ∷ (vs ++ ts)) refl (space (op_lexed o (right ++ rest) (vs ++ ts) (k rest ts s d)))))

pub expr_lexed : (x : Expr) (p : ℕ) → is_expr_in_limits x ≡ true → Lexes (expr_text p x) (tokens_of p x)
unfolding shape-the_row-Expr-0 hidden-the_row-Expr-0 hidden word_token keyword_of
expr_lexed (exprs.Int n) p f rest ts s d = int_by n rest ts f s d
expr_lexed (exprs.Text x) p f rest ts s d = text_lexed x rest ts d
expr_lexed exprs.Nothing p f rest ts s d = word_lexed (codes "none") (tokens.Keyword keys.Nothing) rest ts refl refl s d
expr_lexed (exprs.Var x) p f rest ts s d = name_lexed x rest ts f s d
expr_lexed (exprs.Not' p' (more_of-Expr a end_of-Expr)) p f rest ts s d =
    wrapped_lexed (ltb 3 p) (codes "not " ++ expr_text 3 a) rest (tokens.Keyword keys.Not ∷ tokens_of 3 a) ts s d (not_lexed (expr_text 3 a) (tokens_of 3 a) (expr_lexed a 3 f))
expr_lexed (exprs.Two' o p' (more_of-Expr a end_of-Expr) q' (more_of-Expr b end_of-Expr)) p f rest ts s d =
    let k = split_and (is_expr_in_limits a) (is_expr_in_limits b) f in
    wrapped_lexed (ltb (precedence o) p) _ rest (tokens_of (left_precedence (precedence o)) a ++ op_token o ∷ tokens_of (precedence o + 1) b) ts s d
    (two_lexed o (expr_text (left_precedence (precedence o)) a) (expr_text (precedence o + 1) b) (tokens_of (left_precedence (precedence o)) a) (tokens_of (precedence o + 1) b) (expr_lexed a (left_precedence (precedence o)) k.0) (expr_lexed b (precedence o + 1) k.1))
expr_lexed (exprs.TextOf' p' (more_of-Expr a end_of-Expr)) p f rest ts s d =
    called_lexed (codes "text") (tokens.Keyword keys.TextOf) (expr_text 0 a) rest (tokens_of 0 a) ts refl refl d (expr_lexed a 0 f)
expr_lexed (exprs.Len' p' (more_of-Expr a end_of-Expr)) p f rest ts s d =
    called_lexed (codes "len") (tokens.Keyword keys.Len) (expr_text 0 a) rest (tokens_of 0 a) ts refl refl d (expr_lexed a 0 f)

pub expr_text_lexes : (x : Expr) → is_expr_in_limits x ≡ true → tokens_in (expr_text 0 x) ≡ Some (tokens_of 0 x)
expr_text_lexes x f =
    let d = expr_lexed x 0 f [] [] refl none in
    let P : List ℕ → Type 0 = λ l. Lexed l (tokens_of 0 x ++ []) in
    let Q : List Token → Type 0 = λ l. Lexed (expr_text 0 x) l in
    lexed_in (expr_text 0 x) (tokens_of 0 x) (subst Q (append-nil (tokens_of 0 x)) (subst P (append-nil (expr_text 0 x)) d))
