-- The names among the tokens of a text are words, and not reserved.
use Rattle.std.proofs.Common.{◌≡◌, ℕ, zero, suc, ◌+◌, Bool, true, false, cond, eqb, ltb, List, [], ◌∷◌, length, Option, Some, None, refl, ap, ◌∙◌, subst}
use Rattle.std.specs.Prelude.{IfSome, ◌&&◌, ◌||◌, not, bytes_eq, codes, slice_index}
use Rattle.std.specs.List.{list_all, list_any}
use Rattle.std.specs.Char.{is_ascii_digit}
use Rattle.boki_types.specs.declared.expr.BinOp.TheVariants as ops
use Rattle.boki_model.specs.Bodies.{is_letter as letter, is_digit as digit, has_identifier_characters, reserved_words}
use Rattle.line_text.specs.declared.token.Keyword.{Keyword}
use Rattle.line_text.specs.declared.token.Keyword.TheVariants as keys
use Rattle.line_text.specs.declared.token.Token.{Token}
use Rattle.line_text.specs.declared.token.Token.TheVariants as tokens
use Rattle.line_text.specs.declared.spans.CharClass.TheVariants.{Numeric, Word, Space}
use Rattle.lb_base.specs.Quoted.{quoted_at}
use Rattle.lb_base.specs.Numeral.{is_numeral}
use Rattle.line_text.specs.Tokens.{is_letter, in_class, span, span_step, number_token, with_rest, quoted_and_rest, keyword_of, keyword_or_name, word_token, double_symbol, single_symbol, longer_symbol, token_at, with_token, lex_fewer_than, lex_rest, lex_behind_spaces, tokens_in}
use Rattle.line_text.specs.declared.lines.LexedLine.TheVariants as lines
use Rattle.line_text.specs.Lines.{line_of_tokens, line_behind_spaces, lexed_line}

abbrev pub is_unreserved_word : List ℕ → Bool
is_unreserved_word w = has_identifier_characters w && not (list_any (bytes_eq w) reserved_words)

abbrev pub NameValid : Token → Type 0
NameValid (tokens.Name w) = is_unreserved_word w ≡ true
NameValid _ = Unit {0}

abbrev pub NamesValid : List Token → Type 0
NamesValid [] = Unit {0}
NamesValid (t ∷ ts) = NameValid t × NamesValid ts

abbrev MaybeNameValid : Option Token → Type 0
MaybeNameValid o = IfSome o (λ t. NameValid t)

abbrev FirstNameValid : Option (Token × List ℕ) → Type 0
FirstNameValid o = IfSome o (λ p. NameValid p.0)

pick : (b : Bool) (x y : Option Token) → MaybeNameValid x → MaybeNameValid y → MaybeNameValid (cond b x y)
pick true x y h k = h
pick false x y h k = k

pick_first : (b : Bool) (x y : Option (Token × List ℕ)) → (b ≡ true → FirstNameValid x) → FirstNameValid y → FirstNameValid (cond b x y)
pick_first true x y h k = h refl
pick_first false x y h k = k

single_good : (c d : ℕ) → MaybeNameValid (single_symbol c d)
unfolding single_symbol
single_good c d =
    pick (eqb c 40) _ _ tt (pick (eqb c 41) _ _ tt (pick (eqb c 44) _ _ tt (pick (eqb c 61) _ _ tt (pick (eqb c 43) _ _ tt (pick (eqb c 45) _ _ tt
    (pick (eqb c 42) _ _ tt (pick (eqb c 47) _ _ tt (pick (eqb c 37) _ _ tt (pick (eqb c 60) _ _ tt (pick (eqb c 62) _ _ tt tt))))))))))

double_good : (c d : ℕ) → MaybeNameValid (double_symbol c d)
unfolding double_symbol
double_good c d =
    pick (eqb c 43 && eqb d 43) _ _ tt (pick (eqb c 61 && eqb d 61) _ _ tt (pick (eqb c 33 && eqb d 61) _ _ tt (pick (eqb c 60 && eqb d 61) _ _ tt (pick (eqb c 62 && eqb d 61) _ _ tt tt))))

rest_good : (rest : List ℕ) (o : Option Token) → MaybeNameValid o → FirstNameValid (with_rest rest o)
rest_good rest None h = tt
rest_good rest (Some t) h = h

symbol_good : (o p : Option Token) (cs : List ℕ) → MaybeNameValid o → MaybeNameValid p → FirstNameValid (longer_symbol o p cs)
symbol_good None p cs h k = rest_good cs p k
symbol_good (Some t) p cs h k = h

number_good : (w : List ℕ) → MaybeNameValid (number_token w)
number_good w = pick (is_numeral w) _ _ tt (pick (list_any (λ c. eqb c 46) w) _ _ tt tt)

quoted_good : (o : Option (List ℕ × List ℕ)) → FirstNameValid (quoted_and_rest o)
quoted_good None = tt
quoted_good (Some q) = tt

skip : (b : Bool) (k : Keyword) (rest : Option Keyword) → cond b (Some k) rest ≡ None → (b ≡ false) × (rest ≡ None)
skip true k rest e = absurd (cc)
skip false k rest e = (refl, e)

neither : (a b : Bool) → a ≡ false → b ≡ false → (a || b) ≡ false
neither a b h k = rw (h, k) refl

unreserved : (w : List ℕ) → bytes_eq w (codes "and") ≡ false → bytes_eq w (codes "or") ≡ false → keyword_of w ≡ None → list_any (bytes_eq w) reserved_words ≡ false
unfolding keyword_of
unreserved w and_ or_ e =
    let let_ = skip (bytes_eq w (codes "let")) keys.Let _ e in
    let read_ = skip (bytes_eq w (codes "read")) keys.Read _ let_.1 in
    let write_ = skip (bytes_eq w (codes "write")) keys.Write _ read_.1 in
    let return_ = skip (bytes_eq w (codes "return")) keys.Return _ write_.1 in
    let end_ = skip (bytes_eq w (codes "end")) keys.End _ return_.1 in
    let if_ = skip (bytes_eq w (codes "if")) keys.If _ end_.1 in
    let else_ = skip (bytes_eq w (codes "else")) keys.Else _ if_.1 in
    let while_ = skip (bytes_eq w (codes "while")) keys.While _ else_.1 in
    let not_ = skip (bytes_eq w (codes "not")) keys.Not _ while_.1 in
    let none_ = skip (bytes_eq w (codes "none")) keys.Nothing _ not_.1 in
    let text_ = skip (bytes_eq w (codes "text")) keys.TextOf _ none_.1 in
    let len_ = skip (bytes_eq w (codes "len")) keys.Len _ text_.1 in
    let function_ = skip (bytes_eq w (codes "function")) keys.Function _ len_.1 in
    let spawn_ = skip (bytes_eq w (codes "spawn")) keys.Spawn _ function_.1 in
    let join_ = skip (bytes_eq w (codes "join")) keys.Join _ spawn_.1 in
    let push_ = skip (bytes_eq w (codes "push")) keys.Push _ join_.1 in
    let pop_ = skip (bytes_eq w (codes "pop")) keys.Pop _ push_.1 in
    let begin_ = skip (bytes_eq w (codes "begin")) keys.Begin _ pop_.1 in
    let commit_ = skip (bytes_eq w (codes "commit")) keys.Commit _ begin_.1 in
    neither (bytes_eq w (codes "function")) _ function_.0 (
    neither (bytes_eq w (codes "end")) _ end_.0 (
    neither (bytes_eq w (codes "let")) _ let_.0 (
    neither (bytes_eq w (codes "read")) _ read_.0 (
    neither (bytes_eq w (codes "write")) _ write_.0 (
    neither (bytes_eq w (codes "spawn")) _ spawn_.0 (
    neither (bytes_eq w (codes "join")) _ join_.0 (
    neither (bytes_eq w (codes "push")) _ push_.0 (
    neither (bytes_eq w (codes "pop")) _ pop_.0 (
    neither (bytes_eq w (codes "begin")) _ begin_.0 (
    neither (bytes_eq w (codes "commit")) _ commit_.0 (
    neither (bytes_eq w (codes "if")) _ if_.0 (
    neither (bytes_eq w (codes "else")) _ else_.0 (
    neither (bytes_eq w (codes "while")) _ while_.0 (
    neither (bytes_eq w (codes "return")) _ return_.0 (
    neither (bytes_eq w (codes "and")) _ and_ (
    neither (bytes_eq w (codes "or")) _ or_ (
    neither (bytes_eq w (codes "not")) _ not_.0 (
    neither (bytes_eq w (codes "none")) _ none_.0 (
    neither (bytes_eq w (codes "text")) _ text_.0 (
    neither (bytes_eq w (codes "len")) _ len_.0 (
    refl)))))))))))))))))))))

named_good : (w : List ℕ) (o : Option Keyword) → keyword_of w ≡ o → has_identifier_characters w ≡ true → bytes_eq w (codes "and") ≡ false → bytes_eq w (codes "or") ≡ false → NameValid (keyword_or_name w o)
named_good w None e h a b = rw (h, unreserved w a b e) refl
named_good w (Some k) e h a b = tt

word_by : (w : List ℕ) (s t : Bool) → bytes_eq w (codes "and") ≡ s → bytes_eq w (codes "or") ≡ t → has_identifier_characters w ≡ true → NameValid (cond s (tokens.Op ops.And) (cond t (tokens.Op ops.Or) (keyword_or_name w (keyword_of w))))
word_by w true t a b h = tt
word_by w false true a b h = tt
word_by w false false a b h = named_good w (keyword_of w) refl h a b

word_good : (w : List ℕ) → has_identifier_characters w ≡ true → NameValid (word_token w)
unfolding word_token
word_good w h = word_by w (bytes_eq w (codes "and")) (bytes_eq w (codes "or")) refl refl h

both_true : (a b : Bool) → a ≡ true → b ≡ true → (a && b) ≡ true
both_true a b h k = rw (h, k) refl

all_by : (b : Bool) (c : ℕ) (cs : List ℕ) (p : List ℕ × List ℕ) → (letter c || digit c) ≡ b → list_all (λ d. letter d || digit d) p.0 ≡ true → list_all (λ d. letter d || digit d) (span_step b c cs p).0 ≡ true
all_by true c cs p e h = both_true _ _ e h
all_by false c cs p e h = refl

same_class : (c : ℕ) → (letter c || digit c) ≡ in_class Word c
same_class c = refl

span_words : (cs : List ℕ) → list_all (λ d. letter d || digit d) (span Word cs).0 ≡ true
span_words [] = refl
span_words (c ∷ cs) = all_by (in_class Word c) c cs (span Word cs) (same_class c) (span_words cs)

first_by : (b : Bool) (c : ℕ) (cs : List ℕ) (p : List ℕ × List ℕ) → b ≡ true → letter c ≡ true → list_all (λ d. letter d || digit d) p.0 ≡ true → has_identifier_characters (span_step b c cs p).0 ≡ true
first_by true c cs p e l h = both_true _ _ l h
first_by false c cs p e l h = absurd (cc)

class_of_letter : (c : ℕ) → is_letter c ≡ true → in_class Word c ≡ true
class_of_letter c h = rw h refl

span_word : (c : ℕ) (cs : List ℕ) → is_letter c ≡ true → has_identifier_characters (span Word (c ∷ cs)).0 ≡ true
span_word c cs h = first_by (in_class Word c) c cs (span Word cs) (class_of_letter c h) h (span_words cs)

first_good : (c : ℕ) (cs : List ℕ) → FirstNameValid (token_at (c ∷ cs))
first_good c cs =
    pick_first (eqb c 34) _ _ (λ _. quoted_good (quoted_at (c ∷ cs)))
    (pick_first (is_ascii_digit c) _ _ (λ _. rest_good (span Numeric (c ∷ cs)).1 _ (number_good (span Numeric (c ∷ cs)).0))
    (pick_first (is_letter c) _ _ (λ h. word_good (span Word (c ∷ cs)).0 (span_word c cs h))
    (pick_first (ltb c 128) _ None (λ _. symbol_good (double_symbol c (slice_index cs 0)) (single_symbol c (slice_index cs 0)) cs (double_good c (slice_index cs 0)) (single_good c (slice_index cs 0))) (tt {0}))))

after_first : (t : Token) (o : Option (List Token)) (ts : List Token) → NameValid t → ((us : List Token) → o ≡ Some us → NamesValid us) → with_token t o ≡ Some ts → NamesValid ts
after_first t None ts g h e = absurd (cc)
after_first t (Some us) ts g h e =
    let f : t ∷ us ≡ ts = cc in
    subst NamesValid f (g, h us refl)

on_first : (others : List ℕ → Option (List Token)) (o : Option (Token × List ℕ)) (ts : List Token) → FirstNameValid o → ((rest : List ℕ) (us : List Token) → others rest ≡ Some us → NamesValid us) → lex_rest others o ≡ Some ts → NamesValid ts
on_first others None ts g h e = absurd (cc)
on_first others (Some p) ts g h e = after_first p.0 (others p.1) ts g (h p.1) e

by_front : (others : List ℕ → Option (List Token)) (front : List ℕ) (ts : List Token) → ((rest : List ℕ) (us : List Token) → others rest ≡ Some us → NamesValid us) → lex_behind_spaces others front ≡ Some ts → NamesValid ts
by_front others [] ts h e = let f : [] ≡ ts = cc in subst NamesValid f tt
by_front others (c ∷ cs) ts h e = on_first others (token_at (c ∷ cs)) ts (first_good c cs) h e

lexed_good : (n : ℕ) (text : List ℕ) (ts : List Token) → lex_fewer_than n text ≡ Some ts → NamesValid ts
lexed_good zero text ts e = absurd (cc)
lexed_good (suc n) text ts e = by_front (lex_fewer_than n) (span Space text).1 ts (lexed_good n) e

pub lexed_names_valid : (text : List ℕ) (ts : List Token) → tokens_in text ≡ Some ts → NamesValid ts
lexed_names_valid text ts e = lexed_good (length text + 1) text ts e

-- Lines.
spelled_good : (text : List ℕ) (o : Option (List Token)) (ts : List Token) → tokens_in text ≡ o → line_of_tokens o ≡ lines.Tokens ts → NamesValid ts
spelled_good text None ts e f = absurd (cc)
spelled_good text (Some us) ts e f = let g : us ≡ ts = cc in lexed_names_valid text ts (e ∙ ap (λ z. Some z) g)

behind_by : (c : ℕ) (cs : List ℕ) (ts : List Token) (b : Bool) → cond b lines.Skipped (line_of_tokens (tokens_in (c ∷ cs))) ≡ lines.Tokens ts → NamesValid ts
behind_by c cs ts true e = absurd (cc)
behind_by c cs ts false e = spelled_good (c ∷ cs) (tokens_in (c ∷ cs)) ts refl e

behind_good : (front : List ℕ) (ts : List Token) → line_behind_spaces front ≡ lines.Tokens ts → NamesValid ts
behind_good [] ts e = absurd (cc)
behind_good (c ∷ cs) ts e = behind_by c cs ts (eqb c 35) e

pub line_good : (line : List ℕ) (ts : List Token) → lexed_line line ≡ lines.Tokens ts → NamesValid ts
line_good line ts e = behind_good (span Space line).1 ts e
