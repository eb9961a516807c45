-- The tokens of a line. Spaces may stand between them, and each is the longest that begins where it does.
use Rattle.std.specs.Prelude.{ℕ, zero, suc, ◌+◌, Bool, true, false, ◌&&◌, ◌||◌, List, [], ◌∷◌, length, drop, Option, Some, None, ◌==◌, nat_le, nat_lt, if◌then◌else◌, slice_index, bytes_eq, codes}
use Rattle.std.specs.List.{list_any}
use Rattle.std.specs.Char.{is_ascii_digit}
use Rattle.lb_base.specs.Numeral.{is_numeral, num_of}
use Rattle.lb_base.specs.Quoted.{quoted_at}
use Rattle.boki_types.specs.declared.expr.BinOp.TheVariants as o
use Rattle.line_text.specs.declared.token.Keyword.{Keyword}
use Rattle.line_text.specs.declared.token.Keyword.TheVariants as k
use Rattle.line_text.specs.declared.token.Punctuation.TheVariants as m
use Rattle.line_text.specs.declared.token.Token.{Token}
use Rattle.line_text.specs.declared.token.Token.TheVariants as t
use Rattle.line_text.specs.declared.spans.CharClass.{CharClass}
use Rattle.line_text.specs.declared.spans.CharClass.TheVariants.{Numeric, Word, Space}

abbrev pub is_letter : ℕ → Bool
is_letter c = (nat_le 65 c && nat_le c 90) || (nat_le 97 c && nat_le c 122) || (c == 95)

-- digits and dots; letters, digits and `_`; spaces
abbrev pub in_class : CharClass → ℕ → Bool
in_class Numeric c = is_ascii_digit c || (c == 46)
in_class Word c = is_letter c || is_ascii_digit c
in_class Space c = c == 32

-- the longest front of characters of a class, and what follows it
abbrev pub span_step : Bool → ℕ → List ℕ → List ℕ × List ℕ → List ℕ × List ℕ
span_step true c cs p = (c ∷ p.0, p.1)
span_step false c cs p = ([], c ∷ cs)

abbrev pub span : CharClass → List ℕ → List ℕ × List ℕ
span class [] = ([], [])
span class (c ∷ cs) = span_step (in_class class c) c cs (span class cs)

-- a number: a numeral, or figures with a dot
abbrev pub number_token : List ℕ → Option Token
number_token text =
    if is_numeral text then Some (t.Numeral (num_of text))
    else if list_any (λ c. c == 46) text then Some (t.Dotted text) else None

abbrev pub with_rest : List ℕ → Option Token → Option (Token × List ℕ)
with_rest rest None = None
with_rest rest (Some token) = Some (token, rest)

abbrev pub number_and_rest : List ℕ × List ℕ → Option (Token × List ℕ)
number_and_rest p = with_rest p.1 (number_token p.0)

abbrev pub quoted_and_rest : Option (List ℕ × List ℕ) → Option (Token × List ℕ)
quoted_and_rest None = None
quoted_and_rest (Some q) = Some (t.Text q.0, q.1)

-- the reserved words
unfoldable pub keyword_of : List ℕ → Option Keyword
keyword_of word =
    if bytes_eq word (codes "let") then Some k.Let else if bytes_eq word (codes "read") then Some k.Read
    else if bytes_eq word (codes "write") then Some k.Write else if bytes_eq word (codes "return") then Some k.Return
    else if bytes_eq word (codes "end") then Some k.End else if bytes_eq word (codes "if") then Some k.If
    else if bytes_eq word (codes "else") then Some k.Else else if bytes_eq word (codes "while") then Some k.While
    else if bytes_eq word (codes "not") then Some k.Not else if bytes_eq word (codes "none") then Some k.Nothing
    else if bytes_eq word (codes "text") then Some k.TextOf else if bytes_eq word (codes "len") then Some k.Len
    else if bytes_eq word (codes "function") then Some k.Function else if bytes_eq word (codes "spawn") then Some k.Spawn
    else if bytes_eq word (codes "join") then Some k.Join else if bytes_eq word (codes "push") then Some k.Push
    else if bytes_eq word (codes "pop") then Some k.Pop else if bytes_eq word (codes "begin") then Some k.Begin
    else if bytes_eq word (codes "commit") then Some k.Commit else None

-- a word that isn't reserved is a name
abbrev pub keyword_or_name : List ℕ → Option Keyword → Token
keyword_or_name word None = t.Name word
keyword_or_name word (Some key) = t.Keyword key

unfoldable pub word_token : List ℕ → Token
word_token word =
    if bytes_eq word (codes "and") then t.Op o.And else if bytes_eq word (codes "or") then t.Op o.Or else keyword_or_name word (keyword_of word)

abbrev pub word_and_rest : List ℕ × List ℕ → Token × List ℕ
word_and_rest p = (word_token p.0, p.1)

-- what two characters spell
unfoldable pub double_symbol : ℕ → ℕ → Option Token
double_symbol c d =
    if (c == 43) && (d == 43) then Some (t.Op o.Glue) else if (c == 61) && (d == 61) then Some (t.Op o.Eq)
    else if (c == 33) && (d == 61) then Some (t.Op o.Ne) else if (c == 60) && (d == 61) then Some (t.Op o.Le)
    else if (c == 62) && (d == 61) then Some (t.Op o.Ge) else None

-- what one character spells; a minus right before a digit is told from others
unfoldable pub single_symbol : ℕ → ℕ → Option Token
single_symbol c d =
    if c == 40 then Some (t.Punctuation m.Open) else if c == 41 then Some (t.Punctuation m.Close)
    else if c == 44 then Some (t.Punctuation m.Comma) else if c == 61 then Some (t.Punctuation m.Assign)
    else if c == 43 then Some (t.Op o.Add) else if c == 45 then Some (t.Minus (is_ascii_digit d))
    else if c == 42 then Some (t.Op o.Mul) else if c == 47 then Some (t.Op o.Div)
    else if c == 37 then Some (t.Op o.Rem) else if c == 60 then Some (t.Op o.Lt)
    else if c == 62 then Some (t.Op o.Gt) else None

-- the longer one where both are spelled
abbrev pub longer_symbol : Option Token → Option Token → List ℕ → Option (Token × List ℕ)
longer_symbol (Some long) short cs = Some (long, drop 1 cs)
longer_symbol None short cs = with_rest cs short

abbrev pub symbol_and_rest : ℕ → List ℕ → Option (Token × List ℕ)
symbol_and_rest c cs = longer_symbol (double_symbol c (slice_index cs 0)) (single_symbol c (slice_index cs 0)) cs

-- the token that begins a text, and what follows it
abbrev pub token_at : List ℕ → Option (Token × List ℕ)
token_at [] = None
token_at (c ∷ cs) =
    if c == 34 then quoted_and_rest (quoted_at (c ∷ cs))
    else if is_ascii_digit c then number_and_rest (span Numeric (c ∷ cs))
    else if is_letter c then Some (word_and_rest (span Word (c ∷ cs)))
    else if nat_lt c 128 then symbol_and_rest c cs else None

abbrev pub with_token : Token → Option (List Token) → Option (List Token)
with_token token None = None
with_token token (Some ts) = Some (token ∷ ts)

-- the first token of what is left, and those that others gives behind it
abbrev pub lex_rest : (List ℕ → Option (List Token)) → Option (Token × List ℕ) → Option (List Token)
lex_rest others None = None
lex_rest others (Some p) = with_token p.0 (others p.1)

abbrev pub lex_behind_spaces : (List ℕ → Option (List Token)) → List ℕ → Option (List Token)
lex_behind_spaces others [] = Some []
lex_behind_spaces others (c ∷ cs) = lex_rest others (token_at (c ∷ cs))

-- the tokens of a text, of which there are fewer than so many
abbrev pub lex_fewer_than : ℕ → List ℕ → Option (List Token)
lex_fewer_than zero text = None
lex_fewer_than (suc n) text = lex_behind_spaces (lex_fewer_than n) (span Space text).1

-- the tokens of a text; None where something in it spells none
abbrev pub tokens_in : List ℕ → Option (List Token)
tokens_in text = lex_fewer_than (length text + 1) text
