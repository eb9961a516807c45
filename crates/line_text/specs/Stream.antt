-- The first tokens of those that are left.
use Rattle.std.specs.Prelude.{ℕ, Bool, true, false, List, [], ◌∷◌, Option, Some, None, ◌==◌, if◌then◌else◌}
use Rattle.line_text.specs.declared.token.Keyword.{Keyword}
use Rattle.line_text.specs.declared.token.Punctuation.{Punctuation}
use Rattle.line_text.specs.declared.token.Punctuation.TheVariants as m
use Rattle.line_text.specs.declared.token.Token.{Token}
use Rattle.line_text.specs.declared.token.Token.TheVariants as t

abbrev pub punctuation_code : Punctuation → ℕ
punctuation_code m.Open = 0
punctuation_code m.Close = 1
punctuation_code m.Comma = 2
punctuation_code m.Assign = 3

abbrev pub same_punctuation : Punctuation → Punctuation → Bool
same_punctuation a b = punctuation_code a == punctuation_code b

-- the mark that stands first
abbrev pub punctuation_at : List Token → Option Punctuation
punctuation_at [] = None
punctuation_at (t.Punctuation mark ∷ ts) = Some mark
punctuation_at (_ ∷ ts) = None

-- what is left where the mark stands first
abbrev pub take_punctuation : Punctuation → List Token → Bool × List Token
take_punctuation mark [] = (false, [])
take_punctuation mark (t.Punctuation first ∷ ts) = if same_punctuation first mark then (true, ts) else (false, t.Punctuation first ∷ ts)
take_punctuation mark (token ∷ ts) = (false, token ∷ ts)

-- what was read, where something was, and the tokens behind it
abbrev pub found_before : {A : Type 0} → List Token → Option A → Option (A × List Token)
found_before ts None = None
found_before ts (Some x) = Some (x, ts)

-- the reserved word that stands first
abbrev pub keyword_at : List Token → Option Keyword
keyword_at (t.Keyword key ∷ ts) = Some key
keyword_at _ = None
