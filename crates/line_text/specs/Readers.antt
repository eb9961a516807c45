-- Reading values from tokens.
use Rattle.std.specs.Prelude.{◌==◌, ℕ, ◌^◌, pos, neg_ℤ, Bool, true, false, List, [], ◌∷◌, length, Option, Some, None, option_and_then, nat_le, nat_lt, if◌then◌else◌}
use Rattle.lb_base.specs.declared.value.Value.{Value}
use Rattle.lb_base.specs.declared.value.Value.TheVariants as v
use Rattle.line_text.specs.declared.token.Keyword.TheVariants as k
use Rattle.line_text.specs.declared.token.Punctuation.{Punctuation}
use Rattle.line_text.specs.declared.token.Token.{Token}
use Rattle.line_text.specs.declared.token.Token.TheVariants as t
use Rattle.line_text.specs.declared.checked.Checked.{Checked}
use Rattle.line_text.specs.declared.checked.Checked.TheVariants as r
use Rattle.line_text.specs.Stream.{take_punctuation}
use Rattle.line_text.specs.Checks.{checked_if}

infixl 10 ◌>>=◌
abbrev pub ◌>>=◌ : {A B : Type 0} → Option A → (A → Option B) → Option B
o >>= f = option_and_then f o

-- A reader takes a front of the tokens: it answers what that stands for, and the tokens behind it; None where a token doesn't
-- fit.
abbrev pub Reader : Type 0 → Type 0
Reader A = List Token → Option (Checked A × List Token)

-- the tokens behind a mark
abbrev pub rest_if : Bool × List Token → Option (List Token)
rest_if (true, ts) = Some ts
rest_if (false, ts) = None

abbrev pub expect : Punctuation → List Token → Option (List Token)
expect mark ts = rest_if (take_punctuation mark ts)

-- Something alone on its line.
abbrev pub if_at_end : {A : Type 0} → List Token → Checked A → Option (Checked A)
if_at_end [] x = Some x
if_at_end (t ∷ ts) x = None

-- a numeral, and a quoted text of any length
abbrev pub numeral_at : List Token → Option (Option ℕ × List Token)
numeral_at (t.Numeral n ∷ ts) = Some (n, ts)
numeral_at _ = None

abbrev pub text_at : List Token → Option (List ℕ × List Token)
text_at (t.Text x ∷ ts) = Some (x, ts)
text_at _ = None

-- a name of at most 32 bytes
abbrev pub name_at : Reader (List ℕ)
name_at (t.Name x ∷ ts) = Some (checked_if (nat_le (length x) 32) x, ts)
name_at _ = None

-- `-0` is no integer
abbrev pub is_zero : Option ℕ → Bool
is_zero None = false
is_zero (Some n) = n == 0

-- a value: an integer, a quoted text or `none`
abbrev pub positive_value : Option ℕ → Checked Value
positive_value None = r.OutOfRange
positive_value (Some n) = if nat_lt n (2 ^ 63) then r.Valid (v.Int (pos n)) else r.OutOfRange

abbrev pub negative_value : Option ℕ → Checked Value
negative_value None = r.OutOfRange
negative_value (Some n) = if nat_le n (2 ^ 63) then r.Valid (v.Int (neg_ℤ (pos n))) else r.OutOfRange

abbrev pub minus_value : List Token → Option (Checked Value × List Token)
minus_value (t.Numeral n ∷ ts) = if is_zero n then None else Some (negative_value n, ts)
minus_value _ = None

abbrev pub value_at : Reader Value
value_at (t.Numeral n ∷ ts) = Some (positive_value n, ts)
value_at (t.Minus true ∷ ts) = minus_value ts
value_at (t.Text x ∷ ts) = Some (checked_if (nat_le (length x) 256) (v.Text x), ts)
value_at (t.Keyword k.Nothing ∷ ts) = Some (r.Valid v.Nothing, ts)
value_at _ = None
