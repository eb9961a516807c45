-- Lists with commas between their elements.
use Rattle.std.specs.Prelude.{◌++◌, ℕ, zero, suc, ◌+◌, Bool, true, false, List, [], ◌∷◌, length, Option, Some, None, option_map, nat_le, if◌then◌else◌}
use Rattle.line_text.specs.declared.token.Punctuation.TheVariants as m
use Rattle.line_text.specs.declared.token.Token.{Token}
use Rattle.line_text.specs.declared.checked.Checked.{Checked}
use Rattle.line_text.specs.declared.checked.Checked.TheVariants as r
use Rattle.line_text.specs.declared.lists.CommaList.{CommaList}
use Rattle.line_text.specs.Stream.{take_punctuation}
use Rattle.line_text.specs.Checks.{map_checked, both_checked}
use Rattle.line_text.specs.Readers.{Reader, expect}

-- Several, with commas between them, and how many they are.
abbrev pub cons : {A : Type 0} → Checked A → Checked (List A) → Checked (List A)
cons x xs = map_checked (λ p. p.0 ∷ p.1) (both_checked x xs)

abbrev pub with_one_more : {A : Type 0} → Checked A → Option (CommaList A × List Token) → Option (CommaList A × List Token)
with_one_more x None = None
with_one_more x (Some p) = Some (record { count = p.0.count + 1; items = cons x p.0.items }, p.1)

abbrev pub more_if_comma : {A : Type 0} → (List Token → Option (CommaList A × List Token)) → Checked A → Bool × List Token → Option (CommaList A × List Token)
more_if_comma others x (true, ts) = with_one_more x (others ts)
more_if_comma others x (false, ts) = Some (record { count = 1; items = cons x (r.Valid []) }, ts)

abbrev pub many_behind : {A : Type 0} → (List Token → Option (CommaList A × List Token)) → Option (Checked A × List Token) → Option (CommaList A × List Token)
many_behind others None = None
many_behind others (Some p) = more_if_comma others p.0 (take_punctuation m.Comma p.1)

-- at most so many
abbrev pub at_most : {A : Type 0} → Reader A → ℕ → List Token → Option (CommaList A × List Token)
at_most read zero ts = None
at_most read (suc n) ts = many_behind (at_most read n) (read ts)

-- each takes a token
abbrev pub comma_list : {A : Type 0} → Reader A → List Token → Option (CommaList A × List Token)
comma_list read ts = at_most read (length ts) ts

-- at most eight
abbrev pub up_to_eight : {A : Type 0} → CommaList A → Checked (List A)
up_to_eight xs = if nat_le xs.count 8 then xs.items else r.OutOfRange

-- what stands in parentheses, none or more, up to the closing one
abbrev pub closed_list : {A : Type 0} → Option (CommaList A × List Token) → Option (CommaList A × List Token)
closed_list None = None
closed_list (Some p) = option_map (λ ts. (p.0, ts)) (expect m.Close p.1)

abbrev pub paren_list_by : {A : Type 0} → Reader A → Bool × List Token → Option (CommaList A × List Token)
paren_list_by read (true, ts) = Some (record { count = 0; items = r.Valid [] }, ts)
paren_list_by read (false, ts) = closed_list (comma_list read ts)

abbrev pub paren_list : {A : Type 0} → Reader A → List Token → Option (CommaList A × List Token)
paren_list read ts = paren_list_by read (take_punctuation m.Close ts)

-- with one more at its end
abbrev pub snoc : {A : Type 0} → Checked (List A) → Checked A → Checked (List A)
snoc xs x = map_checked (λ p. p.0 ++ p.1 ∷ []) (both_checked xs x)
