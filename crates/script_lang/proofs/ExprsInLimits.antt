-- Parts that are spelled are within the limits.
use Rattle.std.proofs.Common.{◌≡◌, ℕ, zero, suc, ◌+◌, ◌<◌, ◌≤◌, ◌^◌, max, Bool, true, false, cond, ltb, leb, List, [], ◌∷◌, ◌++◌, length, Option, Some, None, refl, sym, ◌∙◌, subst, arith, pos, neg_ℤ, ℤ}
use Rattle.std.specs.Prelude.{◌&&◌, nat_le}
use Rattle.std.proofs.lemmas.Bool.Decides.{nat_tests}
use Rattle.std.proofs.lemmas.Int.{ints}
use denote.Hole.Carrier.{hidden}
use Rattle.boki_types.specs.declared.expr.BinOp.{BinOp}
use Rattle.boki_types.specs.declared.expr.Expr.{Expr, more_of-Expr, end_of-Expr}
use Rattle.boki_types.specs.declared.expr.Expr.TheVariants as exprs
use Rattle.boki_types.specs.declared.expr.Expr.TheBlock.{shape-the_row-Expr-0, hidden-the_row-Expr-0}
use Rattle.boki_model.specs.Bodies.{is_i64, is_identifier}
use Rattle.boki_model.specs.Plans.{operand_count, nesting_depth}
use Rattle.line_text.specs.declared.token.Token.{Token}
use Rattle.line_text.specs.declared.checked.Checked.{Checked}
use Rattle.line_text.specs.declared.checked.Checked.TheVariants as rates
use Rattle.script_lang.specs.declared.parts.Part.{Part}
use Rattle.script_lang.specs.declared.parts.Part.TheVariants.{Tree, OutOfRange, TooDeep}
use Rattle.script_lang.specs.declared.parts.Wrapper.{Wrapper}
use Rattle.script_lang.specs.declared.parts.Wrapper.TheVariants as wrappers
use Rattle.script_lang.specs.Expressions.{leaf, binary_part, nested_part, wrap, not_expr, positive, negative, checked_expr, expr_at}
use Rattle.script_lang.specs.Grammar.{Spells, number, signed, text, variable, nothing, parens, text_of, len_of, negation, binary, ends_at}
use Rattle.script_lang.proofs.GrammarSpelled.{read_is_spelled}
use Rattle.line_text.proofs.LexedNames.{NamesValid, is_unreserved_word}
use Rattle.script_lang.specs.Canonical.{tokens_of}
use Rattle.script_lang.proofs.ExprTokensParseBack.{expr_parses_back}

-- integers have 64 bits, texts at most 256 bytes, and variables are identifiers
abbrev pub is_expr_in_limits : Expr → Bool
is_expr_in_limits (exprs.Int n) = is_i64 n
is_expr_in_limits (exprs.Text x) = nat_le (length x) 256
is_expr_in_limits exprs.Nothing = true
is_expr_in_limits (exprs.Var x) = is_identifier x
is_expr_in_limits (exprs.Not' p' (more_of-Expr a end_of-Expr)) = is_expr_in_limits a
is_expr_in_limits (exprs.Two' o p' (more_of-Expr a end_of-Expr) q' (more_of-Expr b end_of-Expr)) = is_expr_in_limits a && is_expr_in_limits b
is_expr_in_limits (exprs.TextOf' p' (more_of-Expr a end_of-Expr)) = is_expr_in_limits a
is_expr_in_limits (exprs.Len' p' (more_of-Expr a end_of-Expr)) = is_expr_in_limits a

pub record TreeInLimits (x : Expr) (n d : ℕ) : Type 0 where
  pub counted : operand_count x ≡ n
  pub few : n ≤ 64
  pub nested : nesting_depth x ≤ d
  pub low : d ≤ 32
  pub fine : is_expr_in_limits x ≡ true

abbrev PartInLimits : Part → Type 0
PartInLimits (Tree x n d) = TreeInLimits x n d
PartInLimits OutOfRange = Unit {0}
PartInLimits TooDeep = Unit {0}

of_not : (a : Expr) → (operand_count (exprs.Not a) ≡ operand_count a) × (nesting_depth (exprs.Not a) ≡ suc (nesting_depth a)) × (is_expr_in_limits (exprs.Not a) ≡ is_expr_in_limits a)
unfolding shape-the_row-Expr-0 hidden-the_row-Expr-0 hidden
of_not a = (refl, refl, refl)

of_text : (a : Expr) → (operand_count (exprs.TextOf a) ≡ operand_count a) × (nesting_depth (exprs.TextOf a) ≡ suc (nesting_depth a)) × (is_expr_in_limits (exprs.TextOf a) ≡ is_expr_in_limits a)
unfolding shape-the_row-Expr-0 hidden-the_row-Expr-0 hidden
of_text a = (refl, refl, refl)

of_len : (a : Expr) → (operand_count (exprs.Len a) ≡ operand_count a) × (nesting_depth (exprs.Len a) ≡ suc (nesting_depth a)) × (is_expr_in_limits (exprs.Len a) ≡ is_expr_in_limits a)
unfolding shape-the_row-Expr-0 hidden-the_row-Expr-0 hidden
of_len a = (refl, refl, refl)

of_two : (o : BinOp) (a b : Expr) → (operand_count (exprs.Two o a b) ≡ operand_count a + operand_count b) × (nesting_depth (exprs.Two o a b) ≡ max (nesting_depth a) (nesting_depth b)) × (is_expr_in_limits (exprs.Two o a b) ≡ (is_expr_in_limits a && is_expr_in_limits b))
unfolding shape-the_row-Expr-0 hidden-the_row-Expr-0 hidden
of_two o a b = (refl, refl, refl)

leaf_good : (b : Bool) (x : Expr) → operand_count x ≡ 1 → nesting_depth x ≡ 0 → (b ≡ true → is_expr_in_limits x ≡ true) → PartInLimits (leaf b x)
leaf_good true x o n h = record { counted = o; few = omega arith; nested = omega arith; low = omega arith; fine = h refl }
leaf_good false x o n h = tt

Deepens : (Expr → Expr) → Type 0
Deepens make = (x : Expr) → (operand_count (make x) ≡ operand_count x) × (nesting_depth (make x) ≤ suc (nesting_depth x)) × (is_expr_in_limits (make x) ≡ is_expr_in_limits x)

wrap_deepens : (wrapper : Wrapper) → Deepens (wrap wrapper)
unfolding Deepens
wrap_deepens wrappers.Paren x = (refl, omega arith, refl)
wrap_deepens wrappers.TextOf x = let h = of_text x in (h.0, omega (arith, h.1), h.2)
wrap_deepens wrappers.Len x = let h = of_len x in (h.0, omega (arith, h.1), h.2)

not_deepens : Deepens not_expr
unfolding Deepens
not_deepens x = let h = of_not x in (h.0, omega (arith, h.1), h.2)

deeper_by : (make : Expr → Expr) (x : Expr) (n d : ℕ) (b : Bool) → ltb d 32 ≡ b → Deepens make → TreeInLimits x n d → PartInLimits (cond b (Tree (make x) n (d + 1)) TooDeep)
unfolding Deepens
deeper_by make x n d true e h g =
    let l : d < 32 = grind (arith, nat_tests, e) in
    let m = h x in
    record { counted = m.0 ∙ g.counted; few = g.few; nested = omega (arith, m.1, g.nested); low = omega arith; fine = m.2 ∙ g.fine }
deeper_by make x n d false e h g = tt

inside_good : (make : Expr → Expr) (a : Part) → Deepens make → PartInLimits a → PartInLimits (nested_part make a)
inside_good make (Tree x n d) h g = deeper_by make x n d (ltb d 32) refl h g
inside_good make OutOfRange h g = tt
inside_good make TooDeep h g = tt

both_true : (a b : Bool) → a ≡ true → b ≡ true → (a && b) ≡ true
both_true a b h k = rw (h, k) refl

two_by : (o : BinOp) (x y : Expr) (n d m h : ℕ) (b : Bool) → leb (n + m) 64 ≡ b → TreeInLimits x n d → TreeInLimits y m h → PartInLimits (cond b (Tree (exprs.Two o x y) (n + m) (max d h)) TooDeep)
two_by o x y n d m h true e g k =
    let t = of_two o x y in
    let l : n + m ≤ 64 = grind (arith, nat_tests, e) in
    let c = g.counted in let f = k.counted in let i = g.nested in let j = k.nested in let u = g.low in let v = k.low in
    record { counted = omega (arith, t.0); few = l; nested = omega (arith, t.1); low = omega arith; fine = t.2 ∙ both_true _ _ g.fine k.fine }
two_by o x y n d m h false e g k = tt

two_good : (o : BinOp) (a b : Part) → PartInLimits a → PartInLimits b → PartInLimits (binary_part o a b)
two_good o (Tree x n d) (Tree y m h) g k = two_by o x y n d m h (leb (n + m) 64) refl g k
two_good o (Tree x n d) OutOfRange g k = tt
two_good o (Tree x n d) TooDeep g k = tt
two_good o OutOfRange b g k = tt
two_good o TooDeep (Tree y m h) g k = tt
two_good o TooDeep OutOfRange g k = tt
two_good o TooDeep TooDeep g k = tt

fits_positive : (n : ℕ) → ltb n (2 ^ 63) ≡ true → is_i64 (pos n) ≡ true
fits_positive n e = e

fits_negative : (n : ℕ) → leb n (2 ^ 63) ≡ true → is_i64 (neg_ℤ (pos n)) ≡ true
fits_negative zero e = refl
fits_negative (suc n) e = grind (arith, nat_tests, ints, e)

number_by : (n : ℤ) (b : Bool) → (b ≡ true → is_i64 n ≡ true) → PartInLimits (cond b (Tree (exprs.Int n) 1 0) OutOfRange)
number_by n true h = record { counted = refl; few = omega arith; nested = omega arith; low = omega arith; fine = h refl }
number_by n false h = tt

positive_good : (n : Option ℕ) → PartInLimits (positive n)
positive_good None = tt
positive_good (Some n) = number_by (pos n) (ltb n (2 ^ 63)) (fits_positive n)

negative_good : (n : Option ℕ) → PartInLimits (negative n)
negative_good None = tt
negative_good (Some n) = number_by (neg_ℤ (pos n)) (leb n (2 ^ 63)) (fits_negative n)

split_and : (a b : Bool) → (a && b) ≡ true → (a ≡ true) × (b ≡ true)
split_and true b h = (refl, h)
split_and false b h = absurd (cc)

pub identifier : (w : List ℕ) → is_unreserved_word w ≡ true → leb (length w) 32 ≡ true → is_identifier w ≡ true
identifier w g h =
    let s = split_and _ _ g in
    both_true _ _ (both_true _ _ s.0 h) s.1

pub names_valid_apart : (ts us : List Token) → NamesValid (ts ++ us) → NamesValid ts × NamesValid us
names_valid_apart [] us h = (tt, h)
names_valid_apart (t ∷ ts) us h = let r = names_valid_apart ts us h.1 in ((h.0, r.0), r.1)

in_parens : (ts us : List Token) → NamesValid (ts ++ us) → NamesValid ts
in_parens ts us h = (names_valid_apart ts us h).0

spelled_in_limits : {p : ℕ} {ts : List Token} {a : Part} → Spells p ts a → NamesValid ts → PartInLimits a
spelled_in_limits (number n) h = positive_good n
spelled_in_limits (signed n e) h = negative_good n
spelled_in_limits (text x) h = leaf_good (leb (length x) 256) (exprs.Text x) refl refl (λ e. e)
spelled_in_limits (variable x) h = leaf_good (leb (length x) 32) (exprs.Var x) refl refl (λ e. identifier x h.0 e)
spelled_in_limits nothing h = leaf_good true exprs.Nothing refl refl (λ e. refl)
spelled_in_limits (parens {ts = ts} {a = a} d) h = inside_good (wrap wrappers.Paren) a (wrap_deepens wrappers.Paren) (spelled_in_limits d (in_parens ts _ h.1))
spelled_in_limits (text_of {ts = ts} {a = a} d) h = inside_good (wrap wrappers.TextOf) a (wrap_deepens wrappers.TextOf) (spelled_in_limits d (in_parens ts _ h.1.1))
spelled_in_limits (len_of {ts = ts} {a = a} d) h = inside_good (wrap wrappers.Len) a (wrap_deepens wrappers.Len) (spelled_in_limits d (in_parens ts _ h.1.1))
spelled_in_limits (negation {ts = ts} {a = a} l d) h = inside_good not_expr a not_deepens (spelled_in_limits d h.1)
spelled_in_limits (binary {ts = ts} {us = us} {a = a} {b = b} op sign is l d f) h =
    let s = names_valid_apart ts (sign ∷ us) h in
    two_good op a b (spelled_in_limits d s.0) (spelled_in_limits f s.1.1)

-- An expression that is accepted is within the limits, and is read again from its canonical tokens.
abbrev pub ParsesBack : Expr → Type 0
ParsesBack x = (rest : List Token) → ends_at rest ≡ true → expr_at (tokens_of 0 x ++ rest) ≡ Some (rates.Valid x, rest)

record SizeInLimits (x : Expr) : Type 0 where
  few : operand_count x ≤ 64
  low : nesting_depth x ≤ 32
  fine : is_expr_in_limits x ≡ true

pub record ExprInLimits (x : Expr) : Type 0 where
  pub few : operand_count x ≤ 64
  pub low : nesting_depth x ≤ 32
  pub fine : is_expr_in_limits x ≡ true
  pub parses_back : ParsesBack x

abbrev pub IfValid : {A : Type 0} → (A → Type 0) → Checked A → Type 0
IfValid P (rates.Valid a) = P a
IfValid P rates.OutOfRange = Unit {0}
IfValid P rates.TooDeep = Unit {0}

part_in_limits : (a : Part) → PartInLimits a → IfValid SizeInLimits (checked_expr a)
part_in_limits (Tree x n d) g =
    let c = g.counted in let f = g.few in let i = g.nested in let u = g.low in
    record { few = omega arith; low = omega arith; fine = g.fine }
part_in_limits OutOfRange g = tt
part_in_limits TooDeep g = tt

with_again : (ts behind : List Token) (r : Checked Expr) → expr_at ts ≡ Some (r, behind) → IfValid SizeInLimits r → IfValid ExprInLimits r
with_again ts behind (rates.Valid x) e g = record { few = g.few; low = g.low; fine = g.fine; parses_back = λ rest f. expr_parses_back ts behind rest x e f }
with_again ts behind rates.OutOfRange e g = tt
with_again ts behind rates.TooDeep e g = tt

pub expr_in_limits : (ts : List Token) (found : Checked Expr × List Token) → NamesValid ts → expr_at ts ≡ Some found → IfValid ExprInLimits found.0 × NamesValid found.1
expr_in_limits ts found h e =
    let s = read_is_spelled ts found e in
    let g = names_valid_apart s.front found.1 (subst NamesValid (sym s.same) h) in
    (with_again ts found.1 found.0 e (subst (λ (r : Checked Expr). IfValid SizeInLimits r) (sym s.value) (part_in_limits s.part (spelled_in_limits s.spelled g.0))), g.1)
