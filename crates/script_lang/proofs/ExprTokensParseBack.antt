-- What was read as an expression is read again from its canonical tokens.
use Rattle.std.proofs.Common.{◌≡◌, ℕ, zero, suc, ◌+◌, ◌<◌, ◌≤◌, ◌^◌, max, Bool, true, false, cond, ltb, leb, List, ◌∷◌, ◌++◌, length, Option, Some, None, refl, ap, ◌∙◌, subst, arith, pos, negsuc, neg_ℤ, ℤ}
use Rattle.std.specs.Prelude.{◌&&◌}
use Rattle.std.proofs.lemmas.Bool.Decides.{nat_tests}
use Rattle.std.proofs.lemmas.Int.{ints}
use denote.Hole.Carrier.{hidden}
use Rattle.boki_types.specs.declared.expr.BinOp.{BinOp}
use Rattle.boki_types.specs.declared.expr.BinOp.TheVariants as ops
use Rattle.boki_types.specs.declared.expr.Expr.{Expr, more_of-Expr, end_of-Expr}
use Rattle.boki_types.specs.declared.expr.Expr.TheVariants as exprs
use Rattle.boki_types.specs.declared.expr.Expr.TheBlock.{shape-the_row-Expr-0, hidden-the_row-Expr-0}
use Rattle.boki_model.specs.Bodies.{is_i64}
use Rattle.boki_model.specs.Plans.{operand_count}
use Rattle.line_text.specs.declared.token.Keyword.TheVariants as keys
use Rattle.line_text.specs.declared.token.Token.{Token}
use Rattle.line_text.specs.declared.token.Token.TheVariants as tokens
use Rattle.line_text.specs.declared.checked.Checked.TheVariants as rates
use Rattle.script_lang.specs.declared.parts.Part.{Part}
use Rattle.script_lang.specs.declared.parts.Part.TheVariants.{Tree, OutOfRange, TooDeep}
use Rattle.script_lang.specs.declared.parts.Wrapper.{Wrapper}
use Rattle.script_lang.specs.declared.parts.Wrapper.TheVariants as wrappers
use Rattle.script_lang.specs.Expressions.{leaf, binary_part, nested_part, wrap, not_expr, positive, negative, precedence, left_precedence, checked_expr, expr_at}
use Rattle.line_text.specs.Readers.{is_zero}
use Rattle.script_lang.specs.Canonical.{op_token, int_tokens, in_parens, tokens_of, deeper, depth_of}
use Rattle.script_lang.specs.Grammar.{Spells, number, signed, text, variable, nothing, parens, text_of, len_of, negation, binary, operator_of, ends_at}
use Rattle.script_lang.proofs.GrammarReads.{spelled_is_read}
use Rattle.script_lang.proofs.GrammarSpelled.{read_is_spelled}

-- integers have 64 bits, texts at most 256 bytes, and names at most 32
abbrev is_short : Expr → Bool
is_short (exprs.Int n) = is_i64 n
is_short (exprs.Text x) = leb (length x) 256
is_short exprs.Nothing = true
is_short (exprs.Var x) = leb (length x) 32
is_short (exprs.Not' p' (more_of-Expr a end_of-Expr)) = is_short a
is_short (exprs.Two' o p' (more_of-Expr a end_of-Expr) q' (more_of-Expr b end_of-Expr)) = is_short a && is_short b
is_short (exprs.TextOf' p' (more_of-Expr a end_of-Expr)) = is_short a
is_short (exprs.Len' p' (more_of-Expr a end_of-Expr)) = is_short a

record Kept (p : ℕ) (x : Expr) (n d : ℕ) : Type 0 where
  counted : operand_count x ≡ n
  few : n ≤ 64
  nested : depth_of p x ≤ d
  low : d ≤ 32
  short : is_short x ≡ true

abbrev KeptPart : ℕ → Part → Type 0
KeptPart p (Tree x n d) = Kept p x n d
KeptPart p OutOfRange = Unit {0}
KeptPart p TooDeep = Unit {0}

of_not : (p : ℕ) (a : Expr) → (operand_count (exprs.Not a) ≡ operand_count a) × (depth_of p (exprs.Not a) ≡ deeper (ltb 3 p) (depth_of 3 a + 1)) × (is_short (exprs.Not a) ≡ is_short a)
unfolding shape-the_row-Expr-0 hidden-the_row-Expr-0 hidden
of_not p a = (refl, refl, refl)

of_text : (p : ℕ) (a : Expr) → (operand_count (exprs.TextOf a) ≡ operand_count a) × (depth_of p (exprs.TextOf a) ≡ depth_of 0 a + 1) × (is_short (exprs.TextOf a) ≡ is_short a)
unfolding shape-the_row-Expr-0 hidden-the_row-Expr-0 hidden
of_text p a = (refl, refl, refl)

of_len : (p : ℕ) (a : Expr) → (operand_count (exprs.Len a) ≡ operand_count a) × (depth_of p (exprs.Len a) ≡ depth_of 0 a + 1) × (is_short (exprs.Len a) ≡ is_short a)
unfolding shape-the_row-Expr-0 hidden-the_row-Expr-0 hidden
of_len p a = (refl, refl, refl)

of_two : (p : ℕ) (o : BinOp) (a b : Expr) → (operand_count (exprs.Two o a b) ≡ operand_count a + operand_count b) × (depth_of p (exprs.Two o a b) ≡ deeper (ltb (precedence o) p) (max (depth_of (left_precedence (precedence o)) a) (depth_of (precedence o + 1) b))) × (is_short (exprs.Two o a b) ≡ (is_short a && is_short b))
unfolding shape-the_row-Expr-0 hidden-the_row-Expr-0 hidden
of_two p o a b = (refl, refl, refl)

-- parentheses around an expression add at most one
deeper_zero : (b : Bool) (d : ℕ) → deeper b d ≤ d + 1
deeper_zero true d = omega arith
deeper_zero false d = omega arith

deeper_more : (b : Bool) (d : ℕ) → d ≤ deeper b d
deeper_more true d = omega arith
deeper_more false d = omega arith

shallow : (p : ℕ) (x : Expr) → depth_of p x ≤ depth_of 0 x + 1
unfolding shape-the_row-Expr-0 hidden-the_row-Expr-0 hidden
shallow p (exprs.Int n) = omega arith
shallow p (exprs.Text x) = omega arith
shallow p exprs.Nothing = omega arith
shallow p (exprs.Var x) = omega arith
shallow p (exprs.Not' p' (more_of-Expr a end_of-Expr)) = deeper_zero (ltb 3 p) (depth_of 3 a + 1)
shallow p (exprs.Two' o p' (more_of-Expr a end_of-Expr) q' (more_of-Expr b end_of-Expr)) =
    let d = max (depth_of (left_precedence (precedence o)) a) (depth_of (precedence o + 1) b) in
    let h = deeper_zero (ltb (precedence o) p) d in
    let k : d ≤ deeper (ltb (precedence o) 0) d = deeper_more (ltb (precedence o) 0) d in
    omega arith
shallow p (exprs.TextOf' p' (more_of-Expr a end_of-Expr)) = omega arith
shallow p (exprs.Len' p' (more_of-Expr a end_of-Expr)) = omega arith

both_true : (a b : Bool) → a ≡ true → b ≡ true → (a && b) ≡ true
both_true a b h k = rw (h, k) refl

split_and : (a b : Bool) → (a && b) ≡ true → (a ≡ true) × (b ≡ true)
split_and true b h = (refl, h)
split_and false b h = absurd (cc)

leaf_kept : (p : ℕ) (b : Bool) (x : Expr) → operand_count x ≡ 1 → depth_of p x ≡ 0 → (b ≡ true → is_short x ≡ true) → KeptPart p (leaf b x)
leaf_kept p true x o n h = record { counted = o; few = omega arith; nested = omega arith; low = omega arith; short = h refl }
leaf_kept p false x o n h = tt

fits_positive : (n : ℕ) → ltb n (2 ^ 63) ≡ true → is_i64 (pos n) ≡ true
fits_positive n e = e

fits_negative : (n : ℕ) → leb n (2 ^ 63) ≡ true → is_i64 (neg_ℤ (pos n)) ≡ true
fits_negative zero e = refl
fits_negative (suc n) e = grind (arith, nat_tests, ints, e)

number_by : (p : ℕ) (n : ℤ) (b : Bool) → (b ≡ true → is_i64 n ≡ true) → KeptPart p (cond b (Tree (exprs.Int n) 1 0) OutOfRange)
number_by p n true h = record { counted = refl; few = omega arith; nested = omega arith; low = omega arith; short = h refl }
number_by p n false h = tt

positive_kept : (p : ℕ) (n : Option ℕ) → KeptPart p (positive n)
positive_kept p None = tt
positive_kept p (Some n) = number_by p (pos n) (ltb n (2 ^ 63)) (fits_positive n)

negative_kept : (p : ℕ) (n : Option ℕ) → KeptPart p (negative n)
negative_kept p None = tt
negative_kept p (Some n) = number_by p (neg_ℤ (pos n)) (leb n (2 ^ 63)) (fits_negative n)

Fits : ℕ → (Expr → Expr) → ℕ → Type 0
Fits q make p = (x : Expr) → (operand_count (make x) ≡ operand_count x) × (depth_of p (make x) ≤ depth_of q x + 1) × (is_short (make x) ≡ is_short x)

wrap_fits : (p : ℕ) (wrapper : Wrapper) → Fits 0 (wrap wrapper) p
unfolding Fits
wrap_fits p wrappers.Paren x = (refl, shallow p x, refl)
wrap_fits p wrappers.TextOf x = let h = of_text p x in (h.0, omega (arith, h.1), h.2)
wrap_fits p wrappers.Len x = let h = of_len p x in (h.0, omega (arith, h.1), h.2)

not_by : (p : ℕ) (b : Bool) (d : ℕ) → ltb 3 p ≡ b → p ≤ 3 → deeper b d ≤ d
not_by p true d e h = absurd (grind (arith, nat_tests, e))
not_by p false d e h = omega arith

not_fits : (p : ℕ) → p ≤ 3 → Fits 3 not_expr p
unfolding Fits
not_fits p l x = let h = of_not p x in let k = not_by p (ltb 3 p) (depth_of 3 x + 1) refl l in (h.0, omega (arith, h.1, k), h.2)

inside_by : (q p : ℕ) (make : Expr → Expr) (x : Expr) (n d : ℕ) (b : Bool) → ltb d 32 ≡ b → Fits q make p → Kept q x n d → KeptPart p (cond b (Tree (make x) n (d + 1)) TooDeep)
unfolding Fits
inside_by q p make x n d true e h g =
    let l : d < 32 = grind (arith, nat_tests, e) in
    let m = h x in let i = g.nested in
    record { counted = m.0 ∙ g.counted; few = g.few; nested = omega (arith, m.1); low = omega arith; short = m.2 ∙ g.short }
inside_by q p make x n d false e h g = tt

inside_kept : (q p : ℕ) (make : Expr → Expr) (a : Part) → Fits q make p → KeptPart q a → KeptPart p (nested_part make a)
inside_kept q p make (Tree x n d) h g = inside_by q p make x n d (ltb d 32) refl h g
inside_kept q p make OutOfRange h g = tt
inside_kept q p make TooDeep h g = tt

flat_by : (r p : ℕ) (b : Bool) (d : ℕ) → ltb r p ≡ b → p ≤ r → deeper b d ≤ d
flat_by r p true d e h = absurd (grind (arith, nat_tests, e))
flat_by r p false d e h = omega arith

two_by : (p : ℕ) (o : BinOp) (x y : Expr) (n d m h : ℕ) (b : Bool) → leb (n + m) 64 ≡ b → p ≤ precedence o → Kept (left_precedence (precedence o)) x n d → Kept (precedence o + 1) y m h → KeptPart p (cond b (Tree (exprs.Two o x y) (n + m) (max d h)) TooDeep)
two_by p o x y n d m h true e l g k =
    let t = of_two p o x y in
    let w : n + m ≤ 64 = grind (arith, nat_tests, e) in
    let f = flat_by (precedence o) p (ltb (precedence o) p) (max (depth_of (left_precedence (precedence o)) x) (depth_of (precedence o + 1) y)) refl l in
    let c = g.counted in let i = k.counted in let j = g.nested in let z = k.nested in let u = g.low in let v = k.low in
    record { counted = omega (arith, t.0); few = w; nested = omega (arith, t.1, f); low = omega arith; short = t.2 ∙ both_true _ _ g.short k.short }
two_by p o x y n d m h false e l g k = tt

two_kept : (p : ℕ) (o : BinOp) (a b : Part) → p ≤ precedence o → KeptPart (left_precedence (precedence o)) a → KeptPart (precedence o + 1) b → KeptPart p (binary_part o a b)
two_kept p o (Tree x n d) (Tree y m h) l g k = two_by p o x y n d m h (leb (n + m) 64) refl l g k
two_kept p o (Tree x n d) OutOfRange l g k = tt
two_kept p o (Tree x n d) TooDeep l g k = tt
two_kept p o OutOfRange b l g k = tt
two_kept p o TooDeep (Tree y m h) l g k = tt
two_kept p o TooDeep OutOfRange l g k = tt
two_kept p o TooDeep TooDeep l g k = tt

kept : {p : ℕ} {ts : List Token} {a : Part} → Spells p ts a → KeptPart p a
kept {p} (number n) = positive_kept p n
kept {p} (signed n e) = negative_kept p n
kept {p} (text x) = leaf_kept p (leb (length x) 256) (exprs.Text x) refl refl (λ e. e)
kept {p} (variable x) = leaf_kept p (leb (length x) 32) (exprs.Var x) refl refl (λ e. e)
kept {p} nothing = leaf_kept p true exprs.Nothing refl refl (λ e. refl)
kept {p} (parens {a = a} d) = inside_kept 0 p (wrap wrappers.Paren) a (wrap_fits p wrappers.Paren) (kept d)
kept {p} (text_of {a = a} d) = inside_kept 0 p (wrap wrappers.TextOf) a (wrap_fits p wrappers.TextOf) (kept d)
kept {p} (len_of {a = a} d) = inside_kept 0 p (wrap wrappers.Len) a (wrap_fits p wrappers.Len) (kept d)
kept {p} (negation {a = a} l d) = inside_kept 3 p not_expr a (not_fits p l) (kept d)
kept {p} (binary {a = a} {b = b} op sign is l d f) = two_kept p op a b l (kept d) (kept f)

along : {p : ℕ} {ts : List Token} {a : Part} (b : Part) → a ≡ b → Spells p ts a → Spells p ts b
along {p} {ts} b e d = let P : Part → Type 0 = λ z. Spells p ts z in subst P e d

raised : (make : Expr → Expr) (x : Expr) (n d : ℕ) → d + 1 ≤ 32 → nested_part make (Tree x n d) ≡ Tree (make x) n (d + 1)
raised make x n d h = let l : ltb d 32 ≡ true = grind (arith, nat_tests, h) in ap (λ b. cond b (Tree (make x) n (d + 1)) TooDeep) l

joined : (o : BinOp) (x y : Expr) (n d m h : ℕ) → n + m ≤ 64 → binary_part o (Tree x n d) (Tree y m h) ≡ Tree (exprs.Two o x y) (n + m) (max d h)
joined o x y n d m h l = let e : leb (n + m) 64 ≡ true = grind (arith, nat_tests, l) in ap (λ b. cond b (Tree (exprs.Two o x y) (n + m) (max d h)) TooDeep) e

in_case : (b : Bool) (p : ℕ) (ts : List Token) (x : Expr) (n d : ℕ) → (b ≡ false → Spells p ts (Tree x n d)) → Spells 0 ts (Tree x n d) → deeper b d ≤ 32 → Spells p (in_parens b ts) (Tree x n (deeper b d))
in_case true p ts x n d plain bare h = along (Tree x n (d + 1)) (raised (wrap wrappers.Paren) x n d h) (parens bare)
in_case false p ts x n d plain bare h = plain refl

sign_of : (o : BinOp) → operator_of (op_token o) ≡ Some o
sign_of ops.Or = refl
sign_of ops.And = refl
sign_of ops.Eq = refl
sign_of ops.Ne = refl
sign_of ops.Lt = refl
sign_of ops.Le = refl
sign_of ops.Gt = refl
sign_of ops.Ge = refl
sign_of ops.Add = refl
sign_of ops.Sub = refl
sign_of ops.Glue = refl
sign_of ops.Mul = refl
sign_of ops.Div = refl
sign_of ops.Rem = refl

to_small : (n : ℕ) → is_i64 (pos n) ≡ true → ltb n (2 ^ 63) ≡ true
to_small n e = e

to_low : (n : ℕ) → is_i64 (negsuc n) ≡ true → leb (suc n) (2 ^ 63) ≡ true
to_low n e = grind (arith, nat_tests, ints, e)

not_zero : (n : ℕ) → is_zero (Some (suc n)) ≡ false
not_zero n = grind (arith, nat_tests)

int_spelled : (p : ℕ) (n : ℤ) → is_i64 n ≡ true → Spells p (int_tokens n) (Tree (exprs.Int n) 1 0)
int_spelled p (pos n) e = along (Tree (exprs.Int (pos n)) 1 0) (ap (λ b. cond b (Tree (exprs.Int (pos n)) 1 0) OutOfRange) (to_small n e)) (number (Some n))
int_spelled p (negsuc n) e = along (Tree (exprs.Int (negsuc n)) 1 0) (ap (λ b. cond b (Tree (exprs.Int (negsuc n)) 1 0) OutOfRange) (to_low n e)) (signed (Some (suc n)) (not_zero n))

leaf_spelled : (p : ℕ) (ts : List Token) (b : Bool) (x : Expr) → b ≡ true → Spells p ts (leaf b x) → Spells p ts (Tree x 1 0)
leaf_spelled p ts b x e d = along (Tree x 1 0) (ap (λ t. leaf t x) e) d

not_above : (m n : ℕ) → ltb m n ≡ false → n ≤ m
not_above m n e = grind (arith, nat_tests, e)

not_spelled : (p : ℕ) (a : Expr) → Spells 3 (tokens_of 3 a) (Tree a (operand_count a) (depth_of 3 a)) → deeper (ltb 3 p) (depth_of 3 a + 1) ≤ 32 → Spells p (in_parens (ltb 3 p) (tokens.Keyword keys.Not ∷ tokens_of 3 a)) (Tree (exprs.Not a) (operand_count a) (deeper (ltb 3 p) (depth_of 3 a + 1)))
not_spelled p a d h =
    let low : depth_of 3 a + 1 ≤ 32 = omega (arith, deeper_more (ltb 3 p) (depth_of 3 a + 1)) in
    let r = raised not_expr a (operand_count a) (depth_of 3 a) low in
    in_case (ltb 3 p) p (tokens.Keyword keys.Not ∷ tokens_of 3 a) (exprs.Not a) (operand_count a) (depth_of 3 a + 1)
    (λ e. along (Tree (exprs.Not a) (operand_count a) (depth_of 3 a + 1)) r (negation (not_above 3 p e) d))
    (along (Tree (exprs.Not a) (operand_count a) (depth_of 3 a + 1)) r (negation (omega arith) d)) h

two_spelled : (p : ℕ) (o : BinOp) (a b : Expr) → operand_count a + operand_count b ≤ 64 → Spells (left_precedence (precedence o)) (tokens_of (left_precedence (precedence o)) a) (Tree a (operand_count a) (depth_of (left_precedence (precedence o)) a)) → Spells (precedence o + 1) (tokens_of (precedence o + 1) b) (Tree b (operand_count b) (depth_of (precedence o + 1) b)) → deeper (ltb (precedence o) p) (max (depth_of (left_precedence (precedence o)) a) (depth_of (precedence o + 1) b)) ≤ 32 → Spells p (in_parens (ltb (precedence o) p) (tokens_of (left_precedence (precedence o)) a ++ op_token o ∷ tokens_of (precedence o + 1) b)) (Tree (exprs.Two o a b) (operand_count a + operand_count b) (deeper (ltb (precedence o) p) (max (depth_of (left_precedence (precedence o)) a) (depth_of (precedence o + 1) b))))
two_spelled p o a b l d f h =
    let n = operand_count a + operand_count b in
    let m = max (depth_of (left_precedence (precedence o)) a) (depth_of (precedence o + 1) b) in
    let ts = tokens_of (left_precedence (precedence o)) a ++ op_token o ∷ tokens_of (precedence o + 1) b in
    let r = joined o a b (operand_count a) (depth_of (left_precedence (precedence o)) a) (operand_count b) (depth_of (precedence o + 1) b) l in
    in_case (ltb (precedence o) p) p ts (exprs.Two o a b) n m
    (λ e. along (Tree (exprs.Two o a b) n m) r (binary o (op_token o) (sign_of o) (not_above (precedence o) p e) d f))
    (along (Tree (exprs.Two o a b) n m) r (binary o (op_token o) (sign_of o) (omega arith) d f)) h

canonical : (x : Expr) (p : ℕ) → operand_count x ≤ 64 → depth_of p x ≤ 32 → is_short x ≡ true → Spells p (tokens_of p x) (Tree x (operand_count x) (depth_of p x))
unfolding shape-the_row-Expr-0 hidden-the_row-Expr-0 hidden
canonical (exprs.Int n) p o h s = int_spelled p n s
canonical (exprs.Text x) p o h s = leaf_spelled p _ (leb (length x) 256) (exprs.Text x) s (text x)
canonical exprs.Nothing p o h s = nothing
canonical (exprs.Var x) p o h s = leaf_spelled p _ (leb (length x) 32) (exprs.Var x) s (variable x)
canonical (exprs.Not' p' (more_of-Expr a end_of-Expr)) p o h s =
    not_spelled p a (canonical a 3 o (omega (arith, deeper_more (ltb 3 p) (depth_of 3 a + 1))) s) h
canonical (exprs.Two' op p' (more_of-Expr a end_of-Expr) q' (more_of-Expr b end_of-Expr)) p o h s =
    let k = split_and (is_short a) (is_short b) s in
    let m = deeper_more (ltb (precedence op) p) (max (depth_of (left_precedence (precedence op)) a) (depth_of (precedence op + 1) b)) in
    two_spelled p op a b o
    (canonical a (left_precedence (precedence op)) (omega arith) (omega arith) k.0)
    (canonical b (precedence op + 1) (omega arith) (omega arith) k.1) h
canonical (exprs.TextOf' p' (more_of-Expr a end_of-Expr)) p o h s =
    along (Tree (exprs.TextOf a) (operand_count a) (depth_of 0 a + 1)) (raised (wrap wrappers.TextOf) a (operand_count a) (depth_of 0 a) h) (text_of (canonical a 0 o (omega arith) s))
canonical (exprs.Len' p' (more_of-Expr a end_of-Expr)) p o h s =
    along (Tree (exprs.Len a) (operand_count a) (depth_of 0 a + 1)) (raised (wrap wrappers.Len) a (operand_count a) (depth_of 0 a) h) (len_of (canonical a 0 o (omega arith) s))

again_by : (x : Expr) (rest : List Token) (a : Part) → KeptPart 0 a → rates.Valid x ≡ checked_expr a → ends_at rest ≡ true → expr_at (tokens_of 0 x ++ rest) ≡ Some (rates.Valid x, rest)
again_by x rest (Tree y n d) g e f =
    let same : y ≡ x = cc in
    let c = g.counted in let k = g.few in let i = g.nested in let l = g.low in
    let h = canonical y 0 (omega arith) (omega arith) g.short in
    let r = spelled_is_read (tokens_of 0 y) rest (Tree y (operand_count y) (depth_of 0 y)) h f in
    subst (λ (z : Expr). expr_at (tokens_of 0 z ++ rest) ≡ Some (rates.Valid z, rest)) same r
again_by x rest OutOfRange g e f = absurd (cc)
again_by x rest TooDeep g e f = absurd (cc)

pub expr_parses_back : (ts behind rest : List Token) (x : Expr) → expr_at ts ≡ Some (rates.Valid x, behind) → ends_at rest ≡ true → expr_at (tokens_of 0 x ++ rest) ≡ Some (rates.Valid x, rest)
expr_parses_back ts behind rest x e f =
    let s = read_is_spelled ts (rates.Valid x, behind) e in
    again_by x rest s.part (kept s.spelled) s.value f
