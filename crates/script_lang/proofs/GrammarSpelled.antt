-- What is read is spelled by the grammar.
use Rattle.std.proofs.Common.{◌≡◌, ◌≢◌, ℕ, ◌+◌, ◌≤◌, Bool, true, false, cond, eqb, leb, ltb, List, [], ◌∷◌, ◌++◌, Option, Some, None, refl, sym, ap, ◌∙◌, subst, append_assoc, arith, eqb-true}
use Rattle.std.specs.Prelude.{◌&&◌}
use Rattle.std.proofs.lemmas.Bool.Decides.{nat_tests}
use Rattle.std.proofs.lemmas.List.{append-nil}
use Rattle.boki_types.specs.declared.expr.BinOp.{BinOp}
use Rattle.boki_types.specs.declared.expr.BinOp.TheVariants as ops
use Rattle.boki_types.specs.declared.expr.Expr.{Expr}
use Rattle.line_text.specs.declared.token.Keyword.TheVariants as keys
use Rattle.line_text.specs.declared.token.Punctuation.TheVariants as marks
use Rattle.line_text.specs.declared.token.Token.{Token}
use Rattle.line_text.specs.declared.token.Token.TheVariants as tokens
use Rattle.line_text.specs.declared.checked.Checked.{Checked}
use Rattle.script_lang.specs.declared.parts.Part.{Part}
use Rattle.script_lang.specs.declared.parts.Wrapper.{Wrapper}
use Rattle.script_lang.specs.declared.parts.Wrapper.TheVariants as wrappers
use Rattle.script_lang.specs.declared.stack.StackItem.{StackItem}
use Rattle.script_lang.specs.declared.stack.StackItem.TheVariants.{Open, Not, Left}
use Rattle.script_lang.specs.declared.stack.ExprState.{ExprState}
use Rattle.script_lang.specs.declared.stack.ExprState.TheVariants.{NeedsOperand, NeedsNumber, NeedsParen, HasOperand}
use Rattle.script_lang.specs.Expressions.{binary_part, nested_part, wrap, not_expr, negative, precedence, left_precedence, reduce, is_after_comparison, may_be_negated, push_operator, read_on, close_or_end, close_reduced, if_stack_empty, expr_before, read_from, expr_at}
use Rattle.line_text.specs.Readers.{is_zero}
use Rattle.script_lang.specs.Grammar.{Spells, number, signed, text, variable, nothing, parens, text_of, len_of, negation, binary, operator_of, ends_at, IsSpelledExpr}

open_tokens : Wrapper → List Token
open_tokens wrappers.Paren = tokens.Punctuation marks.Open ∷ []
open_tokens wrappers.TextOf = tokens.Keyword keys.TextOf ∷ tokens.Punctuation marks.Open ∷ []
open_tokens wrappers.Len = tokens.Keyword keys.Len ∷ tokens.Punctuation marks.Open ∷ []

-- Tokens before the part that is read, and how tightly that part is to bind.
data Stacked : List Token → List StackItem → ℕ → Type 0 where
  empty : Stacked [] [] 0
  opened : {d : List Token} {s : List StackItem} {p : ℕ} (wrapper : Wrapper) → Stacked d s p → Stacked (d ++ open_tokens wrapper) (Open wrapper ∷ s) 0
  denied : {d : List Token} {s : List StackItem} {p : ℕ} → p ≤ 3 → Stacked d s p → Stacked (d ++ tokens.Keyword keys.Not ∷ []) (Not ∷ s) 3
  sided : {d ts : List Token} {s : List StackItem} {p : ℕ} {a : Part} (op : BinOp) (sign : Token) → operator_of sign ≡ Some op → p ≤ precedence op → Stacked d s p → Spells (left_precedence (precedence op)) ts a → Stacked (d ++ (ts ++ sign ∷ [])) (Left a op ∷ s) (precedence op + 1)

-- Tokens that lead to a stack and a place.
data At : List Token → List StackItem → ExprState → Type 0 where
  due : {d : List Token} {s : List StackItem} {p : ℕ} → Stacked d s p → At d s NeedsOperand
  minus : {d : List Token} {s : List StackItem} {p : ℕ} → Stacked d s p → At (d ++ tokens.Minus true ∷ []) s NeedsNumber
  opens_text : {d : List Token} {s : List StackItem} {p : ℕ} → Stacked d s p → At (d ++ tokens.Keyword keys.TextOf ∷ []) s (NeedsParen wrappers.TextOf)
  opens_len : {d : List Token} {s : List StackItem} {p : ℕ} → Stacked d s p → At (d ++ tokens.Keyword keys.Len ∷ []) s (NeedsParen wrappers.Len)
  done : {d ts : List Token} {s : List StackItem} {p : ℕ} {x : Part} → Stacked d s p → Spells 7 ts x → At (d ++ ts) s (HasOperand x)

lower : {p q : ℕ} {ts : List Token} {a : Part} → q ≤ p → Spells p ts a → Spells q ts a
lower h (number n) = number n
lower h (signed n e) = signed n e
lower h (text x) = text x
lower h (variable x) = variable x
lower h nothing = nothing
lower h (parens d) = parens d
lower h (text_of d) = text_of d
lower h (len_of d) = len_of d
lower {p} {q} h (negation l d) = negation (omega arith) d
lower {p} {q} h (binary op sign e l d f) = binary op sign e (omega arith) d f

in_wrapper : (wrapper : Wrapper) (ts : List Token) (a : Part) → Spells 0 ts a → Spells 7 (open_tokens wrapper ++ (ts ++ tokens.Punctuation marks.Close ∷ [])) (nested_part (wrap wrapper) a)
unfolding open_tokens
in_wrapper wrappers.Paren ts a d = parens d
in_wrapper wrappers.TextOf ts a d = text_of d
in_wrapper wrappers.Len ts a d = len_of d

record Reduced (all : List Token) (q : ℕ) (r : List StackItem × Part) : Type 0 where
  front : List Token
  back : List Token
  level : ℕ
  stacked : Stacked front r.0 level
  spelled : Spells q back r.1
  low : level ≤ q
  same : front ++ back ≡ all

retold : (all other : List Token) (q : ℕ) (r : List StackItem × Part) → all ≡ other → Reduced all q r → Reduced other q r
retold all other q r e h = record { front = h.front; back = h.back; level = h.level; stacked = h.stacked; spelled = h.spelled; low = h.low; same = h.same ∙ e }

not_case : (d : List Token) (s : List StackItem) (q : ℕ) (ts : List Token) (x : Part) (b : Bool) → leb q 3 ≡ b → (q ≤ 3 → Reduced (d ++ tokens.Keyword keys.Not ∷ ts) q (reduce q s (nested_part not_expr x))) → Stacked (d ++ tokens.Keyword keys.Not ∷ []) (Not ∷ s) 3 → Spells q ts x → Reduced ((d ++ tokens.Keyword keys.Not ∷ []) ++ ts) q (cond b (reduce q s (nested_part not_expr x)) (Not ∷ s, x))
not_case d s q ts x true e more st f =
    let l : q ≤ 3 = grind (arith, nat_tests, e) in
    retold _ _ _ _ (sym (append_assoc d (tokens.Keyword keys.Not ∷ []) ts)) (more l)
not_case d s q ts x false e more st f =
    let l : 3 ≤ q = grind (arith, nat_tests, e) in
    record { front = d ++ tokens.Keyword keys.Not ∷ []; back = ts; level = 3; stacked = st; spelled = f; low = l; same = refl }

side_joined : (d us : List Token) (sign : Token) (ts : List Token) → d ++ (us ++ sign ∷ ts) ≡ (d ++ (us ++ sign ∷ [])) ++ ts
side_joined d us sign ts =
    sym (append_assoc d (us ++ sign ∷ []) ts ∙ ap (λ l. d ++ l) (append_assoc us (sign ∷ []) ts))

left_case : (d us : List Token) (sign : Token) (s : List StackItem) (q : ℕ) (ts : List Token) (a x : Part) (op : BinOp) (b : Bool) → leb q (precedence op) ≡ b → (q ≤ precedence op → Reduced (d ++ (us ++ sign ∷ ts)) q (reduce q s (binary_part op a x))) → Stacked (d ++ (us ++ sign ∷ [])) (Left a op ∷ s) (precedence op + 1) → Spells q ts x → Reduced ((d ++ (us ++ sign ∷ [])) ++ ts) q (cond b (reduce q s (binary_part op a x)) (Left a op ∷ s, x))
left_case d us sign s q ts a x op true e more st f =
    let l : q ≤ precedence op = grind (arith, nat_tests, e) in
    retold _ _ _ _ (side_joined d us sign ts) (more l)
left_case d us sign s q ts a x op false e more st f =
    let l : precedence op + 1 ≤ q = grind (arith, nat_tests, e) in
    record { front = d ++ (us ++ sign ∷ []); back = ts; level = precedence op + 1; stacked = st; spelled = f; low = l; same = refl }

reduced : {d : List Token} {s : List StackItem} {p : ℕ} → Stacked d s p → (q n : ℕ) (ts : List Token) (x : Part) → p ≤ n → q ≤ n → Spells n ts x → Reduced (d ++ ts) q (reduce q s x)
reduced empty q n ts x h l f = record { front = []; back = ts; level = 0; stacked = empty; spelled = lower l f; low = omega arith; same = refl }
reduced (opened {d = d} wrapper st) q n ts x h l f = record { front = d ++ open_tokens wrapper; back = ts; level = 0; stacked = opened wrapper st; spelled = lower l f; low = omega arith; same = refl }
reduced (denied {d = d} {s = s} below st) q n ts x h l f =
    not_case d s q ts x (leb q 3) refl
    (λ low. reduced st q 3 (tokens.Keyword keys.Not ∷ ts) (nested_part not_expr x) below low (negation (omega arith) (lower h f)))
    (denied below st) (lower l f)
reduced (sided {d = d} {ts = us} {s = s} {a = a} op sign is below st left) q n ts x h l f =
    left_case d us sign s q ts a x op (leb q (precedence op)) refl
    (λ low. reduced st q (precedence op) (us ++ sign ∷ ts) (binary_part op a x) below low (binary op sign is (omega arith) left (lower h f)))
    (sided op sign is below st left) (lower l f)

-- nothing stands before an empty stack
nil_front : {d : List Token} {s : List StackItem} {p : ℕ} → Stacked d s p → s ≡ [] → d ≡ []
nil_front empty e = refl
nil_front (opened wrapper st) e = absurd (cc)
nil_front (denied below st) e = absurd (cc)
nil_front (sided op sign is below st left) e = absurd (cc)

-- what stands before an open parenthesis
record OpenFront (d : List Token) (wrapper : Wrapper) (s : List StackItem) : Type 0 where
  front : List Token
  level : ℕ
  stacked : Stacked front s level
  same : d ≡ front ++ open_tokens wrapper

open_front : {d : List Token} {s : List StackItem} {p : ℕ} → Stacked d s p → (wrapper : Wrapper) (rest : List StackItem) → s ≡ Open wrapper ∷ rest → OpenFront d wrapper rest
open_front empty wrapper rest e = absurd (cc)
open_front (opened {d = d} {s = s} {p = p} other st) wrapper rest e =
    let f : s ≡ rest = cc in
    let g : other ≡ wrapper = cc in
    let P : List StackItem → Type 0 = λ z. Stacked d z p in
    record { front = d; level = p; stacked = subst P f st; same = ap (λ z. d ++ open_tokens z) g }
open_front (denied below st) wrapper rest e = absurd (cc)
open_front (sided op sign is below st left) wrapper rest e = absurd (cc)

low_rank : (op : BinOp) → ltb (precedence op) 4 ≡ true → precedence op + 1 ≤ 3
low_rank ops.Or e = omega arith
low_rank ops.And e = omega arith
low_rank ops.Eq e = absurd (cc)
low_rank ops.Ne e = absurd (cc)
low_rank ops.Lt e = absurd (cc)
low_rank ops.Le e = absurd (cc)
low_rank ops.Gt e = absurd (cc)
low_rank ops.Ge e = absurd (cc)
low_rank ops.Add e = absurd (cc)
low_rank ops.Sub e = absurd (cc)
low_rank ops.Glue e = absurd (cc)
low_rank ops.Mul e = absurd (cc)
low_rank ops.Div e = absurd (cc)
low_rank ops.Rem e = absurd (cc)

not_level : {d : List Token} {s : List StackItem} {p : ℕ} → Stacked d s p → may_be_negated s ≡ true → p ≤ 3
not_level empty e = omega arith
not_level (opened wrapper st) e = omega arith
not_level (denied below st) e = omega arith
not_level (sided op sign is below st left) e = low_rank op e

plain_level : {d : List Token} {s : List StackItem} {p : ℕ} → Stacked d s p → is_after_comparison s ≡ false → p ≢ 5
plain_level empty e = omega arith
plain_level (opened wrapper st) e = omega arith
plain_level (denied below st) e = omega arith
plain_level (sided op sign is below st left) e = grind (arith, nat_tests, e)

fits_by : (r level : ℕ) (c b : Bool) → eqb r 4 ≡ b → level ≤ cond b 5 r → (b && c) ≡ false → (c ≡ false → level ≢ 5) → level ≤ r
fits_by r level c true e h f g =
    let four : r ≡ 4 = eqb-true r 4 e in
    let other : level ≢ 5 = g f in
    omega arith
fits_by r level c false e h f g = h

inner : {A : Type 0} (x y : A) → Some x ≡ Some y → x ≡ y
inner x y e = cc

ended_found : (all rest : List Token) (r : List StackItem × Part) (found : Checked Expr × List Token) → Reduced all 0 r → ends_at rest ≡ true → expr_before rest (if_stack_empty r) ≡ Some found → IsSpelledExpr (all ++ rest) found
ended_found all rest ([], x) found h ends e =
    let value : found.0 ≡ _ = ap (λ (o : Checked Expr × List Token). o.0) (sym (inner _ _ e)) in
    let back : found.1 ≡ rest = ap (λ (o : Checked Expr × List Token). o.1) (sym (inner _ _ e)) in
    record {
      front = h.back;
      part = x;
      spelled = h.spelled;
      value = value;
      same = ap (λ l. h.back ++ l) back ∙ ap (λ l. l ++ rest) (sym (ap (λ l. l ++ h.back) (nil_front h.stacked refl)) ∙ h.same);
      ends = ap ends_at back ∙ ends;
    }
ended_found all rest (i ∷ is, x) found h ends e = absurd (cc)

spelled_along : (all other : List Token) (found : Checked Expr × List Token) → all ≡ other → IsSpelledExpr all found → IsSpelledExpr other found
spelled_along all other found e h = record { front = h.front; part = h.part; spelled = h.spelled; value = h.value; same = h.same ∙ e; ends = h.ends }

-- What reading on from a place gives is spelled by the tokens before it and those behind it.
abbrev Goes : List Token → Type 0
Goes ts = (d : List Token) (s : List StackItem) (place : ExprState) (found : Checked Expr × List Token) → At d s place → read_from ts s place ≡ Some found → IsSpelledExpr (d ++ ts) found

close_joined : (front back ts : List Token) (wrapper : Wrapper) → (front ++ (open_tokens wrapper ++ (back ++ tokens.Punctuation marks.Close ∷ []))) ++ ts ≡ ((front ++ open_tokens wrapper) ++ back) ++ tokens.Punctuation marks.Close ∷ ts
close_joined front back ts wrapper =
    let c = tokens.Punctuation marks.Close ∷ [] in
    append_assoc front (open_tokens wrapper ++ (back ++ c)) ts
    ∙ ap (λ l. front ++ l) (append_assoc (open_tokens wrapper) (back ++ c) ts ∙ ap (λ l. open_tokens wrapper ++ l) (append_assoc back c ts))
    ∙ sym (append_assoc (front ++ open_tokens wrapper) back (tokens.Punctuation marks.Close ∷ ts) ∙ append_assoc front (open_tokens wrapper) (back ++ tokens.Punctuation marks.Close ∷ ts))

closed_found : (all ts : List Token) (r : List StackItem × Part) (found : Checked Expr × List Token) → Reduced all 0 r → Goes ts → close_or_end (read_from ts) (expr_before (tokens.Punctuation marks.Close ∷ ts) (if_stack_empty r)) (close_reduced r) ≡ Some found → IsSpelledExpr (all ++ tokens.Punctuation marks.Close ∷ ts) found
closed_found all ts ([], x) found h goes e = ended_found all (tokens.Punctuation marks.Close ∷ ts) ([], x) found h refl e
closed_found all ts (Open wrapper ∷ s, x) found h goes e =
    let o = open_front h.stacked wrapper s refl in
    let inside_it = in_wrapper wrapper h.back x h.spelled in
    let whole_is : (o.front ++ open_tokens wrapper) ++ h.back ≡ all = ap (λ l. l ++ h.back) (sym o.same) ∙ h.same in
    spelled_along _ _ found
    (close_joined o.front h.back ts wrapper ∙ ap (λ l. l ++ tokens.Punctuation marks.Close ∷ ts) whole_is)
    (goes _ s _ found (done o.stacked inside_it) e)
closed_found all ts (Not ∷ s, x) found h goes e = absurd (cc)
closed_found all ts (Left a op ∷ s, x) found h goes e = absurd (cc)

operator_by_case : (all ts : List Token) (op : BinOp) (sign : Token) (s : List StackItem) (x : Part) (found : Checked Expr × List Token) (b : Bool) → ((eqb (precedence op) 4) && is_after_comparison s) ≡ b → operator_of sign ≡ Some op → Reduced all (left_precedence (precedence op)) (s, x) → Goes ts → read_on (read_from ts) (cond b None (Some (Left x op ∷ s, NeedsOperand))) ≡ Some found → IsSpelledExpr (all ++ sign ∷ ts) found
operator_by_case all ts op sign s x found true c is h goes e = absurd (cc)
operator_by_case all ts op sign s x found false c is h goes e =
    let below = fits_by (precedence op) h.level (is_after_comparison s) (eqb (precedence op) 4) refl h.low c (plain_level h.stacked) in
    spelled_along _ _ found
    (sym (side_joined h.front h.back sign ts) ∙ sym (append_assoc h.front h.back (sign ∷ ts)) ∙ ap (λ l. l ++ sign ∷ ts) h.same)
    (goes _ _ _ found (due (sided op sign is below h.stacked h.spelled)) e)

operator_found : (all ts : List Token) (op : BinOp) (sign : Token) (r : List StackItem × Part) (found : Checked Expr × List Token) → operator_of sign ≡ Some op → Reduced all (left_precedence (precedence op)) r → Goes ts → read_on (read_from ts) (push_operator op r) ≡ Some found → IsSpelledExpr (all ++ sign ∷ ts) found
operator_found all ts op sign (s, x) found is h goes e = operator_by_case all ts op sign s x found ((eqb (precedence op) 4) && is_after_comparison s) refl is h goes e

tight_low : (op : BinOp) → left_precedence (precedence op) ≤ 7
tight_low ops.Or = omega arith
tight_low ops.And = omega arith
tight_low ops.Eq = omega arith
tight_low ops.Ne = omega arith
tight_low ops.Lt = omega arith
tight_low ops.Le = omega arith
tight_low ops.Gt = omega arith
tight_low ops.Ge = omega arith
tight_low ops.Add = omega arith
tight_low ops.Sub = omega arith
tight_low ops.Glue = omega arith
tight_low ops.Mul = omega arith
tight_low ops.Div = omega arith
tight_low ops.Rem = omega arith

rank_low : (op : BinOp) → precedence op + 1 ≤ 7
rank_low ops.Or = omega arith
rank_low ops.And = omega arith
rank_low ops.Eq = omega arith
rank_low ops.Ne = omega arith
rank_low ops.Lt = omega arith
rank_low ops.Le = omega arith
rank_low ops.Gt = omega arith
rank_low ops.Ge = omega arith
rank_low ops.Add = omega arith
rank_low ops.Sub = omega arith
rank_low ops.Glue = omega arith
rank_low ops.Mul = omega arith
rank_low ops.Div = omega arith
rank_low ops.Rem = omega arith

stacked_low : {d : List Token} {s : List StackItem} {p : ℕ} → Stacked d s p → p ≤ 7
stacked_low empty = omega arith
stacked_low (opened wrapper st) = omega arith
stacked_low (denied below st) = omega arith
stacked_low (sided op sign is below st left) = rank_low op

-- at an operator
at_operator : (op : BinOp) (sign : Token) (ts : List Token) (d : List Token) (s : List StackItem) (p : ℕ) (us : List Token) (x : Part) (found : Checked Expr × List Token) → operator_of sign ≡ Some op → Stacked d s p → Spells 7 us x → Goes ts → read_on (read_from ts) (push_operator op (reduce (left_precedence (precedence op)) s x)) ≡ Some found → IsSpelledExpr ((d ++ us) ++ sign ∷ ts) found
at_operator op sign ts d s p us x found is st f goes e =
    operator_found (d ++ us) ts op sign (reduce (left_precedence (precedence op)) s x) found is (reduced st (left_precedence (precedence op)) 7 us x (stacked_low st) (tight_low op) f) goes e

at_end : (rest d : List Token) (s : List StackItem) (p : ℕ) (us : List Token) (x : Part) (found : Checked Expr × List Token) → ends_at rest ≡ true → Stacked d s p → Spells 7 us x → expr_before rest (if_stack_empty (reduce 0 s x)) ≡ Some found → IsSpelledExpr ((d ++ us) ++ rest) found
at_end rest d s p us x found ends st f e =
    ended_found (d ++ us) rest (reduce 0 s x) found (reduced st 0 7 us x (stacked_low st) (omega arith) f) ends e

-- at a token that is an operand
at_operand : (token : Token) (ts d : List Token) (s : List StackItem) (p : ℕ) (x : Part) (found : Checked Expr × List Token) → Stacked d s p → Spells 7 (token ∷ []) x → Goes ts → read_from ts s (HasOperand x) ≡ Some found → IsSpelledExpr (d ++ token ∷ ts) found
at_operand token ts d s p x found st f goes e =
    spelled_along _ _ found (append_assoc d (token ∷ []) ts) (goes _ _ _ found (done st f) e)

at_signed : (n : Option ℕ) (ts d : List Token) (s : List StackItem) (p : ℕ) (found : Checked Expr × List Token) (b : Bool) → is_zero n ≡ b → Stacked d s p → Goes ts → read_on (read_from ts) (cond b None (Some (s, HasOperand (negative n)))) ≡ Some found → IsSpelledExpr ((d ++ tokens.Minus true ∷ []) ++ tokens.Numeral n ∷ ts) found
at_signed n ts d s p found true z st goes e = absurd (cc)
at_signed n ts d s p found false z st goes e =
    spelled_along _ _ found
    (append_assoc d (tokens.Minus true ∷ tokens.Numeral n ∷ []) ts ∙ sym (append_assoc d (tokens.Minus true ∷ []) (tokens.Numeral n ∷ ts)))
    (goes _ _ _ found (done st (signed n z)) e)

at_not : (ts d : List Token) (s : List StackItem) (p : ℕ) (found : Checked Expr × List Token) (b : Bool) → may_be_negated s ≡ b → Stacked d s p → Goes ts → read_on (read_from ts) (cond b (Some (Not ∷ s, NeedsOperand)) None) ≡ Some found → IsSpelledExpr (d ++ tokens.Keyword keys.Not ∷ ts) found
at_not ts d s p found true z st goes e =
    spelled_along _ _ found (append_assoc d (tokens.Keyword keys.Not ∷ []) ts) (goes _ _ _ found (due (denied (not_level st z) st)) e)
at_not ts d s p found false z st goes e = absurd (cc)

at_minus : (sign : Bool) (ts d : List Token) (s : List StackItem) (p : ℕ) (found : Checked Expr × List Token) → Stacked d s p → Goes ts → read_on (read_from ts) (cond sign (Some (s, NeedsNumber)) None) ≡ Some found → IsSpelledExpr (d ++ tokens.Minus sign ∷ ts) found
at_minus true ts d s p found st goes e =
    spelled_along _ _ found (append_assoc d (tokens.Minus true ∷ []) ts) (goes _ _ _ found (minus st) e)
at_minus false ts d s p found st goes e = absurd (cc)

at_open : (wrapper : Wrapper) (before ts d : List Token) (s : List StackItem) (p : ℕ) (found : Checked Expr × List Token) → before ++ tokens.Punctuation marks.Open ∷ [] ≡ open_tokens wrapper → Stacked d s p → Goes ts → read_from ts (Open wrapper ∷ s) NeedsOperand ≡ Some found → IsSpelledExpr ((d ++ before) ++ tokens.Punctuation marks.Open ∷ ts) found
at_open wrapper before ts d s p found is st goes e =
    let o = tokens.Punctuation marks.Open in
    spelled_along _ _ found
    (ap (λ l. (d ++ l) ++ ts) (sym is)
    ∙ append_assoc d (before ++ o ∷ []) ts
    ∙ ap (λ l. d ++ l) (append_assoc before (o ∷ []) ts)
    ∙ sym (append_assoc d before (o ∷ ts)))
    (goes _ _ _ found (due (opened wrapper st)) e)

at_name : (token : Token) (wrapper : Wrapper) (ts d : List Token) (s : List StackItem) (p : ℕ) (found : Checked Expr × List Token) → At (d ++ token ∷ []) s (NeedsParen wrapper) → Goes ts → read_from ts s (NeedsParen wrapper) ≡ Some found → IsSpelledExpr (d ++ token ∷ ts) found
at_name token wrapper ts d s p found h goes e =
    spelled_along _ _ found (append_assoc d (token ∷ []) ts) (goes _ _ _ found h e)

open_one : tokens.Punctuation marks.Open ∷ [] ≡ open_tokens wrappers.Paren
unfolding open_tokens
open_one = refl

open_text : tokens.Keyword keys.TextOf ∷ tokens.Punctuation marks.Open ∷ [] ≡ open_tokens wrappers.TextOf
unfolding open_tokens
open_text = refl

open_len : tokens.Keyword keys.Len ∷ tokens.Punctuation marks.Open ∷ [] ≡ open_tokens wrappers.Len
unfolding open_tokens
open_len = refl

goes : (ts : List Token) → Goes ts
goes [] d s place found (due st) e = absurd (cc)
goes [] d s place found (minus st) e = absurd (cc)
goes [] d s place found (opens_text st) e = absurd (cc)
goes [] d s place found (opens_len st) e = absurd (cc)
goes [] _ _ _ found (done {d = d} {ts = us} {s = s} {p = p} {x = x} st f) e = at_end [] d s p us x found refl st f e
goes (tokens.Numeral n ∷ ts) _ _ _ found (due {d = d} {s = s} {p = p} st) e = at_operand (tokens.Numeral n) ts d s p _ found st (number n) (goes ts) e
goes (tokens.Numeral n ∷ ts) _ _ _ found (minus {d = d} {s = s} {p = p} st) e = at_signed n ts d s p found (is_zero n) refl st (goes ts) e
goes (tokens.Numeral n ∷ ts) d s place found (opens_text st) e = absurd (cc)
goes (tokens.Numeral n ∷ ts) d s place found (opens_len st) e = absurd (cc)
goes (tokens.Numeral n ∷ ts) d s place found (done st f) e = absurd (cc)
goes (tokens.Dotted n ∷ ts) d s place found at e = absurd (cc)
goes (tokens.Text n ∷ ts) _ _ _ found (due {d = d} {s = s} {p = p} st) e = at_operand (tokens.Text n) ts d s p _ found st (text n) (goes ts) e
goes (tokens.Text n ∷ ts) d s place found (minus st) e = absurd (cc)
goes (tokens.Text n ∷ ts) d s place found (opens_text st) e = absurd (cc)
goes (tokens.Text n ∷ ts) d s place found (opens_len st) e = absurd (cc)
goes (tokens.Text n ∷ ts) d s place found (done st f) e = absurd (cc)
goes (tokens.Name n ∷ ts) _ _ _ found (due {d = d} {s = s} {p = p} st) e = at_operand (tokens.Name n) ts d s p _ found st (variable n) (goes ts) e
goes (tokens.Name n ∷ ts) d s place found (minus st) e = absurd (cc)
goes (tokens.Name n ∷ ts) d s place found (opens_text st) e = absurd (cc)
goes (tokens.Name n ∷ ts) d s place found (opens_len st) e = absurd (cc)
goes (tokens.Name n ∷ ts) d s place found (done st f) e = absurd (cc)
goes (tokens.Keyword keys.Nothing ∷ ts) _ _ _ found (due {d = d} {s = s} {p = p} st) e = at_operand (tokens.Keyword keys.Nothing) ts d s p _ found st nothing (goes ts) e
goes (tokens.Keyword keys.Nothing ∷ ts) d s place found (minus st) e = absurd (cc)
goes (tokens.Keyword keys.Nothing ∷ ts) d s place found (opens_text st) e = absurd (cc)
goes (tokens.Keyword keys.Nothing ∷ ts) d s place found (opens_len st) e = absurd (cc)
goes (tokens.Keyword keys.Nothing ∷ ts) d s place found (done st f) e = absurd (cc)
goes (tokens.Keyword keys.Not ∷ ts) _ _ _ found (due {d = d} {s = s} {p = p} st) e = at_not ts d s p found (may_be_negated s) refl st (goes ts) e
goes (tokens.Keyword keys.Not ∷ ts) d s place found (minus st) e = absurd (cc)
goes (tokens.Keyword keys.Not ∷ ts) d s place found (opens_text st) e = absurd (cc)
goes (tokens.Keyword keys.Not ∷ ts) d s place found (opens_len st) e = absurd (cc)
goes (tokens.Keyword keys.Not ∷ ts) d s place found (done st f) e = absurd (cc)
goes (tokens.Keyword keys.TextOf ∷ ts) _ _ _ found (due {d = d} {s = s} {p = p} st) e = at_name (tokens.Keyword keys.TextOf) wrappers.TextOf ts d s p found (opens_text st) (goes ts) e
goes (tokens.Keyword keys.TextOf ∷ ts) d s place found (minus st) e = absurd (cc)
goes (tokens.Keyword keys.TextOf ∷ ts) d s place found (opens_text st) e = absurd (cc)
goes (tokens.Keyword keys.TextOf ∷ ts) d s place found (opens_len st) e = absurd (cc)
goes (tokens.Keyword keys.TextOf ∷ ts) d s place found (done st f) e = absurd (cc)
goes (tokens.Keyword keys.Len ∷ ts) _ _ _ found (due {d = d} {s = s} {p = p} st) e = at_name (tokens.Keyword keys.Len) wrappers.Len ts d s p found (opens_len st) (goes ts) e
goes (tokens.Keyword keys.Len ∷ ts) d s place found (minus st) e = absurd (cc)
goes (tokens.Keyword keys.Len ∷ ts) d s place found (opens_text st) e = absurd (cc)
goes (tokens.Keyword keys.Len ∷ ts) d s place found (opens_len st) e = absurd (cc)
goes (tokens.Keyword keys.Len ∷ ts) d s place found (done st f) e = absurd (cc)
goes (tokens.Keyword keys.Function ∷ ts) d s place found at e = absurd (cc)
goes (tokens.Keyword keys.End ∷ ts) d s place found at e = absurd (cc)
goes (tokens.Keyword keys.Let ∷ ts) d s place found at e = absurd (cc)
goes (tokens.Keyword keys.Read ∷ ts) d s place found at e = absurd (cc)
goes (tokens.Keyword keys.Write ∷ ts) d s place found at e = absurd (cc)
goes (tokens.Keyword keys.Spawn ∷ ts) d s place found at e = absurd (cc)
goes (tokens.Keyword keys.Join ∷ ts) d s place found at e = absurd (cc)
goes (tokens.Keyword keys.Push ∷ ts) d s place found at e = absurd (cc)
goes (tokens.Keyword keys.Pop ∷ ts) d s place found at e = absurd (cc)
goes (tokens.Keyword keys.Begin ∷ ts) d s place found at e = absurd (cc)
goes (tokens.Keyword keys.Commit ∷ ts) d s place found at e = absurd (cc)
goes (tokens.Keyword keys.If ∷ ts) d s place found at e = absurd (cc)
goes (tokens.Keyword keys.Else ∷ ts) d s place found at e = absurd (cc)
goes (tokens.Keyword keys.While ∷ ts) d s place found at e = absurd (cc)
goes (tokens.Keyword keys.Return ∷ ts) d s place found at e = absurd (cc)
goes (tokens.Op op ∷ ts) d s place found (due st) e = absurd (cc)
goes (tokens.Op op ∷ ts) d s place found (minus st) e = absurd (cc)
goes (tokens.Op op ∷ ts) d s place found (opens_text st) e = absurd (cc)
goes (tokens.Op op ∷ ts) d s place found (opens_len st) e = absurd (cc)
goes (tokens.Op op ∷ ts) _ _ _ found (done {d = d} {ts = us} {s = s} {p = p} {x = x} st f) e = at_operator op (tokens.Op op) ts d s p us x found refl st f (goes ts) e
goes (tokens.Minus sign ∷ ts) _ _ _ found (due {d = d} {s = s} {p = p} st) e = at_minus sign ts d s p found st (goes ts) e
goes (tokens.Minus sign ∷ ts) d s place found (minus st) e = absurd (cc)
goes (tokens.Minus sign ∷ ts) d s place found (opens_text st) e = absurd (cc)
goes (tokens.Minus sign ∷ ts) d s place found (opens_len st) e = absurd (cc)
goes (tokens.Minus sign ∷ ts) _ _ _ found (done {d = d} {ts = us} {s = s} {p = p} {x = x} st f) e = at_operator ops.Sub (tokens.Minus sign) ts d s p us x found refl st f (goes ts) e
goes (tokens.Punctuation marks.Open ∷ ts) _ _ _ found (due {d = d} {s = s} {p = p} st) e = spelled_along _ _ found (ap (λ l. l ++ tokens.Punctuation marks.Open ∷ ts) (append-nil d)) (at_open wrappers.Paren [] ts d s p found open_one st (goes ts) e)
goes (tokens.Punctuation marks.Open ∷ ts) d s place found (minus st) e = absurd (cc)
goes (tokens.Punctuation marks.Open ∷ ts) _ _ _ found (opens_text {d = d} {s = s} {p = p} st) e = at_open wrappers.TextOf (tokens.Keyword keys.TextOf ∷ []) ts d s p found open_text st (goes ts) e
goes (tokens.Punctuation marks.Open ∷ ts) _ _ _ found (opens_len {d = d} {s = s} {p = p} st) e = at_open wrappers.Len (tokens.Keyword keys.Len ∷ []) ts d s p found open_len st (goes ts) e
goes (tokens.Punctuation marks.Open ∷ ts) d s place found (done st f) e = absurd (cc)
goes (tokens.Punctuation marks.Close ∷ ts) d s place found (due st) e = absurd (cc)
goes (tokens.Punctuation marks.Close ∷ ts) d s place found (minus st) e = absurd (cc)
goes (tokens.Punctuation marks.Close ∷ ts) d s place found (opens_text st) e = absurd (cc)
goes (tokens.Punctuation marks.Close ∷ ts) d s place found (opens_len st) e = absurd (cc)
goes (tokens.Punctuation marks.Close ∷ ts) _ _ _ found (done {d = d} {ts = us} {s = s} {p = p} {x = x} st f) e = closed_found (d ++ us) ts (reduce 0 s x) found (reduced st 0 7 us x (stacked_low st) (omega arith) f) (goes ts) e
goes (tokens.Punctuation marks.Comma ∷ ts) d s place found (due st) e = absurd (cc)
goes (tokens.Punctuation marks.Comma ∷ ts) d s place found (minus st) e = absurd (cc)
goes (tokens.Punctuation marks.Comma ∷ ts) d s place found (opens_text st) e = absurd (cc)
goes (tokens.Punctuation marks.Comma ∷ ts) d s place found (opens_len st) e = absurd (cc)
goes (tokens.Punctuation marks.Comma ∷ ts) _ _ _ found (done {d = d} {ts = us} {s = s} {p = p} {x = x} st f) e = at_end (tokens.Punctuation marks.Comma ∷ ts) d s p us x found refl st f e
goes (tokens.Punctuation marks.Assign ∷ ts) d s place found (due st) e = absurd (cc)
goes (tokens.Punctuation marks.Assign ∷ ts) d s place found (minus st) e = absurd (cc)
goes (tokens.Punctuation marks.Assign ∷ ts) d s place found (opens_text st) e = absurd (cc)
goes (tokens.Punctuation marks.Assign ∷ ts) d s place found (opens_len st) e = absurd (cc)
goes (tokens.Punctuation marks.Assign ∷ ts) _ _ _ found (done {d = d} {ts = us} {s = s} {p = p} {x = x} st f) e = at_end (tokens.Punctuation marks.Assign ∷ ts) d s p us x found refl st f e

pub read_is_spelled : (ts : List Token) (found : Checked Expr × List Token) → expr_at ts ≡ Some found → IsSpelledExpr ts found
read_is_spelled ts found e = goes ts [] [] NeedsOperand found (due empty) e
