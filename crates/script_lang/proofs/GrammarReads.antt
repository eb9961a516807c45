-- What the grammar spells is read.
use Rattle.std.proofs.Common.{◌≡◌, ◌≢◌, ℕ, ◌+◌, ◌<◌, ◌≤◌, Bool, true, false, cond, eqb, leb, ltb, List, [], ◌∷◌, ◌++◌, Option, Some, None, refl, ap, ◌∙◌, subst, append_assoc, arith, eqb-true}
use Rattle.std.specs.Prelude.{◌&&◌}
use Rattle.std.proofs.lemmas.Bool.Decides.{nat_tests}
use Rattle.boki_types.specs.declared.expr.BinOp.{BinOp}
use Rattle.boki_types.specs.declared.expr.BinOp.TheVariants as o
use Rattle.line_text.specs.declared.token.Keyword.TheVariants as k
use Rattle.line_text.specs.declared.token.Punctuation.TheVariants as m
use Rattle.line_text.specs.declared.token.Token.{Token}
use Rattle.line_text.specs.declared.token.Token.TheVariants as t
use Rattle.script_lang.specs.declared.parts.Part.{Part}
use Rattle.script_lang.specs.declared.parts.Wrapper.{Wrapper}
use Rattle.script_lang.specs.declared.parts.Wrapper.TheVariants as w
use Rattle.script_lang.specs.declared.stack.StackItem.{StackItem}
use Rattle.script_lang.specs.declared.stack.StackItem.TheVariants.{Open, Not, Left}
use Rattle.script_lang.specs.declared.stack.ExprState.TheVariants.{NeedsOperand, HasOperand}
use Rattle.script_lang.specs.Expressions.{binary_part, nested_part, wrap, not_expr, negative, precedence, left_precedence, reduce, is_after_comparison, may_be_negated, push_operator, read_on, close_or_end, close_reduced, if_stack_empty, expr_before, checked_expr, read_from, expr_at}
use Rattle.line_text.specs.Readers.{is_zero}
use Rattle.script_lang.specs.Grammar.{Spells, number, signed, text, variable, nothing, parens, text_of, len_of, negation, binary, operator_of, ends_at}

-- Nothing that waits binds so tightly, and what is to be read with p may stand there.
pub record Weak (s : List StackItem) (p : ℕ) : Type 0 where
  pub stays : (q : ℕ) (y : Part) → p ≤ q → q ≢ 3 → reduce q s y ≡ (s, y)
  pub nots : p ≤ 3 → may_be_negated s ≡ true
  pub plain : p ≤ 4 → is_after_comparison s ≡ false

-- Tokens are read as a part: what is read then stands for it, for operators that bind no more tightly than p.
pub record Reads (p : ℕ) (ts : List Token) (x : Part) (s : List StackItem) : Type 0 where
  pub items : List StackItem
  pub read : Part
  pub run : (rest : List Token) → read_from (ts ++ rest) s NeedsOperand ≡ read_from rest items (HasOperand read)
  pub same : (q : ℕ) → q ≤ p → q ≢ 3 → reduce q items read ≡ reduce q s x

chosen : {X : Type 0} (m n : ℕ) (x y : X) → m ≤ n → cond (leb m n) x y ≡ x
chosen m n x y h = grind (arith, nat_tests, h)

passed : {X : Type 0} (m n : ℕ) (x y : X) → n < m → cond (leb m n) x y ≡ y
passed m n x y h = grind (arith, nat_tests, h)

below : (m n : ℕ) → m < n → ltb m n ≡ true
below m n h = grind (arith, nat_tests, h)

differs : (m n : ℕ) → m ≢ n → eqb m n ≡ false
differs m n h = grind (arith, nat_tests, h)

pub weak_nil : (p : ℕ) → Weak [] p
weak_nil p = record { stays = λ q y h k. refl; nots = λ h. refl; plain = λ h. refl }

weak_open : (wrapper : Wrapper) (s : List StackItem) (p : ℕ) → Weak (Open wrapper ∷ s) p
weak_open wrapper s p = record { stays = λ q y h k. refl; nots = λ h. refl; plain = λ h. refl }

weak_not : (s : List StackItem) → Weak (Not ∷ s) 3
weak_not s = record {
  stays = λ q y h k. passed q 3 _ _ (omega arith);
  nots = λ h. refl;
  plain = λ h. refl;
}

weak_left : (a : Part) (op : BinOp) (s : List StackItem) → Weak (Left a op ∷ s) (precedence op + 1)
weak_left a op s = record {
  stays = λ q y h k. passed q (precedence op) _ _ (omega arith);
  nots = λ h. below (precedence op) 4 (omega arith);
  plain = λ h. differs (precedence op) 4 (omega arith);
}

weak_more : (s : List StackItem) (p q : ℕ) → p ≤ q → Weak s p → Weak s q
weak_more s p q h w = record {
  stays = λ r y k j. w.stays r y (omega arith) j;
  nots = λ k. w.nots (omega arith);
  plain = λ k. w.plain (omega arith);
}

-- the ranks of operators
tight_at : (op : BinOp) → (precedence op ≤ left_precedence (precedence op)) × (left_precedence (precedence op) ≢ 3)
tight_at o.Or = (omega arith, omega arith)
tight_at o.And = (omega arith, omega arith)
tight_at o.Eq = (omega arith, omega arith)
tight_at o.Ne = (omega arith, omega arith)
tight_at o.Lt = (omega arith, omega arith)
tight_at o.Le = (omega arith, omega arith)
tight_at o.Gt = (omega arith, omega arith)
tight_at o.Ge = (omega arith, omega arith)
tight_at o.Add = (omega arith, omega arith)
tight_at o.Sub = (omega arith, omega arith)
tight_at o.Glue = (omega arith, omega arith)
tight_at o.Mul = (omega arith, omega arith)
tight_at o.Div = (omega arith, omega arith)
tight_at o.Rem = (omega arith, omega arith)

plain_by : (r p : ℕ) (b t : Bool) → eqb r 4 ≡ t → p ≤ r → (p ≤ 4 → b ≡ false) → (t && b) ≡ false
plain_by r p b true e h f = f (omega (arith, eqb-true r 4 e))
plain_by r p b false e h f = refl

op_step : (sign : Token) (op : BinOp) → operator_of sign ≡ Some op → (rest : List Token) (s : List StackItem) (x : Part) → read_from (sign ∷ rest) s (HasOperand x) ≡ read_on (read_from rest) (push_operator op (reduce (left_precedence (precedence op)) s x))
op_step (t.Op other) op e rest s x =
    let h : other ≡ op = cc in
    subst (λ (v : BinOp). read_from (t.Op other ∷ rest) s (HasOperand x) ≡ read_on (read_from rest) (push_operator v (reduce (left_precedence (precedence v)) s x))) h refl
op_step (t.Minus b) op e rest s x =
    let h : o.Sub ≡ op = cc in
    subst (λ (v : BinOp). read_from (t.Minus b ∷ rest) s (HasOperand x) ≡ read_on (read_from rest) (push_operator v (reduce (left_precedence (precedence v)) s x))) h refl
op_step (t.Numeral n) op e rest s x = absurd (cc)
op_step (t.Dotted n) op e rest s x = absurd (cc)
op_step (t.Text n) op e rest s x = absurd (cc)
op_step (t.Name n) op e rest s x = absurd (cc)
op_step (t.Keyword n) op e rest s x = absurd (cc)
op_step (t.Punctuation n) op e rest s x = absurd (cc)

fits_left : (op : BinOp) (p : ℕ) (s : List StackItem) (a : Part) → p ≤ precedence op → Weak s p → push_operator op (s, a) ≡ Some (Left a op ∷ s, NeedsOperand)
fits_left op p s a h w =
    ap (λ b. cond b None (Some (Left a op ∷ s, NeedsOperand))) (plain_by (precedence op) p (is_after_comparison s) (eqb (precedence op) 4) refl h w.plain)

read_binary : (op : BinOp) (sign : Token) (p : ℕ) (ts us : List Token) (a b : Part) (s : List StackItem) → operator_of sign ≡ Some op → p ≤ precedence op → Weak s p → Reads (left_precedence (precedence op)) ts a s → Reads (precedence op + 1) us b (Left a op ∷ s) → Reads p (ts ++ sign ∷ us) (binary_part op a b) s
read_binary op sign p ts us a b s is h w ra rb =
    let l = left_precedence (precedence op) in
    let t = tight_at op in
    let taken : reduce l ra.items ra.read ≡ (s, a) = ra.same l (omega arith) t.1 ∙ w.stays l a (omega (arith, t.0)) t.1 in
    record {
      items = rb.items;
      read = rb.read;
      run = λ rest.
          ap (λ l. read_from l s NeedsOperand) (append_assoc ts (sign ∷ us) rest)
          ∙ ra.run (sign ∷ (us ++ rest))
          ∙ op_step sign op is (us ++ rest) ra.items ra.read
          ∙ ap (λ z. read_on (read_from (us ++ rest)) (push_operator op z)) taken
          ∙ ap (read_on (read_from (us ++ rest))) (fits_left op p s a h w)
          ∙ rb.run rest;
      same = λ q k j. rb.same q (omega arith) j ∙ chosen q (precedence op) _ _ (omega arith);
    }

read_wrapped : (wrapper : Wrapper) (ts : List Token) (a : Part) (s : List StackItem) → Reads 0 ts a (Open wrapper ∷ s) → (rest : List Token) → read_from ((ts ++ t.Punctuation m.Close ∷ []) ++ rest) (Open wrapper ∷ s) NeedsOperand ≡ read_from rest s (HasOperand (nested_part (wrap wrapper) a))
read_wrapped wrapper ts a s r rest =
    let zero : reduce 0 r.items r.read ≡ (Open wrapper ∷ s, a) = r.same 0 (omega arith) (omega arith) in
    ap (λ l. read_from l (Open wrapper ∷ s) NeedsOperand) (append_assoc ts (t.Punctuation m.Close ∷ []) rest)
    ∙ r.run (t.Punctuation m.Close ∷ rest)
    ∙ ap (λ z. close_or_end (read_from rest) (expr_before (t.Punctuation m.Close ∷ rest) (if_stack_empty z)) (close_reduced z)) zero

atom : (p : ℕ) (ts : List Token) (a : Part) (s : List StackItem) → ((rest : List Token) → read_from (ts ++ rest) s NeedsOperand ≡ read_from rest s (HasOperand a)) → Reads p ts a s
atom p ts a s run = record { items = s; read = a; run = run; same = λ q h k. refl }

read_signed : (n : Option ℕ) (s : List StackItem) (rest : List Token) (b : Bool) → is_zero n ≡ b → b ≡ false → read_on (read_from rest) (cond b None (Some (s, HasOperand (negative n)))) ≡ read_from rest s (HasOperand (negative n))
read_signed n s rest true e f = absurd (cc)
read_signed n s rest false e f = refl

read_negation : (p : ℕ) (ts : List Token) (a : Part) (s : List StackItem) → p ≤ 3 → Weak s p → Reads 3 ts a (Not ∷ s) → Reads p (t.Keyword k.Not ∷ ts) (nested_part not_expr a) s
read_negation p ts a s h w r = record {
  items = r.items;
  read = r.read;
  run = λ rest. ap (λ b. read_on (read_from (ts ++ rest)) (cond b (Some (Not ∷ s, NeedsOperand)) None)) (w.nots h) ∙ r.run rest;
  same = λ q k j. r.same q (omega arith) j ∙ chosen q 3 _ _ (omega arith);
}

pub reads : {p : ℕ} {ts : List Token} {a : Part} → Spells p ts a → (s : List StackItem) → Weak s p → Reads p ts a s
reads {p} (number n) s weak = atom p _ _ s (λ rest. refl)
reads {p} (signed n e) s weak = atom p _ _ s (λ rest. read_signed n s rest (is_zero n) refl e)
reads {p} (text x) s weak = atom p _ _ s (λ rest. refl)
reads {p} (variable x) s weak = atom p _ _ s (λ rest. refl)
reads {p} nothing s weak = atom p _ _ s (λ rest. refl)
reads {p} (parens {ts = ts} {a = a} d) s weak = atom p _ _ s (read_wrapped w.Paren ts a s (reads d (Open w.Paren ∷ s) (weak_open w.Paren s 0)))
reads {p} (text_of {ts = ts} {a = a} d) s weak = atom p _ _ s (read_wrapped w.TextOf ts a s (reads d (Open w.TextOf ∷ s) (weak_open w.TextOf s 0)))
reads {p} (len_of {ts = ts} {a = a} d) s weak = atom p _ _ s (read_wrapped w.Len ts a s (reads d (Open w.Len ∷ s) (weak_open w.Len s 0)))
reads {p} (negation {ts = ts} {a = a} h d) s weak = read_negation p ts a s h weak (reads d (Not ∷ s) (weak_not s))
reads {p} (binary {ts = ts} {us = us} {a = a} {b = b} op sign is h d f) s weak =
    read_binary op sign p ts us a b s is h weak
    (reads d s (weak_more s p (left_precedence (precedence op)) (omega (arith, (tight_at op).0)) weak))
    (reads f (Left a op ∷ s) (weak_left a op s))

end_read : (rest : List Token) (s : List StackItem) (x a : Part) → ends_at rest ≡ true → reduce 0 s x ≡ ([], a) → read_from rest s (HasOperand x) ≡ Some (checked_expr a, rest)
end_read [] s x a e h = ap (λ z. expr_before [] (if_stack_empty z)) h
end_read (t.Punctuation m.Close ∷ ts) s x a e h = ap (λ z. close_or_end (read_from ts) (expr_before (t.Punctuation m.Close ∷ ts) (if_stack_empty z)) (close_reduced z)) h
end_read (t.Punctuation m.Comma ∷ ts) s x a e h = ap (λ z. expr_before (t.Punctuation m.Comma ∷ ts) (if_stack_empty z)) h
end_read (t.Punctuation m.Assign ∷ ts) s x a e h = ap (λ z. expr_before (t.Punctuation m.Assign ∷ ts) (if_stack_empty z)) h
end_read (t.Punctuation m.Open ∷ ts) s x a e h = absurd (cc)
end_read (t.Numeral n ∷ ts) s x a e h = absurd (cc)
end_read (t.Dotted n ∷ ts) s x a e h = absurd (cc)
end_read (t.Text n ∷ ts) s x a e h = absurd (cc)
end_read (t.Name n ∷ ts) s x a e h = absurd (cc)
end_read (t.Keyword n ∷ ts) s x a e h = absurd (cc)
end_read (t.Op n ∷ ts) s x a e h = absurd (cc)
end_read (t.Minus n ∷ ts) s x a e h = absurd (cc)

pub spelled_is_read : (ts rest : List Token) (a : Part) → Spells 0 ts a → ends_at rest ≡ true → expr_at (ts ++ rest) ≡ Some (checked_expr a, rest)
spelled_is_read ts rest a d e =
    let r = reads d [] (weak_nil 0) in
    r.run rest ∙ end_read rest r.items r.read a e (r.same 0 (omega arith) (omega arith))
