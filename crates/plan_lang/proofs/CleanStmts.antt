-- The texts of expressions and statements that are read from a text are spelled in UTF-8.
use Rattle.std.proofs.Common.{◌≡◌, ℕ, ◌+◌, ◌^◌, max, Bool, true, false, cond, List, [], ◌∷◌, length, Option, Some, None, refl, sym, ◌∙◌, subst, pos, neg_ℤ}
use Rattle.std.specs.Prelude.{◌&&◌, option_and_then, bytes_eq, codes, nat_lt, nat_le}
use Rattle.std.specs.List.{list_all}
use denote.Hole.Carrier.{hidden}
use Rattle.boki_types.specs.declared.expr.BinOp.{BinOp}
use Rattle.boki_types.specs.declared.expr.Expr.{Expr, more_of-Expr, end_of-Expr}
use Rattle.boki_types.specs.declared.expr.Expr.TheVariants as e
use Rattle.boki_types.specs.declared.expr.Expr.TheBlock.{shape-the_row-Expr-0, hidden-the_row-Expr-0}
use Rattle.boki_types.specs.declared.program.Stmt.{Stmt}
use Rattle.boki_types.specs.declared.program.Stmt.TheVariants as s
use Rattle.boki_model.specs.Plans.{expressions}
use Rattle.boki_model.specs.Script.{pair_expressions, both_sides}
use Rattle.script_lang.specs.declared.parts.Part.{Part}
use Rattle.script_lang.specs.declared.parts.Part.TheVariants.{Tree, OutOfRange, TooDeep}
use Rattle.script_lang.specs.declared.parts.Wrapper.{Wrapper}
use Rattle.script_lang.specs.declared.parts.Wrapper.TheVariants as w
use Rattle.line_text.specs.declared.checked.Checked.{Checked}
use Rattle.line_text.specs.declared.checked.Checked.TheVariants as r
use Rattle.script_lang.specs.declared.setters.Setter.{Setter}
use Rattle.script_lang.specs.declared.setters.Setter.TheVariants as g
use Rattle.line_text.specs.declared.lists.CommaList.{CommaList}
use Rattle.line_text.specs.declared.token.Keyword.{Keyword}
use Rattle.line_text.specs.declared.token.Keyword.TheVariants as k
use Rattle.line_text.specs.declared.token.Punctuation.TheVariants as m
use Rattle.line_text.specs.declared.token.Token.{Token}
use Rattle.line_text.specs.declared.token.Token.TheVariants as t
use Rattle.script_lang.specs.Expressions.{leaf, binary_part, nested_part, wrap, not_expr, positive, negative, checked_expr, expr_at}
use Rattle.script_lang.specs.Grammar.{Spells, number, signed, text, variable, nothing, parens, text_of, len_of, negation, binary}
use Rattle.line_text.specs.Checks.{both_checked, map_checked, checked_if}
use Rattle.line_text.specs.Readers.{expect, rest_if, if_at_end}
use Rattle.line_text.specs.Lists.{comma_list, up_to_eight}
use Rattle.script_lang.specs.Statements.{assignment_at, pair_at, name_and_list, setter_of, setter_by, setter_at, set_value, make_commit, set_commit, set_by, let_of, pair_stmt_of, expr_stmt_of, group_stmt_of, read_all_of, behind_keyword, stmt_of}
use Rattle.line_text.specs.Stream.{take_punctuation, keyword_at}
use Rattle.script_lang.proofs.GrammarSpelled.{read_is_spelled}
use Rattle.plan_lang.proofs.CleanReads.{Leaves, Reads, LeavesMany, Applied, bind_clean, clean_front, drop_clean, taken_clean, several_clean, few_clean, applied_clean}
use Rattle.line_text.proofs.FieldsInRange.{any_if_valid, IfValid, IfLineValid, map_if_valid, both_true, split_true, pair_test, both_if_valid, at_end_if_valid}
use Rattle.line_text.proofs.Utf8Tokens.{is_clean_text, is_clean, are_clean}

-- Expressions.
abbrev pub is_clean_expr : Expr → Bool
is_clean_expr (e.Int n) = true
is_clean_expr (e.Text x) = is_clean_text x
is_clean_expr e.Nothing = true
is_clean_expr (e.Var x) = true
is_clean_expr (e.Not' p' (more_of-Expr a end_of-Expr)) = is_clean_expr a
is_clean_expr (e.Two' o p' (more_of-Expr a end_of-Expr) q' (more_of-Expr b end_of-Expr)) = is_clean_expr a && is_clean_expr b
is_clean_expr (e.TextOf' p' (more_of-Expr a end_of-Expr)) = is_clean_expr a
is_clean_expr (e.Len' p' (more_of-Expr a end_of-Expr)) = is_clean_expr a

abbrev CleanPart : Part → Type 0
CleanPart (Tree x n d) = is_clean_expr x ≡ true
CleanPart OutOfRange = Unit {0}
CleanPart TooDeep = Unit {0}

of_not : (a : Expr) → is_clean_expr (e.Not a) ≡ is_clean_expr a
unfolding shape-the_row-Expr-0 hidden-the_row-Expr-0 hidden
of_not a = refl

of_wrap : (x : Wrapper) (a : Expr) → is_clean_expr (wrap x a) ≡ is_clean_expr a
unfolding shape-the_row-Expr-0 hidden-the_row-Expr-0 hidden
of_wrap w.Paren a = refl
of_wrap w.TextOf a = refl
of_wrap w.Len a = refl

of_two : (o : BinOp) (a b : Expr) → is_clean_expr (e.Two o a b) ≡ (is_clean_expr a && is_clean_expr b)
unfolding shape-the_row-Expr-0 hidden-the_row-Expr-0 hidden
of_two o a b = refl

leaf_clean : (b : Bool) (x : Expr) → is_clean_expr x ≡ true → CleanPart (leaf b x)
leaf_clean true x h = h
leaf_clean false x h = tt

number_by : (b : Bool) (x : Expr) → is_clean_expr x ≡ true → CleanPart (cond b (Tree x 1 0) OutOfRange)
number_by true x h = h
number_by false x h = tt

positive_clean : (n : Option ℕ) → CleanPart (positive n)
positive_clean None = tt
positive_clean (Some n) = number_by (nat_lt n (2 ^ 63)) (e.Int (pos n)) refl

negative_clean : (n : Option ℕ) → CleanPart (negative n)
negative_clean None = tt
negative_clean (Some n) = number_by (nat_le n (2 ^ 63)) (e.Int (neg_ℤ (pos n))) refl

deeper_by : (make : Expr → Expr) (x : Expr) (n d : ℕ) (b : Bool) → is_clean_expr (make x) ≡ is_clean_expr x → is_clean_expr x ≡ true → CleanPart (cond b (Tree (make x) n (d + 1)) TooDeep)
deeper_by make x n d true e h = e ∙ h
deeper_by make x n d false e h = tt

inside_clean : (make : Expr → Expr) (a : Part) → ((x : Expr) → is_clean_expr (make x) ≡ is_clean_expr x) → CleanPart a → CleanPart (nested_part make a)
inside_clean make (Tree x n d) e h = deeper_by make x n d (nat_lt d 32) (e x) h
inside_clean make OutOfRange e h = tt
inside_clean make TooDeep e h = tt

two_by : (o : BinOp) (x y : Expr) (n m d : ℕ) (b : Bool) → is_clean_expr x ≡ true → is_clean_expr y ≡ true → CleanPart (cond b (Tree (e.Two o x y) (n + m) d) TooDeep)
two_by o x y n m d true h k = of_two o x y ∙ both_true (is_clean_expr x) (is_clean_expr y) h k
two_by o x y n m d false h k = tt

two_clean : (o : BinOp) (a b : Part) → CleanPart a → CleanPart b → CleanPart (binary_part o a b)
two_clean o (Tree x n d) (Tree y m f) h k = two_by o x y n m (max d f) (nat_le (n + m) 64) h k
two_clean o (Tree x n d) OutOfRange h k = tt
two_clean o (Tree x n d) TooDeep h k = tt
two_clean o OutOfRange b h k = tt
two_clean o TooDeep (Tree y m f) h k = tt
two_clean o TooDeep OutOfRange h k = tt
two_clean o TooDeep TooDeep h k = tt

spelled_clean : {p : ℕ} {ts : List Token} {a : Part} → Spells p ts a → are_clean ts ≡ true → CleanPart a
spelled_clean (number n) h = positive_clean n
spelled_clean (signed n f) h = negative_clean n
spelled_clean (text x) h = leaf_clean (nat_le (length x) 256) (e.Text x) ((split_true (is_clean_text x) true h).0)
spelled_clean (variable x) h = leaf_clean (nat_le (length x) 32) (e.Var x) refl
spelled_clean nothing h = refl
spelled_clean (parens {ts = ts} {a = a} d) h = inside_clean (wrap w.Paren) a (of_wrap w.Paren) (spelled_clean d ((clean_front ts (t.Punctuation m.Close ∷ []) h).0))
spelled_clean (text_of {ts = ts} {a = a} d) h = inside_clean (wrap w.TextOf) a (of_wrap w.TextOf) (spelled_clean d ((clean_front ts (t.Punctuation m.Close ∷ []) h).0))
spelled_clean (len_of {ts = ts} {a = a} d) h = inside_clean (wrap w.Len) a (of_wrap w.Len) (spelled_clean d ((clean_front ts (t.Punctuation m.Close ∷ []) h).0))
spelled_clean (negation {ts = ts} {a = a} l d) h = inside_clean not_expr a of_not (spelled_clean d h)
spelled_clean (binary {ts = ts} {us = us} {a = a} {b = b} op sign is l d f) h =
    let q = clean_front ts (sign ∷ us) h in
    two_clean op a b (spelled_clean d q.0) (spelled_clean f ((split_true (is_clean sign) (are_clean us) q.1).1))

part_clean : (a : Part) → CleanPart a → IfValid is_clean_expr (checked_expr a)
part_clean (Tree x n d) h = h
part_clean OutOfRange h = tt
part_clean TooDeep h = tt

found_clean : (ts : List Token) (o : Option (Checked Expr × List Token)) → expr_at ts ≡ o → are_clean ts ≡ true → Leaves is_clean_expr o
found_clean ts None f h = tt
found_clean ts (Some found) f h =
    let q = read_is_spelled ts found f in
    let P : List Token → Type 0 = λ us. are_clean us ≡ true in
    let Q : Checked Expr → Type 0 = λ x. IfValid is_clean_expr x in
    let c = clean_front q.front found.1 (subst P (sym q.same) h) in
    (subst Q (sym q.value) (part_clean q.part (spelled_clean q.spelled c.0)), c.1)

pub expr_clean : Reads is_clean_expr expr_at
expr_clean ts h = found_clean ts (expr_at ts) refl h

-- Pairs.
abbrev named_test : List ℕ × Expr → Bool
named_test p = is_clean_expr p.1

abbrev two_test : Expr × Expr → Bool
two_test p = is_clean_expr p.0 && is_clean_expr p.1

named_fine : (name : Checked (List ℕ)) (x : Checked Expr) → IfValid is_clean_expr x → IfValid named_test (both_checked name x)
named_fine name x h = both_if_valid (λ _. true) is_clean_expr name x (any_if_valid name) h

named_on : (name : Checked (List ℕ)) (o : Option (Checked Expr × List Token)) → Leaves is_clean_expr o → Leaves named_test (option_and_then (λ (x : Checked Expr × List Token). Some (both_checked name x.0, x.1)) o)
named_on name None h = tt
named_on name (Some x) h = (named_fine name x.0 h.0, h.1)

named_by : (name : Checked (List ℕ)) (q : Bool × List Token) → are_clean q.1 ≡ true → Leaves named_test (option_and_then (λ (rest : List Token). option_and_then (λ (x : Checked Expr × List Token). Some (both_checked name x.0, x.1)) (expr_at rest)) (rest_if q))
named_by name (true, ts) h = named_on name (expr_at ts) (expr_clean ts h)
named_by name (false, ts) h = tt

named_clean : Reads named_test assignment_at
named_clean (t.Name x ∷ ts) h = named_by (checked_if (nat_le (length x) 32) x) (take_punctuation m.Assign ts) (taken_clean m.Assign ts h)
named_clean _ h = tt

two_on : (x : Checked Expr) → IfValid is_clean_expr x → (o : Option (Checked Expr × List Token)) → Leaves is_clean_expr o → Leaves two_test (option_and_then (λ (y : Checked Expr × List Token). Some (both_checked x y.0, y.1)) o)
two_on x f None h = tt
two_on x f (Some y) h = (both_if_valid is_clean_expr is_clean_expr x y.0 f h.0, h.1)

two_needed : (x : Checked Expr) → IfValid is_clean_expr x → (q : Bool × List Token) → are_clean q.1 ≡ true → Leaves two_test (option_and_then (λ (rest : List Token). option_and_then (λ (y : Checked Expr × List Token). Some (both_checked x y.0, y.1)) (expr_at rest)) (rest_if q))
two_needed x f (true, ts) h = two_on x f (expr_at ts) (expr_clean ts h)
two_needed x f (false, ts) h = tt

pair_by : (o : Option (Checked Expr × List Token)) → Leaves is_clean_expr o → Leaves two_test (option_and_then (λ (x : Checked Expr × List Token). option_and_then (λ (rest : List Token). option_and_then (λ (y : Checked Expr × List Token). Some (both_checked x.0 y.0, y.1)) (expr_at rest)) (expect m.Assign x.1)) o)
pair_by None h = tt
pair_by (Some x) h = two_needed x.0 h.0 (take_punctuation m.Assign x.1) (taken_clean m.Assign x.1 h.1)

pair_clean : Reads two_test pair_at
pair_clean ts h = pair_by (expr_at ts) (expr_clean ts h)

all_seconds : (ps : List (List ℕ × Expr)) → list_all named_test ps ≡ true → list_all is_clean_expr (pair_expressions ps) ≡ true
all_seconds [] h = refl
all_seconds (p ∷ ps) h =
    let q = split_true (is_clean_expr p.1) (list_all named_test ps) h in both_true (is_clean_expr p.1) (list_all is_clean_expr (pair_expressions ps)) q.0 (all_seconds ps q.1)

all_sides : (ps : List (Expr × Expr)) → list_all two_test ps ≡ true → list_all is_clean_expr (both_sides ps) ≡ true
all_sides [] h = refl
all_sides (p ∷ ps) h =
    let q = split_true (two_test p) (list_all two_test ps) h in
    let c = split_true (is_clean_expr p.0) (is_clean_expr p.1) q.0 in
    both_true (is_clean_expr p.0) (is_clean_expr p.1 && list_all is_clean_expr (both_sides ps)) c.0 (both_true (is_clean_expr p.1) (list_all is_clean_expr (both_sides ps)) c.1 (all_sides ps q.1))

-- Statements.
abbrev pub is_clean_stmt : Stmt → Bool
is_clean_stmt l = list_all is_clean_expr (expressions l)

one_true : (a : Bool) → a ≡ true → (a && true) ≡ true
one_true a h = rw h refl

value_clean : (make : List ℕ → Expr → Stmt) (name : Checked (List ℕ)) (ts : List Token) → ((x : List ℕ) (a : Expr) → is_clean_expr a ≡ true → is_clean_stmt (make x a) ≡ true) → are_clean ts ≡ true → IfLineValid is_clean_stmt (set_value make name ts)
value_clean make name ts f h =
    bind_clean is_clean_expr is_clean_stmt (expr_at ts) _ (expr_clean ts h) (λ x g c.
    at_end_if_valid is_clean_stmt x.1 _ (map_if_valid named_test is_clean_stmt (λ p. make p.0 p.1) (both_checked name x.0) (λ p q. f p.0 p.1 q) (named_fine name x.0 g)))

spawn_on : (name : Checked (List ℕ)) (o : Option ((Checked (List ℕ) × CommaList Expr) × List Token)) → Applied is_clean_expr o → IfLineValid is_clean_stmt (option_and_then (λ (call : (Checked (List ℕ) × CommaList Expr) × List Token). if_at_end call.1 (map_checked (λ p. s.Spawn p.0.0 p.0.1 p.1) (both_checked (both_checked name call.0.0) call.0.1.items))) o)
spawn_on name None h = tt
spawn_on name (Some x) h =
    at_end_if_valid is_clean_stmt x.1 _ (map_if_valid (pair_test (λ _. true) (list_all is_clean_expr)) is_clean_stmt (λ p. s.Spawn p.0.0 p.0.1 p.1) (both_checked (both_checked name x.0.0) x.0.1.items) (λ p q. q)
    (both_if_valid (λ _. true) (list_all is_clean_expr) (both_checked name x.0.0) x.0.1.items (any_if_valid (both_checked name x.0.0)) h))

commit_made : (name : Checked (List ℕ)) (xs : Checked (List (Expr × Expr))) → IfValid (list_all two_test) xs → IfValid is_clean_stmt (make_commit name xs)
commit_made name xs h =
    map_if_valid (pair_test (λ _. true) (list_all two_test)) is_clean_stmt (λ p. s.Commit p.0 p.1) (both_checked name xs) (λ p q. all_sides p.1 q) (both_if_valid (λ _. true) (list_all two_test) name xs (any_if_valid name) h)

commit_on : (name : Checked (List ℕ)) (o : Option (CommaList (Expr × Expr) × List Token)) → LeavesMany two_test o → IfLineValid is_clean_stmt (option_and_then (λ (writes : CommaList (Expr × Expr) × List Token). if_at_end writes.1 (make_commit name (up_to_eight writes.0))) o)
commit_on name None h = tt
commit_on name (Some x) h = at_end_if_valid is_clean_stmt x.1 _ (commit_made name (up_to_eight x.0) (few_clean two_test x.0 h.0))

commit_clean : (name : Checked (List ℕ)) (ts : List Token) → are_clean ts ≡ true → IfLineValid is_clean_stmt (set_commit name ts)
commit_clean name [] h = commit_made name (r.Valid []) refl
commit_clean name (x ∷ ts) h = commit_on name (comma_list pair_at (x ∷ ts)) (several_clean two_test pair_at pair_clean (x ∷ ts) h)

group_on : (make : List (List ℕ × Expr) → Stmt) → ((ps : List (List ℕ × Expr)) → list_all named_test ps ≡ true → is_clean_stmt (make ps) ≡ true) → (o : Option (CommaList (List ℕ × Expr) × List Token)) → LeavesMany named_test o → IfLineValid is_clean_stmt (option_and_then (λ (pairs : CommaList (List ℕ × Expr) × List Token). if_at_end pairs.1 (map_checked make (up_to_eight pairs.0))) o)
group_on make f None h = tt
group_on make f (Some x) h =
    at_end_if_valid is_clean_stmt x.1 _ (map_if_valid (list_all named_test) is_clean_stmt make (up_to_eight x.0) f (few_clean named_test x.0 h.0))

group_clean : (make : List (List ℕ × Expr) → Stmt) (ts : List Token) → ((ps : List (List ℕ × Expr)) → list_all named_test ps ≡ true → is_clean_stmt (make ps) ≡ true) → are_clean ts ≡ true → IfLineValid is_clean_stmt (group_stmt_of make ts)
group_clean make [] f h = tt
group_clean make (x ∷ ts) f h = group_on make f (comma_list assignment_at (x ∷ ts)) (several_clean named_test assignment_at named_clean (x ∷ ts) h)

last_of : (make : Expr → Expr → Stmt) (x : Checked Expr) → ((a b : Expr) → is_clean_expr a ≡ true → is_clean_expr b ≡ true → is_clean_stmt (make a b) ≡ true) → IfValid is_clean_expr x → (q : Bool × List Token) → are_clean q.1 ≡ true → IfLineValid is_clean_stmt (option_and_then (λ (rest : List Token). option_and_then (λ (y : Checked Expr × List Token). if_at_end y.1 (map_checked (λ p. make p.0 p.1) (both_checked x y.0))) (expr_at rest)) (rest_if q))
last_of make x f g (false, ts) h = tt
last_of make x f g (true, ts) h =
    bind_clean is_clean_expr is_clean_stmt (expr_at ts) _ (expr_clean ts h) (λ y k c.
    at_end_if_valid is_clean_stmt y.1 _ (map_if_valid two_test is_clean_stmt (λ p. make p.0 p.1) (both_checked x y.0)
    (λ p q. let z = split_true (is_clean_expr p.0) (is_clean_expr p.1) q in f p.0 p.1 z.0 z.1) (both_if_valid is_clean_expr is_clean_expr x y.0 g k)))

two_of_clean : (make : Expr → Expr → Stmt) (ts : List Token) → ((a b : Expr) → is_clean_expr a ≡ true → is_clean_expr b ≡ true → is_clean_stmt (make a b) ≡ true) → are_clean ts ≡ true → IfLineValid is_clean_stmt (pair_stmt_of make ts)
two_of_clean make ts f h =
    bind_clean is_clean_expr is_clean_stmt (expr_at ts) _ (expr_clean ts h) (λ x g c. last_of make x.0 f g (take_punctuation m.Comma x.1) (taken_clean m.Comma x.1 c))

one_of_clean : (make : Expr → Stmt) (ts : List Token) → ((a : Expr) → is_clean_expr a ≡ true → is_clean_stmt (make a) ≡ true) → are_clean ts ≡ true → IfLineValid is_clean_stmt (expr_stmt_of make ts)
one_of_clean make ts f h =
    bind_clean is_clean_expr is_clean_stmt (expr_at ts) _ (expr_clean ts h) (λ x g c. at_end_if_valid is_clean_stmt x.1 _ (map_if_valid is_clean_expr is_clean_stmt make x.0 f g))

setter_clean : (x : Setter) (ts : List Token) → are_clean ts ≡ true → are_clean (setter_by x ts).1 ≡ true
setter_clean g.Value ts h = h
setter_clean g.Read ts h = drop_clean ts h
setter_clean g.Spawn ts h = drop_clean ts h
setter_clean g.Join ts h = drop_clean ts h
setter_clean g.Pop ts h = drop_clean ts h
setter_clean g.Commit ts h = drop_clean ts h

set_clean : (name : Checked (List ℕ)) (q : Setter × List Token) → are_clean q.1 ≡ true → IfLineValid is_clean_stmt (set_by name q)
set_clean name (g.Value, ts) h = value_clean s.Let name ts (λ x a q. one_true (is_clean_expr a) q) h
set_clean name (g.Read, ts) h = value_clean s.Read name ts (λ x a q. one_true (is_clean_expr a) q) h
set_clean name (g.Spawn, ts) h = spawn_on name (name_and_list expr_at ts) (applied_clean is_clean_expr expr_at expr_clean ts h)
set_clean name (g.Join, ts) h = value_clean s.Join name ts (λ x a q. one_true (is_clean_expr a) q) h
set_clean name (g.Pop, ts) h = value_clean s.Pop name ts (λ x a q. one_true (is_clean_expr a) q) h
set_clean name (g.Commit, ts) h = commit_clean name ts h

let_by : (name : Checked (List ℕ)) (q : Bool × List Token) → are_clean q.1 ≡ true → IfLineValid is_clean_stmt (option_and_then (λ (rest : List Token). set_by name (setter_at rest)) (rest_if q))
let_by name (true, ts) h = set_clean name (setter_at ts) (setter_clean (setter_of (keyword_at ts)) ts h)
let_by name (false, ts) h = tt

let_clean : (ts : List Token) → are_clean ts ≡ true → IfLineValid is_clean_stmt (let_of ts)
let_clean (t.Name x ∷ ts) h = let_by (checked_if (nat_le (length x) 32) x) (take_punctuation m.Assign ts) (taken_clean m.Assign ts h)
let_clean _ h = tt

all_by : (b : Bool) (ts : List Token) → are_clean ts ≡ true → IfLineValid is_clean_stmt (cond b (group_stmt_of s.ReadAll ts) None)
all_by true ts h = group_clean s.ReadAll ts (λ ps q. all_seconds ps q) h
all_by false ts h = tt

all_clean : (ts : List Token) → are_clean ts ≡ true → IfLineValid is_clean_stmt (read_all_of ts)
all_clean (t.Name x ∷ ts) h = all_by (bytes_eq x (codes "all")) ts h
all_clean _ h = tt

two_true : (a b : Bool) → a ≡ true → b ≡ true → (a && (b && true)) ≡ true
two_true a b h k = rw (h, k) refl

keyed_clean : (key : Keyword) (ts : List Token) → are_clean ts ≡ true → IfLineValid is_clean_stmt (behind_keyword key ts)
keyed_clean k.Let ts h = let_clean ts h
keyed_clean k.Read ts h = all_clean ts h
keyed_clean k.Write ts h = two_of_clean s.Write ts (λ a b q z. two_true (is_clean_expr a) (is_clean_expr b) q z) h
keyed_clean k.Push ts h = two_of_clean s.Push ts (λ a b q z. two_true (is_clean_expr a) (is_clean_expr b) q z) h
keyed_clean k.Begin ts h = group_clean s.Begin ts (λ ps q. all_seconds ps q) h
keyed_clean k.If ts h = one_of_clean s.If ts (λ a q. one_true (is_clean_expr a) q) h
keyed_clean k.Else ts h = at_end_if_valid is_clean_stmt ts (r.Valid s.Else) refl
keyed_clean k.While ts h = one_of_clean s.While ts (λ a q. one_true (is_clean_expr a) q) h
keyed_clean k.End ts h = at_end_if_valid is_clean_stmt ts (r.Valid s.End) refl
keyed_clean k.Return ts h = one_of_clean s.Return ts (λ a q. one_true (is_clean_expr a) q) h
keyed_clean _ ts h = tt

pub stmt_clean : (ts : List Token) → are_clean ts ≡ true → IfLineValid is_clean_stmt (stmt_of ts)
stmt_clean (t.Keyword key ∷ ts) h = keyed_clean key ts h
stmt_clean _ h = tt
