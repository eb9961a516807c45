-- Statements that were read are read again from their canonical tokens.
use Rattle.std.proofs.Common.{◌≡◌, ℕ, zero, suc, ◌+◌, ◌<◌, ◌≤◌, Bool, true, false, cond, leb, ltb, List, [], ◌∷◌, ◌++◌, length, Option, Some, refl, sym, ap, ◌∙◌, append_assoc, length-append, arith, pos, negsuc, ℤ}
use Rattle.std.specs.Prelude.{◌&&◌, bytes_eq, codes, not}
use Rattle.std.specs.List.{list_all, list_any}
use Rattle.std.proofs.lemmas.Bool.Decides.{nat_tests}
use Rattle.std.proofs.lemmas.List.{append-nil}
use denote.Hole.Carrier.{hidden}
use Rattle.boki_types.specs.declared.expr.Expr.{Expr, more_of-Expr, end_of-Expr}
use Rattle.boki_types.specs.declared.expr.Expr.TheVariants as exprs
use Rattle.boki_types.specs.declared.expr.Expr.TheBlock.{shape-the_row-Expr-0, hidden-the_row-Expr-0}
use Rattle.boki_types.specs.declared.program.Stmt.{Stmt}
use Rattle.boki_types.specs.declared.program.Stmt.TheVariants as stmts
use Rattle.boki_model.specs.Bodies.{has_identifier_characters, is_identifier, reserved_words}
use Rattle.boki_model.specs.Plans.{in_bounds}
use Rattle.boki_model.specs.Script.{pair_names, pair_expressions, both_sides}
use Rattle.line_text.specs.declared.token.Keyword.TheVariants as keys
use Rattle.line_text.specs.declared.token.Punctuation.TheVariants as marks
use Rattle.line_text.specs.declared.token.Token.{Token}
use Rattle.line_text.specs.declared.token.Token.TheVariants as tokens
use Rattle.line_text.specs.declared.checked.Checked.{Checked}
use Rattle.line_text.specs.declared.checked.Checked.TheVariants as rates
use Rattle.line_text.specs.declared.lists.CommaList.{CommaList}
use Rattle.script_lang.specs.declared.setters.Setter.TheVariants as setters
use Rattle.line_text.specs.Stream.{take_punctuation, keyword_at}
use Rattle.script_lang.specs.Expressions.{precedence, left_precedence, expr_at}
use Rattle.script_lang.specs.Grammar.{ends_at}
use Rattle.script_lang.specs.Canonical.{op_token, int_tokens, in_parens, tokens_of}
use Rattle.line_text.specs.Readers.{Reader, ◌>>=◌, expect, if_at_end, name_at}
use Rattle.line_text.specs.Checks.{map_checked, both_checked, checked_if}
use Rattle.script_lang.specs.Statements.{assignment_at, pair_at, name_and_list, function_head_of, setter_of, setter_by, setter_at, set_value, set_spawn, make_commit, set_commit, set_by, pair_stmt_of, expr_stmt_of, group_stmt_of, stmt_of}
use Rattle.line_text.specs.Lists.{with_one_more, many_behind, more_if_comma, at_most, comma_list, up_to_eight, closed_list, paren_list_by, paren_list}
use Rattle.script_lang.proofs.ExprsInLimits.{ParsesBack}
use Rattle.script_lang.proofs.StmtsInLimits.{AllOf, IsName, StmtInLimits}

-- The tokens of lists and statements.
abbrev pub more_tokens : {A : Type 0} → (A → List Token) → List A → List Token
more_tokens print [] = []
more_tokens print (x ∷ xs) = tokens.Punctuation marks.Comma ∷ (print x ++ more_tokens print xs)

abbrev pub list_tokens : {A : Type 0} → (A → List Token) → List A → List Token
list_tokens print [] = []
list_tokens print (x ∷ xs) = print x ++ more_tokens print xs

abbrev pub whole_tokens : Expr → List Token
whole_tokens x = tokens_of 0 x

abbrev pub name_tokens : List ℕ → List Token
name_tokens x = tokens.Name x ∷ []

abbrev pub named_tokens : List ℕ × Expr → List Token
named_tokens p = tokens.Name p.0 ∷ tokens.Punctuation marks.Assign ∷ whole_tokens p.1

abbrev pub pair_tokens : Expr × Expr → List Token
pair_tokens p = whole_tokens p.0 ++ tokens.Punctuation marks.Assign ∷ whole_tokens p.1

abbrev pub set_tokens : List ℕ → List Token → List Token
set_tokens x ts = tokens.Keyword keys.Let ∷ tokens.Name x ∷ tokens.Punctuation marks.Assign ∷ ts

abbrev pub call_tokens : List ℕ → List Token → List Token
call_tokens f ts = tokens.Name f ∷ tokens.Punctuation marks.Open ∷ (ts ++ tokens.Punctuation marks.Close ∷ [])

abbrev pub stmt_tokens : Stmt → List Token
stmt_tokens (stmts.Let x a) = set_tokens x (whole_tokens a)
stmt_tokens (stmts.Read x a) = set_tokens x (tokens.Keyword keys.Read ∷ whole_tokens a)
stmt_tokens (stmts.Write a b) = tokens.Keyword keys.Write ∷ (whole_tokens a ++ tokens.Punctuation marks.Comma ∷ whole_tokens b)
stmt_tokens (stmts.Spawn x f es) = set_tokens x (tokens.Keyword keys.Spawn ∷ call_tokens f (list_tokens whole_tokens es))
stmt_tokens (stmts.Join x a) = set_tokens x (tokens.Keyword keys.Join ∷ whole_tokens a)
stmt_tokens (stmts.Push a b) = tokens.Keyword keys.Push ∷ (whole_tokens a ++ tokens.Punctuation marks.Comma ∷ whole_tokens b)
stmt_tokens (stmts.Pop x a) = set_tokens x (tokens.Keyword keys.Pop ∷ whole_tokens a)
stmt_tokens (stmts.Begin ps) = tokens.Keyword keys.Begin ∷ list_tokens named_tokens ps
stmt_tokens (stmts.Commit x ps) = set_tokens x (tokens.Keyword keys.Commit ∷ list_tokens pair_tokens ps)
stmt_tokens (stmts.If a) = tokens.Keyword keys.If ∷ whole_tokens a
stmt_tokens stmts.Else = tokens.Keyword keys.Else ∷ []
stmt_tokens (stmts.While a) = tokens.Keyword keys.While ∷ whole_tokens a
stmt_tokens stmts.End = tokens.Keyword keys.End ∷ []
stmt_tokens (stmts.Return a) = tokens.Keyword keys.Return ∷ whole_tokens a
stmt_tokens (stmts.ReadAll ps) = tokens.Keyword keys.Read ∷ tokens.Name (codes "all") ∷ list_tokens named_tokens ps

split_and : (a b : Bool) → (a && b) ≡ true → (a ≡ true) × (b ≡ true)
split_and true b h = (refl, h)
split_and false b h = absurd (cc)

short_name : (w : List ℕ) → IsName w → leb (length w) 32 ≡ true
short_name w h = (split_and (has_identifier_characters w) (leb (length w) 32) (split_and (has_identifier_characters w && leb (length w) 32) (not (list_any (bytes_eq w) reserved_words)) h).0).1

name_again : (w : List ℕ) (rest : List Token) → IsName w → name_at (tokens.Name w ∷ rest) ≡ Some (rates.Valid w, rest)
name_again w rest h = ap (λ b. Some (checked_if b w, rest)) (short_name w h)

-- A reader reads something again, up to where an expression may end.
abbrev ReadsBack : {A : Type 0} → Reader A → (A → List Token) → A → Type 0
ReadsBack read print x = (rest : List Token) → ends_at rest ≡ true → read (print x ++ rest) ≡ Some (rates.Valid x, rest)

named_back : (p : List ℕ × Expr) → IsName p.0 → ParsesBack p.1 → ReadsBack assignment_at named_tokens p
named_back p h a rest e =
    ap (λ o. o >>= λ name. expect marks.Assign name.1 >>= λ r. expr_at r >>= λ x. Some (both_checked name.0 x.0, x.1)) (name_again p.0 (tokens.Punctuation marks.Assign ∷ (whole_tokens p.1 ++ rest)) h)
    ∙ ap (λ o. o >>= λ x. Some (both_checked (rates.Valid p.0) x.0, x.1)) (a rest e)

pair_back : (p : Expr × Expr) → ParsesBack p.0 → ParsesBack p.1 → ReadsBack pair_at pair_tokens p
pair_back p a b rest e =
    ap pair_at (append_assoc (whole_tokens p.0) (tokens.Punctuation marks.Assign ∷ whole_tokens p.1) rest)
    ∙ ap (λ o. o >>= λ x. expect marks.Assign x.1 >>= λ r. expr_at r >>= λ y. Some (both_checked x.0 y.0, y.1)) (a (tokens.Punctuation marks.Assign ∷ (whole_tokens p.1 ++ rest)) refl)
    ∙ ap (λ o. o >>= λ y. Some (both_checked (rates.Valid p.0) y.0, y.1)) (b rest e)

found : {A : Type 0} → ℕ → List A → List Token → Option (CommaList A × List Token)
found n xs rest = Some (record { count = n; items = rates.Valid xs }, rest)

many_back : {A : Type 0} (read : Reader A) (print : A → List Token) (x : A) (xs : List A) (rest : List Token) (n : ℕ) → ReadsBack read print x → AllOf (ReadsBack read print) xs → ends_at rest ≡ true → take_punctuation marks.Comma rest ≡ (false, rest) → length xs < n → at_most read n ((print x ++ more_tokens print xs) ++ rest) ≡ found (length xs + 1) (x ∷ xs) rest
unfolding found
many_back read print x xs rest zero h g e c l = absurd (omega arith)
many_back read print x [] rest (suc n) h g e c l =
    ap (λ ts. many_behind (at_most read n) (read ts)) (ap (λ l. l ++ rest) (append-nil (print x)))
    ∙ ap (many_behind (at_most read n)) (h rest e)
    ∙ ap (more_if_comma (at_most read n) (rates.Valid x)) c
many_back {A} read print x (y ∷ ys) rest (suc n) h g e c l =
    let behind = (print y ++ more_tokens print ys) ++ rest in
    let same : suc (length ys) + 1 ≡ (length ys + 1) + 1 = omega arith in
    ap (λ ts. many_behind (at_most read n) (read ts)) (append_assoc (print x) (tokens.Punctuation marks.Comma ∷ (print y ++ more_tokens print ys)) rest)
    ∙ ap (many_behind (at_most read n)) (h (tokens.Punctuation marks.Comma ∷ behind) refl)
    ∙ ap (λ o. with_one_more (rates.Valid x) o) (many_back read print y ys rest n g.0 g.1 e c (omega arith))
    ∙ ap (λ (k : ℕ). Some (record { count = k; items = rates.Valid (x ∷ y ∷ ys) }, rest)) (sym same)

commas : {A : Type 0} (print : A → List Token) (xs : List A) → length xs ≤ length (more_tokens print xs)
commas print [] = omega arith
commas print (x ∷ xs) = omega (arith, commas print xs, length-append (print x) (more_tokens print xs))

several_back : {A : Type 0} (read : Reader A) (print : A → List Token) (x : A) (xs : List A) (rest : List Token) → 1 ≤ length (print x) → ReadsBack read print x → AllOf (ReadsBack read print) xs → ends_at rest ≡ true → take_punctuation marks.Comma rest ≡ (false, rest) → comma_list read (list_tokens print (x ∷ xs) ++ rest) ≡ found (length xs + 1) (x ∷ xs) rest
several_back read print x xs rest some h g e c =
    many_back read print x xs rest (length ((print x ++ more_tokens print xs) ++ rest)) h g e c
    (omega (arith, commas print xs, length-append (print x) (more_tokens print xs), length-append (print x ++ more_tokens print xs) rest))

in_parens_some : (b : Bool) (ts : List Token) → 1 ≤ length ts → 1 ≤ length (in_parens b ts)
in_parens_some true ts h = omega arith
in_parens_some false ts h = h

int_some : (n : ℤ) → 1 ≤ length (int_tokens n)
int_some (pos n) = omega arith
int_some (negsuc n) = omega arith

whole_some : (x : Expr) (p : ℕ) → 1 ≤ length (tokens_of p x)
unfolding shape-the_row-Expr-0 hidden-the_row-Expr-0 hidden
whole_some (exprs.Int n) p = int_some n
whole_some (exprs.Text x) p = omega arith
whole_some exprs.Nothing p = omega arith
whole_some (exprs.Var x) p = omega arith
whole_some (exprs.Not' p' (more_of-Expr a end_of-Expr)) p = in_parens_some (ltb 3 p) (tokens.Keyword keys.Not ∷ tokens_of 3 a) (omega arith)
whole_some (exprs.Two' o p' (more_of-Expr a end_of-Expr) q' (more_of-Expr b end_of-Expr)) p =
    in_parens_some (ltb (precedence o) p) (tokens_of (left_precedence (precedence o)) a ++ op_token o ∷ tokens_of (precedence o + 1) b)
    (omega (arith, length-append (tokens_of (left_precedence (precedence o)) a) (op_token o ∷ tokens_of (precedence o + 1) b)))
whole_some (exprs.TextOf' p' (more_of-Expr a end_of-Expr)) p = omega arith
whole_some (exprs.Len' p' (more_of-Expr a end_of-Expr)) p = omega arith

pair_some : (p : Expr × Expr) → 1 ≤ length (pair_tokens p)
pair_some p = omega (arith, length-append (whole_tokens p.0) (tokens.Punctuation marks.Assign ∷ whole_tokens p.1))

-- no expression begins with a word that says how a variable is set
free : List Token → Type 0
free ts = (rest : List Token) → setter_of (keyword_at (ts ++ rest)) ≡ setters.Value

free_parens : (b : Bool) (ts : List Token) → free ts → free (in_parens b ts)
unfolding free
free_parens true ts h rest = refl
free_parens false ts h rest = h rest

free_int : (n : ℤ) → free (int_tokens n)
unfolding free
free_int (pos n) rest = refl
free_int (negsuc n) rest = refl

free_front : (ts us : List Token) → free ts → free (ts ++ us)
unfolding free
free_front ts us h rest = ap (λ l. setter_of (keyword_at l)) (append_assoc ts us rest) ∙ h (us ++ rest)

whole_free : (x : Expr) (p : ℕ) → free (tokens_of p x)
unfolding free shape-the_row-Expr-0 hidden-the_row-Expr-0 hidden
whole_free (exprs.Int n) p = free_int n
whole_free (exprs.Text x) p = λ rest. refl
whole_free exprs.Nothing p = λ rest. refl
whole_free (exprs.Var x) p = λ rest. refl
whole_free (exprs.Not' p' (more_of-Expr a end_of-Expr)) p = free_parens (ltb 3 p) (tokens.Keyword keys.Not ∷ tokens_of 3 a) (λ rest. refl)
whole_free (exprs.Two' o p' (more_of-Expr a end_of-Expr) q' (more_of-Expr b end_of-Expr)) p =
    free_parens (ltb (precedence o) p) (tokens_of (left_precedence (precedence o)) a ++ op_token o ∷ tokens_of (precedence o + 1) b) (free_front (tokens_of (left_precedence (precedence o)) a) (op_token o ∷ tokens_of (precedence o + 1) b) (whole_free a (left_precedence (precedence o))))
whole_free (exprs.TextOf' p' (more_of-Expr a end_of-Expr)) p = λ rest. refl
whole_free (exprs.Len' p' (more_of-Expr a end_of-Expr)) p = λ rest. refl

no_setter : (x : Expr) → setter_at (whole_tokens x) ≡ (setters.Value, whole_tokens x)
unfolding free
no_setter x =
    ap (λ s. setter_by s (whole_tokens x)) (ap (λ l. setter_of (keyword_at l)) (sym (append-nil (whole_tokens x))) ∙ whole_free x 0 [])

-- an expression at the end of the line
at_end : (x : Expr) → ParsesBack x → expr_at (whole_tokens x) ≡ Some (rates.Valid x, [])
at_end x a = ap expr_at (sym (append-nil (whole_tokens x))) ∙ a [] refl

value_back : (make : List ℕ → Expr → Stmt) (w : List ℕ) (x : Expr) → ParsesBack x → set_value make (rates.Valid w) (whole_tokens x) ≡ Some (rates.Valid (make w x))
value_back make w x a = ap (λ o. o >>= λ x. if_at_end x.1 (map_checked (λ p. make p.0 p.1) (both_checked (rates.Valid w) x.0))) (at_end x a)

one_back : (make : Expr → Stmt) (x : Expr) → ParsesBack x → expr_stmt_of make (whole_tokens x) ≡ Some (rates.Valid (make x))
one_back make x a = ap (λ o. o >>= λ x. if_at_end x.1 (map_checked make x.0)) (at_end x a)

two_back : (make : Expr → Expr → Stmt) (x y : Expr) → ParsesBack x → ParsesBack y → pair_stmt_of make (whole_tokens x ++ tokens.Punctuation marks.Comma ∷ whole_tokens y) ≡ Some (rates.Valid (make x y))
two_back make x y a b =
    ap (λ o. o >>= λ x. expect marks.Comma x.1 >>= λ r. expr_at r >>= λ y. if_at_end y.1 (map_checked (λ p. make p.0 p.1) (both_checked x.0 y.0))) (a (tokens.Punctuation marks.Comma ∷ whole_tokens y) refl)
    ∙ ap (λ o. o >>= λ y. if_at_end y.1 (map_checked (λ p. make p.0 p.1) (both_checked (rates.Valid x) y.0))) (at_end y b)

let_back : (w : List ℕ) (ts : List Token) (r : Option (Checked Stmt)) → IsName w → set_by (rates.Valid w) (setter_at ts) ≡ r → stmt_of (set_tokens w ts) ≡ r
let_back w ts r h e =
    ap (λ o. o >>= λ name. expect marks.Assign name.1 >>= λ rest. set_by name.0 (setter_at rest)) (name_again w (tokens.Punctuation marks.Assign ∷ ts) h) ∙ e

first_name : (w : List ℕ) → list_all is_identifier (w ∷ []) ≡ true → IsName w
first_name w h = (split_and (is_identifier w) true h).0

not_closed : List Token → Type 0
not_closed ts = (rest : List Token) → take_punctuation marks.Close (ts ++ rest) ≡ (false, ts ++ rest)

close_parens : (b : Bool) (ts : List Token) → not_closed ts → not_closed (in_parens b ts)
unfolding not_closed
close_parens true ts h rest = refl
close_parens false ts h rest = h rest

close_int : (n : ℤ) → not_closed (int_tokens n)
unfolding not_closed
close_int (pos n) rest = refl
close_int (negsuc n) rest = refl

close_front : (ts us : List Token) → not_closed ts → not_closed (ts ++ us)
unfolding not_closed
close_front ts us h rest =
    ap (take_punctuation marks.Close) (append_assoc ts us rest) ∙ h (us ++ rest) ∙ ap (λ (l : List Token). (false, l)) (sym (append_assoc ts us rest))

whole_close : (x : Expr) (p : ℕ) → not_closed (tokens_of p x)
unfolding not_closed shape-the_row-Expr-0 hidden-the_row-Expr-0 hidden
whole_close (exprs.Int n) p = close_int n
whole_close (exprs.Text x) p = λ rest. refl
whole_close exprs.Nothing p = λ rest. refl
whole_close (exprs.Var x) p = λ rest. refl
whole_close (exprs.Not' p' (more_of-Expr a end_of-Expr)) p = close_parens (ltb 3 p) (tokens.Keyword keys.Not ∷ tokens_of 3 a) (λ rest. refl)
whole_close (exprs.Two' o p' (more_of-Expr a end_of-Expr) q' (more_of-Expr b end_of-Expr)) p =
    close_parens (ltb (precedence o) p) (tokens_of (left_precedence (precedence o)) a ++ op_token o ∷ tokens_of (precedence o + 1) b) (close_front (tokens_of (left_precedence (precedence o)) a) (op_token o ∷ tokens_of (precedence o + 1) b) (whole_close a (left_precedence (precedence o))))
whole_close (exprs.TextOf' p' (more_of-Expr a end_of-Expr)) p = λ rest. refl
whole_close (exprs.Len' p' (more_of-Expr a end_of-Expr)) p = λ rest. refl

-- a list in parentheses
abbrev Listed : {A : Type 0} → ℕ → List A → CommaList A
Listed n xs = record { count = n; items = rates.Valid xs }

listed_back : {A : Type 0} (read : Reader A) (print : A → List Token) (x : A) (xs : List A) → 1 ≤ length (print x) → ReadsBack read print x → AllOf (ReadsBack read print) xs → take_punctuation marks.Close (list_tokens print (x ∷ xs) ++ tokens.Punctuation marks.Close ∷ []) ≡ (false, list_tokens print (x ∷ xs) ++ tokens.Punctuation marks.Close ∷ []) → paren_list read (list_tokens print (x ∷ xs) ++ tokens.Punctuation marks.Close ∷ []) ≡ Some (Listed (length xs + 1) (x ∷ xs), [])
unfolding found
listed_back read print x xs some h g c =
    ap (paren_list_by read) c ∙ ap closed_list (several_back read print x xs (tokens.Punctuation marks.Close ∷ []) some h g refl refl)

again_back : (xs : List Expr) → AllOf ParsesBack xs → AllOf (ReadsBack expr_at whole_tokens) xs
again_back [] g = tt
again_back (x ∷ xs) g = (g.0, again_back xs g.1)

exprs_listed : (es : List Expr) → AllOf ParsesBack es → (n : ℕ) × (paren_list expr_at (list_tokens whole_tokens es ++ tokens.Punctuation marks.Close ∷ []) ≡ Some (Listed n es, []))
unfolding not_closed
exprs_listed [] g = (0, refl)
exprs_listed (x ∷ xs) g =
    let c = close_front (whole_tokens x) (more_tokens whole_tokens xs) (whole_close x 0) (tokens.Punctuation marks.Close ∷ []) in
    (length xs + 1, listed_back expr_at whole_tokens x xs (whole_some x 0) g.0 (again_back xs g.1) c)

names_back : (ws : List (List ℕ)) → AllOf IsName ws → AllOf (ReadsBack name_at name_tokens) ws
names_back [] g = tt
names_back (w ∷ ws) g = ((λ rest e. name_again w rest g.0), names_back ws g.1)

names_listed : (ws : List (List ℕ)) → AllOf IsName ws → (n : ℕ) × (paren_list name_at (list_tokens name_tokens ws ++ tokens.Punctuation marks.Close ∷ []) ≡ Some (Listed n ws, [])) × (n ≡ length ws)
names_listed [] g = (0, refl, refl)
names_listed (w ∷ ws) g =
    (length ws + 1, listed_back name_at name_tokens w ws (omega arith) (λ rest e. name_again w rest g.0) (names_back ws g.1) refl, omega arith)

applied_back : {A : Type 0} (read : Reader A) (f : List ℕ) (ts : List Token) (s : CommaList A) → IsName f → paren_list read (ts ++ tokens.Punctuation marks.Close ∷ []) ≡ Some (s, []) → name_and_list read (call_tokens f ts) ≡ Some ((rates.Valid f, s), [])
applied_back read f ts s h e =
    ap (λ o. o >>= λ name. expect marks.Open name.1 >>= λ rest. paren_list read rest >>= λ xs. Some ((name.0, xs.0), xs.1)) (name_again f (tokens.Punctuation marks.Open ∷ (ts ++ tokens.Punctuation marks.Close ∷ [])) h)
    ∙ ap (λ o. o >>= λ xs. Some ((rates.Valid f, xs.0), xs.1)) e

spawn_back : (w f : List ℕ) (es : List Expr) → IsName f → AllOf ParsesBack es → set_spawn (rates.Valid w) (call_tokens f (list_tokens whole_tokens es)) ≡ Some (rates.Valid (stmts.Spawn w f es))
spawn_back w f es h g =
    let l = exprs_listed es g in
    ap (λ o. o >>= λ call. if_at_end call.1 (map_checked (λ p. stmts.Spawn p.0.0 p.0.1 p.1) (both_checked (both_checked (rates.Valid w) call.0.0) call.0.1.items)))
    (applied_back expr_at f (list_tokens whole_tokens es) (Listed l.0 es) h l.1)

few_back : {A : Type 0} (n m : ℕ) (xs : List A) → n ≡ m → leb m 8 ≡ true → up_to_eight (Listed n xs) ≡ rates.Valid xs
few_back n m xs e h = ap (λ b. cond b (rates.Valid xs) rates.OutOfRange) (ap (λ k. leb k 8) e ∙ h)

pub function_head_reads_back : (f : List ℕ) (ps : List (List ℕ)) → IsName f → AllOf IsName ps → length ps ≤ 8 → function_head_of (tokens.Keyword keys.Function ∷ call_tokens f (list_tokens name_tokens ps)) ≡ Some (rates.Valid (f, ps))
function_head_reads_back f ps h g l =
    let n = names_listed ps g in
    let small : leb (length ps) 8 ≡ true = grind (arith, nat_tests, l) in
    ap (λ o. o >>= λ head. if_at_end head.1 (both_checked head.0.0 (up_to_eight head.0.1))) (applied_back name_at f (list_tokens name_tokens ps) (Listed n.0 ps) h n.1)
    ∙ ap (λ r. Some (both_checked (rates.Valid f) r)) (few_back n.0 (length ps) ps n.2 small)

pairs_back : (ps : List (Expr × Expr)) → AllOf ParsesBack (both_sides ps) → AllOf (ReadsBack pair_at pair_tokens) ps
pairs_back [] g = tt
pairs_back (p ∷ ps) g = (pair_back p g.0 g.1.0, pairs_back ps g.1.1)

group_backs : (ps : List (List ℕ × Expr)) → list_all is_identifier (pair_names ps) ≡ true → AllOf ParsesBack (pair_expressions ps) → AllOf (ReadsBack assignment_at named_tokens) ps
group_backs [] n g = tt
group_backs (p ∷ ps) n g =
    let k = split_and (is_identifier p.0) (list_all is_identifier (pair_names ps)) n in
    (named_back p k.0 g.0, group_backs ps k.1 g.1)

commit_some : (name : Checked (List ℕ)) (ts : List Token) → 1 ≤ length ts → set_commit name ts ≡ (comma_list pair_at ts >>= λ writes. if_at_end writes.1 (make_commit name (up_to_eight writes.0)))
commit_some name [] h = absurd (omega arith)
commit_some name (t ∷ ts) h = refl

add_one : (n : ℕ) → n + 1 ≡ suc n
add_one n = omega arith

commit_back : (w : List ℕ) (ps : List (Expr × Expr)) → AllOf ParsesBack (both_sides ps) → leb (length ps) 8 ≡ true → set_commit (rates.Valid w) (list_tokens pair_tokens ps) ≡ Some (rates.Valid (stmts.Commit w ps))
unfolding found
commit_back w [] g l = refl
commit_back w (p ∷ ps) g l =
    let ts = list_tokens pair_tokens (p ∷ ps) in
    let b = pairs_back (p ∷ ps) g in
    commit_some (rates.Valid w) ts (omega (arith, pair_some p, length-append (pair_tokens p) (more_tokens pair_tokens ps)))
    ∙ ap (λ l. comma_list pair_at l >>= λ writes. if_at_end writes.1 (make_commit (rates.Valid w) (up_to_eight writes.0))) (sym (append-nil ts))
    ∙ ap (λ o. o >>= λ writes. if_at_end writes.1 (make_commit (rates.Valid w) (up_to_eight writes.0))) (several_back pair_at pair_tokens p ps [] (pair_some p) b.0 b.1 refl refl)
    ∙ ap (λ r. Some (make_commit (rates.Valid w) r)) (few_back (length ps + 1) (suc (length ps)) (p ∷ ps) (add_one (length ps)) l)

group_back : (make : List (List ℕ × Expr) → Stmt) (ps : List (List ℕ × Expr)) → list_all is_identifier (pair_names ps) ≡ true → AllOf ParsesBack (pair_expressions ps) → in_bounds 1 8 (length ps) ≡ true → group_stmt_of make (list_tokens named_tokens ps) ≡ Some (rates.Valid (make ps))
unfolding found
group_back make [] n g l = absurd (cc)
group_back make (p ∷ ps) n g l =
    let ts = list_tokens named_tokens (p ∷ ps) in
    let b = group_backs (p ∷ ps) n g in
    let small = (split_and (leb 1 (suc (length ps))) (leb (suc (length ps)) 8) l).1 in
    ap (λ l. comma_list assignment_at l >>= λ pairs. if_at_end pairs.1 (map_checked make (up_to_eight pairs.0))) (sym (append-nil ts))
    ∙ ap (λ o. o >>= λ pairs. if_at_end pairs.1 (map_checked make (up_to_eight pairs.0))) (several_back assignment_at named_tokens p ps [] (omega arith) b.0 b.1 refl refl)
    ∙ ap (λ r. Some (map_checked make r)) (few_back (length ps + 1) (suc (length ps)) (p ∷ ps) (add_one (length ps)) small)

pub stmt_parses_back : (l : Stmt) → StmtInLimits l → stmt_of (stmt_tokens l) ≡ Some (rates.Valid l)
stmt_parses_back (stmts.Let x a) g = let_back x (whole_tokens a) _ (first_name x g.names) (ap (set_by (rates.Valid x)) (no_setter a) ∙ value_back stmts.Let x a g.parses_back.0)
stmt_parses_back (stmts.Read x a) g = let_back x (tokens.Keyword keys.Read ∷ whole_tokens a) _ (first_name x g.names) (value_back stmts.Read x a g.parses_back.0)
stmt_parses_back (stmts.Write a b) g = two_back stmts.Write a b g.parses_back.0 g.parses_back.1.0
stmt_parses_back (stmts.Spawn x f es) g = let_back x (tokens.Keyword keys.Spawn ∷ call_tokens f (list_tokens whole_tokens es)) _ (first_name x g.names) (spawn_back x f es g.called g.parses_back)
stmt_parses_back (stmts.Join x a) g = let_back x (tokens.Keyword keys.Join ∷ whole_tokens a) _ (first_name x g.names) (value_back stmts.Join x a g.parses_back.0)
stmt_parses_back (stmts.Push a b) g = two_back stmts.Push a b g.parses_back.0 g.parses_back.1.0
stmt_parses_back (stmts.Pop x a) g = let_back x (tokens.Keyword keys.Pop ∷ whole_tokens a) _ (first_name x g.names) (value_back stmts.Pop x a g.parses_back.0)
stmt_parses_back (stmts.Begin ps) g = group_back stmts.Begin ps g.names g.parses_back g.counts
stmt_parses_back (stmts.Commit x ps) g = let_back x (tokens.Keyword keys.Commit ∷ list_tokens pair_tokens ps) _ (first_name x g.names) (commit_back x ps g.parses_back g.counts)
stmt_parses_back (stmts.If a) g = one_back stmts.If a g.parses_back.0
stmt_parses_back stmts.Else g = refl
stmt_parses_back (stmts.While a) g = one_back stmts.While a g.parses_back.0
stmt_parses_back stmts.End g = refl
stmt_parses_back (stmts.Return a) g = one_back stmts.Return a g.parses_back.0
stmt_parses_back (stmts.ReadAll ps) g = group_back stmts.ReadAll ps g.names g.parses_back g.counts
