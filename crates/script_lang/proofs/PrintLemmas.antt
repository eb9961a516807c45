-- Printing, piece by piece.
use Rattle.std.proofs.Common.{◌≡◌, ℕ, ◌+◌, ◌<◌, Bool, true, false, List, [], ◌∷◌, ◌++◌, length, drop, get_or, refl, sym, ap, ◌∙◌, append_assoc}
use Rattle.std.specs.Prelude.{codes, nat_lt}
use denote.Hole.Carrier.{hidden}
use Rattle.boki_types.specs.declared.expr.BinOp.{BinOp}
use Rattle.boki_types.specs.declared.expr.Expr.{Expr}
use Rattle.boki_types.specs.declared.expr.Expr.TheVariants as e
use Rattle.boki_types.specs.declared.expr.Expr.TheBlock.{shape-the_row-Expr-0, hidden-the_row-Expr-0}
use Rattle.boki_types.specs.declared.program.Stmt.{Stmt}
use Rattle.script_lang.specs.Expressions.{precedence, left_precedence}
use Rattle.script_lang.specs.Printed.{◌&◌, op_text, paren_text, expr_text, comma_joined, each_behind_comma, comma_before, stmt_line_text, stmt_lines_text, next_depth}
use Rattle.line_text.proofs.ListLemmas.{drop_at}

pub not_text : (p : ℕ) (a : Expr) → expr_text p (e.Not a) ≡ paren_text (nat_lt 3 p) (codes "not " & expr_text 3 a)
unfolding shape-the_row-Expr-0 hidden-the_row-Expr-0 hidden
not_text p a = refl

pub two_text : (p : ℕ) (o : BinOp) (a b : Expr) → expr_text p (e.Two o a b) ≡ paren_text (nat_lt (precedence o) p) (expr_text (left_precedence (precedence o)) a & codes " " & op_text o & codes " " & expr_text (precedence o + 1) b)
unfolding shape-the_row-Expr-0 hidden-the_row-Expr-0 hidden
two_text p o a b = refl

pub text_of_text : (p : ℕ) (a : Expr) → expr_text p (e.TextOf a) ≡ (codes "text(" & expr_text 0 a & codes ")")
unfolding shape-the_row-Expr-0 hidden-the_row-Expr-0 hidden
text_of_text p a = refl

pub len_text : (p : ℕ) (a : Expr) → expr_text p (e.Len a) ≡ (codes "len(" & expr_text 0 a & codes ")")
unfolding shape-the_row-Expr-0 hidden-the_row-Expr-0 hidden
len_text p a = refl

-- what is still to be printed of a list, from its first element on or from a later one
abbrev pub rest_listed : {A : Type 0} → Bool → (A → List ℕ) → List A → List ℕ
rest_listed true print xs = comma_joined print xs
rest_listed false print xs = each_behind_comma print xs

rest_cons : {A : Type 0} (first : Bool) (print : A → List ℕ) (x : A) (xs : List A) → rest_listed first print (x ∷ xs) ≡ comma_before first (print x) ++ each_behind_comma print xs
rest_cons true print x xs = refl
rest_cons false print x xs = sym (append_assoc (codes ", ") (print x) (each_behind_comma print xs))

pub piece_step : {A : Type 0} (first : Bool) (print : A → List ℕ) (items : List A) (i : ℕ) (x : A) (out next text : List ℕ) → i < length items → x ≡ get_or items i x → text ≡ print x → next ≡ out ++ comma_before first text → out ++ rest_listed first print (drop i items) ≡ next ++ rest_listed false print (drop (i + 1) items)
piece_step first print items i x out next text h e f g =
    ap (λ l. out ++ rest_listed first print l) (drop_at items i x h e)
    ∙ ap (λ l. out ++ l) (rest_cons first print x (drop (i + 1) items))
    ∙ sym (append_assoc out (comma_before first (print x)) (each_behind_comma print (drop (i + 1) items)))
    ∙ ap (λ l. (out ++ comma_before first l) ++ each_behind_comma print (drop (i + 1) items)) (sym f)
    ∙ ap (λ l. l ++ each_behind_comma print (drop (i + 1) items)) (sym g)

pub rest_none : {A : Type 0} (first : Bool) (print : A → List ℕ) → rest_listed first print [] ≡ []
rest_none true print = refl
rest_none false print = refl

pub line_step : (n : ℕ) (lines : List Stmt) (i : ℕ) (l : Stmt) (out next text : List ℕ) → i < length lines → l ≡ get_or lines i l → text ≡ stmt_line_text n l → next ≡ out ++ text → out ++ stmt_lines_text n (drop i lines) ≡ next ++ stmt_lines_text (next_depth n l) (drop (i + 1) lines)
line_step n lines i l out next text h e f g =
    ap (λ t. out ++ stmt_lines_text n t) (drop_at lines i l h e)
    ∙ sym (append_assoc out (stmt_line_text n l) (stmt_lines_text (next_depth n l) (drop (i + 1) lines)))
    ∙ ap (λ t. (out ++ t) ++ stmt_lines_text (next_depth n l) (drop (i + 1) lines)) (sym f)
    ∙ ap (λ t. t ++ stmt_lines_text (next_depth n l) (drop (i + 1) lines)) (sym g)
