-- The printed texts of heads and of plans are UTF-8.
use Rattle.std.proofs.Common.{◌≡◌, ℕ, zero, suc, ◌+◌, Bool, true, false, leb, ltb, List, [], ◌∷◌, ◌++◌, refl, sym, subst}
use Rattle.std.specs.Prelude.{◌&&◌, codes, flat_map}
use Rattle.std.specs.List.{list_all}
use Rattle.std.specs.Fmt.{decimal, signed_decimal}
use Rattle.std.specs.Str.{IsUtf8}
use Rattle.std.proofs.lemmas.Str.{IsUtf8-nil, IsUtf8-append}
use denote.Hole.Carrier.{hidden}
use Rattle.lb_base.specs.declared.value.Value.{Value}
use Rattle.lb_base.specs.Print.{value_text}
use Rattle.lb_base.specs.Quoted.{quoted}
use Rattle.boki_types.specs.declared.expr.BinOp.{BinOp}
use Rattle.boki_types.specs.declared.expr.BinOp.TheVariants as o
use Rattle.boki_types.specs.declared.expr.Expr.{Expr, more_of-Expr, end_of-Expr}
use Rattle.boki_types.specs.declared.expr.Expr.TheVariants as e
use Rattle.boki_types.specs.declared.expr.Expr.TheBlock.{shape-the_row-Expr-0, hidden-the_row-Expr-0}
use Rattle.boki_types.specs.declared.plan.Plan.{Plan}
use Rattle.boki_types.specs.declared.plan.Setup.{Setup}
use Rattle.boki_types.specs.declared.program.Function.{Function}
use Rattle.boki_types.specs.declared.program.Stmt.{Stmt}
use Rattle.boki_types.specs.declared.program.Stmt.TheVariants as s
use Rattle.boki_types.specs.declared.event.Event.{Event}
use Rattle.boki_types.specs.declared.plan.Item.{Item}
use Rattle.boki_types.specs.declared.plan.Item.TheVariants.{One, Repeat}
use Rattle.boki_model.specs.Bodies.{is_identifier}
use Rattle.boki_model.specs.Plans.{operand_count, nesting_depth, function_names}
use Rattle.boki_model.specs.Script.{pair_names, pair_expressions, both_sides}
use Rattle.script_lang.specs.Expressions.{precedence, left_precedence}
use Rattle.script_lang.specs.Printed.{op_text, paren_text, expr_text, top_expr_text, comma_joined, assignment_text, write_pair_text, name_text, commit_text, stmt_text, indent, line_depth, next_depth, stmt_line_text, stmt_lines_text, function_text}
use Rattle.script_lang.proofs.DraftsInLimits.{FunctionInLimits}
use Rattle.script_lang.proofs.ExprsInLimits.{is_expr_in_limits}
use Rattle.script_lang.proofs.StmtsInLimits.{AllOf, IsName, has_valid_sizes, StmtInLimits}
use Rattle.plan_lang.specs.Printed.{setup_text, name_value_line, head_text, event_text, repeat_line, item_text, plan_text}
use Rattle.plan_lang.proofs.CleanEvents.{is_clean_event}
use Rattle.plan_lang.proofs.CleanHeads.{is_clean_function, is_clean_object}
use Rattle.plan_lang.proofs.CleanPlans.{is_clean_item}
use Rattle.plan_lang.proofs.CleanReads.{is_clean_value}
use Rattle.plan_lang.proofs.CleanStmts.{is_clean_expr, is_clean_stmt}
use Rattle.line_text.proofs.FieldsInRange.{split_true}
use Rattle.plan_lang.proofs.HeadsParseBack.{setup_apart, sizes_inline}
use Rattle.plan_lang.proofs.PrintedLines.{plain, plain_decimal, plain_signed, plain_name, Inline, joined, feed_utf8, plain_utf8, plain_inline, quote_inline, front, AllInline, listed_inline, value_inline, event_inline}
use Rattle.line_text.proofs.Utf8Tokens.{is_clean_text}

-- Expressions.
wrapped_inline : (b : Bool) (text : List ℕ) → Inline text → Inline (paren_text b text)
wrapped_inline true text h = front (codes "(") (text ++ codes ")") refl (joined text (codes ")") h (plain_inline (codes ")") refl))
wrapped_inline false text h = h

op_plain : (x : BinOp) → plain (op_text x) ≡ true
op_plain o.Or = refl
op_plain o.And = refl
op_plain o.Eq = refl
op_plain o.Ne = refl
op_plain o.Lt = refl
op_plain o.Le = refl
op_plain o.Gt = refl
op_plain o.Ge = refl
op_plain o.Add = refl
op_plain o.Sub = refl
op_plain o.Glue = refl
op_plain o.Mul = refl
op_plain o.Div = refl
op_plain o.Rem = refl

op_inline : (x : BinOp) (a b : List ℕ) → Inline a → Inline b → Inline (a ++ (codes " " ++ (op_text x ++ (codes " " ++ b))))
op_inline x a b h k =
    joined a (codes " " ++ (op_text x ++ (codes " " ++ b))) h
    (front (codes " ") (op_text x ++ (codes " " ++ b)) refl (front (op_text x) (codes " " ++ b) (op_plain x) (front (codes " ") b refl k)))

called_inline : (word text : List ℕ) → plain word ≡ true → Inline text → Inline (word ++ (text ++ codes ")"))
called_inline word text p h = front word (text ++ codes ")") p (joined text (codes ")") h (plain_inline (codes ")") refl))

expr_inline : (x : Expr) (n : ℕ) → is_expr_in_limits x ≡ true → is_clean_expr x ≡ true → Inline (expr_text n x)
unfolding shape-the_row-Expr-0 hidden-the_row-Expr-0 hidden
expr_inline (e.Int z) n f c = plain_inline (signed_decimal z) (plain_signed z)
expr_inline (e.Text x) n f c = quote_inline x c
expr_inline e.Nothing n f c = plain_inline (codes "none") refl
expr_inline (e.Var x) n f c = plain_inline x (plain_name x f)
expr_inline (e.Not' p' (more_of-Expr a end_of-Expr)) n f c =
    wrapped_inline (ltb 3 n) (codes "not " ++ expr_text 3 a) (front (codes "not ") (expr_text 3 a) refl (expr_inline a 3 f c))
expr_inline (e.Two' x p' (more_of-Expr a end_of-Expr) q' (more_of-Expr b end_of-Expr)) n f c =
    let g = split_true (is_expr_in_limits a) (is_expr_in_limits b) f in
    let k = split_true (is_clean_expr a) (is_clean_expr b) c in
    wrapped_inline (ltb (precedence x) n) (expr_text (left_precedence (precedence x)) a ++ (codes " " ++ (op_text x ++ (codes " " ++ expr_text (precedence x + 1) b))))
    (op_inline x (expr_text (left_precedence (precedence x)) a) (expr_text (precedence x + 1) b) (expr_inline a (left_precedence (precedence x)) g.0 k.0) (expr_inline b (precedence x + 1) g.1 k.1))
expr_inline (e.TextOf' p' (more_of-Expr a end_of-Expr)) n f c = called_inline (codes "text(") (expr_text 0 a) refl (expr_inline a 0 f c)
expr_inline (e.Len' p' (more_of-Expr a end_of-Expr)) n f c = called_inline (codes "len(") (expr_text 0 a) refl (expr_inline a 0 f c)

whole_inline : (x : Expr) → has_valid_sizes x ≡ true → is_clean_expr x ≡ true → Inline (top_expr_text x)
whole_inline x h c = expr_inline x 0 ((split_true (leb (operand_count x) 64 && leb (nesting_depth x) 32) (is_expr_in_limits x) h).1) c

-- Lists of them.
wholes_inline : (xs : List Expr) → list_all has_valid_sizes xs ≡ true → list_all is_clean_expr xs ≡ true → AllInline top_expr_text xs
wholes_inline [] h c = tt
wholes_inline (x ∷ xs) h c =
    let g = split_true (has_valid_sizes x) (list_all has_valid_sizes xs) h in
    let k = split_true (is_clean_expr x) (list_all is_clean_expr xs) c in (whole_inline x g.0 k.0, wholes_inline xs g.1 k.1)

equals : (a b : List ℕ) → Inline a → Inline b → Inline (a ++ (codes " = " ++ b))
equals a b h k = joined a (codes " = " ++ b) h (front (codes " = ") b refl k)

nameds_inline : (ps : List (List ℕ × Expr)) → list_all is_identifier (pair_names ps) ≡ true → list_all has_valid_sizes (pair_expressions ps) ≡ true → list_all is_clean_expr (pair_expressions ps) ≡ true → AllInline assignment_text ps
nameds_inline [] n h c = tt
nameds_inline (p ∷ ps) n h c =
    let i = split_true (is_identifier p.0) (list_all is_identifier (pair_names ps)) n in
    let g = split_true (has_valid_sizes p.1) (list_all has_valid_sizes (pair_expressions ps)) h in
    let k = split_true (is_clean_expr p.1) (list_all is_clean_expr (pair_expressions ps)) c in
    (equals p.0 (top_expr_text p.1) (plain_inline p.0 (plain_name p.0 i.0)) (whole_inline p.1 g.0 k.0), nameds_inline ps i.1 g.1 k.1)

pairs_inline : (ps : List (Expr × Expr)) → list_all has_valid_sizes (both_sides ps) ≡ true → list_all is_clean_expr (both_sides ps) ≡ true → AllInline write_pair_text ps
pairs_inline [] h c = tt
pairs_inline (p ∷ ps) h c =
    let i = split_true (has_valid_sizes p.0) (has_valid_sizes p.1 && list_all has_valid_sizes (both_sides ps)) h in
    let j = split_true (is_clean_expr p.0) (is_clean_expr p.1 && list_all is_clean_expr (both_sides ps)) c in
    let g = split_true (has_valid_sizes p.1) (list_all has_valid_sizes (both_sides ps)) i.1 in
    let k = split_true (is_clean_expr p.1) (list_all is_clean_expr (both_sides ps)) j.1 in
    (equals (top_expr_text p.0) (top_expr_text p.1) (whole_inline p.0 i.0 j.0) (whole_inline p.1 g.0 k.0), pairs_inline ps g.1 k.1)

names_inline : (ws : List (List ℕ)) → AllOf IsName ws → AllInline name_text ws
names_inline [] g = tt
names_inline (x ∷ ws) g = (plain_inline x (plain_name x g.0), names_inline ws g.1)

-- Statements.
first_name : (x : List ℕ) → list_all is_identifier (x ∷ []) ≡ true → plain x ≡ true
first_name x h = plain_name x ((split_true (is_identifier x) true h).0)

one_of : (x : Expr) → list_all has_valid_sizes (x ∷ []) ≡ true → list_all is_clean_expr (x ∷ []) ≡ true → Inline (top_expr_text x)
one_of x h c = (wholes_inline (x ∷ []) h c).0

set_inline : (x word text : List ℕ) → plain x ≡ true → plain word ≡ true → Inline text → Inline (codes "let " ++ (x ++ (codes " = " ++ (word ++ text))))
set_inline x word text n p h =
    front (codes "let ") (x ++ (codes " = " ++ (word ++ text))) refl (front x (codes " = " ++ (word ++ text)) n (front (codes " = ") (word ++ text) refl (front word text p h)))

comma_inline : (word : List ℕ) (a b : Expr) → plain word ≡ true → list_all has_valid_sizes (a ∷ b ∷ []) ≡ true → list_all is_clean_expr (a ∷ b ∷ []) ≡ true → Inline (word ++ (top_expr_text a ++ (codes ", " ++ top_expr_text b)))
comma_inline word a b p h c =
    let g = wholes_inline (a ∷ b ∷ []) h c in
    front word (top_expr_text a ++ (codes ", " ++ top_expr_text b)) p (joined (top_expr_text a) (codes ", " ++ top_expr_text b) g.0 (front (codes ", ") (top_expr_text b) refl g.1.0))

commit_inline : (x : List ℕ) (ps : List (Expr × Expr)) → plain x ≡ true → list_all has_valid_sizes (both_sides ps) ≡ true → list_all is_clean_expr (both_sides ps) ≡ true → Inline (commit_text x ps)
commit_inline x [] n h c = front (codes "let ") (x ++ codes " = commit") refl (front x (codes " = commit") n (plain_inline (codes " = commit") refl))
commit_inline x (p ∷ ps) n h c = set_inline x (codes "commit ") (comma_joined write_pair_text (p ∷ ps)) n refl (listed_inline write_pair_text (p ∷ ps) (pairs_inline (p ∷ ps) h c))

stmt_inline : (l : Stmt) → StmtInLimits l → is_clean_stmt l ≡ true → Inline (stmt_text l)
stmt_inline (s.Let x a) g c = set_inline x (codes "") (top_expr_text a) (first_name x g.names) refl (one_of a g.exprs c)
stmt_inline (s.Read x a) g c = set_inline x (codes "read ") (top_expr_text a) (first_name x g.names) refl (one_of a g.exprs c)
stmt_inline (s.Join x a) g c = set_inline x (codes "join ") (top_expr_text a) (first_name x g.names) refl (one_of a g.exprs c)
stmt_inline (s.Pop x a) g c = set_inline x (codes "pop ") (top_expr_text a) (first_name x g.names) refl (one_of a g.exprs c)
stmt_inline (s.Write a b) g c = comma_inline (codes "write ") a b refl g.exprs c
stmt_inline (s.Push a b) g c = comma_inline (codes "push ") a b refl g.exprs c
stmt_inline (s.Spawn x f es) g c =
    let call = front f (codes "(" ++ (comma_joined top_expr_text es ++ codes ")")) (plain_name f g.called) (called_inline (codes "(") (comma_joined top_expr_text es) refl (listed_inline top_expr_text es (wholes_inline es g.exprs c))) in
    set_inline x (codes "spawn ") (f ++ (codes "(" ++ (comma_joined top_expr_text es ++ codes ")"))) (first_name x g.names) refl call
stmt_inline (s.Begin ps) g c = front (codes "begin ") (comma_joined assignment_text ps) refl (listed_inline assignment_text ps (nameds_inline ps g.names g.exprs c))
stmt_inline (s.Commit x ps) g c = commit_inline x ps (first_name x g.names) g.exprs c
stmt_inline (s.If a) g c = front (codes "if ") (top_expr_text a) refl (one_of a g.exprs c)
stmt_inline s.Else g c = plain_inline (codes "else") refl
stmt_inline (s.While a) g c = front (codes "while ") (top_expr_text a) refl (one_of a g.exprs c)
stmt_inline s.End g c = plain_inline (codes "end") refl
stmt_inline (s.Return a) g c = front (codes "return ") (top_expr_text a) refl (one_of a g.exprs c)
stmt_inline (s.ReadAll ps) g c = front (codes "read all ") (comma_joined assignment_text ps) refl (listed_inline assignment_text ps (nameds_inline ps g.names g.exprs c))

-- Lines.
plain_then : (a b : List ℕ) → plain a ≡ true → IsUtf8 b → IsUtf8 (a ++ b)
plain_then a b p h = IsUtf8-append a b (plain_utf8 a p) h

pub line_utf8 : (a : List ℕ) → Inline a → IsUtf8 (a ++ codes "\n")
line_utf8 a h = IsUtf8-append a (codes "\n") h.utf8 feed_utf8

pub all_utf8 : {A : Type 0} (print : A → List ℕ) (xs : List A) → AllOf (λ x. IsUtf8 (print x)) xs → IsUtf8 (flat_map print xs)
all_utf8 print [] h = IsUtf8-nil
all_utf8 print (x ∷ xs) h = IsUtf8-append (print x) (flat_map print xs) h.0 (all_utf8 print xs h.1)

-- Functions.
indent_plain : (n : ℕ) → plain (indent n) ≡ true
indent_plain zero = refl
indent_plain (suc n) = indent_plain n

lines_utf8 : (n : ℕ) (ls : List Stmt) → AllOf StmtInLimits ls → list_all is_clean_stmt ls ≡ true → IsUtf8 (stmt_lines_text n ls)
lines_utf8 n [] g c = IsUtf8-nil
lines_utf8 n (l ∷ ls) g c =
    let k = split_true (is_clean_stmt l) (list_all is_clean_stmt ls) c in
    IsUtf8-append (stmt_line_text n l) (stmt_lines_text (next_depth n l) ls)
    (plain_then (indent (line_depth n l)) (stmt_text l ++ codes "\n") (indent_plain (line_depth n l)) (line_utf8 (stmt_text l) (stmt_inline l g.0 k.0)))
    (lines_utf8 (next_depth n l) ls g.1 k.1)

function_utf8 : (f : Function) → FunctionInLimits f → is_clean_function f ≡ true → IsUtf8 (function_text f)
function_utf8 f g c =
    let body = stmt_lines_text 1 f.lines ++ codes "end\n" in
    let end : IsUtf8 (codes "end\n") = line_utf8 (codes "end") (plain_inline (codes "end") refl) in
    let close : IsUtf8 (codes ")\n") = line_utf8 (codes ")") (plain_inline (codes ")") refl) in
    plain_then (codes "function ") (f.name ++ (codes "(" ++ (comma_joined name_text f.params ++ (codes ")\n" ++ body)))) refl
    (plain_then f.name (codes "(" ++ (comma_joined name_text f.params ++ (codes ")\n" ++ body))) (plain_name f.name g.name)
    (plain_then (codes "(") (comma_joined name_text f.params ++ (codes ")\n" ++ body)) refl
    (IsUtf8-append (comma_joined name_text f.params) (codes ")\n" ++ body) ((listed_inline name_text f.params (names_inline f.params g.params)).utf8)
    (IsUtf8-append (codes ")\n") body close (IsUtf8-append (stmt_lines_text 1 f.lines) (codes "end\n") (lines_utf8 1 f.lines g.lines c) end)))))

functions_utf8 : (fs : List Function) → AllOf FunctionInLimits fs → list_all is_clean_function fs ≡ true → AllOf (λ f. IsUtf8 (function_text f)) fs
functions_utf8 [] g c = tt
functions_utf8 (f ∷ fs) g c =
    let k = split_true (is_clean_function f) (list_all is_clean_function fs) c in (function_utf8 f g.0 k.0, functions_utf8 fs g.1 k.1)

-- Objects and the setup.
object_utf8 : (x : List ℕ × Value) → is_clean_object x ≡ true → IsUtf8 (name_value_line (codes "object ") x)
object_utf8 x c =
    let k = split_true (is_clean_text x.0) (is_clean_value x.1) c in
    plain_then (codes "object ") (quoted x.0 ++ (codes " " ++ (value_text x.1 ++ codes "\n"))) refl
    (IsUtf8-append (quoted x.0) (codes " " ++ (value_text x.1 ++ codes "\n")) ((quote_inline x.0 k.0).utf8)
    (plain_then (codes " ") (value_text x.1 ++ codes "\n") refl (line_utf8 (value_text x.1) (value_inline x.1 k.1))))

objects_utf8 : (xs : List (List ℕ × Value)) → list_all is_clean_object xs ≡ true → AllOf (λ x. IsUtf8 (name_value_line (codes "object ") x)) xs
objects_utf8 [] c = tt
objects_utf8 (x ∷ xs) c = let k = split_true (is_clean_object x) (list_all is_clean_object xs) c in (object_utf8 x k.0, objects_utf8 xs k.1)

setup_utf8 : (x : Setup) → IsUtf8 (setup_text x)
setup_utf8 x =
    subst IsUtf8 (sym (setup_apart x)) (line_utf8 _ (sizes_inline x.shards x.replicas x.engines x.mode x.newer))

-- The whole head.
pub head_utf8 : (plan : Plan) → list_all is_clean_object plan.objects ≡ true → AllOf FunctionInLimits plan.program.functions → list_all is_clean_function plan.program.functions ≡ true → IsUtf8 (head_text plan)
head_utf8 plan k g d =
    let objects = flat_map (name_value_line (codes "object ")) plan.objects in
    let functions = flat_map function_text plan.program.functions in
    IsUtf8-append (setup_text plan.setup) (objects ++ functions) (setup_utf8 plan.setup)
    (IsUtf8-append objects functions (all_utf8 (name_value_line (codes "object ")) plan.objects (objects_utf8 plan.objects k)) (all_utf8 function_text plan.program.functions (functions_utf8 plan.program.functions g d)))

-- Items.
event_utf8 : (fs : List Function) (x : Event) → list_all is_identifier (function_names fs) ≡ true → is_clean_event x ≡ true → IsUtf8 (event_text fs x ++ codes "\n")
event_utf8 fs x n h = line_utf8 (event_text fs x) (event_inline fs x n h)

inners_utf8 : (fs : List Function) (xs : List Event) → list_all is_identifier (function_names fs) ≡ true → list_all is_clean_event xs ≡ true → AllOf (λ x. IsUtf8 (repeat_line fs x)) xs
inners_utf8 fs [] n h = tt
inners_utf8 fs (x ∷ xs) n h =
    let k = split_true (is_clean_event x) (list_all is_clean_event xs) h in
    (plain_then (codes "  ") (event_text fs x ++ codes "\n") refl (event_utf8 fs x n k.0), inners_utf8 fs xs n k.1)

item_utf8 : (fs : List Function) (i : Item) → list_all is_identifier (function_names fs) ≡ true → is_clean_item i ≡ true → IsUtf8 (item_text fs i)
item_utf8 fs (One x) n h = event_utf8 fs x n h
item_utf8 fs (Repeat times xs) n h =
    let inner = flat_map (repeat_line fs) xs in
    let end = line_utf8 (codes "end") (plain_inline (codes "end") refl) in
    plain_then (codes "repeat ") (decimal times ++ (codes "\n" ++ (inner ++ codes "end\n"))) refl
    (plain_then (decimal times) (codes "\n" ++ (inner ++ codes "end\n")) (plain_decimal times)
    (IsUtf8-append (codes "\n") (inner ++ codes "end\n") feed_utf8 (IsUtf8-append inner (codes "end\n") (all_utf8 (repeat_line fs) xs (inners_utf8 fs xs n h)) end)))

items_utf8 : (fs : List Function) (is : List Item) → list_all is_identifier (function_names fs) ≡ true → list_all is_clean_item is ≡ true → AllOf (λ i. IsUtf8 (item_text fs i)) is
items_utf8 fs [] n h = tt
items_utf8 fs (i ∷ is) n h =
    let k = split_true (is_clean_item i) (list_all is_clean_item is) h in (item_utf8 fs i n k.0, items_utf8 fs is n k.1)

-- A whole plan.
pub plan_utf8 : (plan : Plan) → AllOf FunctionInLimits plan.program.functions → list_all is_identifier (function_names plan.program.functions) ≡ true → list_all is_clean_object plan.objects ≡ true → list_all is_clean_function plan.program.functions ≡ true → list_all is_clean_item plan.items ≡ true → IsUtf8 (plan_text plan)
plan_utf8 plan g n objects functions items =
    let body = flat_map (item_text plan.program.functions) plan.items in
    let inner = all_utf8 (item_text plan.program.functions) plan.items (items_utf8 plan.program.functions plan.items n items) in
    IsUtf8-append (head_text plan) (codes "events\n" ++ body) (head_utf8 plan objects g functions)
    (IsUtf8-append (codes "events\n") body (line_utf8 (codes "events") (plain_inline (codes "events") refl)) inner)
