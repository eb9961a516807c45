-- A program whose functions are within the limits, and whose second pass finds nothing, is one.
use Rattle.std.proofs.Common.{◌≡◌, ℕ, suc, ◌+◌, ◌≤◌, Bool, true, false, cond, leb, eqb, List, [], ◌∷◌, ◌++◌, length, take, get_or, Option, Some, None, Result, Ok, Err, refl, sym, ap, ◌∙◌, subst, append_assoc, length-append, arith}
use Rattle.std.specs.Prelude.{◌&&◌, ◌||◌, not, map, option_map, bytes_eq}
use Rattle.std.specs.List.{list_all, list_any}
use Rattle.std.proofs.lemmas.Bool.Decides.{nat_tests}
use Rattle.std.proofs.lemmas.Slice.Eq.{bytes_eq-Decides}
use Rattle.std.proofs.lemmas.List.{append-nil, take_at}
use denote.Hole.Carrier.{hidden}
use Rattle.boki_types.specs.declared.kind.Kind.{Kind}
use Rattle.boki_types.specs.declared.kind.Kind.TheVariants as kinds
use Rattle.boki_types.specs.declared.expr.Expr.{Expr, more_of-Expr, end_of-Expr}
use Rattle.boki_types.specs.declared.expr.Expr.TheVariants as exprs
use Rattle.boki_types.specs.declared.expr.Expr.TheBlock.{shape-the_row-Expr-0, hidden-the_row-Expr-0}
use Rattle.boki_types.specs.declared.program.Function.{Function}
use Rattle.boki_types.specs.declared.program.Program.{Program}
use Rattle.boki_types.specs.declared.program.Stmt.{Stmt}
use Rattle.boki_types.specs.declared.program.Stmt.TheVariants as stmts
use Rattle.boki_types.specs.Finding.{find}
use Rattle.boki_model.specs.Bodies.{is_identifier}
use Rattle.boki_model.specs.Maps.{has}
use Rattle.boki_model.specs.Plans.{operand_count, nesting_depth, has_known_leaves, is_expr, expressions, variables_set, has_arity, known_function, has_valid_counts, is_stmt, are_stmts, is_function, distinct, is_program}
use Rattle.boki_model.specs.Script.{pair_expressions, both_sides}
use Rattle.script_lang.specs.declared.draft.Draft.{Draft}
use Rattle.script_lang.specs.declared.draft.Stage.{Stage}
use Rattle.script_lang.specs.declared.draft.Stage.TheVariants.{Between, Inside}
use Rattle.line_text.specs.declared.fault.TextFault.{TextFault}
use Rattle.script_lang.specs.Functions.{empty_draft}
use Rattle.script_lang.specs.Names.{is_among, vars_known, reads_known, call_fault, spawn_fault, line_fault, fault_or_rest, lines_fault, function_head_fault, function_fault, fault_or_else, functions_fault, name_fault}
use Rattle.script_lang.specs.Texts.{scan_functions, program_or_fault, program_at_end, program_of_scan, program_of}
use Rattle.script_lang.proofs.NameLemmas.{has_is_among}
use Rattle.script_lang.proofs.ExprsInLimits.{is_expr_in_limits}
use Rattle.script_lang.proofs.StmtsInLimits.{AllOf, IsName, StmtInLimits, has_valid_sizes, counts_in_limits}
use Rattle.script_lang.proofs.DraftsInLimits.{FunctionInLimits, scanned_in_limits}

both_true : (a b : Bool) → a ≡ true → b ≡ true → (a && b) ≡ true
both_true a b h k = rw (h, k) refl

split_and : (a b : Bool) → (a && b) ≡ true → (a ≡ true) × (b ≡ true)
split_and true b h = (refl, h)
split_and false b h = absurd (cc)

split_or : (a b : Bool) → (a || b) ≡ false → (a ≡ false) × (b ≡ false)
split_or true b h = absurd (cc)
split_or false b h = (refl, h)

-- Two lists of names that have the same ones.
abbrev Same : List (List ℕ) → List (List ℕ) → Type 0
Same a b = (x : List ℕ) → has x a ≡ is_among b x

knows_good : (a b : List (List ℕ)) (x : Expr) → Same a b → is_expr_in_limits x ≡ true → vars_known b x ≡ true → has_known_leaves a x ≡ true
unfolding shape-the_row-Expr-0 hidden-the_row-Expr-0 hidden
knows_good a b (exprs.Int n) s f v = f
knows_good a b (exprs.Text t) s f v = f
knows_good a b exprs.Nothing s f v = refl
knows_good a b (exprs.Var x) s f v = s x ∙ v
knows_good a b (exprs.Not' p' (more_of-Expr x end_of-Expr)) s f v = knows_good a b x s f v
knows_good a b (exprs.Two' o p' (more_of-Expr x end_of-Expr) q' (more_of-Expr y end_of-Expr)) s f v =
    let g = split_and (is_expr_in_limits x) (is_expr_in_limits y) f in let w = split_and (vars_known b x) (vars_known b y) v in
    both_true _ _ (knows_good a b x s g.0 w.0) (knows_good a b y s g.1 w.1)
knows_good a b (exprs.TextOf' p' (more_of-Expr x end_of-Expr)) s f v = knows_good a b x s f v
knows_good a b (exprs.Len' p' (more_of-Expr x end_of-Expr)) s f v = knows_good a b x s f v

expr_is : (a b : List (List ℕ)) (x : Expr) → Same a b → has_valid_sizes x ≡ true → vars_known b x ≡ true → is_expr a x ≡ true
expr_is a b x s g v =
    let k = split_and (leb (operand_count x) 64 && leb (nesting_depth x) 32) (is_expr_in_limits x) g in
    both_true _ _ k.0 (knows_good a b x s k.1 v)

exprs_are : (a b : List (List ℕ)) (xs : List Expr) → Same a b → list_all has_valid_sizes xs ≡ true → list_all (vars_known b) xs ≡ true → list_all (is_expr a) xs ≡ true
exprs_are a b [] s g v = refl
exprs_are a b (x ∷ xs) s g v =
    let h = split_and _ _ g in let w = split_and _ _ v in
    both_true _ _ (expr_is a b x s h.0 w.0) (exprs_are a b xs s h.1 w.1)

seconds_known : (b : List (List ℕ)) (ps : List (List ℕ × Expr)) → list_all (λ p. vars_known b p.1) ps ≡ list_all (vars_known b) (pair_expressions ps)
seconds_known b [] = refl
seconds_known b (p ∷ ps) = ap (λ t. vars_known b p.1 && t) (seconds_known b ps)

and_along : (x y z w : Bool) → z ≡ w → ((x && y) && z) ≡ (x && (y && w))
and_along true y z w e = ap (λ t. y && t) e
and_along false y z w e = refl

sides_known : (b : List (List ℕ)) (ps : List (Expr × Expr)) → list_all (λ p. vars_known b p.0 && vars_known b p.1) ps ≡ list_all (vars_known b) (both_sides ps)
sides_known b [] = refl
sides_known b (p ∷ ps) = and_along (vars_known b p.0) (vars_known b p.1) _ _ (sides_known b ps)

and_one : (x : Bool) → x ≡ (x && true)
and_one true = refl
and_one false = refl

and_two : (x y : Bool) → (x && y) ≡ (x && (y && true))
and_two true y = and_one y
and_two false y = refl

reads_is : (b : List (List ℕ)) (l : Stmt) → reads_known b l ≡ list_all (vars_known b) (expressions l)
reads_is b (stmts.Let x a) = and_one (vars_known b a)
reads_is b (stmts.Read x a) = and_one (vars_known b a)
reads_is b (stmts.Write a c) = and_two (vars_known b a) (vars_known b c)
reads_is b (stmts.Spawn x f es) = refl
reads_is b (stmts.Join x a) = and_one (vars_known b a)
reads_is b (stmts.Push a c) = and_two (vars_known b a) (vars_known b c)
reads_is b (stmts.Pop x a) = and_one (vars_known b a)
reads_is b (stmts.Begin ps) = seconds_known b ps
reads_is b (stmts.Commit x ps) = sides_known b ps
reads_is b (stmts.If a) = and_one (vars_known b a)
reads_is b stmts.Else = refl
reads_is b (stmts.While a) = and_one (vars_known b a)
reads_is b stmts.End = refl
reads_is b (stmts.Return a) = and_one (vars_known b a)
reads_is b (stmts.ReadAll ps) = seconds_known b ps

arity_by : (g : Function) (n : ℕ) (b : Bool) → eqb n (length g.params) ≡ b → cond b None (Some kinds.Arity) ≡ None → eqb n (length g.params) ≡ true
arity_by g n true e h = e
arity_by g n false e h = absurd (cc)

later : (g : Function) (gs : List Function) (n : ℕ) (o : Option ℕ) → has_arity n (known_function gs o) ≡ true → has_arity n (known_function (g ∷ gs) (option_map suc o)) ≡ true
later g gs n None h = h
later g gs n (Some i) h = h

call_by : (g : Function) (gs : List Function) (name : List ℕ) (n : ℕ) (b : Bool) → (call_fault gs name n ≡ None → has_arity n (known_function gs (find name gs)) ≡ true) → cond b (cond (eqb n (length g.params)) None (Some kinds.Arity)) (call_fault gs name n) ≡ None → has_arity n (known_function (g ∷ gs) (cond b (Some 0) (option_map suc (find name gs)))) ≡ true
call_by g gs name n true h e = arity_by g n (eqb n (length g.params)) refl e
call_by g gs name n false h e = later g gs n (find name gs) (h e)

call_good : (gs : List Function) (name : List ℕ) (n : ℕ) → call_fault gs name n ≡ None → has_arity n (known_function gs (find name gs)) ≡ true
call_good [] name n e = absurd (cc)
call_good (g ∷ gs) name n e = call_by g gs name n (bytes_eq name g.name) (call_good gs name n) e

counts_good : (fs : List Function) (l : Stmt) → counts_in_limits l ≡ true → spawn_fault fs l ≡ None → has_valid_counts fs l ≡ true
counts_good fs (stmts.Let x a) g e = g
counts_good fs (stmts.Read x a) g e = g
counts_good fs (stmts.Write a b) g e = g
counts_good fs (stmts.Spawn x f es) g e = call_good fs f (length es) e
counts_good fs (stmts.Join x a) g e = g
counts_good fs (stmts.Push a b) g e = g
counts_good fs (stmts.Pop x a) g e = g
counts_good fs (stmts.Begin ps) g e = g
counts_good fs (stmts.Commit x ps) g e = g
counts_good fs (stmts.If a) g e = g
counts_good fs stmts.Else g e = g
counts_good fs (stmts.While a) g e = g
counts_good fs stmts.End g e = g
counts_good fs (stmts.Return a) g e = g
counts_good fs (stmts.ReadAll ps) g e = g

line_by : (fs : List Function) (b : List (List ℕ)) (l : Stmt) (t : Bool) → reads_known b l ≡ t → cond t (spawn_fault fs l) (Some kinds.Name) ≡ None → (reads_known b l ≡ true) × (spawn_fault fs l ≡ None)
line_by fs b l true e h = (e, h)
line_by fs b l false e h = absurd (cc)

stmt_is : (fs : List Function) (a b : List (List ℕ)) (l : Stmt) → Same a b → StmtInLimits l → line_fault fs b l ≡ None → is_stmt fs a l ≡ true
stmt_is fs a b l s g e =
    let h = line_by fs b l (reads_known b l) refl e in
    both_true _ _ (both_true _ _ (exprs_are a b (expressions l) s g.exprs (sym (reads_is b l) ∙ h.0)) g.names) (counts_good fs l g.counts h.1)

none_of : (n : ℕ) (o : Option Kind) (rest : Option (ℕ × Kind)) → fault_or_rest n o rest ≡ None → (o ≡ None) × (rest ≡ None)
none_of n None rest e = (refl, e)
none_of n (Some k) rest e = absurd (cc)

or_assoc : (x y z : Bool) → (x || (y || z)) ≡ ((x || y) || z)
or_assoc true y z = refl
or_assoc false y z = refl

or_comm : (x y : Bool) → (x || y) ≡ (y || x)
or_comm true true = refl
or_comm true false = refl
or_comm false true = refl
or_comm false false = refl

has_append : (x : List ℕ) (xs ys : List (List ℕ)) → has x (xs ++ ys) ≡ (has x xs || has x ys)
has_append x [] ys = refl
has_append x (y ∷ zs) ys = ap (λ t. bytes_eq x y || t) (has_append x zs ys) ∙ or_assoc (bytes_eq x y) (has x zs) (has x ys)

among_append : (x : List ℕ) (xs ys : List (List ℕ)) → is_among (xs ++ ys) x ≡ (is_among xs x || is_among ys x)
among_append x [] ys = refl
among_append x (y ∷ zs) ys = ap (λ t. bytes_eq x y || t) (among_append x zs ys) ∙ or_assoc (bytes_eq x y) (is_among zs x) (is_among ys x)

same_more : (a b more : List (List ℕ)) → Same a b → Same (more ++ a) (b ++ more)
same_more a b more s x =
    has_append x more a ∙ ap (λ t. has x more || t) (s x) ∙ ap (λ t. t || is_among b x) (has_is_among x more)
    ∙ or_comm (is_among more x) (is_among b x) ∙ sym (among_append x b more)

lines_are : (fs : List Function) (a b : List (List ℕ)) (ls : List Stmt) (ns : List ℕ) (i : ℕ) → Same a b → AllOf StmtInLimits ls → lines_fault fs b ls ns i ≡ None → are_stmts fs a ls ≡ true
lines_are fs a b [] ns i s g e = refl
lines_are fs a b (l ∷ ls) ns i s g e =
    let h = none_of (get_or ns i 0) (line_fault fs b l) (lines_fault fs (b ++ variables_set l) ls ns (i + 1)) e in
    both_true _ _ (stmt_is fs a b l s g.0 h.0) (lines_are fs (variables_set l ++ a) (b ++ variables_set l) ls ns (i + 1) (same_more a b (variables_set l) s) g.1 h.1)

names_all : (ws : List (List ℕ)) → AllOf IsName ws → list_all is_identifier ws ≡ true
names_all [] g = refl
names_all (w ∷ ws) g = both_true _ _ g.0 (names_all ws g.1)

head_by : (x y : Bool) → cond (x || not y) (Some kinds.Name) None ≡ None → (x ≡ false) × (y ≡ true)
head_by true y e = absurd (cc)
head_by false true e = (refl, refl)
head_by false false e = absurd (cc)

below : (m n : ℕ) → m ≤ n → leb m n ≡ true
below m n h = grind (arith, nat_tests, h)

function_is : (fs before : List Function) (f : Function) (ns : List ℕ) → FunctionInLimits f → function_fault fs before f ns ≡ None → (is_function fs f ≡ true) × (list_any (λ g. bytes_eq f.name g.name) before ≡ false)
function_is fs before f ns g e =
    let h = none_of (get_or ns 0 0) (function_head_fault before f) (lines_fault fs f.params f.lines ns 1) e in
    let d = head_by (list_any (λ g. bytes_eq f.name g.name) before) (distinct f.params) h.0 in
    let lines = lines_are fs f.params f.params f.lines ns 1 (λ x. has_is_among x f.params) g.lines h.1 in
    (both_true _ _ (both_true _ _ (both_true _ _ (both_true _ _ (both_true _ _ g.name (below (length f.params) 8 g.few)) (names_all f.params g.params)) d.1) g.balanced) lines, d.0)

or_else_none : (o rest : Option (ℕ × Kind)) → fault_or_else o rest ≡ None → (o ≡ None) × (rest ≡ None)
or_else_none None rest e = (refl, e)
or_else_none (Some x) rest e = absurd (cc)

bytes_swap : (x y : List ℕ) (b : Bool) → bytes_eq x y ≡ b → bytes_eq y x ≡ false → b ≡ false
bytes_swap x y true e h =
    let same : x ≡ y = (bytes_eq-Decides x y).0 e in
    let back : bytes_eq y x ≡ true = (bytes_eq-Decides y x).1 (sym same) in
    absurd (cc)
bytes_swap x y false e h = refl

not_has : (x y : List ℕ) (ns : List (List ℕ)) → has x ns ≡ false → bytes_eq y x ≡ false → has x (ns ++ y ∷ []) ≡ false
not_has x y ns h k =
    has_append x ns (y ∷ []) ∙ ap (λ t. t || (bytes_eq x y || false)) h ∙ ap (λ t. t || false) (bytes_swap x y (bytes_eq x y) refl k)

not_false : (b : Bool) → not b ≡ true → b ≡ false
not_false true e = absurd (cc)
not_false false e = refl

distinct_snoc : (fs : List Function) (y : List ℕ) → distinct (map (λ f. f.name) fs) ≡ true → list_any (λ g. bytes_eq y g.name) fs ≡ false → distinct (map (λ f. f.name) fs ++ y ∷ []) ≡ true
distinct_snoc [] y d e = refl
distinct_snoc (f ∷ fs) y d e =
    let s = split_and (not (has f.name (map (λ f. f.name) fs))) (distinct (map (λ f. f.name) fs)) d in
    let o = split_or (bytes_eq y f.name) (list_any (λ g. bytes_eq y g.name) fs) e in
    let n = not_has f.name y (map (λ f. f.name) fs) (not_false _ s.0) o.0 in
    both_true _ _ (ap (λ t. not t) n) (distinct_snoc fs y s.1 o.1)

map_snoc : (fs : List Function) (f : Function) → map (λ g. g.name) (fs ++ f ∷ []) ≡ map (λ g. g.name) fs ++ f.name ∷ []
map_snoc [] f = refl
map_snoc (g ∷ gs) f = ap (λ l. g.name ∷ l) (map_snoc gs f)

record Passed (fs rest : List Function) : Type 0 where
  names : distinct (map (λ f. f.name) fs) ≡ true
  functions : list_all (is_function fs) rest ≡ true

functions_are : (fs before rest : List Function) (ms : List (List ℕ)) (i : ℕ) → before ++ rest ≡ fs → length before ≡ i → AllOf FunctionInLimits rest → distinct (map (λ f. f.name) before) ≡ true → functions_fault fs rest ms i ≡ None → Passed fs rest
functions_are fs before [] ms i e n g d h =
    record { names = ap (λ (l : List Function). distinct (map (λ f. f.name) l)) (sym e ∙ append-nil before) ∙ d; functions = refl }
functions_are fs before (f ∷ rest) ms i e n g d h =
    let o = or_else_none (function_fault fs (take i fs) f (get_or ms i [])) (functions_fault fs rest ms (i + 1)) h in
    let t : take i fs ≡ before = ap (take i) (sym e) ∙ take_at before (f ∷ rest) i n in
    let k = function_is fs before f (get_or ms i []) g.0 (ap (λ l. function_fault fs l f (get_or ms i [])) (sym t) ∙ o.0) in
    let d2 : distinct (map (λ f. f.name) (before ++ f ∷ [])) ≡ true = ap distinct (map_snoc before f) ∙ distinct_snoc before f.name d k.1 in
    let p = functions_are fs (before ++ f ∷ []) rest ms (i + 1) (append_assoc before (f ∷ []) rest ∙ e) (omega (arith, length-append before (f ∷ []))) g.1 d2 o.1 in
    record { names = p.names; functions = both_true _ _ k.0 p.functions }

abbrev ok_in : {A : Type 0} (E : Type 0) → A → Result A E
ok_in E x = Ok x

inner_ok : {A : Type 0} (E : Type 0) (x y : A) → ok_in E x ≡ ok_in E y → x ≡ y
inner_ok E x y e = cc

pub functions_pass : (fs : List Function) (ms : List (List ℕ)) → AllOf FunctionInLimits fs → length fs ≤ 256 → name_fault fs ms ≡ None → is_program (record { functions = fs }) ≡ true
functions_pass fs ms g l n =
    let h = functions_are fs [] fs ms 0 refl refl g refl n in
    both_true _ _ (both_true _ _ (below (length fs) 256 l) h.names) h.functions

named_is : (fs : List Function) (ms : List (List ℕ)) (o : Option (ℕ × Kind)) (p : Program) → name_fault fs ms ≡ o → AllOf FunctionInLimits fs → length fs ≤ 256 → program_or_fault fs o ≡ Ok p → is_program p ≡ true
named_is fs ms (Some fault) p n g l e = absurd (cc)
named_is fs ms None p n g l e =
    subst (λ (z : Program). is_program z ≡ true) (inner_ok TextFault (record { functions = fs }) p e) (functions_pass fs ms g l n)

ended_is : (n first : ℕ) (text : List ℕ) (fs : List Function) (ms : List (List ℕ)) (s : Stage) (p : Program) → scan_functions first text empty_draft ≡ Ok (n, record { functions = fs; line_numbers = ms; stage = s }) → program_at_end n fs ms s ≡ Ok p → is_program p ≡ true
ended_is n first text fs ms Between p e f =
    let g = scanned_in_limits n first text (record { functions = fs; line_numbers = ms; stage = Between }) e refl in
    named_is fs ms (name_fault fs ms) p refl g.0 g.1 f
ended_is n first text fs ms (Inside f m bs) p e h = absurd (cc)

finished_is : (first : ℕ) (text : List ℕ) (r : Result (ℕ × Draft) TextFault) (p : Program) → scan_functions first text empty_draft ≡ r → program_of_scan r ≡ Ok p → is_program p ≡ true
finished_is first text (Err e) p s f = absurd (cc)
finished_is first text (Ok q) p s f = ended_is q.0 first text q.1.functions q.1.line_numbers q.1.stage p s f

pub program_is_valid : (first : ℕ) (text : List ℕ) (p : Program) → program_of first text ≡ Ok p → is_program p ≡ true
program_is_valid first text p e = finished_is first text (scan_functions first text empty_draft) p refl e
