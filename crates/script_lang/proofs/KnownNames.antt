-- The names that a set holds, and what depends on them alone.
use Rattle.std.proofs.Common.{◌≡◌, ℕ, ◌+◌, ◌<◌, Bool, true, false, cond, List, [], ◌∷◌, ◌++◌, length, drop, map, get_or, Some, None, Result, refl, sym, ap, ◌∙◌, subst}
use Rattle.std.specs.Prelude.{◌&&◌, ◌||◌, OnOk, bytes_eq}
use Rattle.std.specs.List.{list_all, list_any}
use Rattle.std.specs.HashSet.{HashSet, Updates, IsEmpty}
use Rattle.std.proofs.lemmas.List.Folds.{list_any-append}
use Rattle.std.proofs.lemmas.Slice.Eq.{bytes_eq-Decides}
use Rattle.std.proofs.lemmas.Bool.Decides.{same_from_decides}
use denote.Ref.{Bor}
use denote.Hole.Carrier.{hidden}
use Rattle.boki_types.specs.declared.kind.Kind.TheVariants as kinds
use Rattle.boki_types.specs.declared.expr.Expr.{Expr, more_of-Expr, end_of-Expr}
use Rattle.boki_types.specs.declared.expr.Expr.TheVariants as exprs
use Rattle.boki_types.specs.declared.expr.Expr.TheBlock.{shape-the_row-Expr-0, hidden-the_row-Expr-0}
use Rattle.boki_types.specs.declared.program.Function.{Function}
use Rattle.boki_types.specs.declared.program.Stmt.{Stmt}
use Rattle.boki_types.specs.declared.program.Stmt.TheVariants as stmts
use Rattle.boki_model.specs.Plans.{variables_set}
use Rattle.script_lang.specs.Names.{is_among, names_in, AreSameNames, vars_known, reads_known, spawn_fault, line_fault, fault_or_rest, lines_fault}
use Rattle.line_text.proofs.ListLemmas.{drop_at}

pub among_in : (name : List ℕ) (keys : List (Bor (List ℕ))) → list_any (λ k. bytes_eq name k.now) keys ≡ is_among (map (λ k. k.now) keys) name
among_in name [] = refl
among_in name (k ∷ ks) = ap (λ t. bytes_eq name k.now || t) (among_in name ks)

flip : (x y : List ℕ) → bytes_eq x y ≡ bytes_eq y x
flip x y =
    same_from_decides (bytes_eq x y) (bytes_eq y x) (bytes_eq-Decides x y) (λ e. sym ((bytes_eq-Decides y x).0 e), λ e. (bytes_eq-Decides y x).1 (sym e))

either : (t d : Bool) → cond t true d ≡ (d || (t || false))
either true true = refl
either true false = refl
either false true = refl
either false false = refl

-- a set with one more name
pub name_added : {S : Type 0} (old new : HashSet (Bor (List ℕ)) S) (name : Bor (List ℕ)) → Updates (λ x y. bytes_eq x.now y.now) old new name true → AreSameNames (names_in new) (names_in old ++ name.now ∷ [])
name_added old new name updates q =
    sym (among_in q new.keys)
    ∙ updates.0 (record { ref_ptr = (0, 0); now = q })
    ∙ either (bytes_eq name.now q) (list_any (λ k. bytes_eq q k.now) old.keys)
    ∙ ap (λ t. t || (bytes_eq name.now q || false)) (among_in q old.keys)
    ∙ ap (λ t. is_among (names_in old) q || (t || false)) (flip name.now q)
    ∙ sym (list_any-append (bytes_eq q) (names_in old) (name.now ∷ []))

pub names_added : {E : Type 0} (r : Result Unit E) (old new added wanted : List (List ℕ)) → added ≡ wanted → OnOk r (AreSameNames new (old ++ added)) → OnOk r (AreSameNames new (old ++ wanted))
names_added r old new added wanted e h = subst (λ names. OnOk r (AreSameNames new (old ++ names))) e h

pub none_before : {S : Type 0} (empty known : HashSet (Bor (List ℕ)) S) (added : List (List ℕ)) → IsEmpty empty → AreSameNames (names_in known) (names_in empty ++ added) → AreSameNames (names_in known) added
none_before empty known added e h =
    subst (λ names. AreSameNames (names_in known) (names ++ added)) (ap (map (λ (k : Bor (List ℕ)). k.now)) e) h

-- Lists of the same names.

same_more : (xs ys more : List (List ℕ)) → AreSameNames xs ys → AreSameNames (xs ++ more) (ys ++ more)
same_more xs ys more same q =
    list_any-append (bytes_eq q) xs more ∙ ap (λ t. t || is_among more q) (same q) ∙ sym (list_any-append (bytes_eq q) ys more)

vars_same : (xs ys : List (List ℕ)) (a : Expr) → AreSameNames xs ys → vars_known xs a ≡ vars_known ys a
unfolding shape-the_row-Expr-0 hidden-the_row-Expr-0 hidden
vars_same xs ys (exprs.Int n) same = refl
vars_same xs ys (exprs.Text t) same = refl
vars_same xs ys exprs.Nothing same = refl
vars_same xs ys (exprs.Var x) same = same x
vars_same xs ys (exprs.Not' p' (more_of-Expr a end_of-Expr)) same = vars_same xs ys a same
vars_same xs ys (exprs.Two' o p' (more_of-Expr a end_of-Expr) q' (more_of-Expr b end_of-Expr)) same =
    ap (λ t. t && vars_known xs b) (vars_same xs ys a same) ∙ ap (λ t. vars_known ys a && t) (vars_same xs ys b same)
vars_same xs ys (exprs.TextOf' p' (more_of-Expr a end_of-Expr)) same = vars_same xs ys a same
vars_same xs ys (exprs.Len' p' (more_of-Expr a end_of-Expr)) same = vars_same xs ys a same

all_same : {A : Type 0} (p q : A → Bool) (xs : List A) → ((x : A) → p x ≡ q x) → list_all p xs ≡ list_all q xs
all_same p q [] same = refl
all_same p q (x ∷ xs) same = ap (λ t. t && list_all p xs) (same x) ∙ ap (λ t. q x && t) (all_same p q xs same)

two_same : (xs ys : List (List ℕ)) (a b : Expr) → AreSameNames xs ys → (vars_known xs a && vars_known xs b) ≡ (vars_known ys a && vars_known ys b)
two_same xs ys a b same =
    ap (λ t. t && vars_known xs b) (vars_same xs ys a same) ∙ ap (λ t. vars_known ys a && t) (vars_same xs ys b same)

reads_same : (xs ys : List (List ℕ)) (l : Stmt) → AreSameNames xs ys → reads_known xs l ≡ reads_known ys l
reads_same xs ys (stmts.Let x a) same = vars_same xs ys a same
reads_same xs ys (stmts.Read x a) same = vars_same xs ys a same
reads_same xs ys (stmts.Write a b) same = two_same xs ys a b same
reads_same xs ys (stmts.Spawn x f es) same = all_same (vars_known xs) (vars_known ys) es (λ a. vars_same xs ys a same)
reads_same xs ys (stmts.Join x a) same = vars_same xs ys a same
reads_same xs ys (stmts.Push a b) same = two_same xs ys a b same
reads_same xs ys (stmts.Pop x a) same = vars_same xs ys a same
reads_same xs ys (stmts.Begin pairs) same = all_same _ _ pairs (λ p. vars_same xs ys p.1 same)
reads_same xs ys (stmts.Commit x pairs) same = all_same _ _ pairs (λ p. two_same xs ys p.0 p.1 same)
reads_same xs ys (stmts.If a) same = vars_same xs ys a same
reads_same xs ys stmts.Else same = refl
reads_same xs ys (stmts.While a) same = vars_same xs ys a same
reads_same xs ys stmts.End same = refl
reads_same xs ys (stmts.Return a) same = vars_same xs ys a same
reads_same xs ys (stmts.ReadAll pairs) same = all_same _ _ pairs (λ p. vars_same xs ys p.1 same)

pub lines_same : (fs : List Function) (xs ys : List (List ℕ)) (ls : List Stmt) (ns : List ℕ) (i : ℕ) → AreSameNames xs ys → lines_fault fs xs ls ns i ≡ lines_fault fs ys ls ns i
lines_same fs xs ys [] ns i same = refl
lines_same fs xs ys (l ∷ ls) ns i same =
    ap (λ t. fault_or_rest (get_or ns i 0) (cond t (spawn_fault fs l) (Some kinds.Name)) (lines_fault fs (xs ++ variables_set l) ls ns (i + 1))) (reads_same xs ys l same)
    ∙ ap (fault_or_rest (get_or ns i 0) (line_fault fs ys l)) (lines_same fs (xs ++ variables_set l) (ys ++ variables_set l) ls ns (i + 1) (same_more xs ys (variables_set l) same))

-- behind a line with no fault
pub line_passed : (fs : List Function) (known next : List (List ℕ)) (lines : List Stmt) (marks : List ℕ) (i : ℕ) (l : Stmt) → i < length lines → l ≡ get_or lines i l → line_fault fs known l ≡ None → AreSameNames next (known ++ variables_set l) → lines_fault fs known (drop i lines) marks (i + 1) ≡ lines_fault fs next (drop (i + 1) lines) marks (i + 1 + 1)
line_passed fs known next lines marks i l h e none same =
    ap (λ ls. lines_fault fs known ls marks (i + 1)) (drop_at lines i l h e)
    ∙ ap (λ f. fault_or_rest (get_or marks (i + 1) 0) f (lines_fault fs (known ++ variables_set l) (drop (i + 1) lines) marks (i + 1 + 1))) none
    ∙ sym (lines_same fs next (known ++ variables_set l) (drop (i + 1) lines) marks (i + 1 + 1) same)
