-- Names, one after another.
use Rattle.std.proofs.Common.{◌≡◌, ℕ, suc, ◌+◌, ◌<◌, Bool, List, [], ◌∷◌, length, drop, get_or, refl, sym, ap, ◌∙◌, add-one}
use Rattle.std.specs.Prelude.{◌&&◌, ◌||◌, not, bytes_eq}
use Rattle.std.proofs.Math.Seq.{drop-cons}
use denote.Hole.Carrier.{hidden}
use Rattle.boki_types.specs.declared.expr.BinOp.{BinOp}
use Rattle.boki_types.specs.declared.expr.Expr.{Expr}
use Rattle.boki_types.specs.declared.expr.Expr.TheVariants as e
use Rattle.boki_types.specs.declared.expr.Expr.TheBlock.{shape-the_row-Expr-0, hidden-the_row-Expr-0}
use Rattle.boki_model.specs.Maps.{has}
use Rattle.boki_model.specs.Plans.{distinct}
use Rattle.script_lang.specs.Names.{is_among, vars_known}

pub known_in_not : (known : List (List ℕ)) (a : Expr) → vars_known known (e.Not a) ≡ vars_known known a
unfolding shape-the_row-Expr-0 hidden-the_row-Expr-0 hidden
known_in_not known a = refl

pub known_in_text : (known : List (List ℕ)) (a : Expr) → vars_known known (e.TextOf a) ≡ vars_known known a
unfolding shape-the_row-Expr-0 hidden-the_row-Expr-0 hidden
known_in_text known a = refl

pub known_in_len : (known : List (List ℕ)) (a : Expr) → vars_known known (e.Len a) ≡ vars_known known a
unfolding shape-the_row-Expr-0 hidden-the_row-Expr-0 hidden
known_in_len known a = refl

pub known_in_two : (known : List (List ℕ)) (o : BinOp) (a b : Expr) → vars_known known (e.Two o a b) ≡ (vars_known known a && vars_known known b)
unfolding shape-the_row-Expr-0 hidden-the_row-Expr-0 hidden
known_in_two known o a b = refl

pub has_is_among : (name : List ℕ) (known : List (List ℕ)) → has name known ≡ is_among known name
has_is_among name [] = refl
has_is_among name (k ∷ ks) = ap (λ b. bytes_eq name k || b) (has_is_among name ks)

pub distinct_step : (names : List (List ℕ)) (i : ℕ) (name : List ℕ) (b : Bool) → i < length names → name ≡ get_or names i name → b ≡ is_among (drop (i + 1) names) name → distinct (drop i names) ≡ (not b && distinct (drop (i + 1) names))
distinct_step names i name b h e f =
    let d : drop i names ≡ name ∷ drop (i + 1) names =
    drop-cons names i name h ∙ ap (λ n. n ∷ drop (suc i) names) (sym e) ∙ ap (λ k. name ∷ drop k names) (sym (add-one i)) in
    ap distinct d
    ∙ ap (λ t. not t && distinct (drop (i + 1) names)) (has_is_among name (drop (i + 1) names) ∙ sym f)
