-- Statements with a list behind their word.
use Rattle.std.proofs.Common.{◌≡◌, ℕ, Bool, true, false, IsTrue, ◌↔◌, List, [], ◌∷◌, Option, Some, refl, ap, ◌∙◌}
use Rattle.boki_types.specs.declared.expr.Expr.{Expr}
use Rattle.boki_types.specs.declared.program.Stmt.{Stmt}
use Rattle.line_text.specs.declared.token.Token.{Token}
use Rattle.line_text.specs.declared.checked.Checked.{Checked}
use Rattle.line_text.specs.declared.lists.CommaList.{CommaList}
use Rattle.line_text.specs.Checks.{map_checked}
use Rattle.line_text.specs.Lists.{comma_list, up_to_eight}
use Rattle.script_lang.specs.Statements.{pair_at, assignment_at, make_commit, set_commit, group_stmt_of}
use Rattle.line_text.specs.Readers.{if_at_end, ◌>>=◌}

pub not_empty : (b : Bool) (ts : List Token) → b ≡ false → (IsTrue b ↔ (ts ≡ [])) → ts ≡ [] → ⊥
not_empty true ts e h k = absurd (cc)
not_empty false ts e h k = let f : false ≡ true = h.1 k in cc

pub commit_read : (name : Checked (List ℕ)) (ts rest : List Token) (xs : CommaList (Expr × Expr)) (result : Option (Checked Stmt)) (stmt : Checked Stmt) (writes : Checked (List (Expr × Expr))) → (ts ≡ [] → ⊥) → Some (xs, rest) ≡ comma_list pair_at ts → writes ≡ up_to_eight xs → stmt ≡ make_commit name writes → result ≡ if_at_end rest stmt → result ≡ set_commit name ts
commit_read name [] rest xs result stmt writes some e f g h = absurd (some refl)
commit_read name (t ∷ ts) rest xs result stmt writes some e f g h =
    h ∙ ap (if_at_end rest) (g ∙ ap (make_commit name) f)
    ∙ ap (λ o. o >>= λ w. if_at_end w.1 (make_commit name (up_to_eight w.0))) e

pub group_read : (make : List (List ℕ × Expr) → Stmt) (ts rest : List Token) (xs : CommaList (List ℕ × Expr)) (result : Option (Checked Stmt)) (stmt : Checked Stmt) (pairs : Checked (List (List ℕ × Expr))) → (ts ≡ [] → ⊥) → Some (xs, rest) ≡ comma_list assignment_at ts → pairs ≡ up_to_eight xs → stmt ≡ map_checked make pairs → result ≡ if_at_end rest stmt → result ≡ group_stmt_of make ts
group_read make [] rest xs result stmt pairs some e f g h = absurd (some refl)
group_read make (t ∷ ts) rest xs result stmt pairs some e f g h =
    h ∙ ap (if_at_end rest) (g ∙ ap (map_checked make) f)
    ∙ ap (λ o. o >>= λ w. if_at_end w.1 (map_checked make (up_to_eight w.0))) e
