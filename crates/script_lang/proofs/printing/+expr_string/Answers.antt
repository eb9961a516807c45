use Rattle.std.proofs.Common.{◌≡◌, ◌+◌, ◌++◌, List, ℕ, IfOk, sym, ap, ◌∙◌, subst}
use Rattle.std.specs.Prelude.{codes, nat_lt}
use Rattle.std.specs.String.{string_bytes}
use Rattle.script_lang.specs.Expressions.{precedence, left_precedence}
use Rattle.script_lang.specs.Printed.{◌&◌, op_text, paren_text, expr_text}
use Rattle.script_lang.proofs.PrintLemmas.{not_text, two_text, text_of_text, len_text}
use Rattle.script_lang.proofs.printing.+expr_string.Goals as goal

pub returns-in_ok-format-in-Not : goal.returns-in_ok-format-in-Not
returns-in_ok-format-in-Not t c =
    let outer = c.args.outer in
    let x = c.in_ok-x-in-Not.ensures ∙ ap (expr_text 3) c.get.ensures in
    let eq =
    ap (paren_text (nat_lt 3 outer)) (c.in_ok-format-in-Not.ensures.ok ∙ ap (λ (l : List ℕ). codes "not " ++ l) x)
    ∙ sym (not_text outer c.in-Not.x)
    ∙ ap (expr_text outer) (sym c.in-Not.is) in
    let P : List ℕ → Type 0 = λ l. IfOk c.paren_if.result (λ s. string_bytes s ≡ l) in
    subst P eq c.paren_if.ensures

pub returns-in_ok-right-in-Two : goal.returns-in_ok-right-in-Two
returns-in_ok-right-in-Two t c =
    let outer = c.args.outer in let o = c.in-Two.op in
    let level = c.left_precedence_of.ensures ∙ ap left_precedence c.precedence_of-precedence.ensures in
    let left = c.in_ok-left-in-Two.ensures ∙ ap (expr_text c.left_precedence_of.result) c.get-in-Two.ensures ∙ ap (λ p. expr_text p c.in-Two.x) level in
    let right = c.in_ok-right-in-Two.ensures ∙ ap (expr_text (c.precedence_of-precedence.result + 1)) c.get-in-Two-2.ensures ∙ ap (λ p. expr_text (p + 1) c.in-Two.y) c.precedence_of-precedence.ensures in
    let eq =
    ap (λ (l : List ℕ). paren_text (nat_lt (precedence o) outer) (l & codes " " & op_text o & codes " " & string_bytes c.in_ok-right-in-Two.right)) left
    ∙ ap (λ (l : List ℕ). paren_text (nat_lt (precedence o) outer) (expr_text (left_precedence (precedence o)) c.in-Two.x & codes " " & op_text o & codes " " & l)) right
    ∙ sym (two_text outer o c.in-Two.x c.in-Two.y)
    ∙ ap (expr_text outer) (sym c.in-Two.is) in
    let P : List ℕ → Type 0 = λ l. IfOk c.two_text.result (λ s. string_bytes s ≡ l) in
    subst P eq c.two_text.ensures

pub returns-in_ok-format-in-TextOf : goal.returns-in_ok-format-in-TextOf
returns-in_ok-format-in-TextOf t c =
    let x = c.in_ok-x-in-TextOf.ensures ∙ ap (expr_text 0) c.get-in-TextOf.ensures in
    c.in_ok-format-in-TextOf.ensures.ok
    ∙ ap (λ (l : List ℕ). codes "text(" ++ (l ++ codes ")")) x
    ∙ sym (text_of_text c.args.outer c.in-TextOf.x)
    ∙ ap (expr_text c.args.outer) (sym c.in-TextOf.is)

pub returns-in_ok-format-in-Len : goal.returns-in_ok-format-in-Len
returns-in_ok-format-in-Len t c =
    let x = c.in_ok-x-in-Len.ensures ∙ ap (expr_text 0) c.get-in-Len.ensures in
    c.in_ok-format-in-Len.ensures.ok
    ∙ ap (λ (l : List ℕ). codes "len(" ++ (l ++ codes ")")) x
    ∙ sym (len_text c.args.outer c.in-Len.x)
    ∙ ap (expr_text c.args.outer) (sym c.in-Len.is)
