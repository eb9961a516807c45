use Rattle.std.proofs.Common.{sym, ap, ◌∙◌}
use Rattle.std.specs.Prelude.{◌&&◌}
use Rattle.script_lang.specs.Names.{names_in, vars_known}
use Rattle.script_lang.proofs.NameLemmas.{known_in_not, known_in_text, known_in_len, known_in_two}
use Rattle.script_lang.proofs.names.+are_vars_known.Goals as goal

pub returns-in-Not : goal.returns-in-Not
returns-in-Not t c =
    c.are_vars_known.ensures
    ∙ ap (vars_known (names_in c.args.known.now)) c.get.ensures
    ∙ sym (known_in_not (names_in c.args.known.now) c.in-Not.x)
    ∙ ap (vars_known (names_in c.args.known.now)) (sym c.in-Not.is)

pub returns-then-are_vars_known : goal.returns-then-are_vars_known
returns-then-are_vars_known t c =
    let known = names_in c.args.known.now in
    let first = sym c.if-are_vars_known.true ∙ c.are_vars_known-in-Two.ensures ∙ ap (vars_known known) c.get-in-Two.ensures in
    c.are_vars_known-then-are_vars_known.ensures
    ∙ ap (vars_known known) c.get-then-are_vars_known.ensures
    ∙ ap (λ b. b && vars_known known c.in-Two.y) first
    ∙ sym (known_in_two known c.in-Two.field-0 c.in-Two.x c.in-Two.y)
    ∙ ap (vars_known known) (sym c.in-Two.is)

pub returns-else-are_vars_known : goal.returns-else-are_vars_known
returns-else-are_vars_known t c =
    let known = names_in c.args.known.now in
    let first = sym c.if-are_vars_known.false ∙ c.are_vars_known-in-Two.ensures ∙ ap (vars_known known) c.get-in-Two.ensures in
    c.if-are_vars_known.false
    ∙ ap (λ b. b && vars_known known c.in-Two.y) first
    ∙ sym (known_in_two known c.in-Two.field-0 c.in-Two.x c.in-Two.y)
    ∙ ap (vars_known known) (sym c.in-Two.is)

pub returns-in-TextOf : goal.returns-in-TextOf
returns-in-TextOf t c =
    c.are_vars_known-in-TextOf.ensures
    ∙ ap (vars_known (names_in c.args.known.now)) c.get-in-TextOf.ensures
    ∙ sym (known_in_text (names_in c.args.known.now) c.in-TextOf.x)
    ∙ ap (vars_known (names_in c.args.known.now)) (sym c.in-TextOf.is)

pub returns-in-Len : goal.returns-in-Len
returns-in-Len t c =
    c.are_vars_known-in-Len.ensures
    ∙ ap (vars_known (names_in c.args.known.now)) c.get-in-Len.ensures
    ∙ sym (known_in_len (names_in c.args.known.now) c.in-Len.x)
    ∙ ap (vars_known (names_in c.args.known.now)) (sym c.in-Len.is)
