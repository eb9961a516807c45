use Rattle.script_lang.proofs.StatementLemmas.{not_empty, group_read}
use Rattle.script_lang.specs.StatementForms.{make_group_stmt}
use Rattle.script_lang.proofs.statements.read_group.Goals as goal

pub returns-in-Some : goal.returns-in-Some
returns-in-Some c =
    let e = rw c.in-Some.is at c.in_ok-pairs.ensures in
    group_read (make_group_stmt c.args.form) c.args.tokens.now _ c.in-Some.pairs _ _ _ (not_empty _ _ c.if-is_empty.false c.is_empty.ensures) e c.at_most_eight_items.ensures c.group_stmt.ensures c.checked_at_end.ensures
