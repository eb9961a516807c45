use Rattle.script_lang.proofs.StatementLemmas.{not_empty, commit_read}
use Rattle.script_lang.proofs.statements.read_commit.Goals as goal

pub returns-in-Some : goal.returns-in-Some
returns-in-Some c =
    let e = rw c.in-Some.is at c.in_ok-writes.ensures in
    commit_read c.args.name c.args.tokens.now _ c.in-Some.writes _ _ _ (not_empty _ _ c.if-is_empty.false c.is_empty.ensures) e c.at_most_eight_items.ensures c.commit_stmt-in-Some.ensures c.checked_at_end.ensures
