use Rattle.std.proofs.Common.{◌≡◌, ◌∙◌, rules}
use Rattle.cluster_report.proofs.Parts.{report_told_on}
use Rattle.cluster_report.proofs.report.report_of.Goals as goal

pub returns : goal.returns
returns c =
    let slice : c.as_slice.result.now ≡ c.in_ok-keys.keys = search rules in
    report_told_on c.args.program.now.functions c.args.book.now c.args.store.now c.as_slice.result.now c.in_ok-folds.folds c.in_ok-turns.turns
    c.length.result c.with_turns.result c.length.ensures (λ m records stands. slice ∙ c.in_ok-keys.ensures m records stands)
    c.in_ok-folds.ensures c.in_ok-turns.ensures c.with_turns.ensures
