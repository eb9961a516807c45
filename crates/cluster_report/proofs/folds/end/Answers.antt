use Rattle.std.proofs.Common.{◌≡◌, false, is_some, rules}
use Rattle.std.specs.Map.{lookup}
use Rattle.std.specs.BTreeMap.{is_at}
use Rattle.boki_model.specs.Maps.{key_order}
use Rattle.cluster_report.proofs.Entries.{first_result}
use Rattle.cluster_report.proofs.folds.end.Goals as goal

pub returns : goal.returns
returns c =
    let none : is_some (lookup (is_at (key_order c.args.path)) c.args.results.now.entries) ≡ false = search rules in
    first_result c.args.path c.args.outcome c.args.results.now.entries _ none c.in_ok-insert.ensures.entries
