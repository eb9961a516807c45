use Rattle.std.proofs.Common.{◌≡◌, ◌∙◌, sym, rules}
use Rattle.std.specs.Map.{lookup}
use Rattle.std.specs.BTreeMap.{is_at}
use Rattle.std.specs.Option.{option_copied}
use Rattle.boki_model.specs.Maps.{key_order}
use Rattle.cluster_report.proofs.Entries.{get_is}
use Rattle.cluster_report.proofs.OneTurn.{on_any, go_added}
use Rattle.cluster_report.proofs.turning.add_go.Goals as goal

pub returns-clause-turns : goal.returns-clause-turns
returns-clause-turns c =
    let found : option_copied c.get.result ≡ lookup (is_at (key_order c.args.path)) c.args.walk.now.ahead.entries = search rules in
    on_any c.pass.result _ (go_added c.args.store.now c.args.seq.0 c.args.path c.args.index c.args.own c.in_ok-n.n (option_copied c.get.result)
    c.args.walk.now.ahead.entries c.args.walk.now.turns.items c.push.new.self.items
    (found ∙ sym (get_is c.args.path c.args.walk.now.ahead.entries)) c.in_ok-push.ensures.items c.in_ok-n.ensures)
