use Rattle.std.proofs.Common.{◌≡◌, ◌∙◌, ap, rules}
use Rattle.boki_model.specs.Maps.{key_order, put}
use Rattle.boki_txn.specs.Names.{stored_name}
use Rattle.boki_txn.proofs.Entries.{insert_is}
use Rattle.boki_txn.proofs.stored.Names.put.Goals as goal

pub returns : goal.returns
returns c =
    let same_key : c.in_ok-clone.field-0 ≡ c.args.name.now = search rules in
    let same : c.in_ok-value.value ≡ c.args.value.now = search rules in
    c.in_ok-insert.ensures.entries
    ∙ insert_is key_order c.in_ok-clone.field-0 (stored_name c.args.commit c.in_ok-value.value) c.self.inside.map.entries
    ∙ ap (λ k. put k (stored_name c.args.commit c.in_ok-value.value) c.self.inside.map.entries) same_key
    ∙ ap (λ v. put c.args.name.now (stored_name c.args.commit v) c.self.inside.map.entries) same
    ∙ ap (put c.args.name.now (stored_name c.args.commit c.args.value.now)) c.self.view_is
