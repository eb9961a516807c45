use Rattle.std.proofs.Common.{◌≡◌, ◌∙◌, Some, None, sym, ap, rules}
use Rattle.std.specs.Option.{option_copied, option_map_or}
use Rattle.lb_base.specs.declared.value.Value.TheVariants.{Nothing}
use Rattle.boki_model.specs.Maps.{get}
use Rattle.boki_txn.specs.declared.stored.StoredName.{StoredName}
use Rattle.boki_txn.proofs.stored.Names.value.Goals as goal

pub returns-in_ok-value-in-Some : goal.returns-in_ok-value-in-Some
returns-in_ok-value-in-Some c =
    let first : option_copied c.get.result ≡ get c.args.name.now c.self.inside.map.entries = search rules in
    let some : c.get.result ≡ Some c.in-Some.stored = search rules in
    let same : c.in_ok-value-in-Some.value ≡ c.in-Some.stored.now.value = search rules in
    same ∙ ap (λ o. option_map_or (λ (s : StoredName). s.value) o Nothing) (sym (ap option_copied some) ∙ first ∙ ap (get c.args.name.now) c.self.view_is)

pub returns-in-None : goal.returns-in-None
returns-in-None c =
    let first : option_copied c.get.result ≡ get c.args.name.now c.self.inside.map.entries = search rules in
    let none : c.get.result ≡ None = search rules in
    ap (λ o. option_map_or (λ (s : StoredName). s.value) o Nothing) (sym (ap option_copied none) ∙ first ∙ ap (get c.args.name.now) c.self.view_is)
