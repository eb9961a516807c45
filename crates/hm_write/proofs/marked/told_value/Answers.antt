use Rattle.std.proofs.Common.{◌≡◌, ◌∙◌, option_map, IfOk, ap, subst, rules}
use Rattle.std.specs.Option.{option_copied}
use Rattle.boki_machine.specs.Step.{fenced_value}
use Rattle.boki_types.specs.declared.store.Fenced.{Fenced}
use Rattle.obj_store.specs.Answers.{logged_parts}
use Rattle.store_laws.proofs.Told.{last_is_told}
use Rattle.hm_write.proofs.marked.told_value.Goals as goal

pub returns : goal.returns
returns c = λ m records kept told.
    let same : option_copied c.as_ref.result ≡ c.logged_of-logged.result = search rules in
    let parts = ap (option_map logged_parts) same ∙ c.logged_of-logged.ensures ∙ told in
    let known = last_is_told c.args.store.now m records c.args.key.now c.args.at.0 (option_copied c.as_ref.result) kept.stands kept.values parts in
    subst (λ (x : Fenced). IfOk c.copy_of.result (λ v. v ≡ fenced_value x)) (c.read_before.ensures.read m records kept.stands known) c.copy_of.ensures
