use Rattle.std.proofs.Common.{◌≡◌, ◌∙◌, [], ◌∷◌, option_map, ap, rules}
use Rattle.std.specs.Option.{option_copied}
use Rattle.boki_machine.specs.Step.{fenced_value}
use Rattle.obj_store.specs.Answers.{logged_parts}
use Rattle.store_laws.proofs.Told.{last_is_told}
use Rattle.hm_write.proofs.Stored.{fenced_values}
use Rattle.hm_write.proofs.marked.read_fenced.Goals as goal

pub returns-clause-ok : goal.returns-clause-ok
returns-clause-ok c = λ m records kept told.
    let same : option_copied c.as_ref.result ≡ c.logged_of-logged.result = search rules in
    let parts = ap (option_map logged_parts) same ∙ c.logged_of-logged.ensures ∙ told in
    let known = last_is_told c.args.store.now m records c.args.key.now c.args.at.0 (option_copied c.as_ref.result) kept.stands kept.values parts in
    let done = c.in_ok-found.ensures.ok m records kept.stands known in (
      c.value_of.ensures ∙ ap fenced_value done.0,
      record { stands = done.1; values = fenced_values m records kept.values (c.args.key.now ∷ []) c.args.at.0 },
    )
