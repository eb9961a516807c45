use Rattle.std.proofs.Common.{◌≡◌, ⊎_elim, ◌∙◌, ◌++◌, Option, option_map, [], sym, ap, rules}
use Rattle.std.specs.Option.{option_copied}
use Rattle.std.proofs.lemmas.Result.{on_ok_weaker}
use Rattle.lb_base.specs.declared.value.Value.{Value}
use Rattle.boki_machine.specs.Reports.{add_value}
use Rattle.obj_store.specs.Answers.{fenced_of, logged_parts}
use Rattle.cluster_report.proofs.KeyValues.{found, value_read, nothing_told}
use Rattle.cluster_report.proofs.values.add_object.Goals as goal

pub returns-in-Found : goal.returns-in-Found
returns-in-Found c = on_ok_weaker c.push.result (λ pushed m records can last.
    let same : option_copied c.as_ref.result ≡ c.logged_of-logged.result = search rules in
    let parts = ap (option_map logged_parts) same ∙ c.logged_of-logged.ensures in
    let read = value_read c.args.last.0 c.args.key.now _ _ (option_copied c.as_ref.result) c.args.store.now _ c.as_str.ensures parts c.read_free.ensures.read m records can last in
    let is = sym (ap (λ r. found (fenced_of r)) c.in-Found.is) ∙ read in
    pushed ∙ ap (λ (o : Option Value). c.args.values.now ++ add_value c.args.key.now o []) is) c.push.ensures

pub returns-in-Missing : goal.returns-in-Missing
returns-in-Missing c = λ m records can last.
    let same : option_copied c.as_ref.result ≡ c.logged_of-logged.result = search rules in
    let parts = ap (option_map logged_parts) same ∙ c.logged_of-logged.ensures in
    let read = value_read c.args.last.0 c.args.key.now _ _ (option_copied c.as_ref.result) c.args.store.now _ c.as_str.ensures parts c.read_free.ensures.read m records can last in
    let none = ⊎_elim (λ is. ap (λ r. found (fenced_of r)) is) (λ is. ap (λ r. found (fenced_of r)) is) c.in-Missing.is in
    nothing_told c.args.key.now _ c.args.values.now (sym none ∙ read)
