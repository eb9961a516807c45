use Rattle.std.proofs.Common.{◌∙◌, ap, sym, subst, List, ℕ, Some, Ok}
use Rattle.std.specs.Option.{option_copied}
use Rattle.boki_types.specs.declared.operation.Op.{Op}
use Rattle.boki_types.specs.declared.operation.Answer.TheVariants as a
use Rattle.boki_model.specs.Script as script
use Rattle.script_run.specs.Answering.{IsOfKind}
use Rattle.script_run.specs.Standing.{state_of, target_of}
use Rattle.script_run.proofs.Sets.{Entries, set_targets_is, answered_begin, answered_group}
use Rattle.script_run.proofs.answers.receive_values.Goals as goal

pub returns-in_ok-copy_names : goal.returns-in_ok-copy_names
returns-in_ok-copy_names c = λ lines.
    let t = state_of lines c.args.state.now in
    let vs = c.args.values.now in
    let line = option_copied c.args.line in
    let names = c.in-Begin.names in
    let long = subst (λ (op : Op). IsOfKind op (a.Values vs)) c.in-Begin.is c.requires in
    ap (λ (op : Op). script.apply_answer op (target_of line) (a.Values vs) t) c.in-Begin.is
    ∙ answered_begin names (target_of line) vs t long
    ∙ ap (λ (u : script.State). Some (Ok (record u { transaction = Some names }))) (set_targets_is line vs t)
    ∙ ap (λ (es : Entries). Some (Ok (record t { variables = es; transaction = Some names }))) (sym c.in_ok-set_several.ensures)
    ∙ ap (λ (ns : List (List ℕ)). Some (Ok (record t { variables = c.set_several.new.variables.items; transaction = Some ns }))) (sym c.in_ok-copy_names.ensures)

pub returns-in_default : goal.returns-in_default
returns-in_default c = λ lines.
    let t = state_of lines c.args.state.now in
    let vs = c.args.values.now in
    let line = option_copied c.args.line in
    answered_group c.args.operation.now (target_of line) vs t c.requires c.in_default.not-Begin
    ∙ ap (λ (u : script.State). Some (Ok u)) (set_targets_is line vs t)
    ∙ ap (λ (es : Entries). Some (Ok (record t { variables = es }))) (sym c.in_ok-set_several.ensures)
